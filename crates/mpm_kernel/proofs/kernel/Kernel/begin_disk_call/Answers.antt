use Rattle.std.proofs.Common.{◌∙◌, sym, ap, subst}
use Rattle.mpm_service.specs.Disk.{DiskService, begun}
use Rattle.mpm_kernel.specs.contracts.kernel.Kernel.{the_view}
use Rattle.mpm_kernel.specs.Kernel.{IsSoundKernel}
use Rattle.mpm_kernel.specs.Disk.{with_disk}
use Rattle.mpm_kernel.proofs.DiskLaws.{sound_begun_call}
use Rattle.mpm_kernel.proofs.kernel.Kernel.begin_disk_call.Goals as goal

pub returns : goal.returns
returns c =
    let before = the_view c.self.inside in
    let Sound : DiskService → Type 0 = λ disk. IsSoundKernel (record before { disk = disk }) in
    let made = c.begin.ensures in
    record {
      kernel = ap (λ (disk : DiskService). record before { disk = disk }) made.service ∙ ap (with_disk (λ (disk : DiskService). begun disk c.args.turns)) c.self.view_is;
      sound = subst Sound (sym made.service) (sound_begun_call before c.args.turns (subst IsSoundKernel (sym c.self.view_is) c.requires.sound));
      begun = made.begun;
      turns = made.turns;
    }
