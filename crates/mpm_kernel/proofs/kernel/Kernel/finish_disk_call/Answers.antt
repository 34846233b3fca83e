use Rattle.std.proofs.Common.{◌≡◌, ◌∙◌, Some, sym, ap, subst}
use Rattle.mpm_service.specs.Disk.{DiskService, served_process}
use Rattle.mpm_service.specs.Ahead.{turns_left, unserved}
use Rattle.mpm_kernel.specs.contracts.kernel.Kernel.{the_view}
use Rattle.mpm_kernel.specs.Kernel.{Kernel, IsSoundKernel}
use Rattle.mpm_kernel.specs.Disk.{with_disk, IsOver}
use Rattle.mpm_kernel.proofs.DiskLaws.{sound_unserved, over_unserved}
use Rattle.mpm_kernel.proofs.kernel.Kernel.finish_disk_call.Goals as goal

pub returns : goal.returns
returns c =
    let before = the_view c.self.inside in
    let sound = subst IsSoundKernel (sym c.self.view_is) c.requires.sound in
    let Sound : DiskService → Type 0 = λ disk. IsSoundKernel (record before { disk = disk }) in
    let done = c.finish.ensures in
    record {
      kernel = ap (λ (disk : DiskService). record before { disk = disk }) done.service ∙ ap (with_disk unserved) c.self.view_is;
      turns = done.turns ∙ ap (λ (k : Kernel). turns_left k.disk) c.self.view_is;
      sound = subst Sound (sym done.service) (sound_unserved before sound);
      begun = done.begun;
      over = λ p is. (
          let Over : DiskService → Type 0 = λ disk. IsOver p (record before { disk = disk }) in
          let Serves : Kernel → Type 0 = λ kernel. served_process kernel.disk ≡ Some p in
          subst Over (sym done.service) (over_unserved before p sound (subst Serves (sym c.self.view_is) is))
          );
    }
