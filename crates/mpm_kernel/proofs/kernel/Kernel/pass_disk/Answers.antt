use Rattle.std.proofs.Common.{◌≡◌, ◌∙◌, IfSome, sym, ap, subst}
use Rattle.mpm_service.specs.Disk.{DiskService, HasBegun}
use Rattle.mpm_service.specs.Ahead.{turned_by, passed_by}
use Rattle.mpm_kernel.specs.contracts.kernel.Kernel.{the_view}
use Rattle.mpm_kernel.specs.Kernel.{Kernel, IsSoundKernel}
use Rattle.mpm_kernel.specs.Disk.{with_disk}
use Rattle.mpm_kernel.proofs.DiskLaws.{sound_passed_by}
use Rattle.mpm_kernel.proofs.kernel.Kernel.pass_disk.Goals as goal

pub returns : goal.returns
returns c =
    let before = the_view c.self.inside in
    let steps = c.args.steps in
    let Sound : DiskService → Type 0 = λ disk. IsSoundKernel (record before { disk = disk }) in
    let made = c.pass.ensures in
    record {
      kernel = ap (λ (disk : DiskService). record before { disk = disk }) made.service ∙ ap (with_disk (passed_by steps)) c.self.view_is;
      turned = subst (λ (k : Kernel). IfSome k.disk.served (λ _. c.pass.new.self ≡ turned_by steps k.disk)) c.self.view_is made.turned;
      sound = subst Sound (sym made.service) (sound_passed_by before steps (subst IsSoundKernel (sym c.self.view_is) c.requires.sound));
      begun = subst (λ (k : Kernel). HasBegun k.disk → HasBegun c.pass.new.self) c.self.view_is made.begun;
    }
