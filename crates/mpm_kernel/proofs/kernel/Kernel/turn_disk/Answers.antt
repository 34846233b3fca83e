use Rattle.std.proofs.Common.{◌∙◌, sym, ap, subst}
use Rattle.mpm_service.specs.Disk.{DiskService, turned, turn_answer}
use Rattle.mpm_kernel.specs.contracts.kernel.Kernel.{the_view}
use Rattle.mpm_kernel.specs.Kernel.{Kernel, IsSoundKernel}
use Rattle.mpm_kernel.specs.Disk.{with_disk, IsOver}
use Rattle.mpm_kernel.proofs.DiskLaws.{sound_turned, over_turned}
use Rattle.mpm_kernel.proofs.kernel.Kernel.turn_disk.Goals as goal

pub returns : goal.returns
returns c =
    let before = the_view c.self.inside in
    let sound = subst IsSoundKernel (sym c.self.view_is) c.requires.sound in
    let Sound : DiskService → Type 0 = λ disk. IsSoundKernel (record before { disk = disk }) in
    let turns = c.turn.ensures in
    record {
      kernel = ap (λ (disk : DiskService). record before { disk = disk }) turns.service ∙ ap (with_disk turned) c.self.view_is;
      answer = turns.answer ∙ ap (λ (k : Kernel). turn_answer k.disk) c.self.view_is;
      sound = subst Sound (sym turns.service) (sound_turned before sound);
      after = turns.after;
      over = λ p is. (
          let Over : DiskService → Type 0 = λ disk. IsOver p (record before { disk = disk }) in
          subst Over (sym turns.service) (over_turned before p sound (sym turns.answer ∙ is))
          );
      last = turns.last;
    }
