use Rattle.std.proofs.Common.{sym, subst, rules, arith}
use Rattle.std.proofs.lemmas.Grind.{common_steps}
use Rattle.mpm_service.specs.Disk.{DiskService}
use Rattle.mpm_kernel.specs.contracts.kernel.Kernel.{the_view}
use Rattle.mpm_kernel.specs.Kernel.{IsSoundKernel}
use Rattle.mpm_kernel.proofs.DiskLaws.{sound_in_turns}
use Rattle.mpm_kernel.proofs.kernel.Kernel.set_disk_turn.Goals as goal

pub returns : goal.returns
returns c =
    let before = the_view c.self.inside in
    let P : DiskService → Type 0 = λ disk. IsSoundKernel (record before { disk = disk }) in
    record {
      kernel = first_of (search rules, grind (arith, common_steps));
      sound = λ sound. subst P (sym c.new-self-inside.ensures.service) (sound_in_turns c.args.turn_steps before (subst IsSoundKernel (sym c.self.view_is) sound));
    }
