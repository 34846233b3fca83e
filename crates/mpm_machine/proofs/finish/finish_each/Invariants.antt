use Rattle.std.proofs.Common.{◌≡◌, length}
use Rattle.mpm_system.specs.Whole.{IsWhole}
use Rattle.mpm_machine.specs.Finishing.{all_finished}
use Rattle.mpm_machine.proofs.FinishLaws.{AllHaveRoom}
use Rattle.mpm_machine.proofs.finish.finish_each.Given as goal

abbrev pub invariant-loop-p : goal.invariant-loop-p
invariant-loop-p l = record {
  so : all_finished l.initial.system ≡ all_finished l.system;
  whole : IsWhole l.system;
  room : AllHaveRoom l.system;
}

abbrev pub decreases-loop-p : goal.decreases-loop-p
decreases-loop-p l = length l.system.kernel.dispatcher.completed
