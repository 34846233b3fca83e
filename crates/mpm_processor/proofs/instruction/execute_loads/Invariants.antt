use Rattle.std.proofs.Common.{Bool}
use Rattle.mpm_processor.specs.Moving.{Moves, view_of}
use Rattle.mpm_processor.proofs.instruction.execute_loads.Given as goal

abbrev pub invariant-loop-done : goal.invariant-loop-done
invariant-loop-done l = record {
  moved : (inside : Bool) → Moves inside l.done 0 (view_of l.spec l.initial.regs l.initial.segment l.initial.common l.initial.devices)
      (view_of l.spec l.regs l.segment l.common l.devices);
}
