use Rattle.std.proofs.Common.{◌≡◌, ◌<◌, ◌-◌, None}
use Rattle.z80_ext.specs.Instruction.{IsRareAt}
use Rattle.mpm_banks.specs.Memory.{byte_at}
use Rattle.mpm_banks.specs.Sides.{alone}
use Rattle.mpm_gate.specs.Gates.{gate_of}
use Rattle.mpm_processor.specs.Moving.{Moves, view_of}
use Rattle.mpm_processor.proofs.instruction.execute_from.Given as goal

abbrev pub invariant-loop-spec : goal.invariant-loop-spec
invariant-loop-spec l = record {
  moved : Moves l.inside l.done 0 (view_of l.spec l.initial.regs l.initial.segment l.initial.common l.initial.devices)
      (view_of l.spec l.regs l.segment l.common l.devices);
  below : l.done < l.most;
  gate : gate_of l.inside (alone l.spec l.segment l.common) 0 l.regs.pc ≡ None;
  rare : IsRareAt l.rare l.regs (byte_at (alone l.spec l.segment l.common) 0);
}

abbrev pub decreases-loop-spec : goal.decreases-loop-spec
decreases-loop-spec l = l.most - l.done
