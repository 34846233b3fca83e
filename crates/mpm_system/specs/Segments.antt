-- Memory segments are reserved and freed. (MP/M II Programmer's Guide, "Function 128: Absolute Memory Request", "Function 129:
-- Relocatable Memory Request", "Function 130: Memory Free".)
use Rattle.std.specs.Prelude.{ℕ, Bool, Option, Some, None, if◌then◌else◌}
use Rattle.mpm_base.specs.Calls.{Taken, Answer, answering, byte_in}
use Rattle.mpm_base.specs.declared.call.Outcome.TheVariants.{Done}
use Rattle.mpm_banks.specs.Memory.{Memory}
use Rattle.mpm_banks.specs.Allocations.{lowest_free, reserved, is_reserved, released}
use Rattle.mpm_kernel.specs.Calls.{failure_code}
use Rattle.mpm_gate.specs.Descriptors.{segment_descriptor}
use Rattle.mpm_system.specs.declared.system.System.{System}
use Rattle.mpm_system.specs.Calling.{Served}

-- the reply to a call that reserves a segment: the descriptor of the one that was found, where the call's parameter points
abbrev pub reserve_reply : Memory → Taken → Option ℕ → Answer
reserve_reply memory call None = answering failure_code
reserve_reply memory call (Some seg) = record (answering 0) { at = call.word; bytes = segment_descriptor memory seg }

-- a segment is reserved, of the base page that is given
unfoldable pub reserving : Option ℕ → Taken → ℕ → System → Served
reserving base call p system =
    let seg = lowest_free system.memory base (byte_in call 1) in
    record {
      system = record system { memory = reserved system.memory p seg };
      outcome = Done;
      reply = reserve_reply system.memory call seg;
    }

-- a reserved segment is freed, by its bank
unfoldable pub releasing : Taken → ℕ → System → Served
releasing call p system =
    let seg = byte_in call 3 in
    record {
      system = record system { memory = released system.memory p seg };
      outcome = Done;
      reply = answering (if is_reserved system.memory p seg then 0 else failure_code);
    }

-- the base page that a call asks for: function 128 one of its own, 129 any
abbrev pub base_asked : Bool → Taken → Option ℕ
base_asked absolute call = if absolute then Some (byte_in call 0) else None
