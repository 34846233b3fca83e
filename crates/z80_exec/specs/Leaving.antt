-- What an instruction leaves of the registers and of a bus.
use Rattle.std.specs.Prelude.{◌≡◌, Bool}
use Rattle.std.specs.Bool.{OnTrue, OnFalse}
use Rattle.z80_regs.specs.Outcome.{StepOutcome, LeavesBus}
use Rattle.z80_regs.specs.declared.bus.Bus.{Ghosts}
use Rattle.z80_regs.specs.declared.regs.Regs.{Regs}

-- the registers and the bus are as an outcome has them
pub record Leaves {B : Type 0} (of : Ghosts B) (outcome : StepOutcome) (regs : Regs) (old new : B) : Type 0 where
  pub registers : regs ≡ outcome.registers
  pub bus : LeavesBus of.wrote of.took outcome.actions old new

-- the same where it acts, as its result says; where it doesn't nothing changes
pub record LeavesWhere {B : Type 0} (of : Ghosts B) (acts : Bool) (outcome : StepOutcome) (result : Bool) (old_regs new_regs : Regs) (old new : B) : Type 0 where
  pub plain : result ≡ acts
  pub registers : OnTrue result (new_regs ≡ outcome.registers)
  pub bus : OnTrue result (LeavesBus of.wrote of.took outcome.actions old new)
  pub registers_stay : OnFalse result (new_regs ≡ old_regs)
  pub bus_stays : OnFalse result (new ≡ old)
