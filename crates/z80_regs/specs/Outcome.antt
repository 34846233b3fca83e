-- What an instruction does, and what that leaves on a bus.
use Rattle.std.specs.Prelude.{◌≡◌, ℕ, List, [], ◌∷◌}
use Rattle.z80_regs.specs.declared.regs.Regs.{Regs}

-- a change of the bus: a byte written to an address, or a port read
pub data Action : Type 0 where
  Write : ℕ → ℕ → Action
  Input : ℕ → Action

-- the new registers, and the changes of the bus in order
pub record StepOutcome : Type 0 where
  pub registers : Regs
  pub actions : List Action

-- what the actions leave of a bus, by its two relations: what a write leaves, and what an input leaves
unfoldable pub LeavesBus : {B : Type 0} → (B → ℕ → ℕ → B → Type 0) → (B → ℕ → B → Type 0) → List Action → B → B → Type 0
LeavesBus wrote took [] old new = new ≡ old
LeavesBus wrote took (Write address byte ∷ rest) old new =
    (middle : _) × wrote old address byte middle × LeavesBus wrote took rest middle new
LeavesBus wrote took (Input port ∷ rest) old new =
    (middle : _) × took old port middle × LeavesBus wrote took rest middle new
