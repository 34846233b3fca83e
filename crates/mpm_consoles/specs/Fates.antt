-- What becomes of keys: each is a control character, or it is stored, or it is counted as lost; and keys are taken in the order
-- in which they were typed.
use Rattle.std.specs.Prelude.{◌≡◌, ℕ, ◌+◌, ◌-◌, ◌^◌, ◌<◌, [], ◌∷◌, ◌++◌, Option, Some, None, ◌⊎◌, length, min}
use Rattle.mpm_consoles.specs.Console.{Console}
use Rattle.mpm_consoles.specs.Keys.{control_of}
use Rattle.mpm_consoles.specs.declared.console.TheConstants.{KEYS}
use Rattle.mpm_consoles.specs.declared.keys.Control.{Control}

-- a console before a key and after it
pub record Stays (before now : Console) : Type 0 where
  pub keys : now.keys ≡ before.keys
  pub lost : now.lost ≡ before.lost

pub record Stores (before now : Console) (byte : ℕ) : Type 0 where
  pub room : length before.keys < KEYS
  pub keys : now.keys ≡ before.keys ++ byte ∷ []
  pub lost : now.lost ≡ before.lost

pub record Loses (before now : Console) : Type 0 where
  pub full : length before.keys ≡ KEYS
  pub keys : now.keys ≡ before.keys
  pub lost : now.lost ≡ min (before.lost + 1) (2 ^ 64 - 1)

-- the fate of a key, as a control character or not
abbrev pub Fate : Option Control → Console → Console → ℕ → Type 0
Fate (Some control) before now byte = Stays before now
Fate None before now byte = Stores before now byte ⊎ Loses before now

abbrev pub FateOf : Console → Console → ℕ → Type 0
FateOf before now byte = Fate (control_of before.raw byte) before now byte
