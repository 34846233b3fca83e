-- The record of a completed call, and the line that traces it.
use Rattle.std.specs.Prelude.{ℕ, List, [], ◌∷◌, ◌++◌, codes, decimal}
use Rattle.std.specs.List.{join_with_byte}
use Rattle.mpm_render.specs.Lines.{hex_byte, hex_word}

-- a completed call: the step in which it completed, the process that made it, its function's number, and the
-- registers as the reply left them
pub record Completion : Type 0 where
  pub step : ℕ
  pub process : ℕ
  pub function : ℕ
  pub a : ℕ
  pub bc : ℕ
  pub de : ℕ
  pub hl : ℕ

-- by its values, in the order of its line
abbrev pub completion : ℕ → ℕ → ℕ → ℕ → ℕ → ℕ → ℕ → Completion
completion step process function a bc de hl =
    record { step = step; process = process; function = function; a = a; bc = bc; de = de; hl = hl }

-- its line: a t and the seven values, parted by spaces
unfoldable pub trace_line : Completion → List ℕ
trace_line call =
    join_with_byte 32 (codes "t" ∷ decimal call.step ∷ decimal call.process ∷ decimal call.function
    ∷ hex_byte call.a ∷ hex_word call.bc ∷ hex_word call.de ∷ hex_word call.hl ∷ []) ++ (10 ∷ [])
