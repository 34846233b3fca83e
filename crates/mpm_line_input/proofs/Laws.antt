-- What keys make of a line, and what is written for them.
use Rattle.std.proofs.Common.{◌≡◌, ◌≤◌, ◌<◌, ℕ, ◌-◌, List, [], ◌∷◌, ◌++◌, length, take, refl, ap, ◌∙◌, arith, ◌||◌, if◌then◌else◌}
use Rattle.std.proofs.Math.Seq.{take-append_seam}
use Rattle.std.proofs.lemmas.List.{length-append, length-take}
use Rattle.mpm_line_input.specs.Keys.{key_of, line_by, line_after}
use Rattle.mpm_line_input.specs.Lines.{so_far, echo_by, echo_of, is_end, is_full, ends_at, written_by, line_end}
use Rattle.mpm_line_input.specs.declared.line.LineKey.{LineKey}
use Rattle.mpm_line_input.specs.declared.line.LineKey.TheVariants.{End, Rubout, Cancel, Join}

joined : (line : List ℕ) (key : ℕ) → key_of key ≡ Join → line_after line key ≡ line ++ key ∷ []
unfolding line_after
joined line key joins = rw joins refl

taken_back : (line : List ℕ) (key : ℕ) → take (length (line ++ key ∷ []) - 1) (line ++ key ∷ []) ≡ line
taken_back line key =
    ap (λ n. take n (line ++ key ∷ [])) (omega (arith, length-append line (key ∷ []))) ∙ take-append_seam line (key ∷ [])

-- BS takes the last byte back
rubbed_out : (line : List ℕ) → line_after line 8 ≡ take (length line - 1) line
unfolding line_after key_of
rubbed_out line = refl

-- after a key that joined, BS restores the line
pub restored : (line : List ℕ) (key : ℕ) → key_of key ≡ Join → line_after (line_after line key) 8 ≡ line
restored line key joins = rw (joined line key joins) (rubbed_out (line ++ key ∷ []) ∙ taken_back line key)

-- a line that was emptied is as a new one
pub emptied : (line : List ℕ) (key : ℕ) → key_of key ≡ Cancel → line_after line key ≡ []
unfolding line_after
emptied line key cancels = rw cancels refl

-- a step writes at most three bytes, by the meaning of its key
few_by : (meaning : LineKey) (line : List ℕ) (greatest key : ℕ) → length line < greatest → length (echo_by meaning line key ++ (if is_end meaning || is_full (length (line_by meaning line key)) greatest then line_end else [])) ≤ 3
few_by End line greatest key h = grind arith
few_by Rubout line greatest key h = grind (arith, length-take (length line - 1) line)
few_by Cancel line greatest key h = grind arith
few_by Join line greatest key h = grind arith

pub few : (kept : List ℕ) (count greatest key : ℕ) → count < greatest → length (written_by (so_far kept count) greatest key) ≤ 3
unfolding line_after echo_of ends_at
few kept count greatest key h =
    few_by (key_of key) (so_far kept count) greatest key (grind (arith, length-take count kept))
