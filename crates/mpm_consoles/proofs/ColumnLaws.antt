-- Laws of columns and tabs: texts one after another.
use Rattle.std.proofs.Common.{◌≡◌, ◌∙◌, ℕ, List, [], ◌∷◌, ◌++◌, refl, ap, sym, append_assoc, Bool, true, false, ◌==◌, ◌&&◌, if◌then◌else◌, ◌+◌, ◌*◌, ◌/◌, ◌<◌, ◌≤◌, zero, suc, min, take, replicate, arith}
use Rattle.std.proofs.lemmas.List.{take-replicate, append-nil}
use Rattle.mpm_base.specs.Tabs.{tab_width}
use Rattle.mpm_consoles.specs.Columns.{column_after, columns_after, spaces_for, tab_text, expanded}
use Rattle.mpm_consoles.specs.Consoles.{Consoles, console_at}
use Rattle.mpm_consoles.specs.Handling.{output_spaces}
use Rattle.mpm_base.specs.declared.unit.Unit.{Unit}
use Rattle.mpm_base.specs.declared.unit.Unit.TheVariants.{Console as ConsoleUnit, Printer as PrinterUnit}

pub columns_append : (column : ℕ) (a b : List ℕ) → columns_after column (a ++ b) ≡ columns_after (columns_after column a) b
unfolding columns_after
columns_append column [] b = refl
columns_append column (byte ∷ a) b = columns_append (column_after column byte) a b

pub columns_one : (column byte : ℕ) → columns_after column (byte ∷ []) ≡ column_after column byte
unfolding columns_after
columns_one column byte = refl

pub columns_nil : (column : ℕ) → columns_after column [] ≡ column
unfolding columns_after
columns_nil column = refl

pub expanded_nil : (column : ℕ) → expanded column [] ≡ []
unfolding expanded
expanded_nil column = refl

pub expanded_cons : (column byte : ℕ) (rest : List ℕ)
    → expanded column (byte ∷ rest) ≡ tab_text column byte ++ expanded (columns_after column (tab_text column byte)) rest
unfolding expanded
expanded_cons column byte rest = refl

pub expanded_append : (column : ℕ) (a b : List ℕ)
    → expanded column (a ++ b) ≡ expanded column a ++ expanded (columns_after column (expanded column a)) b
unfolding expanded columns_after
expanded_append column [] b = refl
expanded_append column (byte ∷ a) b =
    let t = tab_text column byte in
    let c = columns_after column t in
    ap (λ r. t ++ r) (expanded_append c a b)
    ∙ (sym (append_assoc t (expanded c a) (expanded (columns_after c (expanded c a)) b))
    ∙ ap (λ d. (t ++ expanded c a) ++ expanded d b) (sym (columns_append column t (expanded c a))))

-- the first of eight spaces
pub first_spaces : (n : ℕ) → n ≤ 8 → take {A = ℕ} n (32 ∷ 32 ∷ 32 ∷ 32 ∷ 32 ∷ 32 ∷ 32 ∷ 32 ∷ []) ≡ replicate {A = ℕ} n 32
first_spaces n h = take-replicate n 8 32 h

-- a text of one byte
pub expanded_byte : (column byte : ℕ) → expanded column (byte ∷ []) ≡ tab_text column byte
expanded_byte column byte =
    expanded_cons column byte []
    ∙ (ap (λ t. tab_text column byte ++ t) (expanded_nil (columns_after column (tab_text column byte))) ∙ append-nil (tab_text column byte))

-- spaces move the column, as far as it goes
pub columns_spaces : (n column : ℕ) → column ≤ 65535 → columns_after column (replicate n 32) ≡ min (column + n) 65535
unfolding columns_after column_after
columns_spaces zero column h = grind arith
columns_spaces (suc n) column h = columns_spaces n (min (column + 1) 65535) (omega arith) ∙ omega arith

-- a tab goes to the next column divisible by eight, as far as columns go
next_stop : (column : ℕ) → column + tab_width column ≡ 8 * (column / 8 + 1)
next_stop column = omega arith

pub tab_stop : (column : ℕ) → column ≤ 65535 → columns_after column (tab_text column 9) ≡ min (8 * (column / 8 + 1)) 65535
unfolding tab_text
tab_stop column few = columns_spaces (tab_width column) column few ∙ ap (λ n. min n 65535) (next_stop column)

-- how many spaces stand for a byte, and what it is written as then
pub spaces_most : (column byte : ℕ) (tabs : Bool) → spaces_for column byte tabs ≤ 8
unfolding spaces_for
spaces_most column byte tabs = by_test (tabs && byte == 9)
  where
    by_test : (b : Bool) → (if b then tab_width column else 0) ≤ 8
    by_test true = omega arith
    by_test false = omega arith

as_spaces : (b : Bool) (column byte spaces : ℕ) → spaces ≡ (if b then tab_width column else 0) → 0 < spaces
    → take {A = ℕ} spaces (32 ∷ 32 ∷ 32 ∷ 32 ∷ 32 ∷ 32 ∷ 32 ∷ 32 ∷ []) ≡ (if b then replicate {A = ℕ} (tab_width column) 32 else (byte ∷ []))
as_spaces true column byte spaces e some = first_spaces spaces (omega arith) ∙ ap (λ n. replicate {A = ℕ} n 32) e
as_spaces false column byte spaces e some = absurd (omega arith)

as_itself : (b : Bool) (column byte spaces : ℕ) → spaces ≡ (if b then tab_width column else 0) → spaces ≡ 0
    → byte ∷ [] ≡ (if b then replicate {A = ℕ} (tab_width column) 32 else (byte ∷ []))
as_itself true column byte spaces e none = absurd (omega arith)
as_itself false column byte spaces e none = refl

pub tab_is_spaces : (column byte spaces : ℕ) → spaces ≡ spaces_for column byte true → 0 < spaces
    → take {A = ℕ} spaces (32 ∷ 32 ∷ 32 ∷ 32 ∷ 32 ∷ 32 ∷ 32 ∷ 32 ∷ []) ≡ tab_text column byte
unfolding spaces_for tab_text
tab_is_spaces column byte spaces e some = as_spaces (byte == 9) column byte spaces e some

pub tab_is_itself : (column byte spaces : ℕ) → spaces ≡ spaces_for column byte true → spaces ≡ 0
    → byte ∷ [] ≡ tab_text column byte
unfolding spaces_for tab_text
tab_is_itself column byte spaces e none = as_itself (byte == 9) column byte spaces e none

pub output_most : (t : Consoles) (unit : Unit) (byte : ℕ) (tabs : Bool) → output_spaces t unit byte tabs ≤ 8
unfolding output_spaces
output_most t (ConsoleUnit n) byte tabs = spaces_most (console_at t n).column byte tabs
output_most t (PrinterUnit n) byte tabs = omega arith
