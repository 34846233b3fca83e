-- What is so of a console stays so after each call.
use Rattle.std.proofs.Common.{◌≡◌, ◌∙◌, ℕ, ◌+◌, ◌-◌, ◌^◌, ◌≤◌, Bool, true, false, List, [], ◌∷◌, ◌++◌, Option, Some, None, if◌then◌else◌, min, length, refl, sym, arith}
use Rattle.std.proofs.lemmas.Bool.{false≢true}
use Rattle.std.proofs.lemmas.Bool.Decides.{nat_tests}
use Rattle.std.proofs.lemmas.List.{length-append, length-drop}
use Rattle.mpm_base.proofs.Choices.{either}
use Rattle.mpm_consoles.specs.Columns.{column_after, columns_after, text_of}
use Rattle.mpm_consoles.specs.Console.{Console, new_console, is_owner, passed_to, with_raw, with_output_stopped, awaiting, is_for, woken, awakened, without_wait_of, resumed, has_room, with_key, typed, without_first, spoken, written, IsProperConsole}
use Rattle.mpm_consoles.specs.declared.console.Awaited.{Awaited}
use Rattle.mpm_consoles.specs.declared.console.Awaited.TheVariants.{Key, Output}

-- a key that is stored or lost leaves who waits
pub woken_key : (what : Awaited) (byte : ℕ) (console : Console) → woken what (with_key byte console) ≡ woken what console
unfolding woken with_key
woken_key what byte console =
    either (λ (c : Console). (if is_for c.awaits what then c.owner else None) ≡ (if is_for console.awaits what then console.owner else None)) (has_room console) _ _ (λ _. refl) (λ _. refl)

-- the owner stays
pub owner_key : (byte : ℕ) (console : Console) → (with_key byte console).owner ≡ console.owner
unfolding with_key
owner_key byte console = either (λ (c : Console). c.owner ≡ console.owner) (has_room console) _ _ (λ _. refl) (λ _. refl)

pub owner_wake : (what : Awaited) (console : Console) → (awakened what console).owner ≡ console.owner
unfolding awakened
owner_wake what console = either (λ (c : Console). c.owner ≡ console.owner) (is_for console.awaits what) _ _ (λ _. refl) (λ _. refl)

pub owner_typed : (byte : ℕ) (console : Console) → (typed byte console).owner ≡ console.owner
unfolding typed
owner_typed byte console = owner_wake Key (with_key byte console) ∙ owner_key byte console

pub owner_resumed : (console : Console) → (resumed console).owner ≡ console.owner
unfolding resumed
owner_resumed console = owner_wake Output (record console { stopped = false })

pub owner_without_wait : (p : ℕ) (console : Console) → (without_wait_of p console).owner ≡ console.owner
unfolding without_wait_of
owner_without_wait p console = either (λ (c : Console). c.owner ≡ console.owner) (is_owner console.owner p) _ _ (λ _. refl) (λ _. refl)

-- what is proper stays so
pub proper_new : IsProperConsole new_console
unfolding new_console
proper_new = record { keys = omega arith; lost = omega arith; column = omega arith; raw = λ raw. absurd (false≢true raw); gate = λ none. refl }

pub proper_passed : (owner : Option ℕ) (console : Console) → IsProperConsole console → IsProperConsole (passed_to owner console)
unfolding passed_to
proper_passed owner console proper = record { keys = proper.keys; lost = proper.lost; column = proper.column; raw = λ raw. refl; gate = λ none. refl }

raw_ends : (raw stopped : Bool) → raw ≡ true → (if raw then false else stopped) ≡ false
raw_ends true stopped is = refl
raw_ends false stopped is = absurd (false≢true is)

pub proper_raw : (raw : Bool) (console : Console) → IsProperConsole console → IsProperConsole (with_raw raw console)
unfolding with_raw
proper_raw raw console proper = record { keys = proper.keys; lost = proper.lost; column = proper.column; raw = raw_ends raw console.stopped; gate = proper.gate }

pub proper_stop : (console : Console) → IsProperConsole console → console.raw ≡ false → IsProperConsole (with_output_stopped console)
unfolding with_output_stopped
proper_stop console proper cooked = record { keys = proper.keys; lost = proper.lost; column = proper.column; raw = λ raw. absurd (false≢true (sym cooked ∙ raw)); gate = proper.gate }

owned : (owner : Option ℕ) (p : ℕ) → is_owner owner p ≡ true → owner ≡ None → ⊥
owned None p is none = false≢true is
owned (Some x) p is none = absurd (cc)

pub proper_wait : (what : Awaited) (console : Console) (p : ℕ) → IsProperConsole console → is_owner console.owner p ≡ true → IsProperConsole (awaiting what console)
unfolding awaiting
proper_wait what console p proper is = record { keys = proper.keys; lost = proper.lost; column = proper.column; raw = proper.raw; gate = λ none. absurd (owned console.owner p is none) }

at_rest : (console : Console) → IsProperConsole console → IsProperConsole (record console { awaits = None })
at_rest console proper = record { keys = proper.keys; lost = proper.lost; column = proper.column; raw = proper.raw; gate = λ none. refl }

pub proper_wake : (what : Awaited) (console : Console) → IsProperConsole console → IsProperConsole (awakened what console)
unfolding awakened
proper_wake what console proper = either IsProperConsole (is_for console.awaits what) _ _ (λ _. at_rest console proper) (λ _. proper)

pub proper_without_wait : (p : ℕ) (console : Console) → IsProperConsole console → IsProperConsole (without_wait_of p console)
unfolding without_wait_of
proper_without_wait p console proper = either IsProperConsole (is_owner console.owner p) _ _ (λ _. at_rest console proper) (λ _. proper)

pub proper_resumed : (console : Console) → IsProperConsole console → IsProperConsole (resumed console)
unfolding resumed
proper_resumed console proper =
    proper_wake Output (record console { stopped = false }) (record { keys = proper.keys; lost = proper.lost; column = proper.column; raw = λ raw. refl; gate = proper.gate })

more_keys : (console : Console) (byte : ℕ) → has_room console ≡ true → length (console.keys ++ byte ∷ []) ≤ 64
more_keys console byte room = let more = length-append console.keys (byte ∷ []) in grind (arith, nat_tests)

key_in : (b : Bool) (console : Console) (byte : ℕ) → IsProperConsole console → has_room console ≡ b → IsProperConsole (if b then record console { keys = console.keys ++ byte ∷ [] } else (record console { lost = min (console.lost + 1) (2 ^ 64 - 1) }))
key_in true console byte proper room = record { keys = more_keys console byte room; lost = proper.lost; column = proper.column; raw = proper.raw; gate = proper.gate }
key_in false console byte proper room = record { keys = proper.keys; lost = omega arith; column = proper.column; raw = proper.raw; gate = proper.gate }

pub proper_key : (byte : ℕ) (console : Console) → IsProperConsole console → IsProperConsole (with_key byte console)
unfolding with_key
proper_key byte console proper = key_in (has_room console) console byte proper refl

pub proper_typed : (byte : ℕ) (console : Console) → IsProperConsole console → IsProperConsole (typed byte console)
unfolding typed
proper_typed byte console proper = proper_wake Key (with_key byte console) (proper_key byte console proper)

pub proper_taken : (console : Console) → IsProperConsole console → IsProperConsole (without_first console)
unfolding without_first
proper_taken console proper = record { keys = (let fewer = length-drop 1 console.keys in let few = proper.keys in omega arith); lost = proper.lost; column = proper.column; raw = proper.raw; gate = proper.gate }

-- a column stays within its range
column_within : (column byte : ℕ) → column ≤ 65535 → column_after column byte ≤ 65535
unfolding column_after
column_within column byte few = grind (arith, nat_tests)

pub columns_within : (column : ℕ) (bytes : List ℕ) → column ≤ 65535 → columns_after column bytes ≤ 65535
unfolding columns_after
columns_within column [] few = few
columns_within column (byte ∷ bytes) few = columns_within (column_after column byte) bytes (column_within column byte few)

pub proper_written : (byte : ℕ) (tabs : Bool) (console : Console) → IsProperConsole console → IsProperConsole (written byte tabs console)
unfolding written spoken
proper_written byte tabs console proper = record { keys = proper.keys; lost = proper.lost; column = columns_within console.column (text_of console.column byte tabs) proper.column; raw = proper.raw; gate = proper.gate }
