-- What becomes of a key.
use Rattle.std.proofs.Common.{◌≡◌, ◌⊎◌, inl, inr, ℕ, ◌+◌, ◌-◌, ◌^◌, Bool, true, false, [], ◌∷◌, ◌++◌, Option, Some, None, if◌then◌else◌, min, refl, sym, subst, arith}
use Rattle.std.proofs.lemmas.Bool.Decides.{nat_tests}
use Rattle.std.proofs.lemmas.List.{get_or-set_same}
use Rattle.mpm_base.proofs.Choices.{either}
use Rattle.mpm_consoles.specs.Console.{Console, new_console, passed_to, with_output_stopped, is_for, awakened, resumed, has_room, with_key, typed, IsProperConsole}
use Rattle.mpm_consoles.specs.Consoles.{Consoles, console_at, HasConsole, with_console, first_waiter, AreSoundConsoles}
use Rattle.mpm_consoles.specs.Keys.{control_of}
use Rattle.mpm_consoles.specs.Handling.{given, unlisted, pass_to, passed, passed_by_key, subject, key_by, keyed}
use Rattle.mpm_consoles.specs.Fates.{Stays, Stores, Loses, Fate, FateOf}
use Rattle.mpm_consoles.specs.declared.console.Awaited.{Awaited}
use Rattle.mpm_consoles.specs.declared.console.Awaited.TheVariants.{Key, Output}
use Rattle.mpm_consoles.specs.declared.keys.Control.{Control}
use Rattle.mpm_consoles.specs.declared.keys.Control.TheVariants.{Stop, Resume, Abort, Detach}
use Rattle.mpm_base.specs.declared.unit.Unit.TheVariants.{Console as ConsoleUnit}

-- a control character comes to a console that isn't raw
pub cooked : (raw : Bool) (byte : ℕ) (control : Control) → control_of raw byte ≡ Some control → raw ≡ false
unfolding control_of
cooked true byte control is = absurd (cc)
cooked false byte control is = refl

-- a console that is set is there
pub set_there : (t : Consoles) (n : ℕ) (console : Console) → HasConsole t n → console_at (with_console t n console) n ≡ console
set_there t n console has = get_or-set_same t.consoles n console new_console has

pub stays_itself : (console : Console) → Stays console console
stays_itself console = record { keys = refl; lost = refl }

pub stays_wake : (what : Awaited) (console : Console) → Stays console (awakened what console)
unfolding awakened
stays_wake what console = either (λ (c : Console). Stays console c) (is_for console.awaits what) _ _ (λ _. record { keys = refl; lost = refl }) (λ _. stays_itself console)

-- a key like others
fate_in : (b : Bool) (console : Console) (byte : ℕ) → IsProperConsole console → has_room console ≡ b → (now : Console) → Stays (if b then record console { keys = console.keys ++ byte ∷ [] } else (record console { lost = min (console.lost + 1) (2 ^ 64 - 1) })) now → Stores console now byte ⊎ Loses console now
fate_in true console byte proper room now stays = inl (record { room = grind (arith, nat_tests, room); keys = stays.keys; lost = stays.lost })
fate_in false console byte proper room now stays = inr (record { full = (let few = proper.keys in grind (arith, nat_tests, room)); keys = stays.keys; lost = stays.lost })

fate_typed : (console : Console) (byte : ℕ) → IsProperConsole console → Stores console (typed byte console) byte ⊎ Loses console (typed byte console)
unfolding typed with_key
fate_typed console byte proper = fate_in (has_room console) console byte proper refl _ (stays_wake Key (with_key byte console))

-- a console that passes on
stays_pass : (t : Consoles) (n : ℕ) (o : Option ℕ) → HasConsole t n → Stays (console_at t n) (console_at (pass_to o t (ConsoleUnit n)) n)
unfolding given unlisted passed_to
stays_pass t n None has = subst (Stays (console_at t n)) (sym (set_there t n (passed_to None (console_at t n)) has)) (record { keys = refl; lost = refl })
stays_pass t n (Some p) has = subst (Stays (console_at t n)) (sym (set_there (unlisted t p) n (passed_to (Some p) (console_at t n)) has)) (record { keys = refl; lost = refl })

stays_passed : (t : Consoles) (n : ℕ) (o : Option ℕ) → HasConsole t n → Stays (console_at t n) (console_at (passed_by_key o t n) n)
unfolding passed
stays_passed t n None has = stays_itself (console_at t n)
stays_passed t n (Some p) has = stays_pass t n (first_waiter t (ConsoleUnit n)) has

-- each key
fate_by : (o : Option Control) (t : Consoles) (n byte : ℕ) (resident : Bool) → AreSoundConsoles t → HasConsole t n → Fate o (console_at t n) (console_at (key_by o t n byte resident) n) byte
unfolding with_output_stopped resumed
fate_by None t n byte resident sound has =
    subst (λ (c : Console). Stores (console_at t n) c byte ⊎ Loses (console_at t n) c) (sym (set_there t n _ has)) (fate_typed (console_at t n) byte (sound.proper n))
fate_by (Some Stop) t n byte resident sound has = subst (Stays (console_at t n)) (sym (set_there t n _ has)) (record { keys = refl; lost = refl })
fate_by (Some Resume) t n byte resident sound has =
    let wake = stays_wake Output (record (console_at t n) { stopped = false }) in
    subst (Stays (console_at t n)) (sym (set_there t n _ has)) (record { keys = wake.keys; lost = wake.lost })
fate_by (Some Abort) t n byte resident sound has = stays_itself (console_at t n)
fate_by (Some Detach) t n byte resident sound has = stays_passed t n (subject resident (console_at t n).owner) has

pub fate_key : (t : Consoles) (n byte : ℕ) (resident : Bool) → AreSoundConsoles t → HasConsole t n → FateOf (console_at t n) (console_at (keyed t n byte resident) n) byte
unfolding keyed
fate_key t n byte resident sound has = fate_by (control_of (console_at t n).raw byte) t n byte resident sound has
