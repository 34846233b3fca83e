-- Keys are kept in order, whatever calls there are.
use Rattle.std.proofs.Common.{◌≡◌, ◌≢◌, ◌∙◌, inl, inr, ℕ, ◌+◌, ◌-◌, ◌^◌, ◌≤◌, Bool, true, false, not, ◌||◌, List, [], ◌∷◌, ◌++◌, Option, Some, None, ◌==◌, if◌then◌else◌, min, length, drop, get_or, set, slice_get, refl, sym, ap, subst, arith}
use Rattle.std.proofs.lemmas.Bool.{cases_eq, eq-eqb, ne_eqb}
use Rattle.std.proofs.lemmas.List.{get_or-set_other, append-nil, length-set, length-map}
use Rattle.mpm_base.proofs.Choices.{either}
use Rattle.mpm_base.proofs.Lists.{joined}
use Rattle.mpm_consoles.specs.Console.{Console, new_console, is_owner, passed_to, with_raw, with_output_stopped, resumed, awaiting, without_wait_of, has_room, with_key, typed, first_key, without_first, spoken, written}
use Rattle.mpm_consoles.specs.Consoles.{Consoles, console_at, HasConsole, with_console, owner_of, owns, first_waiter, waits_for}
use Rattle.mpm_consoles.specs.Keys.{control_of}
use Rattle.mpm_consoles.specs.Handling.{given, unlisted, listed, attach_from, unit_attached, pass_to, passed, unit_detached, console_assigned, subject, passed_by_key, key_by, keyed, first_taken, raw_set, gate_wait_begun, put_out, units_without_waiter}
use Rattle.mpm_consoles.specs.Fates.{Stays}
use Rattle.mpm_consoles.specs.Runs.{stored, missed, as_list, OtherCall, Attaches, Detaches, Assigns, MakesRaw, Waits, Writes, Leaves, ConsoleOperation, Types, Takes, Makes, change_made, operation_made, Passage, no_passage, type_in, take_out, passage, ConservesKeys, operations_made, passages}
use Rattle.mpm_consoles.specs.declared.console.Awaited.TheVariants.{Key, Output}
use Rattle.mpm_consoles.specs.declared.keys.Control.{Control}
use Rattle.mpm_consoles.specs.declared.keys.Control.TheVariants.{Stop, Resume, Abort, Detach}
use Rattle.mpm_base.specs.declared.unit.Unit.{Unit}
use Rattle.mpm_base.specs.declared.unit.Unit.TheVariants.{Console as ConsoleUnit, Printer as PrinterUnit}
use Rattle.mpm_consoles.proofs.SoundLaws.{without_wait_at}
use Rattle.mpm_consoles.proofs.FateLaws.{set_there, stays_itself, stays_wake}

-- a console set to one with the same keys
set_stays : (t : Consoles) (n m : ℕ) (console : Console) → HasConsole t n → Stays (console_at t m) console → Stays (console_at t n) (console_at (with_console t m console) n)
set_stays t n m console has stays = elim (cases_eq n m) [
  | inl same ↦ subst (Stays (console_at t n)) (sym (ap (λ k. get_or (set t.consoles k console) n new_console) (sym same) ∙ set_there t n console has)) (subst (λ k. Stays (console_at t k) console) (sym same) stays)
  | inr apart ↦ subst (Stays (console_at t n)) (sym (get_or-set_other t.consoles m n console new_console apart)) (stays_itself (console_at t n))
]

stays_given : (t : Consoles) (n : ℕ) (unit : Unit) (owner : Option ℕ) → HasConsole t n → Stays (console_at t n) (console_at (given t unit owner) n)
unfolding given passed_to
stays_given t n (ConsoleUnit m) owner has = set_stays t n m _ has (record { keys = refl; lost = refl })
stays_given t n (PrinterUnit m) owner has = stays_itself (console_at t n)

stays_attached : (o : Option ℕ) (t : Consoles) (n p priority : ℕ) (unit : Unit) (wait : Bool) → HasConsole t n → Stays (console_at t n) (console_at (attach_from o t p priority unit wait) n)
unfolding listed
stays_attached None t n p priority unit wait has = stays_given t n unit (Some p) has
stays_attached (Some owner) t n p priority unit wait has = either (λ (new : Consoles). Stays (console_at t n) (console_at new n)) (owner == p || not wait) _ _ (λ _. stays_itself (console_at t n)) (λ _. stays_itself (console_at t n))

stays_passed : (o : Option ℕ) (t : Consoles) (n : ℕ) (unit : Unit) → HasConsole t n → Stays (console_at t n) (console_at (pass_to o t unit) n)
unfolding unlisted
stays_passed None t n unit has = stays_given t n unit None has
stays_passed (Some p) t n unit has = stays_given (unlisted t p) n unit (Some p) has

stays_called : (b : Bool) (t : Consoles) (n p : ℕ) (unit : Unit) (owner : Option ℕ) → HasConsole t n → Stays (console_at t n) (console_at (given (if b then unlisted t p else t) unit owner) n)
unfolding unlisted
stays_called true t n p unit owner has = stays_given (unlisted t p) n unit owner has
stays_called false t n p unit owner has = stays_given t n unit owner has

stays_without_wait : (t : Consoles) (n p : ℕ) → Stays (console_at t n) (without_wait_of p (console_at t n))
unfolding without_wait_of
stays_without_wait t n p =
    either (Stays (console_at t n)) (is_owner (console_at t n).owner p) _ _ (λ _. record { keys = refl; lost = refl }) (λ _. stays_itself (console_at t n))

stays_change : (t : Consoles) (n : ℕ) (change : OtherCall) → HasConsole t n → Stays (console_at t n) (console_at (change_made t change) n)
unfolding unit_attached unit_detached passed console_assigned raw_set with_raw gate_wait_begun awaiting put_out written spoken units_without_waiter unlisted
stays_change t n (Attaches p priority unit wait) has = stays_attached (owner_of t unit) t n p priority unit wait has
stays_change t n (Detaches p unit) has = either (λ (new : Consoles). Stays (console_at t n) (console_at new n)) (owns t p unit) _ _ (λ _. stays_passed (first_waiter t unit) t n unit has) (λ _. stays_itself (console_at t n))
stays_change t n (Assigns m to) has = either (λ (new : Consoles). Stays (console_at t n) (console_at new n)) (owns t to (ConsoleUnit m)) _ _ (λ _. stays_itself (console_at t n)) (λ _. stays_called (waits_for t to (ConsoleUnit m)) t n to (ConsoleUnit m) (Some to) has)
stays_change t n (MakesRaw m raw) has = set_stays t n m _ has (record { keys = refl; lost = refl })
stays_change t n (Waits m key) has = set_stays t n m _ has (record { keys = refl; lost = refl })
stays_change t n (Writes (ConsoleUnit m) byte tabs) has = set_stays t n m _ has (record { keys = refl; lost = refl })
stays_change t n (Writes (PrinterUnit m) byte tabs) has = stays_itself (console_at t n)
stays_change t n (Leaves p) has = subst (Stays (console_at t n)) (sym (without_wait_at t.consoles p n)) (stays_without_wait t n p)

-- a control character
stays_control : (control : Control) (t : Consoles) (n m byte : ℕ) (resident : Bool) → HasConsole t n → Stays (console_at t n) (console_at (key_by (Some control) t m byte resident) n)
unfolding with_output_stopped resumed passed
stays_control Stop t n m byte resident has = set_stays t n m _ has (record { keys = refl; lost = refl })
stays_control Resume t n m byte resident has =
    let wake = stays_wake Output (record (console_at t m) { stopped = false }) in
    set_stays t n m _ has (record { keys = wake.keys; lost = wake.lost })
stays_control Abort t n m byte resident has = stays_itself (console_at t n)
stays_control Detach t n m byte resident has = on_subject (subject resident (console_at t m).owner)
  where
    on_subject : (o : Option ℕ) → Stays (console_at t n) (console_at (passed_by_key o t m) n)
    on_subject None = stays_itself (console_at t n)
    on_subject (Some p) = stays_passed (first_waiter t (ConsoleUnit m)) t n (ConsoleUnit m) has

-- what stays is conserved
abbrev pub IsCounted : Console → Type 0
IsCounted console = console.lost ≤ 2 ^ 64 - 1

conserves_stays : (before now : Console) → IsCounted before → Stays before now → ConservesKeys before now no_passage
conserves_stays before now counted stays = record {
  keys = stays.keys ∙ sym (append-nil before.keys);
  lost = stays.lost ∙ omega arith;
}

-- a key like others
conserves_in : (b : Bool) (console : Console) (byte : ℕ) → IsCounted console → (now : Console) → Stays (if b then record console { keys = console.keys ++ byte ∷ [] } else (record console { lost = min (console.lost + 1) (2 ^ 64 - 1) })) now → ConservesKeys console now (record { out = []; into = stored None b byte; misses = missed None b })
conserves_in true console byte counted now stays = record { keys = stays.keys; lost = stays.lost ∙ omega arith }
conserves_in false console byte counted now stays = record { keys = stays.keys ∙ sym (append-nil console.keys); lost = stays.lost }

conserves_typed : (console : Console) (byte : ℕ) → IsCounted console → ConservesKeys console (typed byte console) (record { out = []; into = stored None (has_room console) byte; misses = missed None (has_room console) })
unfolding typed with_key
conserves_typed console byte counted = conserves_in (has_room console) console byte counted _ (stays_wake Key (with_key byte console))

conserves_by : (o : Option Control) (t : Consoles) (n byte : ℕ) (resident : Bool) → HasConsole t n → IsCounted (console_at t n) → ConservesKeys (console_at t n) (console_at (key_by o t n byte resident) n) (record { out = []; into = stored o (has_room (console_at t n)) byte; misses = missed o (has_room (console_at t n)) })
conserves_by None t n byte resident has counted =
    subst (λ (c : Console). ConservesKeys (console_at t n) c (record { out = []; into = stored None (has_room (console_at t n)) byte; misses = missed None (has_room (console_at t n)) })) (sym (set_there t n _ has)) (conserves_typed (console_at t n) byte counted)
conserves_by (Some control) t n byte resident has counted = conserves_stays _ _ counted (stays_control control t n n byte resident has)

stays_elsewhere : (o : Option Control) (t : Consoles) (n m byte : ℕ) (resident : Bool) → HasConsole t n → n ≢ m → Stays (console_at t n) (console_at (key_by o t m byte resident) n)
stays_elsewhere None t n m byte resident has apart = subst (Stays (console_at t n)) (sym (get_or-set_other t.consoles m n _ new_console apart)) (stays_itself (console_at t n))
stays_elsewhere (Some control) t n m byte resident has apart = stays_control control t n m byte resident has

-- the oldest key
first_out : (keys : List ℕ) → as_list (slice_get keys 0) ++ drop 1 keys ≡ keys ++ []
first_out [] = refl
first_out (key ∷ keys) = sym (append-nil (key ∷ keys))

pub in_order : (t : Consoles) (n : ℕ) → HasConsole t n → as_list (first_key (console_at t n)) ++ (console_at (first_taken t n) n).keys ≡ (console_at t n).keys
unfolding first_taken without_first
in_order t n has = ap (λ (c : Console). as_list (first_key (console_at t n)) ++ c.keys) (set_there t n _ has) ∙ first_out (console_at t n).keys ∙ append-nil (console_at t n).keys

conserves_take : (console : Console) → IsCounted console → ConservesKeys console (without_first console) (take_out console)
unfolding without_first
conserves_take console counted = record { keys = first_out console.keys; lost = omega arith }

-- each call
at_number : (P : Passage → Type 0) (n m : ℕ) (here : Passage) → (n ≡ m → P here) → (n ≢ m → P no_passage) → P (if n == m then here else no_passage)
at_number P n m here same apart = elim (cases_eq n m) [
  | inl is ↦ subst (λ (b : Bool). P (if b then here else no_passage)) (sym (eq-eqb n m is)) (same is)
  | inr is ↦ subst (λ (b : Bool). P (if b then here else no_passage)) (sym (ne_eqb n m is)) (apart is)
]

pub conserves_operation : (t : Consoles) (n : ℕ) (operation : ConsoleOperation) → HasConsole t n → IsCounted (console_at t n) → ConservesKeys (console_at t n) (console_at (operation_made t operation) n) (passage t n operation)
unfolding passage keyed first_taken
conserves_operation t n (Types m byte resident) has counted =
    at_number (ConservesKeys (console_at t n) (console_at (keyed t m byte resident) n)) n m (type_in (console_at t n) byte)
    (λ is. subst (λ k. ConservesKeys (console_at t n) (console_at (keyed t k byte resident) n) (type_in (console_at t n) byte)) is (conserves_by (control_of (console_at t n).raw byte) t n byte resident has counted))
    (λ is. conserves_stays _ _ counted (stays_elsewhere (control_of (console_at t m).raw byte) t n m byte resident has is))
conserves_operation t n (Takes m) has counted =
    at_number (ConservesKeys (console_at t n) (console_at (first_taken t m) n)) n m (take_out (console_at t n))
    (λ is. subst (λ k. ConservesKeys (console_at t n) (console_at (first_taken t k) n) (take_out (console_at t n))) is
    (subst (λ (c : Console). ConservesKeys (console_at t n) c (take_out (console_at t n))) (sym (set_there t n _ has)) (conserves_take (console_at t n) counted)))
    (λ is. conserves_stays _ _ counted (subst (Stays (console_at t n)) (sym (get_or-set_other t.consoles m n _ new_console is)) (stays_itself (console_at t n))))
conserves_operation t n (Makes change) has counted = conserves_stays _ _ counted (stays_change t n change has)

-- the units stay
abbrev pub Keeps : Consoles → Consoles → Type 0
Keeps t new = (length new.consoles ≡ length t.consoles) × (length new.printers ≡ length t.printers)

keeps_given : (t : Consoles) (unit : Unit) (owner : Option ℕ) → Keeps t (given t unit owner)
unfolding given
keeps_given t (ConsoleUnit n) owner = (length-set t.consoles n _, refl)
keeps_given t (PrinterUnit n) owner = (refl, length-set t.printers n owner)

keeps_console : (t : Consoles) (n : ℕ) (console : Console) → Keeps t (with_console t n console)
keeps_console t n console = (length-set t.consoles n console, refl)

keeps_itself : (t : Consoles) → Keeps t t
keeps_itself t = (refl, refl)

keeps_attached : (o : Option ℕ) (t : Consoles) (p priority : ℕ) (unit : Unit) (wait : Bool) → Keeps t (attach_from o t p priority unit wait)
unfolding listed
keeps_attached None t p priority unit wait = keeps_given t unit (Some p)
keeps_attached (Some owner) t p priority unit wait = either (Keeps t) (owner == p || not wait) _ _ (λ _. (refl, refl)) (λ _. (refl, refl))

keeps_passed : (o : Option ℕ) (t : Consoles) (unit : Unit) → Keeps t (pass_to o t unit)
unfolding unlisted
keeps_passed None t unit = keeps_given t unit None
keeps_passed (Some p) t unit = keeps_given (unlisted t p) unit (Some p)

keeps_called : (b : Bool) (t : Consoles) (p : ℕ) (unit : Unit) (owner : Option ℕ) → Keeps t (given (if b then unlisted t p else t) unit owner)
unfolding unlisted
keeps_called true t p unit owner = keeps_given (unlisted t p) unit owner
keeps_called false t p unit owner = keeps_given t unit owner

pub keeps_change : (t : Consoles) (change : OtherCall) → Keeps t (change_made t change)
unfolding unit_attached unit_detached passed console_assigned raw_set gate_wait_begun put_out units_without_waiter unlisted
keeps_change t (Attaches p priority unit wait) = keeps_attached (owner_of t unit) t p priority unit wait
keeps_change t (Detaches p unit) = either (Keeps t) (owns t p unit) _ _ (λ _. keeps_passed (first_waiter t unit) t unit) (λ _. keeps_itself t)
keeps_change t (Assigns m to) = either (Keeps t) (owns t to (ConsoleUnit m)) _ _ (λ _. keeps_itself t) (λ _. keeps_called (waits_for t to (ConsoleUnit m)) t to (ConsoleUnit m) (Some to))
keeps_change t (MakesRaw m raw) = keeps_console t m _
keeps_change t (Waits m key) = keeps_console t m _
keeps_change t (Writes (ConsoleUnit m) byte tabs) = keeps_console t m _
keeps_change t (Writes (PrinterUnit m) byte tabs) = keeps_itself t
keeps_change t (Leaves p) = (length-map t.consoles (without_wait_of p), refl)

keeps_key : (o : Option Control) (t : Consoles) (n byte : ℕ) (resident : Bool) → Keeps t (key_by o t n byte resident)
unfolding passed
keeps_key None t n byte resident = keeps_console t n _
keeps_key (Some Stop) t n byte resident = keeps_console t n _
keeps_key (Some Resume) t n byte resident = keeps_console t n _
keeps_key (Some Abort) t n byte resident = keeps_itself t
keeps_key (Some Detach) t n byte resident = on_subject (subject resident (console_at t n).owner)
  where
    on_subject : (o : Option ℕ) → Keeps t (passed_by_key o t n)
    on_subject None = keeps_itself t
    on_subject (Some p) = keeps_passed (first_waiter t (ConsoleUnit n)) t (ConsoleUnit n)

pub keeps_operation : (t : Consoles) (operation : ConsoleOperation) → Keeps t (operation_made t operation)
unfolding keyed first_taken
keeps_operation t (Types m byte resident) = keeps_key (control_of (console_at t m).raw byte) t m byte resident
keeps_operation t (Takes m) = keeps_console t m _
keeps_operation t (Makes change) = keeps_change t change

-- all calls

counted_on : (before misses most now rest last : ℕ) → now ≡ min (before + misses) most → last ≡ min (now + rest) most → last ≡ min (before + (misses + rest)) most
counted_on before misses most now rest last one all = omega arith

pub conserves_all : (t : Consoles) (n : ℕ) (operations : List ConsoleOperation) → HasConsole t n → IsCounted (console_at t n) → ConservesKeys (console_at t n) (console_at (operations_made t operations) n) (passages t n operations)
unfolding operations_made passages
conserves_all t n [] has counted = conserves_stays _ _ counted (stays_itself (console_at t n))
conserves_all t n (operation ∷ operations) has counted =
    let one = conserves_operation t n operation has counted in
    let kept = (keeps_operation t operation).0 in
    let all = conserves_all (operation_made t operation) n operations (omega (arith, has, kept)) (let lost = one.lost in omega arith) in
    record {
      keys = joined (passage t n operation).out _ _ (console_at t n).keys (passage t n operation).into _ _ one.keys all.keys;
      lost = counted_on (console_at t n).lost (passage t n operation).misses (2 ^ 64 - 1) _ _ _ one.lost all.lost;
    }
