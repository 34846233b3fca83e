-- What is so of the consoles and printers stays so after each call.
use Rattle.mpm_base.proofs.Choices.{either}
use Rattle.mpm_base.proofs.Lists.{all_at}
use Rattle.std.proofs.Common.{◌≡◌, ◌≢◌, ◌∙◌, inl, inr, ℕ, ◌+◌, ◌<◌, ◌≤◌, Bool, true, false, List, [], Option, Some, None, eqb, map, length, get_or, set, replicate, refl, sym, ap, subst, arith}
use Rattle.std.proofs.lemmas.Bool.{false≢true, cases_eq, eq-eqb, ne_eqb, and_right, or_from}
use Rattle.std.proofs.lemmas.List.{get_or-set_same, get_or-set_other, get_or_default, length-replicate, length-set, length-map}
use Rattle.std.proofs.Math.ListN.{get_or-map}
use Rattle.mpm_ready.specs.Order.{Member, in_list, without_slot, put_in}
use Rattle.mpm_ready.specs.Tables.{list_at, no_lists, inserted, removed}
use Rattle.mpm_ready.proofs.OrderLaws.{in_list_put_in, in_list_without_slot, without_slot_absent, first_none, without_slot_gone}
use Rattle.mpm_ready.proofs.TableLaws.{list_at_inserted, list_at_inserted_other, list_at_removed, table_removed, table_inserted, table_none, list_at_none, none_in_none}
use Rattle.mpm_consoles.specs.Console.{Console, new_console, is_owner, passed_to, with_raw, with_output_stopped, awaited_for, awaiting, without_wait_of, resumed, typed, without_first, spoken, written, IsProperConsole}
use Rattle.mpm_base.specs.Units.{place_of}
use Rattle.mpm_consoles.specs.Consoles.{Consoles, no_owners, console_at, HasConsole, HasUnit, owner_of, owns, waiters_of, first_waiter, waits_for, WaitsForNoUnit, with_console, MayWait, AreSoundConsoles}
use Rattle.mpm_consoles.specs.Handling.{given, unlisted, listed, called_off, first_taken, raw_set, gate_wait_begun, put_out, units_without_waiter}
use Rattle.mpm_base.specs.declared.unit.Unit.{Unit}
use Rattle.mpm_base.specs.declared.unit.Unit.TheVariants.{Console as ConsoleUnit, Printer as PrinterUnit}
use Rattle.mpm_consoles.proofs.ConsoleLaws.{owner_typed, owner_resumed, owner_without_wait, proper_new, proper_passed, proper_raw, proper_stop, proper_wait, proper_without_wait, proper_resumed, proper_typed, proper_taken, proper_written}

-- what is so of a value set at a number, and of each other one, is so of all
at_set : {X : Type 0} (P : ℕ → X → Type 0) (xs : List X) (n : ℕ) (x other : X) → n < length xs → P n x → ((k : ℕ) → P k (get_or xs k other)) → (k : ℕ) → P k (get_or (set xs n x) k other)
at_set P xs n x other below here each k = elim (cases_eq k n) [
  | inl same ↦ subst (λ j. P j (get_or (set xs n x) j other)) (sym same) (subst (P n) (sym (get_or-set_same xs n x other below)) here)
  | inr apart ↦ subst (P k) (sym (get_or-set_other xs n k x other apart)) (each k)
]

-- one console changed
pub sound_console : (t : Consoles) (n : ℕ) (console : Console) → AreSoundConsoles t → HasConsole t n → MayWait console.owner (list_at t.waiters n) → IsProperConsole console → AreSoundConsoles (with_console t n console)
sound_console t n console sound has waited proper = record {
  some = omega (arith, length-set t.consoles n console, sound.some);
  consoles = omega (arith, length-set t.consoles n console, sound.consoles);
  printers = sound.printers;
  table = sound.table;
  waited = λ unit there. by_unit unit there;
  proper = at_set (λ k c. IsProperConsole c) t.consoles n console new_console has proper sound.proper;
}
  where
    by_unit : (unit : Unit) → HasUnit (with_console t n console) unit → MayWait (owner_of (with_console t n console) unit) (waiters_of (with_console t n console) unit)
    by_unit (ConsoleUnit k) there = elim (cases_eq k n) [
      | inl same ↦ subst (λ j. MayWait (get_or (set t.consoles n console) j new_console).owner (list_at t.waiters j)) (sym same) (subst (λ (c : Console). MayWait c.owner (list_at t.waiters n)) (sym (get_or-set_same t.consoles n console new_console has)) waited)
      | inr apart ↦ subst (λ (c : Console). MayWait c.owner (list_at t.waiters k)) (sym (get_or-set_other t.consoles n k console new_console apart)) (sound.waited (ConsoleUnit k) (omega (arith, there, length-set t.consoles n console)))
    ]
    by_unit (PrinterUnit k) there = sound.waited (PrinterUnit k) there

-- one console changed, which keeps its owner
pub sound_kept : (t : Consoles) (n : ℕ) (console : Console) → AreSoundConsoles t → HasConsole t n → console.owner ≡ (console_at t n).owner → IsProperConsole console → AreSoundConsoles (with_console t n console)
sound_kept t n console sound has same proper =
    sound_console t n console sound has (subst (λ o. MayWait o (list_at t.waiters n)) (sym same) (sound.waited (ConsoleUnit n) has)) proper

-- the same as it is done, through a number and a lent console
pub sound_set : (t : Consoles) (n k : ℕ) (old new : Console) (f : Console → Console) → k ≡ n → old ≡ get_or t.consoles k old → new ≡ f old → HasConsole t n → AreSoundConsoles (with_console t n (f (console_at t n))) → AreSoundConsoles (record t { consoles = set t.consoles k new })
sound_set t n k old new f same there is has sound =
    let value : old ≡ console_at t n = there ∙ ap (λ j. get_or t.consoles j old) same ∙ get_or_default t.consoles n old new_console has in
    subst (λ j. AreSoundConsoles (record t { consoles = set t.consoles j new })) (sym same)
    (subst (λ (c : Console). AreSoundConsoles (record t { consoles = set t.consoles n c })) (sym (is ∙ ap f value)) sound)

pub sound_typed : (t : Consoles) (n byte : ℕ) → AreSoundConsoles t → HasConsole t n → AreSoundConsoles (with_console t n (typed byte (console_at t n)))
sound_typed t n byte sound has = sound_kept t n _ sound has (owner_typed byte (console_at t n)) (proper_typed byte _ (sound.proper n))

pub sound_stop : (t : Consoles) (n : ℕ) → AreSoundConsoles t → HasConsole t n → (console_at t n).raw ≡ false → AreSoundConsoles (with_console t n (with_output_stopped (console_at t n)))
unfolding with_output_stopped
sound_stop t n sound has cooked = sound_kept t n _ sound has refl (proper_stop _ (sound.proper n) cooked)

pub sound_resumed : (t : Consoles) (n : ℕ) → AreSoundConsoles t → HasConsole t n → AreSoundConsoles (with_console t n (resumed (console_at t n)))
sound_resumed t n sound has = sound_kept t n _ sound has (owner_resumed (console_at t n)) (proper_resumed _ (sound.proper n))

pub sound_take : (t : Consoles) (n : ℕ) → AreSoundConsoles t → HasConsole t n → AreSoundConsoles (first_taken t n)
unfolding first_taken without_first
sound_take t n sound has = sound_kept t n _ sound has refl (proper_taken _ (sound.proper n))

pub sound_raw : (t : Consoles) (n : ℕ) (raw : Bool) → AreSoundConsoles t → HasConsole t n → AreSoundConsoles (raw_set t n raw)
unfolding raw_set with_raw
sound_raw t n raw sound has = sound_kept t n _ sound has refl (proper_raw raw _ (sound.proper n))

pub sound_wait : (t : Consoles) (p n : ℕ) (key : Bool) → AreSoundConsoles t → HasConsole t n → owns t p (ConsoleUnit n) ≡ true → AreSoundConsoles (gate_wait_begun t n key)
unfolding gate_wait_begun awaiting
sound_wait t p n key sound has is = sound_kept t n _ sound has refl (proper_wait (awaited_for key) _ p (sound.proper n) is)

pub sound_output : (t : Consoles) (unit : Unit) (byte : ℕ) (tabs : Bool) → AreSoundConsoles t → HasUnit t unit → AreSoundConsoles (put_out t unit byte tabs)
unfolding put_out written spoken
sound_output t (ConsoleUnit n) byte tabs sound has = sound_kept t n _ sound has refl (proper_written byte tabs _ (sound.proper n))
sound_output t (PrinterUnit n) byte tabs sound has = sound

-- a unit comes to an owner
sound_printer : (t : Consoles) (n : ℕ) (owner : Option ℕ) → AreSoundConsoles t → n < length t.printers → MayWait owner (list_at t.waiters (8 + n)) → AreSoundConsoles (record t { printers = set t.printers n owner })
sound_printer t n owner sound has waited = record {
  some = sound.some;
  consoles = sound.consoles;
  printers = omega (arith, length-set t.printers n owner, sound.printers);
  table = sound.table;
  waited = λ unit there. by_unit unit there;
  proper = sound.proper;
}
  where
    new : Consoles
    new = record t { printers = set t.printers n owner }

    by_unit : (unit : Unit) → HasUnit new unit → MayWait (owner_of new unit) (waiters_of new unit)
    by_unit (ConsoleUnit k) there = sound.waited (ConsoleUnit k) there
    by_unit (PrinterUnit k) there = elim (cases_eq k n) [
      | inl same ↦ subst (λ j. MayWait (get_or (set t.printers n owner) j None) (list_at t.waiters (8 + j))) (sym same) (subst (λ (o : Option ℕ). MayWait o (list_at t.waiters (8 + n))) (sym (get_or-set_same t.printers n owner None has)) waited)
      | inr apart ↦ subst (λ (o : Option ℕ). MayWait o (list_at t.waiters (8 + k))) (sym (get_or-set_other t.printers n k owner None apart)) (sound.waited (PrinterUnit k) (omega (arith, there, length-set t.printers n owner)))
    ]

pub sound_given : (t : Consoles) (unit : Unit) (owner : Option ℕ) → AreSoundConsoles t → HasUnit t unit → MayWait owner (waiters_of t unit) → AreSoundConsoles (given t unit owner)
unfolding given passed_to
sound_given t (ConsoleUnit n) owner sound has waited = sound_console t n _ sound has waited (proper_passed owner _ (sound.proper n))
sound_given t (PrinterUnit n) owner sound has waited = sound_printer t n owner sound has waited

-- a process waits for no unit
for_fewer : (owner : Option ℕ) (ms : List Member) (p : ℕ) → MayWait owner ms → MayWait owner (without_slot p ms)
for_fewer owner ms p is = record {
  free = λ none. ap (without_slot p) (is.free none) ∙ none_out p;
  others = λ r owned. in_list_without_slot ms p r ∙ and_right _ _ (is.others r owned);
}
  where
    none_out : (p : ℕ) → without_slot p [] ≡ []
    none_out p = without_slot_absent [] p (none_in_none p)

pub sound_unlisted : (t : Consoles) (p : ℕ) → AreSoundConsoles t → AreSoundConsoles (unlisted t p)
unfolding unlisted
sound_unlisted t p sound = record {
  some = sound.some;
  consoles = sound.consoles;
  printers = sound.printers;
  table = table_removed t.waiters p sound.table;
  waited = λ unit there. subst (MayWait (owner_of t unit)) (sym (list_at_removed t.waiters p (place_of unit))) (for_fewer (owner_of t unit) (waiters_of t unit) p (sound.waited unit there));
  proper = sound.proper;
}

-- a process waits for a unit that another owns
units_apart : (t : Consoles) (a b : Unit) → AreSoundConsoles t → HasUnit t a → HasUnit t b → place_of a ≡ place_of b → a ≡ b
units_apart t (ConsoleUnit a) (ConsoleUnit b) sound here there same = ap (λ n. ConsoleUnit n) same
units_apart t (ConsoleUnit a) (PrinterUnit b) sound here there same = absurd (let few = sound.consoles in omega arith)
units_apart t (PrinterUnit a) (ConsoleUnit b) sound here there same = absurd (let few = sound.consoles in omega arith)
units_apart t (PrinterUnit a) (PrinterUnit b) sound here there same = ap (λ n. PrinterUnit n) (let equal : a ≡ b = omega arith in equal)

pub place_below : (t : Consoles) (unit : Unit) → AreSoundConsoles t → HasUnit t unit → place_of unit < 12
place_below t (ConsoleUnit n) sound has = let few = sound.consoles in omega arith
place_below t (PrinterUnit n) sound has = let few = sound.printers in omega arith

not_owner : (owner : Option ℕ) (p r : ℕ) → is_owner owner p ≡ false → owner ≡ Some r → eqb p r ≡ false
not_owner None p r apart is = absurd (cc)
not_owner (Some x) p r apart is = let same : x ≡ r = cc in subst (λ y. eqb p y ≡ false) same (swapped x p apart)
  where
    swapped : (a b : ℕ) → eqb a b ≡ false → eqb b a ≡ false
    swapped a b apart = ne_eqb b a (λ same. false≢true (sym apart ∙ eq-eqb a b (sym same)))

for_more : (owner : Option ℕ) (ms : List Member) (member : Member) → MayWait owner ms → owner ≢ None → is_owner owner member.slot ≡ false → MayWait owner (put_in ms member)
for_more owner ms member is some other = record {
  free = λ none. absurd (some none);
  others = λ r owned. in_list_put_in r ms member ∙ or_from _ _ (not_owner owner member.slot r other owned) (is.others r owned);
}

pub sound_listed : (t : Consoles) (p priority : ℕ) (unit : Unit) → AreSoundConsoles t → HasUnit t unit → p < 32 → WaitsForNoUnit t p → owner_of t unit ≢ None → owns t p unit ≡ false → AreSoundConsoles (listed t p priority unit)
unfolding listed
sound_listed t p priority unit sound has small nowhere some other = record {
  some = sound.some;
  consoles = sound.consoles;
  printers = sound.printers;
  table = table_inserted t.waiters (place_of unit) member sound.table (let low = place_below t unit sound has in omega arith) small nowhere;
  waited = λ u there. elim (cases_eq (place_of u) (place_of unit)) [
    | inl same ↦ subst (λ v. MayWait (owner_of t v) (list_at (inserted t.waiters (place_of unit) member) (place_of v))) (sym (units_apart t u unit sound there has same))
        (subst (MayWait (owner_of t unit)) (sym (list_at_inserted t.waiters (place_of unit) member (let low = place_below t unit sound has in let size = sound.table.size in omega arith))) (for_more (owner_of t unit) (waiters_of t unit) member (sound.waited unit has) some other))
    | inr apart ↦ subst (MayWait (owner_of t u)) (sym (list_at_inserted_other t.waiters (place_of unit) (place_of u) member apart)) (sound.waited u there)
  ];
  proper = sound.proper;
}
  where
    member : Member
    member = record { slot = p; priority = priority }

-- first_none waits, or the first waits no more
pub nobody_first : (t : Consoles) (unit : Unit) → first_waiter t unit ≡ None → MayWait None (waiters_of t unit)
nobody_first t unit none = record { free = λ _. first_none (waiters_of t unit) none; others = λ p is. absurd (cc) }

for_one : (p : ℕ) (ms : List Member) → in_list p ms ≡ false → MayWait (Some p) ms
for_one p ms absent = record {
  free = λ none. absurd (cc);
  others = λ r is. (let same : p ≡ r = cc in subst (λ x. in_list x ms ≡ false) same absent);
}

pub for_unlisted : (t : Consoles) (unit : Unit) (p : ℕ) → MayWait (Some p) (waiters_of (unlisted t p) unit)
unfolding unlisted
for_unlisted t unit p = for_one p _ (ap (in_list p) (list_at_removed t.waiters p (place_of unit)) ∙ without_slot_gone p (waiters_of t unit))

pub for_absent : (t : Consoles) (unit : Unit) (p : ℕ) → waits_for t p unit ≡ false → MayWait (Some p) (waiters_of t unit)
for_absent t unit p absent = for_one p (waiters_of t unit) absent

pub for_called_off : (t : Consoles) (unit : Unit) (p : ℕ) → MayWait (Some p) (waiters_of (called_off t p unit) unit)
for_called_off t unit p = either (λ (u : Consoles). MayWait (Some p) (waiters_of u unit)) (waits_for t p unit) _ _ (λ _. for_unlisted t unit p) (λ absent. for_absent t unit p absent)

pub for_free : (t : Consoles) (unit : Unit) (p : ℕ) → AreSoundConsoles t → HasUnit t unit → owner_of t unit ≡ None → MayWait (Some p) (waiters_of t unit)
for_free t unit p sound has none = for_one p (waiters_of t unit) (ap (in_list p) ((sound.waited unit has).free none) ∙ none_in_none p)

-- a process waits at no gate
without_wait_new : (p : ℕ) → without_wait_of p new_console ≡ new_console
unfolding without_wait_of new_console
without_wait_new p = refl

pub without_wait_at : (consoles : List Console) (p n : ℕ) → get_or (map (without_wait_of p) consoles) n new_console ≡ without_wait_of p (get_or consoles n new_console)
without_wait_at consoles p n = ap (get_or (map (without_wait_of p) consoles) n) (sym (without_wait_new p)) ∙ get_or-map (without_wait_of p) consoles n new_console

sound_at_rest : (t : Consoles) (p : ℕ) → AreSoundConsoles t → AreSoundConsoles (record t { consoles = map (without_wait_of p) t.consoles })
sound_at_rest t p sound = record {
  some = omega (arith, length-map t.consoles (without_wait_of p), sound.some);
  consoles = omega (arith, length-map t.consoles (without_wait_of p), sound.consoles);
  printers = sound.printers;
  table = sound.table;
  waited = λ unit there. by_unit unit there;
  proper = λ n. subst IsProperConsole (sym (without_wait_at t.consoles p n)) (proper_without_wait p _ (sound.proper n));
}
  where
    new : Consoles
    new = record t { consoles = map (without_wait_of p) t.consoles }

    by_unit : (unit : Unit) → HasUnit new unit → MayWait (owner_of new unit) (waiters_of new unit)
    by_unit (ConsoleUnit n) there =
        subst (λ (o : Option ℕ). MayWait o (list_at t.waiters n)) (sym (ap (λ (c : Console). c.owner) (without_wait_at t.consoles p n) ∙ owner_without_wait p (console_at t n)))
        (sound.waited (ConsoleUnit n) (omega (arith, there, length-map t.consoles (without_wait_of p))))
    by_unit (PrinterUnit n) there = sound.waited (PrinterUnit n) there

pub sound_units_without : (t : Consoles) (p : ℕ) → AreSoundConsoles t → AreSoundConsoles (units_without_waiter t p)
unfolding units_without_waiter unlisted
sound_units_without t p sound = sound_at_rest (unlisted t p) p (sound_unlisted t p sound)

-- the same as it is done, with all consoles lent
pub sound_leaving : (t : Consoles) (p : ℕ) (consoles : List Console) (waiters : List (List Member)) → AreSoundConsoles t → consoles ≡ map (without_wait_of p) t.consoles → waiters ≡ removed t.waiters p → AreSoundConsoles (record { consoles = consoles; printers = t.printers; waiters = waiters })
unfolding units_without_waiter unlisted
sound_leaving t p consoles waiters sound each fewer =
    subst (λ (xs : List Console). AreSoundConsoles (record { consoles = xs; printers = t.printers; waiters = waiters })) (sym each)
    (subst (λ (ws : List (List Member)). AreSoundConsoles (record { consoles = map (without_wait_of p) t.consoles; printers = t.printers; waiters = ws })) (sym fewer) (sound_units_without t p sound))

-- as it is at first
nobody_for : (owner : Option ℕ) → MayWait owner []
nobody_for owner = record { free = λ none. refl; others = λ p is. none_in_none p }

pub sound_none : (consoles printers : ℕ) → 1 ≤ consoles → consoles ≤ 8 → printers ≤ 4 → AreSoundConsoles (no_owners consoles printers)
unfolding no_owners
sound_none consoles printers some few more = record {
  some = omega (arith, length-replicate consoles new_console);
  consoles = omega (arith, length-replicate consoles new_console);
  printers = omega (arith, length-replicate {A = Option ℕ} printers None);
  table = table_none;
  waited = λ unit there. subst (MayWait (owner_of (no_owners consoles printers) unit)) (sym (list_at_none (place_of unit))) (nobody_for _);
  proper = λ n. subst IsProperConsole (sym (all_at consoles n new_console)) proper_new;
}

pub sound_new : (consoles : List Console) (printers : List (Option ℕ)) (waiters : List (List Member)) (n m : ℕ) → consoles ≡ replicate n new_console → printers ≡ replicate m None → waiters ≡ no_lists → 1 ≤ n → n ≤ 8 → m ≤ 4 → AreSoundConsoles (record { consoles = consoles; printers = printers; waiters = waiters })
unfolding no_owners
sound_new consoles printers waiters n m a b c some few more =
    let same : record { consoles = consoles; printers = printers; waiters = waiters } ≡ no_owners n m = ap (λ (xs : List Console). record { consoles = xs; printers = printers; waiters = waiters }) a ∙ ap (λ (xs : List (Option ℕ)). record { consoles = replicate n new_console; printers = xs; waiters = waiters }) b ∙ ap (λ (xs : List (List Member)). record { consoles = replicate n new_console; printers = replicate m None; waiters = xs }) c in
    subst AreSoundConsoles (sym same) (sound_none n m some few more)
