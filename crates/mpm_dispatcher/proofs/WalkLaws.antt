-- A walk over those of a list, in which each becomes ready in turn; and how many they are.
use Rattle.std.proofs.Common.{eqb-true, ◌≡◌, ◌∙◌, ℕ, ◌<◌, ◌≤◌, Bool, true, false, ◌||◌, ◌==◌, List, [], ◌∷◌, length, map, Some, None, inl, inr, refl, sym, ap, subst, arith}
use Rattle.std.specs.Prelude.{count_by}
use Rattle.std.specs.List.{AllByRecursion}
use Rattle.std.proofs.lemmas.Bool.{cases_eq}
use Rattle.std.proofs.lemmas.Option.{same_Some}
use Rattle.mpm_base.proofs.CountLaws.{count_cons, few_numbers, one_if, one_if_true, one_if_false, at_most_one}
use Rattle.mpm_ready.specs.Order.{Member, first_of, in_list, without_slot, IsOnce}
use Rattle.mpm_ready.specs.Tables.{list_at, list_of, removed, IsTable}
use Rattle.mpm_ready.proofs.OrderLaws.{without_slot_head, without_slot_absent, first_is_in, first_none}
use Rattle.mpm_ready.proofs.TableLaws.{list_at_inserted_other, list_at_removed, list_of_known}
use Rattle.mpm_procs.specs.Table.{lives, Lives, process_in}
use Rattle.mpm_dispatcher.specs.Dispatch.{ready, moved, slots_in}
use Rattle.mpm_dispatcher.specs.declared.dispatcher.Dispatcher.{Dispatcher}
use Rattle.mpm_dispatcher.proofs.ReadyLaws.{table_moved, list_moved_other}

-- the first of them is in the list, and the others are those who are left
first_polls : (ms : List Member) (p : ℕ) → first_of ms ≡ Some p → (rest : List Member) × ((m : Member) × ((ms ≡ m ∷ rest) × (m.slot ≡ p)))
unfolding first_of
first_polls [] p e = absurd (cc)
first_polls (m ∷ ms) p e = (ms, (m, (refl, same_Some m.slot p e)))

once_apart : (m : Member) (rest : List Member) → IsOnce (m ∷ rest) → in_list m.slot rest ≡ false
unfolding IsOnce
once_apart m rest once = once.0

left_polls : (ms rest : List Member) (m : Member) (p : ℕ) → ms ≡ m ∷ rest → m.slot ≡ p → IsOnce ms → without_slot p ms ≡ rest
left_polls ms rest m p is own once =
    let P : List Member → Type 0 = λ l. IsOnce l in
    let Q : ℕ → Type 0 = λ slot. without_slot slot (m ∷ rest) ≡ rest in
    let there : IsOnce (m ∷ rest) = subst P is once in
    ap (without_slot p) is ∙ subst Q own (without_slot_head m rest ∙ without_slot_absent rest m.slot (once_apart m rest there))

list_behind : (d : Dispatcher) (list p : ℕ) → 0 < list → list_at (moved ready p d).lists list ≡ without_slot p (list_at d.lists list)
list_behind d list p other =
    list_at_inserted_other (removed d.lists p) ready list (record { slot = p; priority = (process_in d.procs p).priority }) (omega (arith, other))
    ∙ list_at_removed d.lists p list

-- each of a list lives
abbrev pub AllLive : Dispatcher → ℕ → Type 0
AllLive d list = (p : ℕ) → list_of d.lists p ≡ Some list → Lives d.procs p

-- the first of a list other than the ready list becomes ready
pub record Walks (list p : ℕ) (d : Dispatcher) : Type 0 where
  pub lives : Lives d.procs p
  pub table : IsTable (moved ready p d).lists
  pub live : AllLive (moved ready p d) list
  pub rest : slots_in d.lists list ≡ p ∷ slots_in (moved ready p d).lists list

slot_below : (ms : List Member) (p : ℕ) → AllByRecursion (λ m. m.slot < 32) ms → first_of ms ≡ Some p → p < 32
unfolding first_of
slot_below [] p small e = absurd (cc)
slot_below (m ∷ ms) p small e = omega (arith, small.0, same_Some m.slot p e)

still_live : (d : Dispatcher) (list p q : ℕ) → IsTable d.lists → AllLive d list → 0 < list → p < 32 → Lives d.procs p
    → list_of (moved ready p d).lists q ≡ Some list → Lives d.procs q
still_live d list p q table live other below is there = elim (cases_eq q p) [
  | inl same ↦ ap (lives d.procs) same ∙ is
  | inr apart ↦ live q (sym (list_moved_other d.lists ready p (process_in d.procs p).priority q table (omega arith) below apart) ∙ there)
]

pub walks : (list p : ℕ) (d : Dispatcher) → IsTable d.lists → AllLive d list → 0 < list → first_of (list_at d.lists list) ≡ Some p → Walks list p d
walks list p d table live other e =
    let ms = list_at d.lists list in
    let first = first_polls ms p e in
    let rest = first.0 in
    let m = first.1.0 in
    let is : ms ≡ m ∷ rest = first.1.1.0 in
    let own : m.slot ≡ p = first.1.1.1 in
    let below = slot_below ms p (table.slots list) e in
    let is_alive = live p (list_of_known d.lists p list table (first_is_in ms p e)) in
    let slots : List Member → List ℕ = map (λ x. x.slot) in
    let left : list_at (moved ready p d).lists list ≡ rest =
    list_behind d list p other ∙ left_polls ms rest m p is own (table.once list) in
    record {
      lives = is_alive;
      table = table_moved d.lists ready p (process_in d.procs p).priority table (omega arith) below;
      live = λ q there. still_live d list p q table live other below is_alive there;
      rest = ap slots is ∙ ap (λ slot. slot ∷ slots rest) own ∙ ap (λ l. p ∷ slots l) (sym left);
    }

pub nobody_left : (list : ℕ) (d : Dispatcher) → first_of (list_at d.lists list) ≡ None → slots_in d.lists list ≡ []
nobody_left list d e = ap (map (λ m. m.slot)) (first_none (list_at d.lists list) e)

-- they are at most 32
once_step : (b : Bool) (m : Member) (ms : List Member) (q : ℕ) → (m.slot == q) ≡ b → in_list m.slot ms ≡ false
    → count_by (λ p. p == q) (map (λ x. x.slot) ms) ≡ one_if (in_list q ms) → count_by (λ p. p == q) (map (λ x. x.slot) (m ∷ ms)) ≡ one_if (b || in_list q ms)
once_step true m ms q e apart so_far =
    let absent : in_list q ms ≡ false = sym (ap (λ slot. in_list slot ms) (eqb-true m.slot q e)) ∙ apart in
    omega (arith, so_far, one_if_false _ absent, one_if_true _ e, count_cons (λ p. p == q) m.slot (map (λ x. x.slot) ms))
once_step false m ms q e apart so_far =
    omega (arith, so_far, one_if_false _ e, count_cons (λ p. p == q) m.slot (map (λ x. x.slot) ms))

once_counts : (ms : List Member) (q : ℕ) → IsOnce ms → count_by (λ p. p == q) (map (λ m. m.slot) ms) ≡ one_if (in_list q ms)
unfolding IsOnce in_list
once_counts [] q once = refl
once_counts (m ∷ ms) q once = once_step (m.slot == q) m ms q refl once.0 (once_counts ms q once.1)

-- a test counts once at most

in_list_if_counted : (b : Bool) → 0 < one_if b → b ≡ true
in_list_if_counted true some = refl
in_list_if_counted false some = absurd (omega (arith, some))

below_if : (b : Bool) (m : Member) (ms : List Member) (q : ℕ) → (m.slot == q) ≡ b → AllByRecursion (λ m. m.slot < 32) (m ∷ ms) → (b || in_list q ms) ≡ true
    → (in_list q ms ≡ true → q < 32) → q < 32
below_if true m ms q e small there behind = omega (arith, small.0, eqb-true m.slot q e)
below_if false m ms q e small there behind = behind there

member_below : (ms : List Member) (q : ℕ) → AllByRecursion (λ m. m.slot < 32) ms → in_list q ms ≡ true → q < 32
unfolding in_list
member_below [] q small there = absurd (cc)
member_below (m ∷ ms) q small there = below_if (m.slot == q) m ms q refl small there (member_below ms q small.1)

pub few_in : (lists : List (List Member)) (list : ℕ) → IsTable lists → length (slots_in lists list) ≤ 32
few_in lists list table =
    let ms = list_at lists list in
    let once = table.once list in
    few_numbers (map (λ m. m.slot) ms) 32 (λ q. omega (arith, once_counts ms q once, at_most_one (in_list q ms)))
    (λ q some. member_below ms q (table.slots list) (in_list_if_counted (in_list q ms) (omega (arith, once_counts ms q once, some))))
