-- At how many places of the disk a process stands after each change of the service.
use Rattle.std.proofs.Common.{◌≡◌, ◌≢◌, ◌∙◌, ℕ, ◌+◌, ◌-◌, ◌<◌, ◌≤◌, ◌==◌, ◌||◌, ◌&&◌, Bool, true, false, not, cond, eqb, List, [], ◌∷◌, Option, Some, None, IfSome, option_map, refl, sym, ap, subst, arith}
use Rattle.std.proofs.lemmas.Bool.{eq-eqb, ne_eqb, eqb-true}
use Rattle.mpm_base.proofs.CountLaws.{one_if, one_if_true, one_if_false}
use Rattle.mpm_ready.specs.Order.{Member, put_in, without_slot, in_list, first_of}
use Rattle.mpm_ready.proofs.OrderLaws.{in_list_put_in, in_list_without_slot, without_slot_absent, without_slot_gone}
use Rattle.mpm_service.specs.declared.service.Served.{Served}
use Rattle.mpm_service.specs.declared.service.Turn.TheVariants.{Passing, Work}
use Rattle.mpm_service.specs.Disk.{DiskService, no_service, entered, served_process, waiting_after, served_after, turned, answer_by, turn_answer, with_turns, begun, after_step, step_answer, IsSoundService}
use Rattle.mpm_service.specs.Ahead.{passed_by, passed_on, unserved}
use Rattle.mpm_service.specs.Places.{is_call_of, at_disk, served_without, without_call}
use Rattle.mpm_service.proofs.SoundLaws.{sound_left}

-- nobody is at a disk that serves nobody
pub at_none : (turn_steps p : ℕ) → at_disk (no_service turn_steps) p ≡ 0
unfolding at_disk no_service in_list
at_none turn_steps p = refl

-- one more waits
pub at_entered : (service : DiskService) (p priority : ℕ) → at_disk (entered service p priority) p ≤ at_disk service p + 1
unfolding at_disk entered
at_entered service p priority = few (in_list p (put_in service.waiting (record { slot = p; priority = priority }))) (in_list p service.waiting) (is_call_of p service.served)
  where
    few : (a b c : Bool) → one_if a + one_if c ≤ one_if b + one_if c + 1
    few true b c = omega arith
    few false b c = omega arith

pub at_entered_other : (service : DiskService) (p q priority : ℕ) → q ≢ p → at_disk (entered service p priority) q ≡ at_disk service q
unfolding at_disk entered
at_entered_other service p q priority other =
    ap (λ b. one_if b + one_if (is_call_of q service.served))
    (in_list_put_in q service.waiting (record { slot = p; priority = priority })
    ∙ ap (λ b. b || in_list q service.waiting) (ne_eqb p q (λ same. other (sym same))))

-- who is nowhere at the disk may enter
none_of_two : (a b : Bool) → one_if a + one_if b ≡ 0 → (a ≡ false) × (b ≡ false)
none_of_two true b none = absurd (omega (arith, none))
none_of_two false true none = absurd (omega (arith, none))
none_of_two false false none = (refl, refl)

not_served : (served : Option Served) (p : ℕ) → is_call_of p served ≡ false → IfSome served (λ call. call.p ≢ p)
not_served None p not = tt
not_served (Some call) p not = λ same. true_and_false (call.p == p) (eq-eqb call.p p same) not
  where
    true_and_false : (b : Bool) → b ≡ true → b ≡ false → ⊥
    true_and_false true e f = absurd (cc)
    true_and_false false e f = absurd (cc)

pub waits_not : (service : DiskService) (p : ℕ) → at_disk service p ≡ 0 → in_list p service.waiting ≡ false
unfolding at_disk
waits_not service p none = (none_of_two (in_list p service.waiting) (is_call_of p service.served) none).0

pub served_not : (service : DiskService) (p : ℕ) → at_disk service p ≡ 0 → IfSome service.served (λ call. call.p ≢ p)
unfolding at_disk
served_not service p none = not_served service.served p (none_of_two (in_list p service.waiting) (is_call_of p service.served) none).1

-- a step of the disk: nobody comes to be at more places, and whose last turn ended is at one less
stepped : (b c : Bool) (call : Served) (q : ℕ)
    → one_if (is_call_of q (cond b (cond c None (Some (record call { left = call.left - 1; passed = 0 }))) (Some (record call { passed = call.passed + 1 })))) ≤ one_if (is_call_of q (Some call))
stepped true true call q = omega arith
stepped true false call q = omega arith
stepped false c call q = omega arith

starts : (p q : ℕ) (waiting : List Member) (b : Bool) → first_of waiting ≡ Some p → eqb p q ≡ b → one_if (in_list q (without_slot p waiting)) + one_if b ≡ one_if (in_list q waiting)
unfolding first_of in_list
starts p q [] b first same = absurd (cc)
starts p q (m ∷ ms) true first same =
    let here : in_list q (m ∷ ms) ≡ true = ap (λ k. eqb k q || in_list q ms) slot ∙ ap (λ x. x || in_list q ms) same in
    let none : in_list q (without_slot p (m ∷ ms)) ≡ false = subst (λ k. in_list k (without_slot p (m ∷ ms)) ≡ false) (eqb-true p q same) (without_slot_gone p (m ∷ ms)) in
    omega (arith, one_if_true _ here, one_if_false _ none)
  where
    slot : m.slot ≡ p
    slot = cc
starts p q (m ∷ ms) false first same =
    omega (arith, ap one_if (in_list_without_slot (m ∷ ms) p q ∙ ap (λ x. not x && in_list q (m ∷ ms)) same))

turn_by : (turn_steps q : ℕ) (waiting : List Member) (served : Option Served) (first : Option ℕ) → first_of waiting ≡ first
    → one_if (in_list q (waiting_after served first waiting)) + one_if (is_call_of q (served_after turn_steps served first)) ≤ one_if (in_list q waiting) + one_if (is_call_of q served)
unfolding after_step
turn_by turn_steps q waiting (Some call) first is = omega (arith, stepped (call.passed + 1 == turn_steps) (call.left == 1) call q)
turn_by turn_steps q waiting None None is = omega arith
turn_by turn_steps q waiting None (Some p) is = omega (arith, starts p q waiting (eqb p q) is refl)

pub at_turned : (service : DiskService) (q : ℕ) → at_disk (turned service) q ≤ at_disk service q
unfolding at_disk turned
at_turned service q = turn_by service.turn_steps q service.waiting service.served (first_of service.waiting) refl

-- whose last turn doesn't end stands at as many places of the disk as before
stepped_still : (b c : Bool) (call : Served) (q : ℕ) → (cond b (Work call.p c) Passing ≡ Work q true → ⊥)
    → one_if (is_call_of q (cond b (cond c None (Some (record call { left = call.left - 1; passed = 0 }))) (Some (record call { passed = call.passed + 1 })))) ≡ one_if (is_call_of q (Some call))
stepped_still true true call q last = sym (one_if_false (call.p == q) (ne_eqb call.p q (λ same. last (ap (λ p. Work p true) same))))
stepped_still true false call q last = refl
stepped_still false c call q last = refl

turn_still : (turn_steps q : ℕ) (waiting : List Member) (served : Option Served) (first : Option ℕ) → first_of waiting ≡ first → (answer_by turn_steps served first ≡ Work q true → ⊥)
    → one_if (in_list q (waiting_after served first waiting)) + one_if (is_call_of q (served_after turn_steps served first)) ≡ one_if (in_list q waiting) + one_if (is_call_of q served)
unfolding after_step step_answer
turn_still turn_steps q waiting (Some call) first is last =
    ap (λ n. one_if (in_list q waiting) + n) (stepped_still (call.passed + 1 == turn_steps) (call.left == 1) call q last)
turn_still turn_steps q waiting None None is last = refl
turn_still turn_steps q waiting None (Some p) is last = omega (arith, starts p q waiting (eqb p q) is refl)

pub at_turned_still : (service : DiskService) (q : ℕ) → (turn_answer service ≡ Work q true → ⊥) → at_disk (turned service) q ≡ at_disk service q
unfolding at_disk turned turn_answer
at_turned_still service q last = turn_still service.turn_steps q service.waiting service.served (first_of service.waiting) refl last

last_step : (b c : Bool) (call : Served) (p : ℕ) → cond b (Work call.p c) Passing ≡ Work p true
    → one_if (is_call_of p (cond b (cond c None (Some (record call { left = call.left - 1; passed = 0 }))) (Some (record call { passed = call.passed + 1 })))) + 1 ≡ one_if (is_call_of p (Some call))
last_step true true call p is =
    let same : call.p ≡ p = cc in
    sym (one_if_true (call.p == p) (eq-eqb call.p p same))
last_step true false call p is = absurd (cc)
last_step false c call p is = absurd (cc)

last_by : (turn_steps p : ℕ) (waiting : List Member) (served : Option Served) (first : Option ℕ) → answer_by turn_steps served first ≡ Work p true
    → one_if (in_list p (waiting_after served first waiting)) + one_if (is_call_of p (served_after turn_steps served first)) + 1 ≡ one_if (in_list p waiting) + one_if (is_call_of p served)
unfolding after_step step_answer
last_by turn_steps p waiting (Some call) first is = omega (arith, last_step (call.passed + 1 == turn_steps) (call.left == 1) call p is)
last_by turn_steps p waiting None None is = absurd (cc)
last_by turn_steps p waiting None (Some q) is = absurd (cc)

pub at_last : (service : DiskService) (p : ℕ) → turn_answer service ≡ Work p true → at_disk (turned service) p + 1 ≡ at_disk service p
unfolding at_disk turned turn_answer
at_last service p is = last_by service.turn_steps p service.waiting service.served (first_of service.waiting) is

-- whose call is in service stays so as it begins, and as steps of its turn pass
begun_call : (turns q : ℕ) (served : Option Served) → is_call_of q (option_map (with_turns turns) served) ≡ is_call_of q served
begun_call turns q None = refl
begun_call turns q (Some call) = refl

pub at_begun : (service : DiskService) (turns q : ℕ) → at_disk (begun service turns) q ≡ at_disk service q
unfolding at_disk begun
at_begun service turns q = ap (λ b. one_if (in_list q service.waiting) + one_if b) (begun_call turns q service.served)

passed_call : (n q : ℕ) (served : Option Served) → is_call_of q (option_map (passed_on n) served) ≡ is_call_of q served
passed_call n q None = refl
passed_call n q (Some call) = refl

pub at_passed : (service : DiskService) (n q : ℕ) → at_disk (passed_by n service) q ≡ at_disk service q
unfolding at_disk passed_by
at_passed service n q = ap (λ b. one_if (in_list q service.waiting) + one_if b) (passed_call n q service.served)

pub at_unserved : (service : DiskService) (q : ℕ) → at_disk (unserved service) q ≤ at_disk service q
unfolding at_disk unserved
at_unserved service q = omega arith

-- the service of the one whose call it was ends
own_call : (served : Option Served) (p : ℕ) → option_map (λ call. call.p) served ≡ Some p → is_call_of p served ≡ true
own_call None p is = absurd (cc)
own_call (Some call) p is = eq-eqb call.p p cc

pub at_unserved_own : (service : DiskService) (p : ℕ) → served_process service ≡ Some p → at_disk (unserved service) p + 1 ≡ at_disk service p
unfolding at_disk unserved served_process
at_unserved_own service p is = omega (arith, one_if_true _ (own_call service.served p is))

-- a process's call is dropped: it is nowhere at the disk, and the others are where they were
call_gone : (served : Option Served) (p : ℕ) → is_call_of p (served_without p served) ≡ false
call_gone None p = refl
call_gone (Some call) p = by_test (call.p == p) refl
  where
    by_test : (b : Bool) → (call.p == p) ≡ b → is_call_of p (cond b None (Some call)) ≡ false
    by_test true is = refl
    by_test false is = is

call_stays : (served : Option Served) (p q : ℕ) → q ≢ p → is_call_of q (served_without p served) ≡ is_call_of q served
call_stays None p q other = refl
call_stays (Some call) p q other = by_test (call.p == p) refl
  where
    by_test : (b : Bool) → (call.p == p) ≡ b → is_call_of q (cond b None (Some call)) ≡ (call.p == q)
    by_test true is = sym (ne_eqb call.p q (λ same. other (sym same ∙ eqb-true call.p p is)))
    by_test false is = refl

pub at_without : (service : DiskService) (p : ℕ) → at_disk (without_call service p) p ≡ 0
unfolding at_disk without_call
at_without service p = omega (arith, one_if_false _ (without_slot_gone p service.waiting), one_if_false _ (call_gone service.served p))

pub at_without_other : (service : DiskService) (p q : ℕ) → q ≢ p → at_disk (without_call service p) q ≡ at_disk service q
unfolding at_disk without_call
at_without_other service p q other =
    let waits = in_list_without_slot service.waiting p q ∙ ap (λ x. not x && in_list q service.waiting) (ne_eqb p q (λ same. other (sym same))) in
    omega (arith, ap one_if waits, ap one_if (call_stays service.served p q other))

-- who isn't served leaves the call in service as it is
pub served_stays_without : (served : Option Served) (p : ℕ) → is_call_of p served ≡ false → served_without p served ≡ served
served_stays_without None p not = refl
served_stays_without (Some call) p not = ap (λ b. cond b None (Some call)) not

-- and who is nowhere at the disk leaves it as it is
pub without_absent : (service : DiskService) (p : ℕ) → at_disk service p ≡ 0 → without_call service p ≡ service
unfolding at_disk without_call
without_absent service p none =
    let both = none_of_two (in_list p service.waiting) (is_call_of p service.served) none in
    ap (λ (ms : List Member). record service { waiting = ms; served = served_without p service.served }) (without_slot_absent service.waiting p both.0)
    ∙ ap (λ (o : Option Served). record service { served = o }) (served_stays_without service.served p both.1)

-- a service without a call is sound, and has begun as before
sound_by : (service : DiskService) (served : Option Served) (p : ℕ) → IsSoundService service → service.served ≡ served
    → IsSoundService (record service { served = served_without p served })
sound_by service None p sound is = record { apart = tt; within = tt; steps = sound.steps }
sound_by service (Some call) p sound is = by_test (call.p == p)
  where
    by_test : (b : Bool) → IsSoundService (record service { served = cond b None (Some call) })
    by_test true = record { apart = tt; within = tt; steps = sound.steps }
    by_test false = subst (λ (o : Option Served). IsSoundService (record service { served = o })) is sound

pub sound_without : (service : DiskService) (p : ℕ) (waiting : List Member) (served : Option Served) → IsSoundService service → waiting ≡ without_slot p service.waiting → served ≡ served_without p service.served
    → IsSoundService (record { turn_steps = service.turn_steps; waiting = waiting; served = served })
sound_without service p waiting served sound waits is =
    let left = sound_left service p waiting sound waits in
    let P : Option Served → Type 0 = λ o. IsSoundService (record { turn_steps = service.turn_steps; waiting = waiting; served = o }) in
    subst P (sym is) (sound_by (record { turn_steps = service.turn_steps; waiting = waiting; served = service.served }) service.served p left refl)

pub begun_without : (served : Option Served) (p : ℕ) → IfSome served (λ call. 0 < call.left) → IfSome (served_without p served) (λ call. 0 < call.left)
begun_without None p begun = tt
begun_without (Some call) p begun = by_test (call.p == p)
  where
    by_test : (b : Bool) → IfSome (cond b None (Some call)) (λ (now : Served). 0 < now.left)
    by_test true = tt
    by_test false = begun
