-- Disk service stays sound.
use Rattle.std.proofs.Common.{◌≡◌, ◌≢◌, ℕ, ◌+◌, ◌-◌, ◌<◌, ◌==◌, ◌||◌, Bool, true, false, not, cond, eqb, List, [], ◌∷◌, Option, Some, None, IfSome, refl, sym, ap, subst, ◌∙◌, arith}
use Rattle.std.specs.List.{AllByRecursion}
use Rattle.std.proofs.lemmas.Bool.{ne_eqb, and_right}
use Rattle.std.proofs.lemmas.Bool.Decides.{nat_tests}
use Rattle.mpm_ready.specs.Order.{Member, put_in, without_slot, in_list, first_of}
use Rattle.mpm_ready.proofs.OrderLaws.{in_list_put_in, all_put_in, in_list_without_slot, all_without_slot, without_slot_absent, without_slot_gone}
use Rattle.mpm_service.specs.declared.service.Served.{Served}
use Rattle.mpm_service.specs.declared.service.Turn.{Turn}
use Rattle.mpm_service.specs.declared.service.Turn.TheVariants.{Idle, Passing, Work, Starts}
use Rattle.mpm_service.specs.Disk.{DiskService, left_by, starting, after_step, step_answer, HasBegun, IsAfter, IsSoundService, LeavesDisk}

absent_with : (served : Option Served) (waiting : List Member) (p priority : ℕ) → IfSome served (λ call. call.p ≢ p) → IfSome served (λ call. in_list call.p waiting ≡ false)
    → IfSome served (λ call. in_list call.p (put_in waiting (record { slot = p; priority = priority })) ≡ false)
absent_with None waiting p priority other absent = tt
absent_with (Some call) waiting p priority other absent =
    in_list_put_in call.p waiting (record { slot = p; priority = priority })
    ∙ ap (λ b. b || in_list call.p waiting) (ne_eqb p call.p (λ same. other (sym same))) ∙ absent

pub sound_entered : (service : DiskService) (p priority : ℕ) (waiting : List Member) → IsSoundService service → 0 < service.turn_steps → IfSome service.served (λ call. call.p ≢ p)
    → waiting ≡ put_in service.waiting (record { slot = p; priority = priority })
    → IsSoundService (record { turn_steps = service.turn_steps; waiting = waiting; served = service.served })
sound_entered service p priority waiting sound some other is =
    let P : List Member → Type 0 = λ ms. IsSoundService (record { turn_steps = service.turn_steps; waiting = ms; served = service.served }) in
    subst P (sym is) (record {
      apart = absent_with service.served service.waiting p priority other sound.apart;
      within = sound.within;
      steps = all_put_in (λ m. 0 < service.turn_steps) service.waiting (record { slot = p; priority = priority }) sound.steps some;
    })

absent_without : (served : Option Served) (waiting : List Member) (p : ℕ) → IfSome served (λ call. in_list call.p waiting ≡ false)
    → IfSome served (λ call. in_list call.p (without_slot p waiting) ≡ false)
absent_without None waiting p absent = tt
absent_without (Some call) waiting p absent = in_list_without_slot waiting p call.p ∙ and_right (not (eqb p call.p)) _ absent

pub sound_left : (service : DiskService) (p : ℕ) (waiting : List Member) → IsSoundService service → waiting ≡ without_slot p service.waiting
    → IsSoundService (record { turn_steps = service.turn_steps; waiting = waiting; served = service.served })
sound_left service p waiting sound is =
    let P : List Member → Type 0 = λ ms. IsSoundService (record { turn_steps = service.turn_steps; waiting = ms; served = service.served }) in
    subst P (sym is) (record {
      apart = absent_without service.served service.waiting p sound.apart;
      within = sound.within;
      steps = all_without_slot (λ m. 0 < service.turn_steps) service.waiting p sound.steps;
    })

-- who waits first has a turn of some steps
some_steps : (turn_steps p : ℕ) (waiting : List Member) → first_of waiting ≡ Some p → AllByRecursion (λ m. 0 < turn_steps) waiting → 0 < turn_steps
unfolding first_of
some_steps turn_steps p [] first all = absurd (cc)
some_steps turn_steps p (m ∷ ms) first all = all.0

pub sound_starting : (service : DiskService) (p : ℕ) (waiting : List Member) → IsSoundService service → first_of service.waiting ≡ Some p → waiting ≡ without_slot p service.waiting
    → IsSoundService (record { turn_steps = service.turn_steps; waiting = waiting; served = Some (starting p) })
sound_starting service p waiting sound first is =
    let P : List Member → Type 0 = λ ms. IsSoundService (record { turn_steps = service.turn_steps; waiting = ms; served = Some (starting p) }) in
    subst P (sym is) (record {
      apart = without_slot_gone p service.waiting;
      within = some_steps service.turn_steps p service.waiting first sound.steps;
      steps = all_without_slot (λ m. 0 < service.turn_steps) service.waiting p sound.steps;
    })

-- who doesn't wait doesn't leave
nothing_left : (service : DiskService) (p : ℕ) → in_list p service.waiting ≡ false → left_by service p ≡ service
unfolding left_by
nothing_left service p absent = ap (λ (ms : List Member). record service { waiting = ms }) (without_slot_absent service.waiting p absent)

served_stays : (service : DiskService) (p : ℕ) → IsSoundService service → IfSome service.served (λ call. call.p ≡ p → in_list p service.waiting ≡ false)
served_stays service p sound = by_case service.served service.waiting p sound.apart
  where
    by_case : (served : Option Served) (waiting : List Member) (p : ℕ) → IfSome served (λ call. in_list call.p waiting ≡ false) → IfSome served (λ call. call.p ≡ p → in_list p waiting ≡ false)
    by_case None waiting p absent = tt
    by_case (Some call) waiting p absent = λ same. subst (λ (k : ℕ). in_list k waiting ≡ false) same absent

-- a call that waits is dropped
pub leaves_left : (p : ℕ) (service : DiskService) → IsSoundService service → LeavesDisk p service (left_by service p) (in_list p service.waiting)
unfolding left_by
leaves_left p service sound = record {
  service = refl;
  answer = refl;
  gone = without_slot_gone p service.waiting;
  nothing = λ absent. nothing_left service p absent;
  served = served_stays service p sound;
  same = refl;
  steps = refl;
  begun = λ begun. begun;
}

-- a call after a step is the same process's, and within its turn
of_same : (b c : Bool) (turn_steps : ℕ) (waiting : List Member) (call : Served) → in_list call.p waiting ≡ false → 0 < turn_steps → (b ≡ false → call.passed + 1 < turn_steps)
    → let now : Option Served = cond b (cond c None (Some (record call { left = call.left - 1; passed = 0 }))) (Some (record call { passed = call.passed + 1 })) in
    IfSome now (λ call. in_list call.p waiting ≡ false) × IfSome now (λ call. call.passed < turn_steps)
of_same true true turn_steps waiting call absent some within = (tt, tt)
of_same true false turn_steps waiting call absent some within = (absent, some)
of_same false c turn_steps waiting call absent some within = (absent, within refl)

pub sound_stepped : (service : DiskService) (call : Served) (served : Option Served) → IsSoundService service → service.served ≡ Some call → served ≡ after_step service.turn_steps call
    → IsSoundService (record { turn_steps = service.turn_steps; waiting = service.waiting; served = served })
unfolding after_step
sound_stepped service call served sound at is =
    let P : Option Served → Type 0 = λ now. IsSoundService (record { turn_steps = service.turn_steps; waiting = service.waiting; served = now }) in
    let absent : in_list call.p service.waiting ≡ false = subst (λ (o : Option Served). IfSome o (λ call. in_list call.p service.waiting ≡ false)) at sound.apart in
    let within : call.passed < service.turn_steps = subst (λ (o : Option Served). IfSome o (λ call. call.passed < service.turn_steps)) at sound.within in
    let both = of_same (call.passed + 1 == service.turn_steps) (call.left == 1) service.turn_steps service.waiting call absent (omega arith) (λ apart. grind (arith, nat_tests)) in
    subst P (sym is) (record { apart = both.0; within = both.1; steps = sound.steps })

-- after a step of a call that has begun it has turns left
left_after : (b c : Bool) (call : Served) → 0 < call.left → (c ≡ false → 1 < call.left)
    → IfSome (cond b (cond c None (Some (record call { left = call.left - 1; passed = 0 }))) (Some (record call { passed = call.passed + 1 }))) (λ now. 0 < now.left)
left_after true true call some more = tt
left_after true false call some more = let two = more refl in omega arith
left_after false c call some more = some

answer_so : (b c : Bool) (p : ℕ) (service : DiskService) → HasBegun service → IsAfter (cond b (Work p c) Passing) service
answer_so true c p service begun = begun
answer_so false c p service begun = begun

pub after_answer : (call : Served) (turn_steps : ℕ) (service : DiskService) (answer : Turn) → 0 < call.left → service.served ≡ after_step turn_steps call → answer ≡ step_answer turn_steps call
    → IsAfter answer service
unfolding after_step step_answer
after_answer call turn_steps service answer some is said =
    let begun : HasBegun service = subst (λ (o : Option Served). IfSome o (λ now. 0 < now.left)) (sym is)
    (left_after (call.passed + 1 == turn_steps) (call.left == 1) call some (λ apart. grind (arith, nat_tests))) in
    subst (λ (t : Turn). IsAfter t service) (sym said) (answer_so (call.passed + 1 == turn_steps) (call.left == 1) call.p service begun)

-- who is served stays, and what is so of its turns
pub stays_begun : (old new : DiskService) → new.served ≡ old.served → HasBegun old → HasBegun new
stays_begun old new same begun = subst (λ (o : Option Served). IfSome o (λ call. 0 < call.left)) (sym same) begun

-- a call that is in service has begun
pub has_begun : (service : DiskService) (call : Served) → HasBegun service → service.served ≡ Some call → 0 < call.left
has_begun service call begun at = subst (λ (o : Option Served). IfSome o (λ now. 0 < now.left)) at begun

-- the last turn ends the service
abbrev pub last_of : Turn → Bool
last_of Idle = false
last_of Passing = false
last_of (Work p last) = last
last_of (Starts p) = false

ends_by : (b c : Bool) (p : ℕ) (some : Served) (other : Option Served) → last_of (cond b (Work p c) Passing) ≡ true → cond b (cond c None (Some some)) other ≡ None
unfolding last_of
ends_by true true p some other last = refl
ends_by true false p some other last = absurd (cc)
ends_by false c p some other last = absurd (cc)

pub last_ends : (call : Served) (turn_steps : ℕ) (served : Option Served) (answer : Turn) (p : ℕ) → served ≡ after_step turn_steps call → answer ≡ step_answer turn_steps call → answer ≡ Work p true → served ≡ None
unfolding after_step step_answer last_of
last_ends call turn_steps served answer p is said last =
    is ∙ ends_by (call.passed + 1 == turn_steps) (call.left == 1) call.p _ _ (ap last_of (sym said ∙ last))
