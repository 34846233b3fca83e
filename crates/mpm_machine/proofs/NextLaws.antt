-- Laws of the steps of a state.
use Rattle.std.proofs.Common.{◌≡◌, ◌∙◌, ℕ, zero, suc, ◌+◌, ◌-◌, ◌<◌, ◌≤◌, Bool, List, refl, ap, sym, subst, arith, add-one, ◌*◌}
use Rattle.mpm_render.specs.Outputs.{rendered}
use Rattle.mpm_system.specs.declared.system.System.{System}
use Rattle.mpm_system.specs.Whole.{IsWhole, NoCompletions}
use Rattle.mpm_machine.specs.declared.machine.StepFault.{StepFault}
use Rattle.mpm_machine.specs.State.{State, IsAt}
use Rattle.mpm_machine.specs.Faults.{EndsBy}
use Rattle.mpm_machine.specs.Stepping.{paid_after, before_disk, step_with, telling_of, stepped}
use Rattle.mpm_machine.specs.After.{next, after, IsStepOf, made_in, EndsInStep}
use Rattle.mpm_machine.specs.FileCalls.{file_caller}
use Rattle.mpm_machine.specs.DiskStep.{process_over}
use Rattle.mpm_machine.specs.Contained.{IsContainedBy, OnlyInstructed, ServedByValue, ResidedByValue}
use Rattle.mpm_machine.proofs.FiledLaws.{contained_by}
use Rattle.mpm_machine.proofs.ValueLaws.{resided_with}
use Rattle.mpm_machine.proofs.FiledValue.{filed_by_value, over_by_value, enters_by_value}
use Rattle.mpm_machine.proofs.PrintingSteps.{spooling_next, printing_next}
use Rattle.mpm_machine.proofs.DeletingLaws.{deleting_next}
use Rattle.mpm_machine.proofs.StepWithLaws.{whole_with, no_completions_with, instructed_with, served_with}
use Rattle.mpm_machine.proofs.FileStepLaws.{steps_with}
use Rattle.mpm_machine.specs.Scheduling.{GoesOnScheduling}
use Rattle.mpm_machine.proofs.SchedulingLaws.{schedules_on}
use Rattle.mpm_machine.proofs.InterpretingLaws.{handed_is_own, nobody_lives_there}
use Rattle.mpm_port.specs.Disks.{Disks}
use Rattle.mpm_machine.specs.declared.machine.Machine.{Machine}
use Rattle.mpm_machine.specs.OneStep.{turns_in}
use Rattle.mpm_machine.specs.Failing.{turns_done, working_in}
use Rattle.mpm_machine.specs.Standing.{StandingFor}

-- what a step makes of the system
pub next_is : (s : State) → (next s).system ≡ (step_with (telling_of s.system s.files) s.system).system
unfolding next stepped
next_is s = refl

-- n steps

pub after_nothing : (s : State) → after 0 s ≡ s
unfolding after
after_nothing s = refl

pub after_one : (s : State) → after 1 s ≡ next s
unfolding after
after_one s = refl

pub after_more : (n : ℕ) (s : State) → after (n + 1) s ≡ next (after n s)
unfolding after
after_more n s = ap (λ m. after m s) (add-one n)

pub after_both : (first more : ℕ) (s : State) → after (first + more) s ≡ after more (after first s)
unfolding after
after_both first zero s = ap (λ n. after n s) (omega arith)
after_both first (suc more) s =
    let count : first + suc more ≡ suc (first + more) = omega arith in
    ap (λ n. after n s) count ∙ ap next (after_both first more s)

pub steps_after : (n : ℕ) (s : State) → (after n s).system.steps ≡ s.system.steps + n
unfolding after
steps_after zero s = omega arith
steps_after (suc n) s =
    ap (λ (system : System). system.steps) (next_is (after n s)) ∙ steps_with (telling_of (after n s).system (after n s).files) (after n s).system
    ∙ omega (arith, steps_after n s)

pub whole_after : (n : ℕ) (s : State) → IsWhole s.system → IsWhole (after n s).system
unfolding after
whole_after zero s w = w
whole_after (suc n) s w =
    subst IsWhole (sym (next_is (after n s))) (whole_with (telling_of (after n s).system (after n s).files) (after n s).system (whole_after n s w))

pub handed_after : (n : ℕ) (s : State) → NoCompletions s.system → NoCompletions (after n s).system
unfolding after
handed_after zero s no_completions = no_completions
handed_after (suc n) s no_completions =
    subst NoCompletions (sym (next_is (after n s))) (no_completions_with (telling_of (after n s).system (after n s).files) (after n s).system)

-- and what is so of each

step_of : (s : State) → IsWhole s.system → NoCompletions s.system → IsStepOf s
unfolding before_disk
step_of s w no_completions =
    let telling = telling_of s.system s.files in
    let old = s.system in
    let is = sym (next_is s) in
    let begun = (before_disk old s.files).system in
    record {
      contained = subst (IsContainedBy telling old) is (contained_by telling old w);
      hands = λ i seg at handed. record { own = handed_is_own old seg at i handed; nobody = λ p living. nobody_lives_there old seg at p w i handed living };
      instruction = λ p seg i. subst (OnlyInstructed telling p old) is (instructed_with telling p seg old no_completions i);
      calls = λ p seg i none. subst (ServedByValue telling p seg old) is (served_with telling p seg old i none);
      resides = λ p native i none. subst (ResidedByValue telling p native old) is (resided_with telling p native old i none);
      filed = filed_by_value (file_caller old) (made_in (file_caller old) old);
      over = over_by_value (process_over begun) begun;
      enters = enters_by_value (paid_after telling.at_disk begun);
      spools = λ q i. spooling_next q s w i;
      prints = λ q p. printing_next q s w p;
      deletes = λ q p. deleting_next q s w p;
      schedules = λ q answers i. subst (λ (system : System). GoesOnScheduling q answers system.residents) is (schedules_on q answers telling old i);
    }

pub step_by : (s : State) (old : System) → s.system ≡ old → IsWhole old → NoCompletions old → IsStepOf s
step_by s old is w handed = step_of s (subst IsWhole (sym is) w) (subst NoCompletions (sym is) handed)

pub step_in_run : (k : ℕ) (s : State) (old : System) → s.system ≡ old → IsWhole old → NoCompletions old → IsStepOf (after k s)
step_in_run k s old is w handed =
    step_of (after k s) (whole_after k s (subst IsWhole (sym is) w)) (handed_after k s (subst NoCompletions (sym is) handed))

-- a stop in the step after the first done ones
pub ends_in_step : (fault : StepFault) (trace : Bool) (written first : List ℕ) (s : State) (n done step : ℕ) → done < n → step ≡ s.system.steps + done + 1
    → EndsBy fault written first (rendered trace (after done s).outputs) (rendered trace (next (after done s)).outputs)
    → EndsInStep fault trace written first s n step
ends_in_step fault trace written first s n done step below e ends =
    let before : step - 1 - s.system.steps ≡ done = omega arith in
    let afterwards : step - s.system.steps ≡ done + 1 = omega arith in
    let P : State → Type 0 = λ t. EndsBy fault written first (rendered trace (after done s).outputs) (rendered trace t.outputs) in
    let Q : ℕ → Type 0 = λ m. EndsBy fault written first (rendered trace (after m s).outputs) (rendered trace (after (step - s.system.steps) s).outputs) in
    let R : ℕ → Type 0 = λ m. EndsBy fault written first (rendered trace (after done s).outputs) (rendered trace (after m s).outputs) in
    record {
      later = omega arith;
      within = omega arith;
      text = subst Q (sym before) (subst R (sym afterwards) (subst P (sym (after_more done s)) ends));
    }

-- a stop in one of the later steps is one of all
pub ends_later : (fault : StepFault) (trace : Bool) (written first : List ℕ) (s : State) (n done step : ℕ) → done ≤ n
    → EndsInStep fault trace written first (after done s) (n - done) step → EndsInStep fault trace written first s n step
ends_later fault trace written first s n done step few ends =
    let steps = steps_after done s in
    let before : after (step - 1 - (after done s).system.steps) (after done s) ≡ after (step - 1 - s.system.steps) s =
    sym (after_both done (step - 1 - (after done s).system.steps) s) ∙ ap (λ k. after k s) (omega (arith, steps, ends.later, few)) in
    let afterwards : after (step - (after done s).system.steps) (after done s) ≡ after (step - s.system.steps) s =
    sym (after_both done (step - (after done s).system.steps) s) ∙ ap (λ k. after k s) (omega (arith, steps, ends.later, few)) in
    let P : State → Type 0 = λ t. EndsBy fault written first (rendered trace t.outputs) (rendered trace (after (step - (after done s).system.steps) (after done s)).outputs) in
    let Q : State → Type 0 = λ t. EndsBy fault written first (rendered trace (after (step - 1 - s.system.steps) s).outputs) (rendered trace t.outputs) in
    record {
      later = omega (arith, steps, ends.later);
      within = omega (arith, steps, ends.within, few);
      text = subst Q afterwards (subst P before ends.text);
    }

-- what is so of the state before it, by its step

pub so_in_step : (P : State → Type 0) (s : State) (done step : ℕ) → step ≡ s.system.steps + done + 1 → P (after done s) → P (after (step - 1 - s.system.steps) s)
so_in_step P s done step e so =
    let before : step - 1 - s.system.steps ≡ done = omega (arith, e) in
    subst (λ k. P (after k s)) (sym before) so

pub so_later : (P : State → Type 0) (s : State) (done step : ℕ) → (after done s).system.steps < step
    → P (after (step - 1 - (after done s).system.steps) (after done s)) → P (after (step - 1 - s.system.steps) s)
so_later P s done step below so =
    let steps = steps_after done s in
    let before : after (step - 1 - (after done s).system.steps) (after done s) ≡ after (step - 1 - s.system.steps) s =
    sym (after_both done (step - 1 - (after done s).system.steps) s) ∙ ap (λ k. after k s) (omega (arith, steps, below)) in
    subst P before so

-- nothing was done

pub still_state : (system : System) (s : State) → s.system ≡ system → after 0 s ≡ record s { system = system }
unfolding after
still_state system s is = ap (λ (x : System). record s { system = x }) is

-- the turns of steps

pub turns_more : (n : ℕ) (s : State) → turns_in (n + 1) s ≡ turns_in n s + turns_done (working_in (after n s).system (after n s).files)
unfolding turns_in
turns_more n s = ap (λ m. turns_in m s) (add-one n)

pub turns_both : (first more : ℕ) (s : State) → turns_in (first + more) s ≡ turns_in first s + turns_in more (after first s)
unfolding turns_in
turns_both first zero s =
    let count : first + zero ≡ first = omega arith in
    let none : turns_in first s ≡ turns_in first s + 0 = omega arith in
    ap (λ n. turns_in n s) count ∙ none
turns_both first (suc more) s =
    let count : first + suc more ≡ suc (first + more) = omega arith in
    let turns : State → ℕ = λ t. turns_done (working_in t.system t.files) in
    let last : turns (after (first + more) s) ≡ turns (after more (after first s)) = ap turns (after_both first more s) in
    let before = turns_both first more s in
    let all : turns_in (first + more) s + turns (after (first + more) s) ≡ turns_in first s + (turns_in more (after first s) + turns (after more (after first s))) = omega (arith, before, last) in
    ap (λ n. turns_in n s) count ∙ all

-- where fewer steps do as many, more do
pub turns_fewer : (few most : ℕ) (s : State) → few ≤ most → turns_in few s ≤ turns_in most s
turns_fewer few most s le =
    let both = turns_both few (most - few) s in
    let all : few + (most - few) ≡ most = omega (arith, le) in
    subst (λ (n : ℕ). turns_in few s ≤ turns_in n s) all (omega (arith, both))

-- a step after some that did none
pub turns_step : {D : Type 0} (disks : D → Disks) (done : ℕ) (machine : Machine) (drives : D) (s : State) (before behind : ℕ) → IsAt machine (disks drives) (after done s)
    → StandingFor machine (disks drives) (λ files. behind ≤ before + 20 * turns_done (working_in machine.system files)) → behind ≤ before + 20 * turns_in (done + 1) s
turns_step disks done machine drives s before behind here calls =
    let t = after done s in
    let P : System → Type 0 = λ system. behind ≤ before + 20 * turns_done (working_in system t.files) in
    let few = subst P here.system (calls t.files here.files) in
    omega (arith, few, turns_more done s)
