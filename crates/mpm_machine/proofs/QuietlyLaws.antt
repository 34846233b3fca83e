-- Laws of steps in a row in which nothing is written and no drive is called.
use Rattle.std.proofs.Common.{◌≡◌, ◌∙◌, ℕ, zero, suc, ◌+◌, ◌<◌, [], Option, Some, None, refl, ap, sym, subst, arith}
use Rattle.mpm_port.specs.Disks.{Disks}
use Rattle.mpm_output.specs.Outside.{Outside}
use Rattle.mpm_output.specs.Writing.{CameOut}
use Rattle.mpm_system.specs.declared.system.System.{System}
use Rattle.mpm_system.specs.Whole.{IsWhole, NoCompletions}
use Rattle.mpm_machine.specs.declared.machine.Machine.{Machine}
use Rattle.mpm_machine.specs.State.{State, IsAt, StandsWithDrives}
use Rattle.mpm_file_functions.specs.declared.functions.FileFunction.TheVariants.{OpenFile}
use Rattle.mpm_service.specs.declared.service.Served.{Served}
use Rattle.mpm_machine.specs.Due.{NobodyDue}
use Rattle.mpm_machine.specs.Files.{FilesInService, Between, Within, AreWithin, StandsForFiles}
use Rattle.mpm_machine.specs.Stepping.{stepped}
use Rattle.mpm_service.specs.Disk.{DiskService}
use Rattle.mpm_machine.specs.FileCalls.{situation_of}
use Rattle.mpm_machine.specs.Interpreting.{Interprets}
use Rattle.mpm_machine.specs.Mounting.{untouched}
use Rattle.mpm_machine.proofs.GoingSteps.{interprets_stepped, interprets_after}
use Rattle.mpm_machine.specs.Holding.{HoldsDrives}
use Rattle.mpm_machine.specs.After.{after}
use Rattle.mpm_machine.specs.OwnCalls.{MakesOwnCall, with_own_call}
use Rattle.mpm_machine.specs.Quietly.{WentSilently, WentOn}
use Rattle.mpm_machine.proofs.NextLaws.{after_nothing, after_one, after_both}
use Rattle.mpm_machine.proofs.PassedLaws.{holds_passed, turn_steps_passed}
use Rattle.mpm_machine.proofs.StandingLaws.{ran_at, ran_on, stands_passed, step_at, step_stands}
use Rattle.mpm_machine.proofs.MadeLaws.{made_whole, made_no_completions, made_nobody_due, made_steps}
use Rattle.mpm_machine.proofs.OwnCallStepLaws.{own_made, own_stepped_to, own_holds, own_turn_steps}

-- files may be within a call where the disk serves one, and else between two
some_files : (system : System) → (files : FilesInService) × AreWithin system.kernel.disk.served files
some_files system = by_served system.kernel.disk.served
  where
    by_served : (served : Option Served) → (files : FilesInService) × AreWithin served files
    by_served None = (Between (untouched []), tt)
    by_served (Some call) = (Within (situation_of (untouched []) OpenFile 0 system), tt)

abbrev some_state : System → State
some_state system = record { system = system; outputs = []; files = (some_files system).0 }

silent_system : (n : ℕ) (old new : System) → WentSilently n old new → (after n (some_state old)).system ≡ new
silent_system n old new went = ap (λ (s : State). s.system) (went.states (some_state old) refl (some_files old).1)

silent_interprets : (n : ℕ) (old new : System) → IsWhole old → WentSilently n old new → Interprets old → Interprets new
silent_interprets n old new w went i = subst Interprets (silent_system n old new went) (interprets_after n (some_state old) w i)

silent_still : (n : ℕ) (old new : System) → WentSilently n old new → n ≡ 0 → new ≡ old
silent_still n old new went none =
    sym (silent_system n old new went) ∙ ap (λ (k : ℕ). (after k (some_state old)).system) none ∙ ap (λ (s : State). s.system) (after_nothing (some_state old))

-- instructions of a process, or steps in which nothing is done
pub went_silent : {D : Type 0} (disks : D → Disks) (drives : D) (o : Outside) (n : ℕ) (old : Machine) (new : System)
    → WentSilently n old.system new → IsWhole old.system → HoldsDrives disks old.system.kernel old.bdos drives → WentOn disks drives o n old (record old { system = new })
went_silent disks drives o n old new went w holds = record {
  ok = λ s first stands. ran_on old (record old { system = new }) n o.kept o.written (disks drives) (after n s) s first refl went.disk (went.states s) stands;
  model = λ s here. ran_at old (record old { system = new }) n (disks drives) (after n s) s refl went.disk (went.states s) here;
  still = silent_still n old.system new went;
  due = went.due;
  interprets = silent_interprets n old.system new w went;
  whole = went.whole;
  no_completions = went.no_completions;
  done = went.done;
  holds = record {
    calls = holds_passed disks n old.system.kernel new.kernel old.bdos old.bdos drives went.disk went.calls refl holds.calls;
    files = holds.files;
    stands = subst (λ (disk : DiskService). StandsForFiles disk old.bdos (disks drives) holds.files) (sym went.disk)
        (stands_passed n old.system.kernel.disk old.bdos (disks drives) holds.files holds.stands);
  };
  turn_steps = turn_steps_passed n _ _ went.disk;
  bdos = refl;
}

-- a call that concerns its caller alone, whose record isn't asked for
pub went_alone : {D : Type 0} (disks : D → Disks) (drives : D) (o : Outside) (p seg : ℕ) (old : Machine) (new : System)
    → IsWhole old.system → MakesOwnCall p seg old.system → new ≡ (with_own_call p seg old.system).system → CameOut o o (with_own_call p seg old.system).emitted
    → HoldsDrives disks old.system.kernel old.bdos drives → WentOn disks drives o 1 old (record old { system = new })
went_alone disks drives o p seg old new w makes is wrote holds =
    let made = own_made p seg old.system new w makes is in
    record {
      ok = λ s first stands.
          let P : State → Type 0 = λ t. StandsWithDrives (record old { system = new }) o.kept o.written (disks drives) t first in
          subst P (sym (after_one s))
          (step_stands old (record old { system = new }) (disks drives) (disks drives) o o s first
          (λ files there. own_stepped_to files o o p seg old.system new old.bdos (disks drives) w makes is wrote there) stands);
      model = λ s here.
          subst (IsAt (record old { system = new }) (disks drives)) (sym (after_one s))
          (step_at old (record old { system = new }) (disks drives) (disks drives) o o s
          (λ files there. own_stepped_to files o o p seg old.system new old.bdos (disks drives) w makes is wrote there) here);
      still = λ none. absurd (omega (arith, none));
      due = λ some. made_nobody_due old.system new w made;
      interprets = interprets_stepped old.system new w made;
      whole = made_whole old.system new w made;
      no_completions = made_no_completions old.system new made;
      done = made_steps old.system new made;
      holds = record {
        calls = own_holds disks p seg old.system new old.bdos drives w makes is holds.calls;
        files = (stepped old.system holds.files).files;
        stands = (own_stepped_to holds.files o o p seg old.system new old.bdos (disks drives) w makes is wrote holds.stands).stands;
      };
      turn_steps = own_turn_steps p seg old.system new w makes is;
      bdos = refl;
    }

-- no step
pub went_nowhere : {D : Type 0} (disks : D → Disks) (drives : D) (o : Outside) (machine : Machine) → IsWhole machine.system
    → NoCompletions machine.system → HoldsDrives disks machine.system.kernel machine.bdos drives → WentOn disks drives o 0 machine machine
went_nowhere disks drives o machine w none holds = record {
  ok = λ s first stands.
      let P : State → Type 0 = λ t. StandsWithDrives machine o.kept o.written (disks drives) t first in
      subst P (sym (after_nothing s)) stands;
  model = λ s here. subst (IsAt machine (disks drives)) (sym (after_nothing s)) here;
  still = λ none. refl;
  due = λ some. absurd (omega (arith, some));
  interprets = λ i. i;
  whole = w;
  no_completions = none;
  done = omega arith;
  holds = holds;
  turn_steps = refl;
  bdos = refl;
}

-- some steps, and more after them; no step leaves the system as it is, so that nobody is due after it who wasn't before

due_both : {D : Type 0} (disks : D → Disks) (drives : D) (o : Outside) (m n : ℕ) (old middle new : Machine)
    → WentOn disks drives o m old middle → WentOn disks drives o n middle new → 0 < m + n → NobodyDue new.system.kernel
due_both disks drives o m zero old middle new one more some =
    subst (λ (s : System). NobodyDue s.kernel) (sym (more.still refl)) (one.due (omega (arith, some)))
due_both disks drives o m (suc n) old middle new one more some = more.due (omega arith)

pub went_both : {D : Type 0} (disks : D → Disks) (drives : D) (o : Outside) (m n : ℕ) (old middle new : Machine)
    → WentOn disks drives o m old middle → WentOn disks drives o n middle new → WentOn disks drives o (m + n) old new
went_both disks drives o m n old middle new one more = record {
  ok = λ s first stands.
      let P : State → Type 0 = λ t. StandsWithDrives new o.kept o.written (disks drives) t first in
      subst P (sym (after_both m n s)) (more.ok (after m s) first (one.ok s first stands));
  model = λ s here. subst (IsAt new (disks drives)) (sym (after_both m n s)) (more.model (after m s) (one.model s here));
  still = λ none. more.still (omega (arith, none)) ∙ one.still (omega (arith, none));
  due = due_both disks drives o m n old middle new one more;
  interprets = λ i. more.interprets (one.interprets i);
  whole = more.whole;
  no_completions = more.no_completions;
  done = omega (arith, one.done, more.done);
  holds = more.holds;
  turn_steps = more.turn_steps ∙ one.turn_steps;
  bdos = more.bdos ∙ one.bdos;
}
