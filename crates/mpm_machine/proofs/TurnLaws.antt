-- What stands for files along the disk's step: a turn's work, the step of the disk, the answer of a call that is over, what is paid, and
-- the entry of the next call.
use Rattle.std.proofs.Common.{◌≡◌, ◌∙◌, ℕ, suc, ◌+◌, ◌-◌, ◌<◌, ◌==◌, Bool, true, false, if◌then◌else◌, List, Option, Some, None, option_map, refl, sym, ap, subst, arith}
use Rattle.std.proofs.lemmas.Bool.{false≢true}
use Rattle.std.proofs.lemmas.Bool.Decides.{nat_tests}
use Rattle.mpm_port.specs.Disks.{Disks}
use Rattle.mpm_procs.specs.Table.{call_of}
use Rattle.mpm_ready.specs.Order.{first_of}
use Rattle.mpm_service.specs.Disk.{DiskService, is_last_step, after_turn, after_step, step_answer, answer_by, served_after, with_turns, turned, turn_answer, begun}
use Rattle.mpm_service.specs.declared.service.Served.{Served}
use Rattle.mpm_service.specs.declared.service.Turn.{Turn}
use Rattle.mpm_service.specs.declared.service.Turn.TheVariants.{Idle, Passing, Work, Starts}
use Rattle.mpm_service.proofs.SoundLaws.{last_of}
use Rattle.mpm_mount.specs.Drives.{Drive}
use Rattle.mpm_mount.specs.Directories.{Directory}
use Rattle.mpm_file_functions.specs.declared.functions.FileFunction.{FileFunction}
use Rattle.mpm_refusals.specs.Filing.{Filing, Situation}
use Rattle.mpm_file_functions.specs.Functions.{function_of}
use Rattle.mpm_bdos.specs.Jobs.{call_turns}
use Rattle.mpm_bdos.specs.Serving.{Kept, StandEach, Serves, filing_of}
use Rattle.mpm_bdos.specs.Turns.{images_of}
use Rattle.mpm_system.specs.declared.system.System.{System}
use Rattle.mpm_machine.specs.Files.{FilesInService, Between, Within, one_more, StandsBetween, StandsServed, StandsForFiles, StandsWorkedBy, StandsWorked, given_back, all_left, left_where}
use Rattle.mpm_machine.specs.Failing.{is_work}
use Rattle.mpm_machine.specs.FileCalls.{situation_of}
use Rattle.mpm_machine.specs.DiskStep.{all_paid, step_passed, within_call, entered_by, entering_call}

-- of a step of the disk: whose it is, and whether it ends the last turn
abbrev pub who : Turn → ℕ
who Idle = 0
who Passing = 0
who (Work p last) = p
who (Starts p) = p

-- the same stands where the disk serves the same call, in turns of as many steps
pub worked_on : (old new : DiskService) (kept : Kept) (disks : Disks) (files : FilesInService) → new.served ≡ old.served → new.turn_steps ≡ old.turn_steps
    → StandsWorked old kept disks files → StandsWorked new kept disks files
worked_on old new kept disks files same steps s = record {
  stands = subst (λ (o : Option Served). StandsWorkedBy new.turn_steps o kept disks files) (sym same)
      (subst (λ (n : ℕ). StandsWorkedBy n old.served kept disks files) (sym steps) s.stands);
}

-- the work of a turn is done in its last step, and else nothing is done
not_last : (b : Bool) (p : ℕ) (last : Bool) → is_work (if b then Work p last else Passing) ≡ false → b ≡ false
not_last true p last none = absurd (false≢true (sym none))
not_last false p last none = refl

is_now : (b : Bool) (p : ℕ) (last : Bool) → is_work (if b then Work p last else Passing) ≡ true → b ≡ true
is_now true p last some = refl
is_now false p last some = absurd (false≢true some)

unworked : (turn_steps : ℕ) (served : Option Served) (first : Option ℕ) (kept : Kept) (disks : Disks) (files : FilesInService)
    → is_work (answer_by turn_steps served first) ≡ false → StandsServed served kept disks files → StandsWorkedBy turn_steps served kept disks files
unfolding step_answer
unworked turn_steps None first kept disks (Between filing) none s = s
unworked turn_steps None first kept disks (Within s) none stands = absurd stands
unworked turn_steps (Some call) first kept disks (Between filing) none stands = absurd stands
unworked turn_steps (Some call) first kept disks (Within s) none stands = record {
  turns = stands.turns;
  left = stands.left;
  some = stands.some;
  whose = stands.whose;
  serves = subst (λ (b : Bool). Serves (images_of disks) kept s (one_more b stands.turns))
      (sym (not_last (is_last_step turn_steps call) call.p (call.left == 1) none)) stands.serves;
}

pub nothing_to_work : (disk : DiskService) (kept : Kept) (disks : Disks) (files : FilesInService) → is_work (turn_answer disk) ≡ false
    → StandsForFiles disk kept disks files → StandsWorked disk kept disks files
unfolding turn_answer
nothing_to_work disk kept disks files none s = record { stands = unworked disk.turn_steps disk.served (first_of disk.waiting) kept disks files none s.stands }

pub none_works : (first : Option ℕ) (turn_steps : ℕ) → is_work (answer_by turn_steps None first) ≡ true → ⊥
none_works None turn_steps some = false≢true some
none_works (Some p) turn_steps some = false≢true some

worked : (turn_steps : ℕ) (served : Option Served) (first : Option ℕ) (kept kept' : Kept) (disks disks' : Disks) (files : FilesInService)
    → is_work (answer_by turn_steps served first) ≡ true → StandsServed served kept disks files
    → ((s : Situation) (j : ℕ) → Serves (images_of disks) kept s j → j < call_turns s → Serves (images_of disks') kept' s (suc j))
    → StandsWorkedBy turn_steps served kept' disks' files
unfolding step_answer
worked turn_steps None first kept kept' disks disks' files some s turn = absurd (none_works first turn_steps some)
worked turn_steps (Some call) first kept kept' disks disks' (Between filing) some stands turn = absurd stands
worked turn_steps (Some call) first kept kept' disks disks' (Within s) some stands turn = record {
  turns = stands.turns;
  left = stands.left;
  some = stands.some;
  whose = stands.whose;
  serves = subst (λ (b : Bool). Serves (images_of disks') kept' s (one_more b stands.turns))
      (sym (is_now (is_last_step turn_steps call) call.p (call.left == 1) some)) (turn s stands.turns stands.serves (omega (arith, stands.left, stands.some)));
}

-- 8 and 9: the work of a turn
pub turn_works : (disk : DiskService) (kept kept' : Kept) (disks disks' : Disks) (files : FilesInService) → is_work (turn_answer disk) ≡ true
    → StandsForFiles disk kept disks files
    → ((s : Situation) (j : ℕ) → Serves (images_of disks) kept s j → j < call_turns s → Serves (images_of disks') kept' s (suc j))
    → StandsWorked disk kept' disks' files
unfolding turn_answer
turn_works disk kept kept' disks disks' files some s turn =
    record { stands = worked disk.turn_steps disk.served (first_of disk.waiting) kept kept' disks disks' files some s.stands turn }

-- a step of a turn in which it doesn't end
left_more : (left : ℕ) → (left == 1) ≡ false → 0 < left → 0 < left - 1
left_more left more some = grind (arith, nat_tests)

one_left : (left : ℕ) → (left == 1) ≡ true → left ≡ 1
one_left left one = grind (arith, nat_tests)

passing_step : (b : Bool) (call : Served) (kept : Kept) (disks : Disks) (s : Situation) (turns : ℕ) → (if b then Work call.p (call.left == 1) else Passing) ≡ Passing
    → turns + call.left ≡ call_turns s → 0 < call.left → call.p ≡ s.caller.process → Serves (images_of disks) kept s (one_more b turns)
    → StandsServed (if b then after_turn call else (Some (record call { passed = call.passed + 1 }))) kept disks (Within s)
passing_step true call kept disks s turns passing left some whose serves = absurd (cc)
passing_step false call kept disks s turns passing left some whose serves = record { turns = turns; left = left; some = some; whose = whose; serves = serves }

passing_served : (turn_steps : ℕ) (served : Option Served) (first : Option ℕ) (kept : Kept) (disks : Disks) (s : Situation) → answer_by turn_steps served first ≡ Passing
    → StandsWorkedBy turn_steps served kept disks (Within s) → StandsServed (served_after turn_steps served first) kept disks (Within s)
unfolding step_answer after_step
passing_served turn_steps None first kept disks s passing stands = absurd stands
passing_served turn_steps (Some call) first kept disks s passing stands =
    passing_step (is_last_step turn_steps call) call kept disks s stands.turns passing stands.left stands.some stands.whose stands.serves

pub passing_stands : (disk : DiskService) (kept : Kept) (disks : Disks) (s : Situation) → turn_answer disk ≡ Passing
    → StandsWorked disk kept disks (Within s) → StandsForFiles (turned disk) kept disks (Within s)
unfolding turn_answer turned
passing_stands disk kept disks s passing stands =
    record { stands = passing_served disk.turn_steps disk.served (first_of disk.waiting) kept disks s passing stands.stands }

-- 8: the end of a turn that isn't the last: what stood with its turns ended stands with one more
turned_step : (b : Bool) (call : Served) (kept : Kept) (disks : Disks) (s : Situation) (p turns : ℕ)
    → (if b then Work call.p (call.left == 1) else Passing) ≡ Work p false → turns + call.left ≡ call_turns s → 0 < call.left → call.p ≡ s.caller.process
    → Serves (images_of disks) kept s (one_more b turns)
    → StandsServed (if b then after_turn call else (Some (record call { passed = call.passed + 1 }))) kept disks (Within s)
turned_step true call kept disks s p turns works left some whose serves =
    let more = ap last_of works in
    subst (λ (b : Bool). StandsServed (if b then None else (Some (record call { left = call.left - 1; passed = 0 }))) kept disks (Within s)) (sym more)
    (record { turns = suc turns; left = omega (arith, left, some); some = left_more call.left more some; whose = whose; serves = serves })
turned_step false call kept disks s p turns works left some whose serves = absurd (cc)

turned_served : (turn_steps : ℕ) (served : Option Served) (first : Option ℕ) (kept : Kept) (disks : Disks) (s : Situation) (p : ℕ)
    → answer_by turn_steps served first ≡ Work p false → StandsWorkedBy turn_steps served kept disks (Within s)
    → StandsServed (served_after turn_steps served first) kept disks (Within s)
unfolding step_answer after_step
turned_served turn_steps None first kept disks s p works stands = absurd stands
turned_served turn_steps (Some call) first kept disks s p works stands =
    turned_step (is_last_step turn_steps call) call kept disks s p stands.turns works stands.left stands.some stands.whose stands.serves

pub turn_stands : (disk : DiskService) (kept : Kept) (disks : Disks) (s : Situation) (p : ℕ) → turn_answer disk ≡ Work p false
    → StandsWorked disk kept disks (Within s) → StandsForFiles (turned disk) kept disks (Within s)
unfolding turn_answer turned
turn_stands disk kept disks s p works stands =
    record { stands = turned_served disk.turn_steps disk.served (first_of disk.waiting) kept disks s p works stands.stands }

-- 9: the end of the last turn: what stands is the whole change of the call
last_step : (b : Bool) (call : Served) (kept : Kept) (disks : Disks) (s : Situation) (p turns : ℕ)
    → (if b then Work call.p (call.left == 1) else Passing) ≡ Work p true → turns + call.left ≡ call_turns s
    → Serves (images_of disks) kept s (one_more b turns) → Serves (images_of disks) kept s (call_turns s)
last_step true call kept disks s p turns works left serves =
    let one = one_left call.left (ap last_of works) in
    subst (λ (j : ℕ). Serves (images_of disks) kept s j) (omega (arith, left, one)) serves
last_step false call kept disks s p turns works left serves = absurd (cc)

last_served : (turn_steps : ℕ) (served : Option Served) (first : Option ℕ) (kept : Kept) (disks : Disks) (s : Situation) (p : ℕ)
    → answer_by turn_steps served first ≡ Work p true → StandsWorkedBy turn_steps served kept disks (Within s) → Serves (images_of disks) kept s (call_turns s)
unfolding step_answer
last_served turn_steps None first kept disks s p works stands = absurd stands
last_served turn_steps (Some call) first kept disks s p works stands =
    last_step (is_last_step turn_steps call) call kept disks s p stands.turns works stands.left stands.serves

pub last_turn_serves : (disk : DiskService) (kept : Kept) (disks : Disks) (s : Situation) (p : ℕ) → turn_answer disk ≡ Work p true
    → StandsWorked disk kept disks (Within s) → Serves (images_of disks) kept s (call_turns s)
unfolding turn_answer
last_turn_serves disk kept disks s p works stands =
    last_served disk.turn_steps disk.served (first_of disk.waiting) kept disks s p works stands.stands

whose_step : (b : Bool) (call : Served) (p : ℕ) (last : Bool) → (if b then Work call.p (call.left == 1) else Passing) ≡ Work p last → call.p ≡ p
whose_step true call p last works = ap who works
whose_step false call p last works = absurd (cc)

whose_served : (turn_steps : ℕ) (served : Option Served) (first : Option ℕ) (kept : Kept) (disks : Disks) (s : Situation) (p : ℕ) (last : Bool)
    → answer_by turn_steps served first ≡ Work p last → StandsWorkedBy turn_steps served kept disks (Within s) → s.caller.process ≡ p
unfolding step_answer
whose_served turn_steps None first kept disks s p last works stands = absurd stands
whose_served turn_steps (Some call) first kept disks s p last works stands = sym stands.whose ∙ whose_step (is_last_step turn_steps call) call p last works

pub whose_turn : (disk : DiskService) (kept : Kept) (disks : Disks) (s : Situation) (p : ℕ) (last : Bool) → turn_answer disk ≡ Work p last
    → StandsWorked disk kept disks (Within s) → s.caller.process ≡ p
unfolding turn_answer
whose_turn disk kept disks s p last works stands =
    whose_served disk.turn_steps disk.served (first_of disk.waiting) kept disks s p last works stands.stands

-- those who ended give back what they had open once no call is in service
paid_by : (owed : List Bool) (kept kept' : Kept) (disks : Disks) (files : FilesInService) → StandsServed None kept disks files
    → kept' ≡ record kept { opens = kept'.opens; marks = kept'.marks; searches = kept'.searches }
    → ((filing : Filing) → filing_of kept filing.drives ≡ filing → filing_of kept' filing.drives ≡ all_left owed filing)
    → StandsServed None kept' disks (given_back owed files)
paid_by owed kept kept' disks (Between filing) stands rest left =
    let is = left filing stands.filing_is in
    record {
      idle = ap (λ (k : Kept). k.service) rest ∙ stands.idle;
      filing_is = subst (λ (drives : List (Option Drive)). filing_of kept' drives ≡ all_left owed filing) (ap (λ (f : Filing). f.drives) is) is;
      stand = subst (λ (drives : List (Option Drive)). StandEach (images_of disks) kept'.mounted drives) (ap (λ (f : Filing). f.drives) is)
          (subst (λ (mounted : List (Option Directory)). StandEach (images_of disks) mounted filing.drives) (sym (ap (λ (k : Kept). k.mounted) rest)) stands.stand);
    }
paid_by owed kept kept' disks (Within s) stands rest left = absurd stands

pub paid_stands : (system : System) (kept kept' : Kept) (disks : Disks) (files : FilesInService) → StandsForFiles system.kernel.disk kept disks files
    → system.kernel.disk.served ≡ None → kept' ≡ record kept { opens = kept'.opens; marks = kept'.marks; searches = kept'.searches }
    → ((filing : Filing) → filing_of kept filing.drives ≡ filing → filing_of kept' filing.drives ≡ all_left system.owed filing)
    → StandsForFiles (all_paid system).kernel.disk kept' disks (given_back system.owed files)
unfolding all_paid
paid_stands system kept kept' disks files stands none rest left = record {
  stands = subst (λ (o : Option Served). StandsServed o kept' disks (given_back system.owed files)) (sym none)
      (paid_by system.owed kept kept' disks files (subst (λ (o : Option Served). StandsServed o kept disks files) none stands.stands) rest left);
}

-- who gives back leaves the drives as they are

pub drives_left : (owed : List Bool) (filing : Filing) → (all_left owed filing).drives ≡ filing.drives
unfolding all_left left_where
drives_left owed filing = refl

-- where no call is in service, what stands between two calls stands for files
pub stands_idle : (disk : DiskService) (kept : Kept) (disks : Disks) (filing : Filing) → disk.served ≡ None → StandsBetween kept disks filing → StandsForFiles disk kept disks (Between filing)
stands_idle disk kept disks filing none stands = record {
  stands = subst (λ (served : Option Served). StandsServed served kept disks (Between filing)) (sym none) stands;
}

none_between : (served : Option Served) (kept : Kept) (disks : Disks) (filing : Filing) → StandsServed served kept disks (Between filing) → served ≡ None
none_between None kept disks filing stands = refl
none_between (Some call) kept disks filing stands = absurd stands

pub entered_first : (turn_steps : ℕ) (served : Option Served) (first : Option ℕ) (p turns : ℕ) → served ≡ None → answer_by turn_steps served first ≡ Starts p
    → option_map (with_turns turns) (served_after turn_steps served first) ≡ Some (record { p = p; left = turns; passed = 0 })
entered_first turn_steps None None p turns none starts = absurd (cc)
entered_first turn_steps None (Some q) p turns none starts = ap (λ (x : ℕ). Some (record { p = x; left = turns; passed = 0 })) (ap who starts)
entered_first turn_steps (Some call) first p turns none starts = absurd (cc)

-- 10: the entry of the next call, in the situation of that moment
pub entry_stands : (system : System) (kept kept' : Kept) (disks : Disks) (filing : Filing) (function : FileFunction) (p turns : ℕ) → turn_answer system.kernel.disk ≡ Starts p
    → StandsForFiles system.kernel.disk kept disks (Between filing) → function_of (call_of system.kernel.dispatcher.procs p).function ≡ Some function
    → turns ≡ call_turns (situation_of filing function p system) → 0 < turns → Serves (images_of disks) kept' (situation_of filing function p system) 0
    → StandsForFiles (entered_by (Starts p) turns (step_passed system)).kernel.disk kept' disks (entering_call p system (Between filing))
unfolding turn_answer turned begun
entry_stands system kept kept' disks filing function p turns starts stands calls many some serves = record {
  stands =
      subst (λ (o : Option Served). StandsServed o kept' disks (entering_call p system (Between filing)))
      (sym (entered_first system.kernel.disk.turn_steps system.kernel.disk.served (first_of system.kernel.disk.waiting) p turns (none_between system.kernel.disk.served kept disks filing stands.stands) starts))
      (subst (λ (o : Option FileFunction). StandsServed (Some (record { p = p; left = turns; passed = 0 })) kept' disks (within_call o filing p system)) (sym calls)
      (record { turns = 0; left = omega (arith, many); some = some; whose = refl; serves = serves }));
}
