-- The disk's step as the code makes it: a call that is over, and a step of the turn of the one in service.
use Rattle.std.proofs.Common.{◌≡◌, ◌∙◌, ℕ, Bool, true, false, List, [], Option, Some, None, Result, Ok, Err, IfErr, IfSome, option_map, is_some, if◌then◌else◌, ◌==◌, inl, inr, length, arith, ◌+◌, ◌-◌, refl, sym, ap, subst}
use Rattle.std.specs.Prelude.{◌⊎◌, OnOk, OnErr, option_and_then}
use Rattle.std.proofs.lemmas.Bool.{false≢true}
use Rattle.std.proofs.lemmas.Result.{on_ok_weaker}
use Rattle.mpm_base.specs.Calls.{Answer}
use Rattle.mpm_port.specs.Disks.{Disks}
use Rattle.mpm_port.specs.declared.Failed.{Failed}
use Rattle.mpm_procs.specs.Table.{Lives, call_of}
use Rattle.mpm_ready.specs.Order.{first_of}
use Rattle.mpm_service.specs.Disk.{DiskService, is_last_step, after_step, step_answer, answer_by, served_after, turned, turn_answer, served_process, HasBegun, IsAfter}
use Rattle.mpm_service.specs.Places.{is_call_of}
use Rattle.mpm_service.specs.declared.service.Served.{Served}
use Rattle.mpm_service.specs.declared.service.Turn.{Turn}
use Rattle.mpm_service.specs.declared.service.Turn.TheVariants.{Idle, Passing, Work, Starts}
use Rattle.mpm_service.proofs.SoundLaws.{last_ends}
use Rattle.mpm_kernel.specs.Kernel.{Kernel}
use Rattle.mpm_kernel.specs.Disk.{with_disk, ready_again as made_ready_again, IsOver}
use Rattle.mpm_output.specs.Outside.{Outside, by_sink}
use Rattle.mpm_output.specs.Writing.{CameOut, Stopped, DeviceFails, Emits}
use Rattle.mpm_output.proofs.WritingLaws.{wrote_nothing, wrote_cause, stopped_cause}
use Rattle.mpm_render.specs.Outputs.{Output}
use Rattle.mpm_file_functions.specs.declared.refusals.Extended.{Extended}
use Rattle.mpm_directories.specs.Direct.{Directly}
use Rattle.mpm_refusals.specs.Filing.{Filing, Situation}
use Rattle.mpm_bdos.specs.Finishing.{ComesTo}
use Rattle.mpm_bdos.specs.Jobs.{call_turns}
use Rattle.mpm_bdos.specs.Outcomes.{file_call}
use Rattle.mpm_bdos.specs.Serving.{Kept, InService, Serves}
use Rattle.mpm_bdos.specs.Turns.{images_of}
use Rattle.mpm_system.specs.declared.system.System.{System}
use Rattle.mpm_system.specs.Whole.{SystemChange, HasRoomForAll, IsWhole, silent}
use Rattle.mpm_machine.specs.Faults.{EndsBySink}
use Rattle.mpm_machine.specs.Files.{FilesInService, Between, Within, StandsBetween, StandsServed, StandsForFiles, StandsWorkedBy, StandsWorked}
use Rattle.mpm_machine.specs.FileCalls.{told_of, concluded}
use Rattle.mpm_machine.specs.DiskStep.{ready_again, step_passed, call_over, over_after, served_by, disk_served, over_by, process_over, files_over, files_served_by, files_served, told_of_call}
use Rattle.mpm_machine.specs.Stepping.{nothing_told, told_by_process, told_within}
use Rattle.mpm_machine.specs.Holding.{IsOwnCall}
use Rattle.mpm_machine.specs.After.{IsOfSome}
use Rattle.mpm_machine.proofs.FinishLaws.{no_completions_finished}
use Rattle.mpm_machine.proofs.FileLaws.{whole_concluded}
use Rattle.mpm_machine.proofs.FileStepLaws.{concluded_more}
use Rattle.mpm_machine.proofs.DiskStepLaws.{whole_ready_again, whole_call_over}
use Rattle.mpm_machine.proofs.KeepingLaws.{ServesSame, same_then, concluded_serves, finishing_serves}
use Rattle.mpm_machine.proofs.TurnLaws.{passing_stands, turn_stands, last_turn_serves, whose_turn}

-- a call that is over: what is answered of it is what it came to
abbrev told_here : ℕ → System → Answer → Option Extended → Directly
told_here p system answer extended = told_of (call_of system.kernel.dispatcher.procs p) answer extended

told_is_its : (images : ℕ → List ℕ) (s : Situation) (p : ℕ) (system : System) (kept : Kept) (answer : Answer) (extended : Option Extended) → ComesTo images s kept answer extended
    → told_here p system answer extended ≡ told_of_call s p system
told_is_its images s p system kept answer extended comes =
    let call = call_of system.kernel.dispatcher.procs p in
    ap (λ (a : Answer). told_of call a extended) comes.answer_is ∙ ap (λ (e : Option Extended). told_of call (file_call s).answer e) comes.extended_is

pub answered_ok : {A E : Type 0} (r : Result A E) (p : ℕ) (old new : System) (o n : Outside) (s : Situation) (kept : Kept) (disks : Disks) (answer : Answer) (extended : Option Extended)
    → ComesTo (images_of disks) s kept answer extended → kept.service ≡ None
    → OnOk r (new ≡ (call_over (told_here p old answer extended) p old).system) → OnOk r (CameOut o n (call_over (told_here p old answer extended) p old).emitted)
    → OnOk r ((new ≡ (call_over (told_of_call s p old) p old).system) × CameOut o n (call_over (told_of_call s p old) p old).emitted × StandsBetween kept disks (file_call s).filing)
answered_ok (Ok a) p old new o n s kept disks answer extended comes idle system wrote =
    let same = told_is_its (images_of disks) s p old kept answer extended comes in (
      subst (λ (told : Directly). new ≡ (call_over told p old).system) same system,
      subst (λ (told : Directly). CameOut o n (call_over told p old).emitted) same wrote,
      record { idle = idle; filing_is = comes.filing_is; stand = comes.stand },
    )
answered_ok (Err e) p old new o n s kept disks answer extended comes idle system wrote = tt

pub answered_err : {A : Type 0} (r : Result A Failed) (p : ℕ) (old : System) (o n : Outside) (s : Situation) (kept : Kept) (disks : Disks) (answer : Answer) (extended : Option Extended)
    → ComesTo (images_of disks) s kept answer extended
    → IfErr r (λ error. DeviceFails (by_sink error) o n (call_over (told_here p old answer extended) p old).emitted)
    → OnErr r (Stopped o n (call_over (told_of_call s p old) p old).emitted)
answered_err (Ok a) p old o n s kept disks answer extended comes failed = tt
answered_err (Err e) p old o n s kept disks answer extended comes failed =
    subst (λ (told : Directly). Stopped o n (call_over told p old).emitted) (told_is_its (images_of disks) s p old kept answer extended comes) failed

pub answered_whole : {A E : Type 0} (r : Result A E) (told : Directly) (p : ℕ) (old new : System) → IsWhole old → IsOver p old.kernel
    → OnOk r (new ≡ (call_over told p old).system) → OnOk r (IsWhole new)
answered_whole r told p old new w over = on_ok_weaker r (λ (is : new ≡ (call_over told p old).system). subst IsWhole (sym is) (whole_call_over told p old w over))

nobody_over : (told : Directly) (p : ℕ) (system : System) → (call_over told p system).system.kernel.dispatcher.completed ≡ []
unfolding call_over
nobody_over told p system = no_completions_finished _ (concluded told p (ready_again p system)).system refl

pub answered_nobody : {A E : Type 0} (r : Result A E) (told : Directly) (p : ℕ) (old new : System) → OnOk r (new ≡ (call_over told p old).system)
    → OnOk r (new.kernel.dispatcher.completed ≡ [])
answered_nobody r told p old new =
    on_ok_weaker r (λ (is : new ≡ (call_over told p old).system). ap (λ (s : System). s.kernel.dispatcher.completed) is ∙ nobody_over told p old)

-- nobody is served after it
pub over_serves : (told : Directly) (p : ℕ) (system : System) → system.kernel.disk.served ≡ None → ServesSame system (call_over told p system).system
unfolding call_over
over_serves told p system none =
    let again = ready_again p system in
    let afterwards = (concluded told p again).system in
    same_then system.kernel.disk afterwards.kernel.disk (call_over told p system).system.kernel.disk (concluded_serves told p again (ap (is_call_of p) none)) (finishing_serves afterwards)

-- what was written, whether the sink failed or not
pub ends_by_sink : {A : Type 0} (r : Result A Failed) (o n : Outside) (emitted : List Output) → Emits by_sink o n emitted r
    → EndsBySink o.kept.trace n.kept.trace o.faults.sink n.faults.sink r
ends_by_sink (Ok a) o n emitted emits = record { trace = emits.ok.trace; cause = wrote_cause a o n emitted emits.ok }
ends_by_sink (Err e) o n emitted emits = record { trace = emits.err.trace; cause = stopped_cause e o n emitted emits.err }

-- a step of the call in service: whose it is

step_whose : (b : Bool) (call : Served) (p : ℕ) (last : Bool) → (if b then Work call.p (call.left == 1) else Passing) ≡ Work p last → Some call.p ≡ Some p
step_whose true call p last works = ap served_one works
  where
    served_one : Turn → Option ℕ
    served_one Idle = None
    served_one Passing = None
    served_one (Work p last) = Some p
    served_one (Starts p) = None
step_whose false call p last works = absurd (cc)

working_by : (turn_steps : ℕ) (served : Option Served) (first : Option ℕ) (p : ℕ) (last : Bool) → answer_by turn_steps served first ≡ Work p last → option_map (λ (call : Served). call.p) served ≡ Some p
unfolding step_answer
working_by turn_steps None None p last works = absurd (cc)
working_by turn_steps None (Some q) p last works = absurd (cc)
working_by turn_steps (Some call) first p last works = step_whose (is_last_step turn_steps call) call p last works

working_process : (disk : DiskService) (p : ℕ) (last : Bool) → turn_answer disk ≡ Work p last → served_process disk ≡ Some p
unfolding turn_answer served_process
working_process disk p last works = working_by disk.turn_steps disk.served (first_of disk.waiting) p last works

-- of a last turn

over_process : (system : System) (p : ℕ) → turn_answer system.kernel.disk ≡ Work p true → process_over system ≡ Some p
unfolding process_over
over_process system p works =
    ap (option_and_then (λ (q : ℕ). over_by (turn_answer system.kernel.disk))) (working_process system.kernel.disk p true works) ∙ ap over_by works

pub over_served : (told : Directly) (system : System) (p : ℕ) → turn_answer system.kernel.disk ≡ Work p true → disk_served told system ≡ call_over told p (step_passed system)
unfolding disk_served
over_served told system p works =
    ap (λ (served : Option ℕ). served_by served told system) (working_process system.kernel.disk p true works) ∙ ap (λ (turn : Turn). over_after turn told (step_passed system)) works

pub over_files : (system : System) (files : FilesInService) (p : ℕ) → turn_answer system.kernel.disk ≡ Work p true → files_served system files ≡ files_over (Work p true) files
unfolding files_served
over_files system files p works =
    ap (λ (served : Option ℕ). files_served_by served system files) (working_process system.kernel.disk p true works) ∙ ap (λ (turn : Turn). files_over turn files) works

over_within : (system : System) (s : Situation) (p : ℕ) → turn_answer system.kernel.disk ≡ Work p true → told_within (Within s) system ≡ told_of_call s p system
unfolding told_within
over_within system s p works = ap (λ (over : Option ℕ). told_by_process over (Within s) system) (over_process system p works)

pub works_within : (turn_steps : ℕ) (served : Option Served) (first : Option ℕ) (p : ℕ) (last : Bool) (kept : Kept) (disks : Disks) (filing : Filing)
    → answer_by turn_steps served first ≡ Work p last → StandsWorkedBy turn_steps served kept disks (Between filing) → ⊥
works_within turn_steps None None p last kept disks filing works stands = absurd (cc)
works_within turn_steps None (Some q) p last kept disks filing works stands = absurd (cc)
works_within turn_steps (Some call) first p last kept disks filing works stands = stands

abbrev Passed : FilesInService → Outside → Outside → System → System → Kept → Disks → Type 0
Passed files o n old new kept disks =
    (new ≡ (disk_served (told_within files old) old).system) × CameOut o n (disk_served (told_within files old) old).emitted × StandsForFiles new.kernel.disk kept disks (files_served old files)

over_so : (system : System) (s : Situation) (p : ℕ) → turn_answer system.kernel.disk ≡ Work p true
    → disk_served (told_within (Within s) system) system ≡ call_over (told_of_call s p (step_passed system)) p (step_passed system)
over_so system s p works =
    ap (λ (told : Directly). disk_served told system) (over_within system s p works) ∙ over_served (told_of_call s p (step_passed system)) system p works

over_stands : (s : Situation) (p : ℕ) (o n : Outside) (old new : System) (kept : Kept) (disks : Disks) → turn_answer old.kernel.disk ≡ Work p true → (turned old.kernel.disk).served ≡ None
    → (new ≡ (call_over (told_of_call s p (step_passed old)) p (step_passed old)).system)
    × CameOut o n (call_over (told_of_call s p (step_passed old)) p (step_passed old)).emitted × StandsBetween kept disks (file_call s).filing
    → Passed (Within s) o n old new kept disks
over_stands s p o n old new kept disks works none so =
    let told = told_of_call s p (step_passed old) in
    let is : disk_served (told_within (Within s) old) old ≡ call_over told p (step_passed old) = over_so old s p works in
    let nobody : new.kernel.disk.served ≡ None =
    ap (λ (system : System). system.kernel.disk.served) so.0 ∙ (over_serves told p (step_passed old) none).served ∙ none in (
      so.0 ∙ sym (ap (λ c. c.system) is),
      subst (λ c. CameOut o n c.emitted) (sym is) so.1,
      record {
        stands = subst (λ (files : FilesInService). StandsServed new.kernel.disk.served kept disks files) (sym (over_files old (Within s) p works))
            (subst (λ (served : Option Served). StandsServed served kept disks (Between (file_call s).filing)) (sym nobody) so.2);
      },
    )

pub pass_over : {A E : Type 0} (r : Result A E) (files : FilesInService) (p : ℕ) (o n : Outside) (old new : System) (before kept : Kept) (disks : Disks)
    → turn_answer old.kernel.disk ≡ Work p true → (turned old.kernel.disk).served ≡ None → StandsWorked old.kernel.disk before disks files
    → ((s : Situation) → Serves (images_of disks) before s (call_turns s) → s.caller.process ≡ p
    → OnOk r ((new ≡ (call_over (told_of_call s p (step_passed old)) p (step_passed old)).system)
    × CameOut o n (call_over (told_of_call s p (step_passed old)) p (step_passed old)).emitted × StandsBetween kept disks (file_call s).filing))
    → OnOk r (Passed files o n old new kept disks)
unfolding turn_answer
pass_over r (Between filing) p o n old new before kept disks works none stands over =
    let disk = old.kernel.disk in absurd (works_within disk.turn_steps disk.served (first_of disk.waiting) p true before disks filing works stands.stands)
pass_over r (Within s) p o n old new before kept disks works none stands over =
    on_ok_weaker r (over_stands s p o n old new kept disks works none)
    (over s (last_turn_serves old.kernel.disk before disks s p works stands) (whose_turn old.kernel.disk before disks s p true works stands))

-- or the sink failed in it
pub pass_stops : {A E : Type 0} (r : Result A E) (files : FilesInService) (p : ℕ) (o n : Outside) (old : System) (before : Kept) (disks : Disks)
    → turn_answer old.kernel.disk ≡ Work p true → StandsWorked old.kernel.disk before disks files
    → ((s : Situation) → Serves (images_of disks) before s (call_turns s) → s.caller.process ≡ p
    → OnErr r (Stopped o n (call_over (told_of_call s p (step_passed old)) p (step_passed old)).emitted))
    → OnErr r (Stopped o n (disk_served (told_within files old) old).emitted)
unfolding turn_answer
pass_stops r (Between filing) p o n old before disks works stands over =
    let disk = old.kernel.disk in absurd (works_within disk.turn_steps disk.served (first_of disk.waiting) p true before disks filing works stands.stands)
pass_stops r (Within s) p o n old before disks works stands over =
    subst (λ (c : SystemChange). OnErr r (Stopped o n c.emitted)) (sym (over_so old s p works))
    (over s (last_turn_serves old.kernel.disk before disks s p works stands) (whose_turn old.kernel.disk before disks s p true works stands))

-- whatever it comes to
abbrev pub IsServedBy : System → System → Type 0
IsServedBy old new = IsOfSome (λ (told : Directly). (disk_served told old).system) new

abbrev pub IsOverFrom : ℕ → System → System → Type 0
IsOverFrom p old new = IsOfSome (λ (told : Directly). (call_over told p old).system) new

pub over_made : {A E : Type 0} (r : Result A E) (p : ℕ) (old new : System) → turn_answer old.kernel.disk ≡ Work p true
    → OnOk r (IsOverFrom p (step_passed old) new) → OnOk r (IsServedBy old new)
over_made r p old new works =
    on_ok_weaker r (λ (over : IsOverFrom p (step_passed old) new). (over.0, over.1 ∙ sym (ap (λ (c : SystemChange). c.system) (over_served over.0 old p works))))

-- of one that isn't a call's last

unfoldable pub IsNotLast : Turn → Type 0
IsNotLast turn = (p : ℕ) → turn ≡ Work p true → ⊥

some_served : (served : Option Served) → is_some served ≡ true → (q : ℕ) × (option_map (λ (call : Served). call.p) served ≡ Some q)
some_served None some = absurd (false≢true some)
some_served (Some call) some = (call.p, refl)

pub somebody : (disk : DiskService) → is_some disk.served ≡ true → (q : ℕ) × (served_process disk ≡ Some q)
unfolding served_process
somebody disk some = some_served disk.served some

nothing_over : (turn : Turn) (told : Directly) (system : System) → IsNotLast turn → over_after turn told system ≡ silent system
unfolding IsNotLast
nothing_over Idle told system more = refl
nothing_over Passing told system more = refl
nothing_over (Starts p) told system more = refl
nothing_over (Work p true) told system more = absurd (more p refl)
nothing_over (Work p false) told system more = refl

pub silent_served : (told : Directly) (system : System) → is_some system.kernel.disk.served ≡ true → IsNotLast (turn_answer system.kernel.disk)
    → disk_served told system ≡ silent (step_passed system)
unfolding disk_served
silent_served told system some more =
    ap (λ (served : Option ℕ). served_by served told system) (somebody system.kernel.disk some).1
    ∙ nothing_over (turn_answer system.kernel.disk) told (step_passed system) more

same_files : (turn : Turn) (s : Situation) → IsNotLast turn → files_over turn (Within s) ≡ Within s
unfolding IsNotLast
same_files Idle s more = refl
same_files Passing s more = refl
same_files (Starts p) s more = refl
same_files (Work p true) s more = absurd (more p refl)
same_files (Work p false) s more = refl

pub same_served : (system : System) (s : Situation) → is_some system.kernel.disk.served ≡ true → IsNotLast (turn_answer system.kernel.disk) → files_served system (Within s) ≡ Within s
unfolding files_served
same_served system s some more =
    ap (λ (served : Option ℕ). files_served_by served system (Within s)) (somebody system.kernel.disk some).1 ∙ same_files (turn_answer system.kernel.disk) s more

-- what stands goes on by the turn
served_still : (served : Option Served) (turn : Turn) (turn_steps : ℕ) (first : Option ℕ) → answer_by turn_steps served first ≡ turn → is_some served ≡ true
    → ((turn ≡ Passing) ⊎ ((p : ℕ) × (last : Bool) × (turn ≡ Work p last)))
unfolding step_answer
served_still None turn turn_steps first is some = absurd (false≢true some)
served_still (Some call) turn turn_steps first is some = by_step (is_last_step turn_steps call) is
  where
    by_step : (b : Bool) → (if b then Work call.p (call.left == 1) else Passing) ≡ turn → ((turn ≡ Passing) ⊎ ((p : ℕ) × (last : Bool) × (turn ≡ Work p last)))
    by_step true works = inr (call.p, (call.left == 1), sym works)
    by_step false passes = inl (sym passes)

more_stands : (disk : DiskService) (kept : Kept) (disks : Disks) (s : Situation) (p : ℕ) (last : Bool) → turn_answer disk ≡ Work p last → IsNotLast (turn_answer disk)
    → StandsWorked disk kept disks (Within s) → StandsForFiles (turned disk) kept disks (Within s)
unfolding IsNotLast
more_stands disk kept disks s p true works more stands = absurd (more p works)
more_stands disk kept disks s p false works more stands = turn_stands disk kept disks s p works stands

pub turn_goes_on : (disk : DiskService) (kept : Kept) (disks : Disks) (s : Situation) → is_some disk.served ≡ true → IsNotLast (turn_answer disk)
    → StandsWorked disk kept disks (Within s) → StandsForFiles (turned disk) kept disks (Within s)
unfolding turn_answer
turn_goes_on disk kept disks s some more stands =
    elim (served_still disk.served (turn_answer disk) disk.turn_steps (first_of disk.waiting) refl some) [
      | inl passes ↦ passing_stands disk kept disks s passes stands
      | inr works ↦ more_stands disk kept disks s works.0 works.1 works.2 more stands
    ]

pub not_between : (turn_steps : ℕ) (served : Option Served) (kept : Kept) (disks : Disks) (filing : Filing) → is_some served ≡ true
    → StandsWorkedBy turn_steps served kept disks (Between filing) → ⊥
not_between turn_steps None kept disks filing some stands = false≢true some
not_between turn_steps (Some call) kept disks filing some stands = stands

pub pass_on : (files : FilesInService) (o : Outside) (old : System) (kept : Kept) (disks : Disks) → is_some old.kernel.disk.served ≡ true → IsNotLast (turn_answer old.kernel.disk)
    → StandsWorked old.kernel.disk kept disks files → Passed files o o old (step_passed old) kept disks
pass_on (Between filing) o old kept disks some more stands = absurd (not_between old.kernel.disk.turn_steps old.kernel.disk.served kept disks filing some stands.stands)
pass_on (Within s) o old kept disks some more stands =
    let is = silent_served (told_within (Within s) old) old some more in (
      sym (ap (λ (c : SystemChange). c.system) is),
      subst (λ (c : SystemChange). CameOut o o c.emitted) (sym is) (wrote_nothing o),
      subst (λ (files : FilesInService). StandsForFiles (turned old.kernel.disk) kept disks files) (sym (same_served old s some more)) (turn_goes_on old.kernel.disk kept disks s some more stands),
    )

pub passed_made : (old : System) (kernel : Kernel) → kernel ≡ with_disk turned old.kernel → is_some old.kernel.disk.served ≡ true
    → IsNotLast (turn_answer old.kernel.disk) → IsServedBy old (record old { kernel = kernel })
passed_made old kernel is some more =
    (nothing_told, ap (λ (k : Kernel). record old { kernel = k }) is ∙ sym (ap (λ (c : SystemChange). c.system) (silent_served nothing_told old some more)))

-- the other answers of the disk are none of a last turn
pub not_last : (turn : Turn) (p : ℕ) → turn ≡ Work p false → IsNotLast turn
unfolding IsNotLast
not_last turn p is = λ q last. apart p q (sym is ∙ last)
  where
    apart : (p q : ℕ) → Work p false ≡ Work q true → ⊥
    apart p q e = absurd (cc)

-- the system after the disk's step, and whose call it was
pub passed_is : (old : System) (kernel : Kernel) → kernel ≡ with_disk turned old.kernel → record old { kernel = kernel } ≡ step_passed old
passed_is old kernel is = ap (λ (k : Kernel). record old { kernel = k }) is

pub works_last : (disk : DiskService) (answer : Turn) (p : ℕ) (last : Bool) → answer ≡ turn_answer disk → answer ≡ Work p last → last ≡ true → turn_answer disk ≡ Work p true
works_last disk answer p last is works ends = sym is ∙ works ∙ ap (λ (b : Bool). Work p b) ends

pub works_on : (disk : DiskService) (answer : Turn) (p : ℕ) (last : Bool) → answer ≡ turn_answer disk → answer ≡ Work p last → last ≡ false → IsNotLast (turn_answer disk)
works_on disk answer p last is works ends = not_last (turn_answer disk) p (sym is ∙ works ∙ ap (λ (b : Bool). Work p b) ends)

pub never_on : (disk : DiskService) (answer : Turn) → answer ≡ turn_answer disk → ((p : ℕ) (last : Bool) → answer ≡ Work p last → ⊥) → IsNotLast (turn_answer disk)
unfolding IsNotLast
never_on disk answer is never = λ p works. never p true (is ∙ works)

-- so it goes on
pub passes_so : (files : FilesInService) (o : Outside) (old : System) (kernel : Kernel) (kept : Kept) (disks : Disks) → kernel ≡ with_disk turned old.kernel
    → is_some old.kernel.disk.served ≡ true → IsNotLast (turn_answer old.kernel.disk) → StandsWorked old.kernel.disk kept disks files
    → Passed files o o old (record old { kernel = kernel }) kept disks
passes_so files o old kernel kept disks is some more stands =
    subst (λ (new : System). Passed files o o old new kept disks) (sym (passed_is old kernel is)) (pass_on files o old kept disks some more stands)

pub begun_so : (disk after : DiskService) (answer : Turn) → is_some disk.served ≡ true → answer ≡ turn_answer disk → IsAfter answer after → HasBegun after
unfolding turn_answer
begun_so disk after answer some is so =
    elim (served_still disk.served (turn_answer disk) disk.turn_steps (first_of disk.waiting) refl some) [
      | inl passes ↦ subst (λ (turn : Turn). IsAfter turn after) (is ∙ passes) so
      | inr works ↦ subst (λ (turn : Turn). IsAfter turn after) (is ∙ works.2) so
    ]

-- after the last nobody is served

none_by : (turn_steps : ℕ) (served : Option Served) (first : Option ℕ) (p : ℕ) → answer_by turn_steps served first ≡ Work p true → served_after turn_steps served first ≡ None
none_by turn_steps None None p works = absurd (cc)
none_by turn_steps None (Some q) p works = absurd (cc)
none_by turn_steps (Some call) first p works = last_ends call turn_steps _ _ p refl refl works

pub none_behind : (disk : DiskService) (p : ℕ) → turn_answer disk ≡ Work p true → (turned disk).served ≡ None
unfolding turn_answer turned
none_behind disk p works = none_by disk.turn_steps disk.served (first_of disk.waiting) p works

pub nobody_behind : {A E : Type 0} (r : Result A E) (p : ℕ) (old new : System) → turn_answer old.kernel.disk ≡ Work p true
    → OnOk r (IsOverFrom p (step_passed old) new) → OnOk r (new.kernel.disk.served ≡ None)
nobody_behind r p old new works =
    on_ok_weaker r (λ (over : IsOverFrom p (step_passed old) new).
    let none = none_behind old.kernel.disk p works in
    ap (λ (system : System). system.kernel.disk.served) over.1 ∙ (over_serves over.0 p (step_passed old) none).served ∙ none)

pub none_holds : {A E : Type 0} (r : Result A E) (P : Served → Type 0) (disk : DiskService) → OnOk r (disk.served ≡ None) → OnOk r (IfSome disk.served P)
none_holds r P disk = on_ok_weaker r (λ (none : disk.served ≡ None). subst (λ (served : Option Served). IfSome served P) (sym none) tt)

-- whose call it is stays so, and his own, as it goes on
own_after : (b c : Bool) (call : Served) (P : ℕ → Type 0) → P call.p
    → IfSome (if b then (if c then None else (Some (record call { left = call.left - 1; passed = 0 }))) else (Some (record call { passed = call.passed + 1 }))) (λ (next : Served). P next.p)
own_after true true call P own = tt
own_after true false call P own = own
own_after false c call P own = own

own_turned : (turn_steps : ℕ) (served : Option Served) (first : Option ℕ) (P : ℕ → Type 0) → is_some served ≡ true → IfSome served (λ (call : Served). P call.p)
    → IfSome (served_after turn_steps served first) (λ (call : Served). P call.p)
unfolding after_step
own_turned turn_steps None first P some own = absurd (false≢true some)
own_turned turn_steps (Some call) first P some own = own_after (is_last_step turn_steps call) (call.left == 1) call P own

pub own_so : (old kernel : Kernel) (service : Option InService) → kernel ≡ with_disk turned old → is_some old.disk.served ≡ true
    → IfSome old.disk.served (λ (call : Served). IsOwnCall old.dispatcher.procs call.p service) → IfSome kernel.disk.served (λ (call : Served). IsOwnCall kernel.dispatcher.procs call.p service)
unfolding turned
own_so old kernel service is some own =
    subst (λ (k : Kernel). IfSome k.disk.served (λ (call : Served). IsOwnCall k.dispatcher.procs call.p service)) (sym is)
    (own_turned old.disk.turn_steps old.disk.served (first_of old.disk.waiting) (λ p. IsOwnCall old.dispatcher.procs p service) some own)

-- a call that is over, whose process is ready again, and what it comes to
pub again_whole : (p : ℕ) (old : System) (kernel : Kernel) → IsWhole old → IsOver p old.kernel → kernel ≡ made_ready_again p old.kernel → IsWhole (record old { kernel = kernel })
again_whole p old kernel w over is =
    subst (λ (k : Kernel). IsWhole (record old { kernel = k })) (sym is) (whole_ready_again p old w over)

pub concluded_whole : (told : Directly) (p : ℕ) (old new : System) (kernel : Kernel) → IsWhole old → IsOver p old.kernel → kernel ≡ made_ready_again p old.kernel
    → new ≡ (concluded told p (record old { kernel = kernel })).system → IsWhole new
concluded_whole told p old new kernel w over is came =
    subst IsWhole (sym came)
    (whole_concluded told p (record old { kernel = kernel }) (again_whole p old kernel w over is) (subst (λ (k : Kernel). Lives k.dispatcher.procs p) (sym is) over.lives))

pub concluded_room : (told : Directly) (p : ℕ) (old new : System) (kernel : Kernel) → HasRoomForAll (length old.records + 1)
    → new ≡ (concluded told p (record old { kernel = kernel })).system → HasRoomForAll (length new.records)
concluded_room told p old new kernel room came =
    omega (arith, room, (concluded_more told p (record old { kernel = kernel })).few, ap (λ (s : System). length s.records) came)
