-- For which drives the images stand after a step whose disk's step they allow, also where its sink failed: nothing after a turn's work
-- changes an image.
use Rattle.std.proofs.Common.{◌≡◌, ◌∙◌, ◌-◌, ℕ, Bool, true, false, List, Option, Some, None, is_some, option_map, inl, inr, refl, sym, ap, subst, arith}
use Rattle.std.specs.Prelude.{◌⊎◌, slice_index_or, slice_set, unwrap_or}
use Rattle.std.proofs.lemmas.Bool.{false≢true}
use Rattle.std.proofs.lemmas.List.{set-get_or}
use Rattle.mpm_port.specs.Disks.{Disks}
use Rattle.mpm_mount.specs.Drives.{Drive}
use Rattle.mpm_mount.specs.Directories.{Directory}
use Rattle.mpm_procs.specs.Table.{call_of}
use Rattle.mpm_ready.specs.Order.{first_of}
use Rattle.mpm_service.specs.Disk.{turned, turn_answer, begun, with_turns}
use Rattle.mpm_service.specs.declared.service.Served.{Served}
use Rattle.mpm_service.specs.declared.service.Turn.{Turn}
use Rattle.mpm_service.specs.declared.service.Turn.TheVariants.{Idle, Passing, Work, Starts}
use Rattle.mpm_jobs.specs.declared.jobs.Job.{Job}
use Rattle.mpm_files.proofs.TurnLaws.{no_turn}
use Rattle.mpm_file_functions.specs.declared.functions.FileFunction.{FileFunction}
use Rattle.mpm_directories.specs.Direct.{Directly}
use Rattle.mpm_refusals.specs.Filing.{Filing, Situation}
use Rattle.mpm_file_functions.specs.Functions.{function_of}
use Rattle.mpm_bdos.specs.Jobs.{call_turns, job_of}
use Rattle.mpm_bdos.specs.Outcomes.{file_call, drives_after}
use Rattle.mpm_bdos.specs.Serving.{Kept, StandEach}
use Rattle.mpm_refusals.specs.Subjects.{drive_number, blank_drive, drive_at}
use Rattle.mpm_bdos.specs.Turns.{images_of}
use Rattle.mpm_bdos.proofs.NextTurns.{job_drives, idle_drives}
use Rattle.mpm_bdos.proofs.ServedLaws.{job_mounted}
use Rattle.mpm_bdos.proofs.ServingLaws.{stand_at_last}
use Rattle.mpm_system.specs.declared.system.System.{System}
use Rattle.mpm_system.specs.Whole.{SystemChange, silent}
use Rattle.mpm_machine.specs.Files.{FilesInService, Between, Within, AreWithin, drives_in, turns_ended, StandsServed, StandsWorked, given_back}
use Rattle.mpm_machine.specs.DiskStep.{step_passed, disk_served, files_served, all_paid, entered_by, call_entered, within_call, files_entered_by, files_entered, turns_within}
use Rattle.mpm_machine.specs.FileCalls.{situation_of}
use Rattle.mpm_machine.specs.Failing.{HaveImages}
use Rattle.mpm_machine.specs.After.{EndKeeps}
use Rattle.mpm_machine.specs.Stepping.{Telling, nothing_told, told_within, paid_after, entered_after, ended_after, rest_of, telling_then, files_paid, files_then, files_rest}
use Rattle.mpm_machine.proofs.KeepingLaws.{ends_serve}
use Rattle.mpm_machine.proofs.TurnLaws.{last_turn_serves, drives_left}
use Rattle.mpm_machine.proofs.ServeLaws.{IsNotLast, over_served, over_files, over_serves, works_within, silent_served, same_served, turn_goes_on, not_between, none_behind}
use Rattle.mpm_machine.proofs.EnterLaws.{none_served, files_kept, worked_between, entered_so, files_so, nobody_enters, files_stay}
use Rattle.mpm_machine.proofs.StandingLaws.{within_by}

-- the drives that files say stand, where files do
stand_in : (served : Option Served) (kept : Kept) (disks : Disks) (files : FilesInService) → StandsServed served kept disks files
    → StandEach (images_of disks) kept.mounted (drives_in served files)
unfolding drives_in
stand_in None kept disks (Between filing) stands = stands.stand
stand_in None kept disks (Within s) stands = absurd stands
stand_in (Some call) kept disks (Between filing) stands = absurd stands
stand_in (Some call) kept disks (Within s) stands =
    let ended : stands.turns ≡ turns_ended call s = omega (arith, stands.left) in
    subst (λ (j : ℕ). StandEach (images_of disks) kept.mounted (drives_after s j)) ended stands.serves.stand

-- after the step of the disk

record StandIn (kept : Kept) (disks : Disks) (served : Option Served) (files : FilesInService) : Type 0 where
  pub within : AreWithin served files
  pub stand : StandEach (images_of disks) kept.mounted (drives_in served files)

stands_so : (served : Option Served) (kept : Kept) (disks : Disks) (files : FilesInService) → StandsServed served kept disks files → StandIn kept disks served files
stands_so served kept disks files stands = record { within = within_by served kept disks files stands; stand = stand_in served kept disks files stands }

pub last_or_not : (turn : Turn) → ((p : ℕ) × (turn ≡ Work p true)) ⊎ IsNotLast turn
unfolding IsNotLast
last_or_not Idle = inr (λ p is. absurd (cc))
last_or_not Passing = inr (λ p is. absurd (cc))
last_or_not (Starts q) = inr (λ p is. absurd (cc))
last_or_not (Work q true) = inl (q, refl)
last_or_not (Work q false) = inr (λ p is. absurd (cc))

last_stands : (told : Directly) (old : System) (kept : Kept) (disks : Disks) (files : FilesInService) (p : ℕ) → turn_answer old.kernel.disk ≡ Work p true
    → StandsWorked old.kernel.disk kept disks files → StandIn kept disks (disk_served told old).system.kernel.disk.served (files_served old files)
unfolding turn_answer drives_in
last_stands told old kept disks (Between filing) p works stands =
    let disk = old.kernel.disk in absurd (works_within disk.turn_steps disk.served (first_of disk.waiting) p true kept disks filing works stands.stands)
last_stands told old kept disks (Within s) p works stands =
    let nobody : (disk_served told old).system.kernel.disk.served ≡ None =
    ap (λ (c : SystemChange). c.system.kernel.disk.served) (over_served told old p works)
    ∙ (over_serves told p (step_passed old) (none_behind old.kernel.disk p works)).served ∙ none_behind old.kernel.disk p works in
    subst (λ (files : FilesInService). StandIn kept disks (disk_served told old).system.kernel.disk.served files) (sym (over_files old (Within s) p works))
    (subst (λ (served : Option Served). StandIn kept disks served (Between (file_call s).filing)) (sym nobody)
    (record { within = tt; stand = stand_at_last (images_of disks) kept s (last_turn_serves old.kernel.disk kept disks s p works stands) }))

more_stands : (told : Directly) (old : System) (kept : Kept) (disks : Disks) (files : FilesInService) → is_some old.kernel.disk.served ≡ true → IsNotLast (turn_answer old.kernel.disk)
    → StandsWorked old.kernel.disk kept disks files → StandIn kept disks (disk_served told old).system.kernel.disk.served (files_served old files)
more_stands told old kept disks (Between filing) some more stands = absurd (not_between old.kernel.disk.turn_steps old.kernel.disk.served kept disks filing some stands.stands)
more_stands told old kept disks (Within s) some more stands =
    subst (λ (files : FilesInService). StandIn kept disks (disk_served told old).system.kernel.disk.served files) (sym (same_served old s some more))
    (subst (λ (c : SystemChange). StandIn kept disks c.system.kernel.disk.served (Within s)) (sym (silent_served told old some more))
    (stands_so (turned old.kernel.disk).served kept disks (Within s) (turn_goes_on old.kernel.disk kept disks s some more stands).stands))

none_stands : (told : Directly) (old : System) (kept : Kept) (disks : Disks) (files : FilesInService) → old.kernel.disk.served ≡ None
    → StandsWorked old.kernel.disk kept disks files → StandIn kept disks (disk_served told old).system.kernel.disk.served (files_served old files)
none_stands told old kept disks files none stands =
    subst (λ (f : FilesInService). StandIn kept disks (disk_served told old).system.kernel.disk.served f) (sym (files_kept old files none))
    (subst (λ (c : SystemChange). StandIn kept disks c.system.kernel.disk.served files) (sym (none_served told old none))
    (stands_so old.kernel.disk.served kept disks files (worked_between old.kernel.disk.turn_steps old.kernel.disk.served kept disks files none stands.stands)))

pub none_or : (served : Option Served) → (served ≡ None) ⊎ (is_some served ≡ true)
none_or None = inl refl
none_or (Some call) = inr refl

served_stands : (told : Directly) (old : System) (kept : Kept) (disks : Disks) (files : FilesInService) → StandsWorked old.kernel.disk kept disks files
    → StandIn kept disks (disk_served told old).system.kernel.disk.served (files_served old files)
served_stands told old kept disks files stands = elim (none_or old.kernel.disk.served) [
  | inl none ↦ none_stands told old kept disks files none stands
  | inr some ↦ elim (last_or_not (turn_answer old.kernel.disk)) [
    | inl last ↦ last_stands told old kept disks files last.0 last.1 stands
    | inr more ↦ more_stands told old kept disks files some more stands
  ]
]

drives_given : (owed : List Bool) (served : Option Served) (files : FilesInService) → drives_in served (given_back owed files) ≡ drives_in served files
unfolding drives_in
drives_given owed served (Between filing) = drives_left owed filing
drives_given owed served (Within s) = refl

-- the call that enters finds them

some_is : (drive : Option Drive) → is_some drive ≡ true → Some (unwrap_or drive blank_drive) ≡ drive
some_is None there = absurd (false≢true there)
some_is (Some drive) there = refl

first_by : (s : Situation) (job : Option Job) → job_of s ≡ job → drives_after s 0 ≡ s.filing.drives
unfolding drive_at
first_by s None is = idle_drives s 0 is
first_by s (Some job) is =
    let number = drive_number s in
    job_drives s job 0 is
    ∙ ap (λ (drive : Drive). slice_set s.filing.drives number (Some drive)) (no_turn (drive_at s) job)
    ∙ ap (slice_set s.filing.drives number) (some_is (slice_index_or s.filing.drives number None) (job_mounted s job is))
    ∙ set-get_or s.filing.drives number None

none_ended : (n : ℕ) → n - n ≡ 0
none_ended n = omega arith

entered_drives : (served : Option Served) (filing : Filing) (function : Option FileFunction) (p : ℕ) (system : System)
    → drives_in (option_map (with_turns (turns_within (within_call function filing p system))) served) (within_call function filing p system) ≡ filing.drives
unfolding drives_in
entered_drives None filing None p system = refl
entered_drives (Some call) filing None p system = refl
entered_drives None filing (Some function) p system = refl
entered_drives (Some call) filing (Some function) p system =
    let s = situation_of filing function p system in
    ap (drives_after s) (none_ended (call_turns s)) ∙ first_by s (job_of s) refl

entry_drives : (turn : Turn) (system : System) (filing : Filing) → turn_answer system.kernel.disk ≡ turn → system.kernel.disk.served ≡ None
    → drives_in (entered_by turn (turns_within (files_entered_by turn system (Between filing))) (step_passed system)).kernel.disk.served (files_entered_by turn system (Between filing)) ≡ filing.drives
unfolding drives_in begun
entry_drives Idle system filing answer none = refl
entry_drives Passing system filing answer none = refl
entry_drives (Work p last) system filing answer none = refl
entry_drives (Starts p) system filing answer none =
    entered_drives (turned system.kernel.disk).served filing (function_of (call_of system.kernel.dispatcher.procs p).function) p system

abbrev Drives : Kept → Disks → Option Served → FilesInService → Type 0
Drives kept disks served files = StandEach (images_of disks) kept.mounted (drives_in served files)

entry_stands_in : (system : System) (kept : Kept) (disks : Disks) (files : FilesInService) → system.kernel.disk.served ≡ None → StandIn kept disks system.kernel.disk.served files
    → Drives kept disks (call_entered (turns_within (files_entered system files)) system).kernel.disk.served (files_entered system files)
unfolding drives_in
entry_stands_in system kept disks (Between filing) none stands =
    let turn = turn_answer system.kernel.disk in
    let files : files_entered system (Between filing) ≡ files_entered_by turn system (Between filing) = files_so system (Between filing) turn none refl in
    let P : FilesInService → Type 0 = λ f. Drives kept disks (call_entered (turns_within f) system).kernel.disk.served f in
    subst P (sym files)
    (subst (λ (s : System). Drives kept disks s.kernel.disk.served (files_entered_by turn system (Between filing)))
    (sym (entered_so (turns_within (files_entered_by turn system (Between filing))) system turn none refl))
    (subst (λ (drives : List (Option Drive)). StandEach (images_of disks) kept.mounted drives) (sym (entry_drives turn system filing refl none)) stands.stand))
entry_stands_in system kept disks (Within s) none stands = absurd (subst (λ (served : Option Served). AreWithin served (Within s)) none stands.within)

entered_stands : (system : System) (kept : Kept) (disks : Disks) (files : FilesInService) → StandIn kept disks system.kernel.disk.served files
    → Drives kept disks (call_entered (turns_within (files_entered system files)) system).kernel.disk.served (files_entered system files)
entered_stands system kept disks files stands = elim (none_or system.kernel.disk.served) [
  | inl none ↦ entry_stands_in system kept disks files none stands
  | inr some ↦
      let P : FilesInService → Type 0 = λ f. Drives kept disks (call_entered (turns_within f) system).kernel.disk.served f in
      subst P (sym (files_stay system files some))
      (subst (λ (s : System). Drives kept disks s.kernel.disk.served files) (sym (nobody_enters (turns_within files) system some)) stands.stand)
]

-- after the disk's step, and after the whole rest of the step

given_within : (owed : List Bool) (served : Option Served) (files : FilesInService) → AreWithin served files → AreWithin served (given_back owed files)
given_within owed None (Between filing) within = tt
given_within owed None (Within s) within = within
given_within owed (Some call) (Between filing) within = within
given_within owed (Some call) (Within s) within = tt

given_stands : (owed : List Bool) (served : Option Served) (kept : Kept) (disks : Disks) (files : FilesInService) → StandIn kept disks served files → StandIn kept disks served (given_back owed files)
given_stands owed served kept disks files stands = record {
  within = given_within owed served files stands.within;
  stand = subst (λ (drives : List (Option Drive)). StandEach (images_of disks) kept.mounted drives) (sym (drives_given owed served files)) stands.stand;
}

then_stands : (old : System) (kept : Kept) (disks : Disks) (files : FilesInService) → StandsWorked old.kernel.disk kept disks files
    → Drives kept disks (entered_after (telling_then nothing_told old files) old).kernel.disk.served (files_then old files)
unfolding files_then files_paid entered_after telling_then all_paid
then_stands old kept disks files stands =
    let told = told_within files old in
    let passed = (disk_served told old).system in
    entered_stands (paid_after told old) kept disks (given_back passed.owed (files_served old files))
    (given_stands passed.owed passed.kernel.disk.served kept disks (files_served old files) (served_stands told old kept disks files stands))

rest_serves : (instruction : Bool) (telling : Telling) (old : System) → (rest_of instruction telling (silent old)).system.kernel.disk.served ≡ (entered_after telling old).kernel.disk.served
unfolding rest_of ended_after all_paid
rest_serves instruction telling old = (ends_serve (entered_after telling old)).served

rest_stands : (instruction : Bool) (old : System) (kept : Kept) (disks : Disks) (files : FilesInService) → StandsWorked old.kernel.disk kept disks files
    → Drives kept disks (rest_of instruction (telling_then nothing_told old files) (silent old)).system.kernel.disk.served (files_rest old files)
unfolding files_rest
rest_stands instruction old kept disks files stands =
    let telling = telling_then nothing_told old files in
    let owed = (ended_after telling old).owed in
    let P : List (Option Drive) → Type 0 = λ drives. StandEach (images_of disks) kept.mounted drives in
    subst (λ (served : Option Served). Drives kept disks served (given_back owed (files_then old files))) (sym (rest_serves instruction telling old))
    (subst P (sym (drives_given owed (entered_after telling old).kernel.disk.served (files_then old files))) (then_stands old kept disks files stands))

-- so the images do where the sink failed in it, which leaves the directories
pub rest_images : (instruction : Bool) (old : System) (kept new : Kept) (disks : Disks) (files : FilesInService) → EndKeeps kept new
    → StandsWorked old.kernel.disk kept disks files
    → HaveImages disks new.mounted (drives_in (rest_of instruction (telling_then nothing_told old files) (silent old)).system.kernel.disk.served (files_rest old files))
rest_images instruction old kept new disks files keeps stands =
    let drives = drives_in (rest_of instruction (telling_then nothing_told old files) (silent old)).system.kernel.disk.served (files_rest old files) in
    let P : List (Option Directory) → Type 0 = λ mounted. HaveImages disks mounted drives in
    subst P (sym (ap (λ (k : Kept). k.mounted) keeps))
    (record { directories = kept.mounted; labels = λ number. refl; stand = rest_stands instruction old kept disks files stands })
