-- After each step no two locks are of one record.
use Rattle.std.proofs.Common.{ℕ, zero, suc, Bool, true, false, cond, List, [], ◌∷◌, Option, Some, None, sym, subst}
use Rattle.std.specs.List.{range_with_len}
use Rattle.mpm_mount.specs.Drives.{Drive}
use Rattle.mpm_base.proofs.Choices.{either}
use Rattle.mpm_service.specs.Disk.{turn_answer, served_process}
use Rattle.mpm_service.specs.declared.service.Turn.{Turn}
use Rattle.mpm_service.specs.declared.service.Turn.TheVariants.{Idle, Passing, Work, Starts}
use Rattle.mpm_opens.specs.Opens.{AreOpen, none_open}
use Rattle.mpm_opens.proofs.OpenLaws.{none_are_open}
use Rattle.mpm_procs.specs.Table.{call_of}
use Rattle.mpm_file_functions.specs.declared.functions.FileFunction.{FileFunction}
use Rattle.mpm_file_functions.specs.declared.functions.DirectFunction.{DirectFunction}
use Rattle.mpm_file_functions.specs.Functions.{function_of, direct_of}
use Rattle.mpm_refusals.specs.Filing.{Filing}
use Rattle.mpm_bdos.specs.Outcomes.{left_by, without_search}
use Rattle.mpm_bdos.proofs.SoundLaws.{call_keeps_sound, end_keeps_sound}
use Rattle.mpm_system.specs.declared.system.System.{System}
use Rattle.mpm_system.specs.FileCalling.{call_made}
use Rattle.mpm_machine.specs.State.{State}
use Rattle.mpm_machine.specs.Mounting.{untouched}
use Rattle.mpm_machine.specs.Files.{FilesInService, Between, Within, filing_in, owes, all_left, given_back}
use Rattle.mpm_machine.specs.FileCalls.{file_caller, situation_of, outcome_by, outcome_in}
use Rattle.mpm_machine.specs.DiskStep.{is_done_at_once, disk_served, done_at_once, files_called, files_over, files_served_by, files_served, within_call, entering_call, files_entered_by, files_entered_unless, files_entered}
use Rattle.mpm_machine.specs.Stepping.{nothing_told, files_begun_by, files_begun, before_disk, told_within, paid_after, ended_after, telling_then, files_paid, files_then, files_rest, stepped}
use Rattle.mpm_machine.specs.After.{next, after}
use Rattle.mpm_machine.proofs.LeftLaws.{left_each, all_left_each}

-- the call that is made in a step
sound_outcome : (function : Option FileFunction) (other : Option DirectFunction) (filing : Filing) (p : ℕ) (system : System) → AreOpen filing.opens
    → AreOpen (outcome_by function other filing p system).filing.opens
sound_outcome (Some function) other filing p system sound = call_keeps_sound (situation_of filing function p system) sound
sound_outcome None (Some function) filing p system sound = sound
sound_outcome None None filing p system sound = sound

sound_call : (filing : Filing) (p : ℕ) (system : System) → AreOpen filing.opens → AreOpen (outcome_in filing p system).filing.opens
unfolding outcome_in
sound_call filing p system sound =
    sound_outcome (function_of (call_of system.kernel.dispatcher.procs p).function) (direct_of (call_of system.kernel.dispatcher.procs p).function) filing p system sound

-- of files, between two calls of the disk or within one
abbrev AreSound : FilesInService → Type 0
AreSound files = AreOpen (filing_in files).opens

sound_at_once : (p : ℕ) (system : System) (files : FilesInService) → AreSound files → AreSound (done_at_once p system files)
sound_at_once p system (Between filing) sound = sound_call filing p system sound
sound_at_once p system (Within s) sound = sound

pub sound_called : (p : ℕ) (system : System) (files : FilesInService) → AreSound files → AreSound (files_called p system files)
unfolding files_called
sound_called p system files sound = either AreSound (is_done_at_once p system) _ _ (λ _. sound_at_once p system files sound) (λ _. sound)

sound_begun_by : (caller : Option ℕ) (system : System) (files : FilesInService) → AreSound files → AreSound (files_begun_by caller system files)
sound_begun_by None system files sound = sound
sound_begun_by (Some p) system files sound = sound_called p (call_made p system) files sound

sound_begun : (system : System) (files : FilesInService) → AreSound files → AreSound (files_begun system files)
unfolding files_begun
sound_begun system files sound = sound_begun_by (file_caller system) system files sound

-- the call that is over
sound_over : (turn : Turn) (files : FilesInService) → AreSound files → AreSound (files_over turn files)
sound_over Idle files sound = sound
sound_over Passing files sound = sound
sound_over (Starts p) files sound = sound
sound_over (Work p last) (Between filing) sound = sound
sound_over (Work p true) (Within s) sound = call_keeps_sound s sound
sound_over (Work p false) (Within s) sound = sound

sound_served_by : (served : Option ℕ) (system : System) (files : FilesInService) → AreSound files → AreSound (files_served_by served system files)
sound_served_by None system files sound = sound
sound_served_by (Some p) system files sound = sound_over (turn_answer system.kernel.disk) files sound

pub sound_served : (system : System) (files : FilesInService) → AreSound files → AreSound (files_served system files)
unfolding files_served
sound_served system files sound = sound_served_by (served_process system.kernel.disk) system files sound

-- what those leave who end in it
sound_if_gone : (gone : Bool) (p : ℕ) (filing : Filing) → AreOpen filing.opens → AreOpen (cond gone (without_search (left_by filing p) p) filing).opens
sound_if_gone true p filing sound = end_keeps_sound filing p sound
sound_if_gone false p filing sound = sound

sound_each : (gone : ℕ → Bool) (ps : List ℕ) (filing : Filing) → AreOpen filing.opens → AreOpen (left_each gone ps filing).opens
unfolding left_each
sound_each gone [] filing sound = sound
sound_each gone (p ∷ ps) filing sound = sound_each gone ps (cond (gone p) (without_search (left_by filing p) p) filing) (sound_if_gone (gone p) p filing sound)

sound_behind : (owed : List Bool) (filing : Filing) → AreOpen filing.opens → AreOpen (all_left owed filing).opens
sound_behind owed filing sound =
    subst (λ (f : Filing). AreOpen f.opens) (sym (all_left_each owed filing)) (sound_each (owes owed) (range_with_len 0 32) filing sound)

pub sound_given : (owed : List Bool) (files : FilesInService) → AreSound files → AreSound (given_back owed files)
sound_given owed (Between filing) sound = sound_behind owed filing sound
sound_given owed (Within s) sound = sound

-- the call that enters
sound_within : (function : Option FileFunction) (filing : Filing) (p : ℕ) (system : System) → AreOpen filing.opens → AreSound (within_call function filing p system)
sound_within None filing p system sound = sound
sound_within (Some function) filing p system sound = sound

sound_entering : (p : ℕ) (system : System) (files : FilesInService) → AreSound files → AreSound (entering_call p system files)
sound_entering p system (Within s) sound = sound
sound_entering p system (Between filing) sound = sound_within (function_of (call_of system.kernel.dispatcher.procs p).function) filing p system sound

sound_entered_by : (turn : Turn) (system : System) (files : FilesInService) → AreSound files → AreSound (files_entered_by turn system files)
sound_entered_by Idle system files sound = sound
sound_entered_by Passing system files sound = sound
sound_entered_by (Work p last) system files sound = sound
sound_entered_by (Starts p) system files sound = sound_entering p system files sound

sound_entered_unless : (served : Option ℕ) (system : System) (files : FilesInService) → AreSound files → AreSound (files_entered_unless served system files)
sound_entered_unless (Some p) system files sound = sound
sound_entered_unless None system files sound = sound_entered_by (turn_answer system.kernel.disk) system files sound

pub sound_entered : (system : System) (files : FilesInService) → AreSound files → AreSound (files_entered system files)
unfolding files_entered
sound_entered system files sound = sound_entered_unless (served_process system.kernel.disk) system files sound

-- a step, and n steps
sound_rest : (system : System) (files : FilesInService) → AreSound files → AreSound (files_rest system files)
unfolding files_rest files_then files_paid
sound_rest system files sound =
    let told = told_within files system in
    let owed = (disk_served told system).system.owed in
    let paid = given_back owed (files_served system files) in
    let entered = files_entered (paid_after told system) paid in
    sound_given (ended_after (telling_then nothing_told system files) system).owed entered
    (sound_entered (paid_after told system) paid (sound_given owed (files_served system files) (sound_served system files sound)))

sound_next : (s : State) → AreSound s.files → AreSound (next s).files
unfolding next stepped
sound_next s sound = sound_rest (before_disk s.system s.files).system (files_begun s.system s.files) (sound_begun s.system s.files sound)

pub locks_after : (n : ℕ) (s : State) → AreOpen (filing_in s.files).opens → AreOpen (filing_in (after n s).files).opens
unfolding after
locks_after zero s sound = sound
locks_after (suc n) s sound = sound_next (after n s) (locks_after n s sound)

-- a machine begins with nothing open
pub locks_at_first : (drives : List (Option Drive)) → AreOpen (untouched drives).opens
unfolding none_open
locks_at_first drives = none_are_open
