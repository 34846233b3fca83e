-- A step, point by point: what it begins with; the held calls that this completed; the step of the disk; the ends that are due; the
-- records of the calls that it completed; and who runs. Where turns have no steps, the disk has no call, and a file call is done in
-- what the step begins with.
use Rattle.std.specs.Prelude.{ℕ, Bool, false, Option, Some, None}
use Rattle.mpm_base.specs.Calls.{answering}
use Rattle.mpm_procs.specs.Table.{call_of}
use Rattle.mpm_directories.specs.Direct.{Directly, Stays}
use Rattle.mpm_system.specs.declared.system.System.{System}
use Rattle.mpm_system.specs.Whole.{SystemChange}
use Rattle.mpm_system.specs.Coming.{coming, counted}
use Rattle.mpm_system.specs.Written.{with_records}
use Rattle.mpm_system.specs.FileCalling.{call_made}
use Rattle.mpm_machine.specs.Files.{FilesInService, Between, Within, given_back}
use Rattle.mpm_machine.specs.Finishing.{all_answered}
use Rattle.mpm_machine.specs.Due.{with_ends}
use Rattle.mpm_machine.specs.Step.{begun_by, instruction_unless, then_also, then_so, runner_picked}
use Rattle.mpm_machine.specs.FileCalls.{file_caller, told_of}
use Rattle.mpm_machine.specs.DiskStep.{file_called, files_called, told_at_gate, told_of_call, process_over, disk_served, files_served, all_paid, call_entered, files_entered, turns_within}

-- what file calls come to in a step: the one that is done in its gate step, and the one that is over, if there are such; and how many
-- turns the one takes that enters service
pub record Telling : Type 0 where
  pub at_gate : Directly
  pub at_disk : Directly
  pub turns : ℕ

-- what a step begins with in which no process makes a file call: an event, or what the running process does
abbrev pub begun_alone : System → SystemChange
begun_alone system = let begun = counted system in begun_by (coming begun) begun

abbrev pub begun_with : Option ℕ → Directly → System → SystemChange
begun_with None told system = begun_alone system
begun_with (Some p) told system = file_called told p (call_made p system)

-- and the held calls that this completed are answered
unfoldable pub begun_as : Directly → System → SystemChange
begun_as told system = then_also (begun_with (file_caller system) told system) all_answered

abbrev pub is_instruction : Option ℕ → System → Bool
is_instruction None system = let begun = counted system in instruction_unless (coming begun) begun
is_instruction (Some p) system = false

-- the step of the disk: the turn of the call in service; then the next call enters, once those have given back what they owe who ended
abbrev pub paid_after : Directly → System → System
paid_after told system = all_paid (disk_served told system).system

unfoldable pub entered_after : Telling → System → System
entered_after telling system = call_entered telling.turns (paid_after telling.at_disk system)

-- the ends that are due; these too give back what they owe, where no call is in service
unfoldable pub ended_after : Telling → System → System
ended_after telling system = with_ends (entered_after telling system)

-- the rest of a step, after what it begins with, which was an instruction or not
abbrev pub unwritten_rest : Telling → SystemChange → SystemChange
unwritten_rest telling begun =
    record (then_so begun (disk_served telling.at_disk)) { system = all_paid (ended_after telling begun.system) }

unfoldable pub rest_of : Bool → Telling → SystemChange → SystemChange
rest_of instruction telling begun = runner_picked instruction (with_records (unwritten_rest telling begun))

-- what a step makes of a system, by what its file calls come to
unfoldable pub step_with : Telling → System → SystemChange
step_with telling system = rest_of (is_instruction (file_caller system) system) telling (begun_as telling.at_gate system)

-- no file call comes to anything
abbrev pub nothing_told : Directly
nothing_told = record { caller = Stays; answer = answering 0; extended = None }

-- what the file call comes to that a process makes, and files after it
abbrev pub told_first_by : Option ℕ → System → FilesInService → Directly
told_first_by None system files = nothing_told
told_first_by (Some p) system files = told_at_gate p (call_made p system) files

unfoldable pub told_first : System → FilesInService → Directly
told_first system files = told_first_by (file_caller system) system files

abbrev pub files_begun_by : Option ℕ → System → FilesInService → FilesInService
files_begun_by None system files = files
files_begun_by (Some p) system files = files_called p (call_made p system) files

unfoldable pub files_begun : System → FilesInService → FilesInService
files_begun system files = files_begun_by (file_caller system) system files

-- the system as the disk makes its step
unfoldable pub before_disk : System → FilesInService → SystemChange
before_disk system files = begun_as (told_first system files) system

-- what the call comes to that is over as the disk makes its step, if one is
abbrev pub told_by_process : Option ℕ → FilesInService → System → Directly
told_by_process None files system = nothing_told
told_by_process (Some p) (Between filing) system = told_of (call_of system.kernel.dispatcher.procs p) (answering 0) None
told_by_process (Some p) (Within s) system = told_of_call s p system

unfoldable pub told_within : FilesInService → System → Directly
told_within files system = told_by_process (process_over system) files system

-- files after its turn, as the next call may enter, and as it has
unfoldable pub files_paid : System → FilesInService → FilesInService
files_paid system files = given_back (disk_served (told_within files system) system).system.owed (files_served system files)

unfoldable pub files_then : System → FilesInService → FilesInService
files_then system files = files_entered (paid_after (told_within files system) system) (files_paid system files)

-- so file calls come to this in the rest of a step
unfoldable pub telling_then : Directly → System → FilesInService → Telling
telling_then at_gate system files =
    record { at_gate = at_gate; at_disk = told_within files system; turns = turns_within (files_then system files) }

-- and files are this after it
unfoldable pub files_rest : System → FilesInService → FilesInService
files_rest system files = given_back (ended_after (telling_then nothing_told system files) system).owed (files_then system files)

-- so it is in a whole one
unfoldable pub telling_of : System → FilesInService → Telling
telling_of system files = telling_then (told_first system files) (before_disk system files).system (files_begun system files)

-- what a step makes of a system, and of files and drives
pub record StepMade : Type 0 where
  pub change : SystemChange
  pub files : FilesInService

unfoldable pub stepped : System → FilesInService → StepMade
stepped system files =
    record { change = step_with (telling_of system files) system; files = files_rest (before_disk system files).system (files_begun system files) }
