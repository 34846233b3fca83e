-- What the images stand for where a step stopped. (A drive that fails in a call on files leaves it within a turn: MP/M II
-- Programmer's Guide, "BDOS Error Handling".)
use Rattle.std.specs.Prelude.{◌≡◌, ℕ, ◌+◌, ◌<◌, ◌≤◌, ◌&&◌, ◌||◌, Bool, true, false, List, Option, Some, None, is_some, option_map, slice_set, if◌then◌else◌}
use Rattle.mpm_port.specs.Disks.{Disks}
use Rattle.mpm_render.specs.Shown.{KeptLines}
use Rattle.mpm_procs.specs.Table.{call_of}
use Rattle.mpm_mount.specs.Drives.{Drive}
use Rattle.mpm_mount.specs.Directories.{Directory}
use Rattle.mpm_jobs.specs.declared.jobs.Job.{Job}
use Rattle.mpm_files.specs.Units.{stages}
use Rattle.mpm_files.specs.Plans.{unit_at}
use Rattle.mpm_files.specs.Serving.{units_done}
use Rattle.mpm_files.specs.Standing.{IsAmong}
use Rattle.mpm_file_functions.specs.Functions.{function_of}
use Rattle.mpm_refusals.specs.Filing.{Filing, Situation}
use Rattle.mpm_refusals.specs.Subjects.{drive_number, drive_at}
use Rattle.mpm_bdos.specs.Jobs.{call_turns, job_of}
use Rattle.mpm_bdos.specs.Serving.{StandEach}
use Rattle.mpm_directories.specs.Places.{directory_at}
use Rattle.mpm_bdos.specs.Turns.{drive_and_kind, images_of}
use Rattle.mpm_service.specs.Disk.{turn_answer}
use Rattle.mpm_service.specs.declared.service.Served.{Served}
use Rattle.mpm_service.specs.declared.service.Turn.{Turn}
use Rattle.mpm_service.specs.declared.service.Turn.TheVariants.{Idle, Passing, Work, Starts}
use Rattle.mpm_system.specs.declared.system.System.{System}
use Rattle.mpm_system.specs.FileCalling.{call_made}
use Rattle.mpm_machine.specs.declared.machine.StepFault.{StepFault}
use Rattle.mpm_machine.specs.declared.machine.StepFault.TheVariants.{DiskFault, WriteFault}
use Rattle.mpm_machine.specs.State.{State}
use Rattle.mpm_machine.specs.Files.{FilesInService, Between, Within, turns_ended, drives_in}
use Rattle.mpm_machine.specs.FileCalls.{file_caller, situation_of}
use Rattle.mpm_machine.specs.DiskStep.{is_done_at_once}
use Rattle.mpm_machine.specs.Stepping.{stepped}

-- the call on whose drive a step works: how many of its turns ended before, and how many end in the step
pub record Working : Type 0 where
  pub call : Situation
  pub ended : ℕ
  pub most : ℕ

-- one that is done at once does all its turns in its gate step
abbrev pub working_at_once : Situation → Working
working_at_once call = record { call = call; ended = 0; most = call_turns call }

abbrev pub working_if : Bool → Filing → ℕ → System → Option Working
working_if at_once filing p system =
    if at_once then option_map (λ function. working_at_once (situation_of filing function p system)) (function_of (call_of system.kernel.dispatcher.procs p).function) else None

abbrev pub working_by : Option ℕ → Filing → System → Option Working
working_by None filing system = None
working_by (Some p) filing system = let made = call_made p system in working_if (is_done_at_once p made) filing p made

-- the one in service does one turn, in the turn's last step
abbrev pub working_turn : Option Served → Turn → Situation → Option Working
working_turn None turn s = None
working_turn (Some call) Idle s = None
working_turn (Some call) Passing s = None
working_turn (Some call) (Starts p) s = None
working_turn (Some call) (Work p last) s = Some (record { call = s; ended = turns_ended call s; most = 1 })

abbrev pub working_turn_of : System → FilesInService → Option Working
working_turn_of system (Between filing) = None
working_turn_of system (Within s) = working_turn system.kernel.disk.served (turn_answer system.kernel.disk) s

unfoldable pub working_in : System → FilesInService → Option Working
working_in system (Between filing) = working_by (file_caller system) filing system
working_in system (Within s) = working_turn_of system (Within s)

-- how many turns of a call a step does
abbrev pub turns_done : Option Working → ℕ
turns_done None = 0
turns_done (Some working) = working.most

-- whether it works on a drive, whatever files there are
abbrev pub works_at_once : Option ℕ → System → Bool
works_at_once None system = false
works_at_once (Some p) system =
    let made = call_made p system in is_some (function_of (call_of made.kernel.dispatcher.procs p).function) && is_done_at_once p made

abbrev pub is_work : Turn → Bool
is_work Idle = false
is_work Passing = false
is_work (Starts p) = false
is_work (Work p last) = true

abbrev pub works_in_turn : System → Bool
works_in_turn system = is_some system.kernel.disk.served && is_work (turn_answer system.kernel.disk)

unfoldable pub does_work : System → Bool
does_work system = works_at_once (file_caller system) system || works_in_turn system

-- what is there where a machine stopped: what is kept to be written and what was, the images, and the directories in memory
pub record Left : Type 0 where
  pub kept : KeptLines
  pub written : List ℕ
  pub disks : Disks
  pub mounted : List (Option Directory)

abbrev pub leaving : {S D : Type 0} → (S → List ℕ) → (D → Disks) → KeptLines → S → D → List (Option Directory) → Left
leaving written disks kept sink drives mounted = record { kept = kept; written = written sink; disks = disks drives; mounted = mounted }

-- each image stands, with a directory of the drive and the kind of the one that is mounted, for what is on its drive
pub record HaveImages (disks : Disks) (mounted : List (Option Directory)) (drives : List (Option Drive)) : Type 0 where
  pub directories : List (Option Directory)
  pub labels : (number : ℕ) → option_map drive_and_kind (directory_at directories number) ≡ option_map drive_and_kind (directory_at mounted number)
  pub stand : StandEach (images_of disks) directories drives

-- some drives are so, and each image stands for what is on its drive
pub record HaveImagesOf (Are : List (Option Drive) → Type 0) (disks : Disks) (mounted : List (Option Directory)) : Type 0 where
  pub drives : List (Option Drive)
  pub are : Are drives
  pub images : HaveImages disks mounted drives

-- what is on the drive of a call within one of the next turns, after those that ended: what there was before it, or one of those that
-- its unit goes through
pub record IsWithinTurns (call : Situation) (ended most : ℕ) (files : Drive) : Type 0 where
  pub job : Job
  pub its : job_of call ≡ Some job
  pub turn : ℕ
  pub since : ended ≤ turn
  pub before : turn < ended + most
  pub among : IsAmong (units_done (drive_at call) job turn) (stages (unit_at (drive_at call) job turn) (units_done (drive_at call) job turn)) files

-- a drive failed as a step worked on the drive of a call: that is within one of the turns that the step does, and each other one as the
-- call found it
pub record FailsWithin (working : Option Working) (drives : List (Option Drive)) : Type 0 where
  pub found : Working
  pub is : working ≡ Some found
  pub files : Drive
  pub within : IsWithinTurns found.call found.ended found.most files
  pub drives_are : drives ≡ slice_set found.call.filing.drives (drive_number found.call) (Some files)

-- what is on the drives where a step stopped: where the sink failed, what the images stand for after it
abbrev pub StopsOn : StepFault → System → FilesInService → List (Option Drive) → Type 0
StopsOn WriteFault system files drives = let step = stepped system files in drives ≡ drives_in step.change.system.kernel.disk.served step.files
StopsOn DiskFault system files drives = FailsWithin (working_in system files) drives

-- a step of a state stopped: each image stands for what is then on its drive
abbrev pub StopsWithImages : StepFault → Disks → List (Option Directory) → State → Type 0
StopsWithImages fault disks mounted s = HaveImagesOf (StopsOn fault s.system s.files) disks mounted
