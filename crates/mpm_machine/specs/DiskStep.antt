-- A step of the disk: a call that waits for it, a step of the turn of the one in service, how that is over after its last turn, and
-- how the next enters. (This project's own; the order in which calls wait is that of the dispatcher: MP/M II Programmer's Guide,
-- "Dispatcher".)
use Rattle.std.specs.Prelude.{ℕ, Bool, List, Option, Some, None, is_none, option_and_then, ◌==◌, ◌||◌, if◌then◌else◌}
use Rattle.mpm_service.specs.Disk.{begun, turned, turn_answer, served_process}
use Rattle.mpm_service.specs.declared.service.Served.{Served}
use Rattle.mpm_service.specs.declared.service.Turn.{Turn}
use Rattle.mpm_service.specs.declared.service.Turn.TheVariants.{Idle, Passing, Work, Starts}
use Rattle.mpm_procs.specs.Table.{call_of}
use Rattle.mpm_kernel.specs.Kernel.{Kernel}
use Rattle.mpm_kernel.specs.Disk.{with_disk, waiting_for_disk, ready_again as made_ready_again}
use Rattle.mpm_file_functions.specs.declared.functions.FileFunction.{FileFunction}
use Rattle.mpm_directories.specs.Direct.{Directly}
use Rattle.mpm_refusals.specs.Filing.{Filing, Situation}
use Rattle.mpm_file_functions.specs.Functions.{function_of}
use Rattle.mpm_bdos.specs.Jobs.{call_turns}
use Rattle.mpm_bdos.specs.Outcomes.{file_call}
use Rattle.mpm_system.specs.declared.system.System.{System}
use Rattle.mpm_system.specs.Owing.{nobody_owes}
use Rattle.mpm_system.specs.Whole.{SystemChange, silent}
use Rattle.mpm_machine.specs.Files.{FilesInService, Between, Within, filing_in}
use Rattle.mpm_machine.specs.Finishing.{all_finished}
use Rattle.mpm_machine.specs.Step.{then_also}
use Rattle.mpm_machine.specs.FileCalls.{situation_of, outcome_in, concluded, told_of}

-- a file call is done in its gate step where no disk serves it, and where turns have no steps; any other waits for the disk
abbrev pub is_done_at_once : ℕ → System → Bool
is_done_at_once p system = is_none (function_of (call_of system.kernel.dispatcher.procs p).function) || system.kernel.disk.turn_steps == 0

-- what becomes of the kernel
abbrev pub with_kernel : (Kernel → Kernel) → System → System
with_kernel f system = record system { kernel = f system.kernel }

-- a file call that was made is done at once, and then it comes to what is answered, or waits
unfoldable pub file_called : Directly → ℕ → System → SystemChange
file_called told p system = if is_done_at_once p system then concluded told p system else silent (with_kernel (waiting_for_disk p) system)

-- so it is with files: where a call is in service, only one that no disk serves is done at once, which leaves them
abbrev pub done_at_once : ℕ → System → FilesInService → FilesInService
done_at_once p system (Between filing) = Between (outcome_in filing p system).filing
done_at_once p system (Within s) = Within s

unfoldable pub files_called : ℕ → System → FilesInService → FilesInService
files_called p system files = if is_done_at_once p system then done_at_once p system files else files

-- what it then comes to
abbrev pub told_at_gate : ℕ → System → FilesInService → Directly
told_at_gate p system files =
    let outcome = outcome_in (filing_in files) p system in told_of (call_of system.kernel.dispatcher.procs p) outcome.answer outcome.extended

-- the process whose call is over is ready again; the call comes to what is answered, and where that ends its process, the held calls that
-- this end completes are answered
abbrev pub ready_again : ℕ → System → System
ready_again p system = with_kernel (made_ready_again p) system

unfoldable pub call_over : Directly → ℕ → System → SystemChange
call_over told p system = then_also (concluded told p (ready_again p system)) all_finished

-- a step of the call in service, by what it is: after the last step of its last turn the call is over
abbrev pub step_passed : System → System
step_passed system = with_kernel (with_disk turned) system

abbrev pub over_after : Turn → Directly → System → SystemChange
over_after Idle told system = silent system
over_after Passing told system = silent system
over_after (Starts p) told system = silent system
over_after (Work p last) told system = if last then call_over told p system else silent system

abbrev pub served_by : Option ℕ → Directly → System → SystemChange
served_by None told system = silent system
served_by (Some p) told system = over_after (turn_answer system.kernel.disk) told (step_passed system)

unfoldable pub disk_served : Directly → System → SystemChange
disk_served told system = served_by (served_process system.kernel.disk) told system

-- whose call is over in this step
abbrev pub over_by : Turn → Option ℕ
over_by Idle = None
over_by Passing = None
over_by (Starts p) = None
over_by (Work p last) = if last then Some p else None

unfoldable pub process_over : System → Option ℕ
process_over system = option_and_then (λ p. over_by (turn_answer system.kernel.disk)) (served_process system.kernel.disk)

-- files then: the whole change of a call that is over
abbrev pub files_over : Turn → FilesInService → FilesInService
files_over Idle files = files
files_over Passing files = files
files_over (Starts p) files = files
files_over (Work p last) (Between filing) = Between filing
files_over (Work p last) (Within s) = if last then Between (file_call s).filing else (Within s)

abbrev pub files_served_by : Option ℕ → System → FilesInService → FilesInService
files_served_by None system files = files
files_served_by (Some p) system files = files_over (turn_answer system.kernel.disk) files

unfoldable pub files_served : System → FilesInService → FilesInService
files_served system files = files_served_by (served_process system.kernel.disk) system files

-- what the call in service comes to, of which this is the process
abbrev pub told_of_call : Situation → ℕ → System → Directly
told_of_call s p system = let outcome = file_call s in told_of (call_of system.kernel.dispatcher.procs p) outcome.answer outcome.extended

-- where no call is in service, nobody owes what he had open any more, since it is given back
abbrev pub owed_then : Option Served → List Bool → List Bool
owed_then None owed = nobody_owes
owed_then (Some call) owed = owed

unfoldable pub all_paid : System → System
all_paid system = record system { owed = owed_then system.kernel.disk.served system.owed }

-- and the first call that waits enters service, for so many turns, of which the first begins with the next step
abbrev pub entered_by : Turn → ℕ → System → System
entered_by Idle turns system = system
entered_by Passing turns system = system
entered_by (Work p last) turns system = system
entered_by (Starts p) turns system = with_kernel (with_disk (λ disk. begun disk turns)) system

abbrev pub entered_unless : Option ℕ → ℕ → System → System
entered_unless (Some p) turns system = system
entered_unless None turns system = entered_by (turn_answer system.kernel.disk) turns (step_passed system)

unfoldable pub call_entered : ℕ → System → System
call_entered turns system = entered_unless (served_process system.kernel.disk) turns system

-- files then: within that call, in the situation of this moment
abbrev pub within_call : Option FileFunction → Filing → ℕ → System → FilesInService
within_call None filing p system = Between filing
within_call (Some function) filing p system = Within (situation_of filing function p system)

abbrev pub entering_call : ℕ → System → FilesInService → FilesInService
entering_call p system (Within s) = Within s
entering_call p system (Between filing) = within_call (function_of (call_of system.kernel.dispatcher.procs p).function) filing p system

abbrev pub files_entered_by : Turn → System → FilesInService → FilesInService
files_entered_by Idle system files = files
files_entered_by Passing system files = files
files_entered_by (Work p last) system files = files
files_entered_by (Starts p) system files = entering_call p system files

abbrev pub files_entered_unless : Option ℕ → System → FilesInService → FilesInService
files_entered_unless (Some p) system files = files
files_entered_unless None system files = files_entered_by (turn_answer system.kernel.disk) system files

unfoldable pub files_entered : System → FilesInService → FilesInService
files_entered system files = files_entered_unless (served_process system.kernel.disk) system files

-- how many turns the call takes that they are within
abbrev pub turns_within : FilesInService → ℕ
turns_within (Between filing) = 1
turns_within (Within s) = call_turns s
