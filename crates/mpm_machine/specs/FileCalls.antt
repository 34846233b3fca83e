-- File calls: which process makes one in a step, what it comes to, and how it is answered. (MP/M II Programmer's Guide, "BDOS
-- Function Calls", "BDOS Error Handling"; functions 13, "Reset Disk System", and 14, "Select Disk".)
use Rattle.std.specs.Prelude.{ℕ, ◌%◌, Bool, false, not, Option, Some, None, is_some, option_map, ◌==◌, ◌&&◌, ◌||◌, if◌then◌else◌}
use Rattle.mpm_base.specs.Calls.{Taken, Answer, answering}
use Rattle.mpm_procs.specs.Table.{process_in, call_of}
use Rattle.mpm_procs.specs.declared.process.Process.{Process}
use Rattle.mpm_clock.specs.declared.moment.Moment.{Moment}
use Rattle.mpm_clock.specs.Times.{moment_of}
use Rattle.mpm_clock.specs.PackedDecimal.{stamp}
use Rattle.mpm_gate.specs.declared.gate.Gate.{Gate}
use Rattle.mpm_gate.specs.declared.gate.Gate.TheVariants.{End, Call, Return}
use Rattle.mpm_residents.specs.declared.native.Native.{Native}
use Rattle.mpm_residents.specs.Natives.{native_call, native_in}
use Rattle.mpm_file_functions.specs.declared.functions.FileFunction.{FileFunction}
use Rattle.mpm_file_functions.specs.declared.functions.DirectFunction.{DirectFunction}
use Rattle.mpm_file_functions.specs.declared.refusals.Extended.{Extended}
use Rattle.mpm_file_functions.specs.Functions.{function_of, direct_of}
use Rattle.mpm_refusals.specs.Filing.{Filing, Situation}
use Rattle.mpm_bdos.specs.Starting.{caller_of}
use Rattle.mpm_directories.specs.Direct.{Stays, Directly}
use Rattle.mpm_bdos.specs.Outcomes.{FileOutcome, file_call}
use Rattle.mpm_bdos.specs.Direct.{direct}
use Rattle.mpm_system.specs.declared.system.System.{System}
use Rattle.mpm_system.specs.Whole.{SystemChange, silent}
use Rattle.mpm_system.specs.Coming.{coming, counted}
use Rattle.mpm_system.specs.FileCalling.{with_caller, change_of, file_replied, error_told}
use Rattle.mpm_machine.specs.Ending.{ended}
use Rattle.mpm_machine.specs.Step.{gate_before, then_also}

-- a number is that of a call on files and drives
unfoldable pub is_of_files : ℕ → Bool
is_of_files number = is_some (function_of number) || is_some (direct_of number)

-- the number of the function that a process calls as it goes on, if it calls one. One of a segment does at the gate of calls, and a
-- resident by what it fills in, which has the number 0 where it hands something over
abbrev pub at_gate : Option Gate → ℕ → Option ℕ
at_gate None number = None
at_gate (Some End) number = None
at_gate (Some Call) number = Some number
at_gate (Some Return) number = None

abbrev pub called_next : Option ℕ → ℕ → System → Option ℕ
called_next (Some seg) p system = at_gate (gate_before p seg system) (process_in system.kernel.dispatcher.procs p).regs.c
called_next None p system = option_map (λ (native : Native). (native_call native).function) (native_in system.residents p)

abbrev pub is_file_number : Option ℕ → Bool
is_file_number None = false
is_file_number (Some number) = is_of_files number

unfoldable pub calls_files : ℕ → System → Bool
calls_files p system = is_file_number (called_next (process_in system.kernel.dispatcher.procs p).seg p system)

-- the process that makes a file call in the next step: the one that runs, where no event comes
abbrev pub file_caller_by : Bool → Option ℕ → System → Option ℕ
file_caller_by comes None system = None
file_caller_by comes (Some p) system = if calls_files p system && not comes then Some p else None

unfoldable pub file_caller : System → Option ℕ
file_caller system = file_caller_by (is_some (coming (counted system))) system.kernel.dispatcher.running system

-- a process as a file call looks at it: its user is one of sixteen
abbrev pub looked_at : Process → Process
looked_at process = record process { user = process.user % 16 }

-- what a file call finds beside files and drives: the process, and the stamp of the moment
abbrev pub entering : Filing → FileFunction → ℕ → Process → Taken → Moment → Situation
entering filing function p process call now =
    record { filing = filing; caller = caller_of p (looked_at process); function = function; call = call; moment = stamp now }

abbrev pub situation_of : Filing → FileFunction → ℕ → System → Situation
situation_of filing function p system =
    let procs = system.kernel.dispatcher.procs in
    entering filing function p (process_in procs p) (call_of procs p) (moment_of system.kernel.clock)

-- the call that a process keeps, by its function: served by the disk, or done without it, which leaves files and drives as they
-- are
abbrev pub directly : Filing → Directly → FileOutcome
directly filing done = record { filing = filing; caller = done.caller; answer = done.answer; extended = done.extended }

abbrev pub outcome_by : Option FileFunction → Option DirectFunction → Filing → ℕ → System → FileOutcome
outcome_by (Some function) other filing p system = file_call (situation_of filing function p system)
outcome_by None (Some function) filing p system =
    directly filing (direct filing (process_in system.kernel.dispatcher.procs p).drive (call_of system.kernel.dispatcher.procs p) function)
outcome_by None None filing p system = directly filing (record { caller = Stays; answer = answering 0; extended = None })

unfoldable pub outcome_in : Filing → ℕ → System → FileOutcome
outcome_in filing p system =
    let number = (call_of system.kernel.dispatcher.procs p).function in
    outcome_by (function_of number) (direct_of number) filing p system

-- what of it the caller sees
abbrev pub told_by : FileOutcome → Directly
told_by outcome = record { caller = outcome.caller; answer = outcome.answer; extended = outcome.extended }

abbrev pub told_of : Taken → Answer → Option Extended → Directly
told_of call reply error = record { caller = change_of call error; answer = reply; extended = error }

-- by its process's error mode an extended error is answered, or displayed and answered, or displayed, and ends the process
abbrev pub answered_or_ended : Bool → Answer → ℕ → System → System
answered_or_ended answers reply p system = if answers then file_replied reply p system else ended p system

unfoldable pub told_then : Bool → Extended → Answer → ℕ → System → SystemChange
told_then answers error reply p system = then_also (error_told error p system) (answered_or_ended answers reply p)

unfoldable pub error_met : Extended → Answer → ℕ → System → SystemChange
error_met error reply p system =
    let mode = (process_in system.kernel.dispatcher.procs p).error_mode in
    if mode == 255 then silent (file_replied reply p system) else (told_then (mode == 254) error reply p system)

abbrev pub answered_by : Option Extended → Answer → ℕ → System → SystemChange
answered_by None reply p system = silent (file_replied reply p system)
answered_by (Some error) reply p system = error_met error reply p system

unfoldable pub concluded : Directly → ℕ → System → SystemChange
concluded told p system = answered_by told.extended told.answer p (with_caller told.caller p system)
