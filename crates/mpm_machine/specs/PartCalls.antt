-- What each small part of a step asks of the system, and what it leaves of it.
use Rattle.std.specs.Prelude.{◌≡◌, ◌≢◌, ◌≤◌, ◌<◌, ◌+◌, ℕ, Bool, true, false, List, Option, Some, None, is_some, IsSome, IfSome, IfOk, IfErr, OnOk, Result, length}
use Rattle.std.specs.Bool.{OnTrue}
use Rattle.mpm_script.specs.declared.line.TheConstants.{GREATEST_STEP}
use Rattle.mpm_port.specs.Disks.{Disks}
use Rattle.mpm_port.specs.declared.Failed.{Failed}
use Rattle.mpm_base.specs.Calls.{Answer}
use Rattle.mpm_base.specs.declared.call.Outcome.{Outcome}
use Rattle.mpm_base.specs.declared.call.Outcome.TheVariants.{Done}
use Rattle.mpm_procs.specs.Table.{Lives, process_in, call_of}
use Rattle.mpm_procs.specs.declared.process.Process.{Process}
use Rattle.mpm_kernel.specs.Consoling.{AbortLives}
use Rattle.mpm_render.specs.Shown.{KeptLines}
use Rattle.mpm_output.specs.Outside.{Outside}
use Rattle.mpm_output.specs.Writing.{WritesAlone, CameOut, Stopped}
use Rattle.mpm_gate.specs.Gates.{IsHome}
use Rattle.mpm_gate.specs.declared.gate.Gate.{Gate}
use Rattle.mpm_gate.specs.declared.gate.Gate.TheVariants.{Return}
use Rattle.mpm_mount.specs.Drives.{Drive}
use Rattle.mpm_file_functions.specs.Functions.{function_of}
use Rattle.mpm_refusals.specs.Filing.{Filing}
use Rattle.mpm_bdos.specs.Serving.{Kept, IsCaller, filing_of}
use Rattle.mpm_bdos.specs.Starting.{caller_of}
use Rattle.mpm_bdos.specs.Turns.{FitsDrives, has_work, images_of}
use Rattle.mpm_bdos.specs.Asking.{StandForSome}
use Rattle.mpm_xdos.specs.Procedures.{entered, entry_reply}
use Rattle.mpm_residents.specs.Natives.{native_in}
use Rattle.mpm_system.specs.declared.system.System.{System}
use Rattle.mpm_system.specs.Procedures.{is_inside}
use Rattle.mpm_system.specs.Whole.{IsWhole, NoCompletions, HasRoom, HasRoomForAll, SystemChange, LivesInSystem, Makes, most_records}
use Rattle.mpm_system.specs.Coming.{coming}
use Rattle.mpm_system.specs.Sending.{IsReadyWithin}
use Rattle.mpm_system.specs.Taking.{IsTaken}
use Rattle.mpm_machine.specs.declared.machine.Machine.{Machine}
use Rattle.mpm_machine.specs.declared.machine.StepFault.{StepFault}
use Rattle.mpm_machine.specs.declared.machine.StepFault.TheVariants.{WriteFault}
use Rattle.mpm_machine.specs.declared.housing.Home.{Home}
use Rattle.mpm_machine.specs.declared.ahead.Ahead.{Ahead}
use Rattle.mpm_machine.specs.Housing.{home_of}
use Rattle.mpm_machine.specs.Finishing.{all_answered}
use Rattle.mpm_machine.specs.Step.{gate_before, instruction_at, instructed}
use Rattle.mpm_machine.specs.Stepping.{begun_alone, is_instruction}
use Rattle.mpm_machine.specs.FileCalls.{looked_at, file_caller}
use Rattle.mpm_machine.specs.DiskStep.{is_done_at_once}
use Rattle.mpm_machine.specs.Mounting.{HasNoDrive}
use Rattle.mpm_machine.specs.Moving.{RunsAhead, Moved, IsUntraced}
use Rattle.mpm_machine.specs.OwnCalls.{MakesOwnCall, with_own_call, IsRecord}
use Rattle.mpm_machine.specs.Quietly.{WentOn}
use Rattle.mpm_machine.specs.Parts.{IsBetweenSteps, StartsCall}

-- Where a step begins.

-- a step may begin in which no process makes a file call: nobody is left to be answered
pub record MayBeginAlone (system : System) : Type 0 where
  pub most : system.steps < GREATEST_STEP
  pub whole : IsWhole system
  pub no_completions : NoCompletions system

-- it has begun so, and the held calls that this completed are answered; there is room for the records of the rest of the step
pub record BeginsAlone {S : Type 0} (written : S → List ℕ) (faults : S → ℕ) (old new : System) (kept : KeptLines) (sink : S) (kept' : KeptLines) (sink' : S) (result : Result Bool Failed) : Type 0 where
  pub system : OnOk result (new ≡ all_answered (begun_alone old).system)
  pub room : OnOk result (HasRoomForAll (length new.records + 1))
  pub instruction : IfOk result (λ instruction. instruction ≡ is_instruction None old)
  pub wrote : WritesAlone written faults kept sink kept' sink' (begun_alone old).emitted result

-- the step is counted: an event may come, or the running process may act, and its call may be recorded
pub record MayBeginActing (system : System) : Type 0 where
  pub most : system.steps ≤ GREATEST_STEP
  pub whole : IsWhole system
  pub room : HasRoom system

-- the running process may act, and its call may be recorded
pub record MayAct (system : System) : Type 0 where
  pub whole : IsWhole system
  pub room : HasRoom system

-- a change was made, and it was that of an instruction or not
pub record DoesAct {S : Type 0} (written : S → List ℕ) (faults : S → ℕ) (change : SystemChange) (listed : Bool) (after : System) (kept : KeptLines) (sink : S) (kept' : KeptLines) (sink' : S) (result : Result Bool Failed) : Type 0 where
  pub done : Makes written faults change after kept sink kept' sink' result
  pub instruction : IfOk result (λ instruction. instruction ≡ listed)

-- the event that is due in this step may come
pub record MayMeetEvent (system : System) : Type 0 where
  pub whole : IsWhole system
  pub most : system.steps ≤ GREATEST_STEP

-- an event came or not, and its change was made
pub record MeetsEvent {S : Type 0} (written : S → List ℕ) (faults : S → ℕ) (change : SystemChange) (old new : System) (kept : KeptLines) (sink : S) (kept' : KeptLines) (sink' : S) (result : Result Bool Failed) : Type 0 where
  pub came : IfOk result (λ came. came ≡ is_some (coming old))
  pub done : Makes written faults change new kept sink kept' sink' result

-- the process that a key aborts lives, if there is one
pub record MayAbortByKey (system : System) : Type 0 where
  pub whole : IsWhole system
  pub lives : AbortLives system.kernel

-- Of a process.

-- it lives, and its segment is its home
pub record LivesAtHome (p seg : ℕ) (system : System) : Type 0 where
  pub lives : Lives system.kernel.dispatcher.procs p
  pub home : IsHome system.memory seg

-- the gate at which it stands, if any. At that of returns it is in a resident procedure
pub record FindsGate (p seg : ℕ) (system : System) (result : Option Gate) : Type 0 where
  pub gate : result ≡ gate_before p seg system
  pub inside : result ≡ Some Return → is_inside system.kernel.dispatcher.procs p ≡ true

-- the instruction at which it stands was run, if a listed one stands there
pub record RunsInstruction (p seg : ℕ) (old new : System) (result : Bool) : Type 0 where
  pub listed : result ≡ is_some (instruction_at p seg old)
  pub system : new ≡ instructed (instruction_at p seg old) p seg old

-- it is in a resident procedure
pub record IsInProcedure (p : ℕ) (system : System) : Type 0 where
  pub living : LivesInSystem p system
  pub inside : is_inside system.kernel.dispatcher.procs p ≡ true

-- it has entered one, and is to be answered so
pub record HasEnteredProcedure (p : ℕ) (answer : Answer) (old new : System) : Type 0 where
  pub system : new ≡ record old { kernel = entered p old.kernel }
  pub reply : answer ≡ entry_reply old.memory (process_in old.kernel.dispatcher.procs p)

-- it has a home, or none; a home is in the memory
pub record TellsHome (p : ℕ) (system : System) (result : Option Home) : Type 0 where
  pub home : result ≡ home_of system p
  pub is_home : IfSome result (λ home. IsHome system.memory home.seg)

-- Of a kernel call that a process keeps.

-- it may be served, as it was taken
pub record MayServe (p : ℕ) (system : System) : Type 0 where
  pub acts : IsReadyWithin p system
  pub taken : IsTaken (call_of system.kernel.dispatcher.procs p)

-- it may create processes: it has no more than 32 descriptors
pub record MayCreateChain (p : ℕ) (system : System) : Type 0 where
  pub living : LivesInSystem p system
  pub few : length (call_of system.kernel.dispatcher.procs p).bytes ≤ 576

-- it was served, and isn't done
pub record MayBringAbout (p : ℕ) (outcome : Outcome) (system : System) : Type 0 where
  pub living : LivesInSystem p system
  pub undone : outcome ≢ Done

-- it was served for a resident
pub record MayConcludeResident (p : ℕ) (system : System) : Type 0 where
  pub living : LivesInSystem p system
  pub has : is_some (native_in system.residents p) ≡ true

-- Of held calls that were completed.

-- all may be answered
pub record MayFinishAll (system : System) : Type 0 where
  pub whole : IsWhole system
  pub room : HasRoomForAll (length system.records)

-- each may be answered: there is room for its record
pub record MayFinishEach (system : System) : Type 0 where
  pub whole : IsWhole system
  pub room : length system.records + length system.kernel.dispatcher.completed ≤ most_records

-- they are answered, which adds so many records at most
pub record AnswersHeld (change : System) (more : ℕ) (old new : System) : Type 0 where
  pub system : new ≡ change
  pub few : length new.records ≤ length old.records + more

-- Of a call on files.

-- it is asked who makes one in the next step
pub record MayLookForCall (system : System) : Type 0 where
  pub whole : IsWhole system
  pub most : system.steps < GREATEST_STEP

-- the process that does, which lives; or nobody does
pub record FindsFileCaller (system : System) (result : Option ℕ) : Type 0 where
  pub caller : result ≡ file_caller system
  pub lives : IfSome result (λ p. Lives system.kernel.dispatcher.procs p)

-- it is done in its gate step or not. While the disk serves a call it is done so only where no disk serves it
pub record TellsAtOnce (p : ℕ) (system : System) (result : Bool) : Type 0 where
  pub done : result ≡ is_done_at_once p system
  pub apart : result ≡ true → IsSome system.kernel.disk.served → function_of (call_of system.kernel.dispatcher.procs p).function ≡ None

-- a process counts 1 to 16 records in a call
pub record CountsRecords (process : Process) : Type 0 where
  pub some : 1 ≤ process.multi
  pub few : process.multi ≤ 16

-- it is looked at as the caller of a file call
pub record LooksAt (from result : Process) : Type 0 where
  pub process : result ≡ looked_at from
  pub caller : (p : ℕ) → IsCaller (caller_of p result)

-- what is kept of a call that may be done at once fits the drives, whose images stand for some drives if it is one that the disk serves
pub record MayCallAtOnce {D : Type 0} (disks : D → Disks) (p : ℕ) (system : System) (kept : Kept) (drives : D) : Type 0 where
  pub living : LivesInSystem p system
  pub fits : FitsDrives disks kept.mounted kept.cached drives
  pub stand : IsSome (function_of (call_of system.kernel.dispatcher.procs p).function) → StandForSome (images_of (disks drives)) kept.mounted

-- so it is of one that the disk serves
pub record MayCallDisk {D : Type 0} (disks : D → Disks) (p : ℕ) (system : System) (kept : Kept) (drives : D) : Type 0 where
  pub living : LivesInSystem p system
  pub fits : FitsDrives disks kept.mounted kept.cached drives
  pub stand : StandForSome (images_of (disks drives)) kept.mounted
  pub function : IsSome (function_of (call_of system.kernel.dispatcher.procs p).function)

-- one that the disk serves may enter service
pub record MayStartCall (p : ℕ) (system : System) : Type 0 where
  pub living : LivesInSystem p system
  pub function : IsSome (function_of (call_of system.kernel.dispatcher.procs p).function)

-- it has entered service with so many turns, and has no work where no drive is mounted
pub record HasEnteredService (p turns : ℕ) (system : System) (old new : Kept) : Type 0 where
  pub starts : StartsCall p turns system old new
  pub workless : HasNoDrive old.mounted → has_work new.service ≡ false
  pub kept : new ≡ record old { service = new.service }

-- some open files, marks and searches are given back, and nothing else is changed
pub record GivesBack (gone : Filing → Filing) (old new : Kept) : Type 0 where
  pub filing : (drives : List (Option Drive)) → filing_of new drives ≡ gone (filing_of old drives)
  pub rest : new ≡ record old { opens = new.opens; marks = new.marks; searches = new.searches }

-- a change concludes it, which comes out whole, or in a part where the sink failed; what is kept of files stays
pub record ConcludesCall {A : Type 0} (change : SystemChange) (old_outside new_outside : Outside) (old new : Machine) (result : Result A StepFault) : Type 0 where
  pub system : OnOk result (new.system ≡ change.system)
  pub wrote : OnOk result (CameOut old_outside new_outside change.emitted)
  pub err : IfErr result (λ fault. (fault ≡ WriteFault) × Stopped old_outside new_outside change.emitted)
  pub bdos : new.bdos ≡ old.bdos

-- Of steps in which nothing is written and no drive is called.

-- so many steps may be done from between two steps on
pub record MayRunOn {D : Type 0} (disks : D → Disks) (most : ℕ) (machine : Machine) (drives : D) : Type 0 where
  pub between : IsBetweenSteps disks machine drives
  pub room : machine.system.steps + most ≤ GREATEST_STEP

-- at most so many were done
pub record RunsQuietly {D : Type 0} (disks : D → Disks) (drives : D) (outside : Outside) (most n : ℕ) (old new : Machine) : Type 0 where
  pub count : n ≤ most
  pub went : WentOn disks drives outside n old new

-- so many steps may be done of a machine, of which there is at least one
pub record MayAdvance {D : Type 0} (disks : D → Disks) (most : ℕ) (machine : Machine) (drives : D) : Type 0 where
  pub some : 0 < most
  pub room : machine.system.steps + most ≤ GREATEST_STEP
  pub between : IsBetweenSteps disks machine drives

-- it is looked what lies ahead
pub record MayLookAhead (system : System) : Type 0 where
  pub whole : IsWhole system
  pub no_completions : NoCompletions system
  pub most : system.steps ≤ GREATEST_STEP

-- that lies ahead, where anything does, and no record of calls is asked for where they are done alone
pub record LooksAhead (traced : Bool) (system : System) (result : Option Ahead) : Type 0 where
  pub ahead : IfSome result (λ ahead. RunsAhead ahead system)
  pub untraced : IsUntraced result traced

-- the process that runs ahead may run so many instructions
pub record MayRunAhead (here : Ahead) (most : ℕ) (system : System) : Type 0 where
  pub whole : IsWhole system
  pub room : system.steps + most ≤ GREATEST_STEP
  pub ahead : RunsAhead here system

-- it ran so many
pub record RunsProcess (p seg most n : ℕ) (old new : System) : Type 0 where
  pub count : n ≤ most
  pub moved : Moved n p seg old new

-- its next call is looked at
pub record MayLookAtCall (here : Ahead) (system : System) : Type 0 where
  pub whole : IsWhole system
  pub ahead : RunsAhead here system

-- where that is all of the next step it concerns its process alone
pub record FindsOwnCall (here : Ahead) (system : System) (result : Bool) : Type 0 where
  pub own : OnTrue result (MakesOwnCall here.p here.seg system)
  pub alone : OnTrue result (here.alone ≡ true)

-- so many steps may pass
pub record MayIdle (most : ℕ) (system : System) : Type 0 where
  pub whole : IsWhole system
  pub no_completions : NoCompletions system
  pub room : system.steps + most ≤ GREATEST_STEP

-- the next step may be nothing but a call that concerns its process alone
pub record MayCallAlone (p seg : ℕ) (system : System) : Type 0 where
  pub most : system.steps < GREATEST_STEP
  pub whole : IsWhole system
  pub makes : MakesOwnCall p seg system

-- it was that, and has no output but the call's record
pub record CallsAlone (p seg : ℕ) (old new : System) : Type 0 where
  pub system : new ≡ (with_own_call p seg old).system
  pub emitted : IsRecord (with_own_call p seg old).emitted
