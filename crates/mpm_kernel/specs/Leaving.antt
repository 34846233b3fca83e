-- What each call of the kernel leaves and answers.
use Rattle.std.specs.Prelude.{◌≡◌, ℕ, ◌<◌, Bool, Option, Some, None, IfSome, IfOk, OnErr, MatchOption, Result, length, true, false}
use Rattle.z80_regs.specs.declared.regs.Regs.{Regs}
use Rattle.mpm_base.specs.Calls.{Answer}
use Rattle.mpm_base.specs.declared.call.Outcome.{Outcome}
use Rattle.mpm_base.specs.declared.devices.Devices.{Devices}
use Rattle.mpm_base.specs.declared.unit.Unit.{Unit}
use Rattle.mpm_base.specs.declared.unit.Unit.TheVariants.{Console as ConsoleUnit}
use Rattle.mpm_banks.specs.Memory.{Memory, segment_of}
use Rattle.mpm_banks.specs.Sides.{with_sides, reach_of}
use Rattle.mpm_clock.specs.Times.{Clock, IsTime, moment_of}
use Rattle.mpm_clock.specs.declared.moment.Moment.{Moment}
use Rattle.mpm_consoles.specs.Consoles.{owner_of}
use Rattle.mpm_dispatcher.specs.Dispatch.{IsReady, in_slot, with_completed, first_completed}
use Rattle.mpm_line_input.specs.Lines.{ends as line_ends}
use Rattle.mpm_procs.specs.Table.{Lives, process_in, call_of, lowest_free}
use Rattle.mpm_procs.specs.declared.process.NewProcess.{NewProcess}
use Rattle.mpm_procs.specs.declared.procs.NoSlot.{NoSlot}
use Rattle.mpm_queues.specs.Handling.{woken_by, must_wait, read_outcome, read_reply, write_outcome}
use Rattle.mpm_queues.specs.declared.queues.QueueOutcome.{QueueOutcome}
use Rattle.mpm_kernel.specs.Kernel.{Kernel, IsSoundKernel, IsConsole, CompletedLive, dispatched, with_changed}
use Rattle.mpm_kernel.specs.Called.{Yields}
use Rattle.mpm_kernel.specs.Calls.{called}
use Rattle.mpm_kernel.specs.Columns.{wrote, spaces_for}
use Rattle.mpm_kernel.specs.Consoling.{abort_taken}
use Rattle.mpm_kernel.specs.ConsoleInput.{key_taken, next_key, key_joined, line_of, greatest}
use Rattle.mpm_kernel.specs.Disk.{ready_again}
use Rattle.mpm_kernel.specs.Events.{handed_out}
use Rattle.mpm_kernel.specs.Procedures.{outside, still_completed}
use Rattle.mpm_kernel.specs.Queueing.{IfNotNow, taken_from, given_to}
use Rattle.mpm_kernel.specs.Waiting.{completion_reply}

-- a call is served, and so that the kernel stays sound, and those whose held calls it completed live
pub record ServesCall (p : ℕ) (old new : Kernel) (result : Outcome) (answer : Answer) : Type 0 where
  pub yields : Yields (called p old) new result answer
  pub sound : IsSoundKernel new
  pub live : CompletedLive new

-- the kernel becomes another one, which is sound where it was
pub record KeepsSoundKernel (value old new : Kernel) : Type 0 where
  pub kernel : new ≡ value
  pub sound : IsSoundKernel old → IsSoundKernel new

-- a burst has done so many steps of a living process, and nothing else of kernel and memory changes
pub record LendsToBurst (did : Regs → Memory → Devices → ℕ → Regs → Memory → Devices → Type 0) (p seg : ℕ) (old new : Kernel) (banks after : Memory) (result : ℕ) : Type 0 where
  pub ran : did (process_in old.dispatcher.procs p).regs (reach_of banks seg) old.devices result (process_in new.dispatcher.procs p).regs (reach_of after seg) new.devices
  pub others : after ≡ with_sides banks seg (segment_of after seg).bytes after.common
  pub kernel : new ≡ with_changed (record old { devices = new.devices }) p (record (process_in old.dispatcher.procs p) { regs = (process_in new.dispatcher.procs p).regs })
  pub sound : IsSoundKernel new

-- a process is added in the lowest free slot, or none is free
pub record AdmitsToKernel (newcomer : NewProcess) (old new : Kernel) (result : Result ℕ NoSlot) : Type 0 where
  pub slot : IfOk result (λ p. lowest_free old.dispatcher.procs ≡ Some p)
  pub refused : OnErr result (lowest_free old.dispatcher.procs ≡ None)
  pub kernel : new ≡ dispatched (in_slot newcomer (lowest_free old.dispatcher.procs)) old
  pub sound : newcomer.console < length old.units.consoles → IsSoundKernel new

-- the moment of the clock, which is a time of day
pub record TellsMoment (clock : Clock) (result : Moment) : Type 0 where
  pub moment : result ≡ moment_of clock
  pub time : IsTime result

-- the process whose held call was completed first is handed out, with the reply of that call
pub record HandsOutCall (old new : Kernel) (begun answer : Answer) (result : Option ℕ) : Type 0 where
  pub process : result ≡ first_completed old.dispatcher.completed
  pub kernel : new ≡ handed_out old
  pub reply : MatchOption result (answer ≡ begun) (λ p. answer ≡ completion_reply old p)
  pub sound : IsSoundKernel old → IsSoundKernel new
  pub live : IsSoundKernel old → CompletedLive new

-- a byte comes to a unit, and the answer is the number of spaces that stand for it
pub record WritesUnit (unit : Unit) (byte : ℕ) (tabs : Bool) (old new : Kernel) (result : ℕ) : Type 0 where
  pub kernel : new ≡ wrote old unit byte tabs
  pub spaces : result ≡ spaces_for old unit byte tabs
  pub sound : IsSoundKernel old → IsSoundKernel new

-- the process that the last event aborts is handed out
pub record TakesAbort (old new : Kernel) (result : Option ℕ) : Type 0 where
  pub process : result ≡ old.aborted
  pub kernel : new ≡ abort_taken old
  pub sound : IsSoundKernel old → IsSoundKernel new

-- the owner of a console, who lives
pub record TellsOwner (console : ℕ) (kernel : Kernel) (result : Option ℕ) : Type 0 where
  pub owner : result ≡ owner_of kernel.units (ConsoleUnit console)
  pub lives : IfSome result (λ p. Lives kernel.dispatcher.procs p)

-- a key changes the line that a process keeps, and the answer says whether the line ends with it
pub record EditsLine (p console key : ℕ) (old new : Kernel) (result : Bool) : Type 0 where
  pub kernel : new ≡ key_joined (call_of old.dispatcher.procs p) p console key old
  pub ends : result ≡ line_ends (line_of (process_in old.dispatcher.procs p)) (greatest (call_of old.dispatcher.procs p)) key

-- the oldest key of a console is taken, if there is one
pub record TakesKey (console : ℕ) (old new : Kernel) (result : Option ℕ) : Type 0 where
  pub key : result ≡ next_key console old
  pub has : IsConsole new console
  pub kernel : MatchOption result (new ≡ old) (λ key. new ≡ key_taken console old)

-- a process is in no procedure any more, and the answer is the queue of the one that it was in
pub record LeavesProcedure (p : ℕ) (old new : Kernel) (result : Option ℕ) : Type 0 where
  pub kernel : new ≡ outside p old
  pub queue : result ≡ (process_in old.dispatcher.procs p).procedure
  pub room : length new.dispatcher.completed < 64

-- of the held calls that were completed only another's first is still to be answered
pub record KeepsCompleted (p : ℕ) (old new : Kernel) : Type 0 where
  pub kernel : new ≡ dispatched (with_completed (still_completed (first_completed old.dispatcher.completed) p old.dispatcher.procs)) old
  pub room : length new.dispatcher.completed < 64

-- the first message of a queue is read into a reply, where there is one
pub record ReadsFromQueue (p q : ℕ) (old new : Kernel) (begun answer : Answer) (result : QueueOutcome) : Type 0 where
  pub kernel : new ≡ taken_from old p q
  pub outcome : result ≡ read_outcome old.queues q
  pub other : IfSome (woken_by result) (λ w. Lives new.dispatcher.procs w)
  pub not_now : IfNotNow result ((new ≡ old) × (must_wait old.queues q true ≡ true))
  pub reply : answer ≡ read_reply old.queues q begun

-- the message of a process's call is written to a queue, where there is room
pub record WritesToQueue (p q : ℕ) (old new : Kernel) (result : QueueOutcome) : Type 0 where
  pub kernel : new ≡ given_to old p q
  pub outcome : result ≡ write_outcome old.queues q
  pub other : IfSome (woken_by result) (λ w. Lives new.dispatcher.procs w)
  pub not_now : IfNotNow result ((new ≡ old) × (must_wait old.queues q false ≡ true))

-- the process whose call at the disk is over is ready again
pub record EndsDiskCall (p : ℕ) (old new : Kernel) : Type 0 where
  pub kernel : new ≡ ready_again p old
  pub sound : IsSoundKernel new
  pub ready : IsReady new.dispatcher p
