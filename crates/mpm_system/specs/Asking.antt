-- What calls of a system ask.
use Rattle.std.specs.Prelude.{◌≡◌, ℕ, ◌+◌, ◌*◌, ◌<◌, ◌≤◌, Bool, true, List, IsSome, is_some, length}
use Rattle.std.specs.Bool.{OnTrue}
use Rattle.z80_regs.specs.Words.{word_of}
use Rattle.mpm_banks.specs.Memory.{Memory}
use Rattle.mpm_gate.specs.Gates.{IsHome}
use Rattle.mpm_kernel.specs.Kernel.{Kernel, IsSoundKernel}
use Rattle.mpm_procs.specs.Table.{Lives, process_in, call_of, lowest_free}
use Rattle.mpm_procs.specs.declared.process.NewProcess.{NewProcess}
use Rattle.mpm_queues.specs.Queues.{no_queues}
use Rattle.mpm_residents.specs.Natives.{native_in}
use Rattle.mpm_script.specs.declared.line.TheConstants.{GREATEST_STEP}
use Rattle.mpm_service.specs.Disk.{DiskService}
use Rattle.mpm_system.specs.Idling.{CanPass}
use Rattle.mpm_system.specs.Loading.{may_live}
use Rattle.mpm_system.specs.Opening.{MayBegin, AwaitsResidents, OnlyHas, command_queues, schedule_number}
use Rattle.mpm_system.specs.OwnCalls.{is_own}
use Rattle.mpm_system.specs.Saying.{MayShow}
use Rattle.mpm_system.specs.Whole.{IsWhole, LivesInSystem, NoCompletions}
use Rattle.mpm_system.specs.declared.system.System.{System}

-- a whole system has one more step
pub record MayCountStep (system : System) : Type 0 where
  pub whole : IsWhole system
  pub most : system.steps < GREATEST_STEP

-- and a process lives in it, which may make a file call in that step
pub record MayMakeFileCall (p : ℕ) (system : System) : Type 0 where
  pub process : LivesInSystem p system
  pub most : system.steps < GREATEST_STEP

-- a process lives, whose own call has that function and that parameter
pub record MayTakeOwn (p number parameter : ℕ) (system : System) : Type 0 where
  pub lives : Lives system.kernel.dispatcher.procs p
  pub own : is_own number ≡ true
  pub function : number ≡ (process_in system.kernel.dispatcher.procs p).regs.c
  pub word : parameter ≡ word_of (process_in system.kernel.dispatcher.procs p).regs.e (process_in system.kernel.dispatcher.procs p).regs.d

-- a process lives, whose call read no more than a text to be parsed
pub record MayParse (p : ℕ) (system : System) : Type 0 where
  pub lives : Lives system.kernel.dispatcher.procs p
  pub few : length (call_of system.kernel.dispatcher.procs p).bytes ≤ 132

-- a process lives, which is a resident
pub record MayAskNext (p : ℕ) (system : System) : Type 0 where
  pub lives : Lives system.kernel.dispatcher.procs p
  pub has : is_some (native_in system.residents p) ≡ true

-- a process lives, the bytes of whose call may be shown on a console
pub record MayWriteKept (p number : ℕ) (kernel : Kernel) : Type 0 where
  pub lives : Lives kernel.dispatcher.procs p
  pub console : MayShow number kernel

-- so many steps of a sound kernel only pass
pub record MayPassSteps (count : ℕ) (system : System) : Type 0 where
  pub sound : IsSoundKernel system.kernel
  pub room : system.steps + count ≤ GREATEST_STEP
  pub short : count ≤ 4294967295
  pub passing : CanPass count system.kernel.disk

-- at most so many steps of the disk only pass
pub record TellsDiskQuiet (most : ℕ) (disk : DiskService) (result : ℕ) : Type 0 where
  pub few : result ≤ most
  pub passing : CanPass result disk

-- there is code to be moved, and a mark for each byte of it
pub record MayMoveRange (count : ℕ) (bits : List ℕ) : Type 0 where
  pub some : 0 < count
  pub marks : count ≤ 8 * length bits

-- whether processes may live in a segment, which has room for the gates then
pub record TellsMayLive (memory : Memory) (seg : ℕ) (result : Bool) : Type 0 where
  pub test : result ≡ may_live memory seg
  pub home : OnTrue result (IsHome memory seg)

-- a process may begin, and the living one that makes it may give it its console
pub record MayBeginFor (p : ℕ) (new : NewProcess) (kernel : Kernel) : Type 0 where
  pub begins : MayBegin new kernel
  pub lives : Lives kernel.dispatcher.procs p

-- a process may begin, for which a slot is free
pub record MayBeginInSlot (new : NewProcess) (kernel : Kernel) : Type 0 where
  pub begins : MayBegin new kernel
  pub slot : IsSome (lowest_free kernel.dispatcher.procs)

-- a program may be laid out in a segment, which has room for the gates
pub record MayLayOut (seg : ℕ) (program : List ℕ) (memory : Memory) : Type 0 where
  pub home : IsHome memory seg
  pub few : length program ≤ 65535

-- a system that awaits its residents has nothing left to be done
pub record MayBeginAll (count : ℕ) (system : System) : Type 0 where
  pub awaits : AwaitsResidents count system
  pub no_completions : NoCompletions system

-- a whole system has no queues yet
pub record MayQueueCommands (system : System) : Type 0 where
  pub whole : IsWhole system
  pub queues : OnlyHas no_queues system.kernel

-- a sound kernel has the command queue alone
pub record MayQueueSpooling (kernel : Kernel) : Type 0 where
  pub sound : IsSoundKernel kernel
  pub queues : OnlyHas command_queues kernel

-- the number of the scheduler's queue, beside the spooler's or without them
pub record IsScheduleNumber (spool : Bool) (result : ℕ) : Type 0 where
  pub number : result ≡ schedule_number spool
  pub below : result < 32
