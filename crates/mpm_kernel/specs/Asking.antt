-- What each call of the kernel asks of it.
use Rattle.std.specs.Prelude.{◌≡◌, ℕ, ◌+◌, ◌<◌, ◌≤◌, Bool, true, None, Option, IfSome, length}
use Rattle.mpm_base.specs.declared.number.Name8.{Name8}
use Rattle.mpm_banks.specs.Memory.{Memory, HasSegment}
use Rattle.mpm_clock.specs.Times.{IsTime}
use Rattle.mpm_clock.specs.declared.moment.Moment.{Moment}
use Rattle.mpm_consoles.specs.declared.keys.KeyDone.{KeyDone}
use Rattle.mpm_procs.specs.Table.{Lives, call_of}
use Rattle.mpm_queues.specs.Queues.{IsMade, make_error}
use Rattle.mpm_queues.specs.Handling.{must_wait}
use Rattle.mpm_script.specs.declared.event.Event.{Event}
use Rattle.mpm_service.specs.Disk.{HasBegun, HasEntered}
use Rattle.mpm_kernel.specs.Kernel.{Kernel, IsSoundKernel, IsConsole, LivesInKernel, MayCall}
use Rattle.mpm_kernel.specs.Called.{low_parameter}
use Rattle.mpm_kernel.specs.Consoling.{KeyNames}
use Rattle.mpm_kernel.specs.Disk.{IsOver}
use Rattle.mpm_kernel.specs.Ending.{IsLeaving}
use Rattle.mpm_kernel.specs.Events.{MayCome}
use Rattle.mpm_kernel.specs.Queueing.{OnlySystems}

-- a machine has 1 to 8 consoles and at most 4 printers, and begins at a time of day
pub record MayBeKernel (console_count printer_count : ℕ) (now : Moment) : Type 0 where
  pub some : 1 ≤ console_count
  pub few : console_count ≤ 8
  pub printers : printer_count ≤ 4
  pub time : IsTime now

-- a living process has a segment, in which a burst may run
pub record MayLendToBurst (p seg : ℕ) (banks : Memory) (kernel : Kernel) : Type 0 where
  pub process : LivesInKernel p kernel
  pub segment : HasSegment banks seg

-- an event may come to a sound kernel
pub record MayHappen (event : Event) (kernel : Kernel) : Type 0 where
  pub sound : IsSoundKernel kernel
  pub comes : MayCome event

-- one of the sixteen devices may become ready
pub record MayBecomeReady (device : ℕ) (kernel : Kernel) : Type 0 where
  pub sound : IsSoundKernel kernel
  pub below : device < 16

-- one of the thirty-two flags may be set
pub record MaySignal (flag : ℕ) (kernel : Kernel) : Type 0 where
  pub sound : IsSoundKernel kernel
  pub below : flag < 32

-- a living process may poll the device that its call names
pub record MayPoll (p number : ℕ) (kernel : Kernel) : Type 0 where
  pub lives : Lives kernel.dispatcher.procs p
  pub device : number ≡ low_parameter (call_of kernel.dispatcher.procs p)

-- a ready process may wait for as many ticks as its call names
pub record MayDelay (p count : ℕ) (kernel : Kernel) : Type 0 where
  pub caller : MayCall p kernel
  pub ticks : count ≡ (call_of kernel.dispatcher.procs p).word

-- a console is there, and may come from a process or from nobody to a living process or to whoever waits first
pub record MayGive (number : ℕ) (giver taker : Option ℕ) (kernel : Kernel) : Type 0 where
  pub sound : IsSoundKernel kernel
  pub console : number < length kernel.units.consoles
  pub from : IfSome giver (λ p. Lives kernel.dispatcher.procs p)
  pub to : IfSome taker (λ p. Lives kernel.dispatcher.procs p)

-- a living process may become the owner of a console, which is there
pub record MayMakeOwner (p number : ℕ) (kernel : Kernel) : Type 0 where
  pub process : LivesInKernel p kernel
  pub console : number < length kernel.units.consoles

-- a console is there, and the processes that a key of it names live
pub record MayFinishKey (key : KeyDone) (number : ℕ) (kernel : Kernel) : Type 0 where
  pub names : KeyNames kernel.dispatcher.procs key
  pub console : IsConsole kernel number

-- a queue of the system may be made: no other is there, and it has room
pub record MayMakeSystemQueue (name : Name8) (width count : ℕ) (kernel : Kernel) : Type 0 where
  pub sound : IsSoundKernel kernel
  pub boot : OnlySystems kernel
  pub room : make_error kernel.queues name width count ≡ None

-- a queue is there, from which a message may be read
pub record MayReadFrom (q : ℕ) (kernel : Kernel) : Type 0 where
  pub sound : IsSoundKernel kernel
  pub queue : IsMade kernel.queues q

-- a queue is there, and a living process may write to it
pub record MayWriteTo (p q : ℕ) (kernel : Kernel) : Type 0 where
  pub process : LivesInKernel p kernel
  pub queue : IsMade kernel.queues q

-- and there is room for the held call that this completes
pub record MayWriteBack (p q : ℕ) (kernel : Kernel) : Type 0 where
  pub process : LivesInKernel p kernel
  pub queue : IsMade kernel.queues q
  pub room : length kernel.dispatcher.completed < 64

-- a ready process can't be served at a queue now, at which it may wait
pub record MayWaitAtQueue (p q : ℕ) (reader : Bool) (kernel : Kernel) : Type 0 where
  pub caller : MayCall p kernel
  pub queue : IsMade kernel.queues q
  pub waits : must_wait kernel.queues q reader ≡ true

-- a process gives up the messages that it holds, and few held calls were completed before
pub record MayReturnHeld (p : ℕ) (kernel : Kernel) : Type 0 where
  pub leaves : IsLeaving p kernel
  pub few : length kernel.dispatcher.completed ≤ 2

-- a ready process may wait for the disk, whose turns have steps
pub record MayWaitForDisk (p : ℕ) (kernel : Kernel) : Type 0 where
  pub caller : MayCall p kernel
  pub steps : 0 < kernel.disk.turn_steps

-- the disk may make a step
pub record MayTurnDisk (kernel : Kernel) : Type 0 where
  pub sound : IsSoundKernel kernel
  pub begun : HasBegun kernel.disk

-- the call that has just entered service may take so many turns
pub record MayBeginDiskCall (count : ℕ) (kernel : Kernel) : Type 0 where
  pub sound : IsSoundKernel kernel
  pub entered : HasEntered kernel.disk
  pub some : 0 < count

-- so many steps of the disk are within the turn of the call in service
pub record MayPassDisk (count : ℕ) (kernel : Kernel) : Type 0 where
  pub sound : IsSoundKernel kernel
  pub few : IfSome kernel.disk.served (λ call. call.passed + count < kernel.disk.turn_steps)

-- the call of a process at the disk is over
pub record MayEndDiskCall (p : ℕ) (kernel : Kernel) : Type 0 where
  pub sound : IsSoundKernel kernel
  pub over : IsOver p kernel
