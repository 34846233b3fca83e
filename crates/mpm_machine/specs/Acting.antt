-- What a part of a step asks of the system and of the process that acts, and what it brings about.
use Rattle.std.specs.Prelude.{◌≡◌, ◌+◌, ℕ, [], Some, length}
use Rattle.mpm_procs.specs.Table.{Lives, process_in}
use Rattle.mpm_dispatcher.specs.Dispatch.{IsReady}
use Rattle.mpm_kernel.specs.Disk.{IsOver}
use Rattle.mpm_system.specs.declared.system.System.{System}
pub use Rattle.mpm_system.specs.Whole.{LivesInSystem, Makes}
pub use Rattle.mpm_system.specs.Sending.{IsReadyWithin}
pub use Rattle.mpm_system.specs.Calling.{CallGives}
use Rattle.mpm_system.specs.Whole.{IsWhole, HasRoom, HasRoomForAll}

-- Of a process.

-- it acts in its segment, and there is room for the record of its call
pub record ActsIn (p seg : ℕ) (system : System) : Type 0 where
  pub whole : IsWhole system
  pub lives : Lives system.kernel.dispatcher.procs p
  pub ready : IsReady system.kernel.dispatcher p
  pub home : (process_in system.kernel.dispatcher.procs p).seg ≡ Some seg
  pub room : HasRoom system

-- its call may be answered: there is room for the record
pub record MayAnswer (p : ℕ) (system : System) : Type 0 where
  pub whole : IsWhole system
  pub lives : Lives system.kernel.dispatcher.procs p
  pub room : HasRoom system

-- the last turn of its call was served: it may be answered, and so may be all whose held calls its end completes
pub record MayEndCall (p : ℕ) (system : System) : Type 0 where
  pub whole : IsWhole system
  pub over : IsOver p system.kernel
  pub room : HasRoomForAll (length system.records + 1)

-- Of the system.

-- all whose held calls were completed may be answered
pub record MayAnswerAll (system : System) : Type 0 where
  pub whole : IsWhole system
  pub room : HasRoomForAll (length system.records + 1)

-- no record is left to be written
pub record HasNoRecords (system : System) : Type 0 where
  pub whole : IsWhole system
  pub none : system.records ≡ []
