-- What calls that make and end processes ask, and what they leave and answer.
use Rattle.std.specs.Prelude.{◌≡◌, ℕ, ◌≤◌, Bool, true, List, Option, IfSome, length}
use Rattle.std.specs.List.{list_all}
use Rattle.mpm_base.specs.Calls.{Answer, answering}
use Rattle.mpm_banks.specs.Memory.{Memory}
use Rattle.mpm_procs.specs.Table.{Table, Lives, process_in, call_of}
use Rattle.mpm_procs.specs.declared.process.NewProcess.{NewProcess}
use Rattle.mpm_kernel.specs.Kernel.{Kernel, IsSoundKernel, CompletedLive}
use Rattle.mpm_kernel.specs.Ending.{discharged}
use Rattle.mpm_xdos.specs.Ending.{LivesInMemory, memory_without}
use Rattle.mpm_xdos.specs.Aborting.{abort_done, memory_after_abort}
use Rattle.mpm_xdos.specs.Copies.{segment_descriptors}
use Rattle.mpm_xdos.specs.Creating.{home_base, created, create_answer, may_create, has_console}
use Rattle.mpm_xdos.specs.Procedures.{entered, entry_reply}

-- the process that is sought, which lives, if there is one
pub record FindsLiving (sought : Option ℕ) (procs : Table) (result : Option ℕ) : Type 0 where
  pub number : result ≡ sought
  pub lives : IfSome result (λ q. Lives procs q)

-- a process ends, or its end is put off
pub record EndsOrPutsOff (p : ℕ) (old new : Kernel) (banks after : Memory) : Type 0 where
  pub kernel : new ≡ abort_done old p
  pub memory : after ≡ memory_after_abort banks old p

-- and so that the kernel stays sound
pub record AbortsProcess (p : ℕ) (old new : Kernel) (banks after : Memory) : Type 0 where
  pub kernel : new ≡ abort_done old p
  pub memory : after ≡ memory_after_abort banks old p
  pub sound : IsSoundKernel new

-- a process has ended, and what it had of memory is given back
pub record EndsInMemory (p : ℕ) (old new : Kernel) (banks after : Memory) : Type 0 where
  pub kernel : new ≡ discharged old p
  pub memory : after ≡ memory_without banks old p
  pub sound : IsSoundKernel new
  pub live : CompletedLive new

-- so many segments are there, at most sixteen
pub record MayDescribeSegments (count : ℕ) (banks : Memory) : Type 0 where
  pub there : count ≤ length banks.segments
  pub few : count ≤ 16

-- their descriptors, one after the other, in at most 64 bytes
pub record DescribesSegments (count : ℕ) (banks : Memory) (result : List ℕ) : Type 0 where
  pub descriptors : result ≡ segment_descriptors count banks
  pub size : length result ≤ 64

-- a process lives, and its call read at most 32 descriptors
pub record MayCreate (p : ℕ) (kernel : Kernel) (banks : Memory) : Type 0 where
  pub parent : LivesInMemory p kernel banks
  pub few : length (call_of kernel.dispatcher.procs p).bytes ≤ 576

-- the processes that the call asks for are made, or none of them, and the answer says which
pub record CreatesProcesses (p : ℕ) (old new : Kernel) (banks : Memory) (answer : Answer) : Type 0 where
  pub kernel : new ≡ created old p (home_base banks (process_in old.dispatcher.procs p).seg)
  pub reply : answer ≡ answering (create_answer old p (home_base banks (process_in old.dispatcher.procs p).seg))
  pub sound : IsSoundKernel new

-- some processes may be made, and then the console of each is there
pub record TellsMayCreate (children : List NewProcess) (kernel : Kernel) (result : Bool) : Type 0 where
  pub may : result ≡ may_create kernel children
  pub consoles : result ≡ true → list_all (has_console (length kernel.units.consoles)) children ≡ true

-- the console of each of some processes is there
pub record MayAdmitAll (children : List NewProcess) (kernel : Kernel) : Type 0 where
  pub sound : IsSoundKernel kernel
  pub consoles : list_all (has_console (length kernel.units.consoles)) children ≡ true

-- a process goes on in a resident procedure, and is answered where that returns to
pub record EntersWithReply (p : ℕ) (old new : Kernel) (banks : Memory) (answer : Answer) : Type 0 where
  pub kernel : new ≡ entered p old
  pub reply : answer ≡ entry_reply banks (process_in old.dispatcher.procs p)

-- and so that a sound kernel stays sound
pub record EntersProcedure (p : ℕ) (old new : Kernel) (banks : Memory) (answer : Answer) : Type 0 where
  pub kernel : new ≡ entered p old
  pub reply : answer ≡ entry_reply banks (process_in old.dispatcher.procs p)
  pub sound : IsSoundKernel old → IsSoundKernel new
