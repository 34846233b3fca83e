-- What the parts of taking, reading and running a core ask and leave.
use Rattle.std.specs.Prelude.{◌≡◌, ◌<◌, ◌^◌, ℕ, Bool, List, Result, IsOk, length}
use Rattle.z80_regs.specs.declared.regs.Regs.{Regs}
use Rattle.mpm_base.specs.Lists.{zeros as so_many_zeros}
use Rattle.mpm_banks.specs.Memory.{segment_of}
use Rattle.mpm_procs.specs.Table.{process_in}
use Rattle.mpm_gate.specs.Gates.{IsHome}
use Rattle.mpm_system.specs.declared.system.System.{System}
use Rattle.mpm_system.specs.Whole.{IsWhole}
use Rattle.mpm_machine.specs.declared.housing.Home.{Home}
use Rattle.mpm_core_file.specs.declared.head.Head.{Head}
use Rattle.mpm_core_file.specs.declared.reading.CoreFault.{CoreFault}
use Rattle.mpm_core_file.specs.CoreFiles.{CoreContents, IsCore, core_bytes}
use Rattle.mpm_replay.specs.declared.replaying.Replayed.{Replayed}
use Rattle.mpm_core.specs.Taking.{head_of, core_in}
use Rattle.mpm_core.specs.Replaying.{kept, RunsCoreOn}
use Rattle.mpm_core.specs.Agreement.{Agree}
use Rattle.mpm_core.specs.Files.{ReadsCoreFile}

-- these are so many zeros
pub record AreZeros (count : ℕ) (bytes : List ℕ) : Type 0 where
  pub zeros : bytes ≡ so_many_zeros count
  pub size : length bytes ≡ count

-- a buffer of the largest segment's size has the segment of a core at its front
pub record IsKeptCore (head : Head) (buffer common : List ℕ) : Type 0 where
  pub is : IsCore (kept head buffer common)
  pub room : length buffer ≡ 49152

-- the core was run on, and its segment has the place that it had
pub record RunsKept (most : ℕ) (old_head : Head) (old_buffer old_common : List ℕ) (new_head : Head) (new_buffer new_common : List ℕ) (result : Replayed) : Type 0 where
  pub runs : RunsCoreOn most (kept old_head old_buffer old_common) (kept new_head new_buffer new_common) result
  pub spec : new_head.spec ≡ old_head.spec

-- a text was read as the file of a core, or refused; one that was written of a core is read as that core
pub record ReadsCore {A : Type 0} (text : List ℕ) (old new : CoreContents) (result : Result A CoreFault) : Type 0 where
  pub reads : ReadsCoreFile text old new result
  pub again : (core : CoreContents) → IsCore core → text ≡ core_bytes core → IsOk result × (new ≡ core)

-- a core was run on by itself, and agrees with the machine of which it was taken, where that runs its process alone
pub record RunsByItself (most : ℕ) (old new : CoreContents) (result : Replayed) : Type 0 where
  pub runs : RunsCoreOn most old new result
  pub agrees : Agree most old new result

-- a machine between two steps has the segment of a home, in which a process may live
pub record HasHome (system : System) (home : Home) : Type 0 where
  pub whole : IsWhole system
  pub is_home : IsHome system.memory home.seg
  pub base : home.base ≡ (segment_of system.memory home.seg).base
  pub pages : home.pages ≡ (segment_of system.memory home.seg).pages

-- the registers of a process
pub record AreRegisters (p : ℕ) (system : System) (found : Regs) : Type 0 where
  pub regs : found ≡ (process_in system.kernel.dispatcher.procs p).regs
  pub mode : found.mode < 3

-- how many steps are done, in 64 bits
pub record CountsSteps (system : System) (count : ℕ) : Type 0 where
  pub steps : count ≡ system.steps
  pub fits : count < 2 ^ 64

-- the head of the core of a process
pub record IsHeadAt (p base pages : ℕ) (inside : Bool) (system : System) (found : Head) : Type 0 where
  pub head : found ≡ head_of system p base pages inside
  pub mode : found.regs.mode < 3
  pub fits : found.step < 2 ^ 64

-- the core of a process that lives in a segment
pub record IsCoreIn (p seg : ℕ) (system : System) (taken : CoreContents) : Type 0 where
  pub core : taken ≡ core_in p seg system
  pub is : IsCore taken
