-- What an end of a process gives back of memory: what it reserved, and its own segment where nobody else lives there.
-- (MP/M II Programmer's Guide, "Function 0: System Reset", "Function 143: Terminate Process".)
use Rattle.std.specs.Prelude.{◌≡◌, ℕ, Bool, false, Option, Some, None, ◌&&◌, ◌==◌, if◌then◌else◌}
use Rattle.std.specs.List.{list_any, range_with_len}
use Rattle.mpm_banks.specs.Memory.{Memory, HasSegment}
use Rattle.mpm_banks.specs.Allocations.{all_released, vacated}
use Rattle.mpm_procs.specs.Table.{Table, lives, Lives, process_in}
use Rattle.mpm_kernel.specs.Kernel.{Kernel, IsSoundKernel}
use Rattle.mpm_kernel.specs.Ending.{discharged}

-- a process lives, and memory has its segment, if it has one
pub record LivesWithSegment (p : ℕ) (kernel : Kernel) (memory : Memory) : Type 0 where
  pub lives : Lives kernel.dispatcher.procs p
  pub segment : (seg : ℕ) → (process_in kernel.dispatcher.procs p).seg ≡ Some seg → HasSegment memory seg

-- a process lives in a sound kernel, and memory has its segment, if it has one
pub record LivesInMemory (p : ℕ) (kernel : Kernel) (memory : Memory) : Type 0 where
  pub sound : IsSoundKernel kernel
  pub lives : Lives kernel.dispatcher.procs p
  pub segment : (seg : ℕ) → (process_in kernel.dispatcher.procs p).seg ≡ Some seg → HasSegment memory seg

-- it is that segment
abbrev pub is_segment : ℕ → Option ℕ → Bool
is_segment seg None = false
is_segment seg (Some other) = other == seg

-- the process of a number lives, in that segment
abbrev pub lives_in : Table → ℕ → ℕ → Bool
lives_in procs seg p = lives procs p && is_segment seg (process_in procs p).seg

-- somebody lives in a segment
unfoldable pub is_home : Table → ℕ → Bool
is_home procs seg = list_any (lives_in procs seg) (range_with_len 0 32)

-- a segment that was a process's is free, where nobody lives there
unfoldable pub vacated_if_empty : Memory → Table → Option ℕ → Memory
vacated_if_empty memory procs None = memory
vacated_if_empty memory procs (Some seg) = if is_home procs seg then memory else (vacated memory seg)

-- memory after the end of a process
unfoldable pub memory_without : Memory → Kernel → ℕ → Memory
memory_without memory kernel p =
    vacated_if_empty (all_released memory p) (discharged kernel p).dispatcher.procs (process_in kernel.dispatcher.procs p).seg
