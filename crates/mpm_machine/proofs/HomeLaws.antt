-- What an end leaves of memory: each process's segment stays a home, and one in which processes still live goes into no other hands.
use Rattle.std.proofs.Common.{◌≡◌, ◌∙◌, ℕ, true, Option, Some, None, sym, ap}
use Rattle.std.proofs.lemmas.Bool.{false≢true}
use Rattle.mpm_base.proofs.Choices.{either}
use Rattle.mpm_banks.specs.Memory.{Memory, IsMemory}
use Rattle.mpm_banks.specs.declared.segment.Allocation.TheVariants.{Free}
use Rattle.mpm_banks.specs.Allocations.{all_released}
use Rattle.mpm_procs.specs.Table.{Table, process_in}
use Rattle.mpm_kernel.specs.Kernel.{Kernel}
use Rattle.mpm_kernel.specs.Ending.{discharged}
use Rattle.mpm_xdos.specs.Ending.{is_home, vacated_if_empty, memory_without}
use Rattle.mpm_gate.specs.Gates.{IsHome}
use Rattle.mpm_system.specs.Whole.{IsOccupied}
use Rattle.mpm_system.proofs.SizeLaws.{memory_allocated}
use Rattle.mpm_system.proofs.HomeLaws.{home_allocated, lived_elsewhere, keeps_all_released}

-- a process ends: its segment stays lived in where somebody else lives there

places_vacated : (memory : Memory) (procs : Table) (seg : Option ℕ) (other : ℕ) → IsHome memory other → IsHome (vacated_if_empty memory procs seg) other
unfolding vacated_if_empty
places_vacated memory procs None other home = home
places_vacated memory procs (Some seg) other home =
    either (λ (m : Memory). IsHome m other) (is_home procs seg) _ _ (λ _. home) (λ _. home_allocated memory seg Free other home)

lived_vacated : (memory : Memory) (procs : Table) (seg : Option ℕ) (other : ℕ) → is_home procs other ≡ true → IsOccupied memory other
    → IsOccupied (vacated_if_empty memory procs seg) other
unfolding vacated_if_empty
lived_vacated memory procs None other home h = h
lived_vacated memory procs (Some seg) other home h =
    either (λ (m : Memory). IsOccupied m other) (is_home procs seg) _ _ (λ _. h)
    (λ empty. lived_elsewhere memory seg Free other (λ same. false≢true (sym empty ∙ ap (is_home procs) (sym same) ∙ home)) h)

memory_vacated : (memory : Memory) (procs : Table) (seg : Option ℕ) → IsMemory memory → IsMemory (vacated_if_empty memory procs seg)
unfolding vacated_if_empty
memory_vacated memory procs None is = is
memory_vacated memory procs (Some seg) is = either IsMemory (is_home procs seg) _ _ (λ _. is) (λ _. memory_allocated memory seg Free is)

-- what an end leaves: each home, each segment in which somebody still lives, and memory with its segments
pub record LeavesHomes (old new : Memory) (procs : Table) : Type 0 where
  pub all : (seg : ℕ) → IsHome old seg → IsHome new seg
  pub lived : (seg : ℕ) → IsHome old seg → is_home procs seg ≡ true → IsOccupied old seg → IsOccupied new seg
  pub memory : IsMemory old → IsMemory new

pub leaves_without : (memory : Memory) (kernel : Kernel) (p : ℕ) → LeavesHomes memory (memory_without memory kernel p) (discharged kernel p).dispatcher.procs
unfolding memory_without
leaves_without memory kernel p =
    let released = keeps_all_released memory p in
    let procs = (discharged kernel p).dispatcher.procs in
    let seg = (process_in kernel.dispatcher.procs p).seg in
    record {
      all = λ other home. places_vacated (all_released memory p) procs seg other (released.all other home);
      lived = λ other home there h. lived_vacated (all_released memory p) procs seg other there (released.lived other home h);
      memory = λ is. memory_vacated (all_released memory p) procs seg (released.memory is);
    }
