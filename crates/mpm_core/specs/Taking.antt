-- The core of a process of a machine. (This project's own.)
use Rattle.std.specs.Prelude.{◌≡◌, ℕ, Bool, Option, Some, is_some, option_map, option_and_then}
use Rattle.std.specs.Bool.{OnTrue, OnFalse}
use Rattle.mpm_banks.specs.Memory.{segment_of}
use Rattle.mpm_banks.specs.Allocations.{spec_of}
use Rattle.mpm_procs.specs.Table.{process_in, process_at}
use Rattle.mpm_system.specs.declared.system.System.{System}
use Rattle.mpm_system.specs.Procedures.{is_inside}
use Rattle.mpm_gate.specs.Gates.{IsHome}
use Rattle.mpm_system.specs.Whole.{IsWhole}
use Rattle.mpm_machine.specs.declared.housing.Home.{Home}
use Rattle.mpm_machine.specs.Housing.{home_of}
use Rattle.mpm_core_file.specs.CoreFiles.{CoreContents, IsCore}
use Rattle.mpm_core_file.specs.declared.head.Head.{Head}

-- what the core of a process says before its memory
abbrev pub head_of : System → ℕ → ℕ → ℕ → Bool → Head
head_of system p base pages inside = record {
  step = system.steps;
  process = p;
  spec = record { base = base; pages = pages };
  inside = inside;
  regs = (process_in system.kernel.dispatcher.procs p).regs;
}

-- what a process that lives in a segment is: its registers, its segment and common memory, after so many steps
abbrev pub core_in : ℕ → ℕ → System → CoreContents
core_in p seg system = record {
  head = record {
    step = system.steps;
    process = p;
    spec = spec_of system.memory seg;
    inside = is_inside system.kernel.dispatcher.procs p;
    regs = (process_in system.kernel.dispatcher.procs p).regs;
  };
  segment = (segment_of system.memory seg).bytes;
  common = system.memory.common;
}

-- the segment in which a process lives; none where it doesn't live, and where it is a resident
unfoldable pub segment_at : ℕ → System → Option ℕ
segment_at p system = option_and_then (λ process. process.seg) (process_at system.kernel.dispatcher.procs p)

abbrev pub core_at : ℕ → System → Option CoreContents
core_at p system = option_map (λ seg. core_in p seg system) (segment_at p system)

-- where a process of a machine lives between two steps
pub record IsHomeOf (p : ℕ) (system : System) (home : Home) : Type 0 where
  pub whole : IsWhole system
  pub there : home_of system p ≡ Some home
  pub is_home : IsHome system.memory home.seg

-- who looked at a machine for a core has it, exactly where there is one; else it has what it had
pub record Takes (found : Option CoreContents) (old new : CoreContents) (answer : Bool) : Type 0 where
  pub answer_is : answer ≡ is_some found
  pub core : OnTrue answer (found ≡ Some new)
  pub is : OnTrue answer (IsCore new)
  pub stays : OnFalse answer (new ≡ old)
