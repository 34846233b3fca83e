-- Where a process lives. (This project's own.)
use Rattle.std.specs.Prelude.{ℕ, Option, is_some, option_map, option_and_then}
use Rattle.mpm_banks.specs.Allocations.{spec_of}
use Rattle.mpm_procs.specs.Table.{process_at}
use Rattle.mpm_procs.specs.declared.process.Process.{Process}
use Rattle.mpm_system.specs.declared.system.System.{System}
use Rattle.mpm_machine.specs.declared.housing.Home.{Home}

-- what a process that lives in a segment has there
abbrev pub home_in : System → Process → ℕ → Home
home_in system process seg =
    let spec = spec_of system.memory seg in
    record { seg = seg; base = spec.base; pages = spec.pages; procedure = is_some process.procedure }

-- the home of the process of that number; none where it doesn't live, and where it is a resident, which has no segment
unfoldable pub home_of : System → ℕ → Option Home
home_of system p = option_and_then (λ process. option_map (home_in system process) process.seg) (process_at system.kernel.dispatcher.procs p)
