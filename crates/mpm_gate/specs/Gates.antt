-- The gates of a segment, in its last page: where the kernel acts in the place of what stands there. (MP/M II System
-- Guide, "Memory Segment Base Page Initialization"; Programmer's Guide, "Function 151: Call Resident System Procedure".)
use Rattle.std.specs.Prelude.{ℕ, ◌+◌, ◌*◌, ◌≤◌, Bool, Option, Some, None, ◌==◌, ◌&&◌, if◌then◌else◌}
use Rattle.mpm_banks.specs.Memory.{Memory, HasSegment, segment_of}
use Rattle.mpm_banks.specs.Gates.{last_page, end_gate, call_gate, return_gate}
use Rattle.mpm_gate.specs.declared.gate.Gate.{Gate}
use Rattle.mpm_gate.specs.declared.gate.Gate.TheVariants.{End, Call, Return}

-- a process may live in the segment: it has at least four pages and ends below common memory
pub record IsHome (memory : Memory) (seg : ℕ) : Type 0 where
  pub exists : HasSegment memory seg
  pub pages : 4 ≤ (segment_of memory seg).pages
  pub end : (segment_of memory seg).base + (segment_of memory seg).pages ≤ 192

-- the gate at an address, by the last page; the one that ends a resident procedure is there for a process that is in one alone
unfoldable pub gate_in : Bool → ℕ → ℕ → Option Gate
gate_in inside page address =
    if address == 256 * page + end_gate then Some End
    else (if address == 256 * page + call_gate then Some Call
    else (if inside && address == 256 * page + return_gate then Some Return else None))

abbrev pub gate_of : Bool → Memory → ℕ → ℕ → Option Gate
gate_of inside memory seg address = gate_in inside (last_page memory seg) address
