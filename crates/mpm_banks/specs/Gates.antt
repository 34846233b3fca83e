-- The places of the gates in the last page of a segment: where the kernel acts in the place of what stands there. (MP/M II
-- System Guide, "Memory Segment Base Page Initialization"; Programmer's Guide, "Function 151: Call Resident System
-- Procedure".)
use Rattle.std.specs.Prelude.{ℕ, ◌+◌, ◌-◌}
use Rattle.mpm_banks.specs.Memory.{Memory, segment_of}

-- the last page of a segment
abbrev pub last_page : Memory → ℕ → ℕ
last_page memory seg = (segment_of memory seg).base + (segment_of memory seg).pages - 1

-- the gate that ends the process, the one that calls the kernel, and the one that ends a resident procedure
abbrev pub end_gate : ℕ
end_gate = 3

abbrev pub call_gate : ℕ
call_gate = 6

abbrev pub return_gate : ℕ
return_gate = 9
