-- Processes made from descriptors. (MP/M II Programmer's Guide, "Function 144: Create Process".)
use Rattle.std.specs.Prelude.{Option, Some, None, ℕ, ◌+◌, ◌*◌, ◌/◌, Bool, List, [], ◌∷◌, ◌&&◌, nat_le, nat_lt, length, slice_range, map, slice_index, if◌then◌else◌}
use Rattle.std.specs.List.{list_all, range_with_len}
use Rattle.z80_regs.specs.Words.{onward, word_of}
use Rattle.mpm_base.specs.declared.call.TheConstants.{FAILURE_CODE}
use Rattle.mpm_banks.specs.Memory.{Memory, segment_of}
use Rattle.mpm_procs.specs.Table.{lowest_free, free_slots, process_in, call_of}
use Rattle.mpm_procs.specs.declared.process.Process.{Process}
use Rattle.mpm_procs.specs.declared.process.NewProcess.{NewProcess}
use Rattle.mpm_kernel.specs.Kernel.{Kernel, dispatched}
use Rattle.mpm_dispatcher.specs.Dispatch.{in_slot}

-- the base page of the segment that a process has
abbrev pub home_base : Memory → Option ℕ → ℕ
home_base memory None = 0
home_base memory (Some seg) = (segment_of memory seg).base

-- the word at a place of some bytes
abbrev pub word_in : List ℕ → ℕ → ℕ
word_in bytes at = word_of (slice_index bytes at) (slice_index bytes (at + 1))

-- the process that a descriptor of 16 bytes asks for, with the word at its stack pointer after it: its priority at 3, its stack pointer at
-- 4, its name at 6, its console at 14. It begins at that word, in the segment, user and drive of the process that makes it
unfoldable pub child_of : Process → ℕ → List ℕ → NewProcess
child_of parent base bytes = record {
  name = record { 0 = slice_range bytes 6 14 };
  priority = slice_index bytes 3;
  console = slice_index bytes 14;
  seg = parent.seg;
  pc = word_in bytes 16;
  sp = onward (word_in bytes 4) 2;
  dma = 256 * base + 128;
  user = parent.user;
  drive = parent.drive;
}

-- how many descriptors a call read
abbrev pub descriptor_count : List ℕ → ℕ
descriptor_count bytes = length bytes / 18

-- one of them
abbrev pub descriptor_at : List ℕ → ℕ → List ℕ
descriptor_at bytes number = slice_range bytes (18 * number) (18 * number + 18)

-- the process that one of them asks for
abbrev pub child_at : Process → ℕ → List ℕ → ℕ → NewProcess
child_at parent base bytes number = child_of parent base (descriptor_at bytes number)

-- the processes that all of them ask for
unfoldable pub children_of : Process → ℕ → List ℕ → List NewProcess
children_of parent base bytes = map (child_at parent base bytes) (range_with_len 0 (descriptor_count bytes))

-- the console of a process is one of so many
abbrev pub has_console : ℕ → NewProcess → Bool
has_console consoles child = nat_lt child.console consoles

-- there is a slot for each of them, and a console
unfoldable pub may_create : Kernel → List NewProcess → Bool
may_create kernel children =
    nat_le (length children) (free_slots kernel.dispatcher.procs) && list_all (has_console (length kernel.units.consoles)) children

-- some processes begin, one after the other, each in the lowest free slot
unfoldable pub all_admitted : List NewProcess → Kernel → Kernel
all_admitted [] kernel = kernel
all_admitted (new ∷ more) kernel = all_admitted more (dispatched (in_slot new (lowest_free kernel.dispatcher.procs)) kernel)

-- what function 144 makes of the kernel
unfoldable pub created : Kernel → ℕ → ℕ → Kernel
created kernel p base =
    let children = children_of (process_in kernel.dispatcher.procs p) base (call_of kernel.dispatcher.procs p).bytes in
    if may_create kernel children then all_admitted children kernel else kernel

-- what it answers
unfoldable pub create_answer : Kernel → ℕ → ℕ → ℕ
create_answer kernel p base =
    if may_create kernel (children_of (process_in kernel.dispatcher.procs p) base (call_of kernel.dispatcher.procs p).bytes) then 0 else FAILURE_CODE
