-- A call is served by what it took and by who has which segment, and never by the bytes of memory.
use Rattle.std.proofs.Common.{◌≡◌, ◌∙◌, ℕ, suc, cond, not, ◌+◌, Bool, true, false, List, [], ◌∷◌, ◌++◌, Option, Some, None, ◌&&◌, ◌==◌, nat_le, nat_lt, length, get_or, if◌then◌else◌, inl, inr, refl, sym, ap, subst, arith, ◌||◌}
use Rattle.std.specs.List.{flat_map, position_or_len, range_with_len}
use Rattle.std.proofs.lemmas.Bool.{cases_eq, cases_lt}
use Rattle.std.proofs.Math.ListN.{get_or-eq_default, get_or-map as map_at}
use Rattle.mpm_base.specs.Lists.{zeros}
use Rattle.mpm_base.specs.Calls.{Taken, byte_in}
use Rattle.mpm_base.specs.declared.functions.TheConstants.{ABSOLUTE_MEMORY_REQUEST, RELOCATABLE_MEMORY_REQUEST, MEMORY_FREE, CREATE_PROCESS, CHAIN_TO_PROGRAM, SEND_CLI_COMMAND, PARSE_FILENAME, ABORT_SPECIFIED_PROCESS, SYSTEM_DATA_ADDRESS, RETURN_PROCESS_DESCRIPTOR_ADDRESS}
use Rattle.mpm_banks.specs.Memory.{Memory, no_segment, SameSegments, segment_of}
use Rattle.mpm_banks.specs.MemoryLaws.{field_stays}
use Rattle.mpm_banks.specs.declared.segment.Segment.{Segment}
use Rattle.mpm_banks.specs.declared.segment.Allocation.{Allocation}
use Rattle.mpm_banks.specs.declared.segment.Allocation.TheVariants.{Free, Reserved}
use Rattle.mpm_banks.specs.Allocations.{is_free, is_owners, has_base, fits, lowest_free, allocated, reserved, released, is_reserved, all_released, freed}
use Rattle.mpm_banks.proofs.SegmentLaws.{count_allocated, count_all_released, allocation_of_allocated, segment_of_allocated}
use Rattle.mpm_procs.specs.Table.{Table, process_in}
use Rattle.mpm_kernel.specs.Kernel.{Kernel, is_resident}
use Rattle.mpm_kernel.specs.Called.{Called}
use Rattle.mpm_kernel.specs.Calls.{called}
use Rattle.mpm_gate.specs.Descriptors.{segment_descriptor}
use Rattle.mpm_xdos.specs.Copies.{segment_descriptors, with_zeros, system_page, system_answer, descriptor_answer}
use Rattle.mpm_xdos.specs.Creating.{home_base, created, create_answer}
use Rattle.mpm_xdos.specs.Ending.{is_home, vacated_if_empty, memory_without}
use Rattle.mpm_xdos.specs.Aborting.{waits_to_end, target, memory_after_abort}
use Rattle.mpm_residents.specs.Natives.{native_in, interprets_if_there}
use Rattle.mpm_residents.specs.declared.native.Native.{Native}
use Rattle.mpm_gate.specs.declared.gate.Gate.{Gate}
use Rattle.mpm_system.specs.declared.system.System.{System}
use Rattle.mpm_system.specs.Calling.{Served, served_by, calling}
use Rattle.mpm_system.specs.Sending.{has_interpreter, sending, chaining}
use Rattle.mpm_system.specs.Taking.{asked, keeping}
use Rattle.mpm_system.specs.Segments.{reserve_reply, base_asked, reserving, releasing}
use Rattle.mpm_system.specs.Parsing.{parsing}
use Rattle.mpm_system.specs.Whole.{SystemChange}
use Rattle.mpm_system.specs.Coming.{counted}
use Rattle.mpm_system.proofs.HomeLaws.{freed_place}
use Rattle.mpm_machine.specs.Serving.{creating, aborted, aborting_this, aborting, served_to_all, served, gate_step, telling_system, telling_descriptor}
use Rattle.mpm_machine.specs.Step.{acted_at, acted_by, acted, running_segment, is_no_gate, instruction_by, at_instruction, begun_by, instruction_unless, then_also}
use Rattle.mpm_machine.specs.FileCalls.{file_caller}
use Rattle.mpm_machine.specs.Finishing.{all_answered}
use Rattle.mpm_machine.specs.Stepping.{Telling, begun_with, begun_as, is_instruction, rest_of, step_with}
use Rattle.mpm_machine.specs.Contained.{DiffersInBytes, ServedAlike, CallsAtGate, ServedByValue}

-- the same segment is the lowest that is free
fits_alike : (base : Option ℕ) (pages : ℕ) (one other : Segment) → other.base ≡ one.base → other.pages ≡ one.pages
    → other.allocation ≡ one.allocation → fits base pages other ≡ fits base pages one
fits_alike base pages one other first count hands =
    ap (λ allocation. is_free allocation && (nat_le pages other.pages && has_base base other.base)) hands
    ∙ ap (λ n. is_free one.allocation && (nat_le pages n && has_base base other.base)) count
    ∙ ap (λ page. is_free one.allocation && (nat_le pages one.pages && has_base base page)) first

first_alike : (test : Segment → Bool) (one other : List Segment) → length other ≡ length one
    → ((k : ℕ) → test (get_or other k no_segment) ≡ test (get_or one k no_segment)) → position_or_len test other ≡ position_or_len test one
first_alike test [] [] count each = refl
first_alike test [] (s ∷ other) count each = absurd (omega arith)
first_alike test (s ∷ one) [] count each = absurd (omega arith)
first_alike test (s ∷ one) (t ∷ other) count each =
    ap (λ b. cond (not b) (1 + position_or_len test other) 0) (each 0)
    ∙ ap (λ n. cond (not (test s)) (1 + n) 0) (first_alike test one other (omega arith) (λ k. each (suc k)))

lowest_alike : (one other : Memory) (base : Option ℕ) (pages : ℕ) → SameSegments one other → lowest_free other base pages ≡ lowest_free one base pages
unfolding lowest_free
lowest_alike one other base pages same =
    let first = first_alike (fits base pages) one.segments other.segments same.count
    (λ k. fits_alike base pages (segment_of one k) (segment_of other k) (same.base k) (same.pages k) (same.allocation k)) in
    let found : ℕ → ℕ → Option ℕ = λ place count. cond (nat_lt place count) (Some place) None in
    ap (λ place. found place (length other.segments)) first ∙ ap (found (position_or_len (fits base pages) one.segments)) same.count

-- segments that are in the same hands go into the same hands

hands_there : (one other : Memory) (seg : ℕ) (allocation : Allocation) → SameSegments one other
    → (segment_of (allocated other seg allocation) seg).allocation ≡ (segment_of (allocated one seg allocation) seg).allocation
hands_there one other seg allocation same = elim (cases_lt seg (length one.segments)) [
  | inl there ↦ allocation_of_allocated other seg allocation (omega (arith, there, same.count)) ∙ sym (allocation_of_allocated one seg allocation there)
  | inr beyond ↦
      ap (λ (s : Segment). s.allocation)
      (get_or-eq_default (allocated other seg allocation).segments no_segment (omega (arith, beyond, same.count, count_allocated other seg allocation))
      ∙ sym (get_or-eq_default (allocated one seg allocation).segments no_segment (omega (arith, beyond, count_allocated one seg allocation))))
]

pub allocated_alike : (one other : Memory) (seg : ℕ) (allocation : Allocation) → SameSegments one other
    → SameSegments (allocated one seg allocation) (allocated other seg allocation)
unfolding allocated
allocated_alike one other seg allocation same = record {
  count = count_allocated other seg allocation ∙ same.count ∙ sym (count_allocated one seg allocation);
  base = λ k. field_stays (λ s. s.base) other.segments seg k _ refl ∙ same.base k ∙ sym (field_stays (λ s. s.base) one.segments seg k _ refl);
  pages = λ k. field_stays (λ s. s.pages) other.segments seg k _ refl ∙ same.pages k ∙ sym (field_stays (λ s. s.pages) one.segments seg k _ refl);
  allocation = λ k. elim (cases_eq k seg) [
    | inl here ↦
        let P : ℕ → Type 0 = λ n. (segment_of (allocated other seg allocation) n).allocation ≡ (segment_of (allocated one seg allocation) n).allocation in
        subst P (sym here) (hands_there one other seg allocation same)
    | inr apart ↦
        ap (λ (s : Segment). s.allocation) (segment_of_allocated other seg k allocation apart)
        ∙ same.allocation k
        ∙ sym (ap (λ (s : Segment). s.allocation) (segment_of_allocated one seg k allocation apart))
  ];
}

reserved_alike : (one other : Memory) (owner : ℕ) (seg : Option ℕ) → SameSegments one other → SameSegments (reserved one owner seg) (reserved other owner seg)
unfolding reserved
reserved_alike one other owner None same = same
reserved_alike one other owner (Some seg) same = allocated_alike one other seg (Reserved owner) same

reserved_by : (one other : Memory) (owner : ℕ) (found seg : Option ℕ) → found ≡ seg → SameSegments one other
    → SameSegments (reserved one owner seg) (reserved other owner found)
reserved_by one other owner found seg e same =
    subst (λ s. SameSegments (reserved one owner seg) (reserved other owner s)) (sym e) (reserved_alike one other owner seg same)

owner_alike : (one other : Memory) (owner seg : ℕ) → SameSegments one other → is_reserved other owner seg ≡ is_reserved one owner seg
unfolding is_reserved
owner_alike one other owner seg same = ap (is_owners owner) (same.allocation seg)

same_if : (b : Bool) (one other one' other' : Memory) → SameSegments one other → SameSegments one' other'
    → SameSegments (if b then one else one') (if b then other else other')
same_if true one other one' other' is was = is
same_if false one other one' other' is was = was

released_alike : (one other : Memory) (owner seg : ℕ) → SameSegments one other → SameSegments (released one owner seg) (released other owner seg)
unfolding released
released_alike one other owner seg same =
    let b = is_reserved one owner seg in
    subst (λ c. SameSegments (if b then allocated one seg Free else one) (if c then allocated other seg Free else other)) (sym (owner_alike one other owner seg same))
    (same_if b _ _ _ _ (allocated_alike one other seg Free same) same)

-- so the call is served alike

descriptor_alike : (one other : Memory) (seg : ℕ) → SameSegments one other → segment_descriptor other seg ≡ segment_descriptor one seg
descriptor_alike one other seg same =
    ap (λ base. base ∷ (segment_of other seg).pages ∷ 128 ∷ seg ∷ []) (same.base seg) ∙ ap (λ pages. (segment_of one seg).base ∷ pages ∷ 128 ∷ seg ∷ []) (same.pages seg)

reply_alike : (one other : Memory) (call : Taken) (seg : Option ℕ) → SameSegments one other → reserve_reply other call seg ≡ reserve_reply one call seg
reply_alike one other call None same = refl
reply_alike one other call (Some seg) same =
    ap (λ bytes. record { hl = 0; fcb = None; at = call.word; bytes = bytes }) (descriptor_alike one other seg same)

reserving_alike : (base : Option ℕ) (call : Taken) (p : ℕ) (one other : System) → DiffersInBytes one other
    → ServedAlike (reserving base call p one) (reserving base call p other)
unfolding reserving
reserving_alike base call p one other d =
    let found = lowest_alike one.memory other.memory base (byte_in call 1) d.segments in
    record {
      kernel = d.kernel;
      segments = reserved_by one.memory other.memory p _ _ found d.segments;
      outcome = refl;
      reply = ap (reserve_reply other.memory call) found ∙ reply_alike one.memory other.memory call _ d.segments;
    }

releasing_alike : (call : Taken) (p : ℕ) (one other : System) → DiffersInBytes one other → ServedAlike (releasing call p one) (releasing call p other)
unfolding releasing
releasing_alike call p one other d = record {
  kernel = d.kernel;
  segments = released_alike one.memory other.memory p (byte_in call 3) d.segments;
  outcome = refl;
  reply = ap (λ (b : Bool). record { hl = if b then 0 else 255; fcb = None; at = 0; bytes = [] }) (owner_alike one.memory other.memory p (byte_in call 3) d.segments);
}

home_base_alike : (one other : Memory) (seg : Option ℕ) → SameSegments one other → home_base other seg ≡ home_base one seg
home_base_alike one other None same = refl
home_base_alike one other (Some seg) same = same.base seg

creating_alike : (p : ℕ) (one other : System) → DiffersInBytes one other → ServedAlike (creating p one) (creating p other)
unfolding creating
creating_alike p one other d =
    let base : home_base other.memory (process_in other.kernel.dispatcher.procs p).seg ≡ home_base one.memory (process_in one.kernel.dispatcher.procs p).seg =
    ap (λ (kernel : Kernel). home_base other.memory (process_in kernel.dispatcher.procs p).seg) d.kernel ∙ home_base_alike one.memory other.memory _ d.segments in
    record {
      kernel = ap (created other.kernel p) base ∙ ap (λ kernel. created kernel p (home_base one.memory (process_in one.kernel.dispatcher.procs p).seg)) d.kernel;
      segments = d.segments;
      outcome = refl;
      reply = ap (λ value. record { hl = value; fcb = None; at = 0; bytes = [] })
          (ap (create_answer other.kernel p) base ∙ ap (λ kernel. create_answer kernel p (home_base one.memory (process_in one.kernel.dispatcher.procs p).seg)) d.kernel);
    }

alike_if : (b : Bool) (one one' other other' : Served) → ServedAlike one other → ServedAlike one' other'
    → ServedAlike (if b then one else one') (if b then other else other')
alike_if true one one' other other' is was = is
alike_if false one one' other other' is was = was

-- an end gives the same segments back

pub segment_freed : (memory : Memory) (owner seg : ℕ) → segment_of (all_released memory owner) seg ≡ freed owner (segment_of memory seg)
unfolding all_released
segment_freed memory owner seg = map_at (freed owner) memory.segments seg no_segment

-- in whose hands it is then
abbrev hands_freed : ℕ → Allocation → Allocation
hands_freed owner allocation = if is_owners owner allocation then Free else allocation

freed_hands : (b : Bool) (segment : Segment) → (if b then record segment { allocation = Free } else segment).allocation ≡ (if b then Free else segment.allocation)
freed_hands true segment = refl
freed_hands false segment = refl

base_freed : (memory : Memory) (owner seg : ℕ) → (segment_of (all_released memory owner) seg).base ≡ (segment_of memory seg).base
base_freed memory owner seg =
    ap (λ (s : Segment). s.base) (segment_freed memory owner seg) ∙ (freed_place owner (segment_of memory seg)).0

pages_freed : (memory : Memory) (owner seg : ℕ) → (segment_of (all_released memory owner) seg).pages ≡ (segment_of memory seg).pages
pages_freed memory owner seg =
    ap (λ (s : Segment). s.pages) (segment_freed memory owner seg) ∙ (freed_place owner (segment_of memory seg)).1

hands_after : (memory : Memory) (owner seg : ℕ) → (segment_of (all_released memory owner) seg).allocation ≡ hands_freed owner (segment_of memory seg).allocation
hands_after memory owner seg =
    ap (λ (s : Segment). s.allocation) (segment_freed memory owner seg) ∙ freed_hands (is_owners owner (segment_of memory seg).allocation) (segment_of memory seg)

all_released_alike : (one other : Memory) (owner : ℕ) → SameSegments one other → SameSegments (all_released one owner) (all_released other owner)
all_released_alike one other owner same = record {
  count = count_all_released other owner ∙ same.count ∙ sym (count_all_released one owner);
  base = λ k. base_freed other owner k ∙ same.base k ∙ sym (base_freed one owner k);
  pages = λ k. pages_freed other owner k ∙ same.pages k ∙ sym (pages_freed one owner k);
  allocation = λ k. hands_after other owner k ∙ ap (hands_freed owner) (same.allocation k) ∙ sym (hands_after one owner k);
}

vacated_alike : (one other : Memory) (procs : Table) (seg : Option ℕ) → SameSegments one other → SameSegments (vacated_if_empty one procs seg) (vacated_if_empty other procs seg)
unfolding vacated_if_empty
vacated_alike one other procs None same = same
vacated_alike one other procs (Some seg) same = same_if (is_home procs seg) _ _ _ _ same (allocated_alike one other seg Free same)

without_alike : (one other : Memory) (kernel : Kernel) (p : ℕ) → SameSegments one other → SameSegments (memory_without one kernel p) (memory_without other kernel p)
unfolding memory_without
without_alike one other kernel p same = vacated_alike _ _ _ _ (all_released_alike one other p same)

aborted_alike : (one other : Memory) (kernel : Kernel) (p : ℕ) → SameSegments one other
    → SameSegments (memory_after_abort one kernel p) (memory_after_abort other kernel p)
unfolding memory_after_abort
aborted_alike one other kernel p same = same_if (is_resident kernel.dispatcher.procs p || waits_to_end kernel p) _ _ _ _ same (without_alike one other kernel p same)

aborting_with : (named : Option ℕ) (p : ℕ) (one other : System) → SameSegments one.memory other.memory
    → ServedAlike (aborting_this named p one) (aborting_this named p (record other { kernel = one.kernel }))
unfolding aborted
aborting_with None p one other same = record { kernel = refl; segments = same; outcome = refl; reply = refl }
aborting_with (Some q) p one other same =
    alike_if (q == p && not (waits_to_end one.kernel p)) _ _ _ _ (record { kernel = refl; segments = same; outcome = refl; reply = refl })
    (record { kernel = refl; segments = aborted_alike one.memory other.memory one.kernel q same; outcome = refl; reply = refl })

aborting_alike : (p : ℕ) (one other : System) → DiffersInBytes one other → ServedAlike (aborting p one) (aborting p other)
unfolding aborting
aborting_alike p one other d =
    let P : Kernel → Type 0 = λ kernel. ServedAlike (aborting p one) (aborting p (record other { kernel = kernel })) in
    subst P (sym d.kernel) (aborting_with (target one.kernel.dispatcher.procs p) p one other d.segments)

parsing_alike : (call : Taken) (one other : System) → DiffersInBytes one other → ServedAlike (parsing call one) (parsing call other)
unfolding parsing
parsing_alike call one other d = record { kernel = d.kernel; segments = d.segments; outcome = refl; reply = refl }

calling_alike : (p : ℕ) (one other : System) → DiffersInBytes one other → ServedAlike (calling p one) (calling p other)
calling_alike p one other d = record {
  kernel = ap (λ kernel. (called p kernel).kernel) d.kernel;
  segments = d.segments;
  outcome = ap (λ kernel. (called p kernel).outcome) d.kernel;
  reply = ap (λ kernel. (called p kernel).reply) d.kernel;
}

-- the same is answered

descriptors_alike : (n : ℕ) (one other : Memory) → SameSegments one other → segment_descriptors n other ≡ segment_descriptors n one
unfolding segment_descriptors
descriptors_alike n one other same = λ t. flat_map (λ segment. descriptor_alike one other segment same t) (range_with_len 0 n)

page_alike : (consoles : ℕ) (one other : Memory) → SameSegments one other → system_page consoles other ≡ system_page consoles one
unfolding system_page
page_alike consoles one other same =
    let page : ℕ → List ℕ → List ℕ = λ count descriptors. 255 ∷ consoles ∷ (zeros 13 ++ (count ∷ with_zeros descriptors)) in
    ap (λ count. page count (segment_descriptors count other)) same.count
    ∙ ap (page (length one.segments)) (descriptors_alike (length one.segments) one other same)

telling_system_alike : (one other : System) → DiffersInBytes one other → ServedAlike (telling_system one) (telling_system other)
telling_system_alike one other d = record {
  kernel = d.kernel;
  segments = d.segments;
  outcome = refl;
  reply = ap (λ (kernel : Kernel). system_answer (length kernel.units.consoles) other.memory) d.kernel
      ∙ ap (λ bytes. record { hl = 65280; fcb = None; at = 65280; bytes = bytes }) (page_alike (length one.kernel.units.consoles) one.memory other.memory d.segments);
}

telling_descriptor_alike : (p : ℕ) (one other : System) → DiffersInBytes one other → ServedAlike (telling_descriptor p one) (telling_descriptor p other)
telling_descriptor_alike p one other d = record {
  kernel = d.kernel;
  segments = d.segments;
  outcome = refl;
  reply = ap (λ (kernel : Kernel). descriptor_answer p (process_in kernel.dispatcher.procs p)) d.kernel;
}

-- so is a command sent, which goes by the kernel and by whether an interpreter acts
by_kernel_alike : (does : Bool → Kernel → Called) (one other : System) → DiffersInBytes one other
    → ServedAlike (served_by (does (has_interpreter one) one.kernel) one) (served_by (does (has_interpreter other) other.kernel) other)
by_kernel_alike does one other d =
    let same : does (has_interpreter other) other.kernel ≡ does (has_interpreter one) one.kernel =
    ap (λ (residents : List Native). does (interprets_if_there (native_in residents 0)) other.kernel) d.residents ∙ ap (does (has_interpreter one)) d.kernel in
    record {
      kernel = ap (λ (c : Called). c.kernel) same;
      segments = d.segments;
      outcome = ap (λ (c : Called). c.outcome) same;
      reply = ap (λ (c : Called). c.reply) same;
    }

-- whatever bytes stand in memory, a call does the same, and answers the same
pub to_all_alike : (call : Taken) (p : ℕ) (one other : System) → DiffersInBytes one other → ServedAlike (served_to_all call p one) (served_to_all call p other)
unfolding served_to_all
to_all_alike call p one other d =
    let f = call.function in
    alike_if (f == ABSOLUTE_MEMORY_REQUEST) _ _ _ _ (reserving_alike (base_asked true call) call p one other d)
    (alike_if (f == RELOCATABLE_MEMORY_REQUEST) _ _ _ _ (reserving_alike (base_asked false call) call p one other d)
    (alike_if (f == MEMORY_FREE) _ _ _ _ (releasing_alike call p one other d)
    (alike_if (f == SEND_CLI_COMMAND) _ _ _ _ (by_kernel_alike (λ interprets kernel. sending interprets p kernel) one other d)
    (calling_alike p one other d))))

pub serves_alike : (call : Taken) (p : ℕ) (one other : System) → DiffersInBytes one other → ServedAlike (served call p one) (served call p other)
unfolding served
serves_alike call p one other d =
    let f = call.function in
    alike_if (f == CREATE_PROCESS) _ _ _ _ (creating_alike p one other d)
    (alike_if (f == ABORT_SPECIFIED_PROCESS) _ _ _ _ (aborting_alike p one other d)
    (alike_if (f == PARSE_FILENAME) _ _ _ _ (parsing_alike call one other d)
    (alike_if (f == SYSTEM_DATA_ADDRESS) _ _ _ _ (telling_system_alike one other d)
    (alike_if (f == RETURN_PROCESS_DESCRIPTOR_ADDRESS) _ _ _ _ (telling_descriptor_alike p one other d)
    (alike_if (f == CHAIN_TO_PROGRAM) _ _ _ _ (by_kernel_alike (λ interprets kernel. chaining interprets p kernel) one other d)
    (to_all_alike call p one other d))))))

-- a step in which a process calls is that of its gate

pub calls_at_gate : (system : System) (p seg : ℕ) → CallsAtGate system p seg → acted (counted system) ≡ gate_step p seg (counted system)
unfolding acted
calls_at_gate system p seg i =
    let begun = counted system in
    ap (λ running. acted_by running (running_segment running begun) begun) i.runs
    ∙ ap (λ home. acted_by (Some p) home begun) i.home
    ∙ ap (λ (gate : Option Gate). acted_at gate p seg begun) i.gate

pub no_instruction : (system : System) (p seg : ℕ) → CallsAtGate system p seg → at_instruction (counted system) ≡ false
unfolding at_instruction
no_instruction system p seg i =
    let begun = counted system in
    ap (λ running. instruction_by running (running_segment running begun) begun) i.runs
    ∙ ap (λ home. instruction_by (Some p) home begun) i.home
    ∙ ap is_no_gate i.gate

step_calls : (telling : Telling) (system : System) (p seg : ℕ) → file_caller system ≡ None → CallsAtGate system p seg
    → step_with telling system ≡ rest_of false telling (then_also (gate_step p seg (counted system)) all_answered)
unfolding step_with begun_as
step_calls telling system p seg none i =
    let begun = counted system in
    ap (λ caller. rest_of (is_instruction caller system) telling (then_also (begun_with caller telling.at_gate system) all_answered)) none
    ∙ ap (λ event. rest_of (instruction_unless event begun) telling (then_also (begun_by event begun) all_answered)) i.quiet
    ∙ ap (λ b. rest_of b telling (then_also (acted begun) all_answered)) (no_instruction system p seg i)
    ∙ ap (λ change. rest_of false telling (then_also change all_answered)) (calls_at_gate system p seg i)

pub served_by_value : (telling : Telling) (old : System) (p seg : ℕ) → file_caller old ≡ None → CallsAtGate old p seg
    → ServedByValue telling p seg old (step_with telling old).system
unfolding gate_step
served_by_value telling old p seg none i =
    let begun = counted old in
    let call = asked p seg begun in
    let kept = keeping p call begun in
    record {
      done = served call p kept;
      by_value = λ other d. serves_alike call p kept other d;
      is = ap (λ (change : SystemChange). change.system) (step_calls telling old p seg none i);
    }
