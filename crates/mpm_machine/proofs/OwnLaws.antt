-- A segment that slot 0 has reserved stays its own, whatever other processes do with theirs; and the interpreter stands in a machine
-- as its answers come.
use Rattle.std.proofs.Common.{◌≡◌, ◌≢◌, ◌∙◌, ℕ, suc, ◌==◌, ◌≤◌, if◌then◌else◌, Bool, true, false, List, length, Option, Some, None, inl, inr, refl, sym, ap, subst, arith, eqb-true}
use Rattle.std.specs.Prelude.{nat_lt}
use Rattle.std.proofs.lemmas.Bool.{cases_eq, false≢true}
use Rattle.std.proofs.lemmas.List.{length-set}
use Rattle.mpm_base.proofs.Choices.{either}
use Rattle.mpm_base.specs.Calls.{Taken, Answer}
use Rattle.mpm_banks.specs.Memory.{Memory, HasSegment, SameSegments, segment_of}
use Rattle.mpm_banks.specs.MemoryLaws.{field_stays}
use Rattle.mpm_banks.specs.declared.segment.Segment.{Segment}
use Rattle.mpm_banks.specs.declared.segment.Allocation.{Allocation}
use Rattle.mpm_banks.specs.declared.segment.Allocation.TheVariants.{Free as Nobodys, Reserved, Occupied}
use Rattle.mpm_banks.specs.Allocations.{is_free, is_owners, lowest_free, allocated, reserved, released, is_reserved, freed, all_released, spec_of}
use Rattle.mpm_banks.proofs.SegmentLaws.{count_all_released, allocation_of_allocated, segment_of_allocated, lowest_free_fits}
use Rattle.mpm_procs.specs.Table.{Table, Lives, process_in}
use Rattle.mpm_kernel.specs.Kernel.{Kernel}
use Rattle.mpm_kernel.specs.Ending.{discharged}
use Rattle.mpm_xdos.specs.Ending.{is_home, vacated_if_empty, memory_without}
use Rattle.z80_regs.specs.Words.{word_of}
use Rattle.mpm_command.specs.Commands.{command_in, console_in}
use Rattle.mpm_command.specs.declared.command.Command.{Command}
use Rattle.mpm_loader.specs.Pieces.{Loading, begun, with_piece}
use Rattle.mpm_residents.specs.Interpreters.{Interpreter, byte_at, not_found, message_in, followed, after_open, headed, records_in, absolute, size_in, sized, with_block, read_on, row_for_memory, row_for_piece, row_behind_code, row_behind_marks, took, took_at, reserved as with_reserved}
use Rattle.mpm_residents.specs.declared.cli.table.Message.TheVariants.{NotFound, BadLoad, NoProcess, QueueFull}
use Rattle.mpm_residents.specs.declared.cli.table.Row.TheVariants.{ReadCommand, OpenQueue, WriteQueue, SetUser, OpenRelocatable, OpenAbsolute, ReadHeader, ComputeSize, SetUserZero, Reserve, Place, Patch, ReadOn, Free, CloseAfter, Close, Tell, Give, PlaceBasePage, Begin}
use Rattle.mpm_residents.specs.Standing.{is_loading}
use Rattle.mpm_residents.specs.declared.cli.table.Row.{Row}
use Rattle.mpm_residents.proofs.StandingLaws.{none_for_memory}
use Rattle.mpm_gate.specs.Gates.{IsHome}
use Rattle.mpm_service.specs.Places.{at_disk}
use Rattle.mpm_kernel.specs.Awaiting.{AwaitsIn}
use Rattle.mpm_kernel.proofs.Beside.{StaysBeside, beside_same}
use Rattle.mpm_system.specs.declared.system.System.{System}
use Rattle.mpm_system.specs.Whole.{IsWhole}
use Rattle.mpm_system.specs.Segments.{reserve_reply}
use Rattle.mpm_system.specs.Residents.{taking}
use Rattle.mpm_system.proofs.HomeLaws.{freed_place, found_is_free, freed_lived}
use Rattle.mpm_machine.specs.Interpreting.{HasReserved, awaited, Interprets}
use Rattle.mpm_machine.proofs.GoingOn.{acts_with, acts_took, acts_another_took}
use Rattle.mpm_machine.proofs.InterpretingLaws.{reserves_always}
use Rattle.mpm_machine.proofs.ServedLaws.{segment_freed}

-- segments keep their places and sizes, and what slot 0 has reserved stays reserved by it
pub record KeepsOwn (old new : Memory) : Type 0 where
  pub count : length new.segments ≡ length old.segments
  pub base : (seg : ℕ) → (segment_of new seg).base ≡ (segment_of old seg).base
  pub pages : (seg : ℕ) → (segment_of new seg).pages ≡ (segment_of old seg).pages
  pub own : (seg : ℕ) → HasSegment old seg → (segment_of old seg).allocation ≡ Reserved 0 → (segment_of new seg).allocation ≡ Reserved 0

pub own_itself : (memory : Memory) → KeepsOwn memory memory
own_itself memory = record { count = refl; base = λ seg. refl; pages = λ seg. refl; own = λ seg there is. is }

pub own_both : (old middle new : Memory) → KeepsOwn old middle → KeepsOwn middle new → KeepsOwn old new
own_both old middle new first second = record {
  count = second.count ∙ first.count;
  base = λ seg. second.base seg ∙ first.base seg;
  pages = λ seg. second.pages seg ∙ first.pages seg;
  own = λ seg there is. second.own seg (omega (arith, there, first.count)) (first.own seg there is);
}

-- bytes change
pub own_same : (old new : Memory) → SameSegments old new → KeepsOwn old new
own_same old new same = record { count = same.count; base = same.base; pages = same.pages; own = λ seg there is. same.allocation seg ∙ is }

-- a segment that isn't its own changes hands
pub own_allocated : (memory : Memory) (seg : ℕ) (allocation : Allocation) → ((segment_of memory seg).allocation ≡ Reserved 0 → allocation ≡ Reserved 0)
    → KeepsOwn memory (allocated memory seg allocation)
unfolding allocated
own_allocated memory seg allocation stays = record {
  count = length-set memory.segments seg _;
  base = λ other. field_stays (λ s. s.base) memory.segments seg other _ refl;
  pages = λ other. field_stays (λ s. s.pages) memory.segments seg other _ refl;
  own = λ other there is. elim (cases_eq other seg) [
    | inl same ↦
        let P : ℕ → Type 0 = λ n. (segment_of memory n).allocation ≡ Reserved 0 in
        let Q : ℕ → Type 0 = λ n. (segment_of (allocated memory seg allocation) n).allocation ≡ Reserved 0 in
        subst Q (sym same) (allocation_of_allocated memory seg allocation (omega (arith, same, there)) ∙ stays (subst P same is))
    | inr apart ↦ ap (λ (s : Segment). s.allocation) (segment_of_allocated memory seg other allocation apart) ∙ is
  ];
}

free_or_own : (allocation : Allocation) → is_free allocation ≡ true → allocation ≡ Reserved 0 → ⊥
free_or_own Nobodys free own = absurd (cc)
free_or_own (Reserved owner) free own = false≢true free
free_or_own Occupied free own = absurd (cc)

own_found : (memory : Memory) (owner : ℕ) (found : Option ℕ) → ((seg : ℕ) → found ≡ Some seg → is_free (segment_of memory seg).allocation ≡ true)
    → KeepsOwn memory (reserved memory owner found)
unfolding reserved
own_found memory owner None free = own_itself memory
own_found memory owner (Some seg) free =
    own_allocated memory seg (Reserved owner) (λ own. absurd (free_or_own (segment_of memory seg).allocation (free seg refl) own))

pub own_reserved : (memory : Memory) (owner : ℕ) (base : Option ℕ) (pages : ℕ) → KeepsOwn memory (reserved memory owner (lowest_free memory base pages))
own_reserved memory owner base pages = own_found memory owner (lowest_free memory base pages) (λ seg is. found_is_free memory base pages seg is)

-- another process gives back what it has reserved

another_owner : (owner : ℕ) (allocation : Allocation) → owner ≢ 0 → is_owners owner allocation ≡ true → allocation ≡ Reserved 0 → ⊥
another_owner owner allocation apart owned own =
    apart (sym (eqb-true 0 owner (sym (ap (is_owners owner) own) ∙ owned)))

pub own_released : (memory : Memory) (owner seg : ℕ) → owner ≢ 0 → KeepsOwn memory (released memory owner seg)
unfolding released is_reserved
own_released memory owner seg apart =
    either (KeepsOwn memory) (is_owners owner (segment_of memory seg).allocation) _ _
    (λ owned. own_allocated memory seg Nobodys (λ own. absurd (another_owner owner (segment_of memory seg).allocation apart owned own))) (λ _. own_itself memory)

freed_own : (owner : ℕ) (segment : Segment) → owner ≢ 0 → segment.allocation ≡ Reserved 0 → (freed owner segment).allocation ≡ Reserved 0
freed_own owner segment apart own =
    either (λ (s : Segment). s.allocation ≡ Reserved 0) (is_owners owner segment.allocation) _ _
    (λ owned. absurd (another_owner owner segment.allocation apart owned own)) (λ _. own)

pub own_all_released : (memory : Memory) (owner : ℕ) → owner ≢ 0 → KeepsOwn memory (all_released memory owner)
own_all_released memory owner apart =
    let at : (seg : ℕ) → segment_of (all_released memory owner) seg ≡ freed owner (segment_of memory seg) = λ seg. segment_freed memory owner seg in
    record {
      count = count_all_released memory owner;
      base = λ seg. ap (λ (s : Segment). s.base) (at seg) ∙ (freed_place owner (segment_of memory seg)).0;
      pages = λ seg. ap (λ (s : Segment). s.pages) (at seg) ∙ (freed_place owner (segment_of memory seg)).1;
      own = λ seg there own. ap (λ (s : Segment). s.allocation) (at seg) ∙ freed_own owner (segment_of memory seg) apart own;
    }

-- another process ends: its segment was lived in

own_vacated : (memory : Memory) (procs : Table) (seg : Option ℕ) → ((home : ℕ) → seg ≡ Some home → (segment_of memory home).allocation ≡ Reserved 0 → ⊥)
    → KeepsOwn memory (vacated_if_empty memory procs seg)
unfolding vacated_if_empty
own_vacated memory procs None lived = own_itself memory
own_vacated memory procs (Some seg) lived =
    either (KeepsOwn memory) (is_home procs seg) _ _ (λ _. own_itself memory) (λ _. own_allocated memory seg Nobodys (λ own. absurd (lived seg refl own)))

pub occupied_or_own : (allocation : Allocation) → allocation ≡ Occupied → allocation ≡ Reserved 0 → ⊥
occupied_or_own allocation lived own = apart (sym own ∙ lived) where
  apart : Reserved 0 ≡ Occupied → ⊥
  apart e = absurd (cc)

pub own_without : (p : ℕ) (system : System) → IsWhole system → Lives system.kernel.dispatcher.procs p → p ≢ 0 → KeepsOwn system.memory (memory_without system.memory system.kernel p)
unfolding memory_without
own_without p system w living apart =
    own_both system.memory (all_released system.memory p) _ (own_all_released system.memory p apart)
    (own_vacated (all_released system.memory p) (discharged system.kernel p).dispatcher.procs (process_in system.kernel.dispatcher.procs p).seg
    (λ home is. occupied_or_own (segment_of (all_released system.memory p) home).allocation
    (ap (λ (s : Segment). s.allocation) (segment_freed system.memory p home) ∙ freed_lived p (segment_of system.memory home) (w.lived p home living is))))

-- so the interpreter still has its segment

same_spec : (old new : Memory) (seg : ℕ) → KeepsOwn old new → spec_of new seg ≡ spec_of old seg
same_spec old new seg keeps =
    ap (λ (base : ℕ). record { base = base; pages = (segment_of new seg).pages }) (keeps.base seg)
    ∙ ap (λ (pages : ℕ). record { base = (segment_of old seg).base; pages = pages }) (keeps.pages seg)

pub still_has : (cli : Interpreter) (old new : Memory) → KeepsOwn old new → HasReserved cli old → HasReserved cli new
still_has cli old new keeps has = record {
  there = omega (arith, has.there, keeps.count);
  reserved = keeps.own cli.seg has.there has.reserved;
  spec = same_spec old new cli.seg keeps ∙ has.spec;
}

pub homes_still : (old new : Memory) → KeepsOwn old new → ((seg : ℕ) → HasSegment old seg → IsHome old seg) → (seg : ℕ) → HasSegment new seg → IsHome new seg
homes_still old new keeps homes seg there =
    let before = homes seg (omega (arith, there, keeps.count)) in
    record { exists = there; pages = omega (arith, before.pages, keeps.pages seg); end = omega (arith, before.end, keeps.base seg, keeps.pages seg) }

-- how many answers it awaits
abbrev pub awaits_now : (system : System) → Interprets system → ℕ
awaits_now system i = awaited (at_disk system.kernel.disk 0) i.acting.cli.row

-- another kernel, in which slot 0, its place at the disk and the number of consoles are as before and no completion more of its is
-- left, and memory with its segments
unfoldable pub interprets_with : (old new : System) → new.residents ≡ old.residents → StaysBeside 0 old.kernel.dispatcher.procs new.kernel.dispatcher.procs
    → length new.kernel.units.consoles ≡ length old.kernel.units.consoles → at_disk new.kernel.disk 0 ≡ at_disk old.kernel.disk 0 → KeepsOwn old.memory new.memory
    → (i : Interprets old) → AwaitsIn (awaits_now old i) 0 new.kernel → Interprets new
unfolding acts_with
interprets_with old new residents beside count disk keeps i awaits = record {
  acting = acts_with old new residents beside count i.acting;
  few = omega (arith, i.few, keeps.count);
  homes = homes_still old.memory new.memory keeps i.homes;
  has = λ loading. still_has i.acting.cli old.memory new.memory keeps (i.has loading);
  filed = λ some. i.filed (omega (arith, some, disk));
  awaits = subst (λ (places : ℕ). AwaitsIn (awaited places i.acting.cli.row) 0 new.kernel) (sym disk) awaits;
}

-- it awaits nothing: no held call of its is left to be answered, and none is at the disk
abbrev pub AwaitsNothing : Kernel → Type 0
AwaitsNothing kernel = AwaitsIn 0 0 kernel × (at_disk kernel.disk 0 ≡ 0)

pub awaits_less : (k : ℕ) (kernel : Kernel) → AwaitsIn 0 0 kernel → AwaitsIn k 0 kernel
awaits_less k kernel a = record { table = a.table; few = omega (arith, a.few); at_once = λ _. a.at_once (omega arith) }

-- the interpreter takes an answer, by which it has the segment that it goes on with, and awaits nothing
pub interprets_answered : (system : System) (reply : Answer) (i : Interprets system)
    → (is_loading (took i.acting.cli reply).row ≡ true → HasReserved (took i.acting.cli reply) system.memory) → AwaitsNothing system.kernel → Interprets (taking reply 0 system)
unfolding acts_took
interprets_answered system reply i has none = record {
  acting = acts_took system reply i.acting;
  few = i.few;
  homes = i.homes;
  has = has;
  filed = λ some. absurd (omega (arith, some, none.1));
  awaits = awaits_less (awaited (at_disk system.kernel.disk 0) (took i.acting.cli reply).row) system.kernel none.0;
}

-- in each row but the one that reserves, whatever is answered, it goes on with the segment that it has, or with none

abbrev Has : Memory → Interpreter → Type 0
Has memory cli = is_loading cli.row ≡ true → HasReserved cli memory

none_yet : (memory : Memory) (cli : Interpreter) → is_loading cli.row ≡ false → Has memory cli
none_yet memory cli none = λ loading. absurd (false≢true (sym none ∙ loading))

at_row : (row : Row) (memory : Memory) (cli : Interpreter) → HasReserved cli memory → HasReserved (record cli { row = row }) memory
at_row row memory cli has = record { there = has.there; reserved = has.reserved; spec = has.spec }

has_followed : (command : Option Command) (message : List ℕ) (memory : Memory) (cli : Interpreter) → Has memory (followed command message cli)
has_followed None message memory cli = none_yet memory (followed None message cli) refl
has_followed (Some command) message memory cli =
    none_yet memory (followed (Some command) message cli)
    (either (λ (row : Row). is_loading row ≡ false) command.names_drive SetUser OpenQueue (λ _. refl) (λ _. refl))

none_opened : (hl : ℕ) (opened absent : Row) → is_loading opened ≡ false → is_loading absent ≡ false → is_loading (after_open hl opened absent) ≡ false
none_opened hl opened absent one other =
    either (λ (row : Row). is_loading row ≡ false) (hl == 0) opened _ (λ _. one)
    (λ _. either (λ (row : Row). is_loading row ≡ false) (hl == not_found) absent (Tell BadLoad) (λ _. other) (λ _. refl))

has_headed : (begins : Option Loading) (memory : Memory) (cli : Interpreter) → Has memory (headed begins cli)
has_headed None memory cli = none_yet memory (headed None cli) refl
has_headed (Some load) memory cli = none_yet memory (headed (Some load) cli) (none_for_memory true load)

has_sized : (hl : ℕ) (memory : Memory) (cli : Interpreter) → Has memory (sized hl cli)
has_sized hl memory cli =
    let load = absolute (size_in cli.fcb) in
    let known = record cli { row = row_for_memory false load; load = load } in
    let row = if hl == not_found then SetUserZero else CloseAfter BadLoad in
    either (Has memory) (hl == 0) known (record cli { row = row }) (λ _. none_yet memory known (none_for_memory false load))
    (λ _. none_yet memory (record cli { row = row })
    (either (λ (r : Row). is_loading r ≡ false) (hl == not_found) SetUserZero (CloseAfter BadLoad) (λ _. refl) (λ _. refl)))

has_read_on : (piece : List ℕ) (memory : Memory) (cli : Interpreter) → HasReserved cli memory → Has memory (read_on piece cli)
has_read_on piece memory cli has =
    let more = record cli { row = row_for_piece (with_piece piece cli.load); load = with_piece piece cli.load } in
    either (Has memory) (length piece == 0) (record cli { row = Free BadLoad }) more (λ _ _. at_row (Free BadLoad) memory cli has)
    (λ _ _. record { there = has.there; reserved = has.reserved; spec = has.spec })

-- the rows that go by another answer than that of a segment
abbrev pub is_reserving : Row → Bool
is_reserving (Reserve relocatable pages) = true
is_reserving _ = false

has_at : (row : Row) (cli : Interpreter) (reply : Answer) (memory : Memory) → is_reserving row ≡ false → (is_loading row ≡ true → HasReserved cli memory) → Has memory cli
    → Has memory (took_at row cli reply)
has_at ReadCommand cli reply memory other has now =
    let message = message_in reply.bytes in
    either (Has memory) (nat_lt (console_in message) cli.consoles) (followed (command_in message) message cli) cli
    (λ _. has_followed (command_in message) message memory cli) (λ _. now)
has_at OpenQueue cli reply memory other has now =
    either (Has memory) (reply.hl == 0) (record cli { row = WriteQueue; pointer = word_of (byte_at reply 0) (byte_at reply 1) }) (record cli { row = SetUser })
    (λ _. none_yet memory _ refl) (λ _. none_yet memory _ refl)
has_at WriteQueue cli reply memory other has now =
    none_yet memory (took_at WriteQueue cli reply) (either (λ (row : Row). is_loading row ≡ false) (reply.hl == 0) Give (Tell QueueFull) (λ _. refl) (λ _. refl))
has_at SetUser cli reply memory other has now = none_yet memory (took_at SetUser cli reply) refl
has_at OpenRelocatable cli reply memory other has now = none_yet memory (took_at OpenRelocatable cli reply) (none_opened reply.hl ReadHeader OpenAbsolute refl refl)
has_at OpenAbsolute cli reply memory other has now = none_yet memory (took_at OpenAbsolute cli reply) (none_opened reply.hl ComputeSize (Tell NotFound) refl refl)
has_at ReadHeader cli reply memory other has now = has_headed (begun (records_in reply)) memory (with_block reply cli)
has_at ComputeSize cli reply memory other has now = has_sized reply.hl memory (with_block reply cli)
has_at SetUserZero cli reply memory other has now = none_yet memory (took_at SetUserZero cli reply) refl
has_at (Reserve relocatable pages) cli reply memory other has now = absurd (false≢true (sym other))
has_at Place cli reply memory other has now = λ _. at_row (row_behind_code cli.load) memory cli (has refl)
has_at Patch cli reply memory other has now = λ _. at_row (row_behind_marks cli.load) memory cli (has refl)
has_at ReadOn cli reply memory other has now =
    let h = has refl in
    has_read_on (records_in reply) memory (with_block reply cli) (record { there = h.there; reserved = h.reserved; spec = h.spec })
has_at (Free message) cli reply memory other has now = none_yet memory (took_at (Free message) cli reply) refl
has_at (CloseAfter message) cli reply memory other has now = none_yet memory (took_at (CloseAfter message) cli reply) refl
has_at Close cli reply memory other has now = λ _. at_row PlaceBasePage memory cli (has refl)
has_at (Tell message) cli reply memory other has now = none_yet memory (took_at (Tell message) cli reply) refl
has_at Give cli reply memory other has now = none_yet memory (took_at Give cli reply) refl
has_at PlaceBasePage cli reply memory other has now = λ _. at_row Begin memory cli (has refl)
has_at Begin cli reply memory other has now = λ _. at_row (if reply.hl == 0 then ReadCommand else Free NoProcess) memory cli (has refl)

pub interprets_taken : (system : System) (reply : Answer) (i : Interprets system) → is_reserving i.acting.cli.row ≡ false → AwaitsNothing system.kernel
    → Interprets (taking reply 0 system)
unfolding took
interprets_taken system reply i other none =
    interprets_answered system reply i (has_at i.acting.cli.row i.acting.cli reply system.memory other i.has i.has) none

-- another resident takes one
pub interprets_another : (system : System) (reply : Answer) (q : ℕ) → Interprets system → Interprets (taking reply (suc q) system)
unfolding acts_another_took
interprets_another system reply q i = record { acting = acts_another_took system reply q i.acting; few = i.few; homes = i.homes; has = i.has; filed = i.filed; awaits = i.awaits }

-- a segment that it reserved is its own
pub has_found : (memory : Memory) (base : Option ℕ) (pages seg : ℕ) (call : Taken) (cli : Interpreter) → length memory.segments ≤ 16
    → ((n : ℕ) → HasSegment memory n → IsHome memory n) → lowest_free memory base pages ≡ Some seg
    → HasReserved (with_reserved pages (reserve_reply memory call (Some seg)) cli) (reserved memory 0 (Some seg))
unfolding reserved
has_found memory base pages seg call cli few homes found =
    let there = (lowest_free_fits memory base pages seg found).0 in
    let after = allocated memory seg (Reserved 0) in
    let keeps = own_allocated memory seg (Reserved 0) (λ _. refl) in
    subst (λ c. HasReserved c after) (sym (reserves_always memory base pages seg call cli few homes found)) (record {
      there = omega (arith, there, keeps.count);
      reserved = allocation_of_allocated memory seg (Reserved 0) there;
      spec = same_spec memory after seg keeps;
    })

has_by : (found : Option ℕ) (memory : Memory) (base : Option ℕ) (pages : ℕ) (call : Taken) (cli : Interpreter) → length memory.segments ≤ 16
    → ((n : ℕ) → HasSegment memory n → IsHome memory n) → lowest_free memory base pages ≡ found
    → Has (reserved memory 0 found) (with_reserved pages (reserve_reply memory call found) cli)
has_by None memory base pages call cli few homes is = none_yet (reserved memory 0 None) (with_reserved pages (reserve_reply memory call None) cli) refl
has_by (Some seg) memory base pages call cli few homes is = λ _. has_found memory base pages seg call cli few homes is

-- and so it stands as it reserves one, and where none is found
pub interprets_reserved : (base : Option ℕ) (pages : ℕ) (relocatable : Bool) (call : Taken) (system : System) (i : Interprets system) → i.acting.cli.row ≡ Reserve relocatable pages
    → AwaitsNothing system.kernel
    → Interprets (taking (reserve_reply system.memory call (lowest_free system.memory base pages)) 0 (record system { memory = reserved system.memory 0 (lowest_free system.memory base pages) }))
unfolding took interprets_with acts_with
interprets_reserved base pages relocatable call system i is none =
    let found = lowest_free system.memory base pages in
    let memory = reserved system.memory 0 found in
    let reply = reserve_reply system.memory call found in
    let taken : took i.acting.cli reply ≡ with_reserved pages reply i.acting.cli = ap (λ row. took_at row i.acting.cli reply) is in
    let procs = system.kernel.dispatcher.procs in
    interprets_answered (record system { memory = memory }) reply
    (interprets_with system (record system { memory = memory }) refl (beside_same 0 procs procs refl) refl refl (own_reserved system.memory 0 base pages) i i.awaits)
    (subst (Has memory) (sym taken) (has_by found system.memory base pages call i.acting.cli i.few i.homes refl)) none
