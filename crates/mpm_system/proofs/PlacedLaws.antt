-- Programs that are placed into a machine in which no step was done.
use Rattle.std.proofs.Common.{◌≡◌, ℕ, Option, Some, None, refl, ◌≢◌, ◌∙◌, suc, count_by, ◌+◌, ◌-◌, ◌*◌, ◌<◌, ◌≤◌, Bool, false, ◌&&◌, List, [], ◌∷◌, All, IsSome, length, codes, get_or, map, inl, inr, sym, ap, subst, arith}
use Rattle.std.proofs.lemmas.Bool.{cases_eq, false≢true}
use Rattle.std.proofs.lemmas.Option.{same_Some}
use Rattle.std.proofs.lemmas.List.{length-map, get_or-map}
use Rattle.std.proofs.lemmas.List.Elements.{All-cons, All-nil}
use Rattle.std.proofs.lemmas.List.Sums.{sum_by-cons, sum_by-set, count_by-le-length}
use Rattle.mpm_kernel.specs.Kernel.{Kernel, is_aborted, new_kernel, dispatched}
use Rattle.mpm_kernel.specs.Consoling.{given, is_from, handed_over as handed_console, owner_made, unit_left}
use Rattle.mpm_consoles.specs.Consoles.{owner_of}
use Rattle.mpm_base.specs.declared.unit.Unit.TheVariants.{Console as ConsoleUnit}
use Rattle.mpm_kernel.proofs.DiskStays.{kernel_if}
use Rattle.mpm_base.specs.declared.number.Name8.{Name8}
use Rattle.mpm_base.specs.declared.segment.SegmentSpec.{SegmentSpec}
use Rattle.mpm_base.proofs.CountLaws.{one_if}
use Rattle.mpm_banks.specs.Memory.{Memory, IsMemory, no_segment, HasSegment, SameSegments, segment_of, with_bytes}
use Rattle.mpm_banks.specs.MemoryLaws.{same_segments_both}
use Rattle.mpm_banks.proofs.WrittenBytes.{same_segments_with_bytes}
use Rattle.mpm_banks.specs.Allocations.{new_segment, new_memory, allocated, occupied, spec_of}
use Rattle.mpm_banks.proofs.SegmentLaws.{count_allocated, allocation_of_allocated, segment_of_allocated}
use Rattle.mpm_banks.specs.declared.segment.Segment.{Segment}
use Rattle.mpm_banks.specs.declared.segment.Allocation.TheVariants.{Occupied}
use Rattle.mpm_procs.specs.Table.{HasSlots, lives, Lives, process_in, living, no_processes, lowest_free, added}
use Rattle.mpm_procs.specs.Opening.{opening}
use Rattle.mpm_procs.specs.declared.process.NewProcess.{NewProcess}
use Rattle.mpm_procs.proofs.CountLaws.{living_added, full_from_none}
use Rattle.mpm_procs.proofs.MapLaws.{nobody_lives, free_below, free_is_dead, lives_added, lives_added_other, process_added, process_added_other}
use Rattle.mpm_service.specs.Disk.{DiskService}
use Rattle.mpm_kernel.specs.Disk.{in_turns}
use Rattle.mpm_kernel.proofs.DiskLaws.{sound_in_turns}
use Rattle.mpm_dispatcher.specs.Dispatch.{admitted, picked, new_dispatcher}
use Rattle.mpm_kernel.proofs.SoundLaws.{sound_new, sound_admitted, sound_picked}
use Rattle.mpm_kernel.proofs.Staying.{nobody}
use Rattle.mpm_kernel.proofs.GivingLaws.{sound_gave, procs_gave, completed_gave, consoles_gave}
use Rattle.mpm_kernel.proofs.EnsuredLaws.{many_new}
use Rattle.mpm_kernel.proofs.HomeLaws.{aborts_admitted, opening_home}
use Rattle.mpm_script.specs.declared.event.Timed.{Timed}
use Rattle.mpm_script.specs.Events.{IsTimed}
use Rattle.mpm_residents.specs.declared.native.Native.{Native}
use Rattle.mpm_machine_file.specs.MachineFiles.{IsListedSegment}
use Rattle.mpm_machine_file.specs.declared.machine_file.MachineFile.{MachineFile}
use Rattle.mpm_banks.specs.Gates.{last_page}
use Rattle.mpm_gate.specs.Gates.{IsHome}
use Rattle.mpm_render.specs.Completions.{Completion}
use Rattle.mpm_interrupts.specs.declared.interrupts.Interrupts.{Interrupts}
use Rattle.mpm_command.specs.BasePages.{base_page}
use Rattle.mpm_system.specs.declared.system.System.{System}
use Rattle.mpm_system.specs.Owing.{nobody_owes}
use Rattle.mpm_system.specs.Whole.{IsOccupied, IsWhole}
use Rattle.mpm_system.specs.Opening.{laid_out, placed_process, moment_of, booted, program_file, is_lived_in, is_occupied, IsBare, MayPlace, with_placed, opening_system}
use Rattle.mpm_system.proofs.WholeLaws.{nobody_more}
use Rattle.mpm_system.proofs.SizeLaws.{SameSizes, memory_new, sizes_with_bytes}
use Rattle.mpm_system.proofs.HomeLaws.{KeepsHomes, keeps_same, keeps_both, keeps_occupied}

-- parts of the kernel that leave the disk
handed_disk : (console : ℕ) (from to : Option ℕ) (kernel : Kernel) → (handed_console console from to kernel).disk ≡ kernel.disk
unfolding owner_made unit_left
handed_disk console None None kernel = refl
handed_disk console (Some p) None kernel = refl
handed_disk console from (Some to) kernel = refl

pub given_disk : (console : ℕ) (from to : Option ℕ) (kernel : Kernel) → (given console from to kernel).disk ≡ kernel.disk
unfolding given
given_disk console from to kernel =
    kernel_if kernel.disk (is_from (owner_of kernel.units (ConsoleUnit console)) from) _ _ (handed_disk console from to kernel) refl

-- a program that is laid out changes bytes alone
same_segments_laid_out : (memory : Memory) (seg : ℕ) (program : List ℕ) → SameSegments memory (laid_out memory seg program)
unfolding laid_out
same_segments_laid_out memory seg program =
    let base = (segment_of memory seg).base in
    let page = last_page memory seg in
    let first = with_bytes memory seg (256 * base) (base_page page []) in
    let second = with_bytes first seg (256 * base + 256) program in
    same_segments_both memory second _
    (same_segments_both memory first second (same_segments_with_bytes (base_page page []) memory seg (256 * base)) (same_segments_with_bytes program first seg (256 * base + 256)))
    (same_segments_with_bytes _ second seg (256 * page - 2))

sizes_laid_out : (memory : Memory) (seg : ℕ) (program : List ℕ) → SameSizes memory (laid_out memory seg program)
unfolding laid_out
sizes_laid_out memory seg program space =
    let base = (segment_of memory seg).base in
    let page = last_page memory seg in
    let first = with_bytes memory seg (256 * base) (base_page page []) in
    let second = with_bytes first seg (256 * base + 256) program in
    sizes_with_bytes (0 ∷ base ∷ []) second seg (256 * page - 2) space ∙ sizes_with_bytes program first seg (256 * base + 256) space
    ∙ sizes_with_bytes (base_page page []) memory seg (256 * base) space

pub laid_out_is_there : (memory : Memory) (seg : ℕ) (program : List ℕ) → HasSegment memory seg → HasSegment (laid_out memory seg program) seg
laid_out_is_there memory seg program there = omega (arith, (same_segments_laid_out memory seg program).count, there)

-- the system is whole

-- what is so of the segment in which a process begins, and of those in which others live, is so of each one's
pub homes_begun : (P : ℕ → Type 0) (kernel : Kernel) (p seg : ℕ) (new : NewProcess) → HasSlots kernel.dispatcher.procs → lowest_free kernel.dispatcher.procs ≡ Some p
    → new.seg ≡ Some seg → P seg
    → ((q other : ℕ) → Lives kernel.dispatcher.procs q → (process_in kernel.dispatcher.procs q).seg ≡ Some other → P other)
    → (q other : ℕ) → Lives (added kernel.dispatcher.procs p new) q → (process_in (added kernel.dispatcher.procs p new) q).seg ≡ Some other → P other
homes_begun P kernel p seg new slots free is home homes q other living there = elim (cases_eq q p) [
  | inl equal ↦
      let at : process_in (added kernel.dispatcher.procs p new) q ≡ opening new =
      ap (process_in (added kernel.dispatcher.procs p new)) equal
      ∙ process_added kernel.dispatcher.procs p new (omega (arith, slots.processes, slots.alive, free_below kernel.dispatcher.procs p free)) in
      let seat : Some seg ≡ Some other = sym is ∙ sym (opening_home new) ∙ ap (λ x. x.seg) (sym at) ∙ there in
      subst P (same_Some seg other seat) home
  | inr another ↦
      homes q other (sym (lives_added_other kernel.dispatcher.procs p q new another) ∙ living)
      (ap (λ x. x.seg) (sym (process_added_other kernel.dispatcher.procs p q new another)) ∙ there)
]

pub whole_placed : (system : System) (p seg : ℕ) (name : Name8) (priority console : ℕ) (program : List ℕ) → MayPlace system seg console (length program)
    → lowest_free system.kernel.dispatcher.procs ≡ Some p → IsWhole (with_placed system p seg name priority console program)
unfolding with_placed placed_process
whole_placed system p seg name priority console program may free =
    let w = may.bare.whole in
    let new = placed_process (spec_of system.memory seg) seg name priority console in
    let memory = laid_out system.memory seg program in
    let keeps : KeepsHomes system.memory (occupied memory seg) =
    keeps_both _ memory _ (keeps_same _ _ (same_segments_laid_out system.memory seg program) (sizes_laid_out system.memory seg program)) (keeps_occupied memory seg) in
    let begun = dispatched (admitted p new) system.kernel in
    let kernel = given console None (Some p) begun in
    let same : (dispatched (picked false) kernel).dispatcher.procs ≡ begun.dispatcher.procs = procs_gave console None (Some p) begun in
    let laid = same_segments_laid_out system.memory seg program in
    let here : IsOccupied (occupied memory seg) seg = allocation_of_allocated memory seg Occupied (omega (arith, laid.count, may.home.exists)) in
    let homes = homes_begun (IsHome (occupied memory seg)) system.kernel p seg new w.sound.slots free refl (keeps.all seg may.home)
    (λ q other living there. keeps.all other (w.homes q other living there)) in
    let lived = homes_begun (IsOccupied (occupied memory seg)) system.kernel p seg new w.sound.slots free refl here
    (λ q other living there. keeps.lived other (w.homes q other living there) (w.lived q other living there)) in
    let alive = λ (q : ℕ) (living : Lives (dispatched (picked false) kernel).dispatcher.procs q). ap (λ procs. lives procs q) (sym same) ∙ living in
    record {
      sound = sound_picked kernel false (sound_gave console None (Some p) begun (sound_admitted system.kernel p new w.sound free may.has_console) may.has_console
          (lives_added system.kernel.dispatcher.procs p new (free_below system.kernel.dispatcher.procs p free)));
      live = nobody (dispatched (picked false) kernel) (completed_gave console None (Some p) begun ∙ may.bare.no_completions.answered);
      memory = keeps.memory w.memory;
      script = w.script;
      settled = λ off. nobody_more system.kernel (dispatched (picked false) kernel)
          (λ q due. aborts_admitted system.kernel p new w.sound.slots free q (ap (λ procs. is_aborted procs q) (sym same) ∙ due)) (w.settled off);
      homes = λ q other living there. homes q other (alive q living) (ap (λ procs. (process_in procs q).seg) (sym same) ∙ there);
      lived = λ q other living there. lived q other (alive q living) (ap (λ procs. (process_in procs q).seg) (sym same) ∙ there);
    }

whole_booted : (file : MachineFile) (events : List Timed) → 1 ≤ file.consoles → file.consoles ≤ 8 → file.printers ≤ 4 → All IsTimed events → IsMemory (new_memory file.segments)
    → IsWhole (booted file events)
unfolding booted new_kernel new_dispatcher
whole_booted file events some few printers script memory = record {
  memory = memory;
  live = tt;
  script = script;
  settled = λ off p. ap (λ b. b && (process_in no_processes p).abort_due) (nobody_lives p);
  sound = sound_in_turns file.disk_turn (new_kernel file.consoles file.printers (moment_of file)) (sound_new file.consoles file.printers (moment_of file) some few printers);
  homes = λ p seg living there. absurd (false≢true (sym (nobody_lives p) ∙ living));
  lived = λ p seg living there. absurd (false≢true (sym (nobody_lives p) ∙ living));
}

pub home_bare : (segments : List SegmentSpec) (seg : ℕ) → All IsListedSegment segments → seg < length segments → IsHome (new_memory segments) seg
unfolding new_memory
home_bare segments seg fit h =
    let none : SegmentSpec = record { base = 0; pages = 0 } in
    let spec = get_or segments seg none in
    let fits : IsListedSegment spec = fit seg none h in
    let at : segment_of (new_memory segments) seg ≡ new_segment spec = get_or-map new_segment segments seg none no_segment h in
    record {
      exists = omega (arith, length-map segments new_segment, h);
      pages = omega (arith, ap (λ (s : Segment). s.pages) at, fits.pages);
      end = omega (arith, ap (λ (s : Segment). s.pages) at, ap (λ (s : Segment). s.base) at, fits.end);
    }

some_free : (slot : Option ℕ) → (slot ≡ None → ⊥) → IsSome slot
some_free None taken = absurd (taken refl)
some_free (Some p) taken = refl

-- there is a slot, since there are fewer segments than slots

bit : Segment → ℕ
bit segment = one_if (is_occupied segment)

occupied_more : (segment : Segment) (segments : List Segment) → count_by is_occupied (segment ∷ segments) ≡ bit segment + count_by is_occupied segments
unfolding bit
occupied_more segment segments = sum_by-cons bit segment segments

count_same : (one other : List Segment) → length one ≡ length other
    → ((seg : ℕ) → (get_or one seg no_segment).allocation ≡ (get_or other seg no_segment).allocation)
    → count_by is_occupied one ≡ count_by is_occupied other
unfolding bit
count_same [] [] length each = refl
count_same [] (s ∷ other) length each = absurd (omega arith)
count_same (s ∷ one) [] length each = absurd (omega arith)
count_same (s ∷ one) (t ∷ other) length each =
    occupied_more s one
    ∙ ap (λ allocation. one_if (is_lived_in allocation) + count_by is_occupied one) (each 0)
    ∙ ap (λ n. bit t + n) (count_same one other (omega arith) (λ seg. each (suc seg)))
    ∙ sym (occupied_more t other)

nobody_counts : (segments : List SegmentSpec) → count_by is_occupied (map new_segment segments) ≡ 0
unfolding bit
nobody_counts [] = refl
nobody_counts (spec ∷ segments) = occupied_more (new_segment spec) (map new_segment segments) ∙ omega (arith, nobody_counts segments)

-- a segment more is lived in
occupied_count : (memory : Memory) (seg : ℕ) → HasSegment memory seg → is_occupied (segment_of memory seg) ≡ false
    → count_by is_occupied (occupied memory seg).segments ≡ count_by is_occupied memory.segments + 1
unfolding allocated bit
occupied_count memory seg there empty =
    let set = sum_by-set bit memory.segments seg (record (segment_of memory seg) { allocation = Occupied }) no_segment there in
    omega (arith, set, ap one_if empty)

pub slot_is_free : (system : System) (seg console size : ℕ) → MayPlace system seg console size → IsSome (lowest_free system.kernel.dispatcher.procs)
slot_is_free system seg console size may = some_free (lowest_free system.kernel.dispatcher.procs) (λ none.
    let full = full_from_none system.kernel.dispatcher.procs may.bare.whole.sound.slots none in
    let most = count_by-le-length is_occupied system.memory.segments in
    omega (arith, full, most, may.bare.few, may.bare.counted))

bare_placed : (system : System) (p seg : ℕ) (name : Name8) (priority console : ℕ) (program : List ℕ) → MayPlace system seg console (length program)
    → lowest_free system.kernel.dispatcher.procs ≡ Some p → IsBare (with_placed system p seg name priority console program)
unfolding with_placed placed_process
bare_placed system p seg name priority console program may free =
    let new = placed_process (spec_of system.memory seg) seg name priority console in
    let begun = dispatched (admitted p new) system.kernel in
    let kernel = given console None (Some p) begun in
    let memory = laid_out system.memory seg program in
    let same = same_segments_laid_out system.memory seg program in
    let there : HasSegment memory seg = omega (arith, same.count, may.home.exists) in
    let empty : is_occupied (segment_of memory seg) ≡ false = ap is_lived_in (same.allocation seg) ∙ may.empty in
    let count = occupied_count memory seg there empty in
    let before = count_same memory.segments system.memory.segments same.count same.allocation in
    let more = living_added system.kernel.dispatcher.procs p new (free_below system.kernel.dispatcher.procs p free) (free_is_dead system.kernel.dispatcher.procs p free) in
    record {
      whole = whole_placed system p seg name priority console program may free;
      no_completions = record { answered = completed_gave console None (Some p) begun ∙ may.bare.no_completions.answered; written = may.bare.no_completions.written; paid = λ idle. may.bare.no_completions.paid (ap (λ (d : DiskService). d.served) (sym (given_disk console None (Some p) begun)) ∙ idle) };
      start = may.bare.start;
      few = omega (arith, count_allocated memory seg Occupied, same.count, may.bare.few);
      counted = omega (arith, ap living (procs_gave console None (Some p) begun), more, count, before, may.bare.counted);
    }

-- the machine after a placement
pub placed_is_bare : (old : System) (kernel : Kernel) (memory laid : Memory) (new : NewProcess) (p seg : ℕ) (name : Name8) (priority console : ℕ) (program : List ℕ)
    → MayPlace old seg console (length program) → lowest_free old.kernel.dispatcher.procs ≡ Some p
    → new ≡ placed_process (spec_of old.memory seg) seg name priority console → kernel ≡ dispatched (picked false) (given new.console None (Some p) (dispatched (admitted p new) old.kernel))
    → laid ≡ laid_out old.memory seg program → memory ≡ occupied laid seg → IsBare (record old { kernel = kernel; memory = memory })
unfolding with_placed placed_process
placed_is_bare old kernel memory laid new p seg name priority console program may free process is written lived =
    let whole : record old { kernel = kernel; memory = memory } ≡ with_placed old p seg name priority console program =
    ap (λ k. record old { kernel = k; memory = memory }) (is ∙ ap (λ (n : NewProcess). dispatched (picked false) (given n.console None (Some p) (dispatched (admitted p n) old.kernel))) process)
    ∙ ap (λ m. record old { kernel = dispatched (picked false) (given console None (Some p) (dispatched (admitted p (placed_process (spec_of old.memory seg) seg name priority console)) old.kernel)); memory = m })
    (lived ∙ ap (λ m. occupied m seg) written) in
    subst IsBare (sym whole) (bare_placed old p seg name priority console program may free)

pub booted_is_bare : (file : MachineFile) (events : List Timed) → 1 ≤ file.consoles → file.consoles ≤ 8 → file.printers ≤ 4 → length file.segments ≤ 16
    → All IsTimed events → IsMemory (new_memory file.segments) → IsBare (booted file events)
unfolding booted new_kernel new_dispatcher new_memory living no_processes
booted_is_bare file events some few printers count script memory = record {
  whole = whole_booted file events some few printers script memory;
  no_completions = record { answered = refl; written = refl; paid = λ _. refl };
  start = refl;
  few = omega (arith, length-map file.segments new_segment, count);
  counted = omega (arith, nobody_counts file.segments);
}

-- a program can be placed into each segment of a machine in which nobody lives
pub may_place_booted : (file : MachineFile) (events : List Timed) (seg console size : ℕ) → 1 ≤ file.consoles → file.consoles ≤ 8 → file.printers ≤ 4
    → length file.segments ≤ 16 → All IsTimed events → All IsListedSegment file.segments → seg < length file.segments → console < file.consoles
    → size + 640 ≤ 256 * (get_or file.segments seg (record { base = 0; pages = 0 })).pages
    → MayPlace (booted file events) seg console size
unfolding booted new_kernel new_dispatcher new_memory
may_place_booted file events seg console size some few printers count script fit h has_console room =
    let segments = file.segments in
    let none : SegmentSpec = record { base = 0; pages = 0 } in
    let at : segment_of (new_memory segments) seg ≡ new_segment (get_or segments seg none) = get_or-map new_segment segments seg none no_segment h in
    record {
      bare = booted_is_bare file events some few printers count script (memory_new segments (omega (arith, h)) count fit);
      home = home_bare segments seg fit h;
      empty = ap is_occupied at;
      has_console = let P : ℕ → Type 0 = λ n. console < n in subst P (sym (many_new file.consoles file.printers (moment_of file))) has_console;
      room = omega (arith, ap (λ (s : Segment). s.pages) at, room);
    }

-- one that can be placed elsewhere still can
pub may_place_again : (system : System) (p seg : ℕ) (name : Name8) (priority console : ℕ) (program : List ℕ) (other next size : ℕ)
    → MayPlace system seg console (length program) → lowest_free system.kernel.dispatcher.procs ≡ Some p → other ≢ seg → MayPlace system other next size
    → MayPlace (with_placed system p seg name priority console program) other next size
unfolding with_placed
may_place_again system p seg name priority console program other next size may free apart again =
    let new = placed_process (spec_of system.memory seg) seg name priority console in
    let memory = laid_out system.memory seg program in
    let same = same_segments_laid_out system.memory seg program in
    let there : segment_of (occupied memory seg) other ≡ segment_of memory other = segment_of_allocated memory seg other Occupied apart in
    let keeps : KeepsHomes system.memory (occupied memory seg) = keeps_both _ memory _ (keeps_same _ _ same (sizes_laid_out system.memory seg program)) (keeps_occupied memory seg) in
    record {
      bare = bare_placed system p seg name priority console program may free;
      home = keeps.all other again.home;
      empty = ap is_occupied there ∙ ap is_lived_in (same.allocation other) ∙ again.empty;
      has_console = omega (
        arith,
        consoles_gave console None (Some p) (dispatched (admitted p new) system.kernel),
        again.has_console,
      );
      room = omega (arith, ap (λ (s : Segment). s.pages) there, same.pages other, again.room);
    }

-- the program of a machine of one segment
pub may_place_first : (events : List Timed) (size : ℕ) → All IsTimed events → size ≤ 48512 → MayPlace (booted program_file events) 0 0 size
unfolding new_memory
may_place_first events size script h =
    let whole : SegmentSpec = record { base = 0; pages = 192 } in
    let fits : IsListedSegment whole = record { pages = omega arith; end = omega arith } in
    may_place_booted program_file events 0 0 size (omega arith) (omega arith) (omega arith) (omega arith) script (All-cons IsListedSegment whole [] fits (All-nil IsListedSegment)) (omega arith) (omega arith) (omega arith)

pub may_place_program : (size : ℕ) → size ≤ 48512 → MayPlace (booted program_file []) 0 0 size
may_place_program size h = may_place_first [] size (All-nil IsTimed) h

pub booted_is : (file : MachineFile) (events : List Timed) (interrupts : Interrupts) (kernel : Kernel) (memory : Memory) (residents : List Native)
    (records : List Completion) (owed : List Bool)
    → interrupts ≡ record { tick_every = file.tick_every; ticks = 0; script = events }
    → kernel ≡ in_turns file.disk_turn (new_kernel file.consoles file.printers (moment_of file)) → memory ≡ new_memory file.segments → residents ≡ [] → records ≡ [] → owed ≡ nobody_owes
    → record { steps = 0; interrupts = interrupts; kernel = kernel; memory = memory; abort_deferred = false; residents = residents; records = records; owed = owed } ≡ booted file events
unfolding booted
booted_is file events interrupts kernel memory residents records owed is was there none no_records nobody =
    let booting = booted file events in
    ap (λ (r : List Native). record booting { interrupts = interrupts; kernel = kernel; memory = memory; residents = r; records = records; owed = owed }) none
    ∙ ap (λ (r : List Completion). record booting { interrupts = interrupts; kernel = kernel; memory = memory; records = r; owed = owed }) no_records
    ∙ ap (λ (o : List Bool). record booting { interrupts = interrupts; kernel = kernel; memory = memory; owed = o }) nobody
    ∙ ap (λ (i : Interrupts). record booting { interrupts = i; kernel = kernel; memory = memory }) is
    ∙ ap (λ (k : Kernel). record booting { kernel = k; memory = memory }) was
    ∙ ap (λ (m : Memory). record booting { memory = m }) there

pub booted_bare : (file : MachineFile) (events : List Timed) (system : System) → 1 ≤ file.consoles → file.consoles ≤ 8 → file.printers ≤ 4 → length file.segments ≤ 16
    → All IsTimed events → IsMemory (new_memory file.segments) → system ≡ booted file events → IsBare system
booted_bare file events system some few printers count script fit is = subst IsBare (sym is) (booted_is_bare file events some few printers count script fit)

pub booted_program : (file : MachineFile) (events : List Timed) (machine : System) → machine ≡ booted file events → file ≡ program_file → events ≡ []
    → machine ≡ booted program_file []
booted_program file events machine is was none = is ∙ ap (λ f. booted f events) was ∙ ap (booted program_file) none

first_slot : lowest_free (booted program_file []).kernel.dispatcher.procs ≡ Some 0
unfolding booted new_kernel new_dispatcher lowest_free no_processes
first_slot = refl

pub opening_is_bare : (program : List ℕ) → length program ≤ 48512 → IsBare (opening_system program)
unfolding opening_system
opening_is_bare program few =
    bare_placed (booted program_file []) 0 0 (record { 0 = codes "PROGRAM " }) 200 0 program (may_place_program (length program) few) first_slot

-- it is process 0
pub opening_is : (program : List ℕ) (p : ℕ) (machine old : System) → old ≡ booted program_file []
    → lowest_free old.kernel.dispatcher.procs ≡ Some p → machine ≡ with_placed old p 0 (record { 0 = codes "PROGRAM " }) 200 0 program → machine ≡ opening_system program
unfolding opening_system booted new_kernel new_dispatcher lowest_free no_processes
opening_is program p machine old is free placed =
    let first : Some 0 ≡ Some p = sym (ap (λ (s : System). lowest_free s.kernel.dispatcher.procs) is) ∙ free in
    let name : Name8 = record { 0 = codes "PROGRAM " } in
    placed
    ∙ ap (λ n. with_placed old n 0 name 200 0 program) (sym (same_Some 0 p first))
    ∙ ap (λ s. with_placed s 0 0 name 200 0 program) is
