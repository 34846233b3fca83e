-- What the command line interpreter hands over leaves a whole system.
use Rattle.std.proofs.Common.{◌≡◌, ◌∙◌, ℕ, ◌<◌, true, List, [], ◌∷◌, Option, Some, None, length, refl, sym, ap, subst, arith}
use Rattle.std.specs.Prelude.{nat_lt, nat_le}
use Rattle.std.proofs.lemmas.Bool.{false≢true, and_parts}
use Rattle.std.proofs.lemmas.Bool.Decides.{nat_tests}
use Rattle.std.proofs.lemmas.List.FromFn.{length-map-range_with_len}
use Rattle.mpm_base.proofs.Choices.{either}
use Rattle.z80_regs.specs.Words.{onward}
use Rattle.mpm_banks.specs.Memory.{Memory, HasSegment, segment_of, byte_at, with_bytes}
use Rattle.mpm_banks.specs.Ranges.{range_of, range_bytes, put_range}
use Rattle.mpm_banks.specs.Allocations.{occupied}
use Rattle.mpm_banks.specs.declared.range.Range.{Range}
use Rattle.mpm_banks.specs.declared.segment.Allocation.TheVariants.{Occupied}
use Rattle.mpm_banks.proofs.WrittenBytes.{with_bytes_unwritten, with_bytes_other_segment, same_segments_with_bytes}
use Rattle.mpm_banks.proofs.RangeBytes.{range_bytes_is, put_range_is}
use Rattle.mpm_banks.proofs.SegmentLaws.{allocation_of_allocated, reads_alike, same_bytes_allocated}
use Rattle.mpm_prl.specs.Relocation.{relocated}
use Rattle.mpm_prl.proofs.Laws.{length_relocated}
use Rattle.mpm_procs.specs.Table.{Lives, lives, process_in, lowest_free}
use Rattle.mpm_procs.specs.declared.process.NewProcess.{NewProcess}
use Rattle.mpm_procs.proofs.MapLaws.{free_below, lives_added}
use Rattle.mpm_dispatcher.specs.Dispatch.{admitted, in_slot}
use Rattle.mpm_kernel.specs.Kernel.{Kernel, is_aborted, dispatched}
use Rattle.mpm_kernel.specs.Consoling.{given}
use Rattle.mpm_kernel.proofs.SoundLaws.{sound_admitted, live_kept}
use Rattle.mpm_kernel.proofs.HomeLaws.{homes_stay, aborts_admitted, lives_on}
use Rattle.mpm_kernel.proofs.GivingLaws.{sound_gave, procs_gave, completed_gave}
use Rattle.mpm_gate.specs.Gates.{IsHome}
use Rattle.mpm_system.specs.declared.system.System.{System}
use Rattle.mpm_system.specs.Whole.{IsOccupied, IsWhole}
use Rattle.mpm_system.specs.Loading.{placing, moved, may_move, moving, is_console, giving, may_live, is_slot, begun_for, begins, beginning, ChangesOnly}
use Rattle.mpm_system.proofs.SizeLaws.{sizes_with_bytes}
use Rattle.mpm_system.proofs.HomeLaws.{KeepsHomes, keeps_itself, keeps_same, keeps_both, keeps_occupied}
use Rattle.mpm_system.proofs.PlacedLaws.{homes_begun}
use Rattle.mpm_system.proofs.WholeLaws.{nobody_more, whole_kernel, whole_memory}

-- bytes change, and no segment's place or size, nor who has it
pub whole_placing : (seg address : ℕ) (bytes : List ℕ) (system : System) → IsWhole system → IsWhole (placing seg address bytes system)
whole_placing seg address bytes system w = whole_memory system _ w (keeps_same _ _ (same_segments_with_bytes bytes system.memory seg address) (sizes_with_bytes bytes system.memory seg address))

keeps_moved : (seg address count : ℕ) (range : Option Range) (marks : List ℕ) (page : ℕ) (memory : Memory) → range_of memory seg address count ≡ range
    → KeepsHomes memory (moved range marks page memory)
keeps_moved seg address count None marks page memory is = keeps_itself memory
keeps_moved seg address count (Some range) marks page memory is =
    let bytes = relocated (range_bytes memory range) marks page in
    let size : length bytes ≡ count = length_relocated (range_bytes memory range) marks page ∙ ap length (range_bytes_is memory seg address count range is) ∙ length-map-range_with_len _ 0 count in
    subst (KeepsHomes memory) (sym (put_range_is memory seg address count range bytes is size))
    (keeps_same memory _ (same_segments_with_bytes bytes memory seg address) (sizes_with_bytes bytes memory seg address))

pub whole_moving : (seg address count : ℕ) (marks : List ℕ) (page : ℕ) (system : System) → IsWhole system → IsWhole (moving seg address count marks page system)
whole_moving seg address count marks page system w =
    either (λ (memory : Memory). IsWhole (record system { memory = memory })) (may_move count marks) _ system.memory
    (λ _. whole_memory system _ w (keeps_moved seg address count (range_of system.memory seg address count) marks page system.memory refl)) (λ _. w)

-- a console passes on
gave_whole : (console p : ℕ) (old : System) → IsWhole old → console < length old.kernel.units.consoles
    → IsWhole (record old { kernel = given console (Some p) None old.kernel })
gave_whole console p old w below =
    let gave = given console (Some p) None old.kernel in
    let same : gave.dispatcher.procs ≡ old.kernel.dispatcher.procs = procs_gave console (Some p) None old.kernel in
    whole_kernel old gave w (sound_gave console (Some p) None old.kernel w.sound below tt)
    (live_kept old.kernel gave (completed_gave console (Some p) None old.kernel) (λ q living. ap (λ procs. lives procs q) same ∙ living) w.live)
    (homes_stay old.kernel gave same)

pub whole_giving : (console p : ℕ) (system : System) → IsWhole system → IsWhole (giving console p system)
whole_giving console p system w =
    either (λ (kernel : Kernel). IsWhole (record system { kernel = kernel })) (is_console console system.kernel) _ system.kernel
    (λ there. gave_whole console p system w (grind (arith, nat_tests, there))) (λ _. w)

-- a process begins in a home, which is lived in from now on

begun_whole : (old : System) (p q seg address base : ℕ) (new : NewProcess) → IsWhole old → new.console < length old.kernel.units.consoles → IsHome old.memory seg
    → new.seg ≡ Some seg → lowest_free old.kernel.dispatcher.procs ≡ Some q
    → IsWhole (record old {
      kernel = begun_for p new (Some q) old.kernel;
      memory = occupied (with_bytes old.memory seg address (0 ∷ base ∷ [])) seg;
    })
begun_whole old p q seg address base new w below home is free =
    let written = with_bytes old.memory seg address (0 ∷ base ∷ []) in
    let laid = same_segments_with_bytes (0 ∷ base ∷ []) old.memory seg address in
    let memory = occupied written seg in
    let keeps : KeepsHomes old.memory memory = keeps_both _ written _ (keeps_same _ _ laid (sizes_with_bytes (0 ∷ base ∷ []) old.memory seg address)) (keeps_occupied written seg) in
    let begun = dispatched (admitted q new) old.kernel in
    let kernel = given new.console (Some p) (Some q) begun in
    let same : kernel.dispatcher.procs ≡ begun.dispatcher.procs = procs_gave new.console (Some p) (Some q) begun in
    let here : IsOccupied memory seg = allocation_of_allocated written seg Occupied (omega (arith, laid.count, home.exists)) in
    let homes = homes_begun (IsHome memory) old.kernel q seg new w.sound.slots free is (keeps.all seg home)
    (λ r other living there. keeps.all other (w.homes r other living there)) in
    let lived = homes_begun (IsOccupied memory) old.kernel q seg new w.sound.slots free is here
    (λ r other living there. keeps.lived other (w.homes r other living there) (w.lived r other living there)) in
    let alive = λ (r : ℕ) (living : Lives kernel.dispatcher.procs r). ap (λ procs. lives procs r) (sym same) ∙ living in
    let kept = λ (r : ℕ) (living : Lives old.kernel.dispatcher.procs r). ap (λ procs. lives procs r) same ∙ lives_on old.kernel new (Some q) r free living in
    record {
      sound = sound_gave new.console (Some p) (Some q) begun (sound_admitted old.kernel q new w.sound free below) below
          (lives_added old.kernel.dispatcher.procs q new (free_below old.kernel.dispatcher.procs q free));
      live = live_kept old.kernel kernel (completed_gave new.console (Some p) (Some q) begun) kept w.live;
      memory = keeps.memory w.memory;
      script = w.script;
      settled = λ off. nobody_more old.kernel kernel
          (λ r due. aborts_admitted old.kernel q new w.sound.slots free r (ap (λ procs. is_aborted procs r) (sym same) ∙ due)) (w.settled off);
      homes = λ r other living there. homes r other (alive r living) (ap (λ procs. (process_in procs r).seg) (sym same) ∙ there);
      lived = λ r other living there. lived r other (alive r living) (ap (λ procs. (process_in procs r).seg) (sym same) ∙ there);
    }

begun_by : (slot : Option ℕ) (old : System) (p seg address base : ℕ) (new : NewProcess) → IsWhole old → new.console < length old.kernel.units.consoles
    → IsHome old.memory seg → new.seg ≡ Some seg → lowest_free old.kernel.dispatcher.procs ≡ slot → is_slot slot ≡ true
    → IsWhole (record old {
      kernel = begun_for p new slot old.kernel;
      memory = occupied (with_bytes old.memory seg address (0 ∷ base ∷ [])) seg;
    })
begun_by None old p seg address base new w below home is free some = absurd (false≢true some)
begun_by (Some q) old p seg address base new w below home is free some = begun_whole old p q seg address base new w below home is free

home_of : (memory : Memory) (seg : ℕ) → may_live memory seg ≡ true → IsHome memory seg
home_of memory seg may =
    let parts = and_parts (nat_lt seg (length memory.segments)) _ may in
    let sizes = and_parts (nat_le 4 (segment_of memory seg).pages) _ parts.1 in
    record { exists = grind (arith, nat_tests, parts.0); pages = grind (arith, nat_tests, sizes.0); end = grind (arith, nat_tests, sizes.1) }

pub whole_beginning : (seg : ℕ) (new : NewProcess) (p : ℕ) (system : System) → IsWhole system → IsWhole (beginning seg new p system)
whole_beginning seg new p system w =
    either IsWhole (begins seg new system) _ system
    (λ may.
    let parts = and_parts (may_live system.memory seg) _ may in
    let others = and_parts (is_console new.console system.kernel) _ parts.1 in
    begun_by (lowest_free system.kernel.dispatcher.procs) system p seg new.sp (segment_of system.memory seg).base (record new { seg = Some seg }) w
    (grind (arith, nat_tests, others.0)) (home_of system.memory seg parts.0) refl refl others.1)
    (λ _. w)

-- a process that has begun leaves the others as they were
pub lives_there : (old now : Kernel) (p q : ℕ) (new : NewProcess) → Lives old.dispatcher.procs p → lowest_free old.dispatcher.procs ≡ Some q
    → now ≡ dispatched (in_slot new (lowest_free old.dispatcher.procs)) old → Lives now.dispatcher.procs p
lives_there old now p q new living free is =
    let P : Kernel → Type 0 = λ k. Lives k.dispatcher.procs p in
    subst P (sym is) (lives_on old new (lowest_free old.dispatcher.procs) p refl living)

-- a segment is there as before
pub written_is_there : (old now : Memory) (seg address : ℕ) (bytes : List ℕ) → HasSegment old seg → now ≡ with_bytes old seg address bytes → HasSegment now seg
written_is_there old now seg address bytes there is =
    subst (λ m. HasSegment m seg) (sym is) (omega (arith, (same_segments_with_bytes bytes old seg address).count, there))

-- of memory only those bytes change

changes_nothing : (seg address count : ℕ) (old now : Memory) → now ≡ old → ChangesOnly seg address count old now
changes_nothing seg address count old now is =
    subst (ChangesOnly seg address count old) (sym is) (record { others = λ other at apart below. refl; rest = λ at apart. refl })

changes_written : (seg address : ℕ) (bytes : List ℕ) (old now : Memory) → now ≡ with_bytes old seg address bytes → ChangesOnly seg address (length bytes) old now
changes_written seg address bytes old now is =
    subst (ChangesOnly seg address (length bytes) old) (sym is) (record {
      others = λ other at apart below. with_bytes_other_segment bytes old seg address other at apart below;
      rest = λ at apart. with_bytes_unwritten bytes old seg address at apart;
    })

changes_in_range : (range : Option Range) (seg address count : ℕ) (marks : List ℕ) (page : ℕ) (memory : Memory) → range_of memory seg address count ≡ range
    → ChangesOnly seg address count memory (moved range marks page memory)
changes_in_range None seg address count marks page memory is = changes_nothing seg address count memory memory refl
changes_in_range (Some range) seg address count marks page memory is =
    let code = range_bytes memory range in
    let new = relocated code marks page in
    let size : length new ≡ count =
    length_relocated code marks page
    ∙ ap (λ (bytes : List ℕ). length bytes) (range_bytes_is memory seg address count range is)
    ∙ length-map-range_with_len (λ k. byte_at memory seg (onward address k)) 0 count in
    subst (λ n. ChangesOnly seg address n memory (put_range memory range new)) size
    (changes_written seg address new memory (put_range memory range new) (put_range_is memory seg address count range new is size))

pub changes_moving : (seg address count : ℕ) (marks : List ℕ) (page : ℕ) (system : System)
    → ChangesOnly seg address count system.memory (moving seg address count marks page system).memory
changes_moving seg address count marks page system =
    either (ChangesOnly seg address count system.memory) (may_move count marks) _ system.memory
    (λ _. changes_in_range (range_of system.memory seg address count) seg address count marks page system.memory refl)
    (λ _. changes_nothing seg address count system.memory system.memory refl)

changes_begun : (seg address base : ℕ) (old written now : Memory) → written ≡ with_bytes old seg address (0 ∷ base ∷ []) → now ≡ occupied written seg
    → ChangesOnly seg address 2 old now
changes_begun seg address base old written now is lived =
    let laid = changes_written seg address (0 ∷ base ∷ []) old written is in
    let same = same_bytes_allocated written seg Occupied in
    subst (ChangesOnly seg address 2 old) (sym lived) (record {
      others = λ other at apart below. reads_alike written (occupied written seg) same other at ∙ laid.others other at apart below;
      rest = λ at apart. reads_alike written (occupied written seg) same seg at ∙ laid.rest at apart;
    })

pub changes_beginning : (seg : ℕ) (new : NewProcess) (p : ℕ) (system : System) → ChangesOnly seg new.sp 2 system.memory (beginning seg new p system).memory
changes_beginning seg new p system =
    let base = (segment_of system.memory seg).base in
    either (λ (s : System). ChangesOnly seg new.sp 2 system.memory s.memory) (begins seg new system) _ system
    (λ _. changes_begun seg new.sp base system.memory (with_bytes system.memory seg new.sp (0 ∷ base ∷ [])) _ refl refl)
    (λ _. changes_nothing seg new.sp 2 system.memory system.memory refl)

pub changes_placing : (seg address : ℕ) (bytes : List ℕ) (system : System)
    → ChangesOnly seg address (length bytes) system.memory (placing seg address bytes system).memory
changes_placing seg address bytes system = changes_written seg address bytes system.memory _ refl
