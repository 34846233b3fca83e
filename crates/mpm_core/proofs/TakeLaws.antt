-- What a machine lends of a process, and the core that is taken of it.
use Rattle.std.proofs.Common.{◌≡◌, ◌∙◌, ℕ, ◌+◌, ◌-◌, ◌*◌, ◌^◌, ◌<◌, ◌&&◌, Bool, true, false, List, length, take, drop, Option, Some, None, is_some, option_map, if◌then◌else◌, nat_lt, nat_le, refl, sym, ap, ap₂, arith, lt-ltb, le-leb, take_all}
use Rattle.std.specs.Prelude.{option_and_then, slice_range}
use Rattle.std.proofs.lemmas.Bool.{and_from}
use Rattle.std.proofs.lemmas.List.Elements.{All-get_or}
use Rattle.mpm_banks.specs.Memory.{Memory, IsMemory, IsSegment, no_segment, segment_of, end_of, bytes_of}
use Rattle.mpm_banks.specs.Ranges.{range_from, range_within, range_of, range_bytes}
use Rattle.mpm_banks.specs.declared.range.Space.{Space}
use Rattle.mpm_banks.specs.declared.range.Space.TheVariants.{Common, InSegment}
use Rattle.mpm_gate.specs.Gates.{IsHome}
use Rattle.mpm_procs.specs.Table.{Table, lives, Lives, process_in, process_at}
use Rattle.mpm_procs.specs.declared.process.Process.{Process}
use Rattle.mpm_procs.proofs.MapLaws.{lives_below}
use Rattle.mpm_system.specs.declared.system.System.{System}
use Rattle.mpm_system.specs.Whole.{IsWhole}
use Rattle.mpm_machine.specs.declared.housing.Home.{Home}
use Rattle.mpm_machine.specs.Housing.{home_in, home_of}
use Rattle.mpm_core_file.specs.CoreFiles.{CoreContents, IsCore}
use Rattle.mpm_core_file.specs.declared.head.Head.{Head}
use Rattle.mpm_core.specs.Parts.{HasHome}
use Rattle.mpm_core.specs.Taking.{IsHomeOf, head_of, core_in, segment_at, core_at}

-- a space from its first address to its last
whole_of : (space : Space) (memory : Memory) (first end size : ℕ) → end ≡ first + size → length (bytes_of memory space) ≡ size
    → option_map (range_bytes memory) (range_from space first end first size) ≡ Some (bytes_of memory space)
unfolding range_bytes
whole_of space memory first end size ends is =
    let tests : (nat_le first first && nat_le (first + size) end) ≡ true = and_from _ _ (le-leb first first (omega arith)) (le-leb (first + size) end (omega (arith, ends))) in
    let from : first - first ≡ 0 = omega arith in
    let count : first + size - first - (first - first) ≡ size = omega arith in
    let all : slice_range (bytes_of memory space) (first - first) (first + size - first) ≡ bytes_of memory space =
    ap₂ (λ n k. take n (drop k (bytes_of memory space))) count from ∙ take_all size (bytes_of memory space) (omega (arith, is)) in
    ap (λ (b : Bool). option_map (range_bytes memory) (if b then Some (record { space = space; from = first - first; to = first + size - first }) else None)) tests
    ∙ ap (λ (bytes : List ℕ). Some bytes) all

segment_range : (memory : Memory) (seg : ℕ) → IsMemory memory → IsHome memory seg
    → option_map (range_bytes memory) (range_of memory seg (256 * (segment_of memory seg).base) (256 * (segment_of memory seg).pages)) ≡ Some (segment_of memory seg).bytes
unfolding range_of
segment_range memory seg is home =
    let segment = segment_of memory seg in
    let there : IsSegment segment = All-get_or IsSegment memory.segments seg no_segment home.exists is.segments in
    let below : nat_lt (256 * segment.base) 49152 ≡ true = lt-ltb (256 * segment.base) 49152 (omega (arith, home.pages, home.end)) in
    let end : end_of memory (InSegment seg) ≡ 256 * segment.base + 256 * segment.pages = omega (arith, there.size, home.end) in
    ap (λ (b : Bool). option_map (range_bytes memory) (range_within memory (if b then InSegment seg else Common) (256 * segment.base) (256 * segment.pages))) below
    ∙ whole_of (InSegment seg) memory (256 * segment.base) (end_of memory (InSegment seg)) (256 * segment.pages) end there.size

common_range : (memory : Memory) (seg : ℕ) → IsMemory memory → option_map (range_bytes memory) (range_of memory seg 49152 16384) ≡ Some memory.common
unfolding range_of
common_range memory seg is =
    let end : end_of memory Common ≡ 49152 + 16384 = omega (arith, is.common) in
    whole_of Common memory 49152 (end_of memory Common) 16384 end is.common

-- what a view of all of it has
segment_viewed : (system : System) (seg base pages : ℕ) (found : Option (List ℕ)) → IsWhole system → IsHome system.memory seg
    → base ≡ (segment_of system.memory seg).base → pages ≡ (segment_of system.memory seg).pages
    → found ≡ option_map (range_bytes system.memory) (range_of system.memory seg (256 * base) (256 * pages)) → found ≡ Some (segment_of system.memory seg).bytes
segment_viewed system seg base pages found w home same_base same_pages is =
    is ∙ ap₂ (λ (b n : ℕ). option_map (range_bytes system.memory) (range_of system.memory seg (256 * b) (256 * n))) same_base same_pages
    ∙ segment_range system.memory seg w.memory home

pub common_viewed : (system : System) (seg : ℕ) (found : Option (List ℕ)) → IsWhole system
    → found ≡ option_map (range_bytes system.memory) (range_of system.memory seg 49152 16384) → found ≡ Some system.memory.common
common_viewed system seg found w is = is ∙ common_range system.memory seg w.memory

pub regs_there : (procs : Table) (p : ℕ) → Lives procs p → option_map (λ (process : Process). process.regs) (process_at procs p) ≡ Some (process_in procs p).regs
regs_there procs p there = ap (λ (b : Bool). option_map (λ (process : Process). process.regs) (if b then Some (process_in procs p) else None)) there

-- the home of a process that was found

record Found (system : System) (p : ℕ) (home : Home) : Type 0 where
  lives : Lives system.kernel.dispatcher.procs p
  seg : (process_in system.kernel.dispatcher.procs p).seg ≡ Some home.seg
  is : home ≡ home_in system (process_in system.kernel.dispatcher.procs p) home.seg

by_segment : (seg : Option ℕ) (system : System) (process : Process) (home : Home) → option_map (home_in system process) seg ≡ Some home
    → (seg ≡ Some home.seg) × (home ≡ home_in system process home.seg)
by_segment None system process home is = absurd (cc is)
by_segment (Some s) system process home is =
    let same : home_in system process s ≡ home = cc is in
    (ap (λ (h : Home). Some h.seg) same, sym same ∙ ap (λ (h : Home). home_in system process h.seg) same)

by_life : (alive : Bool) (system : System) (process : Process) (home : Home)
    → option_and_then (λ (q : Process). option_map (home_in system q) q.seg) (if alive then Some process else None) ≡ Some home
    → (alive ≡ true) × (process.seg ≡ Some home.seg) × (home ≡ home_in system process home.seg)
by_life false system process home is = absurd (cc is)
by_life true system process home is = let found = by_segment process.seg system process home is in (refl, found.0, found.1)

found : (system : System) (p : ℕ) (home : Home) → home_of system p ≡ Some home → Found system p home
unfolding home_of
found system p home is =
    let procs = system.kernel.dispatcher.procs in
    let parts = by_life (lives procs p) system (process_in procs p) home is in
    record { lives = parts.0; seg = parts.1; is = parts.2 }

pub home_lives : (system : System) (p : ℕ) (home : Home) → home_of system p ≡ Some home → Lives system.kernel.dispatcher.procs p
home_lives system p home is = (found system p home is).lives

home_base : (system : System) (p : ℕ) (home : Home) → home_of system p ≡ Some home → home.base ≡ (segment_of system.memory home.seg).base
home_base system p home is = ap (λ (h : Home). h.base) (found system p home is).is

home_pages : (system : System) (p : ℕ) (home : Home) → home_of system p ≡ Some home → home.pages ≡ (segment_of system.memory home.seg).pages
home_pages system p home is = ap (λ (h : Home). h.pages) (found system p home is).is

pub has_home : (system : System) (p : ℕ) (home : Home) → IsHomeOf p system home → HasHome system home
has_home system p home is = record {
  whole = is.whole;
  is_home = is.is_home;
  base = home_base system p home is.there;
  pages = home_pages system p home is.there;
}

pub home_pages_some : (system : System) (home : Home) → HasHome system home → 0 < 256 * home.pages
home_pages_some system home has = omega (arith, has.pages, has.is_home.pages)

pub home_viewed : (system : System) (home : Home) (found : Option (List ℕ)) → HasHome system home
    → found ≡ option_map (range_bytes system.memory) (range_of system.memory home.seg (256 * home.base) (256 * home.pages)) → found ≡ Some (segment_of system.memory home.seg).bytes
home_viewed system home found has viewed = segment_viewed system home.seg home.base home.pages found has.whole has.is_home has.base has.pages viewed

-- and the core that is taken of it

pub taken_is : (system : System) (p : ℕ) (home : Home) (head : Head) (segment common : List ℕ) → home_of system p ≡ Some home
    → head ≡ head_of system p home.base home.pages home.procedure → segment ≡ (segment_of system.memory home.seg).bytes → common ≡ system.memory.common
    → record { head = head; segment = segment; common = common } ≡ core_in p home.seg system
taken_is system p home head segment common is same bytes rest =
    let made : Head → List ℕ → List ℕ → CoreContents = λ h s c. record { head = h; segment = s; common = c } in
    let there = home_in system (process_in system.kernel.dispatcher.procs p) home.seg in
    ap (λ h. made h segment common) same
    ∙ ap (λ (h : Home). made (head_of system p h.base h.pages h.procedure) segment common) (found system p home is).is
    ∙ ap (λ xs. made (head_of system p there.base there.pages there.procedure) xs common) bytes
    ∙ ap (λ xs. made (head_of system p there.base there.pages there.procedure) (segment_of system.memory home.seg).bytes xs) rest

pub taken_holds : (system : System) (p : ℕ) (home : Home) → IsWhole system → home_of system p ≡ Some home → IsHome system.memory home.seg
    → (process_in system.kernel.dispatcher.procs p).regs.mode < 3 → system.steps < 2 ^ 64 → IsCore (core_in p home.seg system)
taken_holds system p home w is there mode fits =
    let segment : IsSegment (segment_of system.memory home.seg) = All-get_or IsSegment system.memory.segments home.seg no_segment there.exists w.memory.segments in
    let below = lives_below system.kernel.dispatcher.procs p w.sound.slots (found system p home is).lives in
    record {
      head = record { process = omega (arith, below); some = there.pages; end = there.end; mode = mode; step = fits };
      segment = segment.size;
      common = w.memory.common;
    }

-- what the answer says

core_found : (system : System) (p : ℕ) (home : Home) → home_of system p ≡ Some home → core_at p system ≡ Some (core_in p home.seg system)
unfolding segment_at
core_found system p home is =
    let procs = system.kernel.dispatcher.procs in
    let core : ℕ → CoreContents = λ seg. core_in p seg system in
    ap (λ (b : Bool). option_map core (option_and_then (λ (q : Process). q.seg) (if b then Some (process_in procs p) else None))) (found system p home is).lives
    ∙ ap (λ (seg : Option ℕ). option_map core seg) (found system p home is).seg

no_segment_there : (seg : Option ℕ) (system : System) (process : Process) → option_map (home_in system process) seg ≡ None → seg ≡ None
no_segment_there None system process none = refl
no_segment_there (Some s) system process none = absurd (cc none)

nowhere : (alive : Bool) (system : System) (process : Process)
    → option_and_then (λ (q : Process). option_map (home_in system q) q.seg) (if alive then Some process else None) ≡ None
    → option_and_then (λ (q : Process). q.seg) (if alive then Some process else None) ≡ None
nowhere false system process none = refl
nowhere true system process none = no_segment_there process.seg system process none

pub nobody_taken : (system : System) (p : ℕ) → home_of system p ≡ None → false ≡ is_some (core_at p system)
unfolding home_of segment_at
nobody_taken system p none =
    let procs = system.kernel.dispatcher.procs in
    let core : ℕ → CoreContents = λ seg. core_in p seg system in
    sym (ap (λ (seg : Option ℕ). is_some (option_map core seg)) (nowhere (lives procs p) system (process_in procs p) none))

pub somebody_taken : (system : System) (p : ℕ) (home : Home) → home_of system p ≡ Some home → true ≡ is_some (core_at p system)
somebody_taken system p home is = sym (ap (λ (core : Option CoreContents). is_some core) (core_found system p home is))

pub core_taken : (system : System) (p : ℕ) (home : Home) (core : CoreContents) → home_of system p ≡ Some home → core ≡ core_in p home.seg system → core_at p system ≡ Some core
core_taken system p home core is same = core_found system p home is ∙ ap (λ (c : CoreContents). Some c) (sym same)
