-- The unit of a record, put together from its sector writes.
use Rattle.std.proofs.Common.{◌≡◌, ◌≢◌, ℕ, ◌+◌, ◌*◌, ◌/◌, ◌%◌, ◌<◌, ◌≤◌, Bool, true, false, ◌==◌, List, [], ◌∷◌, Option, Some, None, Result, Ok, Err, length, refl, sym, ap, subst, ◌∙◌, arith, eq-eqb}
use Rattle.std.specs.Prelude.{IsSome, is_some, not, replicate, slice_set, if◌then◌else◌}
use Rattle.std.proofs.lemmas.Bool.{false≢true, true≢false, eqb-true}
use Rattle.std.proofs.lemmas.List.{append-nil}
use Rattle.std.proofs.lemmas.Option.{same_Some}
use Rattle.mpm_base.specs.declared.kind.Kind.{Kind}
use Rattle.mpm_base.specs.declared.kind.Kind.TheVariants.{Ibm3740, Hd4, Hd8}
use Rattle.mpm_port.specs.Disks.{Disks}
use Rattle.mpm_blocks.specs.Geometries.{last_block, block_records, logical_sectors}
use Rattle.mpm_blocks.specs.Sectors.{Sectors, sectors_of}
use Rattle.mpm_dirent.specs.declared.kinds.Entry.{Entry}
use Rattle.mpm_dirent.specs.declared.kinds.FileEntry.{FileEntry}
use Rattle.mpm_mount.specs.Drives.{FileName, PhysicalExtent, Drive, block_place, with_extent}
use Rattle.mpm_mount.specs.Faults.{name_of, block_at}
use Rattle.mpm_mount.specs.Images.{contents_of, extent_in}
use Rattle.mpm_mount.specs.Directories.{Directory, Stands, free_block, extent_slot}
use Rattle.mpm_mount.proofs.LookedUp.{free_block_unheld}
use Rattle.mpm_mount.proofs.Unheld.{block_sector}
use Rattle.mpm_sectors.specs.Writes.{Write, written, zero_record, Puts, block_writes, block_calls, zeros_from}
use Rattle.mpm_sectors.specs.Writes as sectors
use Rattle.mpm_sectors.specs.declared.disk.Disk.{Disk}
use Rattle.mpm_files.specs.Units.{WritesRecord, ClearsBlock, fresh_records, with_stamp, last_of, stages}
use Rattle.mpm_files.specs.Plans.{clears_blocks}
use Rattle.mpm_files.specs.Counting.{lacks_entry, number_in, lacks_block_at, lacks_block}
use Rattle.mpm_files.specs.Lookups.{HasEntry}
use Rattle.mpm_files.specs.Standing.{StandsOn, GoesThrough, DoesUnit, HasFreshBlock, StandsCleared, cleared_of, with_record, with_taken, raises}
use Rattle.mpm_files.proofs.StandingLaws.{goes_nowhere, stays, goes_on, goes_stopped, does}
use Rattle.mpm_files.proofs.EntryPuts.{all_told}
use Rattle.mpm_files.proofs.HeldRecords.{index_within}
use Rattle.mpm_files.proofs.FreshBlocks.{block_stands, block_filled, cleared_stands, cleared_read}
use Rattle.mpm_files.proofs.WrittenStages.{held_stages, fresh_stages, same_extent, put_extent}

-- ---- what the directory says

pub lacks_is : (d : Directory) (file : FileName) (n slot : ℕ) (f : FileEntry) → HasEntry d file n slot f → lacks_block d file n ≡ (block_at f (block_place d.kind n) == 0)
lacks_is d file n slot f has = ap (lacks_block_at d n) has.found ∙ ap (λ (e : Entry). number_in d.kind n e == 0) has.entry

pub is_lacking : (d : Directory) (file : FileName) (n slot : ℕ) (f : FileEntry) → HasEntry d file n slot f → lacks_block d file n ≡ true → block_at f (block_place d.kind n) ≡ 0
is_lacking d file n slot f has lacks = eqb-true (block_at f (block_place d.kind n)) 0 (sym (lacks_is d file n slot f has) ∙ lacks)

-- a record that lacks no entry has one; a fresh block is there; and it may be taken

pub entry_there : (d : Directory) (file : FileName) (n : ℕ) → extent_slot d file (n / 128) ≡ None → lacks_entry d file n ≡ false → ⊥
entry_there d file n none has = true≢false (sym (ap (λ o. not (is_some o)) none) ∙ has)

pub block_free : (b : Bool) (sectors : Sectors) (d : Directory) (cleared : Option ℕ) → HasFreshBlock b sectors d cleared → free_block d ≡ None → ⊥
block_free false sectors d cleared fresh none = false≢true (subst IsSome none fresh)
block_free true sectors d None fresh none = fresh
block_free true sectors d (Some c) fresh none = true≢false (ap is_some (sym fresh.free ∙ none))

pub may_take : (b : Bool) (sectors : Sectors) (d : Directory) (cleared : Option ℕ) (block : ℕ) → HasFreshBlock b sectors d cleared → free_block d ≡ Some block
    → cleared_of b cleared block ≡ None → ⊥
may_take false sectors d cleared block fresh free none = true≢false (ap is_some none)
may_take true sectors d None block fresh free none = fresh
may_take true sectors d (Some c) block fresh free none =
    true≢false (ap is_some (sym (ap (λ (b : Bool). if b then Some 18 else None) (eq-eqb c block (same_Some c block (sym fresh.free ∙ free)))) ∙ none))

-- a record that lacks no block has an entry, and a number in that

pub block_entered : (d : Directory) (file : FileName) (n : ℕ) → lacks_block d file n ≡ false → lacks_entry d file n ≡ false
block_entered d file n held = by_slot (extent_slot d file (n / 128)) held
  where
    by_slot : (o : Option ℕ) → lacks_block_at d n o ≡ false → not (is_some o) ≡ false
    by_slot None held = absurd (true≢false held)
    by_slot (Some slot) held = refl

pub number_lacking : (d : Directory) (file : FileName) (n slot : ℕ) (f : FileEntry) → HasEntry d file n slot f → block_at f (block_place d.kind n) ≡ 0 → lacks_block d file n ≡ false → ⊥
number_lacking d file n slot f has none held = true≢false (sym (lacks_is d file n slot f has ∙ eq-eqb (block_at f (block_place d.kind n)) 0 none) ∙ held)

-- ---- into a block that is held

pub held_done : {A B E : Type 0} (image : List ℕ) (d now : Directory) (files : Drive) (file : FileName) (n slot : ℕ) (f : FileEntry) (bytes : List ℕ) (moment : Option (List ℕ))
    (mid new : Disks) (x : A) (result : Result B E) → Stands image d files → HasEntry d file n slot f → block_at f (block_place d.kind n) ≢ 0
    → GoesThrough {A = A} {E = E} mid d.drive d files (with_extent files (name_of d.kind f) (with_record d.kind n bytes (extent_in (sectors_of image d.kind) d.kind f)) ∷ []) (Ok x)
    → ((i : List ℕ) (before : Drive) → mid.image d.drive ≡ Some i → Stands i d before
    → GoesThrough new d.drive now before (with_stamp file moment before (raises d.kind n f before (extent_in (sectors_of i d.kind) d.kind f))) result)
    → DoesUnit new d.drive now files (WritesRecord file n bytes moment) result
unfolding last_of
held_done image d now files file n slot f bytes moment mid new x result stands has some first second =
    let there : PhysicalExtent = with_record d.kind n bytes (extent_in (sectors_of image d.kind) d.kind f) in
    let next : Drive = with_extent files (name_of d.kind f) there in
    let on : StandsOn mid d next = first.ok in
    let goes : GoesThrough new d.drive now next (with_stamp file moment next (raises d.kind n f next there)) result =
    subst (λ (e : PhysicalExtent). GoesThrough new d.drive now next (with_stamp file moment next (raises d.kind n f next e)) result)
    (put_extent on.image d files file n slot f there on.stands has) (second on.image next on.told on.stands) in
    does new d.drive now files (WritesRecord file n bytes moment) (with_stamp file moment files (next ∷ raises d.kind n f next there)) result
    (held_stages image d files file n slot f bytes moment stands has some)
    (goes_on new d.drive now files (next ∷ []) (with_stamp file moment next (raises d.kind n f next there)) result goes)

pub held_failed : {A B E : Type 0} (image : List ℕ) (d now : Directory) (files : Drive) (file : FileName) (n slot : ℕ) (f : FileEntry) (bytes : List ℕ) (moment : Option (List ℕ))
    (disks : Disks) (error : E) → Stands image d files → HasEntry d file n slot f → block_at f (block_place d.kind n) ≢ 0
    → GoesThrough {A = A} disks d.drive d files (with_extent files (name_of d.kind f) (with_record d.kind n bytes (extent_in (sectors_of image d.kind) d.kind f)) ∷ []) (Err error)
    → DoesUnit {A = B} disks d.drive now files (WritesRecord file n bytes moment) (Err error)
unfolding last_of
held_failed image d now files file n slot f bytes moment disks error stands has some first =
    let there : PhysicalExtent = with_record d.kind n bytes (extent_in (sectors_of image d.kind) d.kind f) in
    let next : Drive = with_extent files (name_of d.kind f) there in
    does disks d.drive now files (WritesRecord file n bytes moment) (with_stamp file moment files (next ∷ raises d.kind n f next there)) (Err error)
    (held_stages image d files file n slot f bytes moment stands has some)
    (goes_stopped disks d.drive d now files (next ∷ []) (with_stamp file moment next (raises d.kind n f next there)) error first)

-- ---- with a fresh block

bounds_by : (b : Bool) (cleared : Option ℕ) (block clear : ℕ) → cleared_of b cleared block ≡ Some clear → clear ≡ (if b then 18 else 0)
bounds_by false cleared block clear is = same_Some clear 0 (sym is)
bounds_by true None block clear is = absurd (false≢true (ap is_some is))
bounds_by true (Some c) block clear is = by_test (c == block) is
  where
    by_test : (b : Bool) → (if b then Some 18 else None) ≡ Some clear → clear ≡ 18
    by_test true is = same_Some clear 18 (sym is)
    by_test false is = absurd (false≢true (ap is_some is))

pub clear_within : (kind : Kind) (cleared : Option ℕ) (block clear : ℕ) → cleared_of (clears_blocks kind) cleared block ≡ Some clear → clear ≤ block_records kind
clear_within Ibm3740 cleared block clear is = omega (arith, bounds_by false cleared block clear is)
clear_within Hd4 cleared block clear is = omega (arith, bounds_by false cleared block clear is)
clear_within Hd8 cleared block clear is = omega (arith, bounds_by true cleared block clear is)

pub zeros_before : (b : Bool) (sectors : Sectors) (d : Directory) (cleared : Option ℕ) (block clear : ℕ) → HasFreshBlock b sectors d cleared → free_block d ≡ Some block
    → cleared_of b cleared block ≡ Some clear → (i : ℕ) → i < clear → sectors (block * block_records d.kind + i) ≡ zero_record
zeros_before false sectors d cleared block clear fresh free is i h = absurd (omega (arith, h, bounds_by false cleared block clear is))
zeros_before true sectors d None block clear fresh free is i h = absurd fresh
zeros_before true sectors d (Some c) block clear fresh free is i h =
    subst (λ (b : ℕ). sectors (b * block_records d.kind + i) ≡ zero_record) (same_Some c block (sym fresh.free ∙ free))
    (fresh.zeros i (omega (arith, h, bounds_by true (Some c) block clear is)))

pub fresh_done : {A B E : Type 0} (image : List ℕ) (d now : Directory) (files : Drive) (file : FileName) (n slot block clear index : ℕ) (f : FileEntry) (bytes : List ℕ) (cleared : Option ℕ) (moment : Option (List ℕ))
    (old mid new : Disks) (x : A) (result : Result B E) → old.image d.drive ≡ Some image → Stands image d files → HasEntry d file n slot f → block_at f (block_place d.kind n) ≡ 0
    → free_block d ≡ Some block → cleared_of (clears_blocks d.kind) cleared block ≡ Some clear → HasFreshBlock (clears_blocks d.kind) (sectors_of image d.kind) d cleared → length bytes ≡ 128
    → index ≡ n % block_records d.kind → Puts {A = A} {E = E} d.drive d.kind (block_writes d.kind block clear index bytes) old mid (Ok x)
    → ((i : List ℕ) (before : Drive) → mid.image d.drive ≡ Some i → Stands i d before
    → GoesThrough new d.drive now before (with_stamp file moment before
    (with_extent before (name_of d.kind f) (with_taken d.kind n (contents_of (sectors_of i d.kind) d.kind block) (extent_in (sectors_of i d.kind) d.kind f)) ∷ [])) result)
    → DoesUnit new d.drive now files (WritesRecord file n bytes moment) result
fresh_done image d now files file n slot block clear index f bytes cleared moment old mid new x result told stands has none free is fresh long at puts second =
    let less : index < block_records d.kind = subst (λ (i : ℕ). i < block_records d.kind) (sym at) (index_within d.kind n) in
    let ws : List Write = block_writes d.kind block clear index bytes in
    let i : List ℕ = written d.kind ws image in
    let within = clear_within d.kind cleared block clear is in
    let unheld = free_block_unheld d block free in
    let stands_i : Stands i d files = block_stands d files block clear index bytes image unheld within less long stands ws [] (append-nil ws) in
    let filled : contents_of (sectors_of i d.kind) d.kind block ≡ Some (fresh_records d.kind n bytes) =
    subst (λ (q : ℕ). contents_of (sectors_of i d.kind) d.kind block ≡ Some (slice_set (replicate (block_records d.kind) zero_record) q bytes)) at
    (block_filled d files block clear index bytes image unheld within less long stands
    (zeros_before (clears_blocks d.kind) (sectors_of image d.kind) d cleared block clear fresh free is)) in
    let goes = second i files (all_told old mid d.drive d.kind ws image puts.ok told) stands_i in
    does new d.drive now files (WritesRecord file n bytes moment)
    (with_stamp file moment files (with_extent files (name_of d.kind f) (with_taken d.kind n (Some (fresh_records d.kind n bytes)) (extent_in (sectors_of image d.kind) d.kind f)) ∷ [])) result
    (fresh_stages image d files file n slot f bytes moment stands has none)
    (subst (λ (c : Option (List (List ℕ))). GoesThrough new d.drive now files
    (with_stamp file moment files (with_extent files (name_of d.kind f) (with_taken d.kind n c (extent_in (sectors_of image d.kind) d.kind f)) ∷ [])) result) filled
    (subst (λ (e : PhysicalExtent). GoesThrough new d.drive now files
    (with_stamp file moment files (with_extent files (name_of d.kind f) (with_taken d.kind n (contents_of (sectors_of i d.kind) d.kind block) e) ∷ [])) result)
    (same_extent image i d files file n slot f stands stands_i has) goes))

pub fresh_failed : {A B E : Type 0} (image : List ℕ) (d now : Directory) (files : Drive) (file : FileName) (n block clear index : ℕ) (bytes : List ℕ) (cleared : Option ℕ) (moment : Option (List ℕ)) (old new : Disks)
    (error : E) → old.image d.drive ≡ Some image → Stands image d files → free_block d ≡ Some block → cleared_of (clears_blocks d.kind) cleared block ≡ Some clear → length bytes ≡ 128
    → index < block_records d.kind → Puts {A = A} {E = E} d.drive d.kind (block_writes d.kind block clear index bytes) old new (Err error)
    → DoesUnit {A = B} new d.drive now files (WritesRecord file n bytes moment) (Err error)
fresh_failed image d now files file n block clear index bytes cleared moment old new error told stands free is long less puts =
    does new d.drive now files (WritesRecord file n bytes moment) (stages (WritesRecord file n bytes moment) files) (Err error) refl
    (stays new d.drive d now files (stages (WritesRecord file n bytes moment) files) error refl (record {
      image = written d.kind puts.err.first image;
      told = all_told old new d.drive d.kind puts.err.first image puts.err.are told;
      stands = block_stands d files block clear index bytes image (free_block_unheld d block free) (clear_within d.kind cleared block clear is) less long stands
          puts.err.first puts.err.rest puts.err.all;
    }))

-- ---- a block that is cleared

enough : (kind : Kind) → clears_blocks kind ≡ true → 18 ≤ block_records kind
enough Ibm3740 clears = absurd (false≢true clears)
enough Hd4 clears = absurd (false≢true clears)
enough Hd8 clears = omega arith

pub clears_none : {A E : Type 0} (disks : Disks) (d : Directory) (image : List ℕ) (files : Drive) (file : FileName) (n : ℕ) (result : A) → disks.image d.drive ≡ Some image
    → Stands image d files → DoesUnit {A = A} {E = E} disks d.drive d files (ClearsBlock file n) (Ok result)
unfolding stages
clears_none disks d image files file n result told stands =
    does disks d.drive d files (ClearsBlock file n) [] (Ok result) refl (goes_nowhere disks d.drive d files result (record { image = image; told = told; stands = stands }))

pub clears_first : {A B E : Type 0} (old new : Disks) (d : Directory) (image : List ℕ) (files : Drive) (file : FileName) (n block : ℕ) (x : A) (result : B) → old.image d.drive ≡ Some image
    → Stands image d files → clears_blocks d.kind ≡ true → free_block d ≡ Some block
    → Puts {A = A} {E = E} d.drive d.kind (zeros_from (sectors.block_sector d.kind block) 18) old new (Ok x)
    → DoesUnit {A = B} {E = E} new d.drive d files (ClearsBlock file n) (Ok result)
clears_first old new d image files file n block x result told stands clears free puts =
    let ws : List Write = zeros_from (sectors.block_sector d.kind block) 18 in
    clears_none new d (written d.kind ws image) files file n result (all_told old new d.drive d.kind ws image puts.ok told)
    (cleared_stands d files block 18 image (free_block_unheld d block free) (enough d.kind clears) stands ws [] (append-nil ws))

pub clears_stopped : {A B E : Type 0} (old new : Disks) (d : Directory) (image : List ℕ) (files : Drive) (file : FileName) (n block : ℕ) (error : E) → old.image d.drive ≡ Some image
    → Stands image d files → clears_blocks d.kind ≡ true → free_block d ≡ Some block
    → Puts {A = A} {E = E} d.drive d.kind (zeros_from (sectors.block_sector d.kind block) 18) old new (Err error)
    → DoesUnit {A = B} new d.drive d files (ClearsBlock file n) (Err error)
clears_stopped old new d image files file n block error told stands clears free puts =
    does new d.drive d files (ClearsBlock file n) (stages (ClearsBlock file n) files) (Err error) refl
    (stays new d.drive d d files (stages (ClearsBlock file n) files) error refl (record {
      image = written d.kind puts.err.first image;
      told = all_told old new d.drive d.kind puts.err.first image puts.err.are told;
      stands = cleared_stands d files block 18 image (free_block_unheld d block free) (enough d.kind clears) stands puts.err.first puts.err.rest puts.err.all;
    }))

pub block_cleared : {A E : Type 0} (old new : Disks) (d : Directory) (image : List ℕ) (files : Drive) (block : ℕ) (x : A) → old.image d.drive ≡ Some image → Stands image d files
    → clears_blocks d.kind ≡ true → free_block d ≡ Some block → Puts {A = A} {E = E} d.drive d.kind (zeros_from (sectors.block_sector d.kind block) 18) old new (Ok x)
    → StandsCleared new d files (Some block)
block_cleared old new d image files block x told stands clears free puts =
    let ws : List Write = zeros_from (sectors.block_sector d.kind block) 18 in
    record {
      image = written d.kind ws image;
      told = all_told old new d.drive d.kind ws image puts.ok told;
      stands = cleared_stands d files block 18 image (free_block_unheld d block free) (enough d.kind clears) stands ws [] (append-nil ws);
      cleared_is = record { free = free; zeros = cleared_read d files block 18 image (free_block_unheld d block free) (enough d.kind clears) stands };
    }

-- ---- the block of a record

pub free_small : (d : Directory) (disk : Disk) (block : ℕ) → disk ≡ record { drive = d.drive; kind = d.kind } → free_block d ≡ Some block → block ≤ last_block disk.kind
free_small d disk block is free = subst (λ (x : Disk). block ≤ last_block x.kind) (sym is) (free_block_unheld d block free).high

pub calls_few : (kind : Kind) (cleared : Option ℕ) (block clear index : ℕ) → cleared_of (clears_blocks kind) cleared block ≡ Some clear → index < block_records kind
    → block_calls kind clear index ≤ 16
calls_few Ibm3740 cleared block clear index is less = omega (arith, less, bounds_by false cleared block clear is)
calls_few Hd4 cleared block clear index is less = omega (arith, less, bounds_by false cleared block clear is)
calls_few Hd8 cleared block clear index is less = omega (arith, less, bounds_by true cleared block clear is)

pub block_calls_few : (d : Directory) (disk : Disk) (clear index old new : ℕ) → disk ≡ record { drive = d.drive; kind = d.kind } → block_calls d.kind clear index ≤ 16
    → new ≤ old + block_calls disk.kind clear index → new ≤ old + 16
block_calls_few d disk clear index old new is few most =
    let calls : new ≤ old + block_calls d.kind clear index = subst (λ (x : Disk). new ≤ old + block_calls x.kind clear index) is most in
    omega (arith, calls, few)

-- ---- the sectors that are cleared

pub clear_inside : (d : Directory) (disk : Disk) (block a b count : ℕ) → disk ≡ record { drive = d.drive; kind = d.kind } → a ≡ block → b ≡ block_records d.kind → count ≡ 18
    → clears_blocks d.kind ≡ true → free_block d ≡ Some block → a * b + count ≤ logical_sectors disk.kind
clear_inside d disk block a b count is block_is records count_is clears free =
    let last : block * block_records d.kind + 17 < logical_sectors d.kind =
    block_sector d.kind block 17 (free_block_unheld d block free).high (last_of_them (block_records d.kind) (enough d.kind clears)) in
    subst (λ (x : Disk). a * b + count ≤ logical_sectors x.kind) (sym is)
    (subst (λ (x : ℕ). x * b + count ≤ logical_sectors d.kind) (sym block_is)
    (subst (λ (x : ℕ). block * x + count ≤ logical_sectors d.kind) (sym records) (one_more (block * block_records d.kind) count (logical_sectors d.kind) count_is last)))
  where
    last_of_them : (records : ℕ) → 18 ≤ records → 17 < records
    last_of_them records h = omega (arith, h)

    one_more : (x count all : ℕ) → count ≡ 18 → x + 17 < all → x + count ≤ all
    one_more x count all is h = omega (arith, is, h)
