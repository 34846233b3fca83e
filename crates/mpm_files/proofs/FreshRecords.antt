-- A record that comes with a fresh block: the entry that takes it.
use Rattle.std.proofs.Common.{◌≡◌, inl, inr, ℕ, ◌+◌, ◌*◌, ◌/◌, ◌%◌, ◌<◌, ◌≤◌, Bool, true, false, List, [], ◌∷◌, Option, Some, None, length, refl, sym, ap, subst, ◌∙◌, arith}
use Rattle.std.specs.Prelude.{slice_index, slice_set, if◌then◌else◌}
use Rattle.std.proofs.lemmas.Bool.{cases_eq}
use Rattle.std.proofs.lemmas.List.{get_or-set_same, get_or-set_other}
use Rattle.mpm_base.specs.declared.kind.Kind.{Kind}
use Rattle.mpm_base.specs.declared.kind.Kind.TheVariants.{Ibm3740, Hd4, Hd8}
use Rattle.mpm_blocks.specs.Geometries.{geometry_of, last_block}
use Rattle.mpm_blocks.specs.Sectors.{Sectors, sectors_of}
use Rattle.mpm_dirent.specs.declared.kinds.Entry.{Entry}
use Rattle.mpm_dirent.specs.declared.kinds.Entry.TheVariants.{File}
use Rattle.mpm_dirent.specs.declared.kinds.FileEntry.{FileEntry}
use Rattle.mpm_dirent.specs.Proper.{MapFits, IsProper}
use Rattle.mpm_mount.specs.Drives.{FileName, PhysicalExtent, Drive, entry_number, block_place, with_extent}
use Rattle.mpm_mount.specs.Faults.{extent_of, name_of, has_at, file_cause, cause_of}
use Rattle.mpm_mount.specs.Images.{contents_of, extent_in}
use Rattle.mpm_mount.specs.Changes.{TakesBlock, exchanged, with_block}
use Rattle.mpm_mount.specs.Directories.{Directory, Stands, entry_in, others, free_block}
use Rattle.mpm_mount.proofs.LookedUp.{free_block_unheld, kind_of}
use Rattle.mpm_mount.proofs.KeptRecords.{place_within}
use Rattle.mpm_mount.proofs.Taking.{extent_with_block, still_taking}
use Rattle.mpm_mount.proofs.Puts.{ranges_at}
use Rattle.mpm_mount.proofs.Sorts.{extent_changed}
use Rattle.mpm_files.specs.Units.{is_raising}
use Rattle.mpm_files.specs.Lookups.{HasEntry, is_above, with_number, taken_entry}
use Rattle.mpm_files.specs.Standing.{with_taken}
use Rattle.mpm_files.proofs.FoundEntries.{entry_inside, entry_numbered}
use Rattle.mpm_files.proofs.HeldRecords.{at_record, same_name, record_ranges}

place_small : (kind : Kind) (n : ℕ) → block_place kind n < 16
place_small Ibm3740 n = omega arith
place_small Hd4 n = omega arith
place_small Hd8 n = omega arith

-- it may stand in its place
takes : (d : Directory) (file : FileName) (n slot block : ℕ) (f : FileEntry) (ex s2 rc : ℕ) → HasEntry d file n slot f → length f.blocks ≡ 16 → free_block d ≡ Some block
    → rc ≤ 128 → ex ≤ 31 → s2 ≤ 63 → entry_number d.kind (32 * s2 + ex) ≡ entry_number d.kind (extent_of f) → TakesBlock d slot f (block_place d.kind n) block ex s2 rc
takes d file n slot block f ex s2 rc has size free few low high number = record {
  within = entry_inside d file n slot f has;
  entry = has.entry;
  place = place_within d.kind n;
  room = omega (arith, place_small d.kind n, size);
  free = free_block_unheld d block free;
  few = few;
  low = low;
  high = high;
  number = number;
}

extent_again : (n : ℕ) → 32 * (n / 128 / 32) + n / 128 % 32 ≡ n / 128
extent_again n = omega arith

-- S1 is no cause of a fault
whatever_s1 : (kind : Kind) (earlier : List Entry) (f : FileEntry) (s1 : ℕ) → cause_of kind earlier (File (record f { s1 = s1 })) ≡ cause_of kind earlier (File f)
unfolding file_cause has_at
whatever_s1 kind earlier f s1 = refl

still_by : (d : Directory) (file : FileName) (n slot block : ℕ) (f : FileEntry) (b : Bool) → HasEntry d file n slot f → length f.blocks ≡ 16 → free_block d ≡ Some block
    → cause_of d.kind (others d.entries slot) (File (if b then at_record n (with_number d.kind n block f) else (with_number d.kind n block f))) ≡ None
still_by d file n slot block f true has size free =
    let ranges = record_ranges n f has.number in
    whatever_s1 d.kind (others d.entries slot) (with_block f (block_place d.kind n) block (n / 128 % 32) (n / 128 / 32) (n % 128 + 1)) 0
    ∙ still_taking d slot f (block_place d.kind n) block (n / 128 % 32) (n / 128 / 32) (n % 128 + 1) has.sound.faultless
    (takes d file n slot block f (n / 128 % 32) (n / 128 / 32) (n % 128 + 1) has size free ranges.few ranges.low ranges.high
    (ap (entry_number d.kind) (extent_again n) ∙ sym (entry_numbered d file n slot f has)))
still_by d file n slot block f false has size free =
    let ranges = ranges_at d slot f has.sound.faultless (entry_inside d file n slot f has) has.entry in
    still_taking d slot f (block_place d.kind n) block f.ex f.s2 f.rc has.sound.faultless
    (takes d file n slot block f f.ex f.s2 f.rc has size free ranges.few ranges.low ranges.high refl)

pub still_taken : (d : Directory) (file : FileName) (n slot block : ℕ) (f : FileEntry) → HasEntry d file n slot f → length f.blocks ≡ 16 → free_block d ≡ Some block
    → cause_of d.kind (others d.entries slot) (File (taken_entry d.kind n block f)) ≡ None
still_taken d file n slot block f has size free = still_by d file n slot block f (is_above n f) has size free

-- it can be written
wide_set : (blocks : List ℕ) (i block : ℕ) → MapFits true blocks → i < 8 → length blocks ≡ 16 → MapFits true (slice_set blocks i block)
wide_set blocks i block fits low size = λ place h above.
    get_or-set_other blocks i place block 0 (λ same. absurd (apart i place low above same)) ∙ fits place h above
  where
    apart : (i place : ℕ) → i < 8 → 8 ≤ place → place ≡ i → ⊥
    apart i place low above same = omega (arith, low, above, same)

narrow_set : (blocks : List ℕ) (i block : ℕ) → MapFits false blocks → i < 16 → block < 256 → length blocks ≡ 16 → MapFits false (slice_set blocks i block)
narrow_set blocks i block fits low small size = λ place h. elim (cases_eq place i) [
  | inl same ↦ subst (λ (p : ℕ). slice_index (slice_set blocks i block) p < 256) (sym same)
      (subst (λ (x : ℕ). x < 256) (sym (get_or-set_same blocks i block 0 (omega (arith, low, size)))) small)
  | inr apart ↦ subst (λ (x : ℕ). x < 256) (sym (get_or-set_other blocks i place block 0 apart)) (fits place h)
]

set_fits : (kind : Kind) (blocks : List ℕ) (n block : ℕ) → MapFits (geometry_of kind).wide blocks → block ≤ last_block kind → length blocks ≡ 16
    → MapFits (geometry_of kind).wide (slice_set blocks (block_place kind n) block)
set_fits Ibm3740 blocks n block fits low size = narrow_set blocks (block_place Ibm3740 n) block fits (place_within Ibm3740 n) (omega (arith, low)) size
set_fits Hd4 blocks n block fits low size = wide_set blocks (block_place Hd4 n) block fits (place_within Hd4 n) size
set_fits Hd8 blocks n block fits low size = wide_set blocks (block_place Hd8 n) block fits (place_within Hd8 n) size

proper_by : (wide b : Bool) (n : ℕ) (f : FileEntry) → IsProper wide (File f) → IsProper wide (File (if b then at_record n f else f))
proper_by wide true n f proper = proper
proper_by wide false n f proper = proper

pub taken_proper : (d : Directory) (file : FileName) (n slot block : ℕ) (f : FileEntry) → HasEntry d file n slot f → length f.blocks ≡ 16 → free_block d ≡ Some block
    → IsProper (geometry_of d.kind).wide (File (taken_entry d.kind n block f))
taken_proper d file n slot block f has size free =
    proper_by (geometry_of d.kind).wide (is_above n f) n (with_number d.kind n block f)
    (has.proper.0, set_fits d.kind f.blocks n block has.proper.1 (free_block_unheld d block free).high size)

-- what it has
extent_by : (sectors : Sectors) (kind : Kind) (n : ℕ) (f : FileEntry) (b : Bool)
    → extent_in sectors kind (if b then at_record n f else f) ≡ (if b then record (extent_in sectors kind f) { last = n / 128; count = n % 128 + 1 } else extent_in sectors kind f)
unfolding extent_in
extent_by sectors kind n f true = ap (λ (l : ℕ). record (extent_in sectors kind f) { last = l; count = n % 128 + 1 }) (extent_again n)
extent_by sectors kind n f false = refl

extent_numbered : (sectors : Sectors) (kind : Kind) (n block : ℕ) (f : FileEntry) → length f.blocks ≡ 16
    → extent_in sectors kind (with_number kind n block f)
    ≡ record (extent_in sectors kind f) { blocks = slice_set (extent_in sectors kind f).blocks (block_place kind n) (contents_of sectors kind block) }
unfolding extent_in
extent_numbered sectors kind n block f size =
    extent_with_block sectors kind f (block_place kind n) block f.ex f.s2 f.rc (place_within kind n) (omega (arith, place_small kind n, size))

raising_taken : (sectors : Sectors) (kind : Kind) (n : ℕ) (f : FileEntry) (blocks : List (Option (List (List ℕ)))) → is_raising n (record (extent_in sectors kind f) { blocks = blocks }) ≡ is_above n f
unfolding extent_in
raising_taken sectors kind n f blocks = refl

extent_taken : (sectors : Sectors) (kind : Kind) (n block : ℕ) (f : FileEntry) → length f.blocks ≡ 16
    → extent_in sectors kind (taken_entry kind n block f) ≡ with_taken kind n (contents_of sectors kind block) (extent_in sectors kind f)
extent_taken sectors kind n block f size =
    let e : PhysicalExtent = record (extent_in sectors kind f) { blocks = slice_set (extent_in sectors kind f).blocks (block_place kind n) (contents_of sectors kind block) } in
    extent_by sectors kind n (with_number kind n block f) (is_above n f)
    ∙ ap (λ (x : PhysicalExtent). if is_above n f then record x { last = n / 128; count = n % 128 + 1 } else x) (extent_numbered sectors kind n block f size)
    ∙ ap (λ (b : Bool). if b then record e { last = n / 128; count = n % 128 + 1 } else e) (sym (raising_taken sectors kind n f e.blocks))

name_by : (kind : Kind) (n : ℕ) (f : FileEntry) (b : Bool) → entry_number kind (extent_of f) ≡ entry_number kind (n / 128) → name_of kind (if b then at_record n f else f) ≡ name_of kind f
name_by kind n f true number = same_name kind n f number
name_by kind n f false number = refl

pub taken_exchanged : (image : List ℕ) (d : Directory) (files : Drive) (file : FileName) (n slot block : ℕ) (f : FileEntry) → Stands image d files → HasEntry d file n slot f → length f.blocks ≡ 16
    → exchanged (sectors_of image d.kind) files (entry_in d slot) (File (taken_entry d.kind n block f))
    ≡ with_extent files (name_of d.kind f) (with_taken d.kind n (contents_of (sectors_of image d.kind) d.kind block) (extent_in (sectors_of image d.kind) d.kind f))
taken_exchanged image d files file n slot block f stands has size =
    let sectors = sectors_of image d.kind in
    let g : FileEntry = taken_entry d.kind n block f in
    let k : files.kind ≡ d.kind = kind_of image d files stands in
    let name : name_of d.kind g ≡ name_of d.kind f = name_by d.kind n (with_number d.kind n block f) (is_above n f) (entry_numbered d file n slot f has) in
    ap (λ (e : Entry). exchanged sectors files e (File g)) has.entry
    ∙ extent_changed sectors files f g (ap (λ (x : Kind). name_of x f) k ∙ sym name ∙ sym (ap (λ (x : Kind). name_of x g) k))
    ∙ ap (λ (x : Kind). with_extent files (name_of x g) (extent_in sectors x g)) k
    ∙ ap (λ q. with_extent files q (extent_in sectors d.kind g)) name
    ∙ ap (λ (e : PhysicalExtent). with_extent files (name_of d.kind f) e) (extent_taken sectors d.kind n block f size)

-- the same, of an entry that is it
pub still_taken_as : (d : Directory) (file : FileName) (n slot block : ℕ) (f g : FileEntry) → HasEntry d file n slot f → g ≡ taken_entry d.kind n block f → length f.blocks ≡ 16
    → free_block d ≡ Some block → cause_of d.kind (others d.entries slot) (File g) ≡ None
still_taken_as d file n slot block f g has is size free =
    ap (λ (h : FileEntry). cause_of d.kind (others d.entries slot) (File h)) is ∙ still_taken d file n slot block f has size free

pub taken_proper_as : (d : Directory) (file : FileName) (n slot block : ℕ) (f g : FileEntry) → HasEntry d file n slot f → g ≡ taken_entry d.kind n block f → length f.blocks ≡ 16
    → free_block d ≡ Some block → IsProper (geometry_of d.kind).wide (File g)
taken_proper_as d file n slot block f g has is size free =
    subst (λ (h : FileEntry). IsProper (geometry_of d.kind).wide (File h)) (sym is) (taken_proper d file n slot block f has size free)

pub taken_as : (image : List ℕ) (d : Directory) (files : Drive) (file : FileName) (n slot block : ℕ) (f g : FileEntry) → Stands image d files → HasEntry d file n slot f
    → g ≡ taken_entry d.kind n block f → length f.blocks ≡ 16 → exchanged (sectors_of image d.kind) files (entry_in d slot) (File g) ∷ []
    ≡ with_extent files (name_of d.kind f) (with_taken d.kind n (contents_of (sectors_of image d.kind) d.kind block) (extent_in (sectors_of image d.kind) d.kind f)) ∷ []
taken_as image d files file n slot block f g stands has is size =
    ap (λ (h : FileEntry). exchanged (sectors_of image d.kind) files (entry_in d slot) (File h) ∷ []) is
    ∙ ap (λ (x : Drive). x ∷ []) (taken_exchanged image d files file n slot block f stands has size)
