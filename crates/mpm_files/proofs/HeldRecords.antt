-- A record that is written into a block that its entry holds, and last extent and record count after it.
use Rattle.std.proofs.Common.{◌≡◌, ◌≢◌, ℕ, ◌+◌, ◌*◌, ◌/◌, ◌%◌, ◌<◌, ◌≤◌, Bool, true, false, List, [], ◌∷◌, Some, None, Result, Ok, Err, OnOk, length, refl, sym, ap, subst, ◌∙◌, arith}
use Rattle.std.specs.Prelude.{if◌then◌else◌}
use Rattle.std.proofs.lemmas.Bool.{true≢false}
use Rattle.mpm_base.specs.declared.kind.Kind.{Kind}
use Rattle.mpm_base.specs.declared.kind.Kind.TheVariants.{Ibm3740, Hd4, Hd8}
use Rattle.mpm_port.specs.Disks.{Disks}
use Rattle.mpm_blocks.specs.Geometries.{block_records, logical_sectors}
use Rattle.mpm_blocks.specs.Sectors.{Sectors, sectors_of}
use Rattle.mpm_dirent.specs.declared.kinds.Entry.{Entry}
use Rattle.mpm_dirent.specs.declared.kinds.Entry.TheVariants.{File}
use Rattle.mpm_dirent.specs.declared.kinds.FileEntry.{FileEntry}
use Rattle.mpm_dirent.specs.declared.limits.TheConstants.{LAST_RECORD}
use Rattle.mpm_mount.specs.Drives.{FileName, PhysicalExtent, Drive, places, entry_number, block_place, with_extent}
use Rattle.mpm_mount.specs.Faults.{extent_of, name_of, block_at, holds, cause_of}
use Rattle.mpm_mount.specs.Images.{extent_in}
use Rattle.mpm_mount.specs.Changes.{HasRanges, exchanged}
use Rattle.mpm_mount.specs.Directories.{Directory, Stands, entry_in, others}
use Rattle.mpm_mount.proofs.Orders.{same_entry}
use Rattle.mpm_mount.proofs.Sound.{block_within}
use Rattle.mpm_mount.proofs.Still.{has_own}
use Rattle.mpm_mount.proofs.Unheld.{block_sector}
use Rattle.mpm_mount.proofs.Recorded.{record_written}
use Rattle.mpm_mount.proofs.KeptRecords.{place_within}
use Rattle.mpm_mount.proofs.Puts.{ranges_at, still_changed}
use Rattle.mpm_mount.proofs.Sorts.{extent_changed}
use Rattle.mpm_mount.proofs.LookedUp.{kind_of}
use Rattle.mpm_sectors.specs.Writes.{written, Puts}
use Rattle.mpm_files.specs.Units.{is_raising, raised, last_of}
use Rattle.mpm_files.specs.Lookups.{HasEntry, IsHeldAt, is_above, raised_entry}
use Rattle.mpm_files.specs.Standing.{GoesThrough, with_record, raises}
use Rattle.mpm_files.proofs.EntryPuts.{one_put}
use Rattle.mpm_files.proofs.FoundEntries.{entry_inside, entry_numbered}

pub index_within : (kind : Kind) (n : ℕ) → n % block_records kind < block_records kind
index_within Ibm3740 n = omega arith
index_within Hd4 n = omega arith
index_within Hd8 n = omega arith

-- the sector of a record of a block that is held is one of the disk
pub held_inside : (d : Directory) (file : FileName) (n slot sector : ℕ) (f : FileEntry) → HasEntry d file n slot f → IsHeldAt d.kind f n sector → sector < logical_sectors d.kind
held_inside d file n slot sector f has is =
    let some = is.held in
    let block : ℕ = block_at f (block_place d.kind n) in
    let held : holds d.kind block (entry_in d slot) ≡ true = ap (holds d.kind block) has.entry ∙ has_own f (places d.kind) (block_place d.kind n) (place_within d.kind n) in
    subst (λ (s : ℕ). s < logical_sectors d.kind) (sym is.at)
    (block_sector d.kind block (n % block_records d.kind) (block_within d.kind d.entries slot block has.sound.faultless (entry_inside d file n slot f has) some held).1 (index_within d.kind n))

-- nothing changes in the directory
itself : {A E : Type 0} (d : Directory) (result : Result A E) → OnOk result (d ≡ d)
itself d (Ok x) = refl
itself d (Err e) = tt

-- the record
held_stands : (image : List ℕ) (d : Directory) (files : Drive) (file : FileName) (n slot : ℕ) (f : FileEntry) (bytes : List ℕ) → Stands image d files → HasEntry d file n slot f
    → block_at f (block_place d.kind n) ≢ 0 → length bytes ≡ 128
    → Stands (written d.kind (record { sector = block_at f (block_place d.kind n) * block_records d.kind + n % block_records d.kind; bytes = bytes } ∷ []) image) d
    (with_extent files (name_of d.kind f) (with_record d.kind n bytes (extent_in (sectors_of image d.kind) d.kind f)))
unfolding written
held_stands image d files file n slot f bytes stands has some size =
    record_written image d files slot (block_place d.kind n) (n % block_records d.kind) f bytes stands (entry_inside d file n slot f has) has.entry (place_within d.kind n)
    (index_within d.kind n) some size

pub record_put : {A E : Type 0} (image : List ℕ) (d : Directory) (files : Drive) (file : FileName) (n slot sector : ℕ) (f : FileEntry) (bytes : List ℕ) (old new : Disks)
    (result : Result A E) → old.image d.drive ≡ Some image → Stands image d files → HasEntry d file n slot f → IsHeldAt d.kind f n sector → length bytes ≡ 128
    → Puts d.drive d.kind (record { sector = sector; bytes = bytes } ∷ []) old new result
    → GoesThrough new d.drive d files (with_extent files (name_of d.kind f) (with_record d.kind n bytes (extent_in (sectors_of image d.kind) d.kind f)) ∷ []) result
unfolding last_of
record_put {A = A} {E = E} image d files file n slot sector f bytes old new result told stands has held size puts =
    let place : ℕ = block_at f (block_place d.kind n) * block_records d.kind + n % block_records d.kind in
    one_put d d d image files (with_extent files (name_of d.kind f) (with_record d.kind n bytes (extent_in (sectors_of image d.kind) d.kind f)) ∷ []) (record { sector = place; bytes = bytes })
    old new result told stands refl (held_stands image d files file n slot f bytes stands has held.held size)
    (subst (λ (s : ℕ). Puts {A = A} {E = E} d.drive d.kind (record { sector = s; bytes = bytes } ∷ []) old new result) held.at puts) (itself d result)

-- last extent and record count
pub raising_is : (sectors : Sectors) (kind : Kind) (n : ℕ) (f : FileEntry) → is_raising n (extent_in sectors kind f) ≡ is_above n f
unfolding extent_in
raising_is sectors kind n f = refl

-- a file's entry with those of a record
abbrev pub at_record : ℕ → FileEntry → FileEntry
at_record n f = record f { ex = n / 128 % 32; s1 = 0; s2 = n / 128 / 32; rc = n % 128 + 1 }

at_extent : (n : ℕ) (f : FileEntry) → extent_of (at_record n f) ≡ n / 128
at_extent n f = omega arith

pub same_name : (kind : Kind) (n : ℕ) (f : FileEntry) → entry_number kind (extent_of f) ≡ entry_number kind (n / 128) → name_of kind (at_record n f) ≡ name_of kind f
same_name kind n f number = same_entry (name_of kind (at_record n f)) (name_of kind f) refl refl (ap (entry_number kind) (at_extent n f) ∙ sym number)

pub record_ranges : (n : ℕ) (f : FileEntry) → n ≤ LAST_RECORD → HasRanges (at_record n f)
record_ranges n f h = record { few = omega (arith); low = omega arith; high = omega (arith, h) }

raised_by : (b : Bool) (e : PhysicalExtent) (n : ℕ) → b ≡ true → (if b then record e { last = n / 128; count = n % 128 + 1 } else e) ≡ record e { last = n / 128; count = n % 128 + 1 }
raised_by true e n is = refl
raised_by false e n is = absurd (true≢false (sym is))

extent_at_record : (sectors : Sectors) (kind : Kind) (n : ℕ) (f : FileEntry) → is_above n f ≡ true → extent_in sectors kind (at_record n f) ≡ raised n (extent_in sectors kind f)
unfolding extent_in
extent_at_record sectors kind n f above =
    ap (λ (l : ℕ). record (extent_in sectors kind f) { last = l; count = n % 128 + 1 }) (at_extent n f)
    ∙ sym (raised_by (is_above n f) (extent_in sectors kind f) n above)

raised_entry_by : (b : Bool) (n : ℕ) (f : FileEntry) → b ≡ true → (if b then at_record n f else f) ≡ at_record n f
raised_entry_by true n f is = refl
raised_entry_by false n f is = absurd (true≢false (sym is))

-- the entry that is put
pub raised_exchanged : (image : List ℕ) (d : Directory) (files : Drive) (file : FileName) (n slot : ℕ) (f : FileEntry) → Stands image d files → HasEntry d file n slot f → is_above n f ≡ true
    → exchanged (sectors_of image d.kind) files (entry_in d slot) (File (raised_entry n f)) ≡ with_extent files (name_of d.kind f) (raised n (extent_in (sectors_of image d.kind) d.kind f))
raised_exchanged image d files file n slot f stands has above =
    let sectors = sectors_of image d.kind in
    let g : FileEntry = at_record n f in
    let k : files.kind ≡ d.kind = kind_of image d files stands in
    let name : name_of d.kind g ≡ name_of d.kind f = same_name d.kind n f (entry_numbered d file n slot f has) in
    ap (λ (h : FileEntry). exchanged sectors files (entry_in d slot) (File h)) (raised_entry_by (is_above n f) n f above)
    ∙ ap (λ (e : Entry). exchanged sectors files e (File g)) has.entry
    ∙ extent_changed sectors files f g (ap (λ (x : Kind). name_of x f) k ∙ sym name ∙ sym (ap (λ (x : Kind). name_of x g) k))
    ∙ ap (λ (x : Kind). with_extent files (name_of x g) (extent_in sectors x g)) k
    ∙ ap (λ q. with_extent files q (extent_in sectors d.kind g)) name
    ∙ ap (λ (e : PhysicalExtent). with_extent files (name_of d.kind f) e) (extent_at_record sectors d.kind n f above)

raises_by : (b : Bool) (x : Drive) → b ≡ true → (if b then x ∷ [] else []) ≡ x ∷ []
raises_by true x is = refl
raises_by false x is = absurd (true≢false (sym is))

raises_none : (b : Bool) (x : Drive) → b ≡ false → (if b then x ∷ [] else []) ≡ []
raises_none true x is = absurd (true≢false is)
raises_none false x is = refl

pub raised_as : (image : List ℕ) (d : Directory) (files : Drive) (file : FileName) (n slot : ℕ) (f : FileEntry) → Stands image d files → HasEntry d file n slot f → is_above n f ≡ true
    → exchanged (sectors_of image d.kind) files (entry_in d slot) (File (raised_entry n f)) ∷ [] ≡ raises d.kind n f files (extent_in (sectors_of image d.kind) d.kind f)
raised_as image d files file n slot f stands has above =
    let e : PhysicalExtent = extent_in (sectors_of image d.kind) d.kind f in
    ap (λ (x : Drive). x ∷ []) (raised_exchanged image d files file n slot f stands has above)
    ∙ sym (raises_by (is_raising n e) (with_extent files (name_of d.kind f) (raised n e)) (raising_is (sectors_of image d.kind) d.kind n f ∙ above))

pub not_raised : (sectors : Sectors) (kind : Kind) (files : Drive) (n : ℕ) (f : FileEntry) → is_above n f ≡ false → [] ≡ raises kind n f files (extent_in sectors kind f)
not_raised sectors kind files n f below =
    sym (raises_none (is_raising n (extent_in sectors kind f)) (with_extent files (name_of kind f) (raised n (extent_in sectors kind f))) (raising_is sectors kind n f ∙ below))

-- it may stand in its place
raised_still : (d : Directory) (file : FileName) (n slot : ℕ) (f : FileEntry) (b : Bool) → HasEntry d file n slot f
    → cause_of d.kind (others d.entries slot) (File (if b then at_record n f else f)) ≡ None
raised_still d file n slot f true has =
    still_changed d slot f (at_record n f) has.sound.faultless (entry_inside d file n slot f has) has.entry (record_ranges n f has.number) (λ i h. refl)
    (same_name d.kind n f (entry_numbered d file n slot f has))
raised_still d file n slot f false has =
    still_changed d slot f f has.sound.faultless (entry_inside d file n slot f has) has.entry
    (ranges_at d slot f has.sound.faultless (entry_inside d file n slot f has) has.entry) (λ i h. refl) refl

pub still_raised : (d : Directory) (file : FileName) (n slot : ℕ) (f : FileEntry) → HasEntry d file n slot f → cause_of d.kind (others d.entries slot) (File (raised_entry n f)) ≡ None
still_raised d file n slot f has = raised_still d file n slot f (is_above n f) has

-- the same, of an entry that is it
pub still_raised_as : (d : Directory) (file : FileName) (n slot : ℕ) (f g : FileEntry) → HasEntry d file n slot f → g ≡ raised_entry n f
    → cause_of d.kind (others d.entries slot) (File g) ≡ None
still_raised_as d file n slot f g has is = ap (λ (h : FileEntry). cause_of d.kind (others d.entries slot) (File h)) is ∙ still_raised d file n slot f has

pub raised_as_is : (image : List ℕ) (d : Directory) (files : Drive) (file : FileName) (n slot : ℕ) (f g : FileEntry) → Stands image d files → HasEntry d file n slot f
    → g ≡ raised_entry n f → is_above n f ≡ true
    → exchanged (sectors_of image d.kind) files (entry_in d slot) (File g) ∷ [] ≡ raises d.kind n f files (extent_in (sectors_of image d.kind) d.kind f)
raised_as_is image d files file n slot f g stands has is above =
    ap (λ (h : FileEntry). exchanged (sectors_of image d.kind) files (entry_in d slot) (File h) ∷ []) is ∙ raised_as image d files file n slot f stands has above
