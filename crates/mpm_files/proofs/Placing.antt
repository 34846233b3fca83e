-- XFCBs, the label and directory entries that are put into a slot: no fault beside all others, and what they make of the drive.
use Rattle.std.proofs.Common.{◌≡◌, ℕ, zero, suc, ◌+◌, ◌*◌, ◌/◌, ◌%◌, ◌≤◌, ◌<◌, Bool, false, not, ◌==◌, List, [], ◌∷◌, ◌++◌, Option, Some, None, map, take, drop, length, refl, sym, ap, subst, ◌∙◌, arith}
use Rattle.std.specs.Prelude.{is_some, unwrap_or, bytes_eq, nat_le, replicate, slice_index}
use Rattle.std.specs.List.{list_any}
use Rattle.std.specs.FinMap.{get}
use Rattle.std.proofs.lemmas.Bool.{true≢false, and_parts, eqb-true}
use Rattle.std.proofs.lemmas.List.{map-append, take-map, drop-map}
use Rattle.std.proofs.lemmas.List.Quantifiers.{position-Some}
use Rattle.mpm_base.specs.declared.kind.Kind.{Kind}
use Rattle.mpm_base.specs.Counts.{one_if}
use Rattle.mpm_blocks.specs.Sectors.{Sectors, sectors_of}
use Rattle.mpm_dirent.specs.declared.kinds.Entry.{Entry}
use Rattle.mpm_dirent.specs.declared.kinds.Entry.TheVariants.{Free, File, Xfcb, Label}
use Rattle.mpm_dirent.specs.declared.kinds.FileEntry.{FileEntry}
use Rattle.mpm_dirent.specs.declared.kinds.XfcbEntry.{XfcbEntry}
use Rattle.mpm_dirent.specs.Names.{plain}
use Rattle.mpm_dirent.specs.declared.limits.TheConstants.{LAST_EXTENT}
use Rattle.mpm_dirent.proofs.PlainNames.{plain_twice}
use Rattle.mpm_mount.specs.Drives.{FileName, PhysicalExtent, Drive, places, entry_number, entry_name, extents_of, with_extent, without_extent, with_xfcb, without_xfcb, free_entries}
use Rattle.mpm_mount.specs.Faults.{extent_of, name_of, is_named, is_label, is_xfcb, cause_of, first_fault}
use Rattle.mpm_mount.specs.Images.{extent_in}
use Rattle.mpm_mount.specs.Changes.{exchanged, HasNoBlock}
use Rattle.mpm_mount.specs.Directories.{Directory, Stands, others, entry_in, extent_slot, xfcb_slot, label_slot, free_slot}
use Rattle.mpm_mount.specs.Files.{where_there, file_in}
use Rattle.mpm_mount.specs.Attributes.{first_attributes, attributes_of, attributes_in, attributes_at}
use Rattle.mpm_mount.proofs.Sorts.{xfcb_added, xfcb_changed, xfcb_renamed, label_added, label_changed, extent_added, extent_changed, extent_renamed}
use Rattle.mpm_mount.proofs.Puts.{ranges_at, still_changed, still_renamed, still_added, still_xfcb_added, still_xfcb_changed, still_label_added, still_label_changed, extent_without_blocks}
use Rattle.mpm_mount.proofs.LookedUp.{nowhere, extent_found, xfcb_found, xfcb_missing, label_found, label_missing, free_slot_found, kind_of}
use Rattle.mpm_mount.proofs.FreeEntries.{no_free_slot}
use Rattle.mpm_mount.proofs.Distinct.{xfcb_by, label_by}
use Rattle.mpm_jobs.specs.declared.jobs.Job.{Job}
use Rattle.mpm_files.specs.Units.{AddsEntry, SetsAttributes, RenamesEntry, PutsXfcb, RenamesXfcb, PutsLabel, new_entry, with_attributes, stages}
use Rattle.mpm_files.specs.Plans.{file_of_job, new_file_of_job, protection_in}
use Rattle.mpm_files.specs.Turning.{IsFileAt, xfcb_of_job, label_of_job, marks_set}
use Rattle.mpm_files.proofs.NoFile.{there_at}

-- an XFCB comes, or another in its place
pub clean_over : (d : Directory) (job : Job) (slot : ℕ) → first_fault d.kind d.entries ≡ None → xfcb_slot d (file_of_job job) ≡ Some slot
    → cause_of d.kind (others d.entries slot) (Xfcb (xfcb_of_job job)) ≡ None
clean_over d job slot faultless found =
    let at = position-Some (is_xfcb job.user (plain job.name)) d.entries slot Free found in
    let by = xfcb_by job.user (plain job.name) (entry_in d slot) at.1 in
    still_xfcb_changed d slot by.xfcb (xfcb_of_job job) faultless at.0 by.is (sym by.user_is) (plain_twice job.name ∙ sym by.name_is)

pub clean_new : (d : Directory) (job : Job) (slot : ℕ) → xfcb_slot d (file_of_job job) ≡ None → free_slot d ≡ Some slot
    → cause_of d.kind (others d.entries slot) (Xfcb (xfcb_of_job job)) ≡ None
clean_new d job slot none free =
    still_xfcb_added d slot (xfcb_of_job job) (free_slot_found d slot free).0
    (ap (λ name. list_any (is_xfcb job.user name) d.entries) (plain_twice job.name) ∙ nowhere (is_xfcb job.user (plain job.name)) d.entries none)

own_file : (job : Job) → file_in job.user (plain job.name) ≡ file_of_job job
own_file job = λ i. record { user = job.user; name = plain_twice job.name i }

pub over_stage : (image : List ℕ) (d : Directory) (files : Drive) (job : Job) (slot : ℕ) → Stands image d files → xfcb_slot d (file_of_job job) ≡ Some slot
    → stages (PutsXfcb (file_of_job job) (protection_in job)) files ≡ exchanged (sectors_of image d.kind) files (entry_in d slot) (Xfcb (xfcb_of_job job)) ∷ []
unfolding stages
over_stage image d files job slot stands found =
    let at = xfcb_found image d files (file_of_job job) slot stands found in
    ap (λ (x : Drive). x ∷ []) (sym (ap (λ e. exchanged (sectors_of image d.kind) files e (Xfcb (xfcb_of_job job))) at.entry
    ∙ xfcb_changed (sectors_of image d.kind) files at.xfcb (xfcb_of_job job) (file_of_job job) at.name_is (own_file job)))

pub new_stage : (image : List ℕ) (d : Directory) (files : Drive) (job : Job) (slot : ℕ) → free_slot d ≡ Some slot
    → stages (PutsXfcb (file_of_job job) (protection_in job)) files ≡ exchanged (sectors_of image d.kind) files (entry_in d slot) (Xfcb (xfcb_of_job job)) ∷ []
unfolding stages
new_stage image d files job slot free =
    ap (λ (x : Drive). x ∷ []) (sym (ap (λ e. exchanged (sectors_of image d.kind) files e (Xfcb (xfcb_of_job job))) ((free_slot_found d slot free).1)
    ∙ xfcb_added (sectors_of image d.kind) files (xfcb_of_job job) ∙ ap (λ (f : FileName). with_xfcb files f (protection_in job)) (own_file job)))

pub xfcb_has_room : (image : List ℕ) (d : Directory) (files : Drive) (job : Job) → Stands image d files → xfcb_slot d (file_of_job job) ≡ None → free_slot d ≡ None
    → one_if (not (is_some (get files.xfcbs (file_of_job job)))) ≤ free_entries files → ⊥
xfcb_has_room image d files job stands none full room =
    omega (arith, room, no_free_slot image d files stands full, ap (λ o. one_if (not (is_some o))) (xfcb_missing image d files (file_of_job job) stands none))

-- the label
pub label_clean_over : (d : Directory) (job : Job) (slot : ℕ) → first_fault d.kind d.entries ≡ None → label_slot d ≡ Some slot
    → cause_of d.kind (others d.entries slot) (Label (label_of_job job)) ≡ None
label_clean_over d job slot faultless found =
    let at = position-Some is_label d.entries slot Free found in
    let by = label_by (entry_in d slot) at.1 in
    still_label_changed d slot by.label (label_of_job job) faultless at.0 by.is

pub label_clean_new : (d : Directory) (job : Job) (slot : ℕ) → label_slot d ≡ None → free_slot d ≡ Some slot → cause_of d.kind (others d.entries slot) (Label (label_of_job job)) ≡ None
label_clean_new d job slot none free = still_label_added d slot (label_of_job job) (free_slot_found d slot free).0 (nowhere is_label d.entries none)

pub label_over_stage : (image : List ℕ) (d : Directory) (files : Drive) (job : Job) (slot : ℕ) → Stands image d files → label_slot d ≡ Some slot
    → stages (PutsLabel (record { name = job.new_name; protection = protection_in job })) files ≡ exchanged (sectors_of image d.kind) files (entry_in d slot) (Label (label_of_job job)) ∷ []
unfolding stages
label_over_stage image d files job slot stands found =
    let at = label_found image d files slot stands found in
    ap (λ (x : Drive). x ∷ []) (sym (ap (λ e. exchanged (sectors_of image d.kind) files e (Label (label_of_job job))) at.entry
    ∙ label_changed (sectors_of image d.kind) files at.label (label_of_job job)))

pub label_new_stage : (image : List ℕ) (d : Directory) (files : Drive) (job : Job) (slot : ℕ) → free_slot d ≡ Some slot
    → stages (PutsLabel (record { name = job.new_name; protection = protection_in job })) files ≡ exchanged (sectors_of image d.kind) files (entry_in d slot) (Label (label_of_job job)) ∷ []
unfolding stages
label_new_stage image d files job slot free =
    ap (λ (x : Drive). x ∷ []) (sym (ap (λ e. exchanged (sectors_of image d.kind) files e (Label (label_of_job job))) ((free_slot_found d slot free).1)
    ∙ label_added (sectors_of image d.kind) files (label_of_job job)))

pub label_has_room : (image : List ℕ) (d : Directory) (files : Drive) → Stands image d files → label_slot d ≡ None → free_slot d ≡ None
    → one_if (not (is_some files.label)) ≤ free_entries files → ⊥
label_has_room image d files stands none full room =
    omega (arith, room, no_free_slot image d files stands full, ap (λ o. one_if (not (is_some o))) (label_missing image d files stands none))

-- a file's entry comes
zero_at : (n i : ℕ) → slice_index (replicate n 0) i ≡ 0
zero_at zero i = refl
zero_at (suc n) zero = refl
zero_at (suc n) (suc i) = zero_at n i

whole_extent : (x : ℕ) → 32 * (x / 32) + x % 32 ≡ x
whole_extent x = omega arith

-- what a new entry has: its file, its extent, no record and no block
pub record IsNew (job : Job) (extent : ℕ) (g : FileEntry) : Type 0 where
  pub user : g.user ≡ job.user
  pub name : plain g.name ≡ plain job.name
  pub low : g.ex ≡ extent % 32
  pub high : g.s2 ≡ extent / 32
  pub count : g.rc ≡ 0
  pub blocks : g.blocks ≡ replicate 16 0

new_extent : (job : Job) (extent : ℕ) (g : FileEntry) → IsNew job extent g → extent_of g ≡ extent
new_extent job extent g new = ap (λ n. 32 * n + g.ex) new.high ∙ ap (λ n. 32 * (extent / 32) + n) new.low ∙ whole_extent extent

new_name : (kind : Kind) (job : Job) (extent : ℕ) (g : FileEntry) → IsNew job extent g → name_of kind g ≡ entry_name kind (file_of_job job) extent
new_name kind job extent g new = λ i. record { user = new.user i; name = new.name i; number = entry_number kind (new_extent job extent g new i) }

no_blocks : (kind : Kind) (job : Job) (extent : ℕ) (g : FileEntry) → IsNew job extent g → HasNoBlock kind g
no_blocks kind job extent g new = λ i h. ap (λ bs. slice_index bs i) new.blocks ∙ zero_at 16 i

pub entry_clean : (d : Directory) (job : Job) (extent slot : ℕ) (g : FileEntry) → IsNew job extent g → extent ≤ LAST_EXTENT → extent_slot d (file_of_job job) extent ≡ None → free_slot d ≡ Some slot
    → cause_of d.kind (others d.entries slot) (File g) ≡ None
entry_clean d job extent slot g new small none free =
    still_added d slot g (free_slot_found d slot free).0
    (record { few = omega (arith, new.count); low = omega (arith, new.low); high = omega (arith, new.high) })
    (no_blocks d.kind job extent g new)
    (ap (λ n. list_any (is_named d.kind n) d.entries) (new_name d.kind job extent g new) ∙ nowhere (is_named d.kind (entry_name d.kind (file_of_job job) extent)) d.entries none)

entry_alike : (attributes : List Bool) (last count : ℕ) (blocks : List (Option (List (List ℕ)))) (other : List Bool) (extent : ℕ) → attributes ≡ other → last ≡ extent → count ≡ 0
    → ◌≡◌ {A = PhysicalExtent} (record { attributes = attributes; last = last; count = count; blocks = blocks }) (record { attributes = other; last = extent; count = 0; blocks = blocks })
entry_alike attributes last count blocks other extent a l c = λ i. record { attributes = a i; last = l i; count = c i; blocks = blocks }

pub entry_stage : (image : List ℕ) (d : Directory) (files : Drive) (job : Job) (extent slot : ℕ) (g : FileEntry) → Stands image d files → IsNew job extent g → free_slot d ≡ Some slot
    → map (nat_le 128) g.name ≡ attributes_of (extents_of files (file_of_job job))
    → stages (AddsEntry (file_of_job job) extent) files ≡ exchanged (sectors_of image d.kind) files (entry_in d slot) (File g) ∷ []
unfolding stages new_entry
entry_stage image d files job extent slot g stands new free attributes =
    let sectors : Sectors = sectors_of image d.kind in
    ap (λ (x : Drive). x ∷ []) (sym (ap (λ e. exchanged sectors files e (File g)) ((free_slot_found d slot free).1)
    ∙ extent_added sectors files g
    ∙ ap (λ n. with_extent files n (extent_in sectors files.kind g)) (new_name files.kind job extent g new)
    ∙ ap (with_extent files (entry_name files.kind (file_of_job job) extent))
    (extent_without_blocks sectors files.kind g (no_blocks files.kind job extent g new)
    ∙ entry_alike (map (nat_le 128) g.name) (extent_of g) g.rc (replicate (places files.kind) None) (attributes_of (extents_of files (file_of_job job))) extent attributes (new_extent job extent g new) new.count)))

pub entry_not_there : (image : List ℕ) (d : Directory) (files : Drive) (job : Job) (extent slot : ℕ) → Stands image d files → extent_slot d (file_of_job job) extent ≡ Some slot
    → get files.extents (entry_name files.kind (file_of_job job) extent) ≡ None → ⊥
entry_not_there image d files job extent slot stands found none =
    let at = extent_found image d files (file_of_job job) extent slot stands found in
    true≢false (sym (ap is_some at.extent) ∙ ap (λ k. is_some (get files.extents (entry_name k (file_of_job job) extent))) (sym (kind_of image d files stands)) ∙ ap is_some none)

-- an entry changes in its place, or goes to another name
file_same : (f g : FileEntry) (e : Entry) → e ≡ File f → e ≡ File g → f ≡ g
file_same f g e is other = cc

pub set_clean : (d : Directory) (slot : ℕ) (f : FileEntry) (name : List ℕ) → IsFileAt d slot f → slot < length d.entries → plain name ≡ plain f.name
    → cause_of d.kind (others d.entries slot) (File (record f { name = name })) ≡ None
set_clean d slot f name at h same =
    let ranges = ranges_at d slot f at.sound.faultless h at.entry in
    still_changed d slot f (record f { name = name }) at.sound.faultless h at.entry (record { few = ranges.few; low = ranges.low; high = ranges.high }) (λ i less. refl)
    (λ i. record { user = f.user; name = same i; number = entry_number d.kind (extent_of f) })

marks_mapped : (wanted old : List ℕ) → map (nat_le 128) (marks_set wanted old)
    ≡ take 4 (map (nat_le 128) wanted) ++ (take 4 (drop 4 (map (nat_le 128) old)) ++ drop 8 (map (nat_le 128) wanted))
marks_mapped wanted old =
    let p : ℕ → Bool = nat_le 128 in
    map-append p (take 4 wanted) (take 4 (drop 4 old) ++ drop 8 wanted)
    ∙ ap (λ l. map p (take 4 wanted) ++ l) (map-append p (take 4 (drop 4 old)) (drop 8 wanted))
    ∙ ap (λ l. l ++ (map p (take 4 (drop 4 old)) ++ map p (drop 8 wanted))) (sym (take-map p 4 wanted))
    ∙ ap (λ l. take 4 (map p wanted) ++ (l ++ map p (drop 8 wanted))) (sym (take-map p 4 (drop 4 old)) ∙ ap (take 4) (sym (drop-map p 4 old)))
    ∙ ap (λ l. take 4 (map p wanted) ++ (take 4 (drop 4 (map p old)) ++ l)) (sym (drop-map p 8 wanted))

set_extent : (sectors : Sectors) (kind : Kind) (f : FileEntry) (name wanted : List ℕ) → map (nat_le 128) name ≡ map (nat_le 128) (marks_set wanted f.name)
    → extent_in sectors kind (record f { name = name }) ≡ with_attributes (attributes_in wanted) (extent_in sectors kind f)
unfolding extent_in
set_extent sectors kind f name wanted same = ap (λ (l : List Bool). record (extent_in sectors kind f) { attributes = l }) (same ∙ marks_mapped wanted f.name)

pub set_stage : (image : List ℕ) (d : Directory) (files : Drive) (slot : ℕ) (f file : FileEntry) (name wanted : List ℕ) → Stands image d files → IsFileAt d slot f → slot < length d.entries
    → entry_in d slot ≡ File file → plain name ≡ plain f.name → map (nat_le 128) name ≡ map (nat_le 128) (marks_set wanted f.name)
    → stages (SetsAttributes (file_in file.user file.name) (name_of files.kind file).number (attributes_in wanted)) files
    ≡ exchanged (sectors_of image d.kind) files (entry_in d slot) (File (record f { name = name })) ∷ []
unfolding stages
set_stage image d files slot f file name wanted stands at h is same marks =
    let sectors : Sectors = sectors_of image d.kind in
    let kind : files.kind ≡ d.kind = kind_of image d files stands in
    let g : FileEntry = record f { name = name } in
    let there : get files.extents (name_of files.kind f) ≡ Some (extent_in sectors files.kind f) =
    subst (λ k. get files.extents (name_of k f) ≡ Some (extent_in sectors k f)) (sym kind) (there_at image d files slot f stands h at.entry) in
    let named : name_of files.kind g ≡ name_of files.kind f = λ i. record { user = f.user; name = same i; number = entry_number files.kind (extent_of f) } in
    ap (λ (q : FileEntry). where_there (get files.extents (name_of files.kind q)) (λ entry. with_extent files (name_of files.kind q) (with_attributes (attributes_in wanted) entry) ∷ [])) (file_same file f (entry_in d slot) is at.entry)
    ∙ ap (λ o. where_there o (λ entry. with_extent files (name_of files.kind f) (with_attributes (attributes_in wanted) entry) ∷ [])) there
    ∙ ap (λ (x : Drive). x ∷ []) (sym (ap (λ e. exchanged sectors files e (File g)) at.entry
    ∙ extent_changed sectors files f g (sym named)
    ∙ ap (λ n. with_extent files n (extent_in sectors files.kind g)) named
    ∙ ap (with_extent files (name_of files.kind f)) (set_extent sectors files.kind f name wanted marks)))

-- to another name
pub renamed_clean : (d : Directory) (slot : ℕ) (f : FileEntry) (name : List ℕ) → IsFileAt d slot f → slot < length d.entries
    → extent_slot d (record { user = f.user; name = plain name }) (extent_of f) ≡ None → cause_of d.kind (others d.entries slot) (File (record f { name = name })) ≡ None
renamed_clean d slot f name at h none =
    let ranges = ranges_at d slot f at.sound.faultless h at.entry in
    still_renamed d slot f (record f { name = name }) at.sound.faultless h at.entry (record { few = ranges.few; low = ranges.low; high = ranges.high }) (λ i less. refl)
    (nowhere (is_named d.kind (name_of d.kind (record f { name = name }))) d.entries none)

renamed_extent : (sectors : Sectors) (kind : Kind) (f : FileEntry) (name : List ℕ) → map (nat_le 128) name ≡ map (nat_le 128) f.name → extent_in sectors kind (record f { name = name }) ≡ extent_in sectors kind f
unfolding extent_in
renamed_extent sectors kind f name same = ap (λ (l : List Bool). record (extent_in sectors kind f) { attributes = l }) same

pub renamed_stage : (image : List ℕ) (d : Directory) (files : Drive) (job : Job) (slot : ℕ) (f file : FileEntry) (name : List ℕ) → Stands image d files → IsFileAt d slot f → slot < length d.entries
    → entry_in d slot ≡ File file → file.user ≡ job.user → plain name ≡ plain job.new_name → map (nat_le 128) name ≡ map (nat_le 128) f.name
    → stages (RenamesEntry (file_in file.user file.name) (name_of files.kind file).number (new_file_of_job job)) files
    ≡ exchanged (sectors_of image d.kind) files (entry_in d slot) (File (record f { name = name })) ∷ []
unfolding stages
renamed_stage image d files job slot f file name stands at h is user same marks =
    let sectors : Sectors = sectors_of image d.kind in
    let kind : files.kind ≡ d.kind = kind_of image d files stands in
    let g : FileEntry = record f { name = name } in
    let other : FileName = new_file_of_job job in
    let one : file ≡ f = file_same file f (entry_in d slot) is at.entry in
    let there : get files.extents (name_of files.kind f) ≡ Some (extent_in sectors files.kind f) =
    subst (λ k. get files.extents (name_of k f) ≡ Some (extent_in sectors k f)) (sym kind) (there_at image d files slot f stands h at.entry) in
    let owner : f.user ≡ job.user = ap (λ (q : FileEntry). q.user) (sym one) ∙ user in
    ap (λ (q : FileEntry). where_there (get files.extents (name_of files.kind q))
    (λ entry. with_extent (without_extent files (name_of files.kind q)) (record { user = other.user; name = other.name; number = (name_of files.kind q).number }) entry ∷ [])) one
    ∙ ap (λ o. where_there o (λ entry. with_extent (without_extent files (name_of files.kind f)) (record { user = other.user; name = other.name; number = (name_of files.kind f).number }) entry ∷ [])) there
    ∙ ap (λ (x : Drive). x ∷ []) (sym (ap (λ e. exchanged sectors files e (File g)) at.entry
    ∙ extent_renamed sectors files f g
    ∙ (λ i. with_extent (without_extent files (name_of files.kind f)) (record { user = owner i; name = same i; number = (name_of files.kind f).number }) (extent_in sectors files.kind g))
    ∙ ap (with_extent (without_extent files (name_of files.kind f)) (record { user = other.user; name = other.name; number = (name_of files.kind f).number })) (renamed_extent sectors files.kind f name marks)))

pub renamed_free : (image : List ℕ) (d : Directory) (files : Drive) (job : Job) (slot other : ℕ) (f file : FileEntry) (name : List ℕ) → Stands image d files → entry_in d slot ≡ File f
    → entry_in d slot ≡ File file → file.user ≡ job.user → plain name ≡ plain job.new_name → extent_slot d (record { user = f.user; name = plain name }) (extent_of f) ≡ Some other
    → get files.extents (record { user = job.user; name = plain job.new_name; number = (name_of files.kind file).number }) ≡ None → ⊥
renamed_free image d files job slot other f file name stands at is user same found none =
    let one : file ≡ f = file_same file f (entry_in d slot) is at in
    let owner : f.user ≡ job.user = ap (λ (q : FileEntry). q.user) (sym one) ∙ user in
    let kind : d.kind ≡ files.kind = sym (kind_of image d files stands) in
    let there = extent_found image d files (record { user = f.user; name = plain name }) (extent_of f) other stands found in
    true≢false (sym (ap is_some there.extent)
    ∙ (λ i. is_some (get files.extents (record { user = owner i; name = same i; number = entry_number (kind i) (extent_of f) })))
    ∙ ap (λ (q : FileEntry). is_some (get files.extents (record { user = job.user; name = plain job.new_name; number = (name_of files.kind q).number }))) (sym one) ∙ ap is_some none)

pub same_user : (d : Directory) (slot : ℕ) (f file : FileEntry) (user : ℕ) → entry_in d slot ≡ File f → entry_in d slot ≡ File file → file.user ≡ user → f.user ≡ user
same_user d slot f file user at is user_is = ap (λ (q : FileEntry). q.user) (file_same f file (entry_in d slot) at is) ∙ user_is

pub still_free : (d : Directory) (job : Job) (slot : ℕ) (f file : FileEntry) (name : List ℕ) → entry_in d slot ≡ File f → entry_in d slot ≡ File file → file.user ≡ job.user
    → plain name ≡ plain job.new_name → extent_slot d (new_file_of_job job) (extent_of file) ≡ None → extent_slot d (record { user = f.user; name = plain name }) (extent_of f) ≡ None
still_free d job slot f file name at is user same free =
    let one : file ≡ f = file_same file f (entry_in d slot) is at in
    let owner : f.user ≡ job.user = same_user d slot f file job.user at is user in
    (λ i. extent_slot d (record { user = owner i; name = same i }) (extent_of f)) ∙ ap (λ (q : FileEntry). extent_slot d (new_file_of_job job) (extent_of q)) (sym one) ∙ free

-- an XFCB
pub xfcb_owner : (d : Directory) (job : Job) (slot : ℕ) (x : XfcbEntry) → xfcb_slot d (file_of_job job) ≡ Some slot → entry_in d slot ≡ Xfcb x → x.user ≡ job.user
xfcb_owner d job slot x found is =
    let at = position-Some (is_xfcb job.user (plain job.name)) d.entries slot Free found in
    eqb-true x.user job.user ((and_parts (x.user == job.user) (bytes_eq (plain x.name) (plain job.name)) (ap (is_xfcb job.user (plain job.name)) (sym is) ∙ at.1)).0)

pub moved_clean : (d : Directory) (job : Job) (slot : ℕ) (x : XfcbEntry) → slot < length d.entries → x.user ≡ job.user → xfcb_slot d (new_file_of_job job) ≡ None
    → cause_of d.kind (others d.entries slot) (Xfcb (record x { name = plain job.new_name })) ≡ None
moved_clean d job slot x h user none =
    still_xfcb_added d slot (record x { name = plain job.new_name }) h
    ((λ i. list_any (is_xfcb (user i) (plain_twice job.new_name i)) d.entries) ∙ nowhere (is_xfcb job.user (plain job.new_name)) d.entries none)

pub moved_stage : (image : List ℕ) (d : Directory) (files : Drive) (job : Job) (slot : ℕ) (x : XfcbEntry) → Stands image d files → xfcb_slot d (file_of_job job) ≡ Some slot → entry_in d slot ≡ Xfcb x
    → x.user ≡ job.user
    → stages (RenamesXfcb (file_of_job job) (new_file_of_job job)) files ≡ exchanged (sectors_of image d.kind) files (entry_in d slot) (Xfcb (record x { name = plain job.new_name })) ∷ []
unfolding stages
moved_stage image d files job slot x stands found is user =
    let at = xfcb_found image d files (file_of_job job) slot stands found in
    let one : at.xfcb ≡ x = xfcb_same at.xfcb x (entry_in d slot) at.entry is in
    let y : XfcbEntry = record x { name = plain job.new_name } in
    ap (λ o. where_there o (λ xfcb. with_xfcb (without_xfcb files (file_of_job job)) (new_file_of_job job) xfcb ∷ [])) at.protection
    ∙ ap (λ (q : XfcbEntry). with_xfcb (without_xfcb files (file_of_job job)) (new_file_of_job job) (record { mode = q.mode; decode = q.decode; password = q.password; first = q.first; second = q.second }) ∷ []) one
    ∙ ap (λ (z : Drive). z ∷ []) (sym (ap (λ e. exchanged (sectors_of image d.kind) files e (Xfcb y)) is
    ∙ xfcb_renamed (sectors_of image d.kind) files x y
    ∙ ap (λ (f : FileName). with_xfcb (without_xfcb files f) (file_in x.user (plain job.new_name)) (record { mode = x.mode; decode = x.decode; password = x.password; first = x.first; second = x.second }))
    (ap (λ (q : XfcbEntry). file_in q.user q.name) (sym one) ∙ at.name_is)
    ∙ (λ i. with_xfcb (without_xfcb files (file_of_job job)) (record { user = user i; name = plain_twice job.new_name i }) (record { mode = x.mode; decode = x.decode; password = x.password; first = x.first; second = x.second }))))
  where
    xfcb_same : (a b : XfcbEntry) (e : Entry) → e ≡ Xfcb a → e ≡ Xfcb b → a ≡ b
    xfcb_same a b e one other = cc

-- the attributes of a file are those of its lowest entry
pub lowest_attributes : {K : Type 0} (d : Directory) (extents : List (K × PhysicalExtent)) (slot : ℕ) (f : FileEntry) → first_attributes extents ≡ attributes_at (entry_in d slot) → entry_in d slot ≡ File f
    → map (nat_le 128) f.name ≡ attributes_of extents
lowest_attributes d extents slot f first is = sym (ap (λ o. unwrap_or o (replicate 11 false)) (first ∙ ap attributes_at is))

pub no_attributes : {K : Type 0} (extents : List (K × PhysicalExtent)) → first_attributes extents ≡ None → replicate 11 false ≡ attributes_of extents
no_attributes extents none = sym (ap (λ o. unwrap_or o (replicate 11 false)) none)
