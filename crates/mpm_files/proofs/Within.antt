-- Each drive that a unit goes through is as it was but for what the unit names, and none of its records is seen half done.
use Rattle.std.proofs.Common.{◌≡◌, ◌⊎◌, inl, inr, ℕ, ◌/◌, ◌%◌, Bool, true, false, ◌||◌, List, [], ◌∷◌, ◌++◌, Option, Some, None, map, refl, sym, ap, subst}
use Rattle.std.specs.List.{AllByRecursion}
use Rattle.std.specs.Prelude.{if◌then◌else◌}
use Rattle.std.specs.FinMap.{get}
use Rattle.std.proofs.lemmas.List.{append-nil}
use Rattle.mpm_base.proofs.Choices.{either}
use Rattle.mpm_blocks.specs.Geometries.{block_records}
use Rattle.mpm_mount.specs.Drives.{FileName, PhysicalExtent, Protection, DirectoryLabel, Drive, entry_number, entry_name, block_place, with_record_in, with_extent, without_extent, with_xfcb, without_xfcb}
use Rattle.mpm_mount.specs.Files.{where_there, is_same_file}
use Rattle.mpm_files.specs.Units.{FileUnit, Idles, ReadsRecord, PassesRecord, AddsEntry, ClearsBlock, WritesRecord, RemovesEntry, SetsAttributes, RenamesEntry, PutsXfcb, RemovesXfcb, RenamesXfcb, PutsLabel, new_entry, is_raising, raised, holds_block, with_fresh_block, rewritten, written_extents, last_of, second_stamped, stamped, with_attributes, stages, applied}
use Rattle.mpm_files.specs.Containment.{KeepsOtherFiles, SameRecords, IsWithinUnit, unit_names, names_label}
use Rattle.mpm_files.proofs.Keeping.{keeps_itself, keeps_after, Of, entry_put, entry_taken, xfcb_put, xfcb_taken, first_of_both, second_of_both, last_too, all_both, all_so, last_append}
use Rattle.mpm_files.proofs.Seen.{seen_itself, seen_after, xfcb_unseen, xfcb_unseen_back, hidden_record}

-- a drive on the way to the last one, by what is kept
abbrev OnTheWay : FileName → Drive → Drive → Drive → Type 0
OnTheWay file before last now = Of file before now × (SameRecords before now ⊎ SameRecords last now)

abbrev AllOnTheWay : FileName → Drive → List Drive → Type 0
AllOnTheWay file before drives = AllByRecursion (OnTheWay file before (last_of before drives)) drives

-- one change of an entry, or two
one_way : (file : FileName) (before now : Drive) → Of file before now → AllOnTheWay file before (now ∷ [])
unfolding last_of
one_way file before now keeps = ((keeps, inr (seen_itself now)), tt)

rewriting : (drive : Drive) (file : FileName) (n : ℕ) (entry : PhysicalExtent) (bytes : List ℕ)
    → get drive.extents (entry_name drive.kind file (n / 128)) ≡ Some entry → holds_block drive.kind n entry ≡ true
    → (b : Bool) → is_raising n entry ≡ b
    → let there : PhysicalExtent = with_record_in entry (block_place drive.kind n) (n % block_records drive.kind) bytes in
    AllOnTheWay file drive (map (with_extent drive (entry_name drive.kind file (n / 128))) (there ∷ (if b then raised n there ∷ [] else [])))
unfolding last_of
rewriting drive file n entry bytes is held true raises =
    let there : PhysicalExtent = with_record_in entry (block_place drive.kind n) (n % block_records drive.kind) bytes in (
      (entry_put drive file (entry_number drive.kind (n / 128)) there, inl (hidden_record drive file n entry bytes is held raises)),
      ((entry_put drive file (entry_number drive.kind (n / 128)) (raised n there), inr (seen_itself _)), tt),
    )
rewriting drive file n entry bytes is held false raises =
    one_way file drive _ (entry_put drive file (entry_number drive.kind (n / 128)) (with_record_in entry (block_place drive.kind n) (n % block_records drive.kind) bytes))

writing_there : (drive : Drive) (file : FileName) (n : ℕ) (bytes : List ℕ) (o : Option PhysicalExtent) → get drive.extents (entry_name drive.kind file (n / 128)) ≡ o
    → AllOnTheWay file drive (where_there o (λ entry. map (with_extent drive (entry_name drive.kind file (n / 128))) (written_extents drive.kind n bytes entry)))
writing_there drive file n bytes None is = tt
writing_there drive file n bytes (Some entry) is =
    let name = entry_name drive.kind file (n / 128) in
    either (λ (there : List PhysicalExtent). AllOnTheWay file drive (map (with_extent drive name) there)) (holds_block drive.kind n entry)
    (rewritten n (with_record_in entry (block_place drive.kind n) (n % block_records drive.kind) bytes)) (raised n (with_fresh_block drive.kind n bytes entry) ∷ [])
    (λ held. rewriting drive file n entry bytes is held (is_raising n entry) refl)
    (λ free. one_way file drive _ (entry_put drive file (entry_number drive.kind (n / 128)) (raised n (with_fresh_block drive.kind n bytes entry))))

-- and a stamp
stamping : (file : FileName) (before : Drive) (drives : List Drive) (stamp : Option (List ℕ)) (o : Option Protection) → AllOnTheWay file before drives
    → get (last_of before drives).xfcbs file ≡ o → (moment : List ℕ)
    → AllOnTheWay file before (drives ++ where_there o (λ xfcb. with_xfcb (last_of before drives) file (second_stamped moment xfcb) ∷ []))
stamping file before drives stamp None way is moment = subst (AllOnTheWay file before) (sym (append-nil drives)) way
stamping file before drives stamp (Some xfcb) way is moment =
    let last : Drive = last_of before drives in
    let new : Drive = with_xfcb last file (second_stamped moment xfcb) in
    let P : Drive → Drive → Type 0 = λ final now. OnTheWay file before final now in
    let further : AllByRecursion (P new) drives = all_so (P last) (P new) drives
    (λ now on. (on.0, elim on.1 [ inl same ↦ inl same | inr same ↦ inr (seen_after new last now (xfcb_unseen_back last file (second_stamped moment xfcb)) same) ])) way in
    let kept : Of file before last = last_too (Of file before) drives before (keeps_itself (λ other. is_same_file other file) false before)
    (all_so (P last) (Of file before) drives (λ now on. on.0) way) in
    subst (λ final. AllByRecursion (P final) (drives ++ (new ∷ []))) (sym (last_append drives new before))
    (all_both (P new) drives (new ∷ []) further ((keeps_after (λ other. is_same_file other file) false before last new kept (xfcb_put last file (second_stamped moment xfcb)), inr (seen_itself new)), tt))

with_its_stamp : (file : FileName) (before : Drive) (drives : List Drive) (stamp : Option (List ℕ)) → AllOnTheWay file before drives
    → AllOnTheWay file before (drives ++ stamped second_stamped file stamp (last_of before drives))
with_its_stamp file before drives None way = subst (AllOnTheWay file before) (sym (append-nil drives)) way
with_its_stamp file before drives (Some moment) way = stamping file before drives (Some moment) (get (last_of before drives).xfcbs file) way refl moment

-- a unit whose only change is its last
one_stage : (unit : FileUnit) (before now : Drive) → KeepsOtherFiles (unit_names unit) (names_label unit) before now → applied before unit ≡ now
    → AllByRecursion (IsWithinUnit unit before) (now ∷ [])
one_stage unit before now keeps is = (record { keeps = keeps; records = inr (subst (λ (a : Drive). SameRecords a now) (sym is) (seen_itself now)) }, tt)

idling : (file : FileName) (moment : List ℕ) (before : Drive) (o : Option Protection)
    → AllByRecursion (IsWithinUnit (Idles file (Some moment)) before) (where_there o (λ xfcb. with_xfcb before file (record xfcb { first = moment }) ∷ []))
idling file moment before None = tt
idling file moment before (Some xfcb) =
    (record { keeps = xfcb_put before file (record xfcb { first = moment }); records = inl (xfcb_unseen before file (record xfcb { first = moment })) }, tt)

marking : (file : FileName) (number : ℕ) (attributes : List Bool) (before : Drive) (o : Option PhysicalExtent)
    → get before.extents (record { user = file.user; name = file.name; number = number }) ≡ o
    → AllByRecursion (IsWithinUnit (SetsAttributes file number attributes) before)
    (where_there o (λ entry. with_extent before (record { user = file.user; name = file.name; number = number }) (with_attributes attributes entry) ∷ []))
unfolding applied stages last_of
marking file number attributes before None is = tt
marking file number attributes before (Some entry) is =
    one_stage (SetsAttributes file number attributes) before _ (entry_put before file number (with_attributes attributes entry))
    (ap (λ o. last_of before (where_there o (λ e. with_extent before (record { user = file.user; name = file.name; number = number }) (with_attributes attributes e) ∷ []))) is)

moving : (file new : FileName) (number : ℕ) (before : Drive) (o : Option PhysicalExtent)
    → get before.extents (record { user = file.user; name = file.name; number = number }) ≡ o
    → AllByRecursion (IsWithinUnit (RenamesEntry file number new) before)
    (where_there o (λ entry. with_extent (without_extent before (record { user = file.user; name = file.name; number = number })) (record { user = new.user; name = new.name; number = number }) entry ∷ []))
unfolding applied stages last_of
moving file new number before None is = tt
moving file new number before (Some entry) is =
    let without : Drive = without_extent before (record { user = file.user; name = file.name; number = number }) in
    one_stage (RenamesEntry file number new) before _
    (keeps_after (λ other. is_same_file other file || is_same_file other new) false before without _
    (first_of_both file new before without (entry_taken before file number)) (second_of_both file new without _ (entry_put without new number entry)))
    (ap (λ o. last_of before (where_there o (λ e. with_extent without (record { user = new.user; name = new.name; number = number }) e ∷ []))) is)

moving_xfcb : (file new : FileName) (before : Drive) (o : Option Protection) → get before.xfcbs file ≡ o
    → AllByRecursion (IsWithinUnit (RenamesXfcb file new) before) (where_there o (λ xfcb. with_xfcb (without_xfcb before file) new xfcb ∷ []))
unfolding applied stages last_of
moving_xfcb file new before None is = tt
moving_xfcb file new before (Some xfcb) is =
    let without : Drive = without_xfcb before file in
    one_stage (RenamesXfcb file new) before _
    (keeps_after (λ other. is_same_file other file || is_same_file other new) false before without _
    (first_of_both file new before without (xfcb_taken before file)) (second_of_both file new without _ (xfcb_put without new xfcb)))
    (ap (λ o. last_of before (where_there o (λ x. with_xfcb without new x ∷ []))) is)

labelled : (label : DirectoryLabel) (before : Drive) → KeepsOtherFiles (unit_names (PutsLabel label)) true before (record before { label = Some label })
labelled label before = record { kind = refl; kept = refl; files = λ file no. record { extents = λ number. refl; xfcb = refl }; label = λ no. absurd (cc) }

written : (file : FileName) (n : ℕ) (bytes : List ℕ) (stamp : Option (List ℕ)) (before : Drive)
    → AllByRecursion (IsWithinUnit (WritesRecord file n bytes stamp) before) (stages (WritesRecord file n bytes stamp) before)
unfolding applied stages
written file n bytes stamp before =
    let drives : List Drive = where_there (get before.extents (entry_name before.kind file (n / 128)))
    (λ entry. map (with_extent before (entry_name before.kind file (n / 128))) (written_extents before.kind n bytes entry)) in
    let all : List Drive = drives ++ stamped second_stamped file stamp (last_of before drives) in
    all_so (OnTheWay file before (last_of before all)) (IsWithinUnit (WritesRecord file n bytes stamp) before) all (λ now on. record { keeps = on.0; records = on.1 })
    (with_its_stamp file before drives stamp (writing_there before file n bytes (get before.extents (entry_name before.kind file (n / 128))) refl))

-- each drive that a unit goes through
pub stages_within : (unit : FileUnit) (before : Drive) → AllByRecursion (IsWithinUnit unit before) (stages unit before)
unfolding stages applied last_of
stages_within (Idles file None) before = tt
stages_within (Idles file (Some moment)) before = idling file moment before (get before.xfcbs file)
stages_within (ReadsRecord file n) before = tt
stages_within (PassesRecord file n) before = tt
stages_within (AddsEntry file extent) before =
    one_stage (AddsEntry file extent) before _ (entry_put before file (entry_number before.kind extent) (new_entry before file extent)) refl
stages_within (ClearsBlock file n) before = tt
stages_within (WritesRecord file n bytes stamp) before = written file n bytes stamp before
stages_within (RemovesEntry file number) before = one_stage (RemovesEntry file number) before _ (entry_taken before file number) refl
stages_within (SetsAttributes file number attributes) before =
    marking file number attributes before (get before.extents (record { user = file.user; name = file.name; number = number })) refl
stages_within (RenamesEntry file number new) before =
    moving file new number before (get before.extents (record { user = file.user; name = file.name; number = number })) refl
stages_within (PutsXfcb file xfcb) before = one_stage (PutsXfcb file xfcb) before _ (xfcb_put before file xfcb) refl
stages_within (RemovesXfcb file) before = one_stage (RemovesXfcb file) before _ (xfcb_taken before file) refl
stages_within (RenamesXfcb file new) before = moving_xfcb file new before (get before.xfcbs file) refl
stages_within (PutsLabel label) before = one_stage (PutsLabel label) before _ (labelled label before) refl

-- what a unit makes of a drive
pub unit_keeps : (unit : FileUnit) (before : Drive) → KeepsOtherFiles (unit_names unit) (names_label unit) before (applied before unit)
unfolding applied
unit_keeps unit before =
    last_too (KeepsOtherFiles (unit_names unit) (names_label unit) before) (stages unit before) before (keeps_itself (unit_names unit) (names_label unit) before)
    (all_so (IsWithinUnit unit before) (KeepsOtherFiles (unit_names unit) (names_label unit) before) (stages unit before) (λ now within. within.keeps) (stages_within unit before))
