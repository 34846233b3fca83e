-- What a check finds of a directory is what it says of its image.
use Rattle.std.proofs.Common.{◌≡◌, ℕ, ◌+◌, ◌≤◌, Vec, List, [], ◌∷◌, Result, Ok, Err, length, map, refl, sym, ap, ◌∙◌, arith}
use Rattle.std.specs.Prelude.{IfOk}
use Rattle.mpm_base.specs.declared.kind.Kind.{Kind}
use Rattle.mpm_blocks.specs.Geometries.{geometry_of}
use Rattle.mpm_blocks.specs.Sectors.{sectors_of}
use Rattle.mpm_dirent.specs.declared.kinds.Entry.{Entry}
use Rattle.mpm_mount.specs.declared.errors.ImageFault.{ImageFault}
use Rattle.mpm_mount.specs.Directories.{Directory}
use Rattle.mpm_mount.specs.Drives.{Drive}
use Rattle.mpm_mount.specs.Images.{entries_of, drive_of, unless, files_of}
use Rattle.mpm_mount.specs.Mounting.{drive_in}
use Rattle.mpm_mount.proofs.Mounts.{mounted_if}
use Rattle.mpm_mount.proofs.FreeRecords.{free_records_same}
use Rattle.mpm_fault_lines.specs.declared.fault.SlotFault.{SlotFault}
use Rattle.mpm_fault_lines.specs.Lines.{sound_line}
use Rattle.mpm_repair.specs.FaultLists.{ListsFaults, staying, fault_list, faults_of, slot_of, first_of}
use Rattle.mpm_repair.specs.Freeing.{freed}
use Rattle.mpm_repair.proofs.FreedImages.{files_by_list}
use Rattle.mpm_repair.proofs.FreedSlots.{few_slots}
use Rattle.mpm_repair.proofs.OwnList.{few_listed}
use Rattle.mpm_repair.proofs.Staying.{none_listed, freed_listed}
use Rattle.mpm_fsck.specs.declared.checking.Findings.{Findings}
use Rattle.mpm_fsck.specs.Endings.{said_of, status_of}
use Rattle.mpm_fsck.specs.Steps.{said_by, ended_by, FindsFaults, FindsNone, FindsOf}
use Rattle.mpm_fsck.specs.Parts.{ListsFew}

-- where nothing is listed all entries stay
pub all_stay_listed : (kind : Kind) (entries : List Entry) → fault_list kind entries ≡ [] → staying kind entries (length entries) ≡ entries
unfolding freed
all_stay_listed kind entries none = sym (freed_listed kind entries) ∙ ap (λ faults. freed (map slot_of faults) entries) none

-- by the list: an image that has none can be mounted, and one that has some has the first of them
said_same : (kind : Kind) (image : List ℕ) (faults : List SlotFault) → length image ≡ (geometry_of kind).bytes → faults_of image kind ≡ faults
    → said_by kind (entries_of (sectors_of image kind) kind) faults ≡ said_of (files_of image kind) faults
said_same kind image [] size are =
    let entries = entries_of (sectors_of image kind) kind in
    let d : Directory = record { drive = 0; kind = kind; entries = entries } in
    let mounted = mounted_if image kind 0 entries size refl (none_listed kind entries are) in
    ap (λ (n : ℕ). sound_line n) (free_records_same image d (drive_in image d) mounted.stands)
    ∙ ap (λ (files : Result Drive ImageFault). said_of files []) (sym mounted.files)
said_same kind image (fault ∷ faults) size are =
    let drive = drive_of (sectors_of image kind) kind (entries_of (sectors_of image kind) kind) in
    ap (λ (files : Result Drive ImageFault). said_of files (fault ∷ faults))
    (sym (files_by_list image kind size ∙ ap (λ list. unless (first_of list) drive) are))

ended_same : (kind : Kind) (image : List ℕ) (faults : List SlotFault) → length image ≡ (geometry_of kind).bytes → faults_of image kind ≡ faults
    → ended_by (length faults) ≡ status_of (files_of image kind) faults
ended_same kind image [] size are =
    let entries = entries_of (sectors_of image kind) kind in
    let mounted = mounted_if image kind 0 entries size refl (none_listed kind entries are) in
    ap (λ (files : Result Drive ImageFault). status_of files []) (sym mounted.files)
ended_same kind image (fault ∷ faults) size are =
    let drive = drive_of (sectors_of image kind) kind (entries_of (sectors_of image kind) kind) in
    ap (λ (files : Result Drive ImageFault). status_of files (fault ∷ faults))
    (sym (files_by_list image kind size ∙ ap (λ list. unless (first_of list) drive) are))

pub finds_image : (kind : Kind) (image : List ℕ) (entries : List Entry) (found : Findings) → length image ≡ (geometry_of kind).bytes → entries ≡ entries_of (sectors_of image kind) kind
    → FindsFaults kind entries found → FindsOf kind found image
finds_image kind image entries found size are finds = record {
  text = finds.text ∙ ap (λ (es : List Entry). said_by kind es (fault_list kind es)) are ∙ said_same kind image (faults_of image kind) size refl;
  ends = ap ended_by (finds.count ∙ ap (λ (es : List Entry). length (fault_list kind es)) are) ∙ ended_same kind image (faults_of image kind) size refl;
}

-- nothing is listed of a directory that is sound
pub no_items : {X : Type 0} (xs : List X) → length xs ≡ 0 → xs ≡ []
no_items [] none = refl
no_items (x ∷ xs) none = absurd (omega arith)

pub sound_finds : {E : Type 0} (kind : Kind) (old new : List Entry) (result : Result Findings E) → fault_list kind old ≡ [] → new ≡ old
    → IfOk result (FindsNone kind new) → IfOk result (FindsFaults kind old)
sound_finds kind old new (Ok found) none same finds = record {
  text = finds.text ∙ ap (λ (es : List Entry). said_by kind es []) same ∙ ap (said_by kind old) (sym none);
  count = finds.count ∙ ap (λ (faults : List SlotFault). length faults) (sym none);
}
sound_finds kind old new (Err error) none same finds = tt

-- a directory's list has no more items than the directory has slots
pub few_found : {E A : Type 0} (kind : Kind) (entries lent after : List Entry) (result : Result (Vec SlotFault A) E) → length entries ≡ (geometry_of kind).drm + 1 → lent ≡ entries
    → IfOk result (λ faults. ListsFaults kind lent after faults.items) → IfOk result (λ faults. length faults.items ≤ 512)
few_found kind entries lent after (Ok faults) full is lists =
    let few = few_listed kind entries in
    let small = few_slots kind in
    let same = ap (λ (xs : List SlotFault). length xs) (lists.list ∙ ap (fault_list kind) is) in
    omega (arith, few, small, same, full)
few_found kind entries lent after (Err error) full is lists = tt

pub lists_few : {E A : Type 0} (kind : Kind) (entries now : List Entry) (result : Result (Vec SlotFault A) E) → IfOk result (λ faults. ListsFaults kind entries now faults.items)
    → IfOk result (λ faults. length faults.items ≤ 512) → IfOk result (λ faults. ListsFew kind entries now faults.items)
lists_few kind entries now (Ok faults) lists few = record { lists = lists; few = few }
lists_few kind entries now (Err error) lists few = tt
