-- What one directory entry in the place of another makes of a drive, sort by sort of change.
use Rattle.std.proofs.Common.{◌≡◌, ℕ, ◌+◌, ◌-◌, Bool, true, false, cond, Some, None, refl, sym, ap, ◌∙◌, arith}
use Rattle.std.specs.declared.cmp.Ordering.{Ordering}
use Rattle.std.specs.Ordering.{eq_by_cmp}
use Rattle.std.specs.Cmp.{IsTotalOrder}
use Rattle.std.specs.FinMap.{FinMap, IsAntisymmetric, insert, remove, get, get-insert, get-remove, same_map}
use Rattle.mpm_blocks.specs.Sectors.{Sectors}
use Rattle.mpm_dirent.specs.declared.kinds.Entry.TheVariants.{Free, File, Xfcb, Label}
use Rattle.mpm_dirent.specs.declared.kinds.FileEntry.{FileEntry}
use Rattle.mpm_dirent.specs.declared.kinds.XfcbEntry.{XfcbEntry}
use Rattle.mpm_dirent.specs.declared.kinds.LabelEntry.{LabelEntry}
use Rattle.mpm_dirent.specs.Names.{plain}
use Rattle.mpm_mount.specs.declared.slots.EntryName.{EntryName}
use Rattle.mpm_mount.specs.Drives.{FileName, entry_cmp, file_cmp, PhysicalExtent, Protection, DirectoryLabel, Drive, with_extent, without_extent, with_xfcb, without_xfcb}
use Rattle.mpm_mount.specs.Faults.{name_of}
use Rattle.mpm_mount.specs.Images.{extent_in, protection_of}
use Rattle.mpm_mount.specs.Changes.{exchanged}
use Rattle.mpm_mount.specs.Looking.{label_of}
use Rattle.mpm_mount.proofs.Orders.{entry_total, entry_same, file_total, file_same}

as_many : (n : ℕ) → n + 0 - 0 ≡ n
as_many n = omega arith

pub shadowed : {X : Type 0} (b : Bool) (x y z : X) → cond b x (cond b y z) ≡ cond b x z
shadowed true x y z = refl
shadowed false x y z = refl

-- a key that goes and comes again
pub again : {K X : Type 0} (R : K → K → Ordering) → IsTotalOrder R → IsAntisymmetric R → (m : FinMap R X) (key : K) (value : X)
    → insert (remove m key) key value ≡ insert m key value
again R o same m key value =
    same_map o same (insert (remove m key) key value) (insert m key value) (λ q.
    get-insert o (remove m key) key value q
    ∙ ap (λ v. cond (eq_by_cmp R q key) (Some value) v) (get-remove o m key q)
    ∙ shadowed (eq_by_cmp R q key) (Some value) None (get m q)
    ∙ sym (get-insert o m key value q))

-- an entry of a file comes, goes, has another name, or other contents
pub extent_added : (sectors : Sectors) (drive : Drive) (f : FileEntry) → exchanged sectors drive Free (File f) ≡ with_extent drive (name_of drive.kind f) (extent_in sectors drive.kind f)
unfolding exchanged
extent_added sectors drive f = ap (λ (k : ℕ). record (with_extent drive (name_of drive.kind f) (extent_in sectors drive.kind f)) { kept = k }) (as_many drive.kept)

pub extent_freed : (sectors : Sectors) (drive : Drive) (f : FileEntry) → exchanged sectors drive (File f) Free ≡ without_extent drive (name_of drive.kind f)
unfolding exchanged
extent_freed sectors drive f = ap (λ (k : ℕ). record (without_extent drive (name_of drive.kind f)) { kept = k }) (as_many drive.kept)

pub extent_renamed : (sectors : Sectors) (drive : Drive) (f g : FileEntry) → exchanged sectors drive (File f) (File g)
    ≡ with_extent (without_extent drive (name_of drive.kind f)) (name_of drive.kind g) (extent_in sectors drive.kind g)
unfolding exchanged
extent_renamed sectors drive f g =
    ap (λ (k : ℕ). record (with_extent (without_extent drive (name_of drive.kind f)) (name_of drive.kind g) (extent_in sectors drive.kind g)) { kept = k }) (as_many drive.kept)

pub extent_changed : (sectors : Sectors) (drive : Drive) (f g : FileEntry) → name_of drive.kind f ≡ name_of drive.kind g
    → exchanged sectors drive (File f) (File g) ≡ with_extent drive (name_of drive.kind g) (extent_in sectors drive.kind g)
extent_changed sectors drive f g same =
    extent_renamed sectors drive f g
    ∙ ap (λ (n : EntryName). with_extent (without_extent drive n) (name_of drive.kind g) (extent_in sectors drive.kind g)) same
    ∙ ap (λ (m : FinMap entry_cmp PhysicalExtent). record drive { extents = m }) (again entry_cmp entry_total entry_same drive.extents (name_of drive.kind g) (extent_in sectors drive.kind g))

-- an XFCB likewise
abbrev pub file_of : XfcbEntry → FileName
file_of x = record { user = x.user; name = plain x.name }

pub xfcb_added : (sectors : Sectors) (drive : Drive) (x : XfcbEntry) → exchanged sectors drive Free (Xfcb x) ≡ with_xfcb drive (record { user = x.user; name = plain x.name })
    (record { mode = x.mode; decode = x.decode; password = x.password; first = x.first; second = x.second })
unfolding exchanged
xfcb_added sectors drive x = ap (λ (k : ℕ). record (with_xfcb drive (file_of x) (protection_of x)) { kept = k }) (as_many drive.kept)

pub xfcb_freed : (sectors : Sectors) (drive : Drive) (x : XfcbEntry) → exchanged sectors drive (Xfcb x) Free ≡ without_xfcb drive (record { user = x.user; name = plain x.name })
unfolding exchanged
xfcb_freed sectors drive x = ap (λ (k : ℕ). record (without_xfcb drive (file_of x)) { kept = k }) (as_many drive.kept)

pub xfcb_renamed : (sectors : Sectors) (drive : Drive) (x y : XfcbEntry) → exchanged sectors drive (Xfcb x) (Xfcb y)
    ≡ with_xfcb (without_xfcb drive (record { user = x.user; name = plain x.name })) (record { user = y.user; name = plain y.name })
    (record { mode = y.mode; decode = y.decode; password = y.password; first = y.first; second = y.second })
unfolding exchanged
xfcb_renamed sectors drive x y = ap (λ (k : ℕ). record (with_xfcb (without_xfcb drive (file_of x)) (file_of y) (protection_of y)) { kept = k }) (as_many drive.kept)

pub xfcb_changed : (sectors : Sectors) (drive : Drive) (x y : XfcbEntry) (file : FileName) → record { user = x.user; name = plain x.name } ≡ file → record { user = y.user; name = plain y.name } ≡ file
    → exchanged sectors drive (Xfcb x) (Xfcb y) ≡ with_xfcb drive file (record { mode = y.mode; decode = y.decode; password = y.password; first = y.first; second = y.second })
xfcb_changed sectors drive x y file old new =
    xfcb_renamed sectors drive x y
    ∙ ap (λ (f : FileName). with_xfcb (without_xfcb drive f) (file_of y) (protection_of y)) old
    ∙ ap (λ (f : FileName). with_xfcb (without_xfcb drive file) f (protection_of y)) new
    ∙ ap (λ (m : FinMap file_cmp Protection). record drive { xfcbs = m }) (again file_cmp file_total file_same drive.xfcbs file (protection_of y))

-- a label comes, or another in its place
pub label_added : (sectors : Sectors) (drive : Drive) (l : LabelEntry) → exchanged sectors drive Free (Label l) ≡ record drive {
  label = Some (record {
    name = l.name;
    protection = record { mode = l.mode; decode = l.decode; password = l.password; first = l.first; second = l.second };
  });
}
unfolding exchanged
label_added sectors drive l = ap (λ (k : ℕ). record drive { label = Some (label_of l); kept = k }) (as_many drive.kept)

pub label_changed : (sectors : Sectors) (drive : Drive) (old l : LabelEntry) → exchanged sectors drive (Label old) (Label l) ≡ record drive {
  label = Some (record {
    name = l.name;
    protection = record { mode = l.mode; decode = l.decode; password = l.password; first = l.first; second = l.second };
  });
}
unfolding exchanged
label_changed sectors drive old l = ap (λ (k : ℕ). record drive { label = Some (label_of l); kept = k }) (as_many drive.kept)
