-- An image that is opened, and then left as it is.
use Rattle.std.proofs.Common.{◌≡◌, ◌≢◌, ℕ, zero, suc, inl, inr, Bool, true, false, List, Option, Some, None, length, refl, sym, ap, subst, ◌∙◌, arith}
use Rattle.std.specs.Prelude.{⊤, IsSomeAnd, IfSome}
use Rattle.mpm_base.specs.declared.kind.Kind.{Kind}
use Rattle.mpm_blocks.specs.Geometries.{geometry_of}
use Rattle.mpm_blocks.specs.Sectors.{sectors_of}
use Rattle.mpm_dirent.specs.declared.kinds.Entry.{Entry}
use Rattle.mpm_mount.specs.Images.{entries_of}
use Rattle.mpm_port.specs.Causes.{Rose}
use Rattle.mpm_port.specs.Disks.{Disks, Brings, Attaches}
use Rattle.mpm_drives.specs.Mounted.{AsksNoWrite}
use Rattle.mpm_fsck.specs.Outside.{DrivesSeen, FailsNowhere, Attached, KeepsEveryImage}
use Rattle.mpm_fsck.specs.Endings.{Checked, IsLost}
use Rattle.mpm_fsck.specs.declared.checking.Findings.{Findings}
use Rattle.mpm_fsck.specs.Steps.{Untouched, Opened, FindsFaults, FindsOf}
use Rattle.mpm_fsck.proofs.Found.{finds_image}

-- no drive has unsynced writes that had none
asks_none : (old new : ℕ → Bool) → (new 0 ≡ true → old 0 ≡ true) → ((other : ℕ) → other ≢ 0 → new other ≡ old other) → AsksNoWrite old new
asks_none old new here beside zero asked = here asked
asks_none old new here beside (suc number) asked = sym (beside (suc number) (omega arith)) ∙ asked

asks_fresh : (old new : ℕ → Bool) → new 0 ≡ false → ((other : ℕ) → other ≢ 0 → new other ≡ old other) → AsksNoWrite old new
asks_fresh old new fresh beside = asks_none old new (λ asked. absurd (cc)) beside

-- an attach brought an image
pub attached_by : (name : List ℕ) (old new : DrivesSeen) (here : Option (List ℕ)) → new.disks.image 0 ≡ here → Attaches 0 name (old.known name) old.disks new.disks → new.known ≡ old.known
    → new.unsynced 0 ≡ false → ((other : ℕ) → other ≢ 0 → new.unsynced other ≡ old.unsynced other) → (image : List ℕ) × Attached name image old new
attached_by name old new None here attaches known fresh beside = absurd (subst (λ (o : Option (List ℕ)). IsSomeAnd o (Brings (old.known name))) here attaches.image)
attached_by name old new (Some image) here attaches known fresh beside =
    let brought = subst (λ (o : Option (List ℕ)). IsSomeAnd o (Brings (old.known name))) here attaches.image in
    let attached : Attached name image old new = record {
      brought = brought;
      here = here;
      attaches = attaches;
      known = known;
      asks = asks_fresh old.unsynced new.unsynced fresh beside;
      fresh = fresh;
      beside = beside;
    } in
    (image, attached)

-- an attach failed: drive A is as it was
pub keeps_attached : (name : List ℕ) (old new : DrivesSeen) → new.disks ≡ old.disks → new.known ≡ old.known → new.unsynced 0 ≡ old.unsynced 0
    → ((other : ℕ) → other ≢ 0 → new.unsynced other ≡ old.unsynced other) → KeepsEveryImage name old new
keeps_attached name old new disks known here beside = record {
  disks = inl disks;
  known = known;
  asks = asks_none old.unsynced new.unsynced (λ asked. sym here ∙ asked) beside;
  beside = beside;
}

-- the drives stay as they are after it
pub attached_still : (name image : List ℕ) (a b c : DrivesSeen) → Attached name image a b → Untouched b c → Attached name image a c
attached_still name image a b c attached same = record {
  brought = attached.brought;
  here = ap (λ (disks : Disks). disks.image 0) same.disks ∙ attached.here;
  attaches = subst (Attaches 0 name (a.known name) a.disks) (sym same.disks) attached.attaches;
  known = same.known ∙ attached.known;
  asks = subst (AsksNoWrite a.unsynced) (sym same.unsynced) attached.asks;
  fresh = ap (λ (unsynced : ℕ → Bool). unsynced 0) same.unsynced ∙ attached.fresh;
  beside = λ other apart. ap (λ (unsynced : ℕ → Bool). unsynced other) same.unsynced ∙ attached.beside other apart;
}

pub checked_still : (kind : Kind) (name : List ℕ) (a b c : DrivesSeen) (Is Then : List ℕ → Type 0) → Checked kind name a b Is → Untouched b c
    → ((image : List ℕ) → length image ≡ (geometry_of kind).bytes → b.disks.image 0 ≡ Some image → Is image → Then image) → Checked kind name a c Then
checked_still kind name a b c Is Then checked same more = record {
  image = checked.image;
  attached = attached_still name checked.image a b c checked.attached same;
  size = checked.size;
  is = more checked.image checked.size checked.attached.here checked.is;
}

pub keeps_images : (name image : List ℕ) (old new : DrivesSeen) → Attached name image old new → KeepsEveryImage name old new
keeps_images name image old new attached = record { disks = inr attached.attaches; known = attached.known; asks = attached.asks; beside = attached.beside }

-- no drive failed, in both
pub fails_nowhere : (a b c : DrivesSeen) → FailsNowhere a b → Untouched b c → c.faults ≡ b.faults → FailsNowhere a c
fails_nowhere a b c first same faults = record { faults = faults ∙ first.faults; failed = same.failed ∙ first.failed }

-- it failed in the second
pub lost_later : (name image : List ℕ) (a b c : DrivesSeen) → Attached name image a b → FailsNowhere a b → Untouched b c → Rose b.faults c.faults → IsLost name a c
lost_later name image a b c attached fails same rose = record {
  why = inr (same.failed ∙ fails.failed, subst (λ (n : ℕ). Rose n c.faults) fails.faults rose);
  keeps = keeps_images name image a c (attached_still name image a b c attached same);
}

-- the size that was asked for after an attach didn't come
lost_by : (name : List ℕ) (a b c : DrivesSeen) (found : (image : List ℕ) × Attached name image a b) → FailsNowhere a b → Untouched b c → Rose b.faults c.faults → IsLost name a c
lost_by name a b c found fails same rose = lost_later name found.0 a b c found.1 fails same rose

pub lost_sized : (name : List ℕ) (a b c : DrivesSeen) → Attaches 0 name (a.known name) a.disks b.disks → b.known ≡ a.known → b.unsynced 0 ≡ false
    → ((other : ℕ) → other ≢ 0 → b.unsynced other ≡ a.unsynced other) → FailsNowhere a b → Untouched b c → Rose b.faults c.faults → IsLost name a c
lost_sized name a b c attaches known fresh beside fails same rose = lost_by name a b c (attached_by name a b (b.disks.image 0) refl attaches known fresh beside) fails same rose

-- what is found of its directory
pub found_later : (kind : Kind) (name : List ℕ) (a b c : DrivesSeen) (entries : List Entry) (found : Findings) → Opened kind name a b (λ image. ⊤) → Untouched b c → c.faults ≡ b.faults
    → IfSome (b.disks.image 0) (λ image. entries ≡ entries_of (sectors_of image kind) kind) → FindsFaults kind entries found → Opened kind name a c (FindsOf kind found)
found_later kind name a b c entries found opened same faults read finds = record {
  checked = checked_still kind name a b c (λ image. ⊤) (FindsOf kind found) opened.checked same (λ image size here is.
      finds_image kind image entries found size (subst (λ (o : Option (List ℕ)). IfSome o (λ one. entries ≡ entries_of (sectors_of one kind) kind)) here read) finds);
  fails = fails_nowhere a b c opened.fails same faults;
}
