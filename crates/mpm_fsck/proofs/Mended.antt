-- How a list that is applied ends, by the steps.
use Rattle.std.proofs.Common.{◌≡◌, ◌≢◌, ℕ, ◌+◌, ◌*◌, ◌≤◌, inl, inr, Bool, false, List, ◌++◌, Option, Some, Ok, Err, sym, ap, subst, ◌∙◌, arith}
use Rattle.std.specs.Prelude.{⊤}
use Rattle.mpm_base.specs.declared.kind.Kind.{Kind}
use Rattle.mpm_blocks.specs.Geometries.{geometry_of}
use Rattle.mpm_port.specs.Causes.{Rose}
use Rattle.mpm_port.specs.Disks.{ToldImage, KeepsTold}
use Rattle.mpm_mount.specs.Images.{files_of}
use Rattle.mpm_fault_lines.specs.Lists.{listed, different}
use Rattle.mpm_repair.specs.Freeing.{freed_image, FreesOn}
use Rattle.mpm_fsck.specs.declared.status.FsckStatus.{FsckStatus}
use Rattle.mpm_fsck.specs.declared.status.FsckStatus.TheVariants.{Done, Usage, Unsound, WrongSize, BadList, NotEnough, ReadFault, DiskFault, WriteFault, OutOfMemory, TooLong}
use Rattle.mpm_fsck.specs.Outside.{DrivesSeen, SeenOutside, FailsNowhere, Freed}
use Rattle.mpm_fsck.specs.Endings.{Mends, FreesPart, Applies, FailsDrives, FailsByEnding, slots_in, drive_without}
use Rattle.mpm_fsck.specs.Steps.{Unopened, Opened, ReadsSlots, Unlisted, FreesAll, Mending, MendsByList, IsSaid, slots_marked}
use Rattle.mpm_fsck.proofs.Left.{marked_in}
use Rattle.mpm_fsck.proofs.Opened.{attached_still, keeps_images}

-- an image that isn't opened: nothing else was done
pub unopened_applies : (missing : List ℕ → Type 0) (kind : Kind) (name list : List ℕ) (old new : SeenOutside) (status : FsckStatus) → Unopened kind name old.drives new.drives status
    → Applies missing kind name list old new status
unopened_applies missing kind name list old new Done un = absurd un
unopened_applies missing kind name list old new Usage un = un
unopened_applies missing kind name list old new (Unsound count) un = un
unopened_applies missing kind name list old new WrongSize un = un.size
unopened_applies missing kind name list old new (BadList line) un = absurd un
unopened_applies missing kind name list old new (NotEnough slot cause) un = absurd un
unopened_applies missing kind name list old new ReadFault un = absurd un
unopened_applies missing kind name list old new DiskFault un = inl un
unopened_applies missing kind name list old new WriteFault un = absurd un
unopened_applies missing kind name list old new OutOfMemory un = un.keeps
unopened_applies missing kind name list old new TooLong un = absurd un

-- its list isn't read
pub unlisted_applies : (missing : List ℕ → Type 0) (kind : Kind) (name list : List ℕ) (old new : SeenOutside) (status : FsckStatus) → Opened kind name old.drives new.drives (λ image. ⊤)
    → Unlisted (missing list) (old.contents list) kind list old.unread new.unread status → Applies missing kind name list old new status
unlisted_applies missing kind name list old new Done opened un = absurd un
unlisted_applies missing kind name list old new Usage opened un = un
unlisted_applies missing kind name list old new (Unsound count) opened un = un
unlisted_applies missing kind name list old new WrongSize opened un = absurd un
unlisted_applies missing kind name list old new (BadList line) opened un =
    record { image = opened.checked.image; attached = opened.checked.attached; size = opened.checked.size; is = un.0 }
unlisted_applies missing kind name list old new (NotEnough slot cause) opened un = absurd un
unlisted_applies missing kind name list old new ReadFault opened un =
    record { image = opened.checked.image; attached = opened.checked.attached; size = opened.checked.size; is = un }
unlisted_applies missing kind name list old new DiskFault opened un = absurd un
unlisted_applies missing kind name list old new WriteFault opened un = absurd un
unlisted_applies missing kind name list old new OutOfMemory opened un = keeps_images name opened.checked.image old.drives new.drives opened.checked.attached
unlisted_applies missing kind name list old new TooLong opened un =
    record { image = opened.checked.image; attached = opened.checked.attached; size = opened.checked.size; is = un.0 }

-- slots were freed of an opened image
frees_opened : (kind : Kind) (name slots : List ℕ) (old mid new : DrivesSeen) (opened : Opened kind name old mid (λ image. ⊤)) → FreesOn 0 kind slots mid.disks new.disks
    → KeepsTold (mid.disks.name_of 0) mid.known new.known → ((other : ℕ) → other ≢ 0 → new.unsynced other ≡ mid.unsynced other) → Freed name opened.checked.image kind slots old new
frees_opened kind name slots old mid new opened frees known beside = record {
  brought = opened.checked.attached.brought;
  here = frees.here opened.checked.image opened.checked.attached.here;
  between = mid.disks;
  attaches = opened.checked.attached.attaches;
  frees = frees;
  known = subst (λ (images : List ℕ → ToldImage). KeepsTold (Some name) images new.known) opened.checked.attached.known
      (subst (λ (o : Option (List ℕ)). KeepsTold o mid.known new.known) opened.checked.attached.attaches.here known);
  beside = λ other apart. beside other apart ∙ opened.checked.attached.beside other apart;
}

-- the marked slots are those of the list
marked_slots : (missing : Type 0) (contents : Option (List ℕ)) (kind : Kind) (old new : List (List ℕ)) (marks : List Bool) (reads : ReadsSlots missing contents kind old new marks) (count : ℕ)
    → count ≤ (geometry_of kind).drm + 1 → listed marks count ≡ different count reads.lines
marked_slots missing contents kind old new marks reads count within = ap (λ m. listed m count) reads.marks_are ∙ marked_in kind reads.lines count within

mends_all : (missing : List ℕ → Type 0) (kind : Kind) (name list : List ℕ) (old new : SeenOutside) (mid : DrivesSeen) (marks : List Bool) (Said : List ℕ → Type 0)
    (opened : Opened kind name old.drives mid (λ image. ⊤)) → ReadsSlots (missing list) (old.contents list) kind old.unread new.unread marks
    → FreesAll kind (slots_marked kind marks) opened.checked.image mid new.drives Said → Mends kind name (missing list) (old.contents list) old.drives new.drives Said
mends_all missing kind name list old new mid marks Said opened reads frees =
    let same : slots_marked kind marks ≡ slots_in kind reads.lines = marked_slots (missing list) (old.contents list) kind old.unread new.unread marks reads ((geometry_of kind).drm + 1) (omega arith) in
    let all = subst (λ slots. FreesAll kind slots opened.checked.image mid new.drives Said) same frees in
    record {
      image = opened.checked.image;
      size = opened.checked.size;
      lines = reads.lines;
      listed = reads.listed;
      freed = frees_opened kind name (slots_in kind reads.lines) old.drives mid new.drives opened all.frees all.known all.beside;
      stands = all.stands;
      synced = all.synced;
      is_said = all.is_said;
    }

pub mended_applies : (missing : List ℕ → Type 0) (kind : Kind) (name list : List ℕ) (old new : SeenOutside) (mid : DrivesSeen) (marks : List Bool) (status : FsckStatus)
    (opened : Opened kind name old.drives mid (λ image. ⊤)) → ReadsSlots (missing list) (old.contents list) kind old.unread new.unread marks
    → Mending kind marks opened.checked.image mid new.drives (IsSaid old.text new.text) status → Applies missing kind name list old new status
mended_applies missing kind name list old new mid marks Done opened reads mending =
    mends_all missing kind name list old new mid marks (λ text. new.text ≡ old.text ++ text) opened reads mending
mended_applies missing kind name list old new mid marks Usage opened reads mending = mending
mended_applies missing kind name list old new mid marks (Unsound count) opened reads mending = mending
mended_applies missing kind name list old new mid marks WrongSize opened reads mending = absurd mending
mended_applies missing kind name list old new mid marks (BadList line) opened reads mending = absurd mending
mended_applies missing kind name list old new mid marks (NotEnough slot cause) opened reads mending =
    let same : slots_marked kind marks ≡ slots_in kind reads.lines = marked_slots (missing list) (old.contents list) kind old.unread new.unread marks reads ((geometry_of kind).drm + 1) (omega arith) in
    record {
      image = opened.checked.image;
      attached = attached_still name opened.checked.image old.drives mid new.drives opened.checked.attached mending.same;
      size = opened.checked.size;
      is = record {
        lines = reads.lines;
        listed = reads.listed;
        fault_is = subst (λ slots. files_of (freed_image kind slots opened.checked.image) kind ≡ Err (record { cause = cause; place = slot })) same mending.why;
      };
    }
mended_applies missing kind name list old new mid marks ReadFault opened reads mending = absurd mending
mended_applies missing kind name list old new mid marks DiskFault opened reads (inl (same, rose)) =
    inr (record {
      failed = same.failed ∙ opened.fails.failed;
      rose = subst (λ (n : ℕ). Rose n new.drives.faults) opened.fails.faults rose;
      image = opened.checked.image;
      size = opened.checked.size;
      lines = reads.lines;
      listed = reads.listed;
      left = inl (attached_still name opened.checked.image old.drives mid new.drives opened.checked.attached same);
    })
mended_applies missing kind name list old new mid marks DiskFault opened reads (inr some) =
    let first = marked_slots (missing list) (old.contents list) kind old.unread new.unread marks reads (4 * some.frees.sectors) some.frees.within in
    let same : slots_marked kind marks ≡ slots_in kind reads.lines = marked_slots (missing list) (old.contents list) kind old.unread new.unread marks reads ((geometry_of kind).drm + 1) (omega arith) in
    let part : FreesPart kind name opened.checked.image reads.lines old.drives new.drives = record {
      enough = subst (λ slots. files_of (freed_image kind slots opened.checked.image) kind ≡ Ok (drive_without kind slots opened.checked.image)) same some.enough;
      sectors = some.frees.sectors;
      within = some.frees.within;
      freed = frees_opened kind name (different (4 * some.frees.sectors) reads.lines) old.drives mid new.drives opened
          (subst (λ slots. FreesOn 0 kind slots mid.disks new.drives.disks) first some.frees.frees) some.known some.beside;
    } in
    inr (record {
      failed = some.failed ∙ opened.fails.failed;
      rose = subst (λ (n : ℕ). Rose n new.drives.faults) opened.fails.faults some.rose;
      image = opened.checked.image;
      size = opened.checked.size;
      lines = reads.lines;
      listed = reads.listed;
      left = inr part;
    })
mended_applies missing kind name list old new mid marks WriteFault opened reads mending =
    mends_all missing kind name list old new mid marks (IsSaid old.text new.text false) opened reads mending
mended_applies missing kind name list old new mid marks OutOfMemory opened reads mending =
    keeps_images name opened.checked.image old.drives new.drives (attached_still name opened.checked.image old.drives mid new.drives opened.checked.attached mending.same)
mended_applies missing kind name list old new mid marks TooLong opened reads mending = absurd mending

-- a list that is read after an image was opened
pub listed_applies : (missing : List ℕ → Type 0) (kind : Kind) (name list : List ℕ) (old new : SeenOutside) (mid : DrivesSeen) (status : FsckStatus)
    (opened : Opened kind name old.drives mid (λ image. ⊤)) → MendsByList (missing list) kind list opened.checked.image (record old { drives = mid }) new status
    → Applies missing kind name list old new status
listed_applies missing kind name list old new mid status opened (inl refuses) =
    unlisted_applies missing kind name list old new status (subst (λ (drives : DrivesSeen). Opened kind name old.drives drives (λ image. ⊤)) (sym refuses.drives) opened) refuses.unlisted
listed_applies missing kind name list old new mid status opened (inr takes) =
    mended_applies missing kind name list old new mid takes.marks status opened takes.reads takes.mending

-- a list that is applied isn't told to be no request
pub applies_request : (missing : List ℕ → Type 0) (kind : Kind) (name list : List ℕ) (old new : SeenOutside) (status : FsckStatus) → Applies missing kind name list old new status → status ≢ Usage
applies_request missing kind name list old new status applies usage = subst (λ (s : FsckStatus). Applies missing kind name list old new s) usage applies

-- which device failed, where none did before
fails_both : (old mid new : DrivesSeen) → FailsNowhere old mid → FailsNowhere mid new → FailsNowhere old new
fails_both old mid new first more = record { faults = more.faults ∙ first.faults; failed = more.failed ∙ first.failed }

fails_drives : (old mid new : DrivesSeen) (status : FsckStatus) → FailsNowhere old mid → FailsDrives mid new status → FailsDrives old new status
fails_drives old mid new Done first more = fails_both old mid new first more
fails_drives old mid new Usage first more = fails_both old mid new first more
fails_drives old mid new (Unsound count) first more = fails_both old mid new first more
fails_drives old mid new WrongSize first more = fails_both old mid new first more
fails_drives old mid new (BadList line) first more = fails_both old mid new first more
fails_drives old mid new (NotEnough slot cause) first more = fails_both old mid new first more
fails_drives old mid new ReadFault first more = fails_both old mid new first more
fails_drives old mid new DiskFault first more = tt
fails_drives old mid new WriteFault first more = fails_both old mid new first more
fails_drives old mid new OutOfMemory first more = fails_both old mid new first more
fails_drives old mid new TooLong first more = fails_both old mid new first more

pub fails_listed : (old new : SeenOutside) (mid : DrivesSeen) (status : FsckStatus) → FailsNowhere old.drives mid → FailsByEnding (record old { drives = mid }) new status → FailsByEnding old new status
fails_listed old new mid status first more = record {
  files = more.files;
  drives = fails_drives old.drives mid new.drives status first more.drives;
  output = more.output;
}
