-- What calls on the disk of a mounted drive leave: where there was none, one after the other, and by another result.
use Rattle.std.proofs.Common.{◌≡◌, ℕ, ◌+◌, ◌≤◌, Bool, true, false, List, Result, Ok, Err, refl, sym, ap, subst, ◌∙◌, arith}
use Rattle.std.specs.Prelude.{if◌then◌else◌, IsErr}
use Rattle.mpm_port.specs.Causes.{HasCause}
use Rattle.mpm_port.specs.declared.drives.Drives.{Ghosts}
use Rattle.mpm_cache.specs.declared.cache.SectorPlace.{SectorPlace}
use Rattle.mpm_cache.specs.Coherent.{IsCoherent}
use Rattle.mpm_sectors.specs.Disks.{IsReadyDisk, LeavesDisks}
use Rattle.mpm_sectors.proofs.LeavesLaws.{leaves_itself, leaves_over, ready_after}
use Rattle.mpm_dirent.specs.declared.kinds.Entry.{Entry}
use Rattle.mpm_sectors.specs.declared.disk.Disk.{Disk}
use Rattle.mpm_mount.specs.Directories.{Directory, with_entry}
use Rattle.mpm_files.specs.Standing.{SameDisk}
use Rattle.mpm_files.specs.Working.{UsesDisk}
use Rattle.mpm_files.proofs.Causing.{cause_none, cause_behind, cause_done, cause_failed}

-- nothing was done
pub works_not : {D A E : Type 0} (of : Ghosts D) (most : ℕ) (d : Directory) (cached : List (SectorPlace × List ℕ)) (drives : D) (steps : ℕ) (x : A) → IsCoherent cached (of.disks drives)
    → UsesDisk {E = E} of most d d cached cached drives drives steps steps (Ok x)
works_not of most d cached drives steps x coherent = record {
  disk = record { drive = refl; kind = refl };
  calls = omega arith;
  leaves = leaves_itself of.disks of.told of.failed_names of.unsynced d.drive cached drives coherent;
  cause = cause_none (of.faults drives) x;
}

-- more calls are allowed
pub works_within : {D A E : Type 0} (of : Ghosts D) (few most : ℕ) (d e : Directory) (cached new : List (SectorPlace × List ℕ)) (old now : D) (before after : ℕ) (result : Result A E) → few ≤ most
    → UsesDisk of few d e cached new old now before after result → UsesDisk of most d e cached new old now before after result
works_within of few most d e cached new old now before after result h works =
    let calls = works.calls in
    record { disk = works.disk; calls = omega (arith, h, calls); leaves = works.leaves; cause = works.cause }

-- the same result with another value
pub works_done : {D A B E : Type 0} (of : Ghosts D) (most : ℕ) (d e : Directory) (cached new : List (SectorPlace × List ℕ)) (old now : D) (before after : ℕ) (x : A) (y : B)
    → UsesDisk {E = E} of most d e cached new old now before after (Ok x) → UsesDisk {E = E} of most d e cached new old now before after (Ok y)
works_done of most d e cached new old now before after x y works =
    record { disk = works.disk; calls = works.calls; leaves = works.leaves; cause = cause_done x y (of.faults old) (of.faults now) works.cause }

pub works_failed : {D A B E : Type 0} (of : Ghosts D) (most : ℕ) (d e : Directory) (cached new : List (SectorPlace × List ℕ)) (old now : D) (before after : ℕ) (error : E)
    → UsesDisk {A = A} of most d e cached new old now before after (Err error) → UsesDisk {A = B} of most d e cached new old now before after (Err error)
works_failed of most d e cached new old now before after error works =
    record { disk = works.disk; calls = works.calls; leaves = works.leaves; cause = cause_failed error (of.faults old) (of.faults now) works.cause }

-- a failure that is passed on, and more calls are allowed
pub works_passed : {D A B E : Type 0} (of : Ghosts D) (few most : ℕ) (d e : Directory) (cached new : List (SectorPlace × List ℕ)) (old now : D) (before after : ℕ) (error : E) (result : Result B E) → few ≤ most → IsErr result
    → UsesDisk {A = A} of few d e cached new old now before after (Err error) → UsesDisk of most d e cached new old now before after result
works_passed of few most d e cached new old now before after error (Ok x) h is works = absurd (cc)
works_passed of few most d e cached new old now before after error (Err other) h is works =
    let calls = works.calls in
    record { disk = works.disk; calls = omega (arith, h, calls); leaves = works.leaves; cause = record { later = works.cause.later; stays = tt; failed = works.cause.failed } }

-- one call after another
pub works_then : {D A B E : Type 0} (of : Ghosts D) (one two most : ℕ) (d e f : Directory) (first second third : List (SectorPlace × List ℕ)) (a b c : D) (s t u : ℕ) (x : A) (result : Result B E) → one + two ≤ most
    → UsesDisk {E = E} of one d e first second a b s t (Ok x) → UsesDisk of two e f second third b c t u result → UsesDisk of most d f first third a c s u result
works_then of one two most d e f first second third a b c s t u x result h before works =
    let p = before.calls in
    let q = works.calls in
    let left = subst (λ drive. LeavesDisks of.disks of.told of.failed_names of.unsynced drive second third b c) before.disk.drive works.leaves in
    record {
      disk = record { drive = works.disk.drive ∙ before.disk.drive; kind = works.disk.kind ∙ before.disk.kind };
      calls = omega (arith, h, p, q);
      leaves = leaves_over of.disks of.told of.failed_names of.unsynced d.drive first second third a b c before.leaves left;
      cause = cause_behind (of.faults a) (of.faults b) (of.faults c) result before.cause.stays works.cause;
    }

-- a disk that was ready is ready for the next call
pub ready_behind : {D A E : Type 0} (of : Ghosts D) (most : ℕ) (d e : Directory) (cached new : List (SectorPlace × List ℕ)) (old now : D) (before after : ℕ) (result : Result A E)
    → IsReadyDisk (of.disks old) d.drive d.kind cached → UsesDisk of most d e cached new old now before after result → IsReadyDisk (of.disks now) e.drive e.kind new
ready_behind of most d e cached new old now before after result ready works =
    subst (λ drive. IsReadyDisk (of.disks now) drive e.kind new) (sym works.disk.drive)
    (subst (λ kind. IsReadyDisk (of.disks now) d.drive kind new) (sym works.disk.kind)
    (ready_after of.disks of.told of.failed_names of.unsynced d.drive d.kind cached new old now ready works.leaves))

-- by the disk of a directory, whose entry is put in another's place
pub works_as : {D A E : Type 0} (of : Ghosts D) (most : ℕ) (d e : Directory) (disk : Disk) (cached new : List (SectorPlace × List ℕ)) (old now : D) (before after : ℕ) (result : Result A E)
    → disk ≡ record { drive = d.drive; kind = d.kind } → SameDisk d e → after ≤ before + most → LeavesDisks of.disks of.told of.failed_names of.unsynced disk.drive cached new old now
    → HasCause (of.faults old) (of.faults now) result → UsesDisk of most d e cached new old now before after result
works_as of most d e disk cached new old now before after result is same calls leaves cause = record {
  disk = same;
  calls = calls;
  leaves = subst (λ (x : Disk). LeavesDisks of.disks of.told of.failed_names of.unsynced x.drive cached new old now) is leaves;
  cause = cause;
}

pub same_put : (d e : Directory) (slot : ℕ) (entry : Entry) → e ≡ with_entry d slot entry → SameDisk d e
same_put d e slot entry is = record { drive = ap (λ (x : Directory). x.drive) is; kind = ap (λ (x : Directory). x.kind) is }

-- a sector that may be cached is read
pub one_call : (b : Bool) (before now : ℕ) → now ≡ (if b then before else before + 1) → now ≤ before + 1
one_call true before now is = omega (arith, is)
one_call false before now is = omega (arith, is)
