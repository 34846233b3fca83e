-- Where the drive of a call failed in one of its turns: what its image stands for, as a user sees it.
use Rattle.std.proofs.Common.{◌≡◌, ◌⊎◌, ℕ, true, List, Option, Some, IfSome, sym, subst}
use Rattle.mpm_port.specs.Disks.{Disks}
use Rattle.mpm_mount.specs.Drives.{FileName, Drive, visible_of}
use Rattle.mpm_jobs.specs.declared.jobs.Job.{Job}
use Rattle.mpm_sectors.specs.Writes.{zero_record}
use Rattle.mpm_files.specs.Plans.{needs_block, file_of_job, turns_of}
use Rattle.mpm_files.specs.Serving.{units_done}
use Rattle.mpm_files.specs.Turning.{Suits}
use Rattle.mpm_files.specs.Containment.{names, is_label_job, KeepsOtherFiles, IsContained, IsShown}
use Rattle.mpm_files.proofs.TurnDone.{failure_contained}
use Rattle.mpm_files.proofs.TurnsShown.{turns_shown}
use Rattle.mpm_refusals.specs.Filing.{Situation}
use Rattle.mpm_refusals.specs.Subjects.{drive_number, drive_at}
use Rattle.mpm_bdos.specs.Serving.{Kept, Serves}
use Rattle.mpm_bdos.specs.Turns.{StopsWithin}

-- files and XFCBs that the call doesn't name are as before it, and so is the label but in a call on the label; each record of each file is
-- seen as before the call, as after it, or as the zeros of a block that the call brings
pub record ShowsFailure (before : Drive) (job : Job) (files : Drive) : Type 0 where
  pub keeps : KeepsOtherFiles (names before job) (is_label_job job.kind) before files
  pub shown : (file : FileName) (n : ℕ) → IsShown before (units_done before job (turns_of before job)) files file n

-- a call that was served up to turn i, and whose drive failed in turn j
pub failure_shown : (images : ℕ → List ℕ) (kept : Kept) (disks : Disks) (s : Situation) (i j : ℕ) → Serves images kept s i
    → (stopped : StopsWithin disks s j) → ShowsFailure (drive_at s) stopped.job stopped.contained.within.files
failure_shown images kept disks s i j serves stopped =
    let before : Drive = drive_at s in
    let job : Job = stopped.job in
    let files : Drive = stopped.contained.within.files in
    let contained : IsContained before job j files = failure_contained disks (drive_number s) before job j stopped.contained in
    let suits : Suits before job = subst (λ (o : Option Job). IfSome o (Suits before)) stopped.its serves.suits in
    record {
      keeps = contained.keeps;
      shown = λ file n.
          subst (λ (bytes : Option (List ℕ)). (bytes ≡ visible_of before file n)
          ⊎ ((bytes ≡ visible_of (units_done before job (turns_of before job)) file n) ⊎ ((bytes ≡ Some zero_record) × (needs_block before file n ≡ true))))
          (sym (contained.records.visible file n))
          (turns_shown before job contained.turn file n suits (λ k entry is. (serves.sound.each (file_of_job job) k entry is).blocks));
    }
