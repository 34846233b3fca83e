-- What a turn of some work on the drive of a place tells and leaves.
use Rattle.std.proofs.Common.{◌≡◌, ℕ, suc, ◌+◌, Bool, List, Option, Some, None, Result, ap, subst, ◌∙◌, arith}
use Rattle.std.specs.Prelude.{IfOk}
use Rattle.mpm_port.specs.Disks.{Disks, ToldImage}
use Rattle.mpm_cache.specs.declared.cache.SectorPlace.{SectorPlace}
use Rattle.mpm_mount.specs.Drives.{Drive}
use Rattle.mpm_mount.specs.Directories.{Directory}
use Rattle.mpm_jobs.specs.declared.jobs.Job.{Job}
use Rattle.mpm_files.specs.declared.turning.Progress.{Progress}
use Rattle.mpm_files.specs.declared.work.Work.{Work}
use Rattle.mpm_files.specs.Plans.{turns_of}
use Rattle.mpm_files.specs.Serving.{turns_in, IsServingJob}
use Rattle.mpm_bdos.specs.Turns.{HasLeftDisk, drive_and_kind, progress_after}

-- whether turns are left is known by the job that a work serves

pub told_by_job : {E : Type 0} (before : Drive) (job : Job) (j : ℕ) (work : Work) (result : Result Progress E) → IsServingJob before job j work
    → IfOk result (λ told. told ≡ progress_after (work.ended + 1) (turns_in work)) → IfOk result (λ told. told ≡ progress_after (suc j) (turns_of before job))
told_by_job before job j work result serving told =
    let ended : work.ended + 1 ≡ suc j = omega (arith, serving.ended) in
    let turns : turns_in work ≡ turns_of before job = omega (arith, serving.units) in
    subst (λ k. IfOk result (λ told. told ≡ progress_after k (turns_of before job))) ended
    (subst (λ n. IfOk result (λ told. told ≡ progress_after (work.ended + 1) n)) turns told)

pub labels_as : (old new : Directory) → new.drive ≡ old.drive → new.kind ≡ old.kind → drive_and_kind new ≡ drive_and_kind old
labels_as old new drive kind = ap (λ n. (n, new.kind)) drive ∙ ap (λ k. (old.drive, k)) kind

-- the names on which drives failed are as they were

pub left_names : {D : Type 0} (disks : D → Disks) (told : D → List ℕ → ToldImage) (failed : D → List (List ℕ)) (unsynced : D → ℕ → Bool) (place : Option Directory) (cached later : List (SectorPlace × List ℕ))
    (old now : D) → HasLeftDisk disks told failed unsynced place cached later old now → failed now ≡ failed old
left_names disks told failed unsynced None cached later old now left = absurd left
left_names disks told failed unsynced (Some d) cached later old now left = left.names
