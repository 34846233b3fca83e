-- A turn of a job in service.
use Rattle.std.proofs.Common.{◌≡◌, ℕ, suc, ◌+◌, ◌≤◌, ◌<◌, Some, Ok, length, sym, ap, subst, ◌∙◌, arith}
use Rattle.std.specs.Prelude.{max, nat_lt, if◌then◌else◌}
use Rattle.mpm_port.specs.Disks.{Disks}
use Rattle.mpm_mount.specs.Drives.{Drive}
use Rattle.mpm_mount.specs.Images.{files_of}
use Rattle.mpm_mount.specs.Directories.{Directory, Stands}
use Rattle.mpm_jobs.specs.declared.jobs.Job.{Job}
use Rattle.mpm_files.specs.declared.work.Work.{Work}
use Rattle.mpm_files.specs.Units.{stages}
use Rattle.mpm_files.specs.Plans.{file_of_job, plan_of, turns_of, unit_at, needs_entry}
use Rattle.mpm_files.specs.Serving.{units_done, turns_in, IsServingJob}
use Rattle.mpm_files.specs.Standing.{StandsOn}
use Rattle.mpm_files.specs.Containment.{IsContained}
use Rattle.mpm_files.specs.Turning.{JobInService, HasUnitLeft, HasTurnLeft, Contained, one_ended}
use Rattle.mpm_mount.proofs.Mounts.{mounts}
use Rattle.mpm_mount.proofs.LookedUp.{kind_of}
use Rattle.mpm_files.proofs.Contained.{turn_contained}
use Rattle.mpm_files.proofs.StandingLaws.{among_all}
use Rattle.mpm_files.proofs.Served.{serves_idly, done_idly}

-- the turns of a job in service are counted by its units
pub in_time : (before : Drive) (job : Job) (j : ℕ) (work : Work) → IsServingJob before job j work → j < turns_of before job → work.ended < turns_in work
in_time before job j work serving h = omega (arith, h, serving.ended, serving.units)

-- it is counted, as the unit of the turn leaves what is counted alone

pub still_more : (old mid : Work) → mid.ended ≡ old.ended → mid.units ≡ old.units → old.ended < turns_in old → mid.ended < turns_in mid
still_more old mid ended units more =
    subst (λ k. k < turns_in mid) (sym ended) (subst (λ n. old.ended < max n 1) (sym units) more)

pub turn_ends : (now : Disks) (e : Directory) (before : Drive) (job : Job) (j : ℕ) (mid new : Work) → new ≡ one_ended mid → JobInService now e before job (suc j) (one_ended mid)
    → JobInService now e before job (suc j) new
turn_ends now e before job j mid new ends service = subst (JobInService now e before job (suc j)) (sym ends) service

pub told_same : {X : Type 0} (again done : X) (old mid : Work) → mid.ended ≡ old.ended → mid.units ≡ old.units
    → (if nat_lt (mid.ended + 1) (turns_in mid) then again else done) ≡ (if nat_lt (old.ended + 1) (turns_in old) then again else done)
told_same again done old mid ended units =
    ap (λ k. if nat_lt (k + 1) (turns_in mid) then again else done) ended ∙ ap (λ n. if nat_lt (old.ended + 1) (max n 1) then again else done) units

pub next_there : (before : Drive) (job : Job) (j : ℕ) (work : Work) → IsServingJob before job j work → work.ended < work.units → j < length (plan_of before job).units
next_there before job j work serving h = omega (arith, h, serving.ended, serving.units)

pub none_there : (before : Drive) (job : Job) (j : ℕ) (work : Work) → IsServingJob before job j work → work.units ≤ work.ended → length (plan_of before job).units ≤ j
none_there before job j work serving h = omega (arith, h, serving.ended, serving.units)

-- where a turn is left, and units are, one of these is
pub unit_left : (disks : Disks) (d : Directory) (work : Work) → HasTurnLeft disks d work → work.ended < work.units → HasUnitLeft disks d work
unit_left disks d work turn more = record {
  before = turn.before;
  job = turn.job;
  ended = turn.ended;
  suits = turn.suits;
  service = turn.service;
  left = next_there turn.before turn.job turn.ended work turn.service.service.serving more;
}

-- a job without units has one turn, in which nothing is done
pub idle_turn : (disks : Disks) (d : Directory) (before : Drive) (job : Job) (j : ℕ) (work : Work) → JobInService disks d before job j work → j < turns_of before job → work.units ≤ work.ended
    → JobInService disks d before job (suc j) (one_ended work)
idle_turn disks d before job j work service turn over =
    let serving = service.service.serving in
    let none = none_there before job j work serving over in
    record {
      image = service.image;
      told = service.told;
      service = record {
        stands = subst (Stands service.image d) (sym (done_idly before job j turn none)) service.service.stands;
        serving = serves_idly before job j work serving turn none;
        cleared = service.service.cleared;
        entered = λ some. ap (λ (drive : Drive). needs_entry drive (file_of_job work.job) (work.job.first + work.moved)) (done_idly before job j turn none) ∙ service.service.entered some;
      };
    }

-- the image of a drive stands for what the units of its job that were done have made of it
pub service_stands : (disks : Disks) (d : Directory) (before : Drive) (job : Job) (j : ℕ) (work : Work) → JobInService disks d before job j work → StandsOn disks d (units_done before job j)
service_stands disks d before job j work service = record { image = service.image; told = service.told; stands = service.service.stands }

-- where the device failed in the turn after j that have ended, the image stands for a drive that the job contains
pub failure_contained : (disks : Disks) (drive : ℕ) (before : Drive) (job : Job) (j : ℕ) (stopped : Contained disks drive before job j) → IsContained before job j stopped.within.files
failure_contained disks drive before job j stopped =
    among_all (IsContained before job j) (units_done before job j) (stages (unit_at before job j) (units_done before job j)) stopped.within.files
    (turn_contained before job j j (omega arith)) stopped.within.among

-- and that image mounts again, as that drive
pub failure_mounts : (disks : Disks) (drive : ℕ) (before : Drive) (job : Job) (j : ℕ) (stopped : Contained disks drive before job j)
    → (disks.image drive ≡ Some stopped.within.stands.image) × (files_of stopped.within.stands.image before.kind ≡ Ok stopped.within.files)
failure_mounts disks drive before job j stopped =
    let within = stopped.within in
    let kind : before.kind ≡ within.directory.kind =
    sym (failure_contained disks drive before job j stopped).keeps.kind ∙ kind_of within.stands.image within.directory within.files within.stands.stands in (
      ap disks.image (sym within.here) ∙ within.stands.told,
      ap (files_of within.stands.image) kind ∙ mounts within.stands.image within.directory within.files within.stands.stands,
    )
