-- A job's turns: the first, one more, and what stands after any.
use Rattle.std.proofs.Common.{◌≡◌, ◌∙◌, ℕ, ◌+◌, ◌<◌, List, Option, Some, None, IfSome, Result, Ok, length, sym, ap, subst, arith}
use Rattle.std.specs.Option.{option_map}
use Rattle.mpm_base.specs.declared.kind.Kind.{Kind}
use Rattle.mpm_port.specs.declared.drives.Drives.{Ghosts}
use Rattle.mpm_port.specs.Disks.{Disks, size_of}
use Rattle.mpm_blocks.specs.Geometries.{geometry_of}
use Rattle.mpm_cache.specs.declared.cache.SectorPlace.{SectorPlace}
use Rattle.mpm_cache.specs.Coherent.{IsCoherent, HasNoAlias}
use Rattle.mpm_sectors.specs.Disks.{IsReadyDisk}
use Rattle.mpm_sectors.proofs.LeavesLaws.{ready_after}
use Rattle.mpm_mount.specs.Drives.{Drive}
use Rattle.mpm_mount.specs.Directories.{Directory, Stands}
use Rattle.mpm_mount.specs.Mounting.{IsMounted}
use Rattle.mpm_jobs.specs.declared.jobs.Job.{Job}
use Rattle.mpm_files.specs.declared.turning.Progress.{Progress}
use Rattle.mpm_files.specs.declared.work.Work.{Work}
use Rattle.mpm_files.specs.Serving.{IsInService, turns_in}
use Rattle.mpm_files.specs.Standing.{SameDisk}
use Rattle.mpm_files.specs.Turning.{Suits, JobInService}
use Rattle.mpm_files.specs.Working.{UsesDisk, MayTurn, TakesTurn}
use Rattle.mpm_turn_scenes.specs.Standing.{IsDiskOfFiles, IsInTurns}

-- a disk that was mounted stands for the files of its image
with_image : (disks : Disks) (d : Directory) (cached : List (SectorPlace × List ℕ)) (kind : Kind) (image : Option (List ℕ)) → IsReadyDisk disks d.drive d.kind cached → disks.image d.drive ≡ image
    → option_map length image ≡ Some (geometry_of kind).bytes → IfSome image (λ image. IsMounted image kind d) → IsDiskOfFiles disks d cached
with_image disks d cached kind None ready told size is = absurd (cc)
with_image disks d cached kind (Some image) ready told size is = record { ready = ready; image = image; told = told; files = _; stands = is.stands }

pub mounted : (disks : Disks) (d : Directory) (cached : List (SectorPlace × List ℕ)) (number : ℕ) (kind : Kind) → d.drive ≡ number → d.kind ≡ kind → size_of disks number ≡ Some (geometry_of kind).bytes
    → IfSome (disks.image number) (λ image. IsMounted image kind d) → IsCoherent cached disks → HasNoAlias cached disks number → IsDiskOfFiles disks d cached
mounted disks d cached number kind drive its size is coherent apart =
    let ready : IsReadyDisk disks d.drive d.kind cached = record {
      size = ap (size_of disks) drive ∙ size ∙ ap (λ (k : Kind). Some (geometry_of k).bytes) (sym its);
      coherent = coherent;
      apart = subst (HasNoAlias cached disks) (sym drive) apart;
    } in
    with_image disks d cached kind (disks.image number) ready (ap disks.image drive) size is

-- a job that suits the files for which a disk stands begins there
pub begins : (disks : Disks) (d : Directory) (cached : List (SectorPlace × List ℕ)) (job : Job) (work : Work) → (first : IsDiskOfFiles disks d cached) → Suits first.files job
    → ((image : List ℕ) (before : Drive) → Stands image d before → IsInService image d before job 0 work) → IsInTurns disks d cached work 0 (turns_in work)
begins disks d cached job work first suits begun =
    let service : IsInService first.image d first.files job 0 work = begun first.image first.files first.stands in
    record {
      ready = first.ready;
      before = first.files;
      job = job;
      suits = suits;
      service = record { image = first.image; told = first.told; service = service };
      all = omega (arith, service.serving.units);
    }

-- a turn of it is left
pub may_turn : (disks : Disks) (d : Directory) (cached : List (SectorPlace × List ℕ)) (work : Work) (ended turns : ℕ) → IsInTurns disks d cached work ended turns → ended < turns → MayTurn disks d cached work
may_turn disks d cached work ended turns so more = record {
  ready = so.ready;
  left = record { before = so.before; job = so.job; ended = ended; suits = so.suits; service = so.service; left = subst (λ n. ended < n) (sym so.all) more };
}

-- a disk is as ready after a call there as before
still_ready : {D A E : Type 0} (of : Ghosts D) (most : ℕ) (d e : Directory) (cached after : List (SectorPlace × List ℕ)) (old now : D) (before counted : ℕ) (result : Result A E)
    → IsReadyDisk (of.disks old) d.drive d.kind cached → UsesDisk of most d e cached after old now before counted result → IsReadyDisk (of.disks now) e.drive e.kind after
still_ready of most d e cached after old now before counted result ready did =
    subst (λ drive. IsReadyDisk (of.disks now) drive e.kind after) (sym did.disk.drive)
    (subst (λ (kind : Kind). IsReadyDisk (of.disks now) d.drive kind after) (sym did.disk.kind)
    (ready_after of.disks of.told of.failed_names of.unsynced d.drive d.kind cached after old now ready did.leaves))

pub one_more : {D E : Type 0} (of : Ghosts D) (d e : Directory) (work new : Work) (cached after : List (SectorPlace × List ℕ)) (old now : D) (before counted : ℕ) (progress : Progress) (ended turns : ℕ)
    → IsInTurns (of.disks old) d cached work ended turns → ended < turns → TakesTurn {E = E} of d e work new cached after old now before counted (Ok progress)
    → IsInTurns (of.disks now) e after new (ended + 1) turns
one_more of d e work new cached after old now before counted progress ended turns first more did = record {
  ready = still_ready of 20 d e cached after old now before counted (Ok progress) first.ready did.works;
  before = first.before;
  job = first.job;
  suits = first.suits;
  service = subst (λ n. JobInService (of.disks now) e first.before first.job n new) (omega arith)
      (did.ok first.before first.job ended first.suits first.service (subst (λ n. ended < n) (sym first.all) more));
  all = first.all;
}

-- with a job's turns the disk stands for some files
pub stands_on : (disks : Disks) (d : Directory) (cached : List (SectorPlace × List ℕ)) (work : Work) (ended turns : ℕ) → IsInTurns disks d cached work ended turns → IsDiskOfFiles disks d cached
stands_on disks d cached work ended turns so =
    record { ready = so.ready; image = so.service.image; told = so.service.told; files = _; stands = so.service.service.stands }

-- the same disk, through two changes of its directory
pub same_again : (d e f : Directory) → SameDisk d e → SameDisk e f → SameDisk d f
same_again d e f first next = record { drive = next.drive ∙ first.drive; kind = next.kind ∙ first.kind }
