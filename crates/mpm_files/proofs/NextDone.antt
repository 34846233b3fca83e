-- A unit that was done is a turn of its job.
use Rattle.std.proofs.Common.{◌≡◌, ℕ, suc, ◌+◌, ◌≤◌, ◌<◌, Bool, false, List, [], ◌∷◌, Option, Some, None, Result, Ok, Err, length, sym, ap, subst, ◌∙◌, arith}
use Rattle.std.proofs.lemmas.List.Quantifiers.{position-Some}
use Rattle.std.specs.Prelude.{is_some, position, OnErr, IfSome}
use Rattle.std.proofs.lemmas.Bool.{true≢false}
use Rattle.std.proofs.lemmas.Result.{on_ok_weaker}
use Rattle.mpm_port.specs.Disks.{Disks}
use Rattle.mpm_blocks.specs.Sectors.{sectors_of}
use Rattle.mpm_dirent.specs.declared.kinds.Entry.{Entry}
use Rattle.mpm_blocks.specs.Geometries.{geometry_of}
use Rattle.mpm_mount.specs.declared.searching.Found.{Found}
use Rattle.mpm_mount.specs.Drives.{Drive}
use Rattle.mpm_mount.specs.Changes.{exchanged}
use Rattle.mpm_mount.specs.Searching.{search_of, IsNext}
use Rattle.mpm_mount.specs.Directories.{Directory, Stands, entry_in}
use Rattle.mpm_jobs.specs.declared.jobs.Job.{Job}
use Rattle.mpm_files.specs.declared.work.Work.{Work}
use Rattle.mpm_files.specs.Units.{FileUnit, last_of, stages, applied}
use Rattle.mpm_files.specs.Plans.{file_of_job, needs_entry, plan_of, unit_at}
use Rattle.mpm_files.specs.Serving.{units_done, IsCleared, IsServingJob, IsInService}
use Rattle.mpm_files.specs.Standing.{StandsOn, StandsAmong, StandsWithinUnit, GoesThrough, DoesUnit, StandsCleared}
use Rattle.mpm_files.specs.Turning.{Suits, JobInService, Contained, one_ended, DoesNext}
use Rattle.mpm_files.proofs.TurnLaws.{one_turn}

pub on_err : {A E P Q : Type 0} (result : Result A E) → (P → Q) → OnErr result P → OnErr result Q
on_err (Ok x) f p = tt
on_err (Err e) f p = f p

-- a unit is next, and the work after it serves the job
pub record IsDone (before : Drive) (job : Job) (j : ℕ) (new : Work) (unit : FileUnit) : Type 0 where
  pub unit_is : unit_at before job j ≡ unit
  pub serving : IsServingJob before job (suc j) (one_ended new)

-- what a change went through are the unit's stages
pub goes_as : {A E : Type 0} (disks : Disks) (drive : ℕ) (now : Directory) (files : Drive) (later : List Drive) (unit : FileUnit) (result : Result A E)
    → GoesThrough disks drive now files later result → stages unit files ≡ later → DoesUnit disks drive now files unit result
unfolding applied
goes_as disks drive now files later unit result goes is = record {
  ok = on_ok_weaker result (subst (λ l. StandsOn disks now (last_of files l)) (sym is)) goes.ok;
  err = on_err result (subst (StandsAmong disks drive files) (sym is)) goes.err;
}

in_service : (now : Disks) (e : Directory) (before : Drive) (job : Job) (j : ℕ) (new : Work) (unit : FileUnit) → IsDone before job j new unit → new.cleared ≡ None
    → StandsOn now e (applied (units_done before job j) unit) → JobInService now e before job (suc j) (one_ended new)
in_service now e before job j new unit done none on = record {
  image = on.image;
  told = on.told;
  service = record {
    stands = subst (Stands on.image e) (ap (applied (units_done before job j)) (sym done.unit_is) ∙ sym (one_turn before job j)) on.stands;
    serving = done.serving;
    cleared = subst (λ c. IfSome c (IsCleared (sectors_of on.image e.kind) e)) (sym none) tt;
    entered = λ some. absurd (true≢false (sym some ∙ ap is_some none));
  };
}

contained : (now : Disks) (drive : ℕ) (before : Drive) (job : Job) (j : ℕ) (unit : FileUnit) → unit_at before job j ≡ unit
    → StandsWithinUnit now drive (units_done before job j) unit → Contained now drive before job j
contained now drive before job j unit is within = record { within = subst (StandsWithinUnit now drive (units_done before job j)) (sym is) within }

-- a device failed within a unit that was next
pub fails_next : {A E : Type 0} (disks now : Disks) (d e : Directory) (old new : Work) (error : E)
    → ((image : List ℕ) (before : Drive) (job : Job) (j : ℕ) → disks.image d.drive ≡ Some image → Suits before job → IsInService image d before job j old
    → j < length (plan_of before job).units → (unit : FileUnit) × ((unit_at before job j ≡ unit) × StandsWithinUnit now d.drive (units_done before job j) unit))
    → DoesNext {A = A} disks now d e old new (Err error)
fails_next disks now d e old new error by = record {
  ok = λ before job j suits service h. tt;
  err = λ before job j suits service h.
      let next = by service.image before job j service.told suits service.service h in
      contained now d.drive before job j next.0 next.1.0 next.1.1;
}

-- a block was cleared: the drive is as before, and the record that is next has its directory entry
pub record HasCleared (now : Disks) (d : Directory) (before : Drive) (job : Job) (j : ℕ) (new : Work) : Type 0 where
  pub unit : FileUnit
  pub done : IsDone before job j new unit
  pub same : applied (units_done before job j) unit ≡ units_done before job j
  pub stands : StandsCleared now d (units_done before job j) new.cleared
  pub entered : needs_entry (units_done before job j) (file_of_job new.job) (new.job.first + new.moved) ≡ false

still_in_service : (now : Disks) (d : Directory) (before : Drive) (job : Job) (j : ℕ) (new : Work) → HasCleared now d before job j new
    → JobInService now d before job (suc j) (one_ended new)
still_in_service now d before job j new has =
    let same : units_done before job (suc j) ≡ units_done before job j = one_turn before job j ∙ ap (applied (units_done before job j)) has.done.unit_is ∙ has.same in
    record {
      image = has.stands.image;
      told = has.stands.told;
      service = record {
        stands = subst (Stands has.stands.image d) (sym same) has.stands.stands;
        serving = has.done.serving;
        cleared = has.stands.cleared_is;
        entered = λ some. ap (λ (drive : Drive). needs_entry drive (file_of_job new.job) (new.job.first + new.moved)) same ∙ has.entered;
      };
    }

pub clears_next : {A E : Type 0} (disks now : Disks) (d : Directory) (old new : Work) (x : A)
    → ((image : List ℕ) (before : Drive) (job : Job) (j : ℕ) → disks.image d.drive ≡ Some image → Suits before job → IsInService image d before job j old
    → j < length (plan_of before job).units → HasCleared now d before job j new)
    → DoesNext {E = E} disks now d d old new (Ok x)
clears_next disks now d old new x by = record {
  ok = λ before job j suits service h. still_in_service now d before job j new (by service.image before job j service.told suits service.service h);
  err = λ before job j suits service h. tt;
}

-- what is done of a job in service
abbrev pub Done : {A E : Type 0} → Disks → Directory → Directory → Work → Work → Drive → Job → ℕ → Result A E → Type 0
Done now d e old new before job j result = (unit : FileUnit) × (IsDone before job j new unit × DoesUnit now d.drive e (units_done before job j) unit result)

pub does_next : {A E : Type 0} (disks now : Disks) (d e : Directory) (old new : Work) (result : Result A E) → new.cleared ≡ None
    → ((image : List ℕ) (before : Drive) (job : Job) (j : ℕ) → disks.image d.drive ≡ Some image → Suits before job → IsInService image d before job j old
    → j < length (plan_of before job).units → Done now d e old new before job j result)
    → DoesNext disks now d e old new result
does_next disks now d e old new result none by = record {
  ok = λ before job j suits service h.
      let done = by service.image before job j service.told suits service.service h in
      on_ok_weaker result (in_service now e before job j new done.0 done.1.0 none) done.1.1.ok;
  err = λ before job j suits service h.
      let done = by service.image before job j service.told suits service.service h in
      on_err result (contained now d.drive before job j done.0 done.1.0.unit_is) done.1.1.err;
}

-- by one entry in the place of another
pub put_does : {A E : Type 0} (disks now : Disks) (d e : Directory) (old new : Work) (slot : ℕ) (entry : Entry) (result : Result A E) → new.cleared ≡ None
    → ((image : List ℕ) (files : Drive) → disks.image d.drive ≡ Some image → Stands image d files
    → GoesThrough now d.drive e files (exchanged (sectors_of image d.kind) files (entry_in d slot) entry ∷ []) result)
    → ((image : List ℕ) (before : Drive) (job : Job) (j : ℕ) → Suits before job → Stands image d (units_done before job j) → IsServingJob before job j old → j < length (plan_of before job).units
    → (unit : FileUnit) × (IsDone before job j new unit × (stages unit (units_done before job j) ≡ exchanged (sectors_of image d.kind) (units_done before job j) (entry_in d slot) entry ∷ [])))
    → DoesNext disks now d e old new result
put_does disks now d e old new slot entry result none puts by = does_next disks now d e old new result none (λ image before job j told suits service h.
    let next = by image before job j suits service.stands service.serving h in
    (next.0, (next.1.0, goes_as now d.drive e (units_done before job j) _ next.0 result (puts image (units_done before job j) told service.stands) next.1.1)))

-- what was found is in a slot
pub found_within : (d : Directory) (user : ℕ) (pattern : List ℕ) (last : Option Found) (found : Found) (o : Option Found) → length d.entries ≡ (geometry_of d.kind).drm + 1 → o ≡ Some found
    → IsNext d.kind (search_of d.kind user pattern last) d.entries o
    → found.slot ≤ (geometry_of d.kind).drm
found_within d user pattern last found o full is next =
    let least : IsNext d.kind (search_of d.kind user pattern last) d.entries (Some found) = subst (IsNext d.kind (search_of d.kind user pattern last) d.entries) is next in
    omega (arith, least.within, full)

pub place_within : {X : Type 0} (p : X → Bool) (xs : List X) (slot last : ℕ) → length xs ≡ last + 1 → position p xs ≡ Some slot → slot ≤ last
place_within p [] slot last full found = absurd (omega arith)
place_within p (x ∷ xs) slot last full found = let at = position-Some p (x ∷ xs) slot x found in omega (arith, at.0, full)
