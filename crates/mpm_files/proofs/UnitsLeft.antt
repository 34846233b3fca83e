-- Where a unit of a job in service is left, the directory has what the parts of the unit ask.
use Rattle.std.proofs.Common.{◌≡◌, ◌≢◌, ℕ, ◌+◌, ◌/◌, ◌<◌, ◌≤◌, true, List, Option, Some, None, length, refl, sym, ap, subst, ◌∙◌, arith}
use Rattle.std.specs.Prelude.{IsSome}
use Rattle.std.proofs.lemmas.Bool.{not-true}
use Rattle.mpm_base.proofs.Options.{none_there}
use Rattle.mpm_port.specs.Disks.{Disks}
use Rattle.mpm_blocks.specs.Geometries.{geometry_of}
use Rattle.mpm_cache.specs.declared.cache.SectorPlace.{SectorPlace}
use Rattle.mpm_dirent.specs.declared.limits.TheConstants.{LAST_NAMED}
use Rattle.mpm_sectors.specs.Disks.{IsReadyDisk}
use Rattle.mpm_mount.specs.declared.searching.Found.{Found}
use Rattle.mpm_mount.specs.Drives.{Drive}
use Rattle.mpm_mount.specs.Faults.{extent_of}
use Rattle.mpm_mount.specs.Directories.{Directory, extent_slot, xfcb_slot, free_slot}
use Rattle.mpm_mount.specs.Searching.{search_of, IsLeast, IsNext}
use Rattle.mpm_mount.proofs.FreeEntries.{no_free_slot}
use Rattle.mpm_mount.proofs.LookedUp.{xfcb_missing}
use Rattle.mpm_mount.proofs.ReadErrors.{read_error_same}
use Rattle.mpm_jobs.specs.declared.jobs.JobKind.TheVariants.{Read, Write, TestWrite, Make, Delete, Rename, Attributes, Label, Xfcb}
use Rattle.mpm_jobs.specs.declared.jobs.Job.{Job}
use Rattle.mpm_files.specs.declared.moving.Step.TheVariants.{Entry, Block, Record}
use Rattle.mpm_files.specs.declared.work.Work.{Work}
use Rattle.mpm_files.specs.Plans.{file_of_job, new_file_of_job}
use Rattle.mpm_files.specs.Counting.{lacks_block}
use Rattle.mpm_files.specs.Serving.{units_done, IsServingJob}
use Rattle.mpm_files.specs.Stepping.{record_next, step_of}
use Rattle.mpm_files.specs.Turning.{Suits, HasUnitLeft, last_of_job, xfcb_due}
use Rattle.mpm_files.specs.DiskParts.{MayAddEntry, MayPutXfcb, MayPutLabel, MayRenameEntry, MayRenameXfcb, MayMoveRecord, MayFillBlock, MayClearNext}
use Rattle.mpm_files.proofs.DeleteTurns.{deletion_goes_on}
use Rattle.mpm_files.proofs.FixedTurns.{label_room, xfcb_room, xfcb_made}
use Rattle.mpm_files.proofs.MakeTurns.{made_entry_fits, made_xfcb_fits}
use Rattle.mpm_files.proofs.Placing.{xfcb_has_room, label_has_room, entry_not_there, renamed_free}
use Rattle.mpm_files.proofs.ReadTurns as reading
use Rattle.mpm_files.proofs.ReadTurns.{read_now}
use Rattle.mpm_files.proofs.RecordReads.{is_readable}
use Rattle.mpm_files.proofs.RenameTurns.{may_rename, entry_renamed, no_xfcb_left}
use Rattle.mpm_files.proofs.SetTurns.{setting_goes_on}
use Rattle.mpm_files.proofs.TestTurns.{IsFew, tests_few, record_held}
use Rattle.mpm_files.proofs.WriteTurns.{number_small, extent_small, few_moved, entry_missing, entry_written, entry_room, entry_there, step_entry, fresh_ready, block_to_clear}

-- something is there where nothing can't be; nothing where something can't be
some_by : {A : Type 0} (o : Option A) → (o ≡ None → ⊥) → IsSome o
some_by None never = absurd (never refl)
some_by (Some x) never = refl

none_by : {A : Type 0} (o : Option A) → ((x : A) → o ≡ Some x → ⊥) → o ≡ None
none_by None never = refl
none_by (Some x) never = absurd (never x refl)

-- the user of a job in service is one of 16
user_small : (before : Drive) (job : Job) (j : ℕ) (work : Work) → IsServingJob before job j work → Suits before job → work.job.user < 16
user_small before job j work serving suits = subst (λ (q : Job). q.user < 16) (sym serving.job_is) suits.user

-- a record that is read
pub read_small : (disks : Disks) (d : Directory) (work : Work) → HasUnitLeft disks d work → work.job.kind ≡ Read → read_now work ≤ LAST_NAMED
read_small disks d work left kind = reading.read_small left.before left.job left.ended work left.service.service.serving kind left.left left.suits

pub few_read : (disks : Disks) (d : Directory) (work : Work) → HasUnitLeft disks d work → work.job.kind ≡ Read → work.moved < 16
few_read disks d work left kind = reading.few_read left.before left.job left.ended work left.service.service.serving kind left.left left.suits

pub may_read : (disks : Disks) (d : Directory) (cached : List (SectorPlace × List ℕ)) (work : Work) → IsReadyDisk disks d.drive d.kind cached → HasUnitLeft disks d work → work.job.kind ≡ Read
    → MayMoveRecord disks d cached (file_of_job work.job) (read_now work)
may_read disks d cached work ready left kind =
    let files : Drive = units_done left.before left.job left.ended in
    let service = left.service.service in
    record {
      ready = ready;
      number = read_small disks d work left kind;
      held = (is_readable left.service.image d files (file_of_job work.job) (read_now work) service.stands
          (sym (read_error_same left.service.image d files (file_of_job work.job) (read_now work) service.stands)
          ∙ reading.record_there left.before left.job left.ended work service.serving kind left.left)).1;
    }

-- a record that is tested
pub few_tested : (disks : Disks) (d : Directory) (work : Work) → HasUnitLeft disks d work → work.job.kind ≡ TestWrite → IsFew work
few_tested disks d work left kind = tests_few left.before left.job left.ended work left.service.service.serving kind left.suits left.left

pub may_test : (disks : Disks) (d : Directory) (cached : List (SectorPlace × List ℕ)) (work : Work) → IsReadyDisk disks d.drive d.kind cached → HasUnitLeft disks d work
    → work.job.kind ≡ TestWrite → MayMoveRecord disks d cached (file_of_job work.job) (read_now work)
may_test disks d cached work ready left kind = record {
  ready = ready;
  number = (few_tested disks d work left kind).number;
  held = record_held left.service.image d left.before left.job left.ended work left.service.service.stands left.service.service.serving kind left.left;
}

-- a record that is written
pub next_number : (work : Work) (moved : ℕ) → moved ≡ work.moved → record_next work ≡ work.job.first + moved
next_number work moved is = ap (λ k. work.job.first + k) (sym is)

pub write_small : (disks : Disks) (d : Directory) (work : Work) → HasUnitLeft disks d work → work.job.kind ≡ Write → record_next work ≤ LAST_NAMED
write_small disks d work left kind = number_small left.before left.job left.ended work left.service.service.serving kind left.left left.suits

pub few_written : (disks : Disks) (d : Directory) (work : Work) → HasUnitLeft disks d work → work.job.kind ≡ Write → work.moved < 16
few_written disks d work left kind = few_moved left.before left.job left.ended work left.service.service.serving kind left.left left.suits

-- its directory entry, its block that is cleared, and its block that is filled
pub may_add : (disks : Disks) (d : Directory) (cached : List (SectorPlace × List ℕ)) (work : Work) → IsReadyDisk disks d.drive d.kind cached → HasUnitLeft disks d work → work.job.kind ≡ Write
    → step_of d work (record_next work) ≡ Entry → MayAddEntry disks d cached work.job (record_next work / 128)
may_add disks d cached work ready left kind is =
    let service = left.service.service in
    let missing = entry_missing left.service.image d left.before left.job left.ended work service.stands is in
    let written = entry_written left.before left.job left.ended work service.serving kind left.left service.entered missing in
    record {
      ready = ready;
      user = user_small left.before left.job left.ended work service.serving left.suits;
      small = extent_small left.before left.job left.ended work service.serving kind left.left left.suits;
      none = none_there (extent_slot d (file_of_job work.job) (record_next work / 128)) (not-true _ (step_entry _ _ is));
      room = some_by (free_slot d) (λ none.
          entry_room left.before left.job left.ended work (record_next work / 128) service.serving kind left.left written.unit_is
          (no_free_slot left.service.image d (units_done left.before left.job left.ended) service.stands none));
    }

pub may_clear : (disks : Disks) (d : Directory) (cached : List (SectorPlace × List ℕ)) (work : Work) → IsReadyDisk disks d.drive d.kind cached → HasUnitLeft disks d work → work.job.kind ≡ Write
    → step_of d work (record_next work) ≡ Block → MayClearNext disks d cached
may_clear disks d cached work ready left kind is =
    let next = block_to_clear left.service.image d left.before left.job left.ended work left.service.service kind left.left is in
    record { ready = ready; clears = next.0; free = next.1 }

pub may_fill : (disks : Disks) (d : Directory) (cached : List (SectorPlace × List ℕ)) (work : Work) → IsReadyDisk disks d.drive d.kind cached → HasUnitLeft disks d work → work.job.kind ≡ Write
    → step_of d work (record_next work) ≡ Record → lacks_block d (file_of_job work.job) (record_next work) ≡ true
    → MayFillBlock disks d cached (file_of_job work.job) (record_next work) work.cleared
may_fill disks d cached work ready left kind is lacks = record {
  ready = ready;
  number = write_small disks d work left kind;
  entry = entry_there d work is;
  lacks = lacks;
  image = left.service.image;
  told = left.service.told;
  fresh = fresh_ready left.service.image d left.before left.job left.ended work left.service.service kind left.left is lacks;
}

-- a file that is made: its entry, and its XFCB
pub may_make_entry : (disks : Disks) (d : Directory) (cached : List (SectorPlace × List ℕ)) (work : Work) → IsReadyDisk disks d.drive d.kind cached → HasUnitLeft disks d work → work.job.kind ≡ Make
    → work.ended ≡ 0 → MayAddEntry disks d cached work.job 0
may_make_entry disks d cached work ready left kind first =
    let service = left.service.service in
    let fits = made_entry_fits left.before left.job left.ended work service.serving kind left.suits first in
    record {
      ready = ready;
      user = user_small left.before left.job left.ended work service.serving left.suits;
      small = omega arith;
      none = none_by (extent_slot d (file_of_job work.job) 0) (λ slot found.
          entry_not_there left.service.image d (units_done left.before left.job left.ended) work.job 0 slot service.stands found fits.none);
      room = some_by (free_slot d) (λ none. fits.room (no_free_slot left.service.image d (units_done left.before left.job left.ended) service.stands none));
    }

pub may_make_xfcb : (disks : Disks) (d : Directory) (cached : List (SectorPlace × List ℕ)) (work : Work) → IsReadyDisk disks d.drive d.kind cached → HasUnitLeft disks d work → work.job.kind ≡ Make
    → work.ended ≢ 0 → MayPutXfcb disks d cached work.job
may_make_xfcb disks d cached work ready left kind later =
    let service = left.service.service in
    let made = xfcb_made left.before left.job left.ended work service.serving kind left.left later in
    record {
      ready = ready;
      user = user_small left.before left.job left.ended work service.serving left.suits;
      room = λ missing. some_by (free_slot d) (λ none.
          xfcb_has_room left.service.image d (units_done left.before left.job left.ended) work.job service.stands missing none
          (made_xfcb_fits left.before left.job left.ended work service.serving kind left.suits made.second made.wanted));
    }

-- an XFCB, and the label
pub may_put_xfcb : (disks : Disks) (d : Directory) (cached : List (SectorPlace × List ℕ)) (work : Work) → IsReadyDisk disks d.drive d.kind cached → HasUnitLeft disks d work → work.job.kind ≡ Xfcb
    → MayPutXfcb disks d cached work.job
may_put_xfcb disks d cached work ready left kind =
    let service = left.service.service in
    record {
      ready = ready;
      user = user_small left.before left.job left.ended work service.serving left.suits;
      room = λ missing. some_by (free_slot d) (λ none.
          xfcb_has_room left.service.image d (units_done left.before left.job left.ended) work.job service.stands missing none
          (xfcb_room left.before left.job left.ended work service.serving kind left.suits left.left));
    }

pub may_put_label : (disks : Disks) (d : Directory) (cached : List (SectorPlace × List ℕ)) (work : Work) → IsReadyDisk disks d.drive d.kind cached → HasUnitLeft disks d work → work.job.kind ≡ Label
    → MayPutLabel disks d cached
may_put_label disks d cached work ready left kind =
    let service = left.service.service in
    record {
      ready = ready;
      room = λ missing. some_by (free_slot d) (λ none.
          label_has_room left.service.image d (units_done left.before left.job left.ended) service.stands missing none
          (label_room left.before left.job left.ended work service.serving kind left.suits left.left));
    }

-- the next entry of a deletion, or of a file that gets attributes
pub deletes_on : (disks : Disks) (d : Directory) (work : Work) → HasUnitLeft disks d work → work.job.kind ≡ Delete → xfcb_due d work ≡ None
    → IsNext d.kind (search_of d.kind work.job.user work.job.name None) d.entries None → ⊥
deletes_on disks d work left kind none missing =
    deletion_goes_on left.service.image d left.before left.job left.ended work left.service.service.stands left.service.service.serving kind left.left none missing

pub sets_on : (disks : Disks) (d : Directory) (work : Work) → HasUnitLeft disks d work → work.job.kind ≡ Attributes
    → IsNext d.kind (search_of d.kind work.job.user work.job.name (last_of_job work)) d.entries None → ⊥
sets_on disks d work left kind missing =
    setting_goes_on left.service.image d left.before left.job left.ended work left.service.service.stands left.service.service.serving kind left.suits left.left missing

-- an entry that is renamed, and an XFCB
pub may_rename_entry : (disks : Disks) (d : Directory) (cached : List (SectorPlace × List ℕ)) (work : Work) (found : Found) → IsReadyDisk disks d.drive d.kind cached → HasUnitLeft disks d work
    → work.job.kind ≡ Rename → length d.entries ≡ (geometry_of d.kind).drm + 1 → xfcb_slot d (new_file_of_job work.job) ≡ None
    → IsLeast d.kind (search_of d.kind work.job.user work.job.name None) d.entries found → MayRenameEntry disks d cached work.job found.slot
may_rename_entry disks d cached work found ready left kind full none least =
    let files : Drive = units_done left.before left.job left.ended in
    let service = left.service.service in
    let may = may_rename left.before left.job left.ended work service.serving kind left.suits in
    let next = entry_renamed left.service.image d left.before left.job left.ended work found service.stands service.serving kind may left.left none least in
    record {
      ready = ready;
      within = omega (arith, next.within, full);
      file = next.file;
      entry = next.entry;
      user = next.user;
      free = none_by (extent_slot d (new_file_of_job work.job) (extent_of next.file)) (λ other is.
          renamed_free left.service.image d files work.job found.slot other next.file next.file work.job.new_name service.stands next.entry next.entry next.user refl
          (subst (λ user. extent_slot d (record { user = user; name = (new_file_of_job work.job).name }) (extent_of next.file) ≡ Some other) (sym next.user) is) next.free);
    }

pub may_rename_xfcb : (disks : Disks) (d : Directory) (cached : List (SectorPlace × List ℕ)) (work : Work) → IsReadyDisk disks d.drive d.kind cached → HasUnitLeft disks d work
    → work.job.kind ≡ Rename → xfcb_slot d (new_file_of_job work.job) ≡ None → IsNext d.kind (search_of d.kind work.job.user work.job.name None) d.entries None
    → MayRenameXfcb disks d cached work.job
may_rename_xfcb disks d cached work ready left kind none missing =
    let files : Drive = units_done left.before left.job left.ended in
    let service = left.service.service in
    let may = may_rename left.before left.job left.ended work service.serving kind left.suits in
    record {
      ready = ready;
      there = some_by (xfcb_slot d (file_of_job work.job)) (λ gone.
          no_xfcb_left left.service.image d left.before left.job left.ended work service.stands service.serving kind may left.left none missing
          (xfcb_missing left.service.image d files (file_of_job work.job) service.stands gone));
      free = none;
    }
