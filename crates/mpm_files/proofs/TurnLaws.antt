-- A turn does the next unit; a call is all of its units.
use Rattle.std.proofs.Common.{◌≡◌, ℕ, suc, zero, List, [], ◌∷◌, ◌++◌, None, take, refl, ap, arith, take_all}
use Rattle.std.specs.Prelude.{slice_index_or}
use Rattle.mpm_mount.specs.Drives.{FileName, Drive}
use Rattle.mpm_jobs.specs.declared.jobs.Job.{Job}
use Rattle.mpm_files.specs.Units.{FileUnit, Idles, stages, last_of, applied, all_applied}
use Rattle.mpm_files.specs.Plans.{plan_of, file_of_job, turns_of, unit_at}
use Rattle.mpm_files.specs.Serving.{units_done}

pub all_applied_append : (us vs : List FileUnit) (drive : Drive) → all_applied drive (us ++ vs) ≡ all_applied (all_applied drive us) vs
unfolding all_applied
all_applied_append [] vs drive = refl
all_applied_append (u ∷ us) vs drive = all_applied_append us vs (applied drive u)

one_more : (us : List FileUnit) (j : ℕ) (file : FileName) (drive : Drive)
    → all_applied drive (take (suc j) us) ≡ applied (all_applied drive (take j us)) (slice_index_or us j (Idles file None))
unfolding all_applied applied stages last_of
one_more [] zero file drive = refl
one_more [] (suc j) file drive = refl
one_more (u ∷ us) zero file drive = refl
one_more (u ∷ us) (suc j) file drive = one_more us j file (last_of drive (stages u drive))

-- after one turn more the drive is what its unit makes of the drive before
pub one_turn : (drive : Drive) (job : Job) (j : ℕ) → units_done drive job (suc j) ≡ applied (units_done drive job j) (unit_at drive job j)
one_turn drive job j = one_more (plan_of drive job).units j (file_of_job job) drive

-- after all turns it is what all units make, one after the other
pub all_turns : (drive : Drive) (job : Job) → units_done drive job (turns_of drive job) ≡ all_applied drive (plan_of drive job).units
all_turns drive job = ap (all_applied drive) (take_all (turns_of drive job) (plan_of drive job).units (omega arith))

-- before the first it is the drive
pub no_turn : (drive : Drive) (job : Job) → units_done drive job 0 ≡ drive
unfolding all_applied
no_turn drive job = refl
