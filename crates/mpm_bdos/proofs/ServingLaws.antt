-- What is so of a call in service.
use Rattle.std.proofs.Common.{◌≡◌, ℕ, List, Option, Some, None, sym, refl, ap, subst}
use Rattle.mpm_mount.specs.Drives.{Drive}
use Rattle.mpm_file_functions.specs.declared.refusals.Refusal.{Refusal}
use Rattle.mpm_refusals.specs.Filing.{Situation}
use Rattle.mpm_refusals.specs.Subjects.{drive_at}
use Rattle.mpm_refusals.specs.Refusals.{refusal_of}
use Rattle.mpm_bdos.specs.Serving.{Kept, StandEach, Serves}
use Rattle.mpm_bdos.specs.Jobs.{job_by, unless_refused, job_of, turns_by, call_turns, turned}
use Rattle.mpm_bdos.specs.Changes.{drives_by, filing_after}
use Rattle.mpm_bdos.specs.Outcomes.{outcome_by, file_call, drives_after}

-- after its last turn the drives are those that the call comes to
drives_by_refusal : (s : Situation) (refusal : Option Refusal) → refusal_of s ≡ refusal → (outcome_by s (turned s (call_turns s)) refusal).filing.drives ≡ drives_after s (call_turns s)
unfolding drives_after filing_after job_of
drives_by_refusal s None is = refl
drives_by_refusal s (Some refusal) is = ap (λ r. drives_by_job s r) (sym is)
  where
    drives_by_job : Situation → Option Refusal → List (Option Drive)
    drives_by_job s r = drives_by s (turned s (call_turns s)).drive (unless_refused r (job_by s s.function))

pub last_drives : (s : Situation) → (file_call s).filing.drives ≡ drives_after s (call_turns s)
unfolding file_call
last_drives s = drives_by_refusal s (refusal_of s) refl

-- so the images stand for the drives that the call comes to
pub stand_at_last : (images : ℕ → List ℕ) (kept : Kept) (s : Situation) → Serves images kept s (call_turns s) → StandEach images kept.mounted (file_call s).filing.drives
stand_at_last images kept s serves = subst (StandEach images kept.mounted) (sym (last_drives s)) serves.stand

-- a call that is refused takes one turn, in which nothing is done
pub refused_turn : (s : Situation) (refusal : Refusal) → refusal_of s ≡ Some refusal → call_turns s ≡ 1
unfolding call_turns job_of
refused_turn s refusal is = ap (λ r. turns_by (drive_at s) (unless_refused r (job_by s s.function))) is
