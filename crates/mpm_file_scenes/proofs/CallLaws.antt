-- A call of a scene: as it enters service, turn by turn, and done at once.
use Rattle.std.proofs.Common.{◌≡◌, ℕ, ◌+◌, ◌<◌, true, Option, Some, None, Result, Ok, Err, refl, sym, ap, subst, arith}
use Rattle.std.specs.Prelude.{is_some, OnOk}
use Rattle.std.proofs.lemmas.Bool.{true≢false}
use Rattle.mpm_base.specs.Calls.{Answer, Taken}
use Rattle.mpm_clock.specs.declared.moment.Moment.{Moment}
use Rattle.mpm_procs.specs.declared.process.Process.{Process}
use Rattle.mpm_port.specs.declared.drives.Drives.{Ghosts}
use Rattle.mpm_port.specs.Disks.{Disks}
use Rattle.mpm_file_functions.specs.declared.functions.FileFunction.{FileFunction}
use Rattle.mpm_file_functions.specs.declared.refusals.Extended.{Extended}
use Rattle.mpm_file_functions.specs.Functions.{function_of}
use Rattle.mpm_files.specs.declared.turning.Progress.{Progress}
use Rattle.mpm_bdos.specs.Asking.{MayDoTurns}
use Rattle.mpm_bdos.specs.AtOnce.{ServesAtOnce}
use Rattle.mpm_bdos.specs.Outcomes.{file_call}
use Rattle.mpm_bdos.specs.Serving.{Kept, Serves}
use Rattle.mpm_bdos.specs.ServiceTurns.{TurnsServedCall}
use Rattle.mpm_bdos.specs.Starting.{entering_at}
use Rattle.mpm_bdos.specs.Turns.{FitsDrives, images_of}
use Rattle.mpm_bdos.specs.WholeCalls.{StartsService}
use Rattle.mpm_file_scenes.specs.Standing.{IsBetweenCalls, IsWithinCall}

pub entered : {D : Type 0} (disks : D → Disks) (old new : Kept) (drives : D) (p : ℕ) (process : Process) (call : Taken) (now : Moment) (turns : ℕ) → IsBetweenCalls disks old drives
    → is_some (function_of call.function) ≡ true → StartsService old new p process call now turns → IsWithinCall disks new drives 0 turns
entered disks old new drives p process call now turns first file starts = by_function (function_of call.function) refl file
  where
    by_function : (function : Option FileFunction) → function_of call.function ≡ function → is_some function ≡ true → IsWithinCall disks new drives 0 turns
    by_function None is file = absurd (true≢false (sym file))
    by_function (Some function) is file = record {
      fits = subst (λ (kept : Kept). FitsDrives disks kept.mounted kept.cached drives) (sym starts.kept) first.fits;
      situation = entering_at old p process call now first.stand.drives function;
      serves = starts.serves (images_of (disks drives)) first.stand.drives function is first.stand.stand;
      all = sym (starts.turns (images_of (disks drives)) first.stand.drives function is first.stand.stand);
    }

-- a turn of it is left
pub may_turn : {D : Type 0} (disks : D → Disks) (kept : Kept) (drives : D) (ended turns : ℕ) → IsWithinCall disks kept drives ended turns → ended < turns → MayDoTurns disks 1 kept drives
may_turn disks kept drives ended turns so more =
    record {
      fits = so.fits;
      served = ap is_some so.serves.there;
      left = λ work. record { situation = so.situation; ended = ended; serves = so.serves; left = omega (arith, more, so.all) };
    }

pub one_more : {D E : Type 0} (of : Ghosts D) (old new : Kept) (drives now : D) (before counted : ℕ) (progress : Progress) (ended turns : ℕ) → IsWithinCall of.disks old drives ended turns → ended < turns
    → TurnsServedCall {E = E} of old new drives now before counted (Ok progress) → IsWithinCall of.disks new now (ended + 1) turns
one_more of old new drives now before counted progress ended turns first more did = record {
  fits = did.left.fits;
  situation = first.situation;
  serves = subst (Serves (images_of (of.disks now)) new first.situation) (omega arith)
      (did.ok first.situation ended first.serves (subst (λ n. ended < n) (sym first.all) more));
  all = first.all;
}

pub at_once : {D E : Type 0} (of : Ghosts D) (old new : Kept) (p : ℕ) (process : Process) (call : Taken) (now : Moment) (before after : Answer) (drives later : D) (calls counted : ℕ) (result : Result (Option Extended) E)
    → IsBetweenCalls of.disks old drives → is_some (function_of call.function) ≡ true → ServesAtOnce of old new p process call now before after drives later calls counted result
    → OnOk result (IsBetweenCalls of.disks new later)
at_once of old new p process call now before after drives later calls counted (Err failed) first file did = tt
at_once of old new p process call now before after drives later calls counted (Ok extended) first file did = by_function (function_of call.function) refl file
  where
    by_function : (function : Option FileFunction) → function_of call.function ≡ function → is_some function ≡ true → IsBetweenCalls of.disks new later
    by_function None is file = absurd (true≢false (sym file))
    by_function (Some function) is file = record {
      fits = did.left.fits;
      stand = record {
        drives = (file_call (entering_at old p process call now first.stand.drives function)).filing.drives;
        stand = (did.done first.stand.drives function is first.stand.stand).ok.stand;
      };
      none = did.service function is;
    }
