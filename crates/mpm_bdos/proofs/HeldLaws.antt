-- That the drive of the call in service is mounted where it isn't refused: as it enters, after a turn, and as what is kept changes.
use Rattle.std.proofs.Common.{◌≡◌, ◌∙◌, ℕ, Bool, true, false, List, [], Option, Some, None, IfSome, refl, sym, ap, subst}
use Rattle.std.specs.Prelude.{is_some, option_map}
use Rattle.std.proofs.lemmas.Bool.{true≢false}
use Rattle.std.proofs.lemmas.Option.{same_Some, none-some}
use Rattle.mpm_base.specs.Calls.{Taken}
use Rattle.mpm_mount.specs.Drives.{Drive}
use Rattle.mpm_mount.specs.Directories.{Directory}
use Rattle.mpm_opens.specs.declared.kinds.FileKey.{FileKey}
use Rattle.mpm_opens.specs.Opens.{OpenFiles, HasLeft, none_open}
use Rattle.mpm_directories.specs.Places.{directory_at}
use Rattle.mpm_file_functions.specs.declared.functions.FileFunction.{FileFunction}
use Rattle.mpm_file_functions.specs.declared.refusals.Refusal.{Refusal}
use Rattle.mpm_refusals.specs.declared.caller.Caller.{Caller}
use Rattle.mpm_refusals.specs.Asking.{called, StandsForDirectory}
use Rattle.mpm_refusals.specs.Filing.{LastSearch, Situation, HaveUsers}
use Rattle.mpm_refusals.specs.Refusals.{refusal_of}
use Rattle.mpm_bdos.specs.Serving.{InService}
use Rattle.mpm_bdos.specs.Replying.{is_on_drives}
use Rattle.mpm_bdos.specs.Turns.{drive_and_kind, without_work}
use Rattle.mpm_bdos.specs.Held.{IsMountedFor, HoldsCall}
use Rattle.mpm_bdos.proofs.AtOnceLaws.{still_there}
use Rattle.mpm_bdos.proofs.KeptLaws.{no_users, users_left}
use Rattle.mpm_bdos.proofs.OnDrives.{unmounted_on_drives}

-- a call whose drive isn't mounted is refused, unless it is one on drives
pub granted_there : (protected : List Bool) (opens : OpenFiles) (marks : List ℕ) (searches : List (Option LastSearch)) (caller : Caller) (function : FileFunction) (call : Taken) (directory : Option Directory) (refusal : Option Refusal)
    → ((image : List ℕ) (drives : List (Option Drive)) (moment : List ℕ) → StandsForDirectory image directory (called drives protected opens marks searches caller function call moment)
    → refusal ≡ refusal_of (called drives protected opens marks searches caller function call moment))
    → refusal ≡ None → is_on_drives function ≡ false → is_some directory ≡ true
granted_there protected opens marks searches caller function call None refusal refuses none off =
    let s : Situation = called [] protected opens marks searches caller function call [] in
    absurd (true≢false (sym (unmounted_on_drives s refl (sym (refuses [] [] [] tt) ∙ none)) ∙ off))
granted_there protected opens marks searches caller function call (Some directory) refusal refuses none off = refl

-- a turn changes of the call its work alone, and its drive stays mounted
still_mounted : (old new : List (Option Directory)) (service after : InService) → without_work after ≡ without_work service
    → ((number : ℕ) → option_map drive_and_kind (directory_at new number) ≡ option_map drive_and_kind (directory_at old number))
    → IsMountedFor (directory_at old service.drive) service → IsMountedFor (directory_at new after.drive) after
still_mounted old new service after same labels on = λ none off.
    still_there (directory_at old after.drive) (directory_at new after.drive) (labels after.drive)
    ∙ ap (λ (call : InService). is_some (directory_at old call.drive)) same
    ∙ on (sym (ap (λ (call : InService). call.refusal) same) ∙ none) (sym (ap (λ (call : InService). is_on_drives call.function) same) ∙ off)

mounted_again : (old new : List (Option Directory)) (one other : Option InService) → option_map without_work other ≡ option_map without_work one
    → ((number : ℕ) → option_map drive_and_kind (directory_at new number) ≡ option_map drive_and_kind (directory_at old number))
    → IfSome one (λ (call : InService). IsMountedFor (directory_at old call.drive) call) → IfSome other (λ (call : InService). IsMountedFor (directory_at new call.drive) call)
mounted_again old new one None same labels on = tt
mounted_again old new None (Some other) same labels on = absurd (none-some (without_work other) (sym same))
mounted_again old new (Some one) (Some other) same labels on = still_mounted old new one other (same_Some (without_work other) (without_work one) same) labels on

pub held_again : (old new : List (Option Directory)) (opens : OpenFiles) (service after : Option InService) → option_map without_work after ≡ option_map without_work service
    → ((number : ℕ) → option_map drive_and_kind (directory_at new number) ≡ option_map drive_and_kind (directory_at old number))
    → HoldsCall old opens service → HoldsCall new opens after
held_again old new opens service after same labels holds = record { users = holds.users; granted = mounted_again old new service after same labels holds.granted }

-- where no call is in service
pub held_none : (mounted : List (Option Directory)) (opens : OpenFiles) (service : Option InService) → HaveUsers opens → service ≡ None → HoldsCall mounted opens service
held_none mounted opens service users none = record {
  users = users;
  granted = subst (λ (service : Option InService). IfSome service (λ (call : InService). IsMountedFor (directory_at mounted call.drive) call)) (sym none) tt;
}

-- after the first moment, and after a process gave back what it had open
pub held_first : (mounted : List (Option Directory)) (opens : OpenFiles) (service : Option InService) → opens ≡ none_open → service ≡ None → HoldsCall mounted opens service
held_first mounted opens service first none = held_none mounted opens service (subst HaveUsers (sym first) no_users) none

pub held_left : (mounted : List (Option Directory)) (p : ℕ) (among : FileKey → Bool) (old new : OpenFiles) (service : Option InService) → HasLeft p among old new → HoldsCall mounted old service → HoldsCall mounted new service
held_left mounted p among old new service left holds = record { users = users_left p among old new left holds.users; granted = holds.granted }
