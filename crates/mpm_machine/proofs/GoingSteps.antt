-- The command line interpreter goes on with the segment that it has reserved in every step.
use Rattle.std.proofs.Common.{ℕ, zero, suc, ◌≡◌, Bool, true, Option, Some, None, IfSome, refl, sym, subst}
use Rattle.mpm_directories.specs.Direct.{Directly}
use Rattle.mpm_dispatcher.specs.Dispatch.{IsReady}
use Rattle.mpm_procs.specs.Table.{Lives}
use Rattle.mpm_system.specs.FileCalling.{call_made}
use Rattle.mpm_system.specs.Whole.{SystemChange, IsWhole}
use Rattle.mpm_system.specs.Coming.{coming, counted}
use Rattle.mpm_system.specs.declared.system.System.{System}
use Rattle.mpm_machine.proofs.FileLaws.{makes}
use Rattle.mpm_machine.proofs.FiledLaws.{caller_files, caller_lives, caller_ready, whole_begun, whole_begun_as}
use Rattle.mpm_machine.proofs.GoingAnswers.{goes_begun, goes_all_answered, goes_with_ends}
use Rattle.mpm_machine.proofs.GoingDisk.{goes_all_paid, goes_entered_after}
use Rattle.mpm_machine.proofs.GoingFiles.{files_made, goes_file_called}
use Rattle.mpm_machine.proofs.GoingParts.{goes_same}
use Rattle.mpm_machine.proofs.RestLaws.{whole_entered_after}
use Rattle.mpm_machine.proofs.WholeStepLaws.{coming_may, whole_counted}
use Rattle.mpm_machine.proofs.NextLaws.{next_is, whole_after}
use Rattle.mpm_machine.specs.State.{State}
use Rattle.mpm_machine.specs.After.{after, IsOfSome}
use Rattle.mpm_machine.specs.DiskStep.{all_paid}
use Rattle.mpm_machine.specs.FileCalls.{calls_files, file_caller}
use Rattle.mpm_machine.specs.Interpreting.{Interprets}
use Rattle.mpm_machine.specs.Stepping.{Telling, begun_as, begun_with, ended_after, entered_after, is_instruction, rest_of, step_with, telling_of}

-- what it begins with
pub goes_begun_with : (caller : Option ℕ) (told : Directly) (system : System) → IsWhole system → IfSome caller (λ p. Lives system.kernel.dispatcher.procs p)
    → IfSome caller (λ p. IsReady system.kernel.dispatcher p) → IfSome caller (λ p. calls_files p system ≡ true) → Interprets system
    → Interprets (begun_with caller told system).system
goes_begun_with None told system w h ready files i =
    let begun = counted system in
    let whole = whole_counted system w in
    goes_begun (coming begun) begun (coming_may begun whole) whole (goes_same system begun refl refl refl refl refl refl refl i)
goes_begun_with (Some p) told system w h ready files i =
    let made = makes p system w h in goes_file_called told p (call_made p system) made.whole made.lives (files_made p system w ready i files)

pub goes_begun_as : (told : Directly) (system : System) → IsWhole system → Interprets system → Interprets (begun_as told system).system
unfolding begun_as
goes_begun_as told system w i =
    goes_all_answered (begun_with (file_caller system) told system).system (whole_begun told system w)
    (goes_begun_with (file_caller system) told system w (caller_lives system w) (caller_ready system w) (caller_files system) i)

-- the rest of it

goes_ended_after : (telling : Telling) (system : System) → IsWhole system → Interprets system → Interprets (ended_after telling system)
unfolding ended_after
goes_ended_after telling system w i =
    goes_with_ends (entered_after telling system) (whole_entered_after telling system w) (goes_entered_after telling system w i)

goes_rest : (instruction : Bool) (telling : Telling) (begun : SystemChange) → IsWhole begun.system → Interprets begun.system → Interprets (rest_of instruction telling begun).system
unfolding rest_of
goes_rest instruction telling begun w i =
    goes_same (all_paid (ended_after telling begun.system)) _ refl refl refl refl refl refl refl
    (goes_all_paid (ended_after telling begun.system) (goes_ended_after telling begun.system w i))

-- a step

goes_in_step : (telling : Telling) (system : System) → IsWhole system → Interprets system → Interprets (step_with telling system).system
unfolding step_with
goes_in_step telling system w i =
    goes_rest (is_instruction (file_caller system) system) telling (begun_as telling.at_gate system) (whole_begun_as telling.at_gate system w)
    (goes_begun_as telling.at_gate system w i)

pub interprets_stepped : (old new : System) → IsWhole old → IsOfSome (λ telling. (step_with telling old).system) new → Interprets old → Interprets new
interprets_stepped old new w made i = subst Interprets (sym made.1) (goes_in_step made.0 old w i)

-- n of them

pub interprets_after : (n : ℕ) (s : State) → IsWhole s.system → Interprets s.system → Interprets (after n s).system
unfolding after
interprets_after zero s w i = i
interprets_after (suc n) s w i =
    let before = after n s in
    subst Interprets (sym (next_is before)) (goes_in_step (telling_of before.system before.files) before.system (whole_after n s w) (interprets_after n s w i))
