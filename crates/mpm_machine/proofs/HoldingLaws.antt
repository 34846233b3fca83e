-- Who waits for the disk, or is served, keeps a call that the disk serves, and the call in service is his own, through each part of a step.
use Rattle.std.proofs.Common.{◌≡◌, ◌≢◌, ◌∙◌, ℕ, zero, suc, ◌<◌, ◌==◌, ◌||◌, Bool, true, false, Option, Some, None, IfSome, is_some, is_none, inl, inr, refl, sym, ap, subst, arith}
use Rattle.std.proofs.lemmas.Bool.{false≢true, cases_eq}
use Rattle.mpm_base.specs.Calls.{Taken}
use Rattle.mpm_base.specs.declared.functions.TheConstants.{SET_MULTI_SECTOR_COUNT}
use Rattle.mpm_procs.specs.Table.{Table, process_in, call_of}
use Rattle.mpm_service.specs.Disk.{DiskService}
use Rattle.mpm_service.specs.declared.service.Served.{Served}
use Rattle.mpm_service.specs.Places.{at_disk}
use Rattle.mpm_service.proofs.PlaceLaws.{at_entered_other, served_not}
use Rattle.mpm_kernel.specs.Kernel.{Kernel}
use Rattle.mpm_kernel.specs.Disk.{waiting_for_disk}
use Rattle.mpm_file_functions.specs.declared.functions.FileFunction.{FileFunction}
use Rattle.mpm_file_functions.specs.Functions.{function_of}
use Rattle.mpm_bdos.specs.Starting.{HasBegunService}
use Rattle.mpm_bdos.specs.Serving.{InService}
use Rattle.mpm_system.specs.declared.system.System.{System}
use Rattle.mpm_machine.specs.Holding.{IsOwnCall, OwnsService, AreFiled}
use Rattle.mpm_machine.specs.DiskStep.{is_done_at_once}
use Rattle.mpm_machine.proofs.CallsLaws.{KeepsMulti, KeepsCalls}

pub filed_still : (old new : Kernel) → KeepsCalls old new → AreFiled old → AreFiled new
filed_still old new keeps filed = λ p at. ap (λ (c : Taken). is_some (function_of c.function)) (keeps.call p at) ∙ filed p (keeps.was p at)

-- one that isn't done at once comes to wait
pub not_none : (found : Option FileFunction) (other : Bool) → (is_none found || other) ≡ false → is_some found ≡ true
not_none None other never = absurd (false≢true (sym never))
not_none (Some function) other never = refl

pub filed_waiting : (p : ℕ) (system : System) → is_done_at_once p system ≡ false → AreFiled system.kernel → AreFiled (waiting_for_disk p system.kernel)
unfolding waiting_for_disk
filed_waiting p system waits filed = λ q at. elim (cases_eq q p) [
  | inl same ↦
      ap (λ n. is_some (function_of (call_of system.kernel.dispatcher.procs n).function)) same
      ∙ not_none (function_of (call_of system.kernel.dispatcher.procs p).function) (system.kernel.disk.turn_steps == 0) waits
  | inr other ↦
      filed q (subst (λ n. 0 < n) (at_entered_other system.kernel.disk p q (process_in system.kernel.dispatcher.procs p).priority other) at)
]

-- who is served is at the disk

positive : (n : ℕ) → (n ≡ 0 → ⊥) → 0 < n
positive zero some = absurd (some refl)
positive (suc n) some = omega arith

served_stands : (disk : DiskService) (served : Option Served) → disk.served ≡ served → IfSome served (λ (call : Served). 0 < at_disk disk call.p)
served_stands disk None is = tt
served_stands disk (Some call) is =
    positive (at_disk disk call.p) (λ none. subst (λ (o : Option Served). IfSome o (λ (c : Served). c.p ≢ call.p)) is (served_not disk call.p none) refl)

-- and his call is his own, as he keeps it and his multi-sector count

sets_no_count : (number : ℕ) (function : FileFunction) → function_of number ≡ Some function → number ≢ SET_MULTI_SECTOR_COUNT
unfolding function_of
sets_no_count number function is = λ same. false≢true (sym (ap is_some (sym is ∙ ap function_of same)))

stays_own : (p : ℕ) (old new : Table) (service : Option InService) → call_of new p ≡ call_of old p → KeepsMulti p old new → IsOwnCall old p service → IsOwnCall new p service
stays_own p old new service call multi own = record {
  function = own.function;
  its = ap (λ (c : Taken). function_of c.function) call ∙ own.its;
  caller = own.caller;
  multi = own.multi ∙ sym (multi (sets_no_count (call_of old p).function own.function own.its));
  entered = subst (λ (c : Taken). HasBegunService own.caller own.function c service) (sym call) own.entered;
}

own_by : (served : Option Served) (old new : Kernel) (service : Option InService) → KeepsCalls old new → IfSome served (λ (call : Served). 0 < at_disk new.disk call.p)
    → IfSome served (λ (call : Served). IsOwnCall old.dispatcher.procs call.p service) → IfSome served (λ (call : Served). IsOwnCall new.dispatcher.procs call.p service)
own_by None old new service keeps at own = tt
own_by (Some call) old new service keeps at own =
    stays_own call.p old.dispatcher.procs new.dispatcher.procs service (keeps.call call.p at) (keeps.multi call.p at) own

pub own_still : (old new : Kernel) (service : Option InService) → KeepsCalls old new → new.disk.served ≡ old.disk.served → OwnsService old service → OwnsService new service
own_still old new service keeps same own =
    own_by new.disk.served old new service keeps (served_stands new.disk new.disk.served refl)
    (subst (λ (o : Option Served). IfSome o (λ (call : Served). IsOwnCall old.dispatcher.procs call.p service)) (sym same) own)
