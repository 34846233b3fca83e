-- The rest of a step, after what it begins with: the system stays whole, nobody is left to be answered, nobody's end is due, and no
-- step is counted; what it says comes after what was said before.
use Rattle.std.proofs.Common.{◌≡◌, ◌∙◌, Bool, List, [], ◌++◌, Option, Some, None, refl, ap}
use Rattle.mpm_dispatcher.specs.declared.dispatcher.Dispatcher.{Dispatcher}
use Rattle.mpm_service.specs.declared.service.Served.{Served}
use Rattle.mpm_system.specs.declared.system.System.{System}
use Rattle.mpm_system.specs.Owing.{nobody_owes}
use Rattle.mpm_system.specs.Whole.{SystemChange, IsWhole, NoCompletions, silent}
use Rattle.mpm_machine.specs.Due.{NobodyDue, with_ends}
use Rattle.mpm_machine.specs.DiskStep.{disk_served, owed_then, all_paid}
use Rattle.mpm_machine.specs.Stepping.{Telling, paid_after, entered_after, ended_after, rest_of}
use Rattle.mpm_machine.proofs.WholeLaws.{whole_records}
use Rattle.mpm_machine.proofs.WholeStepLaws.{whole_with_ends, whole_when_picked}
use Rattle.mpm_machine.proofs.DueLaws.{no_completions_ends}
use Rattle.mpm_machine.proofs.NobodyDueLaws.{due_with_ends, due_picked}
use Rattle.mpm_machine.proofs.DiskStepLaws.{whole_disk_served, whole_all_paid, whole_call_entered, none_disk_served, same_call_entered}
use Rattle.mpm_machine.proofs.RecordsLaws.{recorded_twice}

-- the points of it
pub whole_entered_after : (telling : Telling) (system : System) → IsWhole system → IsWhole (entered_after telling system)
unfolding entered_after
whole_entered_after telling system w =
    whole_call_entered telling.turns (paid_after telling.at_disk system)
    (whole_all_paid (disk_served telling.at_disk system).system (whole_disk_served telling.at_disk system w))

pub whole_ended_after : (telling : Telling) (system : System) → IsWhole system → IsWhole (ended_after telling system)
unfolding ended_after
whole_ended_after telling system w = whole_with_ends (entered_after telling system) (whole_entered_after telling system w)

pub whole_rest : (instruction : Bool) (telling : Telling) (begun : SystemChange) → IsWhole begun.system → IsWhole (rest_of instruction telling begun).system
unfolding rest_of
whole_rest instruction telling begun w =
    let paid = all_paid (ended_after telling begun.system) in
    whole_when_picked instruction (record paid { records = [] })
    (whole_records paid [] (whole_all_paid (ended_after telling begun.system) (whole_ended_after telling begun.system w)))

-- nobody is left to be answered, and nothing to be given back where no call is in service
pub none_entered_after : (telling : Telling) (system : System) → system.kernel.dispatcher.completed ≡ [] → (entered_after telling system).kernel.dispatcher.completed ≡ []
unfolding entered_after all_paid
none_entered_after telling system none =
    ap (λ (d : Dispatcher). d.completed) (same_call_entered telling.turns (paid_after telling.at_disk system)) ∙ none_disk_served telling.at_disk system none

none_owed : (served : Option Served) (owed : List Bool) → served ≡ None → owed_then served owed ≡ nobody_owes
none_owed None owed none = refl
none_owed (Some call) owed none = absurd (cc)

pub no_completions_rest : (instruction : Bool) (telling : Telling) (begun : SystemChange) → begun.system.kernel.dispatcher.completed ≡ []
    → NoCompletions (rest_of instruction telling begun).system
unfolding rest_of ended_after all_paid
no_completions_rest instruction telling begun none = record {
  answered = no_completions_ends (entered_after telling begun.system) (none_entered_after telling begun.system none);
  written = refl;
  paid = λ idle. none_owed (with_ends (entered_after telling begun.system)).kernel.disk.served (with_ends (entered_after telling begun.system)).owed idle;
}

-- nobody's end is due
pub nobody_due_rest : (instruction : Bool) (telling : Telling) (begun : SystemChange) → IsWhole begun.system → NobodyDue (rest_of instruction telling begun).system.kernel
unfolding rest_of ended_after all_paid
nobody_due_rest instruction telling begun w =
    due_picked instruction (with_ends (entered_after telling begun.system)).kernel
    (due_with_ends (entered_after telling begun.system) (whole_entered_after telling begun.system w))

-- what it says comes after what was said before
pub rest_emitted : (instruction : Bool) (telling : Telling) (begun : SystemChange)
    → (rest_of instruction telling begun).emitted ≡ (rest_of instruction telling (silent begun.system)).emitted ++ begun.emitted
unfolding rest_of
rest_emitted instruction telling begun =
    let said = (disk_served telling.at_disk begun.system).emitted in
    let records = (all_paid (ended_after telling begun.system)).records in
    recorded_twice records said begun.emitted
