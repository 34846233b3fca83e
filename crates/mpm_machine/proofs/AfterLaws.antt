-- A machine as it begins: it is whole, and nobody is left to be handed out.
use Rattle.std.proofs.Common.{◌∙◌, ℕ, ◌≤◌, false, List, All, length, refl, sym, ap, arith}
use Rattle.mpm_dispatcher.specs.Dispatch.{picked}
use Rattle.mpm_script.specs.declared.event.Timed.{Timed}
use Rattle.mpm_script.specs.Events.{IsTimed}
use Rattle.mpm_machine_file.specs.declared.machine_file.MachineFile.{MachineFile}
use Rattle.mpm_machine_file.specs.MachineFiles.{IsMachine}
use Rattle.mpm_service.specs.Disk.{DiskService}
use Rattle.mpm_kernel.specs.Kernel.{dispatched}
use Rattle.mpm_system.specs.Whole.{IsWhole, NoCompletions}
use Rattle.mpm_system.specs.Opening.{Begun, begun_residents, with_residents, booted, opened, opening_system}
use Rattle.mpm_system.proofs.SizeLaws.{memory_new}
use Rattle.mpm_system.proofs.PlacedLaws.{booted_is_bare, opening_is_bare}
use Rattle.mpm_system.proofs.OpeningLaws.{boots, whole_picked, no_completions_picked}
use Rattle.mpm_system.proofs.ResidingLaws.{all_begun}

-- the openings

-- a machine as a program begins
pub opening_whole : (program : List ℕ) → length program ≤ 48512 → IsWhole (opening_system program)
opening_whole program few = (opening_is_bare program few).whole

pub opening_handed : (program : List ℕ) → length program ≤ 48512 → NoCompletions (opening_system program)
opening_handed program few = (opening_is_bare program few).no_completions

-- a machine as it is run
pub residents_begun : (file : MachineFile) (events : List Timed) → IsMachine file → All IsTimed events
    → Begun (booted file events) (begun_residents file.consoles file.spool file.sched (booted file events))
residents_begun file events is script =
    let bare = booted_is_bare file events is.some_console is.consoles is.printers (omega (arith, is.segments)) script (memory_new file.segments is.some_segment is.segments is.each_segment) in
    let so = boots file events (booted file events) refl in
    all_begun file.consoles file.spool file.sched (booted file events) bare.whole so.queues so.consoles

pub opened_whole : (file : MachineFile) (events : List Timed) → IsMachine file → All IsTimed events → IsWhole (opened file events)
unfolding opened with_residents
opened_whole file events is script =
    let afterwards = begun_residents file.consoles file.spool file.sched (booted file events) in
    whole_picked afterwards (dispatched (picked false) afterwards.kernel) (residents_begun file events is script).whole refl

pub opened_handed : (file : MachineFile) (events : List Timed) → IsMachine file → All IsTimed events → NoCompletions (opened file events)
unfolding opened with_residents
opened_handed file events is script =
    let afterwards = begun_residents file.consoles file.spool file.sched (booted file events) in
    let bare = booted_is_bare file events is.some_console is.consoles is.printers (omega (arith, is.segments)) script (memory_new file.segments is.some_segment is.segments is.each_segment) in
    let begun = residents_begun file events is script in
    no_completions_picked afterwards (dispatched (picked false) afterwards.kernel) refl
    (record { answered = begun.completed ∙ bare.no_completions.answered; written = begun.records ∙ bare.no_completions.written; paid = λ idle. begun.owed ∙ bare.no_completions.paid (ap (λ (d : DiskService). d.served) (sym begun.disk) ∙ idle) })
