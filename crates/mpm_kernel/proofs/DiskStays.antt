-- What calls, events and those that are handed out leave of the disk: all of it. What an end leaves: all but the call of who ends.
use Rattle.std.proofs.Common.{◌≡◌, ◌∙◌, ℕ, zero, suc, Bool, ◌==◌, List, [], ◌∷◌, length, Option, Some, None, if◌then◌else◌, refl}
use Rattle.std.specs.Prelude.{nat_lt, is_some, drop}
use Rattle.std.specs.List.{range_with_len}
use Rattle.mpm_base.proofs.Choices.{either}
use Rattle.mpm_base.specs.Calls.{word_at}
use Rattle.mpm_base.specs.declared.functions.TheConstants.{CALL_RESIDENT_SYSTEM_PROCEDURE}
use Rattle.mpm_procs.specs.Table.{process_in, call_of}
use Rattle.mpm_queues.specs.Queue.{block_size}
use Rattle.mpm_queues.specs.Queues.{is_made, holds}
use Rattle.mpm_consoles.specs.Consoles.{console_at, owner_of}
use Rattle.mpm_consoles.specs.Handling.{keyed, key_answer}
use Rattle.mpm_consoles.specs.declared.keys.KeyDone.{KeyDone}
use Rattle.mpm_consoles.specs.declared.keys.KeyDone.TheVariants.{Stored, Dropped, Nothing, Wakes, Aborts, Passes}
use Rattle.mpm_base.specs.declared.unit.Unit.TheVariants.{Console as ConsoleUnit}
use Rattle.mpm_script.specs.declared.event.Event.{Event}
use Rattle.mpm_script.specs.declared.event.Event.TheVariants.{Tick, Key, Ready, Int}
use Rattle.mpm_service.specs.Disk.{DiskService}
use Rattle.mpm_service.specs.Places.{without_call}
use Rattle.mpm_dispatcher.specs.Dispatch.{first_completed, with_completed}
use Rattle.mpm_kernel.specs.Kernel.{Kernel, afresh, dispatched}
use Rattle.mpm_kernel.specs.Calls.{called}
use Rattle.mpm_kernel.specs.Columns.{spoke}
use Rattle.mpm_kernel.specs.Waiting.{is_flag, waited}
use Rattle.mpm_kernel.specs.Procedures.{procedure_queue, inside, outside, given_back_to, given_back}
use Rattle.mpm_kernel.specs.Consoling.{echoed, unit_left, key_done, is_of_resident, key_came}
use Rattle.mpm_kernel.specs.Events.{clock_ticked, device_ready, flag_came, happens, happened, inside_of, with_procedure, with_first, handed_out}
use Rattle.mpm_kernel.specs.Ending.{dropped_out, returned, all_returned, consoles_left, printers_left, units_left, relieved, discharged}
use Rattle.mpm_kernel.proofs.CallLeavings.{one_signalled, one_called}

-- the disk is as it was
pub kernel_if : (disk : DiskService) (b : Bool) (x y : Kernel) → x.disk ≡ disk → y.disk ≡ disk → (if b then x else y).disk ≡ disk
kernel_if disk b x y one other = either (λ (kernel : Kernel). kernel.disk ≡ disk) b x y (λ _. one) (λ _. other)

pub disk_called : (p : ℕ) (kernel : Kernel) → (called p kernel).kernel.disk ≡ kernel.disk
disk_called p kernel = (one_called p kernel).disk

-- events
disk_key_done : (answer : KeyDone) (console : ℕ) (waited : Bool) (kernel : Kernel) → (key_done answer console waited kernel).disk ≡ kernel.disk
unfolding key_done echoed spoke
disk_key_done Stored console waited kernel = refl
disk_key_done Dropped console waited kernel = refl
disk_key_done Nothing console waited kernel = refl
disk_key_done (Wakes p) console waited kernel = refl
disk_key_done (Aborts p) console waited kernel = refl
disk_key_done (Passes from to) console waited kernel = refl

disk_key_came : (console byte : ℕ) (kernel : Kernel) → (key_came console byte kernel).disk ≡ kernel.disk
unfolding key_came
disk_key_came console byte kernel =
    let resident = is_of_resident kernel.dispatcher.procs (owner_of kernel.units (ConsoleUnit console)) in
    kernel_if kernel.disk (nat_lt console (length kernel.units.consoles)) _ _
    (disk_key_done (key_answer kernel.units console byte resident) console (is_some (console_at kernel.units console).awaits)
    (record kernel { units = keyed kernel.units console byte resident }))
    refl

disk_happens : (event : Event) (kernel : Kernel) → (happens event kernel).disk ≡ kernel.disk
unfolding happens clock_ticked device_ready flag_came
disk_happens Tick kernel = refl
disk_happens (Key console byte) kernel = disk_key_came console byte kernel
disk_happens (Ready device byte) kernel = refl
disk_happens (Int flag) kernel = kernel_if kernel.disk (is_flag flag) _ _ (one_signalled flag kernel).disk refl

pub disk_happened : (event : Event) (kernel : Kernel) → (happened event kernel).disk ≡ kernel.disk
disk_happened event kernel = disk_happens event (afresh kernel)

-- a process is handed out
disk_inside : (p q message : ℕ) (kernel : Kernel) → (inside p q message kernel).disk ≡ kernel.disk
unfolding inside
disk_inside p q message kernel = refl

disk_inside_of : (q : Option ℕ) (p message : ℕ) (kernel : Kernel) → (inside_of q p message kernel).disk ≡ kernel.disk
disk_inside_of None p message kernel = refl
disk_inside_of (Some q) p message kernel = disk_inside p q message kernel

disk_with_first : (first : Option ℕ) (kernel : Kernel) → (with_first first kernel).disk ≡ kernel.disk
unfolding with_procedure
disk_with_first None kernel = refl
disk_with_first (Some p) kernel =
    let call = call_of kernel.dispatcher.procs p in
    kernel_if kernel.disk (call.function == CALL_RESIDENT_SYSTEM_PROCEDURE) _ _ (disk_inside_of (procedure_queue kernel.queues call) p (word_at call block_size) kernel) refl

pub disk_handed_out : (kernel : Kernel) → (handed_out kernel).disk ≡ kernel.disk
unfolding handed_out
disk_handed_out kernel = disk_with_first (first_completed kernel.dispatcher.completed) (dispatched (with_completed (drop 1 kernel.dispatcher.completed)) kernel)

-- an end
disk_given_back_to : (q : Option ℕ) (p : ℕ) (kernel : Kernel) → (given_back_to q p kernel).disk ≡ kernel.disk
unfolding given_back_to
disk_given_back_to None p kernel = refl
disk_given_back_to (Some q) p kernel = kernel_if kernel.disk (is_made kernel.queues q) _ _ refl refl

disk_outside : (p : ℕ) (kernel : Kernel) → (outside p kernel).disk ≡ kernel.disk
unfolding outside
disk_outside p kernel = refl

pub disk_given_back : (p : ℕ) (kernel : Kernel) → (given_back p kernel).disk ≡ kernel.disk
unfolding given_back
disk_given_back p kernel = disk_given_back_to (process_in kernel.dispatcher.procs p).procedure p (outside p kernel) ∙ disk_outside p kernel

disk_returned : (p q : ℕ) (kernel : Kernel) → (returned p q kernel).disk ≡ kernel.disk
unfolding returned
disk_returned p q kernel = kernel_if kernel.disk (holds kernel.queues p q) _ _ (disk_given_back_to (Some q) p kernel) refl

disk_all_returned : (qs : List ℕ) (p : ℕ) (kernel : Kernel) → (all_returned qs p kernel).disk ≡ kernel.disk
unfolding all_returned
disk_all_returned [] p kernel = refl
disk_all_returned (q ∷ qs) p kernel = disk_all_returned qs p (returned p q kernel) ∙ disk_returned p q kernel

disk_consoles_left : (p n : ℕ) (kernel : Kernel) → (consoles_left p n kernel).disk ≡ kernel.disk
unfolding consoles_left unit_left
disk_consoles_left p zero kernel = refl
disk_consoles_left p (suc n) kernel = disk_consoles_left p n kernel

disk_printers_left : (p n : ℕ) (kernel : Kernel) → (printers_left p n kernel).disk ≡ kernel.disk
unfolding printers_left unit_left
disk_printers_left p zero kernel = refl
disk_printers_left p (suc n) kernel = disk_printers_left p n kernel

disk_units_left : (p : ℕ) (kernel : Kernel) → (units_left p kernel).disk ≡ kernel.disk
unfolding units_left
disk_units_left p kernel =
    let afterwards = consoles_left p (length kernel.units.consoles) kernel in
    disk_printers_left p (length afterwards.units.printers) afterwards ∙ disk_consoles_left p (length kernel.units.consoles) kernel

disk_dropped_out : (p : ℕ) (kernel : Kernel) → (dropped_out p kernel).disk ≡ without_call kernel.disk p
unfolding dropped_out
disk_dropped_out p kernel = refl

pub disk_discharged : (kernel : Kernel) (p : ℕ) → (discharged kernel p).disk ≡ without_call kernel.disk p
unfolding discharged relieved
disk_discharged kernel p =
    let gone = dropped_out p kernel in
    disk_units_left p (all_returned (range_with_len 0 32) p (given_back p gone))
    ∙ disk_all_returned (range_with_len 0 32) p (given_back p gone)
    ∙ disk_given_back p gone
    ∙ disk_dropped_out p kernel
