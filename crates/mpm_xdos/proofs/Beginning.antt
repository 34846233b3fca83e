-- What creating processes leaves: a sound kernel, in which every one of them lives.
use Rattle.std.proofs.Common.{◌≡◌, ◌∙◌, ℕ, ◌+◌, ◌≤◌, true, List, [], ◌∷◌, Option, Some, None, length, refl, sym, arith}
use Rattle.std.proofs.lemmas.Bool.{and_parts}
use Rattle.std.proofs.lemmas.Bool.Decides.{nat_tests}
use Rattle.std.specs.Prelude.{nat_le}
use Rattle.std.specs.List.{list_all}
use Rattle.mpm_base.proofs.Choices.{either}
use Rattle.mpm_procs.specs.Table.{HasSlots, living, lowest_free, free_slots, process_in, call_of}
use Rattle.mpm_procs.specs.declared.process.NewProcess.{NewProcess}
use Rattle.mpm_procs.proofs.MapLaws.{free_below, free_is_dead, slots_added}
use Rattle.mpm_procs.proofs.CountLaws.{living_added, living_and_free, full_from_none}
use Rattle.mpm_kernel.specs.Kernel.{Kernel, IsSoundKernel, dispatched}
use Rattle.mpm_dispatcher.specs.Dispatch.{in_slot}
use Rattle.mpm_kernel.proofs.SoundLaws.{sound_in_slot}
use Rattle.mpm_xdos.specs.Creating.{children_of, has_console, may_create, all_admitted, created}

sound_all : (children : List NewProcess) (kernel : Kernel) → IsSoundKernel kernel → list_all (has_console (length kernel.units.consoles)) children ≡ true
    → IsSoundKernel (all_admitted children kernel)
unfolding all_admitted
sound_all [] kernel s consoles = s
sound_all (new ∷ more) kernel s consoles =
    let slot = lowest_free kernel.dispatcher.procs in
    let next = dispatched (in_slot new slot) kernel in
    let parts = and_parts (has_console (length kernel.units.consoles) new) (list_all (has_console (length kernel.units.consoles)) more) consoles in
    let here : has_console (length kernel.units.consoles) new ≡ true = parts.0 in
    sound_all more next (sound_in_slot kernel new slot s refl (grind (arith, nat_tests, here)))
    parts.1

pub sound_created : (kernel : Kernel) (p base : ℕ) → IsSoundKernel kernel → IsSoundKernel (created kernel p base)
unfolding created may_create
sound_created kernel p base s =
    let children = children_of (process_in kernel.dispatcher.procs p) base (call_of kernel.dispatcher.procs p).bytes in
    either IsSoundKernel (may_create kernel children) _ _ (λ may. sound_all children kernel s (and_parts (nat_le (length children) (free_slots kernel.dispatcher.procs)) _ may).1) (λ _. s)

-- a process begins where a slot is free
one_begins : (kernel : Kernel) (new : NewProcess) (slot : Option ℕ) → HasSlots kernel.dispatcher.procs → lowest_free kernel.dispatcher.procs ≡ slot → 1 ≤ free_slots kernel.dispatcher.procs
    → HasSlots (dispatched (in_slot new slot) kernel).dispatcher.procs × (living (dispatched (in_slot new slot) kernel).dispatcher.procs ≡ living kernel.dispatcher.procs + 1)
one_begins kernel new None has none some =
    absurd (omega (arith, full_from_none kernel.dispatcher.procs has none, living_and_free kernel.dispatcher.procs has))
one_begins kernel new (Some p) has free some =
    (slots_added kernel.dispatcher.procs p new has, living_added kernel.dispatcher.procs p new (free_below kernel.dispatcher.procs p free) (free_is_dead kernel.dispatcher.procs p free))

-- where there are slots for all processes, all of them begin
pub all_begin : (children : List NewProcess) (kernel : Kernel) → HasSlots kernel.dispatcher.procs → length children ≤ free_slots kernel.dispatcher.procs
    → living (all_admitted children kernel).dispatcher.procs ≡ living kernel.dispatcher.procs + length children
unfolding all_admitted
all_begin [] kernel has room = omega arith
all_begin (new ∷ more) kernel has room =
    let slot = lowest_free kernel.dispatcher.procs in
    let next = dispatched (in_slot new slot) kernel in
    let begun = one_begins kernel new slot has refl (omega (arith, room)) in
    let same : living next.dispatcher.procs + free_slots next.dispatcher.procs ≡ living kernel.dispatcher.procs + free_slots kernel.dispatcher.procs =
    living_and_free next.dispatcher.procs begun.0 ∙ sym (living_and_free kernel.dispatcher.procs has) in
    all_begin more next begun.0 (omega (arith, same, begun.1, room)) ∙ omega (arith, begun.1)
