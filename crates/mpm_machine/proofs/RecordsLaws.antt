-- Records of completed calls: they come out one after another, and what becomes of a system else doesn't depend on those that it has.
use Rattle.std.proofs.Common.{◌≡◌, ◌∙◌, ℕ, Bool, true, false, List, [], ◌∷◌, ◌++◌, Option, Some, None, if◌then◌else◌, refl, sym, ap, append_assoc}
use Rattle.std.proofs.lemmas.List.{append-nil}
use Rattle.std.specs.List.{range_with_len}
use Rattle.mpm_procs.specs.Table.{process_in, call_of}
use Rattle.mpm_kernel.specs.Waiting.{completion_reply}
use Rattle.mpm_base.specs.Calls.{Taken}
use Rattle.mpm_render.specs.Completions.{Completion}
use Rattle.mpm_render.specs.Outputs.{Output, Completed}
use Rattle.mpm_system.specs.declared.system.System.{System}
use Rattle.mpm_system.specs.Whole.{SystemChange}
use Rattle.mpm_system.specs.Answering.{completion, recorded, replied, answering_call}
use Rattle.mpm_system.specs.Deferring.{noted}
use Rattle.mpm_system.specs.Written.{recorded_behind, records_out}
use Rattle.mpm_system.proofs.WrittenLaws.{recorded_after}
use Rattle.mpm_machine.specs.Ending.{ended}
use Rattle.mpm_machine.specs.Serving.{with_entry, reply_at_entry, fulfilling}
use Rattle.mpm_machine.specs.Finishing.{finished, completion_dequeued, finishing, all_finished}
use Rattle.mpm_machine.specs.Due.{is_due, ended_if_due, due_terminated, with_ends}
use Rattle.mpm_machine.specs.After.{followed}

-- after other outputs, and after other records
pub recorded_twice : (calls : List Completion) (said before : List Output)
    → recorded_behind calls (said ++ before) ≡ recorded_behind calls (said ++ []) ++ before
recorded_twice calls said before =
    recorded_after calls (said ++ before)
    ∙ sym (append_assoc (recorded_behind calls []) said before)
    ∙ ap (λ (first : List Output). first ++ before)
    (ap (λ (last : List Output). recorded_behind calls [] ++ last) (sym (append-nil said)) ∙ sym (recorded_after calls (said ++ [])))

recorded_both : (one two : List Completion) (outputs : List Output) → recorded_behind (one ++ two) outputs ≡ recorded_behind two (recorded_behind one outputs)
unfolding recorded_behind
recorded_both [] two outputs = refl
recorded_both (call ∷ one) two outputs = recorded_both one two (Completed call ∷ outputs)

recorded_apart : (one two : List Completion) → recorded_behind (one ++ two) [] ≡ recorded_behind two [] ++ recorded_behind one []
recorded_apart one two = recorded_both one two [] ∙ recorded_after two (recorded_behind one [])

-- other records stand before those of a system

abbrev pub beside : List Completion → System → System
beside calls system = record system { records = calls ++ system.records }

abbrev pub cleared : System → System
cleared system = record system { records = [] }

-- a part of a step that leaves them there
abbrev pub KeepsRecords : (System → System) → Type 0
KeepsRecords part = (calls : List Completion) (system : System) → part (beside calls system) ≡ beside calls (part system)

beside_itself : (system : System) → system ≡ beside system.records (cleared system)
beside_itself system = ap (λ (calls : List Completion). record system { records = calls }) (sym (append-nil system.records))

-- then they come out before its own
pub out_apart : (part : System → System) (system : System) → KeepsRecords part
    → records_out (part system) ≡ followed (records_out system) (records_out (part (cleared system)))
out_apart part system keeps =
    let rest = part (cleared system) in
    ap (λ (s : System). records_out (part s)) (beside_itself system)
    ∙ ap records_out (keeps system.records (cleared system))
    ∙ ap (λ (emitted : List Output). let change : SystemChange = record { system = cleared rest; emitted = emitted } in change) (recorded_apart system.records rest.records)

-- such are the answers to held calls, and ends

recorded_beside : (calls : List Completion) (call : Taken) (p : ℕ) (system : System) → recorded call p (beside calls system) ≡ beside calls (recorded call p system)
unfolding recorded completion
recorded_beside calls call p system =
    ap (λ (all : List Completion). record system { records = all }) (append_assoc calls system.records (completion call p system ∷ []))

finished_beside : (seg : Option ℕ) (p : ℕ) → KeepsRecords (finished seg p)
unfolding fulfilling answering_call with_entry reply_at_entry replied
finished_beside None p calls system = refl
finished_beside (Some seg) p calls system =
    let call = call_of system.kernel.dispatcher.procs p in
    let reply = completion_reply system.kernel p in
    recorded_beside calls call p (replied (reply_at_entry reply call p system) call p seg (with_entry reply call p system))

finishing_beside : (ps : List ℕ) → KeepsRecords (finishing ps)
unfolding finishing
finishing_beside [] calls system = refl
finishing_beside (p ∷ ps) calls system =
    let seg = (process_in system.kernel.dispatcher.procs p).seg in
    ap (finishing ps) (finished_beside seg p calls (completion_dequeued system)) ∙ finishing_beside ps calls (finished seg p (completion_dequeued system))

either_beside : (b : Bool) (calls : List Completion) (one two one' two' : System) → one' ≡ beside calls one → two' ≡ beside calls two
    → (if b then one' else two') ≡ beside calls (if b then one else two)
either_beside true calls one two one' two' is was = is
either_beside false calls one two one' two' is was = was

due_beside : (p : ℕ) → KeepsRecords (ended_if_due p)
unfolding ended_if_due ended
due_beside p calls system =
    either_beside (is_due system.kernel p) calls (all_finished (ended p system)) system _ _
    (finishing_beside (ended p system).kernel.dispatcher.completed calls (ended p system)) refl

pub terminated_beside : (ps : List ℕ) → KeepsRecords (due_terminated ps)
unfolding due_terminated
terminated_beside [] calls system = refl
terminated_beside (p ∷ ps) calls system = ap (due_terminated ps) (due_beside p calls system) ∙ terminated_beside ps calls (ended_if_due p system)

pub ends_beside : KeepsRecords with_ends
unfolding with_ends
ends_beside calls system = ap noted (terminated_beside (range_with_len 0 32) calls system)
