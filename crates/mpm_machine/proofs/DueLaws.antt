-- Ends that were put off: one after another, by slot, and none where nobody is aborted.
use Rattle.std.proofs.Common.{◌≡◌, ◌∙◌, ℕ, suc, ◌+◌, ◌-◌, ◌<◌, Bool, true, false, not, ◌&&◌, if◌then◌else◌, List, [], ◌∷◌, ◌++◌, Option, Some, None, Result, OnOk, length, refl, sym, ap, subst, append_assoc, arith}
use Rattle.std.proofs.lemmas.Bool.{false≢true}
use Rattle.std.proofs.lemmas.List.{append-nil}
use Rattle.std.specs.List.{range_with_len}
use Rattle.mpm_base.proofs.Choices.{either}
use Rattle.mpm_render.specs.Completions.{Completion}
use Rattle.mpm_render.specs.Outputs.{Output}
use Rattle.mpm_xdos.specs.Aborting.{waits_to_end}
use Rattle.mpm_dispatcher.specs.Dispatch.{first_completed}
use Rattle.mpm_output.specs.Outside.{Outside, Device}
use Rattle.mpm_output.specs.Writing.{CameOut, DeviceFails, Emits}
use Rattle.mpm_output.proofs.WritingLaws.{wrote_nothing, wrote_after, fails_before, fails_within, fails_same, emits_same, emits_after}
use Rattle.mpm_system.specs.declared.system.System.{System}
use Rattle.mpm_system.specs.Whole.{SystemChange, silent, HasRoomForAll, NobodyAborted}
use Rattle.mpm_system.specs.Deferring.{is_any_aborted, noted}
use Rattle.mpm_system.specs.Written.{recorded_behind, records_out}
use Rattle.mpm_machine.specs.Ending.{ended}
use Rattle.mpm_machine.specs.Finishing.{all_finished, completion_dequeued, command_let_in, finished_or_ended, answered_from, all_answered}
use Rattle.mpm_machine.specs.Due.{is_due, ended_if_due, due_terminated, all_due_terminated, with_ends}
use Rattle.mpm_machine.specs.After.{followed}
use Rattle.mpm_machine.proofs.RecordsLaws.{cleared, out_apart, terminated_beside, ends_beside}
use Rattle.mpm_machine.proofs.FinishLaws.{completed_none, no_completions_finished}

-- nobody's end is due where nobody is aborted
stands_still : (p : ℕ) (system : System) → NobodyAborted system.kernel → ended_if_due p system ≡ system
unfolding ended_if_due
stands_still p system none =
    either (λ (s : System). s ≡ system) (is_due system.kernel p) _ _
    (λ due. absurd (false≢true (sym (ap (λ b. b && not (waits_to_end system.kernel p)) (none p)) ∙ due))) (λ _. refl)

pub nobody_due : (ps : List ℕ) (system : System) → NobodyAborted system.kernel → due_terminated ps system ≡ system
unfolding due_terminated
nobody_due [] system none = refl
nobody_due (p ∷ ps) system none = ap (due_terminated ps) (stands_still p system none) ∙ nobody_due ps system none

pub no_ends : (system : System) → NobodyAborted system.kernel → system.abort_deferred ≡ false → with_ends system ≡ system
unfolding with_ends
no_ends system none off =
    ap noted (nobody_due (range_with_len 0 32) system none)
    ∙ ap (λ b. record system { abort_deferred = b && is_any_aborted system.kernel.dispatcher.procs }) off
    ∙ ap (λ b. record system { abort_deferred = b }) (sym off)

-- where there are no records nothing comes out, and so it is where no end comes

pub nothing_out : (system : System) → system.records ≡ [] → records_out system ≡ silent system
unfolding recorded_behind
nothing_out system none =
    ap (λ (calls : List Completion). let c : SystemChange = record { system = cleared system; emitted = recorded_behind calls [] } in c) none
    ∙ ap (λ (calls : List Completion). silent (record system { records = calls })) (sym none)

pub no_end_out : (p : ℕ) (system : System) → is_due system.kernel p ≡ false → system.records ≡ [] → records_out (ended_if_due p system) ≡ silent system
unfolding ended_if_due
no_end_out p system off none = ap (λ (b : Bool). records_out (if b then all_finished (ended p system) else system)) off ∙ nothing_out system none

pub no_ends_out : (system : System) → NobodyAborted system.kernel → system.abort_deferred ≡ false → system.records ≡ [] → records_out (with_ends system) ≡ silent system
no_ends_out system none off no_records = ap records_out (no_ends system none off) ∙ nothing_out system no_records

-- an end comes
pub room_at_end : (p : ℕ) (old gone : System) → old.records ≡ [] → gone ≡ ended p old → HasRoomForAll (length gone.records)
unfolding ended
room_at_end p old gone none is = omega (arith, ap length none, ap (λ (s : System). length s.records) is)

pub end_out : (p : ℕ) (system now : System) → is_due system.kernel p ≡ true → now ≡ all_finished (ended p system) → records_out now ≡ records_out (ended_if_due p system)
unfolding ended_if_due
end_out p system now due is = ap records_out is ∙ ap (λ (b : Bool). records_out (if b then all_finished (ended p system) else system)) (sym due)

-- the slots so far: what is left of all ends, after what came out so far
pub record DueSo (start now : System) (slot : ℕ) (o m : Outside) : Type 0 where
  pub emitted : List Output
  pub wrote : CameOut o m emitted
  pub none : now.records ≡ []
  pub so : (rest : ℕ) → slot + rest ≡ 32
      → records_out (all_due_terminated start) ≡ followed (record { system = now; emitted = emitted }) (records_out (due_terminated (range_with_len slot rest) now))

pub due_nothing : (start : System) (o : Outside) → start.records ≡ [] → DueSo start start 0 o o
due_nothing start o none = record {
  emitted = [];
  wrote = wrote_nothing o;
  none = none;
  so = λ rest all.
      ap (λ (n : ℕ). records_out (due_terminated (range_with_len 0 n) start)) (all_of rest all)
      ∙ ap (λ (emitted : List Output). record { system = cleared (due_terminated (range_with_len 0 rest) start); emitted = emitted })
      (sym (append-nil (records_out (due_terminated (range_with_len 0 rest) start)).emitted));
}
  where
    all_of : (rest : ℕ) → 0 + rest ≡ 32 → 32 ≡ rest
    all_of rest all = omega arith

-- the next slot, and those after it
one_more : (p : ℕ) (ps : List ℕ) (system : System)
    → records_out (due_terminated (p ∷ ps) system) ≡ followed (records_out (ended_if_due p system)) (records_out (due_terminated ps (records_out (ended_if_due p system)).system))
unfolding due_terminated
one_more p ps system = out_apart (due_terminated ps) (ended_if_due p system) (terminated_beside ps)

followed_all : (one two three : SystemChange) → followed one (followed two three) ≡ followed (record { system = two.system; emitted = two.emitted ++ one.emitted }) three
followed_all one two three =
    ap (λ (emitted : List Output). let c : SystemChange = record { system = three.system; emitted = emitted } in c) (append_assoc three.emitted two.emitted one.emitted)

due_behind : (start now : System) (slot rest : ℕ) (o m : Outside) (so : DueSo start now slot o m) → slot + suc rest ≡ 32
    → records_out (all_due_terminated start)
    ≡ followed (record { system = (records_out (ended_if_due slot now)).system; emitted = (records_out (ended_if_due slot now)).emitted ++ so.emitted })
    (records_out (due_terminated (range_with_len (slot + 1) rest) (records_out (ended_if_due slot now)).system))
due_behind start now slot rest o m so all =
    let first : SystemChange = record { system = now; emitted = so.emitted } in
    so.so (suc rest) all
    ∙ ap (followed first) (one_more slot (range_with_len (slot + 1) rest) now)
    ∙ followed_all first (records_out (ended_if_due slot now)) (records_out (due_terminated (range_with_len (slot + 1) rest) (records_out (ended_if_due slot now)).system))

pub due_more : (start now next : System) (slot : ℕ) (o m n : Outside) → DueSo start now slot o m → next ≡ (records_out (ended_if_due slot now)).system
    → CameOut m n (records_out (ended_if_due slot now)).emitted → DueSo start next (slot + 1) o n
due_more start now next slot o m n so is wrote =
    let one = (records_out (ended_if_due slot now)).emitted in
    record {
      emitted = one ++ so.emitted;
      wrote = wrote_after o m n so.emitted one so.wrote wrote;
      none = ap (λ (s : System). s.records) is;
      so = λ rest all.
          due_behind start now slot rest o m so (omega (arith, all))
          ∙ ap (λ (s : System). followed (record { system = s; emitted = one ++ so.emitted }) (records_out (due_terminated (range_with_len (slot + 1) rest) s))) (sym is);
    }

-- a failure at the end of one of them
pub due_fails : (device : Device) (start now : System) (slot : ℕ) (o m n : Outside) → slot < 32 → DueSo start now slot o m
    → DeviceFails device m n (records_out (ended_if_due slot now)).emitted → DeviceFails device o n (records_out (all_due_terminated start)).emitted
due_fails device start now slot o m n below so failed =
    let rest : ℕ = 31 - slot in
    let one = (records_out (ended_if_due slot now)).emitted in
    let others = (records_out (due_terminated (range_with_len (slot + 1) rest) (records_out (ended_if_due slot now)).system)).emitted in
    fails_same device o n _ _ (ap (λ (c : SystemChange). c.emitted) (sym (due_behind start now slot rest o m so (omega (arith, below)))))
    (fails_within device o m n so.emitted one others so.wrote failed)

-- all slots

due_over : (start now : System) (slot : ℕ) (o m : Outside) (so : DueSo start now slot o m) → 32 ≡ slot
    → records_out (all_due_terminated start) ≡ record { system = now; emitted = so.emitted }
unfolding due_terminated
due_over start now slot o m so end =
    so.so 0 (omega arith) ∙ ap (followed (record { system = now; emitted = so.emitted })) (nothing_out now so.none)

pub due_system : (start now : System) (slot : ℕ) (o m : Outside) → 32 ≡ slot → DueSo start now slot o m → now ≡ (records_out (all_due_terminated start)).system
due_system start now slot o m end so = ap (λ (c : SystemChange). c.system) (sym (due_over start now slot o m so end))

pub due_wrote : (start now : System) (slot : ℕ) (o m : Outside) → 32 ≡ slot → DueSo start now slot o m
    → CameOut o m (records_out (all_due_terminated start)).emitted
due_wrote start now slot o m end so =
    let P : SystemChange → Type 0 = λ c. CameOut o m c.emitted in subst P (sym (due_over start now slot o m so end)) so.wrote

-- nobody is left to be handed out

no_completions_one : (p : ℕ) (system : System) → system.kernel.dispatcher.completed ≡ [] → (ended_if_due p system).kernel.dispatcher.completed ≡ []
unfolding ended_if_due
no_completions_one p system e =
    either (λ (s : System). s.kernel.dispatcher.completed ≡ []) (is_due system.kernel p) _ _ (λ _. no_completions_finished _ (ended p system) refl) (λ _. e)

no_completions_due : (ps : List ℕ) (system : System) → system.kernel.dispatcher.completed ≡ [] → (due_terminated ps system).kernel.dispatcher.completed ≡ []
unfolding due_terminated
no_completions_due [] system e = e
no_completions_due (p ∷ ps) system e = no_completions_due ps (ended_if_due p system) (no_completions_one p system e)

no_completions_from : (first : Option ℕ) (system : System) → first_completed system.kernel.dispatcher.completed ≡ first
    → (answered_from first system).kernel.dispatcher.completed ≡ []
unfolding answered_from
no_completions_from None system none = completed_none system.kernel.dispatcher.completed none
no_completions_from (Some p) system first = no_completions_finished _ (finished_or_ended p (command_let_in p (completion_dequeued system))) refl

pub no_completions_answered : (system : System) → (all_answered system).kernel.dispatcher.completed ≡ []
no_completions_answered system = no_completions_from (first_completed system.kernel.dispatcher.completed) system refl

pub no_completions_ends : (system : System) → system.kernel.dispatcher.completed ≡ [] → (with_ends system).kernel.dispatcher.completed ≡ []
unfolding with_ends
no_completions_ends system none = no_completions_due (range_with_len 0 32) system none

-- the end of a step: the records of those that were answered come out, and then those of ends

ends_behind : (system written : System) → written ≡ (records_out system).system
    → records_out (with_ends system) ≡ followed (records_out system) (records_out (with_ends written))
ends_behind system written was =
    out_apart with_ends system ends_beside ∙ ap (λ (s : System). followed (records_out system) (records_out (with_ends s))) (sym was)

pub records_fail : (device : Device) (system : System) (o n : Outside) → DeviceFails device o n (records_out system).emitted
    → DeviceFails device o n (records_out (with_ends system)).emitted
records_fail device system o n failed =
    fails_same device o n _ _ (ap (λ (c : SystemChange). c.emitted) (sym (ends_behind system (records_out system).system refl)))
    (fails_before device o n (records_out system).emitted (records_out (with_ends (records_out system).system)).emitted failed)

pub emits_ends : {A E : Type 0} (device : E → Device) (r : Result A E) (system written : System) (o m n : Outside)
    → written ≡ (records_out system).system → CameOut o m (records_out system).emitted
    → Emits device m n (records_out (with_ends written)).emitted r → Emits device o n (records_out (with_ends system)).emitted r
emits_ends device r system written o m n was wrote emits =
    emits_same device o n _ _ r (ap (λ (c : SystemChange). c.emitted) (sym (ends_behind system written was))) (emits_after device o m n _ _ r wrote emits)

pub none_written : (answered written : System) → written ≡ (records_out answered).system → written.records ≡ []
none_written answered written is = ap (λ (s : System). s.records) is

pub ends_system : {A E : Type 0} (r : Result A E) (system written new : System) → written ≡ (records_out system).system
    → OnOk r (new ≡ (records_out (with_ends written)).system) → OnOk r (new ≡ (records_out (with_ends system)).system)
ends_system r system written new was ends =
    let P : SystemChange → Type 0 = λ c. OnOk r (new ≡ c.system) in
    subst P (sym (ends_behind system written was)) ends
