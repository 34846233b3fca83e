-- After each step nobody's end by an abort is due: the ends that are due come by rising slot, and none makes that of a lower
-- slot due, since it takes nobody's message of a mutual exclusion queue.
use Rattle.std.proofs.Common.{◌≡◌, ◌≢◌, ◌∙◌, ℕ, zero, suc, ◌+◌, ◌<◌, Bool, true, false, not, ◌&&◌, ◌||◌, List, [], ◌∷◌, Option, Some, None, inl, inr, refl, sym, ap, arith}
use Rattle.std.proofs.lemmas.Bool.{false≢true, cases_eq, cases_lt, false_from_ne_true}
use Rattle.std.specs.List.{range_with_len}
use Rattle.std.specs.Prelude.{is_some}
use Rattle.mpm_base.specs.Calls.{Taken, Answer}
use Rattle.mpm_base.proofs.Choices.{either}
use Rattle.mpm_procs.specs.Table.{Lives, process_in, call_of}
use Rattle.mpm_procs.specs.declared.process.Process.{Process}
use Rattle.mpm_procs.proofs.MapLaws.{lives_below}
use Rattle.mpm_queues.specs.Queues.{Queues, holds, lowest_held}
use Rattle.mpm_queues.proofs.Finding.{lowest_passes, lowest_none}
use Rattle.mpm_kernel.specs.Kernel.{Kernel, IsSoundKernel, is_aborted, with_changed, dispatched}
use Rattle.mpm_dispatcher.specs.Dispatch.{picked}
use Rattle.mpm_kernel.specs.Waiting.{completion_reply}
use Rattle.mpm_service.specs.Disk.{DiskService}
use Rattle.mpm_service.specs.Places.{is_call_of}
use Rattle.mpm_kernel.specs.Disk.{is_served}
use Rattle.mpm_kernel.specs.Ending.{discharged}
use Rattle.mpm_kernel.proofs.HomeLaws.{aborted_changed, aborted_handed_out, queues_handed_out}
use Rattle.mpm_kernel.proofs.EndingLaws.{homes_discharged, dead_discharged}
use Rattle.mpm_kernel.proofs.HoldingLaws.{still_held}
use Rattle.mpm_kernel.proofs.DiskStays.{disk_handed_out}
use Rattle.mpm_kernel.proofs.DiskLaws.{served_discharged}
use Rattle.mpm_xdos.specs.Aborting.{waits_to_end}
use Rattle.mpm_xdos.specs.Procedures.{entering, entered}
use Rattle.mpm_system.specs.declared.system.System.{System}
use Rattle.mpm_system.specs.Whole.{IsWhole, NobodyAborted}
use Rattle.mpm_system.specs.Answering.{answering_call, recorded, replied}
use Rattle.mpm_machine.specs.Ending.{ended}
use Rattle.mpm_machine.specs.Serving.{is_entry, with_entry, reply_at_entry, fulfilling}
use Rattle.mpm_machine.specs.Finishing.{finished, completion_dequeued, finishing, all_finished}
use Rattle.mpm_machine.specs.Due.{is_due, NobodyDue, ended_if_due, due_terminated, all_due_terminated, with_ends}
use Rattle.mpm_machine.proofs.FinishLaws.{first_finished}
use Rattle.mpm_machine.proofs.WholeStepLaws.{due_lives, whole_if_due, whole_due_terminated}

-- as many ends are put off as before, and the queues and the disk are the same, so that the same ends are due
record SameEnds (old new : Kernel) : Type 0 where
  pub aborted : (q : ℕ) → is_aborted new.dispatcher.procs q ≡ is_aborted old.dispatcher.procs q
  pub queues : new.queues ≡ old.queues
  pub disk : new.disk ≡ old.disk

due_same : (old new : Kernel) (q : ℕ) → SameEnds old new → is_due new q ≡ is_due old q
due_same old new q same =
    ap (λ b. b && not (waits_to_end new q)) (same.aborted q)
    ∙ ap (λ (disk : DiskService). is_aborted old.dispatcher.procs q && not (is_call_of q disk.served || is_some (lowest_held new.queues q))) same.disk
    ∙ ap (λ (queues : Queues). is_aborted old.dispatcher.procs q && not (is_served old q || is_some (lowest_held queues q))) same.queues

same_itself : (kernel : Kernel) → SameEnds kernel kernel
same_itself kernel = record { aborted = λ q. refl; queues = refl; disk = refl }

same_both : (old middle new : Kernel) → SameEnds old middle → SameEnds middle new → SameEnds old new
same_both old middle new first second =
    record { aborted = λ q. second.aborted q ∙ first.aborted q; queues = second.queues ∙ first.queues; disk = second.disk ∙ first.disk }

same_changed : (kernel : Kernel) (p : ℕ) (process : Process) → process.abort_due ≡ (process_in kernel.dispatcher.procs p).abort_due
    → SameEnds kernel (with_changed kernel p process)
same_changed kernel p process same = record { aborted = λ q. aborted_changed kernel p q process same; queues = refl; disk = refl }

-- where held calls that were completed are answered

same_entered : (p : ℕ) (kernel : Kernel) → SameEnds kernel (entered p kernel)
unfolding entered entering
same_entered p kernel = same_changed kernel p _ refl

same_entry : (reply : Answer) (call : Taken) (p : ℕ) (system : System) → SameEnds system.kernel (with_entry reply call p system).kernel
unfolding with_entry
same_entry reply call p system =
    either (SameEnds system.kernel) (is_entry call reply) _ system.kernel (λ _. same_entered p system.kernel) (λ _. same_itself system.kernel)

same_replied : (reply : Answer) (call : Taken) (p seg : ℕ) (system : System) → SameEnds system.kernel (answering_call reply call p seg system).kernel
unfolding answering_call recorded replied
same_replied reply call p seg system = same_changed system.kernel p _ refl

same_fulfilled : (reply : Answer) (call : Taken) (p seg : ℕ) (system : System) → SameEnds system.kernel (fulfilling reply call p seg system).kernel
unfolding fulfilling
same_fulfilled reply call p seg system =
    same_both system.kernel (with_entry reply call p system).kernel _ (same_entry reply call p system)
    (same_replied (reply_at_entry reply call p system) call p seg (with_entry reply call p system))

same_finished : (seg : Option ℕ) (p : ℕ) (system : System) → SameEnds system.kernel (finished seg p system).kernel
same_finished None p system = same_itself system.kernel
same_finished (Some seg) p system = same_fulfilled (completion_reply system.kernel p) (call_of system.kernel.dispatcher.procs p) p seg system

same_first : (p : ℕ) (system : System) → SameEnds system.kernel (first_finished p system).kernel
same_first p system =
    let dequeued = completion_dequeued system in
    same_both system.kernel dequeued.kernel _ (record { aborted = aborted_handed_out system.kernel; queues = queues_handed_out system.kernel; disk = disk_handed_out system.kernel })
    (same_finished (process_in system.kernel.dispatcher.procs p).seg p dequeued)

same_finishing : (ps : List ℕ) (system : System) → SameEnds system.kernel (finishing ps system).kernel
unfolding finishing
same_finishing [] system = same_itself system.kernel
same_finishing (p ∷ ps) system =
    same_both system.kernel (first_finished p system).kernel _ (same_first p system) (same_finishing ps (first_finished p system))

-- whose end was put off, and who still holds what it held, isn't due where it wasn't

still_some : (old new : Queues) (p : ℕ) (was is : Option ℕ) → lowest_held old p ≡ was → lowest_held new p ≡ is
    → ((q : ℕ) → holds old p q ≡ true → holds new p q ≡ true) → is_some was ≡ true → is_some is ≡ true
still_some old new p None is e f kept some = absurd (false≢true some)
still_some old new p (Some q) (Some other) e f kept some = refl
still_some old new p (Some q) None e f kept some =
    let there = lowest_passes (holds old p) q e in
    absurd (false≢true (sym (lowest_none (holds new p) f q there.1) ∙ kept q there.0))

or_still : (a b c d : Bool) → (a ≡ true → c ≡ true) → (b ≡ true → d ≡ true) → (a || b) ≡ true → (c || d) ≡ true
or_still true b c d one other is = ap (λ x. x || d) (one refl)
or_still false b true d one other is = refl
or_still false b false d one other is = other is

not_due : (was is held holds_still : Bool) → (is ≡ true → was ≡ true) → (held ≡ true → holds_still ≡ true) → (was && not held) ≡ false
    → (is && not holds_still) ≡ false
not_due was false held holds_still aborts keeps none = refl
not_due was true held true aborts keeps none = refl
not_due true true true false aborts keeps none = absurd (false≢true (keeps refl))
not_due true true false false aborts keeps none = absurd (false≢true (sym none))
not_due false true held false aborts keeps none = absurd (false≢true (aborts refl))

not_due_still : (old new : Kernel) (p : ℕ) → (is_aborted new.dispatcher.procs p ≡ true → is_aborted old.dispatcher.procs p ≡ true)
    → (is_served old p ≡ true → is_served new p ≡ true) → ((q : ℕ) → holds old.queues p q ≡ true → holds new.queues p q ≡ true)
    → is_due old p ≡ false → is_due new p ≡ false
not_due_still old new p aborts serves kept none =
    not_due (is_aborted old.dispatcher.procs p) (is_aborted new.dispatcher.procs p) (waits_to_end old p) (waits_to_end new p) aborts
    (or_still (is_served old p) (is_some (lowest_held old.queues p)) (is_served new p) (is_some (lowest_held new.queues p)) serves
    (still_some old.queues new.queues p (lowest_held old.queues p) (lowest_held new.queues p) refl refl kept)) none

-- so an end makes nobody's end due, and its own isn't due after it

others_stay : (p other : ℕ) (system : System) → IsWhole system → Lives system.kernel.dispatcher.procs p → other ≢ p → is_due system.kernel other ≡ false
    → is_due (ended p system).kernel other ≡ false
unfolding ended
others_stay p other system w h apart none =
    not_due_still system.kernel (discharged system.kernel p) other ((homes_discharged system.kernel p w.sound h).aborts other)
    (served_discharged system.kernel p other apart) (λ q held. still_held system.kernel p other q w.sound h apart held) none

own_is_over : (p : ℕ) (system : System) → IsWhole system → Lives system.kernel.dispatcher.procs p → is_due (ended p system).kernel p ≡ false
unfolding ended
own_is_over p system w h =
    let afterwards = discharged system.kernel p in
    ap (λ b. (b && (process_in afterwards.dispatcher.procs p).abort_due) && not (waits_to_end afterwards p)) (dead_discharged system.kernel p w.sound h)

-- and nobody of a slot up to its own is

after_one : (slot p : ℕ) (system : System) → IsWhole system → (p ≢ slot → is_due system.kernel p ≡ false)
    → is_due (ended_if_due slot system).kernel p ≡ false
unfolding ended_if_due
after_one slot p system w others =
    let gone = ended slot system in
    either (λ (s : System). is_due s.kernel p ≡ false) (is_due system.kernel slot) _ _
    (λ due. due_same gone.kernel (all_finished gone).kernel p (same_finishing gone.kernel.dispatcher.completed gone) ∙ elim (cases_eq p slot) [
      | inl same ↦ ap (is_due gone.kernel) same ∙ own_is_over slot system w (due_lives system.kernel slot due)
      | inr apart ↦ others_stay slot p system w (due_lives system.kernel slot due) apart (others apart)
    ])
    (λ none. elim (cases_eq p slot) [
      | inl same ↦ ap (is_due system.kernel) same ∙ none
      | inr apart ↦ others apart
    ])

abbrev NobodyBelow : ℕ → Kernel → Type 0
NobodyBelow slot kernel = (p : ℕ) → p < slot → is_due kernel p ≡ false

nobody_below : (n slot : ℕ) (system : System) → IsWhole system → NobodyBelow slot system.kernel
    → NobodyBelow (slot + n) (due_terminated (range_with_len slot n) system).kernel
unfolding due_terminated
nobody_below zero slot system w none = λ p below. none p (omega (arith, below))
nobody_below (suc n) slot system w none = λ p below.
    nobody_below n (slot + 1) (ended_if_due slot system) (whole_if_due slot system w)
    (λ q less. after_one slot q system w (λ apart. none q (omega (arith, less, apart)))) p (omega (arith, below))

-- there are no more slots

nobody_at_all : (kernel : Kernel) → IsSoundKernel kernel → NobodyBelow 32 kernel → NobodyDue kernel
unfolding NobodyDue
nobody_at_all kernel s none = λ p. elim (cases_lt p 32) [
  | inl below ↦ none p below
  | inr past ↦ false_from_ne_true (is_due kernel p) (λ due. omega (arith, past, lives_below kernel.dispatcher.procs p s.slots (due_lives kernel p due)))
]

pub due_with_ends : (system : System) → IsWhole system → NobodyDue (with_ends system).kernel
unfolding with_ends
due_with_ends system w =
    nobody_at_all (all_due_terminated system).kernel (whole_due_terminated (range_with_len 0 32) system w).sound
    (nobody_below 32 0 system w (λ p below. absurd (omega (arith, below))))

-- it is picked who runs

pub due_picked : (instruction : Bool) (kernel : Kernel) → NobodyDue kernel → NobodyDue (dispatched (picked instruction) kernel)
unfolding NobodyDue
due_picked instruction kernel none = λ p. none p

pub none_aborted_due : (kernel : Kernel) → NobodyAborted kernel → NobodyDue kernel
unfolding NobodyDue
none_aborted_due kernel none = λ p. ap (λ b. b && not (waits_to_end kernel p)) (none p)
