-- Who waits to write to a queue waits on as events come, and as other processes end or leave their procedures: only a call completes his.
use Rattle.std.proofs.Common.{◌≡◌, ◌≢◌, ◌∙◌, ℕ, ◌+◌, ◌<◌, Bool, true, List, [], ◌∷◌, length, Option, Some, None, inl, inr, refl, sym, ap, subst, arith}
use Rattle.std.specs.Prelude.{nat_lt, is_some}
use Rattle.std.specs.List.{range_with_len}
use Rattle.std.specs.Option.{option_map_or}
use Rattle.std.proofs.lemmas.Bool.{cases_lt}
use Rattle.std.proofs.lemmas.Option.{none-some, same_Some}
use Rattle.mpm_base.proofs.Choices.{either}
use Rattle.mpm_base.specs.Calls.{word_at}
use Rattle.mpm_base.specs.declared.call.Outcome.TheVariants.{Held}
use Rattle.mpm_base.specs.declared.functions.TheConstants.{WRITE_QUEUE}
use Rattle.mpm_flags.specs.States.{flag_at, with_flag, after_set, set_answer}
use Rattle.mpm_flags.specs.declared.flags.Flag.{Flag}
use Rattle.mpm_flags.specs.declared.flags.Flag.TheVariants.{Clear, Set, Waits}
use Rattle.mpm_clock.proofs.DelayLaws.{delays_ticked}
use Rattle.mpm_consoles.specs.Consoles.{console_at, owner_of}
use Rattle.mpm_consoles.specs.Handling.{keyed, key_answer}
use Rattle.mpm_consoles.specs.declared.keys.KeyDone.{KeyDone}
use Rattle.mpm_consoles.specs.declared.keys.KeyDone.TheVariants.{Stored, Dropped, Wakes, Aborts, Passes, Nothing}
use Rattle.mpm_base.specs.declared.unit.Unit.TheVariants.{Console as ConsoleUnit}
use Rattle.mpm_ready.specs.Order.{Member}
use Rattle.mpm_ready.specs.Tables.{list_at, list_of}
use Rattle.mpm_ready.proofs.OrderLaws.{first_is_in}
use Rattle.mpm_ready.proofs.TableLaws.{list_of_inserted, list_of_known, list_of_removed_other}
use Rattle.mpm_procs.specs.Table.{process_in, call_of}
use Rattle.mpm_procs.proofs.MapLaws.{lives_below}
use Rattle.mpm_queues.specs.Queues.{Queues, is_made, IsMade, queue_in, readers_of, holds, waits, AreSoundQueues}
use Rattle.mpm_queues.specs.Queue.{is_full}
use Rattle.mpm_queues.specs.Handling.{first_reader, write_outcome, woken_by, enlisted, queues_without_waiter}
use Rattle.mpm_queues.specs.declared.queues.QueueOutcome.{QueueOutcome}
use Rattle.mpm_queues.specs.declared.queues.QueueOutcome.TheVariants.{Done as Passed, NotNow}
use Rattle.mpm_queues.proofs.SoundLaws.{made_below}
use Rattle.mpm_queues.proofs.WaitLaws.{write_other}
use Rattle.mpm_script.specs.declared.event.Event.{Event}
use Rattle.mpm_script.specs.declared.event.Event.TheVariants.{Tick, Key, Ready, Int}
use Rattle.mpm_dispatcher.specs.Dispatch.{lists_ready, also_completed, with_other}
use Rattle.mpm_kernel.specs.Awaiting.{completions}
use Rattle.mpm_kernel.specs.Kernel.{Kernel, IsSoundKernel, LivesInKernel, MayCall, poll_list, call_begun, afresh, dispatched}
use Rattle.mpm_kernel.specs.Called.{Called}
use Rattle.mpm_kernel.specs.Calls.{called, does_echo}
use Rattle.mpm_kernel.specs.Columns.{spoke}
use Rattle.mpm_kernel.specs.Consoling.{is_of_resident, key_done, key_came, echoed}
use Rattle.mpm_kernel.specs.Ending.{dropped_out, returned, all_returned, units_left, relieved, discharged, IsLeaving}
use Rattle.mpm_kernel.specs.Events.{clock_ticked, pollers, device_ready, flag_came, happens, happened}
use Rattle.mpm_kernel.specs.Procedures.{outside, given_back_to, given_back}
use Rattle.mpm_kernel.specs.Queueing.{pointed, queued, blocked_or_refused, given_to, was_written, write_at}
use Rattle.mpm_kernel.specs.Waiting.{is_flag, with_woken, signalled}
use Rattle.mpm_kernel.proofs.AwaitingEnds.{fewer_still}
use Rattle.mpm_kernel.proofs.AwaitingLaws.{apart_from, one_more, one_of_all}
use Rattle.mpm_kernel.proofs.EndingLaws.{sound_dropped, lives_dropped, leaves_given_back, leaves_returned, leaves_messages}
use Rattle.mpm_kernel.proofs.LeavingLaws.{left_units}
use Rattle.mpm_kernel.proofs.PlaceLaws.{all_members, not_equal}
use Rattle.mpm_kernel.proofs.ProcedureLaws.{sound_outside}
use Rattle.mpm_kernel.proofs.QueueingLaws.{ready_waits_nowhere, pointed_made}
use Rattle.mpm_kernel.proofs.RowLaws.{numbered}
use Rattle.mpm_kernel.proofs.SoundLaws.{flag_below, flags_from, waiter_own, sound_begun, sound_afresh}
use Rattle.mpm_kernel.proofs.Soundness.{listed_once}

-- a process waits to write to a queue, and its held call wasn't completed
pub record WaitsToWrite (w q : ℕ) (kernel : Kernel) : Type 0 where
  pub waits : list_of kernel.queues.waiters w ≡ Some (32 + q)
  pub held : completions w kernel.dispatcher.completed ≡ 0

-- a call 139 that is held waits so

held_if : (outcome : QueueOutcome) (p n : ℕ) (kernel : Kernel) → MayCall p kernel → IsMade kernel.queues n → kernel.dispatcher.completed ≡ []
    → (was_written outcome true p n kernel).outcome ≡ Held → WaitsToWrite p n (was_written outcome true p n kernel).kernel
unfolding was_written blocked_or_refused queued enlisted
held_if (Passed other) p n kernel may made none held = absurd (cc)
held_if NotNow p n kernel may made none held =
    let t = kernel.queues in
    let member : Member = record { slot = p; priority = (process_in kernel.dispatcher.procs p).priority } in
    record {
      waits = list_of_inserted t.waiters (32 + n) member may.sound.queues.table (omega (arith, made_below t n may.sound.queues made))
          (lives_below kernel.dispatcher.procs p may.sound.slots may.lives) (ready_waits_nowhere kernel p may.sound may.ready);
      held = ap (completions p) none;
    }

held_at : (slot : Option ℕ) (p q : ℕ) (kernel : Kernel) → MayCall p kernel → slot ≡ Some q → IsMade kernel.queues q → kernel.dispatcher.completed ≡ []
    → (write_at slot true p kernel).outcome ≡ Held → WaitsToWrite p q (write_at slot true p kernel).kernel
unfolding write_at
held_at None p q kernel may is made none held = absurd (none-some q is)
held_at (Some n) p q kernel may is made none held =
    let same = same_Some n q is in
    subst (λ k. WaitsToWrite p k (was_written (write_outcome kernel.queues n) true p n kernel).kernel) same
    (held_if (write_outcome kernel.queues n) p n kernel may (subst (IsMade kernel.queues) (sym same) made) none held)

pub held_writer : (p q : ℕ) (kernel : Kernel) → MayCall p kernel → let call = call_of kernel.dispatcher.procs p in call.function ≡ WRITE_QUEUE
    → pointed kernel.queues (word_at call 0) ≡ Some q → (called p kernel).outcome ≡ Held → WaitsToWrite p q (called p kernel).kernel
held_writer p q kernel may is names =
    let call = call_of kernel.dispatcher.procs p in
    let begun = call_begun (does_echo call.function) kernel in
    subst (λ (c : Called). c.outcome ≡ Held → WaitsToWrite p q c.kernel) (numbered p begun WRITE_QUEUE is)
    (held_at (pointed begun.queues (word_at call 0)) p q begun (record { sound = sound_begun (does_echo call.function) kernel may.sound; lives = may.lives; ready = may.ready }) names
    (pointed_made kernel.queues (word_at call 0) q names) refl)

-- an event comes

waits_once : (w q : ℕ) (kernel : Kernel) → WaitsToWrite w q kernel → waits kernel.queues w ≡ 1
unfolding waits
waits_once w q kernel a = ap (λ (o : Option ℕ). option_map_or (λ _. 1) o 0) a.waits

ticked_leaves : (w q : ℕ) (kernel : Kernel) → IsSoundKernel kernel → WaitsToWrite w q kernel → WaitsToWrite w q (clock_ticked kernel)
unfolding clock_ticked
ticked_leaves w q kernel s a =
    record { waits = a.waits; held = omega (arith, delays_ticked kernel.clock.delays w, s.once w, waits_once w q kernel a) }

none_polls : (w q device : ℕ) (kernel : Kernel) → IsSoundKernel kernel → WaitsToWrite w q kernel → completions w (pollers kernel device) ≡ 0
unfolding pollers
none_polls w q device kernel s a =
    let lists = kernel.dispatcher.lists in
    let polls = all_members (λ p. list_of lists p ≡ Some (poll_list device)) (list_at lists (poll_list device)) (λ p here. list_of_known lists p (poll_list device) s.table here) in
    elim (cases_lt 0 (completions w (pollers kernel device))) [
      | inl some ↦
          absurd (omega (arith, waits_once w q kernel a, listed_once kernel w (poll_list device) s (one_of_all (λ p. list_of lists p ≡ Some (poll_list device)) w (pollers kernel device) polls some)))
      | inr none ↦ omega (arith, none)
    ]

device_leaves : (w q device byte : ℕ) (kernel : Kernel) → IsSoundKernel kernel → WaitsToWrite w q kernel → WaitsToWrite w q (device_ready kernel device byte)
unfolding device_ready
device_leaves w q device byte kernel s a = record { waits = a.waits; held = none_polls w q device kernel s a }

woken_leaves : (w q : ℕ) (state : Flag) (flag : ℕ) (kernel : Kernel) → IsSoundKernel kernel → flag < 32 → flag_at kernel.flags flag ≡ state → WaitsToWrite w q kernel
    → WaitsToWrite w q (with_woken (set_answer state) (record kernel { flags = with_flag kernel.flags flag (after_set state) }))
unfolding with_woken
woken_leaves w q Clear flag kernel s below is a = record { waits = a.waits; held = a.held }
woken_leaves w q Set flag kernel s below is a = record { waits = a.waits; held = a.held }
woken_leaves w q (Waits p) flag kernel s below is a =
    let other : p ≢ w = λ same.
    omega (arith, s.once p, flags_from kernel flag (Waits p) Clear p s below is, waiter_own p p refl, waits_once w q kernel a, ap (waits kernel.queues) same) in
    record { waits = a.waits; held = omega (arith, one_more w p [], apart_from p w other) }

flag_leaves : (w q flag : ℕ) (kernel : Kernel) → IsSoundKernel kernel → WaitsToWrite w q kernel → WaitsToWrite w q (flag_came flag kernel)
unfolding flag_came signalled
flag_leaves w q flag kernel s a =
    either (WaitsToWrite w q) (is_flag flag) _ _ (λ is. woken_leaves w q (flag_at kernel.flags flag) flag kernel s (flag_below flag is) refl a) (λ _. a)

key_done_leaves : (w q : ℕ) (key : KeyDone) (console : ℕ) (waited : Bool) (kernel : Kernel) → WaitsToWrite w q kernel → WaitsToWrite w q (key_done key console waited kernel)
unfolding key_done echoed spoke
key_done_leaves w q Stored console waited kernel a = a
key_done_leaves w q Dropped console waited kernel a = a
key_done_leaves w q Nothing console waited kernel a = a
key_done_leaves w q (Wakes p) console waited kernel a = record { waits = a.waits; held = a.held }
key_done_leaves w q (Aborts p) console waited kernel a = record { waits = a.waits; held = a.held }
key_done_leaves w q (Passes from to) console waited kernel a = record { waits = a.waits; held = a.held }

key_leaves : (w q console byte : ℕ) (kernel : Kernel) → WaitsToWrite w q kernel → WaitsToWrite w q (key_came console byte kernel)
unfolding key_came
key_leaves w q console byte kernel a =
    let resident = is_of_resident kernel.dispatcher.procs (owner_of kernel.units (ConsoleUnit console)) in
    either (WaitsToWrite w q) (nat_lt console (length kernel.units.consoles)) _ _
    (λ _. key_done_leaves w q (key_answer kernel.units console byte resident) console (is_some (console_at kernel.units console).awaits)
    (record kernel { units = keyed kernel.units console byte resident }) (record { waits = a.waits; held = a.held }))
    (λ _. a)

happens_leaves : (w q : ℕ) (event : Event) (kernel : Kernel) → IsSoundKernel kernel → WaitsToWrite w q kernel → WaitsToWrite w q (happens event kernel)
unfolding happens
happens_leaves w q Tick kernel s a = ticked_leaves w q kernel s a
happens_leaves w q (Key console byte) kernel s a = key_leaves w q console byte kernel a
happens_leaves w q (Ready device byte) kernel s a = device_leaves w q device byte kernel s a
happens_leaves w q (Int flag) kernel s a = flag_leaves w q flag kernel s a

pub event_leaves_writer : (w q : ℕ) (event : Event) (kernel : Kernel) → IsSoundKernel kernel → WaitsToWrite w q kernel → WaitsToWrite w q (happened event kernel)
event_leaves_writer w q event kernel s a =
    happens_leaves w q event (afresh kernel) (sound_afresh kernel s) (record { waits = a.waits; held = refl })

-- another process ends

-- a message that goes back completes the call of a reader
reader_of : (t : Queues) (q r : ℕ) → woken_by (write_outcome t q) ≡ Some r → first_reader t q ≡ Some r
unfolding write_outcome
reader_of t q r is =
    either (λ (o : QueueOutcome). woken_by o ≡ Some r → first_reader t q ≡ Some r) (is_full (queue_in t q)) NotNow (Passed (first_reader t q))
    (λ _ none. absurd (none-some r none)) (λ _ some. some) is

no_reader : (t : Queues) (w q n : ℕ) → AreSoundQueues t → IsMade t n → list_of t.waiters w ≡ Some (32 + q) → woken_by (write_outcome t n) ≢ Some w
no_reader t w q n s made writes = λ is.
    let reads = list_of_known t.waiters w n s.table (first_is_in (readers_of t n) w (reader_of t n w is)) in
    omega (arith, made_below t n s made, same_Some n (32 + q) (sym reads ∙ writes))

other_leaves : (w q : ℕ) (other : Option ℕ) (kernel : Kernel) → other ≢ Some w → WaitsToWrite w q kernel → WaitsToWrite w q (dispatched (with_other other) kernel)
unfolding lists_ready also_completed
other_leaves w q None kernel apart a = record { waits = a.waits; held = a.held }
other_leaves w q (Some r) kernel apart a =
    record { waits = a.waits; held = omega (arith, one_more w r kernel.dispatcher.completed, apart_from r w (λ same. apart (ap (λ x. Some x) same)), a.held) }

back_leaves : (w q : ℕ) (queue : Option ℕ) (p : ℕ) (kernel : Kernel) → IsSoundKernel kernel → WaitsToWrite w q kernel → WaitsToWrite w q (given_back_to queue p kernel)
unfolding given_back_to
back_leaves w q None p kernel s a = a
back_leaves w q (Some n) p kernel s a =
    let t = kernel.queues in
    either (WaitsToWrite w q) (is_made t n) _ _
    (λ made.
    let apart = no_reader t w q n s.queues made a.waits in
    other_leaves w q (woken_by (write_outcome t n)) (given_to kernel p n) apart
    (record { waits = write_other t p n kernel.dispatcher.procs w s.queues apart ∙ a.waits; held = a.held }))
    (λ _. a)

outside_leaves : (w q p : ℕ) (kernel : Kernel) → WaitsToWrite w q kernel → WaitsToWrite w q (outside p kernel)
unfolding outside
outside_leaves w q p kernel a =
    record { waits = a.waits; held = omega (arith, fewer_still w p kernel.dispatcher.completed kernel.dispatcher.procs, a.held) }

-- one that leaves its procedure too
pub return_leaves_writer : (w q p : ℕ) (kernel : Kernel) → LivesInKernel p kernel → WaitsToWrite w q kernel → WaitsToWrite w q (given_back p kernel)
unfolding given_back
return_leaves_writer w q p kernel l a =
    back_leaves w q (process_in kernel.dispatcher.procs p).procedure p (outside p kernel) (sound_outside p kernel l.sound l.lives) (outside_leaves w q p kernel a)

returned_leaves : (w q p n : ℕ) (kernel : Kernel) → IsSoundKernel kernel → WaitsToWrite w q kernel → WaitsToWrite w q (returned p n kernel)
unfolding returned
returned_leaves w q p n kernel s a = either (WaitsToWrite w q) (holds kernel.queues p n) _ _ (λ _. back_leaves w q (Some n) p kernel s a) (λ _. a)

all_returned_leaves : (w q : ℕ) (ns : List ℕ) (p : ℕ) (kernel : Kernel) → IsLeaving p kernel → WaitsToWrite w q kernel → WaitsToWrite w q (all_returned ns p kernel)
unfolding all_returned
all_returned_leaves w q [] p kernel l a = a
all_returned_leaves w q (n ∷ ns) p kernel l a =
    all_returned_leaves w q ns p (returned p n kernel) (leaves_returned p n kernel l) (returned_leaves w q p n kernel l.sound a)

units_left_leaves : (w q p : ℕ) (kernel : Kernel) → IsSoundKernel kernel → WaitsToWrite w q kernel → WaitsToWrite w q (units_left p kernel)
units_left_leaves w q p kernel s a =
    let left = left_units p kernel s in
    record { waits = ap (λ (t : Queues). list_of t.waiters w) left.queues ∙ a.waits; held = ap (completions w) left.completed ∙ a.held }

dropped_leaves : (w q p : ℕ) (kernel : Kernel) → IsSoundKernel kernel → w ≢ p → WaitsToWrite w q kernel → WaitsToWrite w q (dropped_out p kernel)
unfolding dropped_out queues_without_waiter
dropped_leaves w q p kernel s other a =
    record { waits = list_of_removed_other kernel.queues.waiters p w s.queues.table (not_equal p w (λ same. other (sym same))) ∙ a.waits; held = a.held }

relieved_leaves : (w q p : ℕ) (kernel : Kernel) → LivesInKernel p kernel → w ≢ p → WaitsToWrite w q kernel → WaitsToWrite w q (relieved p kernel)
unfolding relieved
relieved_leaves w q p kernel l other a =
    let gone = dropped_out p kernel in
    let there : LivesInKernel p gone = record { sound = sound_dropped p kernel l.sound l.lives; lives = lives_dropped p p kernel l.lives } in
    units_left_leaves w q p (all_returned (range_with_len 0 32) p (given_back p gone)) (leaves_messages p kernel l.sound l.lives).sound
    (all_returned_leaves w q (range_with_len 0 32) p (given_back p gone) (leaves_given_back p kernel l.sound l.lives)
    (return_leaves_writer w q p gone there (dropped_leaves w q p kernel l.sound other a)))

pub end_leaves_writer : (w q p : ℕ) (kernel : Kernel) → LivesInKernel p kernel → w ≢ p → WaitsToWrite w q kernel → WaitsToWrite w q (discharged kernel p)
unfolding discharged
end_leaves_writer w q p kernel l other a =
    let b = relieved_leaves w q p kernel l other a in record { waits = b.waits; held = b.held }
