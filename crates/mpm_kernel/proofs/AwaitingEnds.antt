-- What an event, an end, a process that begins and a console that is given leave of who is ready and of the completions that are left;
-- and what a process's own calls on queues do.
use Rattle.std.proofs.Common.{◌≡◌, ◌≢◌, ◌∙◌, ℕ, ◌+◌, ◌<◌, ◌≤◌, zero, suc, Bool, true, false, ◌==◌, List, [], ◌∷◌, length, drop, if◌then◌else◌, Option, Some, None, inl, inr, map, refl, sym, ap, subst, arith}
use Rattle.std.specs.Prelude.{nat_lt, ⊤}
use Rattle.std.specs.List.{range_with_len}
use Rattle.std.proofs.lemmas.Bool.{cases_eq}
use Rattle.std.proofs.lemmas.Bool.Decides.{nat_tests}
use Rattle.std.proofs.lemmas.Option.{MatchOption-at_some}
use Rattle.mpm_base.proofs.Choices.{either}
use Rattle.mpm_base.proofs.CountLaws.{one_if, count_cons}
use Rattle.mpm_base.specs.Calls.{Taken}
use Rattle.mpm_base.specs.declared.call.Outcome.{Outcome}
use Rattle.mpm_base.specs.declared.call.Outcome.TheVariants.{Done, Held, Retry, Ended}
use Rattle.mpm_base.specs.declared.functions.TheConstants.{CALL_RESIDENT_SYSTEM_PROCEDURE}
use Rattle.mpm_clock.specs.Delays.{woken_by_tick}
use Rattle.mpm_clock.proofs.DelayLaws.{delays_ticked}
use Rattle.mpm_consoles.specs.Consoles.{owner_of}
use Rattle.mpm_consoles.specs.Handling.{keyed, key_answer}
use Rattle.mpm_consoles.specs.declared.keys.KeyDone.{KeyDone}
use Rattle.mpm_consoles.specs.declared.keys.KeyDone.TheVariants.{Stored, Dropped, Wakes, Aborts, Passes, Nothing}
use Rattle.mpm_base.specs.declared.unit.Unit.TheVariants.{Console as ConsoleUnit, Printer as PrinterUnit}
use Rattle.mpm_dispatcher.specs.Dispatch.{ready, is_ready, lists_behind, rotated_in, first_completed, with_completed, all_woken, in_slot}
use Rattle.mpm_procs.specs.Table.{Table, HasSlots, lives, Lives, process_in, call_of, lowest_free}
use Rattle.mpm_procs.specs.declared.process.NewProcess.{NewProcess}
use Rattle.mpm_procs.proofs.MapLaws.{lives_below, free_below}
use Rattle.mpm_queues.specs.Queues.{is_made, holds}
use Rattle.mpm_queues.specs.Handling.{read_outcome, write_outcome, woken_by}
use Rattle.mpm_queues.specs.declared.queues.QueueOutcome.{QueueOutcome}
use Rattle.mpm_queues.specs.declared.queues.QueueOutcome.TheVariants.{Done as Passed, NotNow}
use Rattle.mpm_ready.specs.Order.{Member, in_list}
use Rattle.mpm_ready.specs.Tables.{list_at, list_of, inserted}
use Rattle.mpm_ready.proofs.TableLaws.{table_inserted, table_removed, list_of_inserted, list_of_inserted_other, list_of_known}
use Rattle.mpm_script.specs.declared.event.Event.{Event}
use Rattle.mpm_script.specs.declared.event.Event.TheVariants.{Tick, Key, Ready, Int}
use Rattle.mpm_kernel.specs.Awaiting.{Awaits, AwaitsIn, completions}
use Rattle.mpm_kernel.specs.Kernel.{Kernel, IsSoundKernel, poll_list, waits_of, afresh, dispatched}
use Rattle.mpm_kernel.specs.Columns.{spoke}
use Rattle.mpm_kernel.specs.Consoling.{IfLives, KeyNames, if_it, is_of_resident, key_done, key_came, echoed, is_from, handed_over, given}
use Rattle.mpm_kernel.specs.Ending.{dropped_out, returned, all_returned, consoles_left, printers_left, units_left, relieved, discharged, IsLeaving}
use Rattle.mpm_kernel.specs.Events.{with_tick, clock_ticked, pollers, device_ready, flag_came, happens, happened, inside_of, with_procedure, with_first, handed_out}
use Rattle.mpm_kernel.specs.Procedures.{procedure_queue, inside, still_completed, outside, given_back_to, given_back}
use Rattle.mpm_kernel.specs.Queueing.{queued, blocked_or_refused, taken_from, was_read, read_at}
use Rattle.mpm_kernel.specs.Waiting.{is_flag}
use Rattle.mpm_kernel.proofs.AwaitingLaws.{awaits_removed, awaits_ready, awaits_heir, awaits_none, awaits_woken, once_in_list, waits_apart, held_by_read, awaits_other}
use Rattle.mpm_kernel.proofs.AwaitingCalls.{awaits_signalled, awaits_given, awaits_unit_left, awaits_owner_made}
use Rattle.mpm_kernel.proofs.EndingLaws.{sound_dropped, lives_dropped, leaves_given_back, leaves_returned, leaves_messages}
use Rattle.mpm_kernel.proofs.LeavingLaws.{sound_consoles_left, sound_printers_left, count_consoles_left, count_printers_left}
use Rattle.mpm_kernel.proofs.PlaceLaws.{all_by_counts, all_members, not_equal}
use Rattle.mpm_kernel.proofs.ProcedureLaws.{sound_outside}
use Rattle.mpm_kernel.proofs.SoundLaws.{flag_below, sound_afresh, is_ready_true}
use Rattle.mpm_kernel.proofs.Soundness.{turned, listed, free_is_unlisted}
use Rattle.mpm_kernel.proofs.UnitLaws.{key_names}

-- fewer completions are left
awaits_fewer : (k q : ℕ) (lists : List (List Member)) (old new : List ℕ) → completions q new ≤ completions q old → Awaits k q lists old → Awaits k q lists new
awaits_fewer k q lists old new fewer a = record {
  table = a.table;
  few = omega (arith, a.few, fewer);
  at_once = λ all. a.at_once (omega (arith, all, fewer));
}

-- a process is handed out

awaits_inside : (k q : ℕ) (slot : Option ℕ) (p message : ℕ) (kernel : Kernel) → AwaitsIn k q kernel → AwaitsIn k q (inside_of slot p message kernel)
unfolding inside
awaits_inside k q None p message kernel a = a
awaits_inside k q (Some n) p message kernel a = a

awaits_first : (k q : ℕ) (first : Option ℕ) (kernel : Kernel) → AwaitsIn k q kernel → AwaitsIn k q (with_first first kernel)
unfolding with_procedure
awaits_first k q None kernel a = a
awaits_first k q (Some p) kernel a =
    let call = call_of kernel.dispatcher.procs p in
    either (AwaitsIn k q) (call.function == CALL_RESIDENT_SYSTEM_PROCEDURE) _ _ (λ _. awaits_inside k q (procedure_queue kernel.queues call) p _ kernel a) (λ _. a)

one_completion : (q p : ℕ) (ps : List ℕ) → completions q (p ∷ ps) ≡ one_if (p == q) + completions q ps
one_completion q p ps = count_cons (λ x. x == q) p ps

fewer_left : (q : ℕ) (ps : List ℕ) → completions q (drop 1 ps) ≤ completions q ps
fewer_left q [] = omega arith
fewer_left q (p ∷ ps) = omega (arith, one_completion q p ps)

pub awaits_handed_out : (k q : ℕ) (kernel : Kernel) → AwaitsIn k q kernel → AwaitsIn k q (handed_out kernel)
unfolding handed_out
awaits_handed_out k q kernel a =
    let left = drop 1 kernel.dispatcher.completed in
    awaits_first k q (first_completed kernel.dispatcher.completed) (dispatched (with_completed left) kernel)
    (awaits_fewer k q kernel.dispatcher.lists kernel.dispatcher.completed left (fewer_left q kernel.dispatcher.completed) a)

itself : (q p : ℕ) → p ≡ q → one_if (p == q) ≡ 1
itself q p same = grind (arith, nat_tests, same)

-- one that awaited one completion, and was handed out, awaits none
none_left : (q : ℕ) (lists : List (List Member)) (completed : List ℕ) → first_completed completed ≡ Some q → Awaits 1 q lists completed → Awaits 0 q lists (drop 1 completed)
none_left q lists [] first a = absurd (cc)
none_left q lists (p ∷ ps) first a =
    let same : p ≡ q = cc in
    let count = one_completion q p ps in
    let one = itself q p same in
    record {
      table = a.table;
      few = omega (arith, a.few, count, one);
      at_once = λ _. a.at_once (omega (arith, count, one));
    }

pub awaits_answered : (q : ℕ) (kernel : Kernel) → first_completed kernel.dispatcher.completed ≡ Some q → AwaitsIn 1 q kernel → AwaitsIn 0 q (handed_out kernel)
unfolding handed_out
awaits_answered q kernel first a =
    awaits_first 0 q (first_completed kernel.dispatcher.completed) (dispatched (with_completed (drop 1 kernel.dispatcher.completed)) kernel)
    (none_left q kernel.dispatcher.lists kernel.dispatcher.completed first a)

-- nobody who awaits none is handed out
not_first : (q p : ℕ) (lists : List (List Member)) (completed : List ℕ) → first_completed completed ≡ Some p → Awaits 0 q lists completed → p ≢ q
not_first q p lists [] first a = absurd (cc)
not_first q p lists (r ∷ ps) first a = λ same.
    let here : r ≡ q = cc in
    omega (arith, a.few, one_completion q r ps, itself q r here)

pub none_handed_out : (q p : ℕ) (kernel : Kernel) → first_completed kernel.dispatcher.completed ≡ Some p → AwaitsIn 0 q kernel → p ≢ q
none_handed_out q p kernel first a = not_first q p kernel.dispatcher.lists kernel.dispatcher.completed first a

-- an event comes

behind_if : (k q : ℕ) (b : Bool) (kernel : Kernel) (p : ℕ) → p < 32 → (b ≡ true → list_of kernel.dispatcher.lists p ≡ Some ready) → AwaitsIn k q kernel
    → Awaits k q (if b then rotated_in kernel.dispatcher.procs kernel.dispatcher.lists p else kernel.dispatcher.lists) kernel.dispatcher.completed
behind_if k q true kernel p below is a =
    subst (AwaitsIn k q) (sym (turned kernel p (is refl)))
    (awaits_ready k q kernel.dispatcher.lists kernel.dispatcher.completed p (process_in kernel.dispatcher.procs p).priority below a)
behind_if k q false kernel p below is a = a

awaits_lists_behind : (k q : ℕ) (running : Option ℕ) (kernel : Kernel) → ((p : ℕ) → running ≡ Some p → p < 32) → AwaitsIn k q kernel
    → Awaits k q (lists_behind running kernel.dispatcher.procs kernel.dispatcher.lists) kernel.dispatcher.completed
unfolding lists_behind
awaits_lists_behind k q None kernel below a = a
awaits_lists_behind k q (Some p) kernel below a =
    behind_if k q (is_ready (list_of kernel.dispatcher.lists p)) kernel p (below p refl) (is_ready_true (list_of kernel.dispatcher.lists p)) a

ticked_waits : (kernel : Kernel) (p : ℕ) → 0 < completions p (woken_by_tick kernel.clock.delays) → 0 < waits_of kernel p
ticked_waits kernel p some = omega (arith, delays_ticked kernel.clock.delays p, some)

awaits_ticked : (k q : ℕ) (kernel : Kernel) → IsSoundKernel kernel → AwaitsIn k q kernel → AwaitsIn k q (clock_ticked kernel)
unfolding clock_ticked
awaits_ticked k q kernel s a =
    let woken = woken_by_tick kernel.clock.delays in
    let all = awaits_woken k q kernel.dispatcher.procs woken kernel.dispatcher.lists
    (all_by_counts (λ p. p < 32) woken (λ p some. lives_below kernel.dispatcher.procs p s.slots (s.live p (omega (arith, ticked_waits kernel p some)))))
    (all_by_counts (λ p. list_of kernel.dispatcher.lists p ≡ Some ready → ⊥) woken (λ p some. waits_apart kernel p s (ticked_waits kernel p some)))
    (omega (arith, delays_ticked kernel.clock.delays q, s.once q))
    (awaits_none k q kernel.dispatcher.lists kernel.dispatcher.completed a) in
    awaits_lists_behind k q kernel.dispatcher.running (dispatched (all_woken woken) (with_tick kernel))
    (λ p runs. lives_below kernel.dispatcher.procs p s.slots (listed kernel p ready s (s.runs p runs))) all

only_it : (P : ℕ → Type 0) (b : Bool) (from h : ℕ) → P from → if_it b from ≡ Some h → P h
only_it P true from h all is = (let same : from ≡ h = cc in subst P same all)
only_it P false from h all is = absurd (cc)

awaits_key_done : (k q : ℕ) (key : KeyDone) (console : ℕ) (waited : Bool) (kernel : Kernel) → HasSlots kernel.dispatcher.procs → KeyNames kernel.dispatcher.procs key
    → AwaitsIn k q kernel → AwaitsIn k q (key_done key console waited kernel)
unfolding key_done echoed spoke
awaits_key_done k q Stored console waited kernel slots names a = a
awaits_key_done k q Dropped console waited kernel slots names a = a
awaits_key_done k q Nothing console waited kernel slots names a = a
awaits_key_done k q (Wakes p) console waited kernel slots names a =
    awaits_heir k q (Some p) kernel.dispatcher.procs kernel.dispatcher.lists kernel.dispatcher.completed slots (λ h is. MatchOption-at_some ⊤ (Lives kernel.dispatcher.procs) h is names) a
awaits_key_done k q (Aborts p) console waited kernel slots names a = a
awaits_key_done k q (Passes from to) console waited kernel slots names a =
    let procs = kernel.dispatcher.procs in
    awaits_heir k q (if_it waited from) procs _ kernel.dispatcher.completed slots (λ h is. only_it (Lives procs) waited from h names.0 is)
    (awaits_heir k q to procs kernel.dispatcher.lists kernel.dispatcher.completed slots (λ h is. MatchOption-at_some ⊤ (Lives procs) h is names.1) a)

awaits_key : (k q console byte : ℕ) (kernel : Kernel) → IsSoundKernel kernel → AwaitsIn k q kernel → AwaitsIn k q (key_came console byte kernel)
unfolding key_came
awaits_key k q console byte kernel s a =
    let resident = is_of_resident kernel.dispatcher.procs (owner_of kernel.units (ConsoleUnit console)) in
    either (AwaitsIn k q) (nat_lt console (length kernel.units.consoles)) _ _
    (λ fits. awaits_key_done k q (key_answer kernel.units console byte resident) console _ (record kernel { units = keyed kernel.units console byte resident }) s.slots
    (key_names kernel console byte resident (key_answer kernel.units console byte resident) s (grind (arith, nat_tests, fits)) refl) a)
    (λ _. a)

some_apart : (device : ℕ) (o : Option ℕ) → o ≡ Some (poll_list device) → o ≡ Some ready → ⊥
some_apart device o polls is = (let same : poll_list device ≡ ready = cc in omega (arith, same))

awaits_device : (k q device byte : ℕ) (kernel : Kernel) → IsSoundKernel kernel → AwaitsIn k q kernel → AwaitsIn k q (device_ready kernel device byte)
unfolding device_ready pollers
awaits_device k q device byte kernel s a =
    let lists = kernel.dispatcher.lists in
    let ms = list_at lists (poll_list device) in
    let there : (p : ℕ) → in_list p ms ≡ true → list_of lists p ≡ Some (poll_list device) = λ p here. list_of_known lists p (poll_list device) s.table here in
    awaits_woken k q kernel.dispatcher.procs (map (λ m. m.slot) ms) lists
    (all_members (λ p. p < 32) ms (λ p here. lives_below kernel.dispatcher.procs p s.slots (listed kernel p (poll_list device) s (there p here))))
    (all_members (λ p. list_of lists p ≡ Some ready → ⊥) ms (λ p here. some_apart device (list_of lists p) (there p here)))
    (once_in_list q ms (s.table.once (poll_list device)))
    (awaits_none k q lists kernel.dispatcher.completed a)

awaits_flag_came : (k q flag : ℕ) (kernel : Kernel) → IsSoundKernel kernel → AwaitsIn k q kernel → AwaitsIn k q (flag_came flag kernel)
unfolding flag_came
awaits_flag_came k q flag kernel s a =
    either (AwaitsIn k q) (is_flag flag) _ _ (λ is. awaits_signalled k q flag kernel s (flag_below flag is) a) (λ _. a)

awaits_happens : (k q : ℕ) (event : Event) (kernel : Kernel) → IsSoundKernel kernel → AwaitsIn k q kernel → AwaitsIn k q (happens event kernel)
unfolding happens
awaits_happens k q Tick kernel s a = awaits_ticked k q kernel s a
awaits_happens k q (Key console byte) kernel s a = awaits_key k q console byte kernel s a
awaits_happens k q (Ready device byte) kernel s a = awaits_device k q device byte kernel s a
awaits_happens k q (Int flag) kernel s a = awaits_flag_came k q flag kernel s a

pub awaits_happened : (k q : ℕ) (event : Event) (kernel : Kernel) → IsSoundKernel kernel → AwaitsIn k q kernel → AwaitsIn k q (happened event kernel)
awaits_happened k q event kernel s a =
    awaits_happens k q event (afresh kernel) (sound_afresh kernel s) (awaits_none k q kernel.dispatcher.lists kernel.dispatcher.completed a)

-- another process ends

pub fewer_still : (q p : ℕ) (completed : List ℕ) (procs : Table) → completions q (still_completed (first_completed completed) p procs) ≤ completions q completed
fewer_still q p [] procs = omega arith
fewer_still q p (r ∷ rs) procs =
    let P : List ℕ → Type 0 = λ ps. completions q ps ≤ completions q (r ∷ rs) in
    either P (r == p) [] _ (λ _. omega arith)
    (λ _. either P (lives procs r) (r ∷ []) [] (λ _. omega (arith, one_completion q r rs, one_completion q r [])) (λ _. omega arith))

awaits_outside : (k q p : ℕ) (kernel : Kernel) → AwaitsIn k q kernel → AwaitsIn k q (outside p kernel)
unfolding outside
awaits_outside k q p kernel a =
    awaits_fewer k q kernel.dispatcher.lists kernel.dispatcher.completed _ (fewer_still q p kernel.dispatcher.completed kernel.dispatcher.procs) a

awaits_back : (k q : ℕ) (queue : Option ℕ) (p : ℕ) (kernel : Kernel) → IsSoundKernel kernel → AwaitsIn k q kernel → AwaitsIn k q (given_back_to queue p kernel)
unfolding given_back_to
awaits_back k q None p kernel s a = a
awaits_back k q (Some n) p kernel s a =
    either (AwaitsIn k q) (is_made kernel.queues n) _ _ (λ _. awaits_given k q p n (woken_by (write_outcome kernel.queues n)) kernel s refl a) (λ _. a)

pub awaits_given_back : (k q p : ℕ) (kernel : Kernel) → IsSoundKernel kernel → Lives kernel.dispatcher.procs p → AwaitsIn k q kernel → AwaitsIn k q (given_back p kernel)
unfolding given_back
awaits_given_back k q p kernel s h a =
    awaits_back k q (process_in kernel.dispatcher.procs p).procedure p (outside p kernel) (sound_outside p kernel s h) (awaits_outside k q p kernel a)

awaits_returned : (k q p n : ℕ) (kernel : Kernel) → IsSoundKernel kernel → AwaitsIn k q kernel → AwaitsIn k q (returned p n kernel)
unfolding returned
awaits_returned k q p n kernel s a = either (AwaitsIn k q) (holds kernel.queues p n) _ _ (λ _. awaits_back k q (Some n) p kernel s a) (λ _. a)

awaits_all_returned : (k q : ℕ) (ns : List ℕ) (p : ℕ) (kernel : Kernel) → IsLeaving p kernel → AwaitsIn k q kernel → AwaitsIn k q (all_returned ns p kernel)
unfolding all_returned
awaits_all_returned k q [] p kernel l a = a
awaits_all_returned k q (n ∷ ns) p kernel l a =
    awaits_all_returned k q ns p (returned p n kernel) (leaves_returned p n kernel l) (awaits_returned k q p n kernel l.sound a)

awaits_consoles_left : (k q p n : ℕ) (kernel : Kernel) → IsSoundKernel kernel → n ≤ length kernel.units.consoles → AwaitsIn k q kernel → AwaitsIn k q (consoles_left p n kernel)
unfolding consoles_left
awaits_consoles_left k q p zero kernel s few a = a
awaits_consoles_left k q p (suc n) kernel s few a =
    let below : n ≤ length kernel.units.consoles = omega arith in
    awaits_unit_left k q p (ConsoleUnit n) (consoles_left p n kernel) (sound_consoles_left p n kernel s below)
    (omega (arith, few, count_consoles_left p n kernel s below)) (awaits_consoles_left k q p n kernel s below a)

awaits_printers_left : (k q p n : ℕ) (kernel : Kernel) → IsSoundKernel kernel → n ≤ length kernel.units.printers → AwaitsIn k q kernel → AwaitsIn k q (printers_left p n kernel)
unfolding printers_left
awaits_printers_left k q p zero kernel s few a = a
awaits_printers_left k q p (suc n) kernel s few a =
    let below : n ≤ length kernel.units.printers = omega arith in
    awaits_unit_left k q p (PrinterUnit n) (printers_left p n kernel) (sound_printers_left p n kernel s below)
    (omega (arith, few, count_printers_left p n kernel s below)) (awaits_printers_left k q p n kernel s below a)

awaits_units_left : (k q p : ℕ) (kernel : Kernel) → IsSoundKernel kernel → AwaitsIn k q kernel → AwaitsIn k q (units_left p kernel)
unfolding units_left
awaits_units_left k q p kernel s a =
    let first = consoles_left p (length kernel.units.consoles) kernel in
    awaits_printers_left k q p (length first.units.printers) first (sound_consoles_left p (length kernel.units.consoles) kernel s (omega arith)) (omega arith)
    (awaits_consoles_left k q p (length kernel.units.consoles) kernel s (omega arith) a)

awaits_dropped : (k q p : ℕ) (kernel : Kernel) → q ≢ p → AwaitsIn k q kernel → AwaitsIn k q (dropped_out p kernel)
unfolding dropped_out
awaits_dropped k q p kernel other a = awaits_removed k q kernel.dispatcher.lists kernel.dispatcher.completed p other a

awaits_relieved : (k q p : ℕ) (kernel : Kernel) → IsSoundKernel kernel → Lives kernel.dispatcher.procs p → q ≢ p → AwaitsIn k q kernel → AwaitsIn k q (relieved p kernel)
unfolding relieved
awaits_relieved k q p kernel s h other a =
    let gone = dropped_out p kernel in
    let back = given_back p gone in
    awaits_units_left k q p (all_returned (range_with_len 0 32) p back) (leaves_messages p kernel s h).sound
    (awaits_all_returned k q (range_with_len 0 32) p back (leaves_given_back p kernel s h)
    (awaits_given_back k q p gone (sound_dropped p kernel s h) (lives_dropped p p kernel h) (awaits_dropped k q p kernel other a)))

pub awaits_discharged : (k q : ℕ) (kernel : Kernel) (p : ℕ) → IsSoundKernel kernel → Lives kernel.dispatcher.procs p → q ≢ p → AwaitsIn k q kernel → AwaitsIn k q (discharged kernel p)
unfolding discharged
awaits_discharged k q kernel p s h other a = awaits_relieved k q p kernel s h other a

-- a console is given

awaits_handed : (k q console : ℕ) (from to : Option ℕ) (kernel : Kernel) → IsSoundKernel kernel → console < length kernel.units.consoles → IfLives kernel.dispatcher.procs to
    → AwaitsIn k q kernel → AwaitsIn k q (handed_over console from to kernel)
awaits_handed k q console None None kernel s below living a = a
awaits_handed k q console (Some p) None kernel s below living a = awaits_unit_left k q p (ConsoleUnit console) kernel s below a
awaits_handed k q console from (Some to) kernel s below living a = awaits_owner_made k q console to kernel s living a

pub awaits_gave : (k q console : ℕ) (from to : Option ℕ) (kernel : Kernel) → IsSoundKernel kernel → console < length kernel.units.consoles → IfLives kernel.dispatcher.procs to
    → AwaitsIn k q kernel → AwaitsIn k q (given console from to kernel)
unfolding given
awaits_gave k q console from to kernel s below living a =
    either (AwaitsIn k q) (is_from (owner_of kernel.units (ConsoleUnit console)) from) _ _ (λ _. awaits_handed k q console from to kernel s below living a) (λ _. a)

-- a process begins

pub awaits_in_slot : (k q : ℕ) (kernel : Kernel) (new : NewProcess) (slot : Option ℕ) → IsSoundKernel kernel → lowest_free kernel.dispatcher.procs ≡ slot → AwaitsIn k q kernel
    → AwaitsIn k q (dispatched (in_slot new slot) kernel)
awaits_in_slot k q kernel new None s free a = a
awaits_in_slot k q kernel new (Some p) s free a =
    let lists = kernel.dispatcher.lists in
    let below : p < 32 = omega (arith, free_below kernel.dispatcher.procs p free, s.slots.alive) in
    let member : Member = record { slot = p; priority = new.priority } in
    let none = free_is_unlisted kernel p s free in
    record {
      table = table_inserted lists ready member a.table (omega arith) below none;
      few = a.few;
      at_once = λ all. elim (cases_eq q p) [
        | inl same ↦ ap (list_of (inserted lists ready member)) same ∙ list_of_inserted lists ready member a.table (omega arith) below none
        | inr other ↦ list_of_inserted_other lists ready member q a.table (omega arith) below none (not_equal p q (λ e. other (sym e))) ∙ a.at_once all
      ];
    }

-- its own call that reads from a queue: it is done at once, and none is awaited, or one is awaited
abbrev pub AwaitsAfter : Outcome → ℕ → Kernel → Type 0
AwaitsAfter Done q kernel = AwaitsIn 0 q kernel
AwaitsAfter Held q kernel = AwaitsIn 1 q kernel
AwaitsAfter Retry q kernel = ⊥
AwaitsAfter Ended q kernel = ⊥

own_was_read : (outcome : QueueOutcome) (call : Taken) (p n : ℕ) (kernel : Kernel) → IsSoundKernel kernel → read_outcome kernel.queues n ≡ outcome → AwaitsIn 0 p kernel
    → AwaitsAfter (was_read outcome true call p n kernel).outcome p (was_read outcome true call p n kernel).kernel
unfolding was_read blocked_or_refused queued
own_was_read (Passed woken) call p n kernel s done a =
    awaits_other 0 p woken (taken_from kernel p n) (λ w first. let held = held_by_read kernel n w s (ap woken_by done ∙ first) in record { below = held.below; waits = held.waits }) a
own_was_read NotNow call p n kernel s not a = record {
  table = table_removed kernel.dispatcher.lists p a.table;
  few = omega (arith, a.few);
  at_once = λ all. absurd (omega (arith, all, a.few));
}

pub own_read : (slot : Option ℕ) (call : Taken) (p : ℕ) (kernel : Kernel) → IsSoundKernel kernel → AwaitsIn 0 p kernel
    → AwaitsAfter (read_at slot true call p kernel).outcome p (read_at slot true call p kernel).kernel
unfolding read_at
own_read None call p kernel s a = a
own_read (Some n) call p kernel s a = own_was_read (read_outcome kernel.queues n) call p n kernel s refl a
