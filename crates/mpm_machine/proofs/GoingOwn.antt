-- The command line interpreter takes its own step: in each row it goes on with the segment that it has reserved, or with none.
use Rattle.std.proofs.Common.{ℕ, [], ◌≡◌, ◌≢◌, ◌∙◌, ◌==◌, ◌&&◌, not, Bool, true, false, List, ◌∷◌, length, Option, Some, None, refl, sym, ap, subst, arith}
use Rattle.std.specs.Prelude.{◌<◌, if◌then◌else◌}
use Rattle.std.proofs.lemmas.Bool.{false≢true, and_parts}
use Rattle.std.proofs.lemmas.Bool.Decides.{nat_tests}
use Rattle.mpm_base.proofs.Choices.{either}
use Rattle.mpm_base.specs.Calls.{Taken, Answer, answering}
use Rattle.mpm_base.specs.declared.call.Outcome.{Outcome as Ended_how}
use Rattle.mpm_base.specs.declared.call.Outcome.TheVariants.{Done, Held, Retry, Ended}
use Rattle.mpm_residents.specs.Interpreters.{Interpreter, took, next_act, next_call, act_at, call_at, asking as asking_call, asking_file, took_at, process_of}
use Rattle.mpm_residents.specs.declared.cli.table.Message.{Message}
use Rattle.mpm_residents.specs.declared.cli.act.Act.TheVariants.{Ask, MoveCode, GiveConsole}
use Rattle.mpm_residents.specs.declared.cli.table.Row.{Row}
use Rattle.mpm_residents.specs.declared.cli.table.Row.TheVariants.{ReadCommand, OpenQueue, WriteQueue, SetUser, OpenRelocatable, OpenAbsolute, ReadHeader, ComputeSize, SetUserZero, Reserve, Place, Patch, ReadOn, Free, CloseAfter, Close, Tell, Give, PlaceBasePage, Begin}
use Rattle.mpm_dispatcher.specs.Dispatch.{IsReady, admitted}
use Rattle.mpm_gate.specs.Replies.{answered}
use Rattle.mpm_kernel.proofs.Beside.{StaysBeside, beside_same, beside_both}
use Rattle.mpm_kernel.proofs.GivingLaws.{procs_gave, consoles_gave}
use Rattle.mpm_kernel.proofs.HomeLaws.{beside_called, consoles_called, consoles_spoke}
use Rattle.mpm_kernel.proofs.SoundLaws.{runner_lives, sound_begun, sound_admitted}
use Rattle.mpm_kernel.specs.Called.{Called, low_parameter, failure_code}
use Rattle.mpm_kernel.specs.Calls.{called, call_done, does_echo}
use Rattle.mpm_kernel.specs.Columns.{spoke}
use Rattle.mpm_kernel.specs.Consoling.{given}
use Rattle.mpm_kernel.specs.Kernel.{Kernel, dispatched as with_dispatcher, IsSoundKernel, call_begun}
use Rattle.mpm_procs.proofs.MapLaws.{free_is_dead, lives_added_other, process_added_other, call_added_other, free_below, lives_added}
use Rattle.mpm_procs.specs.Table.{lives, Lives, process_in, call_of, lowest_free, added}
use Rattle.mpm_procs.specs.declared.process.NewProcess.{NewProcess}
use Rattle.mpm_procs.specs.declared.process.Process.{Process}
use Rattle.mpm_residents.specs.Natives.{native_in, native_call, interprets, interprets_if_there}
use Rattle.mpm_residents.specs.declared.native.Native.{Native}
use Rattle.mpm_residents.specs.declared.native.Native.TheVariants.{Tmp, Cli, Spool, Sched}
use Rattle.mpm_base.specs.declared.functions.TheConstants.{PRINT_STRING, READ_QUEUE, OPEN_QUEUE, CONDITIONAL_WRITE_QUEUE, SET_GET_USER_CODE, OPEN_FILE, CLOSE_FILE, READ_SEQUENTIAL, COMPUTE_FILE_SIZE}
use Rattle.mpm_banks.specs.Memory.{Memory, HasSegment, segment_of, with_bytes}
use Rattle.mpm_banks.specs.Ranges.{range_of, range_bytes}
use Rattle.mpm_banks.specs.Allocations.{lowest_free as lowest_segment, reserved, released, is_reserved, is_owners, occupied}
use Rattle.mpm_banks.specs.declared.range.Range.{Range}
use Rattle.mpm_banks.specs.declared.segment.Allocation.TheVariants.{Free as Nobodys, Occupied}
use Rattle.mpm_banks.proofs.SegmentLaws.{count_allocated}
use Rattle.mpm_banks.proofs.WindowLaws.{same_segments_put_range}
use Rattle.mpm_banks.proofs.WrittenBytes.{same_segments_with_bytes}
use Rattle.mpm_prl.specs.Relocation.{relocated}
use Rattle.mpm_residents.specs.Standing.{is_loading}
use Rattle.mpm_service.specs.Places.{at_disk}
use Rattle.mpm_kernel.specs.Awaiting.{AwaitsIn}
use Rattle.mpm_kernel.proofs.DiskLaws.{ready_not_at_disk}
use Rattle.mpm_kernel.proofs.DiskStays.{disk_called}
use Rattle.mpm_kernel.specs.Queueing.{opened, write_at, was_written, blocked_or_refused}
use Rattle.mpm_kernel.proofs.AwaitingLaws.{awaits_none}
use Rattle.mpm_kernel.proofs.AwaitingCalls.{awaits_write_at}
use Rattle.mpm_kernel.proofs.AwaitingEnds.{awaits_gave, awaits_in_slot, AwaitsAfter, own_read}
use Rattle.mpm_gate.specs.Gates.{IsHome}
use Rattle.mpm_queues.specs.Handling.{write_outcome}
use Rattle.mpm_queues.specs.declared.queues.QueueOutcome.{QueueOutcome}
use Rattle.mpm_queues.specs.declared.queues.QueueOutcome.TheVariants.{Done as Passed, NotNow}
use Rattle.mpm_system.proofs.WholeLaws.{keeps_asked}
use Rattle.mpm_system.specs.Calling.{Served, asking, calling}
use Rattle.mpm_system.specs.Loading.{may_move, moved, is_console, may_live, begins, begun_for, handed_over}
use Rattle.mpm_system.specs.Residents.{taking, handing_step, telling_step, tells, text_told}
use Rattle.mpm_system.specs.Segments.{reserve_reply, releasing, reserving}
use Rattle.mpm_system.specs.Saying.{said_by}
use Rattle.mpm_system.specs.Whole.{SystemChange, IsWhole, speaking}
use Rattle.mpm_system.specs.declared.system.System.{System}
use Rattle.mpm_system.proofs.SizeLaws.{sizes_with_bytes}
use Rattle.mpm_system.proofs.HomeLaws.{keeps_same, keeps_both, keeps_released, keeps_occupied}
use Rattle.mpm_system.proofs.PlacedLaws.{given_disk}
use Rattle.mpm_machine.proofs.ActedLaws.{whole_to_all}
use Rattle.mpm_machine.specs.Interpreting.{sets_or_chains, is_reading, awaited, Interprets}
use Rattle.mpm_machine.specs.Residing.{calling_step, native_outcome, native_step, resided}
use Rattle.mpm_machine.specs.Serving.{served_to_all}
use Rattle.mpm_machine.specs.Step.{acted, acted_by, gate_before, running_segment}
use Rattle.mpm_machine.proofs.GoingOn.{acts_with, acts_took, another, own_call}
use Rattle.mpm_machine.proofs.GoingParts.{same_place, goes_at_gate, goes_said, goes_spoke, goes_taking, goes_to_all, goes_ended, own_asked, others_call}
use Rattle.mpm_machine.proofs.InterpretingLaws.{no_interpreter, same_resident}
use Rattle.mpm_machine.proofs.KeepingLaws.{begun_for_disk}
use Rattle.mpm_machine.proofs.OwnLaws.{KeepsOwn, AwaitsNothing, awaits_now, own_itself, own_same, is_reserving, interprets_with, interprets_taken, interprets_reserved, awaits_less}

-- the interpreter is the one that acts in slot 0
pub same_interpreter : (old new : System) (a : Interprets old) (b : Interprets new) → new.residents ≡ old.residents → b.acting.cli ≡ a.acting.cli
same_interpreter old new a b same =
    same_resident b.acting.cli a.acting.cli (sym b.acting.acts ∙ ap (λ (r : List Native). native_in r 0) same ∙ a.acting.acts)

-- its own call is done at once: it takes the answer

own_done : (reply : Answer) (call : Taken) (system : System) (i : Interprets system) → is_reserving i.acting.cli.row ≡ false → AwaitsNothing system.kernel
    → Interprets (native_outcome Done reply call 0 system).system
unfolding said_by speaking spoke
own_done reply call system i other none =
    let spoke_system = (said_by call call.bytes 0 system).system in
    let behind = goes_said call call.bytes 0 system i in
    interprets_taken spoke_system reply behind (ap (λ (c : Interpreter). is_reserving c.row) (same_interpreter system spoke_system i behind refl) ∙ other) none

-- what a call of the kernel leaves of slot 0 that made it
pub record IsAtOnce (done : Called) : Type 0 where
  pub outcome : done.outcome ≡ Done
  pub none : AwaitsIn 0 0 done.kernel

own_outcome : (outcome : Ended_how) (reply : Answer) (call : Taken) (system : System) (i : Interprets system) → outcome ≡ Done → is_reserving i.acting.cli.row ≡ false
    → AwaitsNothing system.kernel → Interprets (native_outcome outcome reply call 0 system).system
own_outcome Done reply call system i is other none = own_done reply call system i other none
own_outcome Held reply call system i is other none = absurd (cc)
own_outcome Retry reply call system i is other none = absurd (cc)
own_outcome Ended reply call system i is other none = absurd (cc)

own_after : (outcome : Ended_how) (reply : Answer) (call : Taken) (system : System) (i : Interprets system) → AwaitsAfter outcome 0 system.kernel
    → at_disk system.kernel.disk 0 ≡ 0 → is_reserving i.acting.cli.row ≡ false → Interprets (native_outcome outcome reply call 0 system).system
own_after Done reply call system i after gone other = own_done reply call system i other (after, gone)
own_after Held reply call system i after gone other = i
own_after Retry reply call system i after gone other = absurd after
own_after Ended reply call system i after gone other = absurd after

one_after : (outcome : Ended_how) (kernel : Kernel) → AwaitsAfter outcome 0 kernel → AwaitsIn 1 0 kernel
one_after Done kernel after = awaits_less 1 kernel after
one_after Held kernel after = after
one_after Retry kernel after = absurd after
one_after Ended kernel after = absurd after

-- the kernel did its call
called_place : (kernel : Kernel) → at_disk (called 0 kernel).kernel.disk 0 ≡ at_disk kernel.disk 0
called_place kernel = same_place kernel (called 0 kernel).kernel (disk_called 0 kernel)

own_called : (system : System) (i : Interprets system) → IsWhole system → Lives system.kernel.dispatcher.procs 0 → AwaitsIn (awaits_now system i) 0 (called 0 system.kernel).kernel
    → Interprets (calling 0 system).system
own_called system i w h awaits =
    interprets_with system (calling 0 system).system refl (beside_called 0 0 system.kernel w.sound h) (consoles_called 0 system.kernel w.sound h) (called_place system.kernel)
    (own_itself system.memory) i awaits

reserves_not : (old new : System) (a : Interprets old) (b : Interprets new) → new.residents ≡ old.residents → is_reserving a.acting.cli.row ≡ false → is_reserving b.acting.cli.row ≡ false
reserves_not old new a b same other = ap (λ (c : Interpreter). is_reserving c.row) (same_interpreter old new a b same) ∙ other

own_calling : (call : Taken) (system : System) (i : Interprets system) → IsWhole system → Lives system.kernel.dispatcher.procs 0 → is_reserving i.acting.cli.row ≡ false
    → at_disk system.kernel.disk 0 ≡ 0 → IsAtOnce (called 0 system.kernel)
    → Interprets (native_outcome (calling 0 system).outcome (calling 0 system).reply call 0 (calling 0 system).system).system
own_calling call system i w h other gone done =
    let behind = own_called system i w h (awaits_less (awaits_now system i) (called 0 system.kernel).kernel done.none) in
    own_outcome (calling 0 system).outcome (calling 0 system).reply call (calling 0 system).system behind done.outcome
    (reserves_not system (calling 0 system).system i behind refl other) (done.none, called_place system.kernel ∙ gone)

-- the calls of its rows, by the table

by_call : (P : Called → Type 0) (call : Taken) (kernel : Kernel) → call_of kernel.dispatcher.procs 0 ≡ call
    → P (call_done call 0 (process_in kernel.dispatcher.procs 0) (call_begun (does_echo call.function) kernel)) → P (called 0 kernel)
by_call P call kernel is done =
    subst (λ (c : Taken). P (call_done c 0 (process_in kernel.dispatcher.procs 0) (call_begun (does_echo c.function) kernel))) (sym is) done

begun_none : (echoes : Bool) (kernel : Kernel) → AwaitsIn 0 0 kernel → AwaitsIn 0 0 (call_begun echoes kernel)
begun_none echoes kernel a = awaits_none 0 0 kernel.dispatcher.lists kernel.dispatcher.completed a

opened_once : (slot : Option ℕ) (call : Taken) (kernel : Kernel) → AwaitsIn 0 0 kernel → IsAtOnce (opened slot call kernel)
unfolding opened
opened_once None call kernel a = record { outcome = refl; none = a }
opened_once (Some q) call kernel a = record { outcome = refl; none = a }

written_done : (outcome : QueueOutcome) (p q : ℕ) (kernel : Kernel) → (was_written outcome false p q kernel).outcome ≡ Done
unfolding was_written blocked_or_refused
written_done (Passed woken) p q kernel = refl
written_done NotNow p q kernel = refl

write_done : (slot : Option ℕ) (p : ℕ) (kernel : Kernel) → (write_at slot false p kernel).outcome ≡ Done
unfolding write_at
write_done None p kernel = refl
write_done (Some q) p kernel = written_done (write_outcome kernel.queues q) p q kernel

written_once : (slot : Option ℕ) (kernel : Kernel) → IsSoundKernel kernel → AwaitsIn 0 0 kernel → IsAtOnce (write_at slot false 0 kernel)
written_once slot kernel s a =
    record { outcome = write_done slot 0 kernel; none = awaits_write_at 0 0 slot false 0 kernel s (λ waits. absurd (false≢true waits)) a }

own_opens : (bytes : List ℕ) (kernel : Kernel) → AwaitsIn 0 0 kernel → call_of kernel.dispatcher.procs 0 ≡ asking_call OPEN_QUEUE 0 bytes → IsAtOnce (called 0 kernel)
unfolding call_done
own_opens bytes kernel a is = by_call IsAtOnce (asking_call OPEN_QUEUE 0 bytes) kernel is (opened_once _ (asking_call OPEN_QUEUE 0 bytes) _ (begun_none false kernel a))

own_writes : (bytes : List ℕ) (kernel : Kernel) → IsSoundKernel kernel → AwaitsIn 0 0 kernel → call_of kernel.dispatcher.procs 0 ≡ asking_call CONDITIONAL_WRITE_QUEUE 0 bytes
    → IsAtOnce (called 0 kernel)
unfolding call_done
own_writes bytes kernel s a is =
    by_call IsAtOnce (asking_call CONDITIONAL_WRITE_QUEUE 0 bytes) kernel is (written_once _ _ (sound_begun false kernel s) (begun_none false kernel a))

own_user : (user : ℕ) (bytes : List ℕ) (kernel : Kernel) → AwaitsIn 0 0 kernel → call_of kernel.dispatcher.procs 0 ≡ asking_call SET_GET_USER_CODE user bytes
    → IsAtOnce (called 0 kernel)
unfolding call_done
own_user user bytes kernel a is =
    by_call IsAtOnce (asking_call SET_GET_USER_CODE user bytes) kernel is (record { outcome = refl; none = begun_none false kernel a })

-- one on files is none of the kernel's
own_open : (fcb bytes : List ℕ) (kernel : Kernel) → AwaitsIn 0 0 kernel → call_of kernel.dispatcher.procs 0 ≡ asking_file OPEN_FILE fcb bytes → IsAtOnce (called 0 kernel)
unfolding call_done
own_open fcb bytes kernel a is = by_call IsAtOnce (asking_file OPEN_FILE fcb bytes) kernel is (record { outcome = refl; none = begun_none false kernel a })

own_close : (fcb bytes : List ℕ) (kernel : Kernel) → AwaitsIn 0 0 kernel → call_of kernel.dispatcher.procs 0 ≡ asking_file CLOSE_FILE fcb bytes → IsAtOnce (called 0 kernel)
unfolding call_done
own_close fcb bytes kernel a is = by_call IsAtOnce (asking_file CLOSE_FILE fcb bytes) kernel is (record { outcome = refl; none = begun_none false kernel a })

own_reads : (fcb bytes : List ℕ) (kernel : Kernel) → AwaitsIn 0 0 kernel → call_of kernel.dispatcher.procs 0 ≡ asking_file READ_SEQUENTIAL fcb bytes → IsAtOnce (called 0 kernel)
unfolding call_done
own_reads fcb bytes kernel a is = by_call IsAtOnce (asking_file READ_SEQUENTIAL fcb bytes) kernel is (record { outcome = refl; none = begun_none false kernel a })

own_size : (fcb bytes : List ℕ) (kernel : Kernel) → AwaitsIn 0 0 kernel → call_of kernel.dispatcher.procs 0 ≡ asking_file COMPUTE_FILE_SIZE fcb bytes → IsAtOnce (called 0 kernel)
unfolding call_done
own_size fcb bytes kernel a is = by_call IsAtOnce (asking_file COMPUTE_FILE_SIZE fcb bytes) kernel is (record { outcome = refl; none = begun_none false kernel a })

-- a step in which it calls what the kernel does at once

abbrev IsAnswered : Served → Taken → Type 0
IsAnswered done call = Interprets (native_outcome done.outcome done.reply call 0 done.system).system

no_text : (native : Option Native) (call : Taken) → (call.function == PRINT_STRING) ≡ false → tells native call ≡ true → ⊥
no_text native call not text = false≢true (sym not ∙ (and_parts (interprets_if_there native) _ text).1)

own_ask : (call : Taken) (system : System) → (call.function == PRINT_STRING) ≡ false → IsAnswered (served_to_all call 0 system) call
    → Interprets (native_step Ask call 0 system).system
unfolding calling_step
own_ask call system not answered =
    either (λ (c : SystemChange). Interprets c.system) (tells (native_in system.residents 0) call) _ _ (λ text. absurd (no_text (native_in system.residents 0) call not text)) (λ _. answered)

abbrev asked_now : Taken → System → System
asked_now call system = asking 0 call system

own_step : (call : Taken) (system : System) (i : Interprets system) → IsWhole system → Lives system.kernel.dispatcher.procs 0 → sets_or_chains call.function ≡ false
    → is_reserving i.acting.cli.row ≡ false → at_disk system.kernel.disk 0 ≡ 0 → (call.function == PRINT_STRING) ≡ false
    → served_to_all call 0 (asked_now call system) ≡ calling 0 (asked_now call system)
    → ((IsSoundKernel (asked_now call system).kernel × (call_of (asked_now call system).kernel.dispatcher.procs 0 ≡ call)) → IsAtOnce (called 0 (asked_now call system).kernel))
    → Interprets (native_step Ask call 0 (asked_now call system)).system
unfolding own_asked own_call
own_step call system i w h mild other gone not is done =
    let s = asked_now call system in
    let kept = keeps_asked 0 call system w h in
    own_ask call s not
    (subst (λ (d : Served). IsAnswered d call) (sym is)
    (own_calling call s (own_asked call system w mild i) kept.whole kept.lives other gone (done (kept.whole.sound, kept.call))))

-- as it reads a command, which it may await
own_reading : (bytes : List ℕ) (system : System) (i : Interprets system) → IsWhole system → Lives system.kernel.dispatcher.procs 0 → i.acting.cli.row ≡ ReadCommand
    → at_disk system.kernel.disk 0 ≡ 0 → AwaitsIn 0 0 (call_begun false system.kernel)
    → Interprets (native_step Ask (asking_call READ_QUEUE 0 bytes) 0 (asking 0 (asking_call READ_QUEUE 0 bytes) system)).system
unfolding own_asked own_call served_to_all call_done
own_reading bytes system i w h is gone none =
    let call = asking_call READ_QUEUE 0 bytes in
    let s = asking 0 call system in
    let b = own_asked call system w refl i in
    let kept = keeps_asked 0 call system w h in
    let P : Called → Type 0 = λ c. AwaitsAfter c.outcome 0 c.kernel in
    let after : P (called 0 s.kernel) =
    by_call P call s.kernel kept.call (own_read _ call 0 (call_begun false s.kernel) (sound_begun false s.kernel kept.whole.sound) none) in
    let other : is_reserving b.acting.cli.row ≡ false = ap is_reserving is in
    let behind =
    own_called s b kept.whole kept.lives
    (subst (λ (r : Row). AwaitsIn (awaited (at_disk s.kernel.disk 0) r) 0 (called 0 s.kernel).kernel) (sym is) (one_after (called 0 s.kernel).outcome (called 0 s.kernel).kernel after)) in
    own_ask call s refl
    (own_after (calling 0 s).outcome (calling 0 s).reply call (calling 0 s).system behind after (called_place s.kernel ∙ gone) (reserves_not s (calling 0 s).system b behind refl other))

-- as it frees its segment, it takes the answer by which it has none

homes_by : (old new : Memory) → length new.segments ≡ length old.segments → ((seg : ℕ) → IsHome old seg → IsHome new seg)
    → ((seg : ℕ) → HasSegment old seg → IsHome old seg) → (seg : ℕ) → HasSegment new seg → IsHome new seg
homes_by old new count keeps homes seg there = keeps seg (homes seg (omega (arith, there, count)))

pub interprets_left : (old new : System) (reply : Answer) (i : Interprets old) → new.residents ≡ old.residents → StaysBeside 0 old.kernel.dispatcher.procs new.kernel.dispatcher.procs
    → length new.kernel.units.consoles ≡ length old.kernel.units.consoles → length new.memory.segments ≡ length old.memory.segments
    → ((seg : ℕ) → IsHome old.memory seg → IsHome new.memory seg) → AwaitsNothing new.kernel → is_loading (took i.acting.cli reply).row ≡ false → Interprets (taking reply 0 new)
unfolding acts_with acts_took
interprets_left old new reply i residents beside consoles count keeps none gone = record {
  acting = acts_took new reply (acts_with old new residents beside consoles i.acting);
  few = omega (arith, i.few, count);
  homes = homes_by old.memory new.memory count keeps i.homes;
  has = λ loading. absurd (false≢true (sym gone ∙ loading));
  filed = λ some. absurd (omega (arith, some, none.1));
  awaits = awaits_less (awaited (at_disk new.kernel.disk 0) (took i.acting.cli reply).row) new.kernel none.0;
}

count_released : (memory : Memory) (owner seg : ℕ) → length (released memory owner seg).segments ≡ length memory.segments
unfolding released is_reserved
count_released memory owner seg =
    either (λ (m : Memory). length m.segments ≡ length memory.segments) (is_owners owner (segment_of memory seg).allocation) _ _
    (λ _. count_allocated memory seg Nobodys) (λ _. refl)

beside_begun : (slot : Option ℕ) (p : ℕ) (new : NewProcess) (kernel : Kernel) → lowest_free kernel.dispatcher.procs ≡ slot → Lives kernel.dispatcher.procs 0
    → StaysBeside 0 kernel.dispatcher.procs (begun_for p new slot kernel).dispatcher.procs
beside_begun None p new kernel free h = beside_same 0 kernel.dispatcher.procs kernel.dispatcher.procs refl
beside_begun (Some q) p new kernel free h =
    let procs = kernel.dispatcher.procs in
    let apart : 0 ≢ q = λ is. false≢true (sym (free_is_dead procs q free) ∙ ap (lives procs) (sym is) ∙ h) in
    let same = process_added_other procs q 0 new apart in
    beside_both 0 procs (added procs q new) (begun_for p new (Some q) kernel).dispatcher.procs
    (record {
      living = lives_added_other procs q 0 new apart;
      seg = ap (λ (x : Process). x.seg) same;
      due = ap (λ (x : Process). x.abort_due) same;
      function = ap (λ (x : Taken). x.function) (call_added_other procs q 0 new apart);
      answers = λ _. ap (λ (x : Process). x.error_mode) same;
      multi = λ _. ap (λ (x : Process). x.multi) same;
    })
    (beside_same 0 (added procs q new) _ (procs_gave new.console (Some p) (Some q) (with_dispatcher (admitted q new) kernel)))

consoles_begun : (slot : Option ℕ) (p : ℕ) (new : NewProcess) (kernel : Kernel) → length (begun_for p new slot kernel).units.consoles ≡ length kernel.units.consoles
consoles_begun None p new kernel = refl
consoles_begun (Some q) p new kernel = consoles_gave new.console (Some p) (Some q) (with_dispatcher (admitted q new) kernel)

-- as it hands bytes over

placed_own : (seg address : ℕ) (bytes : List ℕ) (reply : Answer) (system : System) (i : Interprets system) → is_reserving i.acting.cli.row ≡ false → AwaitsNothing system.kernel
    → Interprets (taking reply 0 (record system { memory = with_bytes system.memory seg address bytes }))
unfolding interprets_with acts_with
placed_own seg address bytes reply system i other none =
    let behind = record system { memory = with_bytes system.memory seg address bytes } in
    let procs = system.kernel.dispatcher.procs in
    interprets_taken behind reply
    (interprets_with system behind refl (beside_same 0 procs procs refl) refl refl (own_same system.memory behind.memory (same_segments_with_bytes bytes system.memory seg address)) i i.awaits)
    other none

own_moved : (range : Option Range) (marks : List ℕ) (page : ℕ) (memory : Memory) → KeepsOwn memory (moved range marks page memory)
own_moved None marks page memory = own_itself memory
own_moved (Some range) marks page memory =
    own_same memory _ (same_segments_put_range memory range (relocated (range_bytes memory range) marks page))

moved_own : (seg address count : ℕ) (marks : List ℕ) (page : ℕ) (reply : Answer) (system : System) (i : Interprets system) → is_reserving i.acting.cli.row ≡ false
    → AwaitsNothing system.kernel → Interprets (taking reply 0 (handed_over (MoveCode seg address count page) marks 0 system))
unfolding interprets_with acts_with
moved_own seg address count marks page reply system i other none =
    let behind = handed_over (MoveCode seg address count page) marks 0 system in
    let procs = system.kernel.dispatcher.procs in
    interprets_taken behind reply
    (interprets_with system behind refl (beside_same 0 procs procs refl) refl refl
    (either (KeepsOwn system.memory) (may_move count marks) _ system.memory (λ _. own_moved (range_of system.memory seg address count) marks page system.memory) (λ _. own_itself system.memory))
    i i.awaits)
    other none

given_own : (console : ℕ) (reply : Answer) (system : System) (i : Interprets system) → IsWhole system → is_reserving i.acting.cli.row ≡ false → AwaitsNothing system.kernel
    → Interprets (taking reply 0 (handed_over (GiveConsole console) [] 0 system))
unfolding interprets_with acts_with
given_own console reply system i w other none =
    either (λ (k : Kernel). Interprets (taking reply 0 (record system { kernel = k }))) (is_console console system.kernel) _ system.kernel
    (λ there.
    let kernel = given console (Some 0) None system.kernel in
    let place = same_place system.kernel kernel (given_disk console (Some 0) None system.kernel) in
    let awaits = λ (k : ℕ) (x : AwaitsIn k 0 system.kernel). awaits_gave k 0 console (Some 0) None system.kernel w.sound (grind (arith, nat_tests, there)) tt x in
    interprets_taken (record system { kernel = kernel }) reply
    (interprets_with system (record system { kernel = kernel }) refl (beside_same 0 system.kernel.dispatcher.procs _ (procs_gave console (Some 0) None system.kernel))
    (consoles_gave console (Some 0) None system.kernel) place (own_itself system.memory) i (awaits (awaits_now system i) i.awaits))
    other (awaits 0 none.0, place ∙ none.1))
    (λ _. interprets_taken system reply i other none)

-- a program begins, or none can

awaits_begun : (slot : Option ℕ) (k p : ℕ) (new : NewProcess) (system : System) → IsWhole system → new.console < length system.kernel.units.consoles
    → lowest_free system.kernel.dispatcher.procs ≡ slot → AwaitsIn k 0 system.kernel → AwaitsIn k 0 (begun_for p new slot system.kernel)
awaits_begun None k p new system w below free a = a
awaits_begun (Some q) k p new system w below free a =
    let begun = with_dispatcher (admitted q new) system.kernel in
    awaits_gave k 0 new.console (Some p) (Some q) begun (sound_admitted system.kernel q new w.sound free below) below
    (lives_added system.kernel.dispatcher.procs q new (free_below system.kernel.dispatcher.procs q free))
    (awaits_in_slot k 0 system.kernel new (Some q) w.sound free a)

begun_memory : (memory : Memory) (seg address base n : ℕ) → IsHome memory n → IsHome (occupied (with_bytes memory seg address (0 ∷ base ∷ [])) seg) n
begun_memory memory seg address base n home =
    let bytes = 0 ∷ base ∷ [] in
    let written = with_bytes memory seg address bytes in
    (keeps_both memory written (occupied written seg) (keeps_same memory written (same_segments_with_bytes bytes memory seg address) (sizes_with_bytes bytes memory seg address)) (keeps_occupied written seg)).all n home

begun_count : (memory : Memory) (seg address base : ℕ) → length (occupied (with_bytes memory seg address (0 ∷ base ∷ [])) seg).segments ≡ length memory.segments
begun_count memory seg address base =
    let bytes = 0 ∷ base ∷ [] in
    count_allocated (with_bytes memory seg address bytes) seg Occupied ∙ (same_segments_with_bytes bytes memory seg address).count

begun_own : (b : Bool) (seg : ℕ) (new : NewProcess) (system : System) (i : Interprets system) → begins seg new system ≡ b → i.acting.cli.row ≡ Begin → IsWhole system
    → AwaitsNothing system.kernel
    → Interprets (taking (answering (if b then 0 else failure_code)) 0 (if b then record system {
      kernel = begun_for 0 (record new { seg = Some seg }) (lowest_free system.kernel.dispatcher.procs) system.kernel;
      memory = occupied (with_bytes system.memory seg new.sp (0 ∷ (segment_of system.memory seg).base ∷ [])) seg;
    } else system))
unfolding took
begun_own true seg new system i may is w none =
    let here = record new { seg = Some seg } in
    let slot = lowest_free system.kernel.dispatcher.procs in
    let base = (segment_of system.memory seg).base in
    let parts = and_parts (is_console new.console system.kernel) _ (and_parts (may_live system.memory seg) _ may).1 in
    let there : is_console new.console system.kernel ≡ true = parts.0 in
    let place = same_place system.kernel (begun_for 0 here slot system.kernel) (begun_for_disk 0 here slot system.kernel) in
    interprets_left system _ (answering 0) i refl (beside_begun slot 0 here system.kernel refl i.acting.lives) (consoles_begun slot 0 here system.kernel)
    (begun_count system.memory seg new.sp base) (λ n home. begun_memory system.memory seg new.sp base n home)
    (awaits_begun slot 0 0 here system w (grind (arith, nat_tests, there)) refl none.0, place ∙ none.1)
    (ap (λ (r : Row). is_loading (took_at r i.acting.cli (answering 0)).row) is)
begun_own false seg new system i may is w none = interprets_taken system (answering failure_code) i (ap is_reserving is) none

-- its text is written
told_own : (call : Taken) (system : System) (i : Interprets system) → (call.function == PRINT_STRING) ≡ true → is_reserving i.acting.cli.row ≡ false → AwaitsNothing system.kernel
    → Interprets (native_step Ask call 0 system).system
unfolding telling_step speaking spoke
told_own call system i text other none =
    let tells_it : tells (native_in system.residents 0) call ≡ true = ap (λ b. b && (call.function == PRINT_STRING)) (ap interprets_if_there i.acting.acts) ∙ text in
    either (λ (c : SystemChange). Interprets c.system) (tells (native_in system.residents 0) call) _ _
    (λ _.
    either (λ (c : SystemChange). Interprets (taking (answering 0) 0 c.system)) (is_console (low_parameter call) system.kernel) _ _
    (λ _.
    let behind = goes_spoke (low_parameter call) _ system i in
    interprets_taken _ (answering 0) behind (reserves_not system _ i behind refl other) none)
    (λ _. interprets_taken system (answering 0) i other none))
    (λ not. absurd (false≢true (sym not ∙ tells_it)))

-- a segment is reserved
reserved_own : (base : Option ℕ) (pages : ℕ) (relocatable : Bool) (call : Taken) (system : System) (i : Interprets system) → i.acting.cli.row ≡ Reserve relocatable pages
    → AwaitsNothing system.kernel
    → Interprets (native_outcome Done (reserve_reply system.memory call (lowest_segment system.memory base pages)) call 0
    (record system { memory = reserved system.memory 0 (lowest_segment system.memory base pages) })).system
unfolding said_by speaking spoke
reserved_own base pages relocatable call system i is none =
    let spoke_system = (said_by call call.bytes 0 system).system in
    let behind = goes_said call call.bytes 0 system i in
    interprets_reserved base pages relocatable call spoke_system behind (ap (λ (c : Interpreter). c.row) (same_interpreter system spoke_system i behind refl) ∙ is) none

-- it is freed
freed_own : (message : Message) (seg : ℕ) (reply : Answer) (call : Taken) (system : System) (i : Interprets system) → i.acting.cli.row ≡ Free message → AwaitsNothing system.kernel
    → Interprets (native_outcome Done reply call 0 (record system { memory = released system.memory 0 seg })).system
unfolding said_by speaking spoke took
freed_own message seg reply call system i is none =
    let behind = (said_by call call.bytes 0 (record system { memory = released system.memory 0 seg })).system in
    interprets_left system behind reply i refl (beside_same 0 system.kernel.dispatcher.procs system.kernel.dispatcher.procs refl) (consoles_spoke system.kernel _ _)
    (count_released system.memory 0 seg) (λ n home. (keeps_released system.memory 0 seg).all n home) none
    (ap (λ (r : Row). is_loading (took_at r i.acting.cli reply).row) is)

-- none of its calls sets the error mode or chains

mild_at : (row : Row) (cli : Interpreter) → sets_or_chains (call_at row cli).function ≡ false
mild_at ReadCommand cli = refl
mild_at OpenQueue cli = refl
mild_at WriteQueue cli = refl
mild_at SetUser cli = refl
mild_at OpenRelocatable cli = refl
mild_at OpenAbsolute cli = refl
mild_at ReadHeader cli = refl
mild_at ComputeSize cli = refl
mild_at SetUserZero cli = refl
mild_at (Reserve true pages) cli = refl
mild_at (Reserve false pages) cli = refl
mild_at Place cli = refl
mild_at Patch cli = refl
mild_at ReadOn cli = refl
mild_at (Free message) cli = refl
mild_at (CloseAfter message) cli = refl
mild_at Close cli = refl
mild_at (Tell message) cli = refl
mild_at Give cli = refl
mild_at PlaceBasePage cli = refl
mild_at Begin cli = refl

pub mild_next : (cli : Interpreter) → sets_or_chains (next_call cli).function ≡ false
unfolding next_call
mild_next cli = mild_at cli.row cli

-- each row

pub nothing_left : (system : System) (i : Interprets system) (row : Row) → i.acting.cli.row ≡ row → is_reading row ≡ false → at_disk system.kernel.disk 0 ≡ 0
    → AwaitsNothing system.kernel
nothing_left system i row is reads gone =
    let places = at_disk system.kernel.disk 0 in
    (subst (λ (k : ℕ). AwaitsIn k 0 system.kernel) (ap (awaited places) is ∙ ap (λ (b : Bool). if b then 1 else places) reads ∙ gone) i.awaits, gone)

ready_begun : (system : System) (i : Interprets system) → IsReady system.kernel.dispatcher 0 → AwaitsIn 0 0 (call_begun false system.kernel)
ready_begun system i ready = record { table = i.awaits.table; few = omega arith; at_once = λ _. ready }

own_at : (row : Row) (system : System) (i : Interprets system) → i.acting.cli.row ≡ row → IsWhole system → Lives system.kernel.dispatcher.procs 0 → IsReady system.kernel.dispatcher 0
    → at_disk system.kernel.disk 0 ≡ 0 → Interprets (native_step (act_at row i.acting.cli) (call_at row i.acting.cli) 0 (asking 0 (call_at row i.acting.cli) system)).system
unfolding own_asked own_call served_to_all reserving releasing calling_step handing_step
own_at ReadCommand system i is w h ready gone = own_reading _ system i w h is gone (ready_begun system i ready)
own_at OpenQueue system i is w h ready gone =
    let none = nothing_left system i OpenQueue is refl gone in
    own_step (call_at OpenQueue i.acting.cli) system i w h refl (ap is_reserving is) gone refl refl
    (λ known. own_opens _ (asked_now (call_at OpenQueue i.acting.cli) system).kernel none.0 known.1)
own_at WriteQueue system i is w h ready gone =
    let none = nothing_left system i WriteQueue is refl gone in
    own_step (call_at WriteQueue i.acting.cli) system i w h refl (ap is_reserving is) gone refl refl
    (λ known. own_writes _ (asked_now (call_at WriteQueue i.acting.cli) system).kernel known.0 none.0 known.1)
own_at SetUser system i is w h ready gone =
    let none = nothing_left system i SetUser is refl gone in
    own_step (call_at SetUser i.acting.cli) system i w h refl (ap is_reserving is) gone refl refl
    (λ known. own_user _ _ (asked_now (call_at SetUser i.acting.cli) system).kernel none.0 known.1)
own_at OpenRelocatable system i is w h ready gone =
    let none = nothing_left system i OpenRelocatable is refl gone in
    own_step (call_at OpenRelocatable i.acting.cli) system i w h refl (ap is_reserving is) gone refl refl
    (λ known. own_open _ _ (asked_now (call_at OpenRelocatable i.acting.cli) system).kernel none.0 known.1)
own_at OpenAbsolute system i is w h ready gone =
    let none = nothing_left system i OpenAbsolute is refl gone in
    own_step (call_at OpenAbsolute i.acting.cli) system i w h refl (ap is_reserving is) gone refl refl
    (λ known. own_open _ _ (asked_now (call_at OpenAbsolute i.acting.cli) system).kernel none.0 known.1)
own_at ReadHeader system i is w h ready gone =
    let none = nothing_left system i ReadHeader is refl gone in
    own_step (call_at ReadHeader i.acting.cli) system i w h refl (ap is_reserving is) gone refl refl
    (λ known. own_reads _ _ (asked_now (call_at ReadHeader i.acting.cli) system).kernel none.0 known.1)
own_at ComputeSize system i is w h ready gone =
    let none = nothing_left system i ComputeSize is refl gone in
    own_step (call_at ComputeSize i.acting.cli) system i w h refl (ap is_reserving is) gone refl refl
    (λ known. own_size _ _ (asked_now (call_at ComputeSize i.acting.cli) system).kernel none.0 known.1)
own_at SetUserZero system i is w h ready gone =
    let none = nothing_left system i SetUserZero is refl gone in
    own_step (call_at SetUserZero i.acting.cli) system i w h refl (ap is_reserving is) gone refl refl
    (λ known. own_user _ _ (asked_now (call_at SetUserZero i.acting.cli) system).kernel none.0 known.1)
own_at (Reserve true pages) system i is w h ready gone =
    let call = call_at (Reserve true pages) i.acting.cli in
    own_ask call (asking 0 call system) refl
    (reserved_own (None) pages true call (asking 0 call system) (own_asked call system w refl i) is (nothing_left system i (Reserve true pages) is refl gone))
own_at (Reserve false pages) system i is w h ready gone =
    let call = call_at (Reserve false pages) i.acting.cli in
    own_ask call (asking 0 call system) refl
    (reserved_own (Some 0) pages false call (asking 0 call system) (own_asked call system w refl i) is (nothing_left system i (Reserve false pages) is refl gone))
own_at Place system i is w h ready gone =
    let call = call_at Place i.acting.cli in
    placed_own _ _ call.bytes (answering 0) (asking 0 call system) (own_asked call system w refl i) (ap is_reserving is) (nothing_left system i Place is refl gone)
own_at Patch system i is w h ready gone =
    let call = call_at Patch i.acting.cli in
    moved_own _ _ _ call.bytes _ (answering 0) (asking 0 call system) (own_asked call system w refl i) (ap is_reserving is) (nothing_left system i Patch is refl gone)
own_at ReadOn system i is w h ready gone =
    let none = nothing_left system i ReadOn is refl gone in
    own_step (call_at ReadOn i.acting.cli) system i w h refl (ap is_reserving is) gone refl refl
    (λ known. own_reads _ _ (asked_now (call_at ReadOn i.acting.cli) system).kernel none.0 known.1)
own_at (Free message) system i is w h ready gone =
    let call = call_at (Free message) i.acting.cli in
    own_ask call (asking 0 call system) refl
    (freed_own message _ _ call (asking 0 call system) (own_asked call system w refl i) is (nothing_left system i (Free message) is refl gone))
own_at (CloseAfter message) system i is w h ready gone =
    let none = nothing_left system i (CloseAfter message) is refl gone in
    own_step (call_at (CloseAfter message) i.acting.cli) system i w h refl (ap is_reserving is) gone refl refl
    (λ known. own_close _ _ (asked_now (call_at (CloseAfter message) i.acting.cli) system).kernel none.0 known.1)
own_at Close system i is w h ready gone =
    let none = nothing_left system i Close is refl gone in
    own_step (call_at Close i.acting.cli) system i w h refl (ap is_reserving is) gone refl refl
    (λ known. own_close _ _ (asked_now (call_at Close i.acting.cli) system).kernel none.0 known.1)
own_at (Tell message) system i is w h ready gone =
    let call = call_at (Tell message) i.acting.cli in
    told_own call (asking 0 call system) (own_asked call system w refl i) refl (ap is_reserving is) (nothing_left system i (Tell message) is refl gone)
own_at Give system i is w h ready gone =
    let call = call_at Give i.acting.cli in
    given_own i.acting.cli.console (answering 0) (asking 0 call system) (own_asked call system w refl i) (keeps_asked 0 call system w h).whole (ap is_reserving is)
    (nothing_left system i Give is refl gone)
own_at PlaceBasePage system i is w h ready gone =
    let call = call_at PlaceBasePage i.acting.cli in
    placed_own _ _ call.bytes (answering 0) (asking 0 call system) (own_asked call system w refl i) (ap is_reserving is) (nothing_left system i PlaceBasePage is refl gone)
own_at Begin system i is w h ready gone =
    let call = call_at Begin i.acting.cli in
    let s = asking 0 call system in
    begun_own (begins i.acting.cli.seg (process_of i.acting.cli) s) i.acting.cli.seg (process_of i.acting.cli) s (own_asked call system w refl i) refl is
    (keeps_asked 0 call system w h).whole (nothing_left system i Begin is refl gone)

pub own_next : (system : System) (i : Interprets system) → IsWhole system → Lives system.kernel.dispatcher.procs 0 → IsReady system.kernel.dispatcher 0
    → Interprets (native_step (next_act i.acting.cli) (next_call i.acting.cli) 0 (asking 0 (next_call i.acting.cli) system)).system
unfolding next_act next_call
own_next system i w h ready = own_at i.acting.cli.row system i refl w h ready (ready_not_at_disk system.kernel 0 w.sound ready)

-- any other resident takes its step

goes_native : (outcome : Ended_how) (reply : Answer) (call : Taken) (p : ℕ) (system : System) → IsWhole system → Lives system.kernel.dispatcher.procs p → 0 ≢ p → Interprets system
    → Interprets (native_outcome outcome reply call p system).system
goes_native Done reply call p system w h other a = goes_taking reply p _ other (goes_said call call.bytes p system a)
goes_native Ended reply call p system w h other a = goes_ended p system w h other a
goes_native Held reply call p system w h other a = a
goes_native Retry reply call p system w h other a = a

goes_text : (call : Taken) (system : System) → Interprets system → Interprets (text_told call system).system
goes_text call system a =
    either (λ (change : SystemChange). Interprets change.system) (is_console (low_parameter call) system.kernel) _ _ (λ _. goes_spoke (low_parameter call) _ system a) (λ _. a)

goes_asks : (call : Taken) (p : ℕ) (system : System) → call_of system.kernel.dispatcher.procs p ≡ call → IsWhole system → Lives system.kernel.dispatcher.procs p
    → IsReady system.kernel.dispatcher p → 0 ≢ p → Interprets system → Interprets (native_step Ask call p system).system
unfolding calling_step telling_step
goes_asks call p system keeps w h ready other a =
    let done = whole_to_all call p system keeps w h ready in
    either (λ (change : SystemChange). Interprets change.system) (tells (native_in system.residents p) call) _ _ (λ _. goes_taking _ p _ other (goes_text call system a))
    (λ _. goes_native _ _ call p _ done.whole done.lives other (goes_to_all call p system w h ready other a))

its_own : (p : ℕ) (cli : Interpreter) (system : System) (i : Interprets system) → native_in system.residents p ≡ Some (Cli cli) → (0 ≡ p) × (cli ≡ i.acting.cli)
its_own p cli system i is =
    let zero_is : p ≡ 0 = i.acting.alone p (ap interprets_if_there is) in
    (sym zero_is, same_resident cli i.acting.cli (sym is ∙ ap (native_in system.residents) zero_is ∙ i.acting.acts))

-- a resident that isn't the interpreter asks
goes_asking : (native : Native) (p : ℕ) (system : System) → native_in system.residents p ≡ Some native → interprets native ≡ false → IsWhole system → Lives system.kernel.dispatcher.procs p
    → IsReady system.kernel.dispatcher p → Interprets system → Interprets (native_step Ask (native_call native) p (asking p (native_call native) system)).system
goes_asking native p system is asks w h ready a =
    let call = native_call native in
    let other : 0 ≢ p = λ zero_is. absurd (no_interpreter native a.acting.cli asks (sym is ∙ ap (native_in system.residents) (sym zero_is) ∙ a.acting.acts)) in
    let kept = keeps_asked p call system w h in
    goes_asks call p (asking p call system) kept.call kept.whole kept.lives (kept.ready ready) other (others_call p call system other a)

pub goes_resided : (native : Option Native) (p : ℕ) (system : System) → native_in system.residents p ≡ native → IsWhole system → Lives system.kernel.dispatcher.procs p
    → IsReady system.kernel.dispatcher p → Interprets system → Interprets (resided native p system).system
goes_resided None p system is w h ready a = a
goes_resided (Some (Tmp tmp)) p system is w h ready a = goes_asking (Tmp tmp) p system is refl w h ready a
goes_resided (Some (Spool spool)) p system is w h ready a = goes_asking (Spool spool) p system is refl w h ready a
goes_resided (Some (Sched sched)) p system is w h ready a = goes_asking (Sched sched) p system is refl w h ready a
goes_resided (Some (Cli cli)) p system is w h ready a =
    let own = its_own p cli system a is in
    let P : ℕ → Interpreter → Type 0 = λ q c. Lives system.kernel.dispatcher.procs q → IsReady system.kernel.dispatcher q → Interprets (native_step (next_act c) (next_call c) q (asking q (next_call c) system)).system in
    let here : P 0 a.acting.cli = λ living is_ready. own_next system a w living is_ready in
    subst (λ (q : ℕ). P q cli) own.0 (subst (P 0) (sym own.1) here) h ready

-- what the running process does
goes_acted_by : (running seg : Option ℕ) (system : System) → IsWhole system → system.kernel.dispatcher.running ≡ running → running_segment running system ≡ seg
    → Interprets system → Interprets (acted_by running seg system).system
goes_acted_by None seg system w e home a = a
goes_acted_by (Some p) None system w e home a =
    goes_resided (native_in system.residents p) p system refl w (runner_lives system.kernel p w.sound e) (w.sound.runs p e) a
goes_acted_by (Some p) (Some seg) system w e home a =
    goes_at_gate (gate_before p seg system) p seg system w (runner_lives system.kernel p w.sound e) (w.sound.runs p e) (another p seg system a.acting home) a

pub goes_acted : (system : System) → IsWhole system → Interprets system → Interprets (acted system).system
unfolding acted
goes_acted system w a = goes_acted_by system.kernel.dispatcher.running _ system w refl refl a
