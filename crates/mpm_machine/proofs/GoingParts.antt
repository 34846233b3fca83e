-- The command line interpreter goes on: through each part of what another process does it acts in slot 0 with the segment that it has
-- reserved, and awaits what it awaited.
use Rattle.std.proofs.Common.{ℕ, ◌≡◌, ◌≢◌, ◌∙◌, zero, suc, ◌==◌, ◌&&◌, not, Bool, true, false, List, length, Option, Some, None, refl, sym, ap, subst, arith}
use Rattle.std.specs.Prelude.{nat_lt}
use Rattle.std.proofs.lemmas.Bool.{and_parts}
use Rattle.std.proofs.lemmas.Bool.Decides.{nat_tests}
use Rattle.mpm_base.proofs.Choices.{either}
use Rattle.mpm_base.specs.Lists.{in_width}
use Rattle.mpm_base.specs.Calls.{Taken, Answer}
use Rattle.mpm_base.specs.declared.call.Outcome.{Outcome as Ended_how}
use Rattle.mpm_base.specs.declared.call.Outcome.TheVariants.{Done, Held, Retry, Ended}
use Rattle.mpm_base.specs.declared.functions.TheConstants.{ABSOLUTE_MEMORY_REQUEST, RELOCATABLE_MEMORY_REQUEST, MEMORY_FREE, CREATE_PROCESS, ABORT_SPECIFIED_PROCESS, PARSE_FILENAME, SYSTEM_DATA_ADDRESS, RETURN_PROCESS_DESCRIPTOR_ADDRESS, CHAIN_TO_PROGRAM, SEND_CLI_COMMAND}
use Rattle.mpm_dispatcher.specs.Dispatch.{IsReady}
use Rattle.mpm_gate.specs.Replies.{answered}
use Rattle.mpm_kernel.proofs.Beside.{StaysBeside, beside_same, beside_changed, beside_other, beside_others_call}
use Rattle.mpm_kernel.proofs.EndingLaws.{beside_discharged, consoles_discharged, beside_given_back, consoles_given_back}
use Rattle.mpm_kernel.proofs.GivingLaws.{procs_gave, consoles_gave}
use Rattle.mpm_kernel.proofs.HomeLaws.{beside_called, consoles_called, consoles_spoke}
use Rattle.mpm_kernel.specs.Called.{Called}
use Rattle.mpm_kernel.specs.Columns.{spoke}
use Rattle.mpm_kernel.specs.Consoling.{given}
use Rattle.mpm_kernel.specs.Kernel.{Kernel, is_resident, with_changed}
use Rattle.mpm_kernel.specs.Procedures.{given_back}
use Rattle.mpm_output.specs.Texts.{illegal_text}
use Rattle.mpm_gate.specs.declared.gate.Gate.{Gate}
use Rattle.mpm_gate.specs.declared.gate.Gate.TheVariants.{End, Call, Return}
use Rattle.mpm_procs.specs.Table.{Lives, process_in, call_of}
use Rattle.mpm_procs.specs.declared.process.Process.{Process}
use Rattle.mpm_xdos.proofs.CreatedLaws.{Made, made_created}
use Rattle.mpm_xdos.proofs.TargetLaws.{target_lives}
use Rattle.mpm_xdos.specs.Aborting.{waits_to_end, target}
use Rattle.mpm_xdos.specs.Creating.{home_base, created}
use Rattle.mpm_xdos.specs.Procedures.{entered, entering, leaving, returned_from_procedure}
use Rattle.z80_ext.specs.Instruction.{registers_after, actions_of}
use Rattle.z80_regs.specs.Outcome.{StepOutcome}
use Rattle.z80_regs.specs.declared.regs.Regs.{Regs}
use Rattle.mpm_banks.proofs.ActionLaws.{same_segments_after}
use Rattle.mpm_gate.proofs.ReplyLaws.{placed_segments}
use Rattle.mpm_ready.specs.Order.{Member}
use Rattle.mpm_service.specs.Disk.{DiskService}
use Rattle.mpm_service.specs.Places.{at_disk}
use Rattle.mpm_service.proofs.PlaceLaws.{at_without_other}
use Rattle.mpm_kernel.specs.Awaiting.{Awaits, AwaitsIn}
use Rattle.mpm_kernel.specs.Calls.{called}
use Rattle.mpm_kernel.proofs.DiskStays.{disk_called, disk_discharged, disk_given_back}
use Rattle.mpm_kernel.proofs.AwaitingCalls.{awaits_called}
use Rattle.mpm_kernel.proofs.AwaitingEnds.{awaits_discharged, awaits_gave, awaits_given_back}
use Rattle.mpm_system.proofs.WholeLaws.{keeps_asked, keeps_call, whole_calling}
use Rattle.mpm_system.specs.Calling.{Served, asking, calling, served_by}
use Rattle.mpm_system.specs.Residents.{taking}
use Rattle.mpm_system.specs.Sending.{framed, passed, passed_after, console_sent, may_pass, sent, may_send, sending, chaining, chained, has_interpreter}
use Rattle.mpm_system.specs.Taking.{asked, keeping}
use Rattle.mpm_system.specs.Answering.{answering_call, popped, recorded, replied}
use Rattle.mpm_system.specs.Parsing.{parsing}
use Rattle.mpm_system.specs.Segments.{releasing, reserving}
use Rattle.mpm_system.specs.Saying.{said_by, string_of}
use Rattle.mpm_system.specs.Whole.{IsWhole, speaking}
use Rattle.mpm_system.specs.declared.system.System.{System}
use Rattle.mpm_system.proofs.PlacedLaws.{given_disk}
use Rattle.mpm_machine.proofs.ActedLaws.{whole_served}
use Rattle.mpm_machine.proofs.WholeLaws.{aborted_by, aborted_is, ends_at_once, whole_speaking}
use Rattle.mpm_machine.specs.Ending.{ended}
use Rattle.mpm_machine.specs.Interpreting.{sets_or_chains, Interprets}
use Rattle.mpm_machine.specs.Serving.{aborted, aborting, aborting_this, completing, creating, fulfilling, gate_step, is_entry, outcome_of, reply_at_entry, returning, served, served_to_all, with_entry}
use Rattle.mpm_machine.specs.Step.{acted_at, executed, illegal, instructed, instruction_at}
use Rattle.mpm_machine.proofs.GoingOn.{own_call, not_resident}
use Rattle.mpm_machine.proofs.KeepingLaws.{created_disk}
use Rattle.mpm_machine.proofs.OwnLaws.{KeepsOwn, AwaitsNothing, awaits_now, own_itself, own_same, own_reserved, own_released, own_without, interprets_with, interprets_another}

-- laws of parts
unchanged : (old new : System) → new.memory ≡ old.memory → KeepsOwn old.memory new.memory
unchanged old new same = subst (KeepsOwn old.memory) (sym same) (own_itself old.memory)

pub same_place : (old new : Kernel) → new.disk ≡ old.disk → at_disk new.disk 0 ≡ at_disk old.disk 0
same_place old new same = ap (λ (disk : DiskService). at_disk disk 0) same

pub still_awaits : (k : ℕ) (old new : Kernel) → new.dispatcher.lists ≡ old.dispatcher.lists → new.dispatcher.completed ≡ old.dispatcher.completed → AwaitsIn k 0 old → AwaitsIn k 0 new
still_awaits k old new lists completed a =
    subst (λ (c : List ℕ). Awaits k 0 new.dispatcher.lists c) (sym completed) (subst (λ (l : List (List Member)). Awaits k 0 l old.dispatcher.completed) (sym lists) a)

-- what leaves slot 0, the lists, the completions, the disk, memory, the consoles and the residents as they are, leaves it
pub goes_with : (old new : System) → new.residents ≡ old.residents → StaysBeside 0 old.kernel.dispatcher.procs new.kernel.dispatcher.procs
    → length new.kernel.units.consoles ≡ length old.kernel.units.consoles → new.kernel.disk ≡ old.kernel.disk → new.memory ≡ old.memory
    → new.kernel.dispatcher.lists ≡ old.kernel.dispatcher.lists → new.kernel.dispatcher.completed ≡ old.kernel.dispatcher.completed → Interprets old → Interprets new
goes_with old new residents beside count disk memory lists completed i =
    interprets_with old new residents beside count (same_place old.kernel new.kernel disk) (unchanged old new memory) i
    (still_awaits (awaits_now old i) old.kernel new.kernel lists completed i.awaits)

pub goes_same : (old new : System) → new.residents ≡ old.residents → new.kernel.dispatcher.procs ≡ old.kernel.dispatcher.procs
    → length new.kernel.units.consoles ≡ length old.kernel.units.consoles → new.kernel.disk ≡ old.kernel.disk → new.memory ≡ old.memory
    → new.kernel.dispatcher.lists ≡ old.kernel.dispatcher.lists → new.kernel.dispatcher.completed ≡ old.kernel.dispatcher.completed → Interprets old → Interprets new
goes_same old new residents procs count disk memory lists completed i =
    goes_with old new residents (beside_same 0 old.kernel.dispatcher.procs new.kernel.dispatcher.procs procs) count disk memory lists completed i

-- another kernel, in which slot 0 has its place at the disk, and only so many completions of it are left
pub goes_kernel : (system : System) (kernel : Kernel) → StaysBeside 0 system.kernel.dispatcher.procs kernel.dispatcher.procs
    → length kernel.units.consoles ≡ length system.kernel.units.consoles → at_disk kernel.disk 0 ≡ at_disk system.kernel.disk 0
    → ((k : ℕ) → AwaitsIn k 0 system.kernel → AwaitsIn k 0 kernel) → Interprets system → Interprets (record system { kernel = kernel })
goes_kernel system kernel beside count disk awaits i =
    interprets_with system (record system { kernel = kernel }) refl beside count disk (own_itself system.memory) i (awaits (awaits_now system i) i.awaits)

-- parts of what a process does

pub goes_regs : (p : ℕ) (regs : Regs) (system : System) → Interprets system
    → Interprets (record system { kernel = with_changed system.kernel p (record (process_in system.kernel.dispatcher.procs p) { regs = regs }) })
goes_regs p regs system a =
    goes_with system _ refl (beside_changed system.kernel.dispatcher.procs p 0 (record (process_in system.kernel.dispatcher.procs p) { regs = regs }) refl refl (λ _. refl) (λ _. refl)) refl refl refl refl refl a

pub goes_spoke : (console : ℕ) (bytes : List ℕ) (system : System) → Interprets system → Interprets (speaking console bytes system).system
unfolding speaking spoke
goes_spoke console bytes system a =
    goes_same system _ refl refl (consoles_spoke system.kernel console bytes) refl refl refl refl a

pub goes_ended : (p : ℕ) (system : System) → IsWhole system → Lives system.kernel.dispatcher.procs p → 0 ≢ p → Interprets system → Interprets (ended p system)
unfolding ended
goes_ended p system w h other a =
    interprets_with system _ refl (beside_discharged system.kernel p 0 w.sound h other) (consoles_discharged system.kernel p w.sound h)
    (ap (λ (disk : DiskService). at_disk disk 0) (disk_discharged system.kernel p) ∙ at_without_other system.kernel.disk p 0 other)
    (own_without p system w h (λ is. other (sym is))) a (awaits_discharged (awaits_now system a) 0 system.kernel p w.sound h other a.awaits)

pub others_call : (p : ℕ) (call : Taken) (system : System) → 0 ≢ p → Interprets system → Interprets (asking p call system)
others_call p call system other a = goes_with system _ refl (beside_others_call system.kernel.dispatcher.procs p 0 call other) refl refl refl refl refl a

-- slot 0 one that neither sets the error mode nor chains
unfoldable pub own_asked : (call : Taken) (system : System) → IsWhole system → sets_or_chains call.function ≡ false → Interprets system → Interprets (asking 0 call system)
unfolding own_call
own_asked call system w mild i = record { acting = own_call call system w mild i.acting; few = i.few; homes = i.homes; has = i.has; filed = i.filed; awaits = i.awaits }

-- another resident takes an answer
pub goes_taking : (reply : Answer) (p : ℕ) (system : System) → 0 ≢ p → Interprets system → Interprets (taking reply p system)
goes_taking reply zero system other a = absurd (other refl)
goes_taking reply (suc q) system other a = interprets_another system reply q a

-- a process is aborted by another, or by a key

goes_aborted_by : (stays waits : Bool) (p : ℕ) (system : System) → IsWhole system → Lives system.kernel.dispatcher.procs p → (stays ≡ false → 0 ≢ p) → Interprets system
    → Interprets (aborted_by stays waits p system)
goes_aborted_by true waits p system w h other a = goes_same system _ refl refl refl refl refl refl refl a
goes_aborted_by false true p system w h other a =
    goes_with system _ refl (beside_other system.kernel.dispatcher.procs p 0 (record (process_in system.kernel.dispatcher.procs p) { abort_due = true }) (other refl)) refl refl refl refl refl a
goes_aborted_by false false p system w h other a = subst Interprets (sym (ends_at_once p system)) (goes_ended p system w h (other refl) a)

pub goes_aborted : (p : ℕ) (system : System) → IsWhole system → Lives system.kernel.dispatcher.procs p → Interprets system → Interprets (aborted p system)
goes_aborted p system w h a =
    subst Interprets (sym (aborted_is (is_resident system.kernel.dispatcher.procs p) (waits_to_end system.kernel p) p system refl refl))
    (goes_aborted_by (is_resident system.kernel.dispatcher.procs p) (waits_to_end system.kernel p) p system w h (not_resident p system a.acting) a)

goes_aborting_this : (named : Option ℕ) (p : ℕ) (system : System) → IsWhole system → ((q : ℕ) → named ≡ Some q → Lives system.kernel.dispatcher.procs q) → Interprets system
    → Interprets (aborting_this named p system).system
goes_aborting_this None p system w living a = a
goes_aborting_this (Some other) p system w living a =
    either (λ (s : Served). Interprets s.system) (other == p && not (waits_to_end system.kernel p)) _ _ (λ _. a)
    (λ _. goes_aborted other system w (living other refl) a)

goes_aborting : (p : ℕ) (system : System) → IsWhole system → Interprets system → Interprets (aborting p system).system
unfolding aborting
goes_aborting p system w a =
    goes_aborting_this (target system.kernel.dispatcher.procs p) p system w (λ q named. target_lives system.kernel.dispatcher.procs p q named) a

-- processes are created

made_beside : (old new : Kernel) → Made old new → Lives old.dispatcher.procs 0 → StaysBeside 0 old.dispatcher.procs new.dispatcher.procs
made_beside old new made h = record {
  living = made.lives 0 h ∙ sym h;
  seg = ap (λ (x : Process). x.seg) (made.process 0 h);
  due = ap (λ (x : Process). x.abort_due) (made.process 0 h);
  function = ap (λ (x : Taken). x.function) (made.call 0 h);
  answers = λ _. ap (λ (x : Process). x.error_mode) (made.process 0 h);
  multi = λ _. ap (λ (x : Process). x.multi) (made.process 0 h);
}

goes_creating : (p : ℕ) (system : System) → IsWhole system → Lives system.kernel.dispatcher.procs p → Interprets system → Interprets (creating p system).system
unfolding creating
goes_creating p system w h a =
    let base = home_base system.memory (process_in system.kernel.dispatcher.procs p).seg in
    let made = made_created system.kernel p base w.sound h in
    goes_kernel system (created system.kernel p base) (made_beside system.kernel (created system.kernel p base) made a.acting.lives) made.consoles
    (same_place system.kernel (created system.kernel p base) (created_disk system.kernel p base)) (λ k x. made.awaits k 0 x) a

-- a call of the kernel

goes_calling : (p : ℕ) (system : System) → IsWhole system → Lives system.kernel.dispatcher.procs p → IsReady system.kernel.dispatcher p → 0 ≢ p → Interprets system
    → Interprets (calling p system).system
goes_calling p system w h ready other a =
    goes_kernel system _ (beside_called p 0 system.kernel w.sound h) (consoles_called p system.kernel w.sound h)
    (same_place system.kernel (called p system.kernel).kernel (disk_called p system.kernel)) (λ k x. awaits_called k p 0 system.kernel w.sound h ready other x) a

-- a command is sent

pub goes_passed : (p : ℕ) (system : System) → IsWhole system → Interprets system → Interprets (record system { kernel = passed p system.kernel })
goes_passed p system w a =
    let console = console_sent p system.kernel in
    either (λ (k : Kernel). Interprets (record system { kernel = k })) (may_pass p system.kernel) _ system.kernel
    (λ may.
    let parts = and_parts (nat_lt console (length system.kernel.units.consoles)) _ may in
    let there : nat_lt console (length system.kernel.units.consoles) ≡ true = parts.0 in
    goes_kernel system (given console (Some p) (Some 0) system.kernel)
    (beside_same 0 system.kernel.dispatcher.procs _ (procs_gave console (Some p) (Some 0) system.kernel)) (consoles_gave console (Some p) (Some 0) system.kernel)
    (same_place system.kernel (given console (Some p) (Some 0) system.kernel) (given_disk console (Some p) (Some 0) system.kernel))
    (λ k x. awaits_gave k 0 console (Some p) (Some 0) system.kernel w.sound (grind (arith, nat_tests, there)) parts.1 x) a)
    (λ _. a)

-- and so it is with what slot 0 awaits alone
pub none_passed : (p : ℕ) (system : System) → IsWhole system → AwaitsNothing system.kernel → AwaitsNothing (passed p system.kernel)
none_passed p system w a =
    let console = console_sent p system.kernel in
    either AwaitsNothing (may_pass p system.kernel) _ system.kernel
    (λ may.
    let parts = and_parts (nat_lt console (length system.kernel.units.consoles)) _ may in
    let there : nat_lt console (length system.kernel.units.consoles) ≡ true = parts.0 in
    let place = same_place system.kernel (given console (Some p) (Some 0) system.kernel) (given_disk console (Some p) (Some 0) system.kernel) in
    (awaits_gave 0 0 console (Some p) (Some 0) system.kernel w.sound (grind (arith, nat_tests, there)) parts.1 a.0, place ∙ a.1))
    (λ _. a)

goes_passed_after : (outcome : Ended_how) (reply : Answer) (p : ℕ) (system : System) → IsWhole system → Interprets system
    → Interprets (record system { kernel = passed_after outcome reply p system.kernel })
goes_passed_after Done reply p system w a =
    either (λ (k : Kernel). Interprets (record system { kernel = k })) (reply.hl == 0) _ system.kernel (λ _. goes_passed p system w a) (λ _. a)
goes_passed_after Held reply p system w a = a
goes_passed_after Retry reply p system w a = a
goes_passed_after Ended reply p system w a = a

goes_sent : (function : ℕ) (message : List ℕ) (p : ℕ) (system : System) → IsWhole system → Lives system.kernel.dispatcher.procs p → IsReady system.kernel.dispatcher p
    → 0 ≢ p → Interprets system → Interprets (served_by (sent function message p system.kernel) system).system
unfolding sent
goes_sent function message p system w h ready other a =
    let frame = framed message (call_of system.kernel.dispatcher.procs p) in
    let asked = keeps_asked p frame system w h in
    let begun = others_call p frame system other a in
    let done = whole_calling p (asking p frame system) asked.whole asked.lives (asked.ready ready) in
    let result = calling p (asking p frame system) in
    let behind = goes_calling p (asking p frame system) asked.whole asked.lives (asked.ready ready) other begun in
    let own = record (call_of result.system.kernel.dispatcher.procs p) { function = function } in
    goes_passed_after result.outcome result.reply p (asking p own result.system) (keeps_asked p own result.system done.whole done.lives).whole
    (others_call p own result.system other behind)

goes_sending : (b : Bool) (p : ℕ) (system : System) → IsWhole system → Lives system.kernel.dispatcher.procs p → IsReady system.kernel.dispatcher p → 0 ≢ p → Interprets system
    → Interprets (served_by (sending b p system.kernel) system).system
unfolding sending
goes_sending b p system w h ready other a =
    let call = call_of system.kernel.dispatcher.procs p in
    either (λ (c : Called). Interprets (served_by c system).system) (may_send b call system.kernel) _ _
    (λ _. goes_sent SEND_CLI_COMMAND (in_width 130 call.bytes) p system w h ready other a) (λ _. a)

goes_chaining : (b : Bool) (p : ℕ) (system : System) → IsWhole system → Lives system.kernel.dispatcher.procs p → IsReady system.kernel.dispatcher p → 0 ≢ p → Interprets system
    → Interprets (served_by (chaining b p system.kernel) system).system
unfolding chaining
goes_chaining b p system w h ready other a =
    let message = chained (process_in system.kernel.dispatcher.procs p) (call_of system.kernel.dispatcher.procs p).bytes in
    either (λ (c : Called). Interprets (served_by c system).system) b _ _
    (λ _. goes_sent CHAIN_TO_PROGRAM message p system w h ready other a) (λ _. a)

-- a call that residents make too, and any other

pub goes_to_all : (call : Taken) (p : ℕ) (system : System) → IsWhole system → Lives system.kernel.dispatcher.procs p → IsReady system.kernel.dispatcher p → 0 ≢ p → Interprets system
    → Interprets (served_to_all call p system).system
unfolding served_to_all reserving releasing
goes_to_all call p system w h ready other a =
    let f = call.function in
    let P : Served → Type 0 = λ s. Interprets s.system in
    let procs = system.kernel.dispatcher.procs in
    let same = beside_same 0 procs procs refl in
    either P (f == ABSOLUTE_MEMORY_REQUEST) _ _ (λ _. interprets_with system _ refl same refl refl (own_reserved system.memory p _ _) a a.awaits)
    (λ _. either P (f == RELOCATABLE_MEMORY_REQUEST) _ _ (λ _. interprets_with system _ refl same refl refl (own_reserved system.memory p _ _) a a.awaits)
    (λ _. either P (f == MEMORY_FREE) _ _ (λ _. interprets_with system _ refl same refl refl (own_released system.memory p _ (λ is. other (sym is))) a a.awaits)
    (λ _. either P (f == SEND_CLI_COMMAND) _ _ (λ _. goes_sending (has_interpreter system) p system w h ready other a)
    (λ _. goes_calling p system w h ready other a))))

goes_served : (call : Taken) (p : ℕ) (system : System) → IsWhole system → Lives system.kernel.dispatcher.procs p → IsReady system.kernel.dispatcher p → 0 ≢ p → Interprets system
    → Interprets (served call p system).system
unfolding served parsing
goes_served call p system w h ready other a =
    let f = call.function in
    let P : Served → Type 0 = λ s. Interprets s.system in
    either P (f == CREATE_PROCESS) _ _ (λ _. goes_creating p system w h a)
    (λ _. either P (f == ABORT_SPECIFIED_PROCESS) _ _ (λ _. goes_aborting p system w a)
    (λ _. either P (f == PARSE_FILENAME) _ _ (λ _. a)
    (λ _. either P (f == SYSTEM_DATA_ADDRESS) _ _ (λ _. a)
    (λ _. either P (f == RETURN_PROCESS_DESCRIPTOR_ADDRESS) _ _ (λ _. a)
    (λ _. either P (f == CHAIN_TO_PROGRAM) _ _ (λ _. goes_chaining (has_interpreter system) p system w h ready other a)
    (λ _. goes_to_all call p system w h ready other a))))))

-- what it brings about

pub goes_said : (call : Taken) (string : List ℕ) (p : ℕ) (system : System) → Interprets system → Interprets (said_by call string p system).system
unfolding said_by
goes_said call string p system a = goes_spoke (process_in system.kernel.dispatcher.procs p).console _ system a

pub goes_popped : (p seg : ℕ) (system : System) → Interprets system → Interprets (popped p seg system)
unfolding popped
goes_popped p seg system a = goes_regs p _ system a

pub goes_answering : (reply : Answer) (call : Taken) (p seg : ℕ) (system : System) → Interprets system → Interprets (answering_call reply call p seg system)
unfolding answering_call recorded replied
goes_answering reply call p seg system a =
    interprets_with system _ refl
    (beside_changed system.kernel.dispatcher.procs p 0 (record (process_in system.kernel.dispatcher.procs p) { regs = answered reply.hl (process_in system.kernel.dispatcher.procs p).regs })
    refl refl (λ _. refl) (λ _. refl)) refl refl (own_same system.memory _ (placed_segments reply call.word seg system.memory)) a a.awaits

goes_entered : (p : ℕ) (system : System) → Interprets system → Interprets (record system { kernel = entered p system.kernel })
unfolding entered entering
goes_entered p system a =
    goes_with system _ refl (beside_changed system.kernel.dispatcher.procs p 0 (entering (call_of system.kernel.dispatcher.procs p) (process_in system.kernel.dispatcher.procs p)) refl refl (λ _. refl) (λ _. refl)) refl refl refl refl refl a

goes_entry : (reply : Answer) (call : Taken) (p : ℕ) (system : System) → Interprets system → Interprets (with_entry reply call p system)
unfolding with_entry
goes_entry reply call p system a =
    either (λ (kernel : Kernel). Interprets (record system { kernel = kernel })) (is_entry call reply) _ _ (λ _. goes_entered p system a) (λ _. a)

pub goes_fulfilling : (reply : Answer) (call : Taken) (p seg : ℕ) (system : System) → Interprets system → Interprets (fulfilling reply call p seg system)
unfolding fulfilling
goes_fulfilling reply call p seg system a = goes_answering (reply_at_entry reply call p system) call p seg _ (goes_entry reply call p system a)

goes_completing : (reply : Answer) (call : Taken) (p seg : ℕ) (system : System) → Interprets system → Interprets (completing reply call p seg system).system
unfolding completing
goes_completing reply call p seg system a =
    goes_fulfilling reply call p seg _ (goes_popped p seg _ (goes_said call (string_of call seg system.memory) p system a))

goes_outcome : (outcome : Ended_how) (reply : Answer) (call : Taken) (p seg : ℕ) (system : System) → IsWhole system → Lives system.kernel.dispatcher.procs p → 0 ≢ p
    → Interprets system → Interprets (outcome_of outcome reply call p seg system).system
goes_outcome Done reply call p seg system w h other a = goes_completing reply call p seg system a
goes_outcome Ended reply call p seg system w h other a = goes_ended p system w h other a
goes_outcome Held reply call p seg system w h other a = goes_popped p seg system a
goes_outcome Retry reply call p seg system w h other a = a

pub goes_keeping : (p : ℕ) (call : Taken) (system : System) → 0 ≢ p → Interprets system → Interprets (keeping p call system)
unfolding keeping
goes_keeping p call system other a =
    others_call p call _ other (goes_regs p (record (process_in system.kernel.dispatcher.procs p).regs { shadow = false }) system a)

goes_gate_step : (p seg : ℕ) (system : System) → IsWhole system → Lives system.kernel.dispatcher.procs p → IsReady system.kernel.dispatcher p → 0 ≢ p → Interprets system
    → Interprets (gate_step p seg system).system
unfolding gate_step
goes_gate_step p seg system w h ready other a =
    let call = asked p seg system in
    let kept = keeps_call p call system w h in
    let done = whole_served call p (keeping p call system) kept.call kept.whole kept.lives (kept.ready ready) in
    goes_outcome _ _ call p seg _ done.whole done.lives other
    (goes_served call p (keeping p call system) kept.whole kept.lives (kept.ready ready) other (goes_keeping p call system other a))

-- a process leaves a resident procedure, or does an instruction

goes_returning : (p : ℕ) (system : System) → IsWhole system → Lives system.kernel.dispatcher.procs p → 0 ≢ p → Interprets system → Interprets (returning p system)
unfolding returning returned_from_procedure leaving
goes_returning p system w h other a =
    let back =
    goes_kernel system (given_back p system.kernel) (beside_given_back p 0 system.kernel w.sound h other) (consoles_given_back p system.kernel)
    (same_place system.kernel (given_back p system.kernel) (disk_given_back p system.kernel))
    (λ k x. awaits_given_back k 0 p system.kernel w.sound h x) a in
    goes_regs p _ _ back

goes_instructed : (outcome : Option StepOutcome) (p seg : ℕ) (system : System) → Interprets system → Interprets (instructed outcome p seg system)
unfolding instructed
goes_instructed outcome p seg system a =
    interprets_with system _ refl
    (beside_changed system.kernel.dispatcher.procs p 0
    (record (process_in system.kernel.dispatcher.procs p) { regs = registers_after outcome (process_in system.kernel.dispatcher.procs p).regs }) refl refl (λ _. refl) (λ _. refl)) refl refl
    (own_same system.memory _ (same_segments_after (actions_of outcome) seg system.memory)) a a.awaits

goes_illegal : (p : ℕ) (system : System) → IsWhole system → Lives system.kernel.dispatcher.procs p → 0 ≢ p → Interprets system → Interprets (illegal p system).system
unfolding illegal
goes_illegal p system w h other a =
    let process = process_in system.kernel.dispatcher.procs p in
    let spoke = whole_speaking process.console p (illegal_text process.regs.pc) system w h in
    goes_ended p _ spoke.whole spoke.lives other (goes_spoke process.console (illegal_text process.regs.pc) system a)

goes_executed : (outcome : Option StepOutcome) (p seg : ℕ) (system : System) → IsWhole system → Lives system.kernel.dispatcher.procs p → 0 ≢ p → Interprets system
    → Interprets (executed outcome p seg system).system
unfolding executed
goes_executed None p seg system w h other a = goes_illegal p system w h other a
goes_executed (Some outcome) p seg system w h other a = goes_instructed (Some outcome) p seg system a

pub goes_at_gate : (gate : Option Gate) (p seg : ℕ) (system : System) → IsWhole system → Lives system.kernel.dispatcher.procs p → IsReady system.kernel.dispatcher p → 0 ≢ p
    → Interprets system → Interprets (acted_at gate p seg system).system
goes_at_gate (Some End) p seg system w h ready other a = goes_ended p system w h other a
goes_at_gate (Some Call) p seg system w h ready other a = goes_gate_step p seg system w h ready other a
goes_at_gate (Some Return) p seg system w h ready other a = goes_returning p system w h other a
goes_at_gate None p seg system w h ready other a = goes_executed (instruction_at p seg system) p seg system w h other a
