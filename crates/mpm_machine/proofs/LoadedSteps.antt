-- What of a program's file stands in the segment that the interpreter reserved, in every step and in a run of them. As a program begins,
-- all of its code stands there.
use Rattle.std.proofs.Common.{◌≡◌, ◌≢◌, ◌∙◌, ℕ, zero, suc, ◌+◌, ◌*◌, ◌<◌, ◌==◌, Bool, true, false, if◌then◌else◌, List, [], ◌∷◌, Option, Some, None, IfSome, refl, sym, ap, subst, arith}
use Rattle.std.specs.List.{range_with_len}
use Rattle.std.proofs.lemmas.Bool.{false≢true}
use Rattle.mpm_base.proofs.Choices.{either}
use Rattle.mpm_base.specs.Calls.{Answer}
use Rattle.mpm_banks.specs.Memory.{Memory, byte_at}
use Rattle.mpm_directories.specs.Direct.{Directly, CallerChange, Resets, Selects, Stays}
use Rattle.mpm_file_functions.specs.declared.refusals.Extended.{Extended}
use Rattle.mpm_residents.specs.Interpreters.{Interpreter, call_at, next_call}
use Rattle.mpm_residents.specs.Standing.{is_loading}
use Rattle.mpm_residents.specs.declared.cli.table.Row.{Row}
use Rattle.mpm_residents.specs.declared.cli.table.Row.TheVariants.{ReadCommand, OpenQueue, WriteQueue, SetUser, OpenRelocatable, OpenAbsolute, ReadHeader, ComputeSize, SetUserZero, Reserve, Place, Patch, ReadOn, Free, CloseAfter, Close, Tell, Give, PlaceBasePage, Begin}
use Rattle.mpm_dispatcher.specs.Dispatch.{IsReady, first_completed}
use Rattle.mpm_gate.proofs.ReplyLaws.{segments_keep}
use Rattle.mpm_kernel.proofs.AwaitingEnds.{none_handed_out}
use Rattle.mpm_kernel.proofs.DiskLaws.{over_turned}
use Rattle.mpm_kernel.specs.Awaiting.{AwaitsIn}
use Rattle.mpm_kernel.specs.Kernel.{Kernel}
use Rattle.mpm_kernel.specs.Waiting.{completion_reply}
use Rattle.mpm_loader.specs.Plans.{all_bytes}
use Rattle.mpm_procs.specs.Table.{Lives, process_in, call_of}
use Rattle.mpm_residents.specs.Natives.{native_in}
use Rattle.mpm_residents.specs.declared.native.Native.{Native}
use Rattle.mpm_residents.specs.declared.native.Native.TheVariants.{Cli}
use Rattle.mpm_service.specs.Disk.{served_process, turn_answer}
use Rattle.mpm_service.specs.declared.service.Turn.{Turn}
use Rattle.mpm_service.specs.declared.service.Turn.TheVariants.{Idle, Passing, Work, Starts}
use Rattle.mpm_system.specs.FileCalling.{call_made, error_told, file_replied, reply_by, with_caller}
use Rattle.mpm_system.specs.Residents.{taking}
use Rattle.mpm_system.specs.Sending.{chains}
use Rattle.mpm_system.specs.Answering.{answering_call, recorded, replied}
use Rattle.mpm_system.specs.Whole.{SystemChange, IsWhole, speaking}
use Rattle.mpm_system.specs.Coming.{coming, counted}
use Rattle.mpm_system.specs.declared.system.System.{System}
use Rattle.mpm_machine.proofs.Containment.{ended_alike}
use Rattle.mpm_machine.proofs.DiskStepLaws.{whole_passed, whole_ready_again}
use Rattle.mpm_machine.proofs.FileLaws.{makes, whole_caller, whole_concluded, whole_told}
use Rattle.mpm_machine.proofs.FiledLaws.{caller_files, call_memory, caller_lives, caller_ready, whole_begun, whole_begun_as}
use Rattle.mpm_machine.proofs.FinishLaws.{first_finished, home_dequeued, left_completed}
use Rattle.mpm_machine.proofs.GoingAnswers.{goes_dequeued, goes_finished, goes_finished_or_ended, goes_if_due, goes_let_in, handed_behind, handed_out_gone, none_let_in, not_due}
use Rattle.mpm_machine.proofs.GoingDisk.{files_over, goes_entered_after}
use Rattle.mpm_machine.proofs.GoingFiles.{FilesAt, files_made, files_with_caller, goes_concluded, goes_told}
use Rattle.mpm_machine.proofs.GoingOwn.{same_interpreter}
use Rattle.mpm_machine.proofs.GoingParts.{goes_ended, goes_same}
use Rattle.mpm_machine.proofs.GoingSteps.{goes_begun_as, goes_begun_with, interprets_after}
use Rattle.mpm_machine.proofs.LoadedLaws.{loaded_whole}
use Rattle.mpm_machine.proofs.LoadedParts.{Rests, loads_begun, loads_still, loads_taking, rests_alike, rests_home, rests_loading, rests_took, took_so}
use Rattle.mpm_machine.proofs.LoadedRows.{hands, unloaded}
use Rattle.mpm_machine.proofs.RestLaws.{whole_entered_after}
use Rattle.mpm_machine.proofs.SendingLaws.{lets_in as lets_command_in}
use Rattle.mpm_machine.proofs.WholeLaws.{whole_ended}
use Rattle.mpm_machine.proofs.WholeStepLaws.{due_lives, lives_dequeued, lives_in_time, whole_counted, whole_dequeued, whole_first, whole_first_answered, whole_if_due}
use Rattle.mpm_machine.specs.State.{State}
use Rattle.mpm_machine.specs.After.{after}
use Rattle.mpm_machine.proofs.NextLaws.{next_is, whole_after}
use Rattle.mpm_machine.specs.DiskStep.{all_paid, call_entered, call_over, disk_served, entered_by, entered_unless, file_called, is_done_at_once, over_after, ready_again, served_by, step_passed}
use Rattle.mpm_machine.specs.Due.{due_terminated, ended_if_due, is_due, with_ends}
use Rattle.mpm_machine.specs.Ending.{ended}
use Rattle.mpm_machine.specs.FileCalls.{answered_by, calls_files, concluded, error_met, file_caller, is_of_files, told_then}
use Rattle.mpm_machine.specs.Finishing.{all_answered, all_finished, answered_from, command_let_in, completion_dequeued, finished, finished_or_ended, finishing}
use Rattle.mpm_machine.specs.Interpreting.{Interprets, awaited, is_reading}
use Rattle.mpm_machine.specs.Loaded.{HasCome, HasLoadedAt, IsLoading, IsReadIn, IsReading, code_byte}
use Rattle.mpm_machine.specs.Serving.{fulfilling, reply_at_entry, with_entry}
use Rattle.mpm_machine.specs.Stepping.{Telling, begun_as, begun_with, ended_after, entered_after, is_instruction, rest_of, step_with, telling_of}
use Rattle.mpm_machine.proofs.ResidentsLaws.{call_residents}

-- in a row that makes a call on files, or reads a command, nothing is handed over
files_ask : (row : Row) (cli : Interpreter) → is_of_files (call_at row cli).function ≡ true → hands row ≡ false
unfolding is_of_files Rattle.mpm_file_functions.specs.Functions.function_of Rattle.mpm_file_functions.specs.Functions.direct_of
files_ask ReadCommand cli is = refl
files_ask OpenQueue cli is = refl
files_ask WriteQueue cli is = refl
files_ask SetUser cli is = refl
files_ask OpenRelocatable cli is = refl
files_ask OpenAbsolute cli is = refl
files_ask ReadHeader cli is = refl
files_ask ComputeSize cli is = refl
files_ask SetUserZero cli is = refl
files_ask (Reserve relocatable pages) cli is = refl
files_ask Place cli is = absurd (cc)
files_ask Patch cli is = absurd (cc)
files_ask ReadOn cli is = refl
files_ask (Free message) cli is = refl
files_ask (CloseAfter message) cli is = refl
files_ask Close cli is = refl
files_ask (Tell message) cli is = refl
files_ask Give cli is = refl
files_ask PlaceBasePage cli is = absurd (cc)
files_ask Begin cli is = absurd (cc)

next_asks : (cli : Interpreter) → is_of_files (next_call cli).function ≡ true → hands cli.row ≡ false
unfolding next_call
next_asks cli is = files_ask cli.row cli is

reads_ask : (row : Row) → is_reading row ≡ true → hands row ≡ false
reads_ask ReadCommand is = refl
reads_ask OpenQueue is = absurd (false≢true is)
reads_ask WriteQueue is = absurd (false≢true is)
reads_ask SetUser is = absurd (false≢true is)
reads_ask OpenRelocatable is = absurd (false≢true is)
reads_ask OpenAbsolute is = absurd (false≢true is)
reads_ask ReadHeader is = absurd (false≢true is)
reads_ask ComputeSize is = absurd (false≢true is)
reads_ask SetUserZero is = absurd (false≢true is)
reads_ask (Reserve relocatable pages) is = absurd (false≢true is)
reads_ask Place is = absurd (false≢true is)
reads_ask Patch is = absurd (false≢true is)
reads_ask ReadOn is = absurd (false≢true is)
reads_ask (Free message) is = absurd (false≢true is)
reads_ask (CloseAfter message) is = absurd (false≢true is)
reads_ask Close is = absurd (false≢true is)
reads_ask (Tell message) is = absurd (false≢true is)
reads_ask Give is = absurd (false≢true is)
reads_ask PlaceBasePage is = absurd (false≢true is)
reads_ask Begin is = absurd (false≢true is)

-- a file call comes to what is answered

rests_ended : (p : ℕ) (system : System) → Rests system (ended p system)
unfolding ended
rests_ended p system = rests_alike system (ended p system) refl (ended_alike p system)

loads_reply : (seg : Option ℕ) (reply : Answer) (p : ℕ) (file : List ℕ) (system : System) → IsWhole system → Lives system.kernel.dispatcher.procs p
    → (process_in system.kernel.dispatcher.procs p).seg ≡ seg → FilesAt p system → IsLoading file system → IsLoading file (reply_by seg reply p system)
unfolding answering_call recorded replied
loads_reply (Some home) reply p file system w living there f h =
    let call = call_of system.kernel.dispatcher.procs p in
    let new = answering_call reply call p home system in
    rests_loading file system new f.interprets
    (rests_home p home system new w f.interprets living there refl (λ other at apart below. segments_keep reply call.word home system.memory other at apart below)) h
loads_reply None reply zero file system w living there f h =
    let acting = f.interprets.acting in
    loads_taking file reply acting.cli system acting.acts (took_so acting.cli reply file system.memory (next_asks acting.cli (f.files refl)) (h acting.cli acting.acts))
loads_reply None reply (suc q) file system w living there f h =
    let other : 0 ≢ suc q = λ e. absurd (cc) in
    rests_loading file system (taking reply (suc q) system) f.interprets (rests_took reply (suc q) system other) h

loads_replied : (reply : Answer) (p : ℕ) (file : List ℕ) (system : System) → IsWhole system → Lives system.kernel.dispatcher.procs p → FilesAt p system → IsLoading file system
    → IsLoading file (file_replied reply p system)
unfolding file_replied
loads_replied reply p file system w living f h = loads_reply (process_in system.kernel.dispatcher.procs p).seg reply p file system w living refl f h

told_loads : (error : Extended) (p : ℕ) (file : List ℕ) (system : System) → IsLoading file system → IsLoading file (error_told error p system).system
unfolding error_told speaking
told_loads error p file system h = h

loads_told_then : (answers : Bool) (error : Extended) (reply : Answer) (p : ℕ) (file : List ℕ) (system : System) → IsWhole system → Lives system.kernel.dispatcher.procs p → FilesAt p system
    → IsLoading file system → IsLoading file (told_then answers error reply p system).system
unfolding told_then
loads_told_then true error reply p file system w living f h =
    let told = whole_told error p system w living in
    loads_replied reply p file (error_told error p system).system told.whole told.lives (goes_told error p system f) (told_loads error p file system h)
loads_told_then false error reply p file system w living f h =
    let told = (error_told error p system).system in
    rests_loading file told (ended p told) (goes_told error p system f).interprets (rests_ended p told) (told_loads error p file system h)

loads_met : (error : Extended) (reply : Answer) (p : ℕ) (file : List ℕ) (system : System) → IsWhole system → Lives system.kernel.dispatcher.procs p → FilesAt p system → IsLoading file system
    → IsLoading file (error_met error reply p system).system
unfolding error_met
loads_met error reply p file system w living f h =
    let mode = (process_in system.kernel.dispatcher.procs p).error_mode in
    either (λ (c : SystemChange). IsLoading file c.system) (mode == 255) _ _ (λ _. loads_replied reply p file system w living f h)
    (λ _. loads_told_then (mode == 254) error reply p file system w living f h)

loads_answered_by : (error : Option Extended) (reply : Answer) (p : ℕ) (file : List ℕ) (system : System) → IsWhole system → Lives system.kernel.dispatcher.procs p → FilesAt p system
    → IsLoading file system → IsLoading file (answered_by error reply p system).system
loads_answered_by None reply p file system w living f h = loads_replied reply p file system w living f h
loads_answered_by (Some error) reply p file system w living f h = loads_met error reply p file system w living f h

caller_loads : (change : CallerChange) (p : ℕ) (file : List ℕ) (system : System) → IsLoading file system → IsLoading file (with_caller change p system)
unfolding with_caller
caller_loads Stays p file system h = h
caller_loads (Selects drive) p file system h = h
caller_loads Resets p file system h = h

loads_concluded : (told : Directly) (p : ℕ) (file : List ℕ) (system : System) → IsWhole system → Lives system.kernel.dispatcher.procs p → FilesAt p system → IsLoading file system
    → IsLoading file (concluded told p system).system
unfolding concluded
loads_concluded told p file system w living f h =
    let changed = whole_caller told.caller p system w living in
    loads_answered_by told.extended told.answer p file (with_caller told.caller p system) changed.whole changed.lives (files_with_caller told.caller p system f)
    (caller_loads told.caller p file system h)

loads_called : (told : Directly) (p : ℕ) (file : List ℕ) (system : System) → IsWhole system → Lives system.kernel.dispatcher.procs p → FilesAt p system → IsLoading file system
    → IsLoading file (file_called told p system).system
unfolding file_called
loads_called told p file system w living f h =
    either (λ (c : SystemChange). IsLoading file c.system) (is_done_at_once p system) _ _ (λ _. loads_concluded told p file system w living f h) (λ _. h)

-- the call is made

rests_made : (p : ℕ) (system : System) → Rests system (call_made p system)
rests_made p system = record {
  same = ap (λ (residents : List Native). native_in residents 0) (call_residents p system);
  bytes = λ cli acts loading at below. ap (λ (memory : Memory). byte_at memory cli.seg at) (call_memory p system);
}

-- what a step begins with

loads_begun_with : (caller : Option ℕ) (told : Directly) (file : List ℕ) (system : System) → IsWhole system → IfSome caller (λ p. Lives system.kernel.dispatcher.procs p)
    → IfSome caller (λ p. IsReady system.kernel.dispatcher p) → IfSome caller (λ p. calls_files p system ≡ true) → Interprets system → IsReading file system → IsLoading file system
    → IsLoading file (begun_with caller told system).system
loads_begun_with None told file system w living ready files i reads h =
    let begun = counted system in
    loads_begun (coming begun) file begun (whole_counted system w) (goes_same system begun refl refl refl refl refl refl refl i) reads h
loads_begun_with (Some p) told file system w living ready files i reads h =
    let made = makes p system w living in
    loads_called told p file (call_made p system) made.whole made.lives (files_made p system w ready i files) (rests_loading file system (call_made p system) i (rests_made p system) h)

-- held calls that were completed: the interpreter's reads a command

reads_by : (b : Bool) (kernel : Kernel) → AwaitsIn (if b then 1 else 0) 0 kernel → first_completed kernel.dispatcher.completed ≡ Some 0 → b ≡ true
reads_by true kernel a first = refl
reads_by false kernel a first = absurd (none_handed_out 0 0 kernel first a refl)

first_reads : (p : ℕ) (system : System) → IsWhole system → (i : Interprets system) → first_completed system.kernel.dispatcher.completed ≡ Some p → 0 ≡ p → is_reading i.acting.cli.row ≡ true
first_reads p system w i first is =
    let zero_first : first_completed system.kernel.dispatcher.completed ≡ Some 0 = first ∙ ap (λ (n : ℕ). Some n) (sym is) in
    let gone = handed_out_gone system w i zero_first in
    reads_by (is_reading i.acting.cli.row) system.kernel (subst (λ (places : ℕ). AwaitsIn (awaited places i.acting.cli.row) 0 system.kernel) gone i.awaits) zero_first

still_reads : (p : ℕ) (system : System) → IsWhole system → (i : Interprets system) (after : System) (b : Interprets after) → first_completed system.kernel.dispatcher.completed ≡ Some p
    → after.residents ≡ system.residents → 0 ≡ p → is_reading b.acting.cli.row ≡ true
still_reads p system w i after b first same is =
    ap (λ (c : Interpreter). is_reading c.row) (same_interpreter system after i b same) ∙ first_reads p system w i first is

loads_finished : (seg : Option ℕ) (p : ℕ) (file : List ℕ) (system : System) → IsWhole system → Lives system.kernel.dispatcher.procs p
    → (process_in system.kernel.dispatcher.procs p).seg ≡ seg → (i : Interprets system) → IsLoading file system → (0 ≡ p → is_reading i.acting.cli.row ≡ true)
    → IsLoading file (finished seg p system)
unfolding with_entry fulfilling answering_call recorded replied
loads_finished (Some home) p file system w living there i h reads =
    let call = call_of system.kernel.dispatcher.procs p in
    let reply = reply_at_entry (completion_reply system.kernel p) call p system in
    let new = finished (Some home) p system in
    rests_loading file system new i
    (rests_home p home system new w i living there refl (λ other at apart below. segments_keep reply call.word home system.memory other at apart below)) h
loads_finished None zero file system w living there i h reads =
    let cli = i.acting.cli in
    let reply = completion_reply system.kernel 0 in
    loads_taking file reply cli system i.acting.acts (took_so cli reply file system.memory (reads_ask cli.row (reads refl)) (h cli i.acting.acts))
loads_finished None (suc q) file system w living there i h reads =
    let other : 0 ≢ suc q = λ e. absurd (cc) in
    let reply = completion_reply system.kernel (suc q) in
    rests_loading file system (taking reply (suc q) system) i (rests_took reply (suc q) system other) h

loads_finishing : (ps : List ℕ) (file : List ℕ) (system : System) → IsWhole system → system.kernel.dispatcher.completed ≡ ps → Interprets system → IsLoading file system
    → IsLoading file (finishing ps system)
unfolding finishing
loads_finishing [] file system w is i h = h
loads_finishing (p ∷ ps) file system w is i h =
    let out = completion_dequeued system in
    let behind = goes_dequeued system i in
    let first = ap first_completed is in
    let seg = (process_in system.kernel.dispatcher.procs p).seg in
    loads_finishing ps file (first_finished p system) (whole_first p system w first) (left_completed p ps system is)
    (goes_finished seg p out behind (handed_behind p system w i out behind first refl (λ none. none)))
    (loads_finished seg p file out (whole_dequeued system w) (lives_dequeued p system w first) (home_dequeued system p) behind h (still_reads p system w i out behind first refl))

loads_all_finished : (file : List ℕ) (system : System) → IsWhole system → Interprets system → IsLoading file system → IsLoading file (all_finished system)
loads_all_finished file system w i h = loads_finishing system.kernel.dispatcher.completed file system w refl i h

loads_finished_or_ended : (p : ℕ) (file : List ℕ) (system : System) → IsWhole system → Lives system.kernel.dispatcher.procs p → (i : Interprets system) → IsLoading file system
    → (0 ≡ p → is_reading i.acting.cli.row ≡ true) → IsLoading file (finished_or_ended p system)
loads_finished_or_ended p file system w living i h reads =
    either (IsLoading file) (chains p system.kernel) _ _ (λ _. rests_loading file system (ended p system) i (rests_ended p system) h)
    (λ _. loads_finished (process_in system.kernel.dispatcher.procs p).seg p file system w living refl i h reads)

loads_from : (first : Option ℕ) (file : List ℕ) (system : System) → IsWhole system → first_completed system.kernel.dispatcher.completed ≡ first → Interprets system → IsLoading file system
    → IsLoading file (answered_from first system)
unfolding answered_from
loads_from None file system w is i h = h
loads_from (Some p) file system w is i h =
    let out = completion_dequeued system in
    let whole = whole_dequeued system w in
    let now = command_let_in p out in
    let behind = goes_let_in p out whole (goes_dequeued system i) in
    let here = (lets_command_in p out whole).whole in
    let living = lives_in_time p system w is in
    loads_all_finished file (finished_or_ended p now) (whole_first_answered p system w is)
    (goes_finished_or_ended p now here living behind (handed_behind p system w i now behind is refl (λ none. none_let_in p out whole none)))
    (loads_finished_or_ended p file now here living behind h (still_reads p system w i now behind is refl))

loads_all_answered : (file : List ℕ) (system : System) → IsWhole system → Interprets system → IsLoading file system → IsLoading file (all_answered system)
loads_all_answered file system w i h = loads_from (first_completed system.kernel.dispatcher.completed) file system w refl i h

-- the ends that are due

loads_if_due : (p : ℕ) (file : List ℕ) (system : System) → IsWhole system → Interprets system → IsLoading file system → IsLoading file (ended_if_due p system)
unfolding ended_if_due
loads_if_due p file system w i h =
    either (IsLoading file) (is_due system.kernel p) _ _
    (λ due.
    let living = due_lives system.kernel p due in
    loads_all_finished file (ended p system) (whole_ended p system w living) (goes_ended p system w living (not_due p system i.acting due) i)
    (rests_loading file system (ended p system) i (rests_ended p system) h))
    (λ _. h)

loads_due_terminated : (ps : List ℕ) (file : List ℕ) (system : System) → IsWhole system → Interprets system → IsLoading file system → IsLoading file (due_terminated ps system)
unfolding due_terminated
loads_due_terminated [] file system w i h = h
loads_due_terminated (p ∷ ps) file system w i h =
    loads_due_terminated ps file (ended_if_due p system) (whole_if_due p system w) (goes_if_due p system w i) (loads_if_due p file system w i h)

loads_with_ends : (file : List ℕ) (system : System) → IsWhole system → Interprets system → IsLoading file system → IsLoading file (with_ends system)
unfolding with_ends
loads_with_ends file system w i h = loads_due_terminated (range_with_len 0 32) file system w i h

-- the disk's step

loads_call_over : (told : Directly) (p : ℕ) (file : List ℕ) (system : System) → IsWhole system → turn_answer system.kernel.disk ≡ Work p true → Interprets system → IsLoading file system
    → IsLoading file (call_over told p (step_passed system)).system
unfolding call_over
loads_call_over told p file system w last i h =
    let over = over_turned system.kernel p w.sound last in
    let again = ready_again p (step_passed system) in
    let whole = whole_ready_again p (step_passed system) (whole_passed system w) over in
    let files = files_over p system w last i in
    loads_all_finished file (concluded told p again).system (whole_concluded told p again whole over.lives) (goes_concluded told p again whole over.lives files)
    (loads_concluded told p file again whole over.lives files h)

loads_after : (turn : Turn) (told : Directly) (file : List ℕ) (system : System) → turn_answer system.kernel.disk ≡ turn → IsWhole system → Interprets system → IsLoading file system
    → IsLoading file (over_after turn told (step_passed system)).system
loads_after Idle told file system is w i h = h
loads_after Passing told file system is w i h = h
loads_after (Starts p) told file system is w i h = h
loads_after (Work p true) told file system is w i h = loads_call_over told p file system w is i h
loads_after (Work p false) told file system is w i h = h

loads_served_by : (served : Option ℕ) (told : Directly) (file : List ℕ) (system : System) → IsWhole system → Interprets system → IsLoading file system
    → IsLoading file (served_by served told system).system
loads_served_by None told file system w i h = h
loads_served_by (Some p) told file system w i h = loads_after (turn_answer system.kernel.disk) told file system refl w i h

loads_disk_served : (told : Directly) (file : List ℕ) (system : System) → IsWhole system → Interprets system → IsLoading file system → IsLoading file (disk_served told system).system
unfolding disk_served
loads_disk_served told file system w i h = loads_served_by (served_process system.kernel.disk) told file system w i h

loads_entered_by : (turn : Turn) (turns : ℕ) (file : List ℕ) (system : System) → IsLoading file system → IsLoading file (entered_by turn turns system)
loads_entered_by Idle turns file system h = h
loads_entered_by Passing turns file system h = h
loads_entered_by (Work p last) turns file system h = h
loads_entered_by (Starts p) turns file system h = h

loads_entered_unless : (served : Option ℕ) (turns : ℕ) (file : List ℕ) (system : System) → IsLoading file system → IsLoading file (entered_unless served turns system)
loads_entered_unless (Some p) turns file system h = h
loads_entered_unless None turns file system h = loads_entered_by (turn_answer system.kernel.disk) turns file (step_passed system) h

loads_entered_after : (telling : Telling) (file : List ℕ) (system : System) → IsWhole system → Interprets system → IsLoading file system → IsLoading file (entered_after telling system)
unfolding entered_after call_entered all_paid
loads_entered_after telling file system w i h =
    let paid = all_paid (disk_served telling.at_disk system).system in
    loads_entered_unless (served_process paid.kernel.disk) telling.turns file paid (loads_disk_served telling.at_disk file system w i h)

-- a step

loads_begun_as : (told : Directly) (file : List ℕ) (system : System) → IsWhole system → Interprets system → IsReading file system → IsLoading file system
    → IsLoading file (begun_as told system).system
unfolding begun_as
loads_begun_as told file system w i reads h =
    let caller = file_caller system in
    let living = caller_lives system w in
    let ready = caller_ready system w in
    let files = caller_files system in
    loads_all_answered file (begun_with caller told system).system (whole_begun told system w) (goes_begun_with caller told system w living ready files i)
    (loads_begun_with caller told file system w living ready files i reads h)

loads_rest : (instruction : Bool) (telling : Telling) (file : List ℕ) (begun : SystemChange) → IsWhole begun.system → Interprets begun.system → IsLoading file begun.system
    → IsLoading file (rest_of instruction telling begun).system
unfolding rest_of ended_after all_paid
loads_rest instruction telling file begun w i h =
    loads_with_ends file (entered_after telling begun.system) (whole_entered_after telling begun.system w) (goes_entered_after telling begun.system w i)
    (loads_entered_after telling file begun.system w i h)

pub loads_step : (telling : Telling) (file : List ℕ) (system : System) → IsWhole system → Interprets system → IsReading file system → IsLoading file system
    → IsLoading file (step_with telling system).system
unfolding step_with
loads_step telling file system w i reads h =
    loads_rest (is_instruction (file_caller system) system) telling file (begun_as telling.at_gate system) (whole_begun_as telling.at_gate system w) (goes_begun_as telling.at_gate system w i)
    (loads_begun_as telling.at_gate file system w i reads h)

-- n of them

loads_steps : (n : ℕ) (file : List ℕ) (s : State) → IsWhole s.system → Interprets s.system → IsReadIn file n s → IsLoading file s.system → IsLoading file (after n s).system
unfolding after
loads_steps zero file s w i reads h = h
loads_steps (suc n) file s w i reads h =
    let before = after n s in
    let here = loads_steps n file s w i (λ k less. reads k (omega (arith, less))) h in
    subst (IsLoading file) (sym (next_is before))
    (loads_step (telling_of before.system before.files) file before.system (whole_after n s w) (interprets_after n s w i) (reads n (omega arith)) here)

-- as it reads a command, it has no segment
pub loads_nothing : (file : List ℕ) (cli : Interpreter) (system : System) → native_in system.residents 0 ≡ Some (Cli cli) → cli.row ≡ ReadCommand → IsLoading file system
loads_nothing file cli system acts is =
    loads_still file cli system acts (unloaded cli file system.memory (ap is_loading is) (subst (λ (row : Row). HasCome row cli.load) (sym is) tt))

-- as a program begins, all of its code stands after the base page of its segment, as its file has it, each byte moved that is marked
pub stands_as_it_begins : (n : ℕ) (file : List ℕ) (s : State) → IsWhole s.system → Interprets s.system → IsReadIn file n s → IsLoading file s.system
    → (cli : Interpreter) → native_in (after n s).system.residents 0 ≡ Some (Cli cli) → cli.row ≡ Begin
    → (place : ℕ) → place < cli.load.plan.length
    → byte_at (after n s).system.memory cli.seg (256 * cli.spec.base + 256 + place) ≡ code_byte cli.load.plan file cli.spec.base (all_bytes cli.load.plan) place
stands_as_it_begins n file s w i reads h cli acts is =
    let memory = (after n s).system.memory in
    let here = loads_steps n file s w i reads h cli acts in
    let code : HasLoadedAt Begin cli file memory = subst (λ (row : Row). HasLoadedAt row cli file memory) is (here.code (ap is_loading is)) in
    let came : HasCome Begin cli.load = subst (λ (row : Row). HasCome row cli.load) is here.came in
    loaded_whole cli file memory came code
