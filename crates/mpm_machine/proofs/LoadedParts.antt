-- What of a program's file stands in the segment that the interpreter reserved, as a step begins: others write elsewhere, and the
-- interpreter places and moves code, or goes on by an answer.
use Rattle.std.proofs.Common.{◌≡◌, ◌≢◌, ◌∙◌, ℕ, zero, suc, ◌+◌, ◌*◌, ◌<◌, ◌==◌, ◌&&◌, not, true, false, List, Option, Some, None, refl, sym, ap, subst, arith}
use Rattle.mpm_base.proofs.Choices.{either}
use Rattle.mpm_base.specs.Calls.{Taken, Answer, answering}
use Rattle.mpm_base.specs.declared.call.Outcome.{Outcome as CallOutcome}
use Rattle.mpm_base.specs.declared.call.Outcome.TheVariants.{Done, Held, Retry, Ended}
use Rattle.mpm_base.specs.declared.functions.TheConstants.{CREATE_PROCESS, ABORT_SPECIFIED_PROCESS, PARSE_FILENAME, SYSTEM_DATA_ADDRESS, RETURN_PROCESS_DESCRIPTOR_ADDRESS, CHAIN_TO_PROGRAM}
use Rattle.mpm_banks.specs.Memory.{Memory, IsMemory, byte_at, segment_of}
use Rattle.mpm_banks.proofs.SegmentLaws.{SameBytes, reads_alike, same_bytes_itself}
use Rattle.mpm_residents.specs.Interpreters.{Interpreter, act_at, call_at, next_act, next_call, took}
use Rattle.mpm_residents.specs.Standing.{is_loading, StandsIn}
use Rattle.mpm_residents.specs.declared.cli.act.Act.{Act}
use Rattle.mpm_residents.specs.declared.cli.act.Act.TheVariants.{Ask, PlaceBytes, MoveCode, BeginProcess, GiveConsole}
use Rattle.mpm_residents.specs.declared.cli.table.Row.{Row}
use Rattle.mpm_residents.specs.declared.cli.table.Row.TheVariants.{ReadCommand, OpenQueue, WriteQueue, SetUser, OpenRelocatable, OpenAbsolute, ReadHeader, ComputeSize, SetUserZero, Reserve, Place, Patch, ReadOn, Free, CloseAfter, Close, Tell, Give, PlaceBasePage, Begin}
use Rattle.mpm_kernel.specs.Called.{low_parameter}
use Rattle.mpm_kernel.specs.Columns.{column_of, expanded}
use Rattle.mpm_kernel.proofs.SoundLaws.{runner_lives}
use Rattle.mpm_gate.specs.declared.gate.Gate.{Gate}
use Rattle.mpm_gate.specs.declared.gate.Gate.TheVariants.{End, Call, Return}
use Rattle.mpm_procs.specs.Table.{Lives, process_in}
use Rattle.mpm_residents.specs.Natives.{native_in, native_call, interprets, interprets_if_there}
use Rattle.mpm_residents.specs.declared.native.Native.{Native}
use Rattle.mpm_residents.specs.declared.native.Native.TheVariants.{Tmp, Cli, Spool, Sched}
use Rattle.mpm_script.specs.declared.event.Event.{Event}
use Rattle.mpm_xdos.specs.Aborting.{waits_to_end, target}
use Rattle.z80_regs.specs.Outcome.{StepOutcome}
use Rattle.mpm_interrupts.specs.Interrupts.{due_taken}
use Rattle.mpm_system.specs.Calling.{Served, asking}
use Rattle.mpm_system.specs.Loading.{begins, giving, handed_answer, handed_over, is_console}
use Rattle.mpm_system.specs.Residents.{taking, handing_step, telling_step, tells, text_told}
use Rattle.mpm_system.specs.Answering.{answering_call, popped, recorded, replied}
use Rattle.mpm_system.specs.Taking.{asked, keeping}
use Rattle.mpm_system.specs.Parsing.{parsing}
use Rattle.mpm_system.specs.Saying.{said_by}
use Rattle.mpm_system.specs.Whole.{SystemChange, IsWhole, speaking}
use Rattle.mpm_system.specs.declared.system.System.{System}
use Rattle.mpm_machine.proofs.Containment.{ended_alike, to_all_alike, event_alike, elsewhere_at}
use Rattle.mpm_machine.proofs.GoingOn.{taken_first, first_stays}
use Rattle.mpm_machine.proofs.InterpretingLaws.{no_interpreter, same_resident}
use Rattle.mpm_machine.proofs.LoadedRows.{hands, IsLoadedAs, answered_so, handed_so}
use Rattle.mpm_machine.proofs.OwnLaws.{occupied_or_own}
use Rattle.mpm_machine.proofs.ResidingLaws.{residents_stay}
use Rattle.mpm_machine.specs.Ending.{ended}
use Rattle.mpm_machine.specs.Interpreting.{HasReserved, Interprets}
use Rattle.mpm_machine.specs.Loaded.{IsPieceOf, IsLoading, IsReading}
use Rattle.mpm_machine.specs.Residing.{calling_step, native_outcome, native_step, resided}
use Rattle.mpm_machine.specs.Serving.{aborted, aborting, aborting_this, completing, creating, fulfilling, gate_step, outcome_of, returning, served, served_to_all, with_entry}
use Rattle.mpm_machine.specs.Step.{acted, acted_at, acted_by, begun_by, event_come, executed, gate_before, happened_to, illegal, instructed, instruction_at, interrupted, key_aborted, running_segment}

-- the interpreter rests, and of its segment no byte changes
pub record Rests (old new : System) : Type 0 where
  pub same : native_in new.residents 0 ≡ native_in old.residents 0
  pub bytes : (cli : Interpreter) → native_in old.residents 0 ≡ Some (Cli cli) → is_loading cli.row ≡ true → (at : ℕ) → at < 49152
      → byte_at new.memory cli.seg at ≡ byte_at old.memory cli.seg at

first_resident : (old new : System) → new.residents ≡ old.residents → native_in new.residents 0 ≡ native_in old.residents 0
first_resident old new same = ap (λ (residents : List Native). native_in residents 0) same

pub rests_alike : (old new : System) → new.residents ≡ old.residents → SameBytes old.memory new.memory → Rests old new
rests_alike old new same alike =
    record { same = first_resident old new same; bytes = λ cli acts loading at below. reads_alike old.memory new.memory alike cli.seg at }

pub rests_both : (old middle new : System) → Rests old middle → Rests middle new → Rests old new
rests_both old middle new first second = record {
  same = second.same ∙ first.same;
  bytes = λ cli acts loading at below. second.bytes cli (first.same ∙ acts) loading at below ∙ first.bytes cli acts loading at below;
}

-- the one that acts is the one of which all is known

own_cli : (system : System) (i : Interprets system) (cli : Interpreter) → native_in system.residents 0 ≡ Some (Cli cli) → i.acting.cli ≡ cli
own_cli system i cli acts = same_resident i.acting.cli cli (sym i.acting.acts ∙ acts)

stands_here : (system : System) (i : Interprets system) (cli : Interpreter) → native_in system.residents 0 ≡ Some (Cli cli) → StandsIn cli.row cli
stands_here system i cli acts = subst (λ (c : Interpreter). StandsIn c.row c) (own_cli system i cli acts) i.acting.stands

has_here : (system : System) (i : Interprets system) (cli : Interpreter) → native_in system.residents 0 ≡ Some (Cli cli) → is_loading cli.row ≡ true → HasReserved cli system.memory
has_here system i cli acts = subst (λ (c : Interpreter). is_loading c.row ≡ true → HasReserved c system.memory) (own_cli system i cli acts) i.has

pub rests_loading : (file : List ℕ) (old new : System) → Interprets old → Rests old new → IsLoading file old → IsLoading file new
rests_loading file old new i rests h cli acts =
    let before : native_in old.residents 0 ≡ Some (Cli cli) = sym rests.same ∙ acts in
    let here = h cli before in
    let stands = stands_here old i cli before in
    record {
      code = λ loading place within came. (
          let lies = stands.lies loading in
          rests.bytes cli before loading (256 * cli.spec.base + 256 + place) (omega (arith, lies.below, lies.fits.before_last, within)) ∙ here.code loading place within came
          );
      came = here.came;
    }

-- whoever lives in a segment lives in another one

lives_elsewhere : (p home : ℕ) (system : System) → IsWhole system → (i : Interprets system) → Lives system.kernel.dispatcher.procs p
    → (process_in system.kernel.dispatcher.procs p).seg ≡ Some home → (cli : Interpreter) → native_in system.residents 0 ≡ Some (Cli cli) → is_loading cli.row ≡ true → cli.seg ≢ home
lives_elsewhere p home system w i living there cli acts loading = λ is.
    occupied_or_own (segment_of system.memory home).allocation (w.lived p home living there)
    (ap (λ (seg : ℕ). (segment_of system.memory seg).allocation) (sym is) ∙ (has_here system i cli acts loading).reserved)

pub rests_home : (p home : ℕ) (old new : System) → IsWhole old → Interprets old → Lives old.kernel.dispatcher.procs p → (process_in old.kernel.dispatcher.procs p).seg ≡ Some home
    → new.residents ≡ old.residents → ((other at : ℕ) → other ≢ home → at < 49152 → byte_at new.memory other at ≡ byte_at old.memory other at) → Rests old new
rests_home p home old new w i living there same elsewhere = record {
  same = first_resident old new same;
  bytes = λ cli acts loading at below. elsewhere cli.seg at (lives_elsewhere p home old w i living there cli acts loading) below;
}

-- a process of a segment leaves the residents

aborting_residents : (named : Option ℕ) (p : ℕ) (system : System) → (aborting_this named p system).system.residents ≡ system.residents
unfolding aborted
aborting_residents None p system = refl
aborting_residents (Some other) p system =
    either (λ (s : Served). s.system.residents ≡ system.residents) (other == p && not (waits_to_end system.kernel p)) _ _ (λ _. refl) (λ _. refl)

served_residents : (call : Taken) (p : ℕ) (system : System) → (served call p system).system.residents ≡ system.residents
unfolding served creating aborting parsing
served_residents call p system =
    let f = call.function in
    let P : Served → Type 0 = λ s. s.system.residents ≡ system.residents in
    either P (f == CREATE_PROCESS) _ _ (λ _. refl)
    (λ _. either P (f == ABORT_SPECIFIED_PROCESS) _ _ (λ _. aborting_residents (target system.kernel.dispatcher.procs p) p system)
    (λ _. either P (f == PARSE_FILENAME) _ _ (λ _. refl)
    (λ _. either P (f == SYSTEM_DATA_ADDRESS) _ _ (λ _. refl)
    (λ _. either P (f == RETURN_PROCESS_DESCRIPTOR_ADDRESS) _ _ (λ _. refl)
    (λ _. either P (f == CHAIN_TO_PROGRAM) _ _ (λ _. refl) (λ _. residents_stay call p system))))))

outcome_residents : (outcome : CallOutcome) (reply : Answer) (call : Taken) (p seg : ℕ) (system : System) → (outcome_of outcome reply call p seg system).system.residents ≡ system.residents
unfolding completing popped with_entry fulfilling answering_call recorded replied said_by speaking ended
outcome_residents Done reply call p seg system = refl
outcome_residents Ended reply call p seg system = refl
outcome_residents Held reply call p seg system = refl
outcome_residents Retry reply call p seg system = refl

gate_residents : (p seg : ℕ) (system : System) → (gate_step p seg system).system.residents ≡ system.residents
unfolding gate_step keeping
gate_residents p seg system =
    let call = asked p seg system in
    let done = served call p (keeping p call system) in
    outcome_residents done.outcome done.reply call p seg done.system ∙ served_residents call p (keeping p call system)

executed_residents : (outcome : Option StepOutcome) (p seg : ℕ) (system : System) → (executed outcome p seg system).system.residents ≡ system.residents
unfolding executed instructed illegal speaking ended
executed_residents None p seg system = refl
executed_residents (Some outcome) p seg system = refl

pub acted_residents : (gate : Option Gate) (p seg : ℕ) (system : System) → (acted_at gate p seg system).system.residents ≡ system.residents
unfolding returning ended
acted_residents (Some End) p seg system = refl
acted_residents (Some Call) p seg system = gate_residents p seg system
acted_residents (Some Return) p seg system = refl
acted_residents None p seg system = executed_residents (instruction_at p seg system) p seg system

-- an event leaves them too

pub key_residents : (aborts : Option ℕ) (system : System) → (key_aborted aborts system).residents ≡ system.residents
unfolding aborted
key_residents None system = refl
key_residents (Some p) system = refl

rests_event : (event : Event) (system : System) → Rests system (interrupted event system).system
unfolding interrupted event_come
rests_event event system =
    let timed = record system { interrupts = due_taken system.steps system.interrupts } in
    rests_alike system (interrupted event system).system (key_residents (happened_to event timed).kernel.aborted (happened_to event timed)) (event_alike event system)

-- another resident takes its step

pub rests_took : (reply : Answer) (p : ℕ) (system : System) → 0 ≢ p → Rests system (taking reply p system)
rests_took reply zero system other = absurd (other refl)
rests_took reply (suc q) system other =
    record { same = first_stays (native_in system.residents (suc q)) system.residents q reply; bytes = λ cli acts loading at below. refl }

rests_native : (outcome : CallOutcome) (reply : Answer) (call : Taken) (p : ℕ) (system : System) → 0 ≢ p → Rests system (native_outcome outcome reply call p system).system
unfolding said_by speaking ended
rests_native Done reply call p system other =
    let said = (said_by call call.bytes p system).system in
    rests_both system said (taking reply p said) (rests_alike system said refl (same_bytes_itself system.memory)) (rests_took reply p said other)
rests_native Ended reply call p system other = rests_alike system (ended p system) refl (ended_alike p system)
rests_native Held reply call p system other = rests_alike system system refl (same_bytes_itself system.memory)
rests_native Retry reply call p system other = rests_alike system system refl (same_bytes_itself system.memory)

rests_text : (call : Taken) (system : System) → Rests system (text_told call system).system
unfolding speaking
rests_text call system =
    either (λ (change : SystemChange). Rests system change.system) (is_console (low_parameter call) system.kernel) _ _ (λ _. rests_alike system _ refl (same_bytes_itself system.memory))
    (λ _. rests_alike system system refl (same_bytes_itself system.memory))

rests_asks : (call : Taken) (p : ℕ) (system : System) → 0 ≢ p → Rests system (native_step Ask call p system).system
unfolding calling_step telling_step
rests_asks call p system other =
    let done = served_to_all call p system in
    let told = (text_told call system).system in
    either (λ (change : SystemChange). Rests system change.system) (tells (native_in system.residents p) call) _ _
    (λ _. rests_both system told (taking (answering 0) p told) (rests_text call system) (rests_took (answering 0) p told other))
    (λ _. rests_both system done.system (native_outcome done.outcome done.reply call p done.system).system
    (rests_alike system done.system (residents_stay call p system) (to_all_alike call p system)) (rests_native done.outcome done.reply call p done.system other))

-- the interpreter goes on by an answer, or stays

pub loads_taking : (file : List ℕ) (reply : Answer) (cli : Interpreter) (system : System) → native_in system.residents 0 ≡ Some (Cli cli) → IsLoadedAs file system.memory (took cli reply)
    → IsLoading file (taking reply 0 system)
loads_taking file reply cli system acts h next is =
    subst (IsLoadedAs file system.memory) (same_resident (took cli reply) next (sym (taken_first system.residents (Cli cli) reply acts) ∙ is)) h

pub loads_still : (file : List ℕ) (cli : Interpreter) (system : System) → native_in system.residents 0 ≡ Some (Cli cli) → IsLoadedAs file system.memory cli → IsLoading file system
loads_still file cli system acts h next is = subst (IsLoadedAs file system.memory) (same_resident cli next (sym acts ∙ is)) h

loaded_alike : (cli : Interpreter) (file : List ℕ) (old new : Memory) → SameBytes old new → IsLoadedAs file old cli → IsLoadedAs file new cli
loaded_alike cli file old new alike h = record {
  code = λ loading place within came. reads_alike old new alike cli.seg (256 * cli.spec.base + 256 + place) ∙ h.code loading place within came;
  came = h.came;
}

pub took_so : (cli : Interpreter) (reply : Answer) (file : List ℕ) (memory : Memory) → hands cli.row ≡ false → IsLoadedAs file memory cli → IsLoadedAs file memory (took cli reply)
unfolding took
took_so cli reply file memory asks h = answered_so cli.row cli reply file memory asks h h

loads_native : (outcome : CallOutcome) (reply : Answer) (call : Taken) (cli : Interpreter) (file : List ℕ) (system : System) → native_in system.residents 0 ≡ Some (Cli cli) → hands cli.row ≡ false
    → IsLoadedAs file system.memory cli → IsLoading file (native_outcome outcome reply call 0 system).system
unfolding said_by speaking ended
loads_native Done reply call cli file system acts asks h =
    loads_taking file reply cli (said_by call call.bytes 0 system).system acts (took_so cli reply file system.memory asks h)
loads_native Ended reply call cli file system acts asks h =
    loads_still file cli (ended 0 system) acts (loaded_alike cli file system.memory (ended 0 system).memory (ended_alike 0 system) h)
loads_native Held reply call cli file system acts asks h = loads_still file cli system acts h
loads_native Retry reply call cli file system acts asks h = loads_still file cli system acts h

loads_text : (call : Taken) (cli : Interpreter) (file : List ℕ) (system : System) → native_in system.residents 0 ≡ Some (Cli cli) → IsLoadedAs file system.memory (took cli (answering 0))
    → IsLoading file (taking (answering 0) 0 (text_told call system).system)
unfolding speaking
loads_text call cli file system acts h =
    let console = low_parameter call in
    let spoke = (speaking console (expanded (column_of system.kernel console) call.bytes) system).system in
    either (λ (change : SystemChange). IsLoading file (taking (answering 0) 0 change.system)) (is_console console system.kernel) _ _
    (λ _. loads_taking file (answering 0) cli spoke acts h) (λ _. loads_taking file (answering 0) cli system acts h)

loads_asks : (call : Taken) (cli : Interpreter) (file : List ℕ) (system : System) → native_in system.residents 0 ≡ Some (Cli cli) → hands cli.row ≡ false → IsLoadedAs file system.memory cli
    → IsLoading file (native_step Ask call 0 system).system
unfolding calling_step telling_step
loads_asks call cli file system acts asks h =
    let done = served_to_all call 0 system in
    either (λ (change : SystemChange). IsLoading file change.system) (tells (native_in system.residents 0) call) _ _
    (λ _. loads_text call cli file system acts (took_so cli (answering 0) file system.memory asks h))
    (λ _. loads_native done.outcome done.reply call cli file done.system (first_resident system done.system (residents_stay call 0 system) ∙ acts) asks
    (loaded_alike cli file system.memory done.system.memory (to_all_alike call 0 system) h))

-- what is so of it before its own step
record IsNext (cli : Interpreter) (file : List ℕ) (system : System) : Type 0 where
  pub acts : native_in system.residents 0 ≡ Some (Cli cli)
  pub memory : IsMemory system.memory
  pub has : is_loading cli.row ≡ true → HasReserved cli system.memory
  pub stands : StandsIn cli.row cli
  pub piece : is_loading cli.row ≡ true → IsPieceOf file cli.load.before cli.load.piece
  pub loaded : IsLoadedAs file system.memory cli

pub handed_residents : (act : Act) (bytes : List ℕ) (p : ℕ) (system : System) → (handed_over act bytes p system).residents ≡ system.residents
handed_residents Ask bytes p system = refl
handed_residents (PlaceBytes seg address count) bytes p system = refl
handed_residents (MoveCode seg address count page) bytes p system = refl
handed_residents (BeginProcess seg new) bytes p system = either (λ (s : System). s.residents ≡ system.residents) (begins seg new system) _ _ (λ _. refl) (λ _. refl)
handed_residents (GiveConsole console) bytes p system = refl

loads_hands : (cli : Interpreter) (file : List ℕ) (system : System) → hands cli.row ≡ true → is_loading cli.row ≡ true → IsNext cli file system
    → IsLoading file (handing_step (act_at cli.row cli) (call_at cli.row cli) 0 system)
unfolding handing_step took
loads_hands cli file system hands loading n =
    let act = act_at cli.row cli in
    let reply = handed_answer act system in
    let over = handed_over act (call_at cli.row cli).bytes 0 system in
    loads_taking file reply cli over (first_resident system over (handed_residents act (call_at cli.row cli).bytes 0 system) ∙ n.acts)
    (handed_so cli.row cli reply file system hands loading n.memory (n.has loading) n.stands (n.piece loading) n.loaded)

loads_hands_at : (row : Row) (cli : Interpreter) (file : List ℕ) (system : System) → cli.row ≡ row → hands row ≡ true → is_loading row ≡ true → IsNext cli file system
    → IsLoading file (handing_step (act_at row cli) (call_at row cli) 0 system)
loads_hands_at row cli file system is handing loading n =
    subst (λ (r : Row). IsLoading file (handing_step (act_at r cli) (call_at r cli) 0 system)) is
    (loads_hands cli file system (ap hands is ∙ handing) (ap is_loading is ∙ loading) n)

loads_at : (row : Row) (cli : Interpreter) (file : List ℕ) (system : System) → cli.row ≡ row → IsNext cli file system
    → IsLoading file (native_step (act_at row cli) (call_at row cli) 0 system).system
unfolding handing_step
loads_at ReadCommand cli file system is n = loads_asks (call_at ReadCommand cli) cli file system n.acts (ap hands is) n.loaded
loads_at OpenQueue cli file system is n = loads_asks (call_at OpenQueue cli) cli file system n.acts (ap hands is) n.loaded
loads_at WriteQueue cli file system is n = loads_asks (call_at WriteQueue cli) cli file system n.acts (ap hands is) n.loaded
loads_at SetUser cli file system is n = loads_asks (call_at SetUser cli) cli file system n.acts (ap hands is) n.loaded
loads_at OpenRelocatable cli file system is n = loads_asks (call_at OpenRelocatable cli) cli file system n.acts (ap hands is) n.loaded
loads_at OpenAbsolute cli file system is n = loads_asks (call_at OpenAbsolute cli) cli file system n.acts (ap hands is) n.loaded
loads_at ReadHeader cli file system is n = loads_asks (call_at ReadHeader cli) cli file system n.acts (ap hands is) n.loaded
loads_at ComputeSize cli file system is n = loads_asks (call_at ComputeSize cli) cli file system n.acts (ap hands is) n.loaded
loads_at SetUserZero cli file system is n = loads_asks (call_at SetUserZero cli) cli file system n.acts (ap hands is) n.loaded
loads_at (Reserve relocatable pages) cli file system is n = loads_asks (call_at (Reserve relocatable pages) cli) cli file system n.acts (ap hands is) n.loaded
loads_at Place cli file system is n = loads_hands_at Place cli file system is refl refl n
loads_at Patch cli file system is n = loads_hands_at Patch cli file system is refl refl n
loads_at ReadOn cli file system is n = loads_asks (call_at ReadOn cli) cli file system n.acts (ap hands is) n.loaded
loads_at (Free message) cli file system is n = loads_asks (call_at (Free message) cli) cli file system n.acts (ap hands is) n.loaded
loads_at (CloseAfter message) cli file system is n = loads_asks (call_at (CloseAfter message) cli) cli file system n.acts (ap hands is) n.loaded
loads_at Close cli file system is n = loads_asks (call_at Close cli) cli file system n.acts (ap hands is) n.loaded
loads_at (Tell message) cli file system is n = loads_asks (call_at (Tell message) cli) cli file system n.acts (ap hands is) n.loaded
loads_at Give cli file system is n =
    loads_taking file (answering 0) cli (giving cli.console 0 system) n.acts (took_so cli (answering 0) file system.memory (ap hands is) n.loaded)
loads_at PlaceBasePage cli file system is n = loads_hands_at PlaceBasePage cli file system is refl refl n
loads_at Begin cli file system is n = loads_hands_at Begin cli file system is refl refl n

loads_next : (cli : Interpreter) (file : List ℕ) (system : System) → IsNext cli file system → IsLoading file (native_step (next_act cli) (next_call cli) 0 system).system
unfolding next_act next_call
loads_next cli file system n = loads_at cli.row cli file system refl n

-- what the running process does

loads_asking : (native : Native) (p : ℕ) (file : List ℕ) (system : System) → native_in system.residents p ≡ Some native → interprets native ≡ false → (i : Interprets system)
    → IsLoading file system → IsLoading file (native_step Ask (native_call native) p (asking p (native_call native) system)).system
loads_asking native p file system is asks_so i h =
    let call = native_call native in
    let asks = asking p call system in
    let other : 0 ≢ p = λ zero_is. absurd (no_interpreter native i.acting.cli asks_so (sym is ∙ ap (native_in system.residents) (sym zero_is) ∙ i.acting.acts)) in
    rests_loading file system (native_step Ask call p asks).system i
    (rests_both system asks (native_step Ask call p asks).system (rests_alike system asks refl (same_bytes_itself system.memory)) (rests_asks call p asks other)) h

loads_resided : (native : Option Native) (p : ℕ) (file : List ℕ) (system : System) → IsMemory system.memory → native_in system.residents p ≡ native → (i : Interprets system) → IsReading file system
    → IsLoading file system → IsLoading file (resided native p system).system
loads_resided None p file system m is i reads h = h
loads_resided (Some (Tmp tmp)) p file system m is i reads h = loads_asking (Tmp tmp) p file system is refl i h
loads_resided (Some (Spool spool)) p file system m is i reads h = loads_asking (Spool spool) p file system is refl i h
loads_resided (Some (Sched sched)) p file system m is i reads h = loads_asking (Sched sched) p file system is refl i h
loads_resided (Some (Cli cli)) p file system m is i reads h =
    let zero_is : p ≡ 0 = i.acting.alone p (ap interprets_if_there is) in
    let acts : native_in system.residents 0 ≡ Some (Cli cli) = ap (native_in system.residents) (sym zero_is) ∙ is in
    let P : ℕ → Type 0 = λ q. IsLoading file (native_step (next_act cli) (next_call cli) q (asking q (next_call cli) system)).system in
    subst P (sym zero_is) (loads_next cli file (asking 0 (next_call cli) system) (record {
      acts = acts;
      memory = m;
      has = has_here system i cli acts;
      stands = stands_here system i cli acts;
      piece = reads cli acts;
      loaded = h cli acts;
    }))

loads_acted : (running seg : Option ℕ) (file : List ℕ) (system : System) → IsWhole system → system.kernel.dispatcher.running ≡ running → running_segment running system ≡ seg
    → Interprets system → IsReading file system → IsLoading file system → IsLoading file (acted_by running seg system).system
loads_acted None seg file system w e home i reads h = h
loads_acted (Some p) None file system w e home i reads h = loads_resided (native_in system.residents p) p file system w.memory refl i reads h
loads_acted (Some p) (Some seg) file system w e home i reads h =
    let gate = gate_before p seg system in
    rests_loading file system (acted_at gate p seg system).system i
    (rests_home p seg system (acted_at gate p seg system).system w i (runner_lives system.kernel p w.sound e) home (acted_residents gate p seg system)
    (λ other at apart below. elsewhere_at gate p seg system other at apart below)) h

pub loads_begun : (event : Option Event) (file : List ℕ) (system : System) → IsWhole system → Interprets system → IsReading file system → IsLoading file system
    → IsLoading file (begun_by event system).system
unfolding acted
loads_begun None file system w i reads h = let running = system.kernel.dispatcher.running in loads_acted running (running_segment running system) file system w refl refl i reads h
loads_begun (Some event) file system w i reads h = rests_loading file system (interrupted event system).system i (rests_event event system) h
