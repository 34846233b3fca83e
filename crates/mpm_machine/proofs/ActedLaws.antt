-- A whole system stays whole through what the process that runs does: its call, its end, its instruction, or its step as a resident.
use Rattle.std.proofs.Common.{◌≡◌, ◌∙◌, ℕ, ◌==◌, Option, Some, None, refl, ap, eqb-true}
use Rattle.mpm_base.proofs.Choices.{either}
use Rattle.mpm_base.specs.Calls.{Taken, Answer}
use Rattle.mpm_base.specs.declared.call.Outcome.{Outcome as Ended_how}
use Rattle.mpm_base.specs.declared.call.Outcome.TheVariants.{Done, Held, Retry, Ended}
use Rattle.mpm_base.specs.declared.functions.TheConstants.{ABSOLUTE_MEMORY_REQUEST, RELOCATABLE_MEMORY_REQUEST, MEMORY_FREE, CREATE_PROCESS, CHAIN_TO_PROGRAM, PARSE_FILENAME, ABORT_SPECIFIED_PROCESS, SEND_CLI_COMMAND, SYSTEM_DATA_ADDRESS, RETURN_PROCESS_DESCRIPTOR_ADDRESS}
use Rattle.mpm_procs.specs.Table.{Lives, call_of}
use Rattle.mpm_dispatcher.specs.Dispatch.{IsReady}
use Rattle.mpm_kernel.proofs.SoundLaws.{runner_lives}
use Rattle.mpm_residents.specs.Natives.{native_act, native_call, native_in}
use Rattle.mpm_residents.specs.declared.native.Native.{Native}
use Rattle.mpm_residents.specs.declared.cli.act.Act.{Act}
use Rattle.mpm_residents.specs.declared.cli.act.Act.TheVariants.{Ask, PlaceBytes, MoveCode, BeginProcess, GiveConsole}
use Rattle.mpm_kernel.specs.Called.{low_parameter}
use Rattle.mpm_gate.specs.declared.gate.Gate.{Gate}
use Rattle.mpm_gate.specs.declared.gate.Gate.TheVariants.{End, Call, Return}
use Rattle.mpm_system.specs.declared.system.System.{System}
use Rattle.mpm_system.specs.Whole.{SystemChange, IsWhole}
use Rattle.mpm_system.specs.Calling.{Served, asking}
use Rattle.mpm_system.specs.Sending.{has_interpreter}
use Rattle.mpm_system.specs.Taking.{asked, keeping}
use Rattle.mpm_system.specs.Segments.{reserving, releasing}
use Rattle.mpm_system.specs.Parsing.{parsing}
use Rattle.mpm_system.specs.Loading.{is_console, handed_over}
use Rattle.mpm_system.specs.Residents.{tells, text_told, telling_step, handing_step}
use Rattle.mpm_system.proofs.HomeLaws.{keeps_reserved, keeps_released}
use Rattle.mpm_system.proofs.WholeLaws.{keeps_call, keeps_asked, whole_calling, whole_residents}
use Rattle.mpm_system.proofs.LoadingLaws.{whole_placing, whole_moving, whole_giving, whole_beginning}
use Rattle.mpm_machine.specs.Serving.{served_to_all, served, outcome_of, gate_step}
use Rattle.mpm_machine.specs.Residing.{native_outcome, calling_step, native_step, resided}
use Rattle.mpm_machine.specs.Step.{instruction_at, acted_at, gate_before, acted_by, acted}
use Rattle.mpm_machine.proofs.WholeLaws.{StaysServed, stays_as_served, whole_aborting, whole_creating, whole_banks, whole_completing, whole_ended, whole_popped, whole_said, whole_speaking, whole_returning, whole_instructed}
use Rattle.mpm_machine.proofs.SendingLaws.{whole_sending, whole_chaining}

-- a call is served
pub whole_to_all : (call : Taken) (p : ℕ) (system : System) → call_of system.kernel.dispatcher.procs p ≡ call → IsWhole system → Lives system.kernel.dispatcher.procs p
    → IsReady system.kernel.dispatcher p → StaysServed p system (served_to_all call p system).system
unfolding served_to_all reserving releasing
whole_to_all call p system keeps w h ready =
    let f = call.function in
    let P : Served → Type 0 = λ s. StaysServed p system s.system in
    either P (f == ABSOLUTE_MEMORY_REQUEST) _ _ (λ _. stays_as_served p system _ (whole_banks p _ system w h (keeps_reserved system.memory p _ _)))
    (λ _. either P (f == RELOCATABLE_MEMORY_REQUEST) _ _ (λ _. stays_as_served p system _ (whole_banks p _ system w h (keeps_reserved system.memory p _ _)))
    (λ _. either P (f == MEMORY_FREE) _ _ (λ _. stays_as_served p system _ (whole_banks p _ system w h (keeps_released system.memory p _)))
    (λ _. either P (f == SEND_CLI_COMMAND) _ _
    (λ is. whole_sending (has_interpreter system) p system w h ready (ap (λ (c : Taken). c.function) keeps ∙ eqb-true f SEND_CLI_COMMAND is))
    (λ _. stays_as_served p system _ (whole_calling p system w h ready)))))

pub whole_served : (call : Taken) (p : ℕ) (system : System) → call_of system.kernel.dispatcher.procs p ≡ call → IsWhole system → Lives system.kernel.dispatcher.procs p
    → IsReady system.kernel.dispatcher p → StaysServed p system (served call p system).system
unfolding served parsing
whole_served call p system keeps w h ready =
    let f = call.function in
    let P : Served → Type 0 = λ s. StaysServed p system s.system in
    let stays : StaysServed p system system = stays_as_served p system system (record { whole = w; lives = h; call = refl }) in
    either P (f == CREATE_PROCESS) _ _ (λ _. stays_as_served p system _ (whole_creating p system w h))
    (λ _. either P (f == ABORT_SPECIFIED_PROCESS) _ _ (λ _. stays_as_served p system _ (whole_aborting p system w h ready))
    (λ _. either P (f == PARSE_FILENAME) _ _ (λ _. stays)
    (λ _. either P (f == SYSTEM_DATA_ADDRESS) _ _ (λ _. stays)
    (λ _. either P (f == RETURN_PROCESS_DESCRIPTOR_ADDRESS) _ _ (λ _. stays)
    (λ _. either P (f == CHAIN_TO_PROGRAM) _ _
    (λ is. whole_chaining (has_interpreter system) p system w h ready (ap (λ (c : Taken). c.function) keeps ∙ eqb-true f CHAIN_TO_PROGRAM is))
    (λ _. whole_to_all call p system keeps w h ready))))))

whole_outcome : (outcome : Ended_how) (reply : Answer) (call : Taken) (p seg : ℕ) (system : System) → IsWhole system → Lives system.kernel.dispatcher.procs p
    → IsWhole (outcome_of outcome reply call p seg system).system
whole_outcome Done reply call p seg system w h = whole_completing reply call p seg system w h
whole_outcome Ended reply call p seg system w h = whole_ended p system w h
whole_outcome Held reply call p seg system w h = (whole_popped p seg system w h).whole
whole_outcome Retry reply call p seg system w h = w

-- the gate step of a call
pub whole_gate_step : (p seg : ℕ) (system : System) → IsWhole system → Lives system.kernel.dispatcher.procs p → IsReady system.kernel.dispatcher p
    → IsWhole (gate_step p seg system).system
unfolding gate_step
whole_gate_step p seg system w h ready =
    let call = asked p seg system in
    let kept = keeps_call p call system w h in
    let done = whole_served call p (keeping p call system) kept.call kept.whole kept.lives (kept.ready ready) in
    whole_outcome _ _ call p seg _ done.whole done.lives

whole_native : (outcome : Ended_how) (reply : Answer) (call : Taken) (p : ℕ) (system : System) → IsWhole system → Lives system.kernel.dispatcher.procs p
    → IsWhole (native_outcome outcome reply call p system).system
whole_native Done reply call p system w h = whole_residents _ _ (whole_said call call.bytes p system w h).whole
whole_native Ended reply call p system w h = whole_ended p system w h
whole_native Held reply call p system w h = w
whole_native Retry reply call p system w h = w

-- the step of a resident: it makes its call, tells a text, or hands something over
whole_native_call : (call : Taken) (p : ℕ) (system : System) → call_of system.kernel.dispatcher.procs p ≡ call → IsWhole system → Lives system.kernel.dispatcher.procs p
    → IsReady system.kernel.dispatcher p → IsWhole (calling_step call p system).system
unfolding calling_step
whole_native_call call p system keeps w h ready =
    let done = whole_to_all call p system keeps w h ready in
    whole_native _ _ call p _ done.whole done.lives

whole_text : (call : Taken) (p : ℕ) (system : System) → IsWhole system → Lives system.kernel.dispatcher.procs p → IsWhole (text_told call system).system
whole_text call p system w h =
    either (λ (change : SystemChange). IsWhole change.system) (is_console (low_parameter call) system.kernel) _ _
    (λ _. (whole_speaking (low_parameter call) p _ system w h).whole) (λ _. w)

whole_telling : (call : Taken) (p : ℕ) (system : System) → IsWhole system → Lives system.kernel.dispatcher.procs p → IsWhole (telling_step call p system).system
unfolding telling_step
whole_telling call p system w h = whole_residents _ _ (whole_text call p system w h)

whole_handed : (act : Act) (call : Taken) (p : ℕ) (system : System) → IsWhole system → Lives system.kernel.dispatcher.procs p
    → IsWhole (handed_over act call.bytes p system)
whole_handed Ask call p system w h = w
whole_handed (PlaceBytes seg address count) call p system w h = whole_placing seg address call.bytes system w
whole_handed (MoveCode seg address count page) call p system w h = whole_moving seg address count call.bytes page system w
whole_handed (BeginProcess seg new) call p system w h = whole_beginning seg new p system w
whole_handed (GiveConsole console) call p system w h = whole_giving console p system w

whole_handing : (act : Act) (call : Taken) (p : ℕ) (system : System) → IsWhole system → Lives system.kernel.dispatcher.procs p
    → IsWhole (handing_step act call p system)
unfolding handing_step
whole_handing act call p system w h = whole_residents _ _ (whole_handed act call p system w h)

whole_native_step : (act : Act) (call : Taken) (p : ℕ) (system : System) → call_of system.kernel.dispatcher.procs p ≡ call → IsWhole system
    → Lives system.kernel.dispatcher.procs p → IsReady system.kernel.dispatcher p → IsWhole (native_step act call p system).system
whole_native_step Ask call p system keeps w h ready =
    either (λ (change : SystemChange). IsWhole change.system) (tells (native_in system.residents p) call) _ _ (λ _. whole_telling call p system w h)
    (λ _. whole_native_call call p system keeps w h ready)
whole_native_step (PlaceBytes seg address count) call p system keeps w h ready = whole_handing (PlaceBytes seg address count) call p system w h
whole_native_step (MoveCode seg address count page) call p system keeps w h ready = whole_handing (MoveCode seg address count page) call p system w h
whole_native_step (BeginProcess seg new) call p system keeps w h ready = whole_handing (BeginProcess seg new) call p system w h
whole_native_step (GiveConsole console) call p system keeps w h ready = whole_handing (GiveConsole console) call p system w h

whole_resided : (native : Option Native) (p : ℕ) (system : System) → IsWhole system → Lives system.kernel.dispatcher.procs p → IsReady system.kernel.dispatcher p
    → IsWhole (resided native p system).system
whole_resided None p system w h ready = w
whole_resided (Some native) p system w h ready =
    let kept = keeps_asked p (native_call native) system w h in
    whole_native_step (native_act native) (native_call native) p (asking p (native_call native) system) kept.call kept.whole kept.lives (kept.ready ready)

-- what the running process does
whole_acted_at : (gate : Option Gate) (p seg : ℕ) (system : System) → IsWhole system → Lives system.kernel.dispatcher.procs p → IsReady system.kernel.dispatcher p
    → IsWhole (acted_at gate p seg system).system
whole_acted_at (Some End) p seg system w h ready = whole_ended p system w h
whole_acted_at (Some Call) p seg system w h ready = whole_gate_step p seg system w h ready
whole_acted_at (Some Return) p seg system w h ready = whole_returning p system w h
whole_acted_at None p seg system w h ready = whole_instructed (instruction_at p seg system) p seg system w h

whole_acted_by : (running seg : Option ℕ) (system : System) → IsWhole system → system.kernel.dispatcher.running ≡ running → IsWhole (acted_by running seg system).system
whole_acted_by None seg system w e = w
whole_acted_by (Some p) None system w e =
    whole_resided (native_in system.residents p) p system w (runner_lives system.kernel p w.sound e) (w.sound.runs p e)
whole_acted_by (Some p) (Some seg) system w e =
    whole_acted_at (gate_before p seg system) p seg system w (runner_lives system.kernel p w.sound e) (w.sound.runs p e)

pub whole_acted : (system : System) → IsWhole system → IsWhole (acted system).system
unfolding acted
whole_acted system w = whole_acted_by system.kernel.dispatcher.running _ system w refl
