-- Who is at the disk keeps his call through what the running process does, through the file call that it makes, and through the
-- answers of the held calls that were completed.
use Rattle.std.proofs.Common.{◌≡◌, ◌≢◌, ◌∙◌, ℕ, ◌<◌, List, Option, Some, None, IfSome, refl, sym, ap, subst}
use Rattle.std.proofs.lemmas.Bool.{false≢true}
use Rattle.z80_regs.specs.Outcome.{StepOutcome}
use Rattle.z80_ext.specs.Instruction.{actions_of}
use Rattle.mpm_base.specs.Calls.{Taken, Answer}
use Rattle.mpm_base.specs.declared.call.Outcome.{Outcome}
use Rattle.mpm_base.specs.declared.call.Outcome.TheVariants.{Done, Held, Retry, Ended}
use Rattle.mpm_base.proofs.Choices.{either}
use Rattle.mpm_procs.specs.Table.{lives, Lives, process_in, call_of, lowest_free}
use Rattle.mpm_procs.specs.declared.process.NewProcess.{NewProcess}
use Rattle.mpm_procs.specs.declared.process.Process.{Process}
use Rattle.mpm_procs.proofs.MapLaws.{free_is_dead, process_added_other, call_added_other}
use Rattle.mpm_script.specs.declared.event.Event.{Event}
use Rattle.mpm_service.specs.Places.{at_disk}
use Rattle.mpm_dispatcher.specs.Dispatch.{IsReady, admitted, first_completed}
use Rattle.mpm_gate.specs.declared.gate.Gate.{Gate}
use Rattle.mpm_gate.specs.declared.gate.Gate.TheVariants.{End, Call, Return}
use Rattle.mpm_banks.specs.Actions.{devices_after}
use Rattle.mpm_kernel.specs.Kernel.{Kernel, IsSoundKernel, dispatched as with_dispatcher}
use Rattle.mpm_kernel.specs.Called.{low_parameter}
use Rattle.mpm_kernel.specs.Columns.{expanded, column_of}
use Rattle.mpm_kernel.specs.Consoling.{given}
use Rattle.mpm_kernel.specs.Events.{MayCome}
use Rattle.mpm_kernel.specs.Procedures.{given_back}
use Rattle.mpm_kernel.proofs.SoundLaws.{runner_lives}
use Rattle.mpm_kernel.proofs.GivingLaws.{procs_gave}
use Rattle.mpm_kernel.proofs.DiskStays.{disk_given_back}
use Rattle.mpm_kernel.proofs.EndingLaws.{call_given_back, beside_given_back}
use Rattle.mpm_xdos.specs.Procedures.{returned_from_procedure, leaving}
use Rattle.mpm_output.specs.Texts.{illegal_text}
use Rattle.mpm_residents.specs.declared.cli.act.Act.{Act}
use Rattle.mpm_residents.specs.declared.cli.act.Act.TheVariants.{Ask, PlaceBytes, MoveCode, BeginProcess, GiveConsole}
use Rattle.mpm_residents.specs.declared.native.Native.{Native}
use Rattle.mpm_residents.specs.Natives.{native_in, native_call, native_act}
use Rattle.mpm_system.specs.declared.system.System.{System}
use Rattle.mpm_system.specs.Whole.{SystemChange, IsWhole, speaking}
use Rattle.mpm_system.specs.Calling.{asking}
use Rattle.mpm_system.specs.Sending.{chains}
use Rattle.mpm_system.specs.Taking.{asked, keeping}
use Rattle.mpm_system.specs.Answering.{popped}
use Rattle.mpm_system.specs.Saying.{said_by}
use Rattle.mpm_system.specs.Loading.{is_console, begun_for, begins, handed_over}
use Rattle.mpm_system.specs.Residents.{asked_by, tells, telling_step, handing_step}
use Rattle.mpm_system.specs.Coming.{counted}
use Rattle.mpm_system.specs.FileCalling.{made_by, call_made}
use Rattle.mpm_system.proofs.WholeLaws.{keeps_asked}
use Rattle.mpm_system.proofs.PlacedLaws.{given_disk}
use Rattle.mpm_machine.specs.Serving.{returning, served_to_all}
use Rattle.mpm_machine.specs.Residing.{native_outcome, calling_step, native_step, resided}
use Rattle.mpm_machine.specs.Finishing.{completion_dequeued, command_let_in, finished_or_ended, answered_from, all_answered}
use Rattle.mpm_machine.specs.Step.{illegal, instructed, executed, instruction_at, acted_at, acted_by, gate_before, running_segment, acted, begun_by}
use Rattle.mpm_machine.proofs.WholeLaws.{whole_speaking}
use Rattle.mpm_machine.proofs.ActedLaws.{whole_to_all}
use Rattle.mpm_machine.proofs.SendingLaws.{lets_in}
use Rattle.mpm_machine.proofs.WholeStepLaws.{whole_dequeued, lives_in_time}
use Rattle.mpm_machine.proofs.KeepingLaws.{let_in_disk}
use Rattle.mpm_machine.proofs.CallsLaws.{KeepsCalls, SystemKeepsCalls, calls_stay, calls_same, calls_then, calls_nothing, calls_changed, waits_not, at_disk_lives, calls_ended, calls_spoke, calls_dequeued, calls_finished, calls_all_finished}
use Rattle.mpm_machine.proofs.CallsStepLaws.{IsApart, ready_apart, calls_kept, calls_keeping, calls_to_all, calls_event, calls_gate_step}

-- it leaves its resident procedure
calls_gave_back : (p : ℕ) (kernel : Kernel) → IsSoundKernel kernel → Lives kernel.dispatcher.procs p → IsApart p kernel → KeepsCalls kernel (given_back p kernel)
calls_gave_back p kernel s h apart =
    calls_stay kernel (given_back p kernel) (disk_given_back p kernel) (λ q at. call_given_back p q kernel s h (apart q at) (waits_not kernel q s at))
    (λ q at. (beside_given_back p q kernel s h (apart q at)).multi)

calls_returning : (p : ℕ) (system : System) → IsSoundKernel system.kernel → Lives system.kernel.dispatcher.procs p → IsApart p system.kernel → SystemKeepsCalls system (returning p system)
unfolding returning returned_from_procedure leaving
calls_returning p system s h apart =
    let back = given_back p system.kernel in
    calls_then system.kernel back _ (calls_gave_back p system.kernel s h apart) (calls_changed back p _ refl)

-- an instruction, or an unlisted opcode
calls_executed : (outcome : Option StepOutcome) (p seg : ℕ) (system : System) → IsWhole system → Lives system.kernel.dispatcher.procs p
    → SystemKeepsCalls system (executed outcome p seg system).system
unfolding executed illegal speaking instructed
calls_executed None p seg system w h =
    let process = process_in system.kernel.dispatcher.procs p in
    let spoke = (speaking process.console (illegal_text process.regs.pc) system).system in
    let stays = whole_speaking process.console p (illegal_text process.regs.pc) system w h in
    calls_then system.kernel spoke.kernel _ (calls_spoke system.kernel process.console (illegal_text process.regs.pc)) (calls_ended p spoke stays.whole stays.lives)
calls_executed (Some outcome) p seg system w h =
    let polled = record system.kernel { devices = devices_after (actions_of (Some outcome)) system.kernel.devices } in
    calls_then system.kernel polled _ (calls_same system.kernel polled refl refl) (calls_changed polled p _ refl)

-- at a gate, or elsewhere
calls_acted_at : (gate : Option Gate) (p seg : ℕ) (system : System) → IsWhole system → Lives system.kernel.dispatcher.procs p → IsReady system.kernel.dispatcher p
    → SystemKeepsCalls system (acted_at gate p seg system).system
calls_acted_at (Some End) p seg system w h is_ready = calls_ended p system w h
calls_acted_at (Some Call) p seg system w h is_ready = calls_gate_step p seg system w h is_ready
calls_acted_at (Some Return) p seg system w h is_ready = calls_returning p system w.sound h (ready_apart p system.kernel w.sound is_ready)
calls_acted_at None p seg system w h is_ready = calls_executed (instruction_at p seg system) p seg system w h

-- a resident makes its call
calls_native : (outcome : Outcome) (reply : Answer) (call : Taken) (p : ℕ) (system : System) → IsWhole system → Lives system.kernel.dispatcher.procs p
    → SystemKeepsCalls system (native_outcome outcome reply call p system).system
unfolding said_by speaking
calls_native Done reply call p system w h = calls_spoke system.kernel (process_in system.kernel.dispatcher.procs p).console _
calls_native Ended reply call p system w h = calls_ended p system w h
calls_native Held reply call p system w h = calls_nothing system.kernel
calls_native Retry reply call p system w h = calls_nothing system.kernel

calls_calling : (call : Taken) (p : ℕ) (system : System) → call_of system.kernel.dispatcher.procs p ≡ call → IsWhole system → Lives system.kernel.dispatcher.procs p
    → IsReady system.kernel.dispatcher p → SystemKeepsCalls system (calling_step call p system).system
unfolding calling_step
calls_calling call p system keeps w h is_ready =
    let done = served_to_all call p system in
    let stays = whole_to_all call p system keeps w h is_ready in
    calls_then system.kernel done.system.kernel _ (calls_to_all call p system w.sound h (ready_apart p system.kernel w.sound is_ready))
    (calls_native done.outcome done.reply call p done.system stays.whole stays.lives)

-- or has a text written
calls_telling : (call : Taken) (p : ℕ) (system : System) → SystemKeepsCalls system (telling_step call p system).system
unfolding telling_step speaking
calls_telling call p system =
    either (λ (c : SystemChange). SystemKeepsCalls system c.system) (is_console (low_parameter call) system.kernel) _ _
    (λ _. calls_spoke system.kernel (low_parameter call) (expanded (column_of system.kernel (low_parameter call)) call.bytes)) (λ _. calls_nothing system.kernel)

-- or hands something over
calls_given : (console : ℕ) (from to : Option ℕ) (kernel : Kernel) → KeepsCalls kernel (given console from to kernel)
calls_given console from to kernel = calls_same kernel (given console from to kernel) (given_disk console from to kernel) (procs_gave console from to kernel)

calls_begun_for : (slot : Option ℕ) (p : ℕ) (new : NewProcess) (kernel : Kernel) → IsSoundKernel kernel → lowest_free kernel.dispatcher.procs ≡ slot
    → KeepsCalls kernel (begun_for p new slot kernel)
calls_begun_for None p new kernel s free = calls_nothing kernel
calls_begun_for (Some q) p new kernel s free =
    let procs = kernel.dispatcher.procs in
    let begun = with_dispatcher (admitted q new) kernel in
    let apart : (r : ℕ) → 0 < at_disk kernel.disk r → r ≢ q =
    λ r at is. false≢true (sym (free_is_dead procs q free) ∙ ap (lives procs) (sym is) ∙ at_disk_lives kernel r s at) in
    let first : KeepsCalls kernel begun =
    calls_stay kernel begun refl (λ r at. call_added_other procs q r new (apart r at))
    (λ r at _. ap (λ (x : Process). x.multi) (process_added_other procs q r new (apart r at))) in
    calls_then kernel begun _ first (calls_given new.console (Some p) (Some q) begun)

calls_handed : (act : Act) (bytes : List ℕ) (p : ℕ) (system : System) → IsSoundKernel system.kernel → SystemKeepsCalls system (handed_over act bytes p system)
calls_handed Ask bytes p system s = calls_nothing system.kernel
calls_handed (PlaceBytes seg address count) bytes p system s = calls_nothing system.kernel
calls_handed (MoveCode seg address count page) bytes p system s = calls_nothing system.kernel
calls_handed (BeginProcess seg new) bytes p system s =
    either (SystemKeepsCalls system) (begins seg new system) _ system
    (λ _. calls_begun_for (lowest_free system.kernel.dispatcher.procs) p (record new { seg = Some seg }) system.kernel s refl) (λ _. calls_nothing system.kernel)
calls_handed (GiveConsole console) bytes p system s =
    either (λ (k : Kernel). KeepsCalls system.kernel k) (is_console console system.kernel) _ _
    (λ _. calls_given console (Some p) None system.kernel) (λ _. calls_nothing system.kernel)

calls_handing : (act : Act) (call : Taken) (p : ℕ) (system : System) → IsSoundKernel system.kernel → SystemKeepsCalls system (handing_step act call p system)
unfolding handing_step
calls_handing act call p system s = calls_handed act call.bytes p system s

calls_native_step : (act : Act) (call : Taken) (p : ℕ) (system : System) → call_of system.kernel.dispatcher.procs p ≡ call → IsWhole system
    → Lives system.kernel.dispatcher.procs p → IsReady system.kernel.dispatcher p → SystemKeepsCalls system (native_step act call p system).system
calls_native_step Ask call p system keeps w h is_ready =
    either (λ (c : SystemChange). SystemKeepsCalls system c.system) (tells (native_in system.residents p) call) _ _
    (λ _. calls_telling call p system) (λ _. calls_calling call p system keeps w h is_ready)
calls_native_step (PlaceBytes seg address count) call p system keeps w h is_ready = calls_handing (PlaceBytes seg address count) call p system w.sound
calls_native_step (MoveCode seg address count page) call p system keeps w h is_ready = calls_handing (MoveCode seg address count page) call p system w.sound
calls_native_step (BeginProcess seg new) call p system keeps w h is_ready = calls_handing (BeginProcess seg new) call p system w.sound
calls_native_step (GiveConsole console) call p system keeps w h is_ready = calls_handing (GiveConsole console) call p system w.sound

calls_resided : (native : Option Native) (p : ℕ) (system : System) → IsWhole system → Lives system.kernel.dispatcher.procs p → IsReady system.kernel.dispatcher p
    → SystemKeepsCalls system (resided native p system).system
calls_resided None p system w h is_ready = calls_nothing system.kernel
calls_resided (Some native) p system w h is_ready =
    let call = native_call native in
    let asks = asking p call system in
    let kept = keeps_asked p call system w h in
    calls_then system.kernel asks.kernel _ (calls_kept p call system.kernel (ready_apart p system.kernel w.sound is_ready))
    (calls_native_step (native_act native) call p asks kept.call kept.whole kept.lives (kept.ready is_ready))

-- what the running process does
calls_acted_by : (running seg : Option ℕ) (system : System) → IsWhole system → system.kernel.dispatcher.running ≡ running → SystemKeepsCalls system (acted_by running seg system).system
calls_acted_by None seg system w runs = calls_nothing system.kernel
calls_acted_by (Some p) None system w runs =
    calls_resided (native_in system.residents p) p system w (runner_lives system.kernel p w.sound runs) (w.sound.runs p runs)
calls_acted_by (Some p) (Some seg) system w runs =
    calls_acted_at (gate_before p seg system) p seg system w (runner_lives system.kernel p w.sound runs) (w.sound.runs p runs)

calls_acted : (system : System) → IsWhole system → SystemKeepsCalls system (acted system).system
unfolding acted
calls_acted system w = calls_acted_by system.kernel.dispatcher.running (running_segment system.kernel.dispatcher.running system) system w refl

-- what a step begins with
pub calls_begun_by : (event : Option Event) (system : System) → IfSome event MayCome → IsWhole system → SystemKeepsCalls system (begun_by event system).system
calls_begun_by None system may w = calls_acted system w
calls_begun_by (Some event) system may w = calls_event event system may w

-- a file call is made
calls_made_by : (seg : Option ℕ) (native : Option Native) (p : ℕ) (system : System) → IsSoundKernel system.kernel → IsReady system.kernel.dispatcher p → native_in system.residents p ≡ native
    → SystemKeepsCalls system (made_by seg p system)
unfolding popped
calls_made_by (Some seg) native p system s is_ready here =
    let kept = keeping p (asked p seg system) system in
    calls_then system.kernel kept.kernel _ (calls_keeping p (asked p seg system) system (ready_apart p system.kernel s is_ready)) (calls_changed kept.kernel p _ refl)
calls_made_by None None p system s is_ready here = subst (λ o. SystemKeepsCalls system (asked_by o p system)) (sym here) (calls_nothing system.kernel)
calls_made_by None (Some native) p system s is_ready here =
    subst (λ o. SystemKeepsCalls system (asked_by o p system)) (sym here) (calls_kept p (native_call native) system.kernel (ready_apart p system.kernel s is_ready))

pub calls_made : (p : ℕ) (system : System) → IsSoundKernel system.kernel → IsReady system.kernel.dispatcher p → SystemKeepsCalls system (call_made p system)
unfolding call_made
calls_made p system s is_ready = calls_made_by (process_in system.kernel.dispatcher.procs p).seg _ p (counted system) s is_ready refl

-- the held calls that were completed are answered
calls_first : (p : ℕ) (system : System) → IsWhole system → Lives system.kernel.dispatcher.procs p → SystemKeepsCalls system (finished_or_ended p system)
calls_first p system w h =
    either (SystemKeepsCalls system) (chains p system.kernel) _ _ (λ _. calls_ended p system w h)
    (λ _. calls_finished (process_in system.kernel.dispatcher.procs p).seg p system)

pub calls_let_in : (p : ℕ) (system : System) → IsWhole system → SystemKeepsCalls system (command_let_in p (completion_dequeued system))
calls_let_in p system w =
    let handed = completion_dequeued system in
    calls_then system.kernel handed.kernel _ (calls_dequeued system)
    (calls_same handed.kernel _ (let_in_disk p handed.kernel) (lets_in p handed (whole_dequeued system w)).procs)

calls_from : (first : Option ℕ) (system : System) → IsWhole system → first_completed system.kernel.dispatcher.completed ≡ first → SystemKeepsCalls system (answered_from first system)
unfolding answered_from
calls_from None system w is = calls_nothing system.kernel
calls_from (Some p) system w is =
    let handed = completion_dequeued system in
    let first = command_let_in p handed in
    let whole = (lets_in p handed (whole_dequeued system w)).whole in
    calls_then system.kernel first.kernel _ (calls_let_in p system w)
    (calls_then first.kernel (finished_or_ended p first).kernel _ (calls_first p first whole (lives_in_time p system w is)) (calls_all_finished (finished_or_ended p first)))

pub calls_all_answered : (system : System) → IsWhole system → SystemKeepsCalls system (all_answered system)
calls_all_answered system w = calls_from (first_completed system.kernel.dispatcher.completed) system w refl
