-- The gate step of a call that concerns its caller alone: what it takes is kept, its process changes, the value is placed after the
-- return address, and its record joins the others.
use Rattle.std.proofs.Common.{◌≡◌, ◌≢◌, ◌∙◌, ℕ, ◌==◌, Bool, true, false, ◌&&◌, if◌then◌else◌, List, [], refl, sym, ap, subst}
use Rattle.std.proofs.lemmas.Bool.{false≢true}
use Rattle.mpm_base.specs.Calls.{Taken, answering}
use Rattle.mpm_base.specs.declared.functions.TheConstants.{CONSOLE_OUTPUT, RAW_CONSOLE_OUTPUT, LIST_OUTPUT, DIRECT_CONSOLE_IO, PRINT_STRING, CALL_RESIDENT_SYSTEM_PROCEDURE}
use Rattle.mpm_banks.specs.Memory.{byte_at}
use Rattle.z80_regs.specs.Words.{word_of}
use Rattle.mpm_gate.specs.Replies.{returned}
use Rattle.mpm_file_functions.specs.Functions.{function_of, direct_of}
use Rattle.mpm_procs.specs.Table.{Lives, process_in, call_of}
use Rattle.mpm_procs.specs.Settings.{user_value, with_user, multi_value, with_multi}
use Rattle.mpm_procs.specs.declared.process.Process.{Process}
use Rattle.mpm_procs.proofs.MapLaws.{lives_changed}
use Rattle.mpm_consoles.specs.Modes.{does_echo}
use Rattle.mpm_dispatcher.specs.Dispatch.{with_completed}
use Rattle.mpm_kernel.specs.Kernel.{Kernel, with_changed, call_begun, dispatched}
use Rattle.mpm_kernel.specs.Called.{Called, valued, low_parameter}
use Rattle.mpm_kernel.specs.Calls.{call_done, version}
use Rattle.mpm_render.specs.Outputs.{Output}
use Rattle.mpm_xdos.specs.Procedures.{entered, entry_reply}
use Rattle.mpm_output.specs.Writing.{spoken}
use Rattle.mpm_output.proofs.WritingLaws.{spoken_nil}
use Rattle.mpm_system.specs.declared.system.System.{System}
use Rattle.mpm_system.specs.Whole.{SystemChange, IsWhole, silent}
use Rattle.mpm_system.specs.Calling.{Served, served_by, calling}
use Rattle.mpm_system.specs.Taking.{asked, keeping}
use Rattle.mpm_system.specs.Saying.{string_of}
use Rattle.mpm_system.specs.Answering.{popped, answering_call}
use Rattle.mpm_system.specs.OwnCalls.{is_own}
use Rattle.mpm_system.proofs.SayingLaws.{says_nothing}
use Rattle.mpm_system.proofs.WholeLaws.{keeps_call}
use Rattle.mpm_system.proofs.OwnCallLaws.{own_each}
use Rattle.mpm_machine.specs.FileCalls.{is_of_files}
use Rattle.mpm_machine.specs.Serving.{served, served_to_all, telling, after_echo, is_entry, with_entry, reply_at_entry, fulfilling, completing, outcome_of, gate_step}
use Rattle.mpm_machine.proofs.WholeLaws.{same_regs}

-- function by function
pub no_file_function : (f : ℕ) → is_own f ≡ true → is_of_files f ≡ false
unfolding is_of_files function_of direct_of
no_file_function f is = own_each (λ n. is_of_files n ≡ false) f is refl refl refl refl refl refl refl

another : (f other : ℕ) → is_own f ≡ true → is_own other ≡ false → f ≢ other
another f other is off = λ e. false≢true (sym off ∙ sym (ap is_own e) ∙ is)

own_echoes : (f : ℕ) → is_own f ≡ true → does_echo f ≡ false
own_echoes f is = own_each (λ n. does_echo n ≡ false) f is refl refl refl refl refl refl refl

-- the kernel changes nothing but its process, and answers a value

pub record OwnRow (call : Taken) (p : ℕ) (kernel : Kernel) : Type 0 where
  pub changed : Process
  pub value : ℕ
  pub is : call_done call p (process_in kernel.dispatcher.procs p) kernel ≡ valued value (with_changed kernel p changed)
  pub home : changed.seg ≡ (process_in kernel.dispatcher.procs p).seg

unchanged : (value p : ℕ) (kernel : Kernel) → valued value kernel ≡ valued value (with_changed kernel p (process_in kernel.dispatcher.procs p))
unchanged value p kernel = ap (valued value) (sym (same_regs kernel p))

pub own_row : (call : Taken) (p : ℕ) (kernel : Kernel) → is_own call.function ≡ true → OwnRow call p kernel
unfolding call_done
own_row call p kernel is =
    let process = process_in kernel.dispatcher.procs p in
    own_each (λ f. OwnRow (record call { function = f }) p kernel) call.function is
    (record { changed = process; value = version; is = unchanged version p kernel; home = refl })
    (record { changed = process; value = process.drive; is = unchanged process.drive p kernel; home = refl })
    (record { changed = record process { dma = call.word }; value = 0; is = refl; home = refl })
    (record { changed = with_user (low_parameter call) process; value = user_value (low_parameter call) process; is = refl; home = refl })
    (record { changed = with_multi (low_parameter call) process; value = multi_value (low_parameter call); is = refl; home = refl })
    (record { changed = record process { error_mode = low_parameter call }; value = 0; is = refl; home = refl })
    (record { changed = process; value = version; is = unchanged version p kernel; home = refl })

begun_quietly : (b : Bool) (kernel : Kernel) → b ≡ false → kernel.dispatcher.completed ≡ [] → call_begun b kernel ≡ kernel
begun_quietly b kernel off nobody =
    ap (λ (echoes : Bool). call_begun echoes kernel) off
    ∙ ap (λ (completed : List ℕ). dispatched (with_completed completed) kernel) (sym nobody)

served_by_kernel : (call : Taken) (p : ℕ) (system : System) → is_own call.function ≡ true → served call p system ≡ calling p system
unfolding served served_to_all
served_by_kernel call p system is =
    own_each (λ f. served (record call { function = f }) p system ≡ calling p system) call.function is refl refl refl refl refl refl refl

calls_own : (call : Taken) (p : ℕ) (system : System) → call_of system.kernel.dispatcher.procs p ≡ call → is_own call.function ≡ true
    → system.kernel.dispatcher.completed ≡ [] → calling p system ≡ served_by (call_done call p (process_in system.kernel.dispatcher.procs p) system.kernel) system
calls_own call p system its is nobody =
    let process = process_in system.kernel.dispatcher.procs p in
    ap (λ (c : Taken). served_by (call_done c p process (call_begun (does_echo c.function) system.kernel)) system) its
    ∙ ap (λ (kernel : Kernel). served_by (call_done call p process kernel) system) (begun_quietly (does_echo call.function) system.kernel (own_echoes call.function is) nobody)

own_served : (call : Taken) (p : ℕ) (system : System) (row : OwnRow call p system.kernel) → call_of system.kernel.dispatcher.procs p ≡ call
    → is_own call.function ≡ true → system.kernel.dispatcher.completed ≡ []
    → served call p system ≡ telling (answering row.value) (record system { kernel = with_changed system.kernel p row.changed })
own_served call p system row its is nobody =
    served_by_kernel call p system is ∙ calls_own call p system its is nobody ∙ ap (λ (c : Called). served_by c system) row.is

-- it writes nothing, and no resident procedure is entered

no_entry : (call : Taken) (value : ℕ) → is_own call.function ≡ true → is_entry call (answering value) ≡ false
no_entry call value is =
    ap (λ (b : Bool). b && value == 0)
    (own_each (λ n. (n == CALL_RESIDENT_SYSTEM_PROCEDURE) ≡ false) call.function is refl refl refl refl refl refl refl)

fulfils_own : (call : Taken) (value p seg : ℕ) (system : System) → is_own call.function ≡ true
    → fulfilling (answering value) call p seg system ≡ answering_call (answering value) call p seg system
unfolding fulfilling with_entry reply_at_entry
fulfils_own call value p seg system is =
    ap (λ (b : Bool). answering_call (if b then entry_reply system.memory (process_in system.kernel.dispatcher.procs p) else (answering value)) call p seg
    (record system { kernel = if b then entered p system.kernel else system.kernel })) (no_entry call value is)

completes_own : (call : Taken) (value p seg : ℕ) (system : System) → is_own call.function ≡ true
    → completing (answering value) call p seg system ≡ silent (answering_call (answering value) call p seg (popped p seg system))
unfolding completing
completes_own call value p seg system is =
    let f = call.function in
    ap (λ (spoke : SystemChange). record spoke { system = fulfilling (answering value) call p seg (popped p seg spoke.system) })
    (says_nothing call (string_of call seg system.memory) p system (record {
      two = another f CONSOLE_OUTPUT is refl;
      four = another f RAW_CONSOLE_OUTPUT is refl;
      nine = another f PRINT_STRING is refl;
      prints = λ e. absurd (another f LIST_OUTPUT is refl e);
      direct = λ e. absurd (another f DIRECT_CONSOLE_IO is refl e);
    }))
    ∙ ap silent (fulfils_own call value p seg (popped p seg system) is)

echoes_nothing_own : (call : Taken) (p : ℕ) (system afterwards : System) → is_own call.function ≡ true
    → after_echo call p system (silent afterwards) ≡ silent afterwards
echoes_nothing_own call p system afterwards is =
    let console = (process_in system.kernel.dispatcher.procs p).console in
    ap (λ (b : Bool). let c : SystemChange = record { system = afterwards; emitted = spoken console (if b then system.kernel.echo else []) } in c) (own_echoes call.function is)
    ∙ ap (λ (emitted : List Output). let c : SystemChange = record { system = afterwards; emitted = emitted } in c) (spoken_nil console)

-- so its gate step is

pub asks_own : (p seg : ℕ) (system : System) → is_own (process_in system.kernel.dispatcher.procs p).regs.c ≡ true → is_own (asked p seg system).function ≡ true
unfolding asked Rattle.mpm_gate.specs.Calls.taken_call
asks_own p seg system is = is

pub asked_function : (p seg : ℕ) (system : System) → (process_in system.kernel.dispatcher.procs p).regs.c ≡ (asked p seg system).function
unfolding asked Rattle.mpm_gate.specs.Calls.taken_call
asked_function p seg system = refl

pub asked_word : (p seg : ℕ) (system : System)
    → word_of (process_in system.kernel.dispatcher.procs p).regs.e (process_in system.kernel.dispatcher.procs p).regs.d ≡ (asked p seg system).word
unfolding asked Rattle.mpm_gate.specs.Calls.taken_call
asked_word p seg system = refl

still_nobody : (p : ℕ) (call : Taken) (system : System) → system.kernel.dispatcher.completed ≡ [] → (keeping p call system).kernel.dispatcher.completed ≡ []
unfolding keeping
still_nobody p call system nobody = nobody

-- as it is changed
abbrev pub own_changed : ℕ → Process → System → System
own_changed p changed system = record system { kernel = with_changed system.kernel p changed }

pub own_at_gate : (p seg : ℕ) (system : System) (row : OwnRow (asked p seg system) p (keeping p (asked p seg system) system).kernel) → IsWhole system
    → Lives system.kernel.dispatcher.procs p → is_own (process_in system.kernel.dispatcher.procs p).regs.c ≡ true → system.kernel.dispatcher.completed ≡ []
    → gate_step p seg system
    ≡ silent (answering_call (answering row.value) (asked p seg system) p seg (popped p seg (own_changed p row.changed (keeping p (asked p seg system) system))))
unfolding gate_step
own_at_gate p seg system row w h c nobody =
    let call = asked p seg system in
    let kept = keeping p call system in
    let is = asks_own p seg system c in
    let done = own_changed p row.changed kept in
    ap (λ (d : Served). after_echo call p d.system (outcome_of d.outcome d.reply call p seg d.system))
    (own_served call p kept row (keeps_call p call system w h).call is (still_nobody p call system nobody))
    ∙ ap (after_echo call p done) (completes_own call row.value p seg done is)
    ∙ echoes_nothing_own call p done _ is

-- its process lives on

still_lives : (p seg : ℕ) (system : System) → Lives system.kernel.dispatcher.procs p → Lives (popped p seg system).kernel.dispatcher.procs p
unfolding popped
still_lives p seg system h =
    let process = process_in system.kernel.dispatcher.procs p in
    lives_changed system.kernel.dispatcher.procs p p (record process { regs = returned (byte_at system.memory seg) process.regs }) ∙ h

pub lives_popped : (p seg : ℕ) (kept gone : System) → Lives kept.kernel.dispatcher.procs p → gone ≡ popped p seg kept → Lives gone.kernel.dispatcher.procs p
lives_popped p seg kept gone h is =
    let P : System → Type 0 = λ system. Lives system.kernel.dispatcher.procs p in subst P (sym is) (still_lives p seg kept h)
