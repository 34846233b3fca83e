-- A command that is sent leaves a whole system, and its process keeps its call's function and parameter.
use Rattle.std.proofs.Common.{◌≡◌, ◌≢◌, ◌∙◌, ℕ, ◌<◌, ◌≤◌, ◌==◌, Bool, true, not, List, Some, length, refl, sym, ap, subst, arith}
use Rattle.std.specs.Prelude.{filter, nat_lt}
use Rattle.std.proofs.lemmas.Bool.{and_parts}
use Rattle.std.proofs.lemmas.Bool.Decides.{nat_tests}
use Rattle.mpm_base.specs.Lists.{in_width}
use Rattle.mpm_base.specs.Calls.{Taken, Answer}
use Rattle.mpm_base.specs.declared.call.Outcome.{Outcome}
use Rattle.mpm_base.specs.declared.call.Outcome.TheVariants.{Done, Held, Retry, Ended}
use Rattle.mpm_base.specs.declared.functions.TheConstants.{SEND_CLI_COMMAND, CHAIN_TO_PROGRAM, PRINT_STRING}
use Rattle.mpm_base.proofs.Choices.{either}
use Rattle.mpm_procs.specs.Table.{Table, Lives, lives, process_in, call_of}
use Rattle.mpm_dispatcher.specs.Dispatch.{IsReady}
use Rattle.mpm_kernel.specs.Kernel.{Kernel}
use Rattle.mpm_kernel.specs.Called.{Called}
use Rattle.mpm_kernel.specs.Calls.{called}
use Rattle.mpm_kernel.specs.Ending.{dropped_out}
use Rattle.mpm_kernel.specs.Procedures.{outside}
use Rattle.mpm_kernel.specs.Completion.{completion_of}
use Rattle.mpm_kernel.specs.Consoling.{given}
use Rattle.mpm_kernel.specs.Waiting.{completion_reply}
use Rattle.mpm_kernel.proofs.SoundLaws.{live_kept}
use Rattle.mpm_kernel.proofs.CompletingLaws.{completes_one, end_keeps_others}
use Rattle.mpm_kernel.proofs.HomeLaws.{homes_stay}
use Rattle.mpm_kernel.proofs.GivingLaws.{sound_gave, procs_gave, completed_gave}
use Rattle.mpm_system.specs.declared.system.System.{System}
use Rattle.mpm_system.specs.Whole.{IsWhole}
use Rattle.mpm_system.specs.Calling.{with_kept, asking, calling, served_by}
use Rattle.mpm_system.specs.Sending.{chained, framed, renamed, console_sent, may_pass, passed, passed_after, sent, may_send, sending, chaining, is_command, let_in}
use Rattle.mpm_system.proofs.WholeLaws.{keeps_asked, whole_calling, whole_kernel}
use Rattle.mpm_machine.proofs.WholeLaws.{StaysServed, stays_as_served}

-- a console that passes to the interpreter leaves a whole system, and every process as it is
gave_whole : (old : System) (console p q : ℕ) → IsWhole old → console < length old.kernel.units.consoles → Lives old.kernel.dispatcher.procs q
    → IsWhole (record old { kernel = given console (Some p) (Some q) old.kernel })
gave_whole old console p q w below living =
    let gave = given console (Some p) (Some q) old.kernel in
    let same : gave.dispatcher.procs ≡ old.kernel.dispatcher.procs = procs_gave console (Some p) (Some q) old.kernel in
    whole_kernel old gave w (sound_gave console (Some p) (Some q) old.kernel w.sound below living)
    (live_kept old.kernel gave (completed_gave console (Some p) (Some q) old.kernel) (λ r there. ap (λ procs. lives procs r) same ∙ there) w.live)
    (homes_stay old.kernel gave same)

pub whole_passed : (p : ℕ) (system : System) → IsWhole system → IsWhole (record system { kernel = passed p system.kernel })
whole_passed p system w =
    let console = console_sent p system.kernel in
    either (λ (k : Kernel). IsWhole (record system { kernel = k })) (may_pass p system.kernel) _ system.kernel
    (λ may.
    let parts = and_parts (nat_lt console (length system.kernel.units.consoles)) (lives system.kernel.dispatcher.procs 0) may in
    gave_whole system console p 0 w (grind (arith, nat_tests, parts.0)) parts.1)
    (λ _. w)

pub procs_passed : (p : ℕ) (kernel : Kernel) → (passed p kernel).dispatcher.procs ≡ kernel.dispatcher.procs
procs_passed p kernel =
    either (λ (k : Kernel). k.dispatcher.procs ≡ kernel.dispatcher.procs) (may_pass p kernel) _ kernel
    (λ _. procs_gave (console_sent p kernel) (Some p) (Some 0) kernel) (λ _. refl)

pub completed_passed : (p : ℕ) (kernel : Kernel) → (passed p kernel).dispatcher.completed ≡ kernel.dispatcher.completed
completed_passed p kernel =
    either (λ (k : Kernel). k.dispatcher.completed ≡ kernel.dispatcher.completed) (may_pass p kernel) _ kernel
    (λ _. completed_gave (console_sent p kernel) (Some p) (Some 0) kernel) (λ _. refl)

whole_after : (outcome : Outcome) (reply : Answer) (p : ℕ) (system : System) → IsWhole system
    → IsWhole (record system { kernel = passed_after outcome reply p system.kernel })
whole_after Done reply p system w =
    either (λ (k : Kernel). IsWhole (record system { kernel = k })) (reply.hl == 0) _ system.kernel (λ _. whole_passed p system w) (λ _. w)
whole_after Held reply p system w = w
whole_after Retry reply p system w = w
whole_after Ended reply p system w = w

pub procs_after : (outcome : Outcome) (reply : Answer) (p : ℕ) (kernel : Kernel) → (passed_after outcome reply p kernel).dispatcher.procs ≡ kernel.dispatcher.procs
procs_after Done reply p kernel =
    either (λ (k : Kernel). k.dispatcher.procs ≡ kernel.dispatcher.procs) (reply.hl == 0) _ kernel (λ _. procs_passed p kernel) (λ _. refl)
procs_after Held reply p kernel = refl
procs_after Retry reply p kernel = refl
procs_after Ended reply p kernel = refl

-- a message is sent
pub whole_sent : (function : ℕ) (message : List ℕ) (p : ℕ) (system : System) → IsWhole system → Lives system.kernel.dispatcher.procs p → IsReady system.kernel.dispatcher p
    → function ≡ (call_of system.kernel.dispatcher.procs p).function → function ≢ PRINT_STRING
    → StaysServed p system (served_by (sent function message p system.kernel) system).system
unfolding sent
whole_sent function message p system w h ready same other =
    let frame = framed message (call_of system.kernel.dispatcher.procs p) in
    let asked = keeps_asked p frame system w h in
    let done = whole_calling p (asking p frame system) asked.whole asked.lives (asked.ready ready) in
    let result = calling p (asking p frame system) in
    let own = record (call_of result.system.kernel.dispatcher.procs p) { function = function } in
    let named = keeps_asked p own result.system done.whole done.lives in
    let kept = asking p own result.system in
    let procs = procs_after result.outcome result.reply p kept.kernel in
    let is : call_of (passed_after result.outcome result.reply p kept.kernel).dispatcher.procs p ≡ record frame { function = function } =
    ap (λ (t : Table). call_of t p) procs ∙ named.call ∙ ap (λ (c : Taken). record c { function = function }) (done.call ∙ asked.call) in
    record {
      whole = whole_after result.outcome result.reply p kept named.whole;
      lives = ap (λ (t : Table). lives t p) procs ∙ named.lives;
      function = ap (λ (c : Taken). c.function) is ∙ same;
      word = ap (λ (c : Taken). c.word) is;
      text = λ prints. absurd (other (same ∙ prints));
    }

pub whole_sending : (interprets : Bool) (p : ℕ) (system : System) → IsWhole system → Lives system.kernel.dispatcher.procs p → IsReady system.kernel.dispatcher p
    → (call_of system.kernel.dispatcher.procs p).function ≡ SEND_CLI_COMMAND
    → StaysServed p system (served_by (sending interprets p system.kernel) system).system
unfolding sending
whole_sending interprets p system w h ready is =
    let call = call_of system.kernel.dispatcher.procs p in
    either (λ (c : Called). StaysServed p system (served_by c system).system) (may_send interprets call system.kernel) _ _
    (λ _. whole_sent SEND_CLI_COMMAND (in_width 130 call.bytes) p system w h ready (sym is) (λ e. absurd (omega (arith, e))))
    (λ _. stays_as_served p system system (record { whole = w; lives = h; call = refl }))

pub whole_chaining : (interprets : Bool) (p : ℕ) (system : System) → IsWhole system → Lives system.kernel.dispatcher.procs p → IsReady system.kernel.dispatcher p
    → (call_of system.kernel.dispatcher.procs p).function ≡ CHAIN_TO_PROGRAM
    → StaysServed p system (served_by (chaining interprets p system.kernel) system).system
unfolding chaining
whole_chaining interprets p system w h ready is =
    let message = chained (process_in system.kernel.dispatcher.procs p) (call_of system.kernel.dispatcher.procs p).bytes in
    either (λ (c : Called). StaysServed p system (served_by c system).system) interprets _ _
    (λ _. whole_sent CHAIN_TO_PROGRAM message p system w h ready (sym is) (λ e. absurd (omega (arith, e))))
    (λ _. stays_as_served p system system (record { whole = w; lives = h; call = refl }))

-- it completes one held call at most

completed_after : (outcome : Outcome) (reply : Answer) (p : ℕ) (kernel : Kernel) → (passed_after outcome reply p kernel).dispatcher.completed ≡ kernel.dispatcher.completed
completed_after Done reply p kernel =
    either (λ (k : Kernel). k.dispatcher.completed ≡ kernel.dispatcher.completed) (reply.hl == 0) _ kernel (λ _. completed_passed p kernel) (λ _. refl)
completed_after Held reply p kernel = refl
completed_after Retry reply p kernel = refl
completed_after Ended reply p kernel = refl

sends_one : (function : ℕ) (message : List ℕ) (p : ℕ) (kernel : Kernel) → length (sent function message p kernel).kernel.dispatcher.completed ≤ 1
unfolding sent
sends_one function message p kernel =
    let asked = with_kept p (framed message (call_of kernel.dispatcher.procs p)) kernel in
    let done = called p asked in
    omega (arith, ap (λ (ps : List ℕ). length ps) (completed_after done.outcome done.reply p (renamed function p done.kernel)), completes_one p asked)

-- so a process that ends by function 47 forgets nobody else's that this completed
pub chain_forgets_none : (p : ℕ) (system : System) → IsWhole system → Lives system.kernel.dispatcher.procs p → IsReady system.kernel.dispatcher p
    → (call_of system.kernel.dispatcher.procs p).function ≡ CHAIN_TO_PROGRAM → let done = (chaining true p system.kernel).kernel in
    (outside p (dropped_out p done)).dispatcher.completed ≡ filter (λ q. not (q == p)) done.dispatcher.completed
unfolding chaining
chain_forgets_none p system w h ready is =
    let message = chained (process_in system.kernel.dispatcher.procs p) (call_of system.kernel.dispatcher.procs p).bytes in
    end_keeps_others p (sent CHAIN_TO_PROGRAM message p system.kernel).kernel
    (whole_sent CHAIN_TO_PROGRAM message p system w h ready (sym is) (λ e. absurd (omega (arith, e)))).whole.live
    (sends_one CHAIN_TO_PROGRAM message p system.kernel)

-- a command that was held goes in, as its call is completed: the process lives, and its answer is the same
pub record LetsIn (old new : System) : Type 0 where
  pub whole : IsWhole new
  pub procs : new.kernel.dispatcher.procs ≡ old.kernel.dispatcher.procs
  pub completed : new.kernel.dispatcher.completed ≡ old.kernel.dispatcher.completed

pub lets_in : (p : ℕ) (system : System) → IsWhole system → LetsIn system (record system { kernel = let_in p system.kernel })
lets_in p system w =
    either (λ (k : Kernel). LetsIn system (record system { kernel = k })) (is_command p system.kernel) _ system.kernel
    (λ _. record { whole = whole_passed p system w; procs = procs_passed p system.kernel; completed = completed_passed p system.kernel })
    (λ _. record { whole = w; procs = refl; completed = refl })

pub lives_let_in : (p : ℕ) (old new : System) → LetsIn old new → Lives old.kernel.dispatcher.procs p → Lives new.kernel.dispatcher.procs p
lives_let_in p old new l h = ap (λ (t : Table). lives t p) l.procs ∙ h

pub reply_let_in : (p : ℕ) (old new : System) → LetsIn old new → completion_reply new.kernel p ≡ completion_reply old.kernel p
reply_let_in p old new l = ap (λ (t : Table). completion_of (call_of t p)) l.procs

pub was_let_in : (p : ℕ) (old new : System) → IsWhole old → new ≡ record old { kernel = let_in p old.kernel } → LetsIn old new
was_let_in p old new w is = subst (LetsIn old) (sym is) (lets_in p old w)
