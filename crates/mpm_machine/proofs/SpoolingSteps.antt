-- The spooler goes on through what a step begins with: what the running process does, or an event; and through the answers to held calls
-- and the ends that are due.
use Rattle.std.proofs.Common.{ℕ, [], ◌≡◌, ◌≢◌, ◌∙◌, ◌==◌, ◌||◌, Bool, true, false, List, ◌∷◌, if◌then◌else◌, Option, Some, None, IfSome, inl, inr, refl, sym, ap, subst, arith}
use Rattle.std.proofs.lemmas.Bool.{and_parts, false≢true, cases_eq, eqb-true}
use Rattle.std.proofs.lemmas.Option.{none-some}
use Rattle.std.specs.List.{range_with_len}
use Rattle.mpm_base.proofs.Choices.{either}
use Rattle.mpm_base.specs.Calls.{Taken, Answer}
use Rattle.mpm_base.specs.Lists.{in_width}
use Rattle.mpm_base.specs.declared.functions.TheConstants.{CHAIN_TO_PROGRAM, OPEN_FILE, ATTACH_LIST}
use Rattle.mpm_dispatcher.specs.Dispatch.{first_completed, IsReady}
use Rattle.mpm_interrupts.specs.Interrupts.{due_taken}
use Rattle.mpm_kernel.proofs.AwaitingEnds.{awaits_happened, awaits_handed_out, awaits_answered, none_handed_out}
use Rattle.mpm_kernel.proofs.DiskLaws.{ready_not_at_disk}
use Rattle.mpm_kernel.proofs.DiskStays.{disk_happened, disk_handed_out}
use Rattle.mpm_kernel.proofs.HomeLaws.{beside_happened, beside_handed_out}
use Rattle.mpm_kernel.proofs.SoundLaws.{runner_lives}
use Rattle.mpm_kernel.specs.Awaiting.{AwaitsIn}
use Rattle.mpm_kernel.specs.Completion.{completion_of}
use Rattle.mpm_kernel.specs.Consoling.{abort_taken}
use Rattle.mpm_kernel.specs.Events.{MayCome, happened, handed_out}
use Rattle.mpm_kernel.specs.Kernel.{Kernel, is_aborted}
use Rattle.mpm_kernel.specs.Waiting.{completion_reply}
use Rattle.mpm_procs.specs.Table.{lives, Lives, process_in, call_of}
use Rattle.mpm_render.specs.Outputs.{Output}
use Rattle.mpm_residents.specs.Natives.{native_in}
use Rattle.mpm_script.specs.declared.event.Event.{Event}
use Rattle.mpm_script.specs.declared.event.Event.TheVariants.{Tick, Key, Ready, Int}
use Rattle.mpm_service.specs.Places.{at_disk}
use Rattle.mpm_spool.specs.SpoolLists.{list_of}
use Rattle.mpm_spool.specs.Spoolers.{Spooler, call_at, next_call, took_at, after}
use Rattle.mpm_spool.specs.declared.table.Row.{Row}
use Rattle.mpm_spool.specs.declared.table.Row.TheVariants.{ReadList, Open, Attach, AskStop, Read, Print, Detach, Close, Delete}
use Rattle.mpm_system.specs.Coming.{unhalted}
use Rattle.mpm_system.specs.Residents.{taking}
use Rattle.mpm_system.specs.Sending.{chains, is_command}
use Rattle.mpm_system.specs.Whole.{SystemChange, IsWhole, silent}
use Rattle.mpm_system.specs.declared.system.System.{System}
use Rattle.mpm_machine.proofs.FinishLaws.{some_first, few_awaited, first_finished, left_completed}
use Rattle.mpm_machine.proofs.PrinterEnds.{prints_happened, prints_handed_out}
use Rattle.mpm_machine.proofs.SendingLaws.{lets_in as lets_command_in}
use Rattle.mpm_machine.proofs.SparedActs.{spares_at_gate, spares_fulfilling, spares_after}
use Rattle.mpm_machine.proofs.SparedParts.{Spares, spares_then, spares_same, spares_itself, spares_kernel, spares_regs, spares_ended, spares_aborted, spares_passed, disk_place, nothing_spoken, nothing_said}
use Rattle.mpm_machine.proofs.SparedResidents.{spares_taking, spares_resided}
use Rattle.mpm_machine.proofs.SpoolingLaws.{Spools, spooling_by, spooling_took}
use Rattle.mpm_machine.proofs.SpoolingRows.{Goes, Leads, HasPrinter, Asks, came_still, takes_at, own_resided, leads_listed, leads_close, waiting_row}
use Rattle.mpm_machine.proofs.WholeLaws.{whole_ended}
use Rattle.mpm_machine.proofs.WholeStepLaws.{whole_unhalted, aborted_lives, due_lives, lives_in_time, whole_abort_taken, whole_dequeued, whole_due, whole_first, whole_first_answered, whole_happened, whole_if_due}
use Rattle.mpm_machine.specs.Due.{due_terminated, ended_if_due, is_due, with_ends}
use Rattle.mpm_machine.specs.Ending.{ended}
use Rattle.mpm_machine.specs.FileCalls.{is_of_files}
use Rattle.mpm_machine.specs.Finishing.{all_answered, all_finished, answered_from, command_let_in, completion_dequeued, finished, finished_or_ended, finishing}
use Rattle.mpm_machine.specs.Interpreting.{sets_or_chains}
use Rattle.mpm_spool.specs.Printed.{printed_by, printed_in}
use Rattle.mpm_machine.specs.Printed.{bytes_to}
use Rattle.mpm_machine.specs.Spooling.{IsAtHome, may_wait, spooler_awaits, opens_or_attaches}
use Rattle.mpm_machine.specs.Step.{acted, acted_by, begun_by, event_come, event_text, gate_before, happened_to, interrupted, key_aborted, running_segment}

-- what goes on as before

pub goes_spared : {Such : List Answer → Type 0} (q : ℕ) (old : System) (change : SystemChange) (outputs : List Output) → Spares q old change → Spools Such q old outputs → Goes Such q change outputs
goes_spared {Such} q old change outputs s i = spooling_by q old change outputs s i

-- what the running process does

goes_acted_by : {Such : List Answer → Type 0} (running seg : Option ℕ) (q : ℕ) (system : System) (outputs : List Output) → IsWhole system → system.kernel.dispatcher.running ≡ running
    → running_segment running system ≡ seg → (i : Spools Such q system outputs) → (running ≡ Some q → is_of_files (next_call (after i.answers)).function ≡ false)
    → Goes Such q (acted_by running seg system) outputs
goes_acted_by {Such} None seg q system outputs w e home i other = i
goes_acted_by {Such} (Some p) None q system outputs w e home i not_files = elim (cases_eq q p) [
  | inl same ↦ subst (λ (r : ℕ). Goes Such q (acted_by (Some r) None system) outputs) same (own_resided q system outputs w (subst (λ (r : ℕ). IsReady system.kernel.dispatcher r) (sym same) (w.sound.runs p e)) i
      (not_files (ap (λ (n : ℕ). Some n) (sym same))))
  | inr other ↦ goes_spared q system _ outputs (spares_resided q (native_in system.residents p) p system w (runner_lives system.kernel p w.sound e) (w.sound.runs p e) other i.home.lives) i
]
goes_acted_by {Such} (Some p) (Some seg) q system outputs w e home i not_files =
    let other : q ≢ p = λ same. none-some seg (sym i.home.resides ∙ ap (λ n. (process_in system.kernel.dispatcher.procs n).seg) same ∙ home) in
    goes_spared q system _ outputs
    (spares_at_gate q (gate_before p seg system) p seg system w (runner_lives system.kernel p w.sound e) (w.sound.runs p e) other i.home.lives i.home.resides) i

goes_acted : {Such : List Answer → Type 0} (q : ℕ) (system : System) (outputs : List Output) → IsWhole system → (i : Spools Such q system outputs)
    → (system.kernel.dispatcher.running ≡ Some q → is_of_files (next_call (after i.answers)).function ≡ false) → Goes Such q (acted system) outputs
unfolding acted
goes_acted {Such} q system outputs w i not_files = goes_acted_by system.kernel.dispatcher.running (running_segment system.kernel.dispatcher.running system) q system outputs w refl refl i not_files

-- an event comes

spares_unhalted : (q : ℕ) (running : Option ℕ) (system : System) → Spares q system (silent (record system { kernel = unhalted running system.kernel }))
spares_unhalted q None system = spares_itself q system
spares_unhalted q (Some p) system = spares_regs q p (record (process_in system.kernel.dispatcher.procs p).regs { halted = false }) system

spares_happened : (q : ℕ) (event : Event) (system : System) → IsWhole system → Spares q system (silent (record system { kernel = happened event system.kernel }))
spares_happened q event system w =
    spares_kernel q system (happened event system.kernel) (beside_happened event q system.kernel) (prints_happened q event system.kernel)
    (disk_place q system.kernel (happened event system.kernel) (disk_happened event system.kernel)) (λ k x. awaits_happened k q event system.kernel w.sound x)

spares_key_aborted : (q : ℕ) (aborts : Option ℕ) (system : System) → IsWhole system → IfSome aborts (λ p. Lives system.kernel.dispatcher.procs p)
    → (process_in system.kernel.dispatcher.procs q).seg ≡ None → Spares q system (silent (key_aborted aborts system))
spares_key_aborted q None system w living home = spares_itself q system
spares_key_aborted q (Some p) system w living home =
    let taken = record system { kernel = abort_taken system.kernel } in
    spares_then q system taken _ (spares_same q system taken refl refl refl refl refl refl (λ x. x)) (spares_aborted q p taken (whole_abort_taken system w) living home)

nothing_by_event : (n : ℕ) (event : Event) (kernel : Kernel) → bytes_to n (event_text event kernel) ≡ []
nothing_by_event n Tick kernel = nothing_said n
nothing_by_event n (Key console byte) kernel = nothing_spoken n console kernel.echo
nothing_by_event n (Ready device byte) kernel = nothing_said n
nothing_by_event n (Int flag) kernel = nothing_said n

spares_event_come : (q : ℕ) (event : Event) (system : System) → MayCome event → IsWhole system → (process_in system.kernel.dispatcher.procs q).seg ≡ None → Spares q system (event_come event system)
unfolding event_come
spares_event_come q event system may w home =
    let before = record system { kernel = unhalted system.kernel.dispatcher.running system.kernel } in
    let later = happened_to event system in
    let first = spares_unhalted q system.kernel.dispatcher.running system in
    let second = spares_happened q event before (whole_unhalted system.kernel.dispatcher.running system w refl) in
    let both = spares_then q system before later first second in
    let all = spares_then q system later (key_aborted later.kernel.aborted later) both
    (spares_key_aborted q later.kernel.aborted later (whole_happened event system before (happened event before.kernel) may w refl refl)
    (aborted_lives event system before (happened event before.kernel) w refl refl) (both.beside.seg ∙ home)) in
    record { beside = all.beside; printer = all.printer; resident = all.resident; place = all.place; pays = all.pays; awaits = all.awaits; nothing = λ n is. nothing_by_event n event later.kernel }

spares_interrupted : (q : ℕ) (event : Event) (system : System) → MayCome event → IsWhole system → (process_in system.kernel.dispatcher.procs q).seg ≡ None → Spares q system (interrupted event system)
unfolding interrupted
spares_interrupted q event system may w home =
    let taken = due_taken system.steps system.interrupts in
    let now = record system { interrupts = taken } in
    spares_after q system now _ (spares_same q system now refl refl refl refl refl refl (λ x. x)) (spares_event_come q event now may (whole_due system taken w refl) home)

pub goes_begun : {Such : List Answer → Type 0} (q : ℕ) (event : Option Event) (system : System) (outputs : List Output) → IfSome event MayCome → IsWhole system → (i : Spools Such q system outputs)
    → (event ≡ None → system.kernel.dispatcher.running ≡ Some q → is_of_files (next_call (after i.answers)).function ≡ false) → Goes Such q (begun_by event system) outputs
goes_begun {Such} q None system outputs may w i not_files = goes_acted q system outputs w i (not_files refl)
goes_begun {Such} q (Some event) system outputs may w i not_files = goes_spared q system _ outputs (spares_interrupted q event system may w i.home.resides) i

-- its held call is completed

-- it awaits nothing more, and nothing of it is at the disk
pub record IsOut (Such : List Answer → Type 0) (q : ℕ) (system : System) (outputs : List Output) (i : Spools Such q system outputs) : Type 0 where
  pub waited : may_wait (after i.answers).row ≡ true
  pub none : AwaitsIn 0 q system.kernel
  pub gone : at_disk system.kernel.disk q ≡ 0

refused_open : (call : Taken) → call.function ≡ OPEN_FILE → (completion_of call).hl ≡ 65535
unfolding completion_of
refused_open call is = subst (λ (f : ℕ). (completion_of (record call { function = f })).hl ≡ 65535) (sym is) refl

refused_attach : (call : Taken) → call.function ≡ ATTACH_LIST → (completion_of call).hl ≡ 65535
unfolding completion_of
refused_attach call is = subst (λ (f : ℕ). (completion_of (record call { function = f })).hl ≡ 65535) (sym is) refl

either_of : (a b : Bool) (P : Type 0) → (a || b) ≡ true → (a ≡ true → P) → (b ≡ true → P) → P
either_of true b P is one other = one refl
either_of false b P is one other = other is

refused : (call : Taken) → opens_or_attaches call.function ≡ true → (completion_of call).hl ≡ 65535
refused call is =
    either_of (call.function == OPEN_FILE) (call.function == ATTACH_LIST) ((completion_of call).hl ≡ 65535) is
    (λ one. refused_open call (eqb-true call.function OPEN_FILE one)) (λ other. refused_attach call (eqb-true call.function ATTACH_LIST other))

-- by its row
finished_leads : (row : Row) (A H : Type 0) (s : Spooler) (reply : Answer) → s.row ≡ row → may_wait row ≡ true → (row ≡ Attach → reply.hl ≡ 65535) → Leads A H (took_at row s reply).row
finished_leads ReadList A H s reply is may hl = leads_listed A H (list_of (in_width 128 reply.bytes)) s is
finished_leads Attach A H s reply is may hl =
    subst (λ (n : ℕ). Leads A H (if n == 0 then record s { row = AskStop } else record s { row = Close; is_unprinted = true }).row) (sym (hl refl)) (leads_close A H)
finished_leads Open A H s reply is may hl = absurd (false≢true may)
finished_leads AskStop A H s reply is may hl = absurd (false≢true may)
finished_leads Read A H s reply is may hl = absurd (false≢true may)
finished_leads Print A H s reply is may hl = absurd (false≢true may)
finished_leads Detach A H s reply is may hl = absurd (false≢true may)
finished_leads Close A H s reply is may hl = absurd (false≢true may)
finished_leads Delete A H s reply is may hl = absurd (false≢true may)

own_finished : {Such : List Answer → Type 0} (q : ℕ) (system : System) (outputs : List Output) (i : Spools Such q system outputs) → IsOut Such q system outputs i
    → Spools Such q (taking (completion_reply system.kernel q) q system) outputs
unfolding next_call
own_finished {Such} q system outputs i out =
    let s = after i.answers in
    let reply = completion_reply system.kernel q in
    let bytes = printed_by s.row (call_at s.row s) (printed_in i.answers) in
    spooling_took q i.answers reply system outputs
    (takes_at q i.answers reply s.row system outputs refl i.acts i.home out.none out.gone
    (i.stays i.answers reply (waiting_row s.row s out.waited) i.so) i.stays
    (came_still s.row s reply (printed_in i.answers) (bytes_to 0 outputs) refl (λ is. false≢true (sym (ap may_wait is) ∙ out.waited)) i.came)
    (finished_leads s.row (Asks q system.kernel) (HasPrinter q bytes system.kernel outputs) s reply refl out.waited (λ is. refused (call_of system.kernel.dispatcher.procs q) (i.asks is))))

goes_finished : {Such : List Answer → Type 0} (seg : Option ℕ) (q p : ℕ) (system : System) (outputs : List Output) (i : Spools Such q system outputs) → (q ≡ p → IsOut Such q system outputs i)
    → Spools Such q (finished seg p system) outputs
goes_finished {Such} (Some seg) q p system outputs i out = goes_spared q system _ outputs (spares_fulfilling q (completion_reply system.kernel p) (call_of system.kernel.dispatcher.procs p) p seg system) i
goes_finished {Such} None q p system outputs i out = elim (cases_eq q p) [
  | inl same ↦ subst (λ (r : ℕ). Spools Such q (finished None r system) outputs) same (own_finished q system outputs i (out same))
  | inr other ↦ goes_spared q system _ outputs (spares_taking q (completion_reply system.kernel p) p system other) i
]

spares_dequeued : (q : ℕ) (system : System) → Spares q system (silent (completion_dequeued system))
spares_dequeued q system =
    spares_kernel q system (handed_out system.kernel) (beside_handed_out q system.kernel) (prints_handed_out q system.kernel)
    (disk_place q system.kernel (handed_out system.kernel) (disk_handed_out system.kernel)) (λ k x. awaits_handed_out k q system.kernel x)

-- who is handed out is ready, and so not at the disk

handed_gone : {Such : List Answer → Type 0} (q : ℕ) (system : System) (outputs : List Output) → IsWhole system → (i : Spools Such q system outputs) → first_completed system.kernel.dispatcher.completed ≡ Some q
    → at_disk system.kernel.disk q ≡ 0
handed_gone {Such} q system outputs w i first =
    let few = few_awaited (may_wait (after i.answers).row) (at_disk system.kernel.disk q) (omega (arith, w.sound.once q)) in
    ready_not_at_disk system.kernel q w.sound (i.awaits.at_once (omega (arith, few, some_first q system.kernel.dispatcher.completed first)))

handed_in : (b : Bool) (q : ℕ) (system : System) → first_completed system.kernel.dispatcher.completed ≡ Some q → AwaitsIn (if b then 1 else 0) q system.kernel
    → (b ≡ true) × AwaitsIn 0 q (handed_out system.kernel)
handed_in true q system first a = (refl, awaits_answered q system.kernel first a)
handed_in false q system first a = absurd (none_handed_out q q system.kernel first a refl)

-- so it is once it is handed out, and once a command was let in
handed_behind : {Such : List Answer → Type 0} (q p : ℕ) (system : System) (outputs : List Output) → IsWhole system → (i : Spools Such q system outputs) (now : System) (b : Spools Such q now outputs) → b.answers ≡ i.answers
    → first_completed system.kernel.dispatcher.completed ≡ Some p → Spares q (completion_dequeued system) (silent now) → q ≡ p → IsOut Such q now outputs b
handed_behind {Such} q p system outputs w i now b answers first s same =
    let own_first : first_completed system.kernel.dispatcher.completed ≡ Some q = first ∙ ap (λ (n : ℕ). Some n) (sym same) in
    let gone = handed_gone q system outputs w i own_first in
    let own = handed_in (may_wait (after i.answers).row) q system own_first (subst (λ (places : ℕ). AwaitsIn (spooler_awaits places (after i.answers).row) q system.kernel) gone i.awaits) in
    record {
      waited = ap (λ (l : List Answer). may_wait (after l).row) answers ∙ own.0;
      none = s.awaits 0 own.1;
      gone = s.place ∙ ap (λ disk. at_disk disk q) (disk_handed_out system.kernel) ∙ gone;
    }

goes_finishing : {Such : List Answer → Type 0} (q : ℕ) (ps : List ℕ) (system : System) (outputs : List Output) → IsWhole system → system.kernel.dispatcher.completed ≡ ps → Spools Such q system outputs
    → Spools Such q (finishing ps system) outputs
unfolding finishing spooling_by
goes_finishing {Such} q [] system outputs w is i = i
goes_finishing {Such} q (p ∷ ps) system outputs w is i =
    let out = completion_dequeued system in
    let behind = spooling_by q system (silent out) outputs (spares_dequeued q system) i in
    let first = ap first_completed is in
    goes_finishing q ps (first_finished p system) outputs (whole_first p system w first) (left_completed p ps system is)
    (goes_finished (process_in system.kernel.dispatcher.procs p).seg q p out outputs behind (handed_behind q p system outputs w i out behind refl first (spares_itself q out)))

pub goes_all_finished : {Such : List Answer → Type 0} (q : ℕ) (system : System) (outputs : List Output) → IsWhole system → Spools Such q system outputs → Spools Such q (all_finished system) outputs
goes_all_finished {Such} q system outputs w i = goes_finishing q system.kernel.dispatcher.completed system outputs w refl i

spares_let_in : (q p : ℕ) (system : System) → IsWhole system → Spares q system (silent (command_let_in p system))
spares_let_in q p system w =
    either (λ (k : Kernel). Spares q system (silent (record system { kernel = k }))) (is_command p system.kernel) _ system.kernel (λ _. spares_passed q p system w) (λ _. spares_itself q system)

not_chaining : (q p : ℕ) (system : System) → IsAtHome q system → chains p system.kernel ≡ true → q ≢ p
not_chaining q p system h e = λ is.
    let chain : (call_of system.kernel.dispatcher.procs q).function ≡ CHAIN_TO_PROGRAM =
    ap (λ n. (call_of system.kernel.dispatcher.procs n).function) is ∙ eqb-true (call_of system.kernel.dispatcher.procs p).function CHAIN_TO_PROGRAM e in
    false≢true (sym h.calls ∙ ap sets_or_chains chain)

goes_finished_or_ended : {Such : List Answer → Type 0} (q p : ℕ) (system : System) (outputs : List Output) → IsWhole system → Lives system.kernel.dispatcher.procs p → (i : Spools Such q system outputs)
    → (q ≡ p → IsOut Such q system outputs i) → Spools Such q (finished_or_ended p system) outputs
goes_finished_or_ended {Such} q p system outputs w h i out =
    either (λ (s : System). Spools Such q s outputs) (chains p system.kernel) _ _
    (λ chain. goes_spared q system (silent (ended p system)) outputs (spares_ended q p system w h (not_chaining q p system i.home chain)) i)
    (λ _. goes_finished (process_in system.kernel.dispatcher.procs p).seg q p system outputs i out)

goes_from : {Such : List Answer → Type 0} (q : ℕ) (first : Option ℕ) (system : System) (outputs : List Output) → IsWhole system → first_completed system.kernel.dispatcher.completed ≡ first → Spools Such q system outputs
    → Spools Such q (answered_from first system) outputs
unfolding answered_from spooling_by
goes_from {Such} q None system outputs w is i = i
goes_from {Such} q (Some p) system outputs w is i =
    let out = completion_dequeued system in
    let whole = whole_dequeued system w in
    let now = command_let_in p out in
    let let_it = spares_let_in q p out whole in
    let behind = spooling_by q out (silent now) outputs let_it (spooling_by q system (silent out) outputs (spares_dequeued q system) i) in
    goes_all_finished q (finished_or_ended p now) outputs (whole_first_answered p system w is)
    (goes_finished_or_ended q p now outputs (lets_command_in p out whole).whole (lives_in_time p system w is) behind
    (handed_behind q p system outputs w i now behind refl is let_it))

pub goes_all_answered : {Such : List Answer → Type 0} (q : ℕ) (system : System) (outputs : List Output) → IsWhole system → Spools Such q system outputs → Spools Such q (all_answered system) outputs
goes_all_answered {Such} q system outputs w i = goes_from q (first_completed system.kernel.dispatcher.completed) system outputs w refl i

-- the ends that are due come

not_due : (q p : ℕ) (system : System) → IsAtHome q system → is_due system.kernel p ≡ true → q ≢ p
not_due q p system h due = λ is.
    let aborted = (and_parts (is_aborted system.kernel.dispatcher.procs p) _ due).0 in
    let put_off : (process_in system.kernel.dispatcher.procs p).abort_due ≡ true = (and_parts (lives system.kernel.dispatcher.procs p) _ aborted).1 in
    false≢true (sym h.goes_on ∙ ap (λ n. (process_in system.kernel.dispatcher.procs n).abort_due) is ∙ put_off)

goes_if_due : {Such : List Answer → Type 0} (q p : ℕ) (system : System) (outputs : List Output) → IsWhole system → Spools Such q system outputs → Spools Such q (ended_if_due p system) outputs
unfolding ended_if_due
goes_if_due {Such} q p system outputs w i =
    either (λ (s : System). Spools Such q s outputs) (is_due system.kernel p) _ _
    (λ due.
    let living = due_lives system.kernel p due in
    goes_all_finished q (ended p system) outputs (whole_ended p system w living)
    (goes_spared q system (silent (ended p system)) outputs (spares_ended q p system w living (not_due q p system i.home due)) i))
    (λ _. i)

goes_due_terminated : {Such : List Answer → Type 0} (q : ℕ) (ps : List ℕ) (system : System) (outputs : List Output) → IsWhole system → Spools Such q system outputs → Spools Such q (due_terminated ps system) outputs
unfolding due_terminated
goes_due_terminated {Such} q [] system outputs w i = i
goes_due_terminated {Such} q (p ∷ ps) system outputs w i =
    goes_due_terminated q ps (ended_if_due p system) outputs (whole_if_due p system w) (goes_if_due q p system outputs w i)

pub goes_with_ends : {Such : List Answer → Type 0} (q : ℕ) (system : System) (outputs : List Output) → IsWhole system → Spools Such q system outputs → Spools Such q (with_ends system) outputs
unfolding with_ends
goes_with_ends {Such} q system outputs w i =
    let done = due_terminated (range_with_len 0 32) system in
    goes_spared q done (silent (with_ends system)) outputs (spares_same q done _ refl refl refl refl refl refl (λ x. x)) (goes_due_terminated q (range_with_len 0 32) system outputs w i)
