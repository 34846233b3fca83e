-- The spooler takes its own step: in each row it goes on, and what it prints comes to its printer.
use Rattle.std.proofs.Common.{ℕ, [], ◌≡◌, ◌∙◌, ◌<◌, ◌+◌, ◌%◌, ◌==◌, ◌||◌, ◌&&◌, not, Bool, true, false, List, ◌∷◌, ◌++◌, length, reverse, if◌then◌else◌, Option, Some, None, refl, sym, ap, subst, arith}
use Rattle.std.proofs.lemmas.List.{append-nil, reverse-append}
use Rattle.std.specs.Prelude.{nat_lt, slice_get, slice_index, slice_index_or, drop}
use Rattle.std.proofs.lemmas.Bool.{false≢true, eq-eqb}
use Rattle.std.proofs.lemmas.Bool.Decides.{nat_tests}
use Rattle.mpm_base.proofs.Choices.{either}
use Rattle.mpm_base.specs.Calls.{Taken, Answer, answering, word_at}
use Rattle.mpm_base.specs.declared.call.Outcome.{Outcome as Ended_how}
use Rattle.mpm_base.specs.declared.call.Outcome.TheVariants.{Done, Held, Retry, Ended}
use Rattle.mpm_base.specs.declared.functions.TheConstants.{LIST_OUTPUT}
use Rattle.mpm_consoles.proofs.PlaceLaws.{owner_is}
use Rattle.mpm_consoles.specs.Consoles.{Consoles, owner_of}
use Rattle.mpm_consoles.specs.Handling.{may_attach, attaches, attach_from, unit_attached, listed}
use Rattle.mpm_base.specs.declared.unit.Unit.{Unit}
use Rattle.mpm_base.specs.declared.unit.Unit.TheVariants.{Printer}
use Rattle.mpm_dispatcher.specs.Dispatch.{IsReady}
use Rattle.mpm_kernel.proofs.AwaitingCalls.{awaits_read_at, awaits_unit_left}
use Rattle.mpm_kernel.proofs.AwaitingEnds.{AwaitsAfter, own_read}
use Rattle.mpm_kernel.proofs.HomeLaws.{beside_called}
use Rattle.mpm_kernel.proofs.InputLaws.{owns_attached}
use Rattle.mpm_kernel.proofs.SoundLaws.{sound_begun}
use Rattle.mpm_kernel.specs.Awaiting.{Awaits, AwaitsIn}
use Rattle.mpm_ready.proofs.TableLaws.{table_removed}
use Rattle.mpm_ready.specs.Tables.{removed}
use Rattle.mpm_kernel.specs.Called.{Called, done, valued, failure_code}
use Rattle.mpm_kernel.specs.Calls.{called, call_done, does_echo}
use Rattle.mpm_kernel.specs.Consoling.{attached, attaching, retried, unit_left, printer_called, unit_called}
use Rattle.mpm_kernel.specs.Kernel.{Kernel, IsSoundKernel, call_begun}
use Rattle.mpm_kernel.specs.Queueing.{pointed, read_at, was_read, blocked_or_refused}
use Rattle.mpm_queues.specs.Handling.{read_outcome}
use Rattle.mpm_queues.specs.declared.queues.QueueOutcome.{QueueOutcome}
use Rattle.mpm_queues.specs.declared.queues.QueueOutcome.TheVariants.{Done as Passed, NotNow}
use Rattle.mpm_base.specs.Lists.{in_width}
use Rattle.mpm_output.specs.Writing.{spoken}
use Rattle.mpm_port.specs.Texts.{Begins}
use Rattle.mpm_procs.proofs.MapLaws.{lives_below, process_after, call_changed}
use Rattle.mpm_procs.specs.Table.{process_in, call_of}
use Rattle.mpm_procs.specs.declared.process.Process.{Process}
use Rattle.mpm_render.specs.Outputs.{Output, said}
use Rattle.mpm_residents.specs.Natives.{native_in}
use Rattle.mpm_residents.specs.declared.cli.act.Act.TheVariants.{Ask}
use Rattle.mpm_residents.specs.declared.native.Native.{Native}
use Rattle.mpm_residents.specs.declared.native.Native.TheVariants.{Spool}
use Rattle.mpm_service.specs.Places.{at_disk}
use Rattle.mpm_kernel.proofs.DiskLaws.{ready_not_at_disk}
use Rattle.mpm_kernel.proofs.DiskStays.{disk_called}
use Rattle.mpm_spool.specs.SpoolLists.{list_of}
use Rattle.mpm_spool.specs.declared.list.SpoolItem.{SpoolItem}
use Rattle.mpm_spool.specs.Spoolers.{Spooler, call_at, next_call, took, took_at, after, begun_with, begun_next, with_list, row_at}
use Rattle.mpm_spool.specs.declared.table.Row.{Row}
use Rattle.mpm_spool.specs.declared.table.Row.TheVariants.{ReadList, Open, Attach, AskStop, Read, Print, Detach, Close, Delete}
use Rattle.mpm_system.proofs.WholeLaws.{keeps_asked}
use Rattle.mpm_system.specs.Calling.{Served, asking, calling}
use Rattle.mpm_system.specs.Residents.{tells, telling_step}
use Rattle.mpm_system.specs.Saying.{said_by, call_text, echo_of}
use Rattle.mpm_kernel.specs.Columns.{column_of}
use Rattle.mpm_system.specs.Whole.{SystemChange, IsWhole, speaking}
use Rattle.mpm_system.specs.declared.system.System.{System}
use Rattle.mpm_machine.proofs.OpeningLaws.{begun_has_no_file}
use Rattle.mpm_spool.proofs.PrintedLaws.{nothing_at_attach}
use Rattle.mpm_machine.proofs.PrintingLaws.{listed_has_no_file}
use Rattle.mpm_machine.proofs.PrinterCalls.{prints_read_at}
use Rattle.mpm_machine.proofs.SparedParts.{Spares, spares_spoke, bytes_both, nothing_spoken}
use Rattle.mpm_machine.proofs.SpoolingLaws.{Stays, Spools, home_by, includes_first, includes_still, Takes, spooling_took}
use Rattle.mpm_machine.specs.FileCalls.{is_of_files}
use Rattle.mpm_machine.specs.Interpreting.{sets_or_chains}
use Rattle.mpm_spool.specs.Printed.{printed_by, printed_in, has_file, has_printer}
use Rattle.mpm_machine.specs.Printed.{bytes_to}
use Rattle.mpm_machine.specs.Residing.{calling_step, native_outcome, native_step, resided}
use Rattle.mpm_machine.specs.Serving.{served_to_all, after_echo}
use Rattle.mpm_machine.specs.Slots.{Settings, settings_of}
use Rattle.mpm_machine.specs.Spooling.{IsAtHome, Includes, may_wait, opens_or_attaches}

-- the row that comes next

-- what it asks for, and what is so where it has the printer
abbrev pub Leads : (Asks Has : Type 0) → Row → Type 0
Leads Asks Has row = (row ≡ Attach → Asks) × (has_printer row ≡ true → Has)

leads_list : (Asks Has : Type 0) → Leads Asks Has ReadList
leads_list Asks Has = (λ e. absurd (cc), λ e. absurd (false≢true e))

pub leads_open : (Asks Has : Type 0) → Leads Asks Has Open
leads_open Asks Has = (λ e. absurd (cc), λ e. absurd (false≢true e))

pub leads_close : (Asks Has : Type 0) → Leads Asks Has Close
leads_close Asks Has = (λ e. absurd (cc), λ e. absurd (false≢true e))

pub leads_delete : (Asks Has : Type 0) → Leads Asks Has Delete
leads_delete Asks Has = (λ e. absurd (cc), λ e. absurd (false≢true e))

pub leads_attach : (Asks Has : Type 0) → Asks → Leads Asks Has Attach
leads_attach Asks Has asks = (λ _. asks, λ e. absurd (false≢true e))

pub leads_stop : (Asks Has : Type 0) → Has → Leads Asks Has AskStop
leads_stop Asks Has has = (λ e. absurd (cc), λ _. has)

leads_read : (Asks Has : Type 0) → Has → Leads Asks Has Read
leads_read Asks Has has = (λ e. absurd (cc), λ _. has)

leads_print : (Asks Has : Type 0) → Has → Leads Asks Has Print
leads_print Asks Has has = (λ e. absurd (cc), λ _. has)

pub leads_detach : (Asks Has : Type 0) → Has → Leads Asks Has Detach
leads_detach Asks Has has = (λ e. absurd (cc), λ _. has)

leads_begun_by : (Asks Has : Type 0) (next : Option SpoolItem) (s : Spooler) → Leads Asks Has (begun_with next s).row
leads_begun_by Asks Has None s = leads_list Asks Has
leads_begun_by Asks Has (Some item) s = leads_open Asks Has

pub leads_begun : (Asks Has : Type 0) (s : Spooler) → Leads Asks Has (begun_next s).row
unfolding begun_next
leads_begun Asks Has s = leads_begun_by Asks Has (slice_get s.left 0) (record s { left = drop 1 s.left })

pub leads_listed : (Asks Has : Type 0) (list : Option (List SpoolItem)) (s : Spooler) → s.row ≡ ReadList → Leads Asks Has (with_list list s).row
leads_listed Asks Has None s is = subst (Leads Asks Has) (sym is) (leads_list Asks Has)
leads_listed Asks Has (Some items) s is = leads_begun Asks Has (record s { left = items })

pub leads_at : (Asks Has : Type 0) (bytes : List ℕ) (place : ℕ) → Has → Leads Asks Has (row_at bytes place)
leads_at Asks Has bytes place has =
    either (Leads Asks Has) (nat_lt place 128) _ AskStop (λ _. either (Leads Asks Has) (slice_index bytes place == 26) Detach Print (λ _. leads_detach Asks Has has) (λ _. leads_print Asks Has has))
    (λ _. leads_stop Asks Has has)

-- what is so after an answer to a row, where what it printed is known

word_is : (answers : List Answer) (reply : Answer) (row : Row) → (after answers).row ≡ row → printed_in (reply ∷ answers) ≡ printed_by row (call_at row (after answers)) (printed_in answers)
unfolding printed_in next_call
word_is answers reply row is = ap (λ (r : Row). printed_by r (call_at r (after answers)) (printed_in answers)) is

after_is : (answers : List Answer) (reply : Answer) (row : Row) → (after answers).row ≡ row → after (reply ∷ answers) ≡ took_at row (after answers) reply
unfolding after took
after_is answers reply row is = ap (λ (r : Row). took_at r (after answers) reply) is

-- in a row that prints nothing, what was printed of the file that it has still stands, and of one that it has opened nothing is printed yet
pub came_still : (row : Row) (s : Spooler) (reply : Answer) (printed whole : List ℕ) → s.row ≡ row → (row ≡ Print → ⊥) → (has_file row ≡ true → Includes (reverse printed) whole)
    → has_file (took_at row s reply).row ≡ true → Includes (reverse (printed_by row (call_at row s) printed)) whole
came_still ReadList s reply printed whole is other came has = absurd (listed_has_no_file (list_of (in_width 128 reply.bytes)) s is has)
came_still Open s reply printed whole is other came has = includes_first [] whole (record { rest = whole; whole_is = refl })
came_still Print s reply printed whole is other came has = absurd (other refl)
came_still Attach s reply printed whole is other came has = came refl
came_still AskStop s reply printed whole is other came has = came refl
came_still Read s reply printed whole is other came has = came refl
came_still Detach s reply printed whole is other came has = came refl
came_still Close s reply printed whole is other came has = came refl
came_still Delete s reply printed whole is other came has = absurd (begun_has_no_file s has)

abbrev pub HasPrinter : ℕ → List ℕ → Kernel → List Output → Type 0
HasPrinter q bytes kernel outputs = (owner_of kernel.units (Printer 0) ≡ Some q) × Begins (reverse bytes) (bytes_to 0 outputs)

abbrev pub Asks : ℕ → Kernel → Type 0
Asks q kernel = opens_or_attaches (call_of kernel.dispatcher.procs q).function ≡ true

pub takes_at : {Such : List Answer → Type 0} (q : ℕ) (answers : List Answer) (reply : Answer) (row : Row) (system : System) (outputs : List Output) → (after answers).row ≡ row
    → native_in system.residents q ≡ Some (Spool (after answers)) → IsAtHome q system → AwaitsIn 0 q system.kernel → at_disk system.kernel.disk q ≡ 0
    → Such (reply ∷ answers) → Stays Such
    → (has_file (took_at row (after answers) reply).row ≡ true → Includes (reverse (printed_by row (call_at row (after answers)) (printed_in answers))) (bytes_to 0 outputs))
    → Leads (Asks q system.kernel) (HasPrinter q (printed_by row (call_at row (after answers)) (printed_in answers)) system.kernel outputs) (took_at row (after answers) reply).row
    → Takes Such q answers reply system outputs
takes_at {Such} q answers reply row system outputs is acts home none gone such stays came leads =
    let next = after_is answers reply row is in
    let bytes = word_is answers reply row is in
    let P : List ℕ → Type 0 = λ printed. Leads (Asks q system.kernel) (HasPrinter q printed system.kernel outputs) (after (reply ∷ answers)).row in
    let so : P (printed_in (reply ∷ answers)) =
    subst P (sym bytes) (subst (λ (s : Spooler). Leads (Asks q system.kernel) (HasPrinter q (printed_by row (call_at row (after answers)) (printed_in answers)) system.kernel outputs) s.row) (sym next) leads) in
    record {
      acts = acts;
      home = home;
      none = none;
      gone = gone;
      asks = so.0;
      owns = λ has. (so.1 has).0;
      printed = λ has. (so.1 has).1;
      came = λ has. subst (λ (printed : List ℕ). Includes (reverse printed) (bytes_to 0 outputs)) (sym bytes) (came (ap (λ (s : Spooler). has_file s.row) (sym next) ∙ has));
      so = such;
      stays = stays;
    }

-- what is said to consoles leaves all that

pub takes_by : {Such : List Answer → Type 0} (q : ℕ) (answers : List Answer) (reply : Answer) (old : System) (change : SystemChange) (outputs : List Output) → Spares q old change
    → (has_printer (after (reply ∷ answers)).row ≡ true → bytes_to 0 change.emitted ≡ []) → Takes Such q answers reply old outputs
    → Takes Such q answers reply change.system (change.emitted ++ outputs)
takes_by {Such} q answers reply old change outputs s nothing t = record {
  acts = s.resident ∙ t.acts;
  home = home_by q old change s t.home;
  none = s.awaits 0 t.none;
  gone = s.place ∙ t.gone;
  asks = λ is. ap opens_or_attaches s.beside.function ∙ t.asks is;
  owns = λ has. s.printer.owner 0 (t.owns has);
  so = t.so;
  stays = t.stays;
  came = λ has. includes_still (reverse (printed_in (reply ∷ answers))) change.emitted outputs (t.came has);
  printed = λ has. (let b = t.printed has in record {
    rest = b.rest;
    whole_is = bytes_both 0 change.emitted outputs ∙ ap (λ (xs : List ℕ). xs ++ bytes_to 0 outputs) (nothing has) ∙ b.whole_is;
  });
}

-- a call that isn't function 5 says nothing to a printer
not_listed : (n m : ℕ) (b c : Bool) (byte : ℕ) (outputs : List Output) → b ≡ false → bytes_to n (said (Printer m) (if b && c then byte ∷ [] else []) outputs) ≡ bytes_to n outputs
unfolding said
not_listed n m true c byte outputs is = absurd (false≢true (sym is))
not_listed n m false c byte outputs is = refl

quiet_said : (q : ℕ) (call : Taken) (string : List ℕ) (system : System) → (call.function == LIST_OUTPUT) ≡ false → Spares q system (said_by call string q system)
unfolding said_by
quiet_said q call string system other =
    let process = process_in system.kernel.dispatcher.procs q in
    let spoke = spares_spoke q process.console _ system in
    record {
      beside = spoke.beside;
      printer = spoke.printer;
      resident = spoke.resident;
      place = spoke.place;
      pays = spoke.pays;
      awaits = spoke.awaits;
      nothing = λ n is. not_listed n process.printer (call.function == LIST_OUTPUT) (nat_lt 0 (length system.kernel.units.printers)) _ _ other ∙ spoke.nothing n is;
    }

quiet_bytes : (q : ℕ) (call : Taken) (string : List ℕ) (system : System) → (call.function == LIST_OUTPUT) ≡ false → bytes_to 0 (said_by call string q system).emitted ≡ []
unfolding said_by speaking
quiet_bytes q call string system other =
    let process = process_in system.kernel.dispatcher.procs q in
    not_listed 0 process.printer (call.function == LIST_OUTPUT) (nat_lt 0 (length system.kernel.units.printers)) _ _ other ∙ nothing_spoken 0 process.console _

own_done : {Such : List Answer → Type 0} (q : ℕ) (answers : List Answer) (reply : Answer) (call : Taken) (system : System) (outputs : List Output) → (call.function == LIST_OUTPUT) ≡ false
    → Takes Such q answers reply system outputs → Spools Such q (native_outcome Done reply call q system).system ((native_outcome Done reply call q system).emitted ++ outputs)
own_done {Such} q answers reply call system outputs other t =
    let spoke = said_by call call.bytes q system in
    spooling_took q answers reply spoke.system (spoke.emitted ++ outputs)
    (takes_by q answers reply system spoke outputs (quiet_said q call call.bytes system other) (λ _. quiet_bytes q call call.bytes system other) t)

-- so does what the kernel says before it
pub outputs_same : {Such : List Answer → Type 0} (q : ℕ) (system : System) (one other : List Output) → bytes_to 0 other ≡ bytes_to 0 one → Spools Such q system one → Spools Such q system other
outputs_same {Such} q system one other same i = record {
  answers = i.answers;
  acts = i.acts;
  home = i.home;
  asks = i.asks;
  filed = i.filed;
  awaits = i.awaits;
  owns = i.owns;
  printed = λ has. (let b = i.printed has in record { rest = b.rest; whole_is = same ∙ b.whole_is });
  came = λ has. (let b = i.came has in record { later = b.later; earlier = b.earlier; whole_is = same ∙ b.whole_is });
  so = i.so;
  stays = i.stays;
}

echoed_goes : {Such : List Answer → Type 0} (q : ℕ) (call : Taken) (system : System) (change : SystemChange) (outputs : List Output) → Spools Such q change.system (change.emitted ++ outputs)
    → Spools Such q (after_echo call q system change).system ((after_echo call q system change).emitted ++ outputs)
echoed_goes {Such} q call system change outputs i =
    let echo = spoken (process_in system.kernel.dispatcher.procs q).console (echo_of call system.kernel) in
    outputs_same q change.system (change.emitted ++ outputs) ((change.emitted ++ echo) ++ outputs)
    (bytes_both 0 (change.emitted ++ echo) outputs ∙ ap (λ (xs : List ℕ). xs ++ bytes_to 0 outputs) (bytes_both 0 change.emitted echo
    ∙ ap (λ (xs : List ℕ). bytes_to 0 change.emitted ++ xs) (nothing_spoken 0 (process_in system.kernel.dispatcher.procs q).console (echo_of call system.kernel))
    ∙ append-nil (bytes_to 0 change.emitted)) ∙ sym (bytes_both 0 change.emitted outputs)) i

-- its call is kept

pub home_asked : (q : ℕ) (call : Taken) (system : System) → IsWhole system → sets_or_chains call.function ≡ false → IsAtHome q system → IsAtHome q (asking q call system)
home_asked q call system w mild h =
    let procs = system.kernel.dispatcher.procs in
    let below = lives_below procs q w.sound.slots h.lives in
    let same = process_after procs q q call in
    record {
      lives = (keeps_asked q call system w h.lives).lives;
      resides = ap (λ (x : Process). x.seg) same ∙ h.resides;
      answers = ap (λ (x : Process). x.error_mode) same ∙ h.answers;
      goes_on = ap (λ (x : Process). x.abort_due) same ∙ h.goes_on;
      calls = ap (λ (x : Taken). sets_or_chains x.function) (call_changed procs q call (omega (arith, w.sound.slots.calls, below))) ∙ mild;
      set = ap settings_of same ∙ h.set;
      pays = h.pays;
    }

-- and done by the kernel

home_called : (q : ℕ) (system : System) → IsWhole system → settings_of (process_in (called q system.kernel).kernel.dispatcher.procs q) ≡ settings_of (process_in system.kernel.dispatcher.procs q)
    → IsAtHome q system → IsAtHome q (calling q system).system
home_called q system w set h =
    let beside = beside_called q q system.kernel w.sound h.lives in
    record {
      lives = beside.living ∙ h.lives;
      resides = beside.seg ∙ h.resides;
      answers = beside.answers (λ is. false≢true (sym h.calls ∙ ap sets_or_chains is)) ∙ h.answers;
      goes_on = beside.due ∙ h.goes_on;
      calls = ap sets_or_chains beside.function ∙ h.calls;
      set = set ∙ h.set;
      pays = h.pays;
    }

by_kept : (q : ℕ) (P : Called → Type 0) (call : Taken) (kernel : Kernel) → call_of kernel.dispatcher.procs q ≡ call
    → P (call_done call q (process_in kernel.dispatcher.procs q) (call_begun (does_echo call.function) kernel)) → P (called q kernel)
by_kept q P call kernel is so =
    subst (λ (c : Taken). P (call_done c q (process_in kernel.dispatcher.procs q) (call_begun (does_echo c.function) kernel))) (sym is) so

none_begun : (echoes : Bool) (q : ℕ) (kernel : Kernel) → IsSoundKernel kernel → IsReady kernel.dispatcher q → AwaitsIn 0 q (call_begun echoes kernel)
none_begun echoes q kernel s ready = record { table = s.table; few = omega arith; at_once = λ _. ready }

-- a step of it, before which its call is kept
record Asked (Such : List Answer → Type 0) (q : ℕ) (answers : List Answer) (row : Row) (system : System) (outputs : List Output) : Type 0 where
  is : (after answers).row ≡ row
  whole : IsWhole system
  ready : IsReady system.kernel.dispatcher q
  acts : native_in system.residents q ≡ Some (Spool (after answers))
  home : IsAtHome q system
  kept : call_of system.kernel.dispatcher.procs q ≡ call_at row (after answers)
  owns : has_printer row ≡ true → owner_of system.kernel.units (Printer 0) ≡ Some q
  printed : has_printer row ≡ true → Begins (reverse (printed_in answers)) (bytes_to 0 outputs)
  came : has_file row ≡ true → Includes (reverse (printed_in answers)) (bytes_to 0 outputs)
  other : is_of_files (call_at row (after answers)).function ≡ false
  so : Such answers
  stays : Stays Such

asked_so : {Such : List Answer → Type 0} (q : ℕ) (answers : List Answer) (reply : Answer) (row : Row) (system : System) (outputs : List Output) → Asked Such q answers row system outputs
    → Such (reply ∷ answers)
unfolding next_call
asked_so q answers reply row system outputs a =
    a.stays answers reply (ap (λ (r : Row). is_of_files (call_at r (after answers)).function) a.is ∙ a.other) a.so

-- what a call of a row leaves of the kernel: it is done at once and the spooler awaits nothing; or it is held, or to be tried again, and the
-- spooler goes on in the same row
record IsAnswered (q : ℕ) (answers : List Answer) (row : Row) (outputs : List Output) (old : Kernel) (call : Called) : Type 0 where
  set : settings_of (process_in call.kernel.dispatcher.procs q) ≡ settings_of (process_in old.dispatcher.procs q)
  none : AwaitsIn 0 q call.kernel
  leads : Leads (Asks q call.kernel) (HasPrinter q (printed_by row (call_at row (after answers)) (printed_in answers)) call.kernel outputs) (took_at row (after answers) call.reply).row

record StaysInRow (q : ℕ) (row : Row) (old : Kernel) (call : Called) : Type 0 where
  set : settings_of (process_in call.kernel.dispatcher.procs q) ≡ settings_of (process_in old.dispatcher.procs q)
  one : AwaitsIn 1 q call.kernel
  may : may_wait row ≡ true
  has : has_printer row ≡ false

abbrev ComesBy : Ended_how → ℕ → List Answer → Row → List Output → Kernel → Called → Type 0
ComesBy Done q answers row outputs old call = IsAnswered q answers row outputs old call
ComesBy Held q answers row outputs old call = StaysInRow q row old call
ComesBy Retry q answers row outputs old call = StaysInRow q row old call
ComesBy Ended q answers row outputs old call = ⊥

record Comes (q : ℕ) (answers : List Answer) (row : Row) (outputs : List Output) (old : Kernel) (call : Called) : Type 0 where
  by : ComesBy call.outcome q answers row outputs old call

asked_gone : {Such : List Answer → Type 0} (q : ℕ) (answers : List Answer) (row : Row) (system : System) (outputs : List Output) → Asked Such q answers row system outputs → at_disk (called q system.kernel).kernel.disk q ≡ 0
asked_gone {Such} q answers row system outputs a =
    ap (λ disk. at_disk disk q) (disk_called q system.kernel) ∙ ready_not_at_disk system.kernel q a.whole.sound a.ready

-- the system then, and what is said
abbrev pub Goes : (List Answer → Type 0) → ℕ → SystemChange → List Output → Type 0
Goes Such q change outputs = Spools Such q change.system (change.emitted ++ outputs)

own_stays : {Such : List Answer → Type 0} (q : ℕ) (answers : List Answer) (row : Row) (system : System) (outputs : List Output) (a : Asked Such q answers row system outputs) → StaysInRow q row system.kernel (called q system.kernel)
    → (row ≡ Attach → opens_or_attaches (call_at row (after answers)).function ≡ true) → Spools Such q (calling q system).system outputs
own_stays {Such} q answers row system outputs a s asks =
    let beside = beside_called q q system.kernel a.whole.sound a.home.lives in
    let never : has_printer (after answers).row ≡ true → ⊥ = λ has. false≢true (sym s.has ∙ ap has_printer (sym a.is) ∙ has) in
    record {
      answers = answers;
      acts = a.acts;
      home = home_called q system a.whole s.set a.home;
      asks = λ is. ap opens_or_attaches (beside.function ∙ ap (λ (c : Taken). c.function) a.kept) ∙ asks (sym a.is ∙ is);
      filed = λ some. absurd (omega (arith, some, asked_gone q answers row system outputs a));
      awaits = subst (λ (waits : Bool). AwaitsIn (if waits then 1 else at_disk (called q system.kernel).kernel.disk q) q (called q system.kernel).kernel) (sym (ap may_wait a.is ∙ s.may)) s.one;
      owns = λ has. absurd (never has);
      printed = λ has. absurd (never has);
      came = λ has. a.came (ap has_file (sym a.is) ∙ has);
      so = a.so;
      stays = a.stays;
    }

own_by : {Such : List Answer → Type 0} (outcome : Ended_how) (q : ℕ) (answers : List Answer) (row : Row) (system : System) (outputs : List Output) (a : Asked Such q answers row system outputs)
    → ComesBy outcome q answers row outputs system.kernel (called q system.kernel) → ((call_at row (after answers)).function == LIST_OUTPUT) ≡ false
    → (row ≡ Attach → opens_or_attaches (call_at row (after answers)).function ≡ true)
    → Goes Such q (native_outcome outcome (calling q system).reply (call_at row (after answers)) q (calling q system).system) outputs
own_by {Such} Done q answers row system outputs a c other asks =
    own_done q answers (calling q system).reply (call_at row (after answers)) (calling q system).system outputs other
    (takes_at q answers (calling q system).reply row (calling q system).system outputs a.is a.acts (home_called q system a.whole c.set a.home) c.none (asked_gone q answers row system outputs a)
    (asked_so q answers (calling q system).reply row system outputs a) a.stays
    (came_still row (after answers) (calling q system).reply (printed_in answers) (bytes_to 0 outputs) a.is
    (λ is. false≢true (sym other ∙ ap (λ (r : Row). (call_at r (after answers)).function == LIST_OUTPUT) is)) a.came)
    c.leads)
own_by {Such} Held q answers row system outputs a c other asks = own_stays q answers row system outputs a c asks
own_by {Such} Retry q answers row system outputs a c other asks = own_stays q answers row system outputs a c asks
own_by {Such} Ended q answers row system outputs a c other asks = absurd c

-- each row: those on files aren't the kernel's

abbrev is_file_row : Row → Bool
is_file_row Open = true
is_file_row Read = true
is_file_row Close = true
is_file_row Delete = true
is_file_row _ = false

file_row : (row : Row) (s : Spooler) → is_file_row row ≡ true → is_of_files (call_at row s).function ≡ false → ⊥
unfolding is_of_files Rattle.mpm_file_functions.specs.Functions.function_of Rattle.mpm_file_functions.specs.Functions.direct_of
file_row Open s is none = false≢true (sym none)
file_row Read s is none = false≢true (sym none)
file_row Close s is none = false≢true (sym none)
file_row Delete s is none = false≢true (sym none)
file_row ReadList s is none = false≢true is
file_row Attach s is none = false≢true is
file_row AskStop s is none = false≢true is
file_row Print s is none = false≢true is
file_row Detach s is none = false≢true is

pub closed_leads : (A H : Type 0) (b : Bool) (s : Spooler) → Leads A H (if b then record s { row = Delete } else begun_next s).row
closed_leads A H true s = leads_delete A H
closed_leads A H false s = leads_begun A H s

pub waiting_row : (row : Row) (s : Spooler) → may_wait row ≡ true → is_of_files (call_at row s).function ≡ false
unfolding is_of_files Rattle.mpm_file_functions.specs.Functions.function_of Rattle.mpm_file_functions.specs.Functions.direct_of
waiting_row ReadList s may = refl
waiting_row Attach s may = refl
waiting_row Open s may = absurd (false≢true may)
waiting_row AskStop s may = absurd (false≢true may)
waiting_row Read s may = absurd (false≢true may)
waiting_row Print s may = absurd (false≢true may)
waiting_row Detach s may = absurd (false≢true may)
waiting_row Close s may = absurd (false≢true may)
waiting_row Delete s may = absurd (false≢true may)

-- the queues are read

read_set : (q : ℕ) (slot : Option ℕ) (waits : Bool) (call : Taken) (kernel : Kernel)
    → settings_of (process_in (read_at slot waits call q kernel).kernel.dispatcher.procs q) ≡ settings_of (process_in kernel.dispatcher.procs q)
read_set q slot waits call kernel = (prints_read_at q slot waits call q kernel).set

list_by : (outcome : Ended_how) (q : ℕ) (answers : List Answer) (outputs : List Output) (old : Kernel) (call : Called) → AwaitsAfter outcome q call.kernel
    → settings_of (process_in call.kernel.dispatcher.procs q) ≡ settings_of (process_in old.dispatcher.procs q) → (after answers).row ≡ ReadList → ComesBy outcome q answers ReadList outputs old call
list_by Done q answers outputs old call awaits set is =
    record { set = set; none = awaits; leads = leads_listed (Asks q call.kernel) (HasPrinter q (printed_in answers) call.kernel outputs) (list_of (in_width 128 call.reply.bytes)) (after answers) is }
list_by Held q answers outputs old call awaits set is = record { set = set; one = awaits; may = refl; has = refl }
list_by Retry q answers outputs old call awaits set is = absurd awaits
list_by Ended q answers outputs old call awaits set is = absurd awaits

stop_leads : (A H : Type 0) (b : Bool) (s : Spooler) → H → Leads A H (if b then record s { row = Detach; left = []; is_unprinted = true } else record s { row = Read }).row
stop_leads A H true s has = leads_detach A H has
stop_leads A H false s has = leads_read A H has

stop_done : (q : ℕ) (slot : Option ℕ) (call : Taken) (kernel : Kernel) → (read_at slot false call q kernel).outcome ≡ Done
unfolding read_at was_read blocked_or_refused
stop_done q None call kernel = refl
stop_done q (Some n) call kernel = by_outcome (read_outcome kernel.queues n) where
  by_outcome : (outcome : QueueOutcome) → (was_read outcome false call q n kernel).outcome ≡ Done
  by_outcome (Passed other) = refl
  by_outcome NotNow = refl

stop_comes : (slot : Option ℕ) (q : ℕ) (answers : List Answer) (call : Taken) (outputs : List Output) (old kernel : Kernel) → IsSoundKernel kernel → AwaitsIn 0 q kernel
    → kernel.dispatcher.procs ≡ old.dispatcher.procs → owner_of kernel.units (Printer 0) ≡ Some q → Begins (reverse (printed_in answers)) (bytes_to 0 outputs)
    → Comes q answers AskStop outputs old (read_at slot false call q kernel)
stop_comes slot q answers call outputs old kernel s none same own printed =
    let read = read_at slot false call q kernel in
    let keeps = prints_read_at q slot false call q kernel in
    let so : IsAnswered q answers AskStop outputs old read = record {
      set = keeps.set ∙ ap (λ t. settings_of (process_in t q)) same;
      none = awaits_read_at 0 q slot false call q kernel s (λ waits. absurd (false≢true waits)) none;
      leads = stop_leads (Asks q read.kernel) (HasPrinter q (printed_in answers) read.kernel outputs) (read.reply.hl == 0) (after answers) (keeps.owner 0 own, printed);
    } in
    record { by = subst (λ (outcome : Ended_how). ComesBy outcome q answers AskStop outputs old read) (sym (stop_done q slot call kernel)) so }

-- the printer

has_some : (l : List (Option ℕ)) (n q : ℕ) → slice_index_or l n None ≡ Some q → (length l == 0) ≡ false
has_some [] n q is = absurd (cc)
has_some (owner ∷ owners) n q is = (let some : 0 < length (owner ∷ owners) = omega arith in grind (arith, nat_tests, some))

own_units : (q priority : ℕ) (t : Consoles) (unit : Unit) → owner_of t unit ≡ Some q → unit_attached t q priority unit true ≡ t
unfolding unit_attached
own_units q priority t unit own =
    ap (λ (o : Option ℕ). attach_from o t q priority unit true) own
    ∙ ap (λ (b : Bool). if b || not true then t else listed t q priority unit) (eq-eqb q q refl)

own_attached : (q n : ℕ) (kernel : Kernel) → owner_of kernel.units (Printer n) ≡ Some q → attached q (Printer n) kernel ≡ done kernel
unfolding attached may_attach
own_attached q n kernel own =
    let may : attaches (owner_of kernel.units (Printer n)) q ≡ true = ap (λ (o : Option ℕ). attaches o q) own ∙ eq-eqb q q refl in
    ap (λ (b : Bool). if b then done (attaching q (Printer n) true kernel) else (retried q (attaching q (Printer n) true kernel))) may
    ∙ ap (λ (t : Consoles). done (record kernel { units = t })) (own_units q (process_in kernel.dispatcher.procs q).priority kernel.units (Printer n) own)

-- it is attached

attach_by : (may : Bool) (q : ℕ) (answers : List Answer) (outputs : List Output) (old kernel : Kernel) → may_attach kernel.units q (Printer 0) ≡ may → 0 < length kernel.units.printers
    → (after answers).row ≡ Attach → kernel.dispatcher.procs ≡ old.dispatcher.procs → AwaitsIn 0 q kernel
    → Comes q answers Attach outputs old (if may then done (attaching q (Printer 0) true kernel) else (retried q (attaching q (Printer 0) true kernel)))
unfolding retried
attach_by true q answers outputs old kernel may there is same none =
    let now = attaching q (Printer 0) true kernel in
    let own = owner_is (owner_of now.units (Printer 0)) q (owns_attached kernel q (Printer 0) true there may) in
    let first : Begins (reverse (printed_in answers)) (bytes_to 0 outputs) = record { rest = bytes_to 0 outputs; whole_is = ap (λ (xs : List ℕ). reverse xs ++ bytes_to 0 outputs) (sym (nothing_at_attach answers is)) } in
    record {
      by = record {
        set = ap (λ t. settings_of (process_in t q)) same;
        none = none;
        leads = leads_stop (Asks q now) (HasPrinter q (printed_in answers) now outputs) (own, first);
      };
    }
attach_by false q answers outputs old kernel may there is same none =
    record { by = record { set = ap (λ t. settings_of (process_in t q)) same; one = left_one q kernel none; may = refl; has = refl } }
  where
    left_one : (q : ℕ) (kernel : Kernel) → AwaitsIn 0 q kernel → Awaits 1 q (removed kernel.dispatcher.lists q) kernel.dispatcher.completed
    left_one q kernel a = record { table = table_removed kernel.dispatcher.lists q a.table; few = omega (arith, a.few); at_once = λ all. absurd (omega (arith, all, a.few)) }

attach_if : (none_there : Bool) (q n : ℕ) (answers : List Answer) (outputs : List Output) (old kernel : Kernel) → (length kernel.units.printers == 0) ≡ none_there → n ≡ 0
    → (after answers).row ≡ Attach → kernel.dispatcher.procs ≡ old.dispatcher.procs → AwaitsIn 0 q kernel
    → Comes q answers Attach outputs old (if none_there then valued failure_code kernel else (attached q (Printer n) kernel))
unfolding attached
attach_if true q n answers outputs old kernel empty zero_is is same none = record {
  by = record {
    set = ap (λ t. settings_of (process_in t q)) same;
    none = none;
    leads = leads_close (Asks q kernel) (HasPrinter q (printed_in answers) kernel outputs);
  };
}
attach_if false q n answers outputs old kernel empty zero_is is same none =
    let there : 0 < length kernel.units.printers = grind (arith, nat_tests, empty) in
    subst (λ (m : ℕ). Comes q answers Attach outputs old (attached q (Printer m) kernel)) (sym zero_is)
    (attach_by (may_attach kernel.units q (Printer 0)) q answers outputs old kernel refl there is same none)

-- and detached

detach_if : (none_there : Bool) (q n : ℕ) (answers : List Answer) (outputs : List Output) (old kernel : Kernel) → (length kernel.units.printers == 0) ≡ none_there
    → (0 < length kernel.units.printers → n < length kernel.units.printers) → IsSoundKernel kernel → kernel.dispatcher.procs ≡ old.dispatcher.procs → AwaitsIn 0 q kernel
    → Comes q answers Detach outputs old (if none_there then valued failure_code kernel else done (unit_left q (Printer n) kernel))
unfolding unit_left
detach_if true q n answers outputs old kernel empty fits s same none = record {
  by = record {
    set = ap (λ t. settings_of (process_in t q)) same;
    none = none;
    leads = leads_close (Asks q kernel) (HasPrinter q (printed_in answers) kernel outputs);
  };
}
detach_if false q n answers outputs old kernel empty fits s same none =
    let there : 0 < length kernel.units.printers = grind (arith, nat_tests, empty) in
    let left = unit_left q (Printer n) kernel in
    record {
      by = record {
        set = ap (λ t. settings_of (process_in t q)) same;
        none = awaits_unit_left 0 q q (Printer n) kernel s (fits there) none;
        leads = leads_close (Asks q left) (HasPrinter q (printed_in answers) left outputs);
      };
    }

-- so the kernel does the call of each row but that which prints

comes_at : {Such : List Answer → Type 0} (row : Row) (q : ℕ) (answers : List Answer) (system : System) (outputs : List Output) → Asked Such q answers row system outputs → (row ≡ Print → ⊥)
    → Comes q answers row outputs system.kernel (called q system.kernel)
unfolding call_done unit_called printer_called
comes_at {Such} ReadList q answers system outputs a other =
    let kernel = system.kernel in
    let begun = call_begun false kernel in
    let call = call_at ReadList (after answers) in
    let none = none_begun false q kernel a.whole.sound a.ready in
    let slot = pointed begun.queues (word_at call 0) in
    let read = read_at slot true call q begun in
    by_kept q (Comes q answers ReadList outputs kernel) call kernel a.kept
    (record { by = list_by read.outcome q answers outputs kernel read (own_read slot call q begun (sound_begun false kernel a.whole.sound) none) (read_set q slot true call begun) a.is })
comes_at {Such} Open q answers system outputs a other = absurd (file_row Open (after answers) refl a.other)
comes_at {Such} Attach q answers system outputs a other =
    let begun = call_begun false system.kernel in
    by_kept q (Comes q answers Attach outputs system.kernel) (call_at Attach (after answers)) system.kernel a.kept
    (attach_if (length begun.units.printers == 0) q (process_in system.kernel.dispatcher.procs q).printer answers outputs system.kernel begun refl (ap (λ (x : Settings). x.printer) a.home.set) a.is refl
    (none_begun false q system.kernel a.whole.sound a.ready))
comes_at {Such} AskStop q answers system outputs a other =
    let kernel = system.kernel in
    let begun = call_begun false kernel in
    let call = call_at AskStop (after answers) in
    let none = none_begun false q kernel a.whole.sound a.ready in
    by_kept q (Comes q answers AskStop outputs kernel) call kernel a.kept (stop_comes (pointed begun.queues (word_at call 0)) q answers call outputs kernel begun (sound_begun false kernel a.whole.sound) none refl (a.owns refl) (a.printed refl))
comes_at {Such} Read q answers system outputs a other = absurd (file_row Read (after answers) refl a.other)
comes_at {Such} Print q answers system outputs a other = absurd (other refl)
comes_at {Such} Detach q answers system outputs a other =
    let begun = call_begun false system.kernel in
    let s = a.whole.sound in
    by_kept q (Comes q answers Detach outputs system.kernel) (call_at Detach (after answers)) system.kernel a.kept
    (detach_if (length begun.units.printers == 0) q (process_in system.kernel.dispatcher.procs q).printer answers outputs system.kernel begun refl (λ has. (s.fit q a.home.lives).printer has)
    (sound_begun false system.kernel s) refl (none_begun false q system.kernel s a.ready))
comes_at {Such} Close q answers system outputs a other = absurd (file_row Close (after answers) refl a.other)
comes_at {Such} Delete q answers system outputs a other = absurd (file_row Delete (after answers) refl a.other)

-- a byte is printed

printing : {Such : List Answer → Type 0} (q : ℕ) (answers : List Answer) (system : System) (outputs : List Output) → Asked Such q answers Print system outputs → called q system.kernel ≡ done (call_begun false system.kernel)
unfolding call_done unit_called printer_called
printing {Such} q answers system outputs a =
    let kernel = system.kernel in
    let begun = call_begun false kernel in
    let number = (process_in kernel.dispatcher.procs q).printer in
    let own : owner_of begun.units (Printer number) ≡ Some q = ap (λ (n : ℕ). owner_of begun.units (Printer n)) (ap (λ (x : Settings). x.printer) a.home.set) ∙ a.owns refl in
    let there : (length begun.units.printers == 0) ≡ false = has_some begun.units.printers 0 q (a.owns refl) in
    by_kept q (λ (c : Called). c ≡ done begun) (call_at Print (after answers)) kernel a.kept
    (ap (λ (b : Bool). if b then valued failure_code begun else (attached q (Printer number) begun)) there ∙ own_attached q number begun own)

-- as call 5 is done its byte comes to the printer
byte_said : (n m : ℕ) (b c : Bool) (byte : ℕ) (outputs : List Output) → b ≡ true → c ≡ true → m ≡ n
    → bytes_to n (said (Printer m) (if b && c then byte ∷ [] else []) outputs) ≡ byte ∷ bytes_to n outputs
unfolding said bytes_to
byte_said n m true true byte outputs is there same = ap (λ (b : Bool). if b then byte ∷ bytes_to n outputs else (bytes_to n outputs)) (eq-eqb m n same)
byte_said n m true false byte outputs is there same = absurd (false≢true there)
byte_said n m false c byte outputs is there same = absurd (false≢true is)

spoken_then : (byte : ℕ) (printed : List ℕ) (whole : List ℕ) (b : Begins (reverse printed) whole) → Begins (reverse (printed ++ byte ∷ [])) (byte ∷ whole)
spoken_then byte printed whole b = record { rest = b.rest; whole_is = ap (λ (xs : List ℕ). byte ∷ xs) b.whole_is ∙ ap (λ (xs : List ℕ). xs ++ b.rest) (sym (reverse-append printed (byte ∷ []))) }

home_begun : (q : ℕ) (system : System) → IsAtHome q system → IsAtHome q (record system { kernel = call_begun false system.kernel })
home_begun q system h = record { lives = h.lives; resides = h.resides; answers = h.answers; goes_on = h.goes_on; calls = h.calls; set = h.set; pays = h.pays }

own_byte : {Such : List Answer → Type 0} (q : ℕ) (answers : List Answer) (system : System) (outputs : List Output) → Asked Such q answers Print system outputs
    → Goes Such q (native_outcome Done (answering 0) (call_at Print (after answers)) q (record system { kernel = call_begun false system.kernel })) outputs
unfolding said_by speaking
own_byte {Such} q answers system outputs a =
    let s = after answers in
    let call = call_at Print s in
    let now = record system { kernel = call_begun false system.kernel } in
    let process = process_in now.kernel.dispatcher.procs q in
    let text = call_text call (column_of now.kernel process.console) call.bytes in
    let quiet = speaking process.console text now in
    let sp = spares_spoke q process.console text now in
    let spoke = said_by call call.bytes q now in
    let there : (length now.kernel.units.printers == 0) ≡ false = has_some now.kernel.units.printers 0 q (a.owns refl) in
    let some : nat_lt 0 (length now.kernel.units.printers) ≡ true = grind (arith, nat_tests, there) in
    let said_it : bytes_to 0 spoke.emitted ≡ call.word % 256 ∷ [] =
    byte_said 0 process.printer true (nat_lt 0 (length now.kernel.units.printers)) (call.word % 256) quiet.emitted refl some (ap (λ (x : Settings). x.printer) a.home.set)
    ∙ ap (λ (xs : List ℕ). call.word % 256 ∷ xs) (nothing_spoken 0 process.console text) in
    let whole : bytes_to 0 (spoke.emitted ++ outputs) ≡ call.word % 256 ∷ bytes_to 0 outputs =
    bytes_both 0 spoke.emitted outputs ∙ ap (λ (xs : List ℕ). xs ++ bytes_to 0 outputs) said_it in
    let bytes = printed_in answers ++ call.word % 256 ∷ [] in
    let printed_now : Begins (reverse bytes) (bytes_to 0 (spoke.emitted ++ outputs)) =
    subst (Begins (reverse bytes)) (sym whole) (spoken_then (call.word % 256) (printed_in answers) (bytes_to 0 outputs) (a.printed refl)) in
    spooling_took q answers (answering 0) spoke.system (spoke.emitted ++ outputs)
    (takes_at q answers (answering 0) Print spoke.system (spoke.emitted ++ outputs) a.is (sp.resident ∙ a.acts) (home_by q now quiet sp (home_begun q system a.home))
    (sp.awaits 0 (none_begun false q system.kernel a.whole.sound a.ready)) (sp.place ∙ ready_not_at_disk system.kernel q a.whole.sound a.ready)
    (asked_so q answers (answering 0) Print system outputs a) a.stays (λ _. includes_first (reverse bytes) (bytes_to 0 (spoke.emitted ++ outputs)) printed_now)
    (leads_at (Asks q spoke.system.kernel) (HasPrinter q bytes spoke.system.kernel (spoke.emitted ++ outputs)) s.bytes (s.place + 1) (sp.printer.owner 0 (a.owns refl), printed_now)))

own_print : {Such : List Answer → Type 0} (q : ℕ) (answers : List Answer) (system : System) (outputs : List Output) → Asked Such q answers Print system outputs
    → Goes Such q (native_outcome (calling q system).outcome (calling q system).reply (call_at Print (after answers)) q (calling q system).system) outputs
own_print {Such} q answers system outputs a =
    let P : Called → Type 0 = λ c. Goes Such q (native_outcome c.outcome c.reply (call_at Print (after answers)) q (record system { kernel = c.kernel })) outputs in
    subst P (sym (printing q answers system outputs a)) (own_byte q answers system outputs a)

-- what is so of the calls of its rows

pub mild_row : (row : Row) (s : Spooler) → sets_or_chains (call_at row s).function ≡ false
mild_row ReadList s = refl
mild_row Open s = refl
mild_row Attach s = refl
mild_row AskStop s = refl
mild_row Read s = refl
mild_row Print s = refl
mild_row Detach s = refl
mild_row Close s = refl
mild_row Delete s = refl

asks_row : (row : Row) (s : Spooler) → row ≡ Attach → opens_or_attaches (call_at row s).function ≡ true
asks_row Attach s is = refl
asks_row ReadList s is = absurd (cc)
asks_row Open s is = absurd (cc)
asks_row AskStop s is = absurd (cc)
asks_row Read s is = absurd (cc)
asks_row Print s is = absurd (cc)
asks_row Detach s is = absurd (cc)
asks_row Close s is = absurd (cc)
asks_row Delete s is = absurd (cc)

to_all_row : (row : Row) (s : Spooler) (q : ℕ) (system : System) → served_to_all (call_at row s) q system ≡ calling q system
unfolding served_to_all
to_all_row ReadList s q system = refl
to_all_row Open s q system = refl
to_all_row Attach s q system = refl
to_all_row AskStop s q system = refl
to_all_row Read s q system = refl
to_all_row Print s q system = refl
to_all_row Detach s q system = refl
to_all_row Close s q system = refl
to_all_row Delete s q system = refl

own_kernel : {Such : List Answer → Type 0} (row : Row) (q : ℕ) (answers : List Answer) (system : System) (outputs : List Output) → Asked Such q answers row system outputs
    → Goes Such q (native_outcome (calling q system).outcome (calling q system).reply (call_at row (after answers)) q (calling q system).system) outputs
own_kernel {Such} Print q answers system outputs a = own_print q answers system outputs a
own_kernel {Such} ReadList q answers system outputs a =
    own_by (calling q system).outcome q answers ReadList system outputs a (comes_at ReadList q answers system outputs a (λ e. absurd (cc))).by refl (asks_row ReadList (after answers))
own_kernel {Such} Open q answers system outputs a =
    own_by (calling q system).outcome q answers Open system outputs a (comes_at Open q answers system outputs a (λ e. absurd (cc))).by refl (asks_row Open (after answers))
own_kernel {Such} Attach q answers system outputs a =
    own_by (calling q system).outcome q answers Attach system outputs a (comes_at Attach q answers system outputs a (λ e. absurd (cc))).by refl (asks_row Attach (after answers))
own_kernel {Such} AskStop q answers system outputs a =
    own_by (calling q system).outcome q answers AskStop system outputs a (comes_at AskStop q answers system outputs a (λ e. absurd (cc))).by refl (asks_row AskStop (after answers))
own_kernel {Such} Read q answers system outputs a =
    own_by (calling q system).outcome q answers Read system outputs a (comes_at Read q answers system outputs a (λ e. absurd (cc))).by refl (asks_row Read (after answers))
own_kernel {Such} Detach q answers system outputs a =
    own_by (calling q system).outcome q answers Detach system outputs a (comes_at Detach q answers system outputs a (λ e. absurd (cc))).by refl (asks_row Detach (after answers))
own_kernel {Such} Close q answers system outputs a =
    own_by (calling q system).outcome q answers Close system outputs a (comes_at Close q answers system outputs a (λ e. absurd (cc))).by refl (asks_row Close (after answers))
own_kernel {Such} Delete q answers system outputs a =
    own_by (calling q system).outcome q answers Delete system outputs a (comes_at Delete q answers system outputs a (λ e. absurd (cc))).by refl (asks_row Delete (after answers))

-- its step

own_calls : {Such : List Answer → Type 0} (row : Row) (q : ℕ) (answers : List Answer) (system : System) (outputs : List Output) → Asked Such q answers row system outputs
    → Goes Such q (calling_step (call_at row (after answers)) q system) outputs
unfolding calling_step
own_calls {Such} row q answers system outputs a =
    let call = call_at row (after answers) in
    let P : Served → Type 0 = λ done. Goes Such q (after_echo call q done.system (native_outcome done.outcome done.reply call q done.system)) outputs in
    let behind = calling q system in
    subst P (sym (to_all_row row (after answers) q system))
    (echoed_goes q call behind.system (native_outcome behind.outcome behind.reply call q behind.system) outputs (own_kernel row q answers system outputs a))

own_native : {Such : List Answer → Type 0} (row : Row) (q : ℕ) (system : System) (outputs : List Output) (i : Spools Such q system outputs) → (after i.answers).row ≡ row → IsWhole system → IsReady system.kernel.dispatcher q
    → is_of_files (call_at row (after i.answers)).function ≡ false
    → Goes Such q (native_step Ask (call_at row (after i.answers)) q (asking q (call_at row (after i.answers)) system)) outputs
own_native {Such} row q system outputs i is w ready other =
    let call = call_at row (after i.answers) in
    let now = asking q call system in
    let kept = keeps_asked q call system w i.home.lives in
    let tells_not : tells (native_in now.residents q) call ≡ false = ap (λ (o : Option Native). tells o call) i.acts in
    subst (λ (b : Bool). Goes Such q (if b then telling_step call q now else calling_step call q now) outputs) (sym tells_not)
    (own_calls row q i.answers now outputs (record {
      is = is;
      whole = kept.whole;
      ready = kept.ready ready;
      acts = i.acts;
      home = home_asked q call system w (mild_row row (after i.answers)) i.home;
      kept = kept.call;
      owns = λ has. i.owns (ap has_printer is ∙ has);
      printed = λ has. i.printed (ap has_printer is ∙ has);
      came = λ has. i.came (ap has_file is ∙ has);
      other = other;
      so = i.so;
      stays = i.stays;
    }))

pub own_resided : {Such : List Answer → Type 0} (q : ℕ) (system : System) (outputs : List Output) → IsWhole system → IsReady system.kernel.dispatcher q → (i : Spools Such q system outputs)
    → is_of_files (next_call (after i.answers)).function ≡ false → Goes Such q (resided (native_in system.residents q) q system) outputs
unfolding next_call
own_resided {Such} q system outputs w ready i other =
    subst (λ (o : Option Native). Goes Such q (resided o q system) outputs) (sym i.acts) (own_native (after i.answers).row q system outputs i refl w ready other)
