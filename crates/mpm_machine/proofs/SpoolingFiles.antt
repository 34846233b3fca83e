-- The spooler goes on through file calls: another's, and its own, which is done at once, or waits for the disk, is served, and is over in a
-- later step.
use Rattle.std.proofs.Common.{ℕ, [], ◌≡◌, ◌≢◌, ◌∙◌, ◌==◌, ◌&&◌, not, Bool, true, false, List, ◌∷◌, reverse, if◌then◌else◌, Option, Some, None, option_map, inl, inr, refl, sym, ap, subst, arith}
use Rattle.std.proofs.lemmas.Bool.{false≢true, cases_eq}
use Rattle.mpm_base.proofs.Choices.{either}
use Rattle.mpm_base.specs.Calls.{Taken, Answer}
use Rattle.mpm_directories.specs.Direct.{Directly, CallerChange, Resets, Selects}
use Rattle.mpm_directories.specs.Direct.{Stays as Unchanged}
use Rattle.mpm_dispatcher.specs.Dispatch.{IsReady}
use Rattle.mpm_file_functions.specs.declared.refusals.Extended.{Extended}
use Rattle.mpm_kernel.proofs.AwaitingLaws.{awaits_removed}
use Rattle.mpm_kernel.proofs.Beside.{beside_other}
use Rattle.mpm_kernel.proofs.DiskLaws.{ready_not_at_disk}
use Rattle.mpm_kernel.specs.Awaiting.{AwaitsIn}
use Rattle.mpm_kernel.specs.Disk.{waiting_for_disk}
use Rattle.mpm_kernel.specs.Kernel.{Kernel, with_changed}
use Rattle.mpm_procs.proofs.MapLaws.{call_changed, lives_below}
use Rattle.mpm_procs.specs.Table.{Lives, process_in, call_of}
use Rattle.mpm_procs.specs.declared.process.Process.{Process}
use Rattle.mpm_ready.proofs.TableLaws.{table_removed}
use Rattle.mpm_render.specs.Outputs.{Output}
use Rattle.mpm_residents.specs.Natives.{native_in, native_call}
use Rattle.mpm_residents.specs.declared.native.Native.{Native}
use Rattle.mpm_residents.specs.declared.native.Native.TheVariants.{Spool}
use Rattle.mpm_service.proofs.PlaceLaws.{at_entered_other}
use Rattle.mpm_service.specs.Disk.{entered}
use Rattle.mpm_service.specs.Places.{at_disk}
use Rattle.mpm_spool.specs.Spoolers.{Spooler, call_at, next_call, took_at, after, begun_next, row_at, record_in, with_block}
use Rattle.mpm_spool.specs.declared.table.Row.{Row}
use Rattle.mpm_spool.specs.declared.table.Row.TheVariants.{ReadList, Open, Attach, AskStop, Read, Print, Detach, Close, Delete}
use Rattle.mpm_system.specs.Calling.{asking}
use Rattle.mpm_system.specs.Coming.{counted}
use Rattle.mpm_system.specs.FileCalling.{call_made, error_told, file_replied, first_dma, made_by, reply_by, with_caller}
use Rattle.mpm_system.specs.Residents.{asked_by}
use Rattle.mpm_system.specs.Taking.{asked, keeping}
use Rattle.mpm_system.specs.Whole.{SystemChange, IsWhole, silent}
use Rattle.mpm_system.specs.declared.system.System.{System}
use Rattle.mpm_machine.proofs.DiskStepLaws.{entered_there}
use Rattle.mpm_machine.proofs.PrinterCalls.{prints_other}
use Rattle.mpm_machine.proofs.FileLaws.{whole_caller, whole_told, makes}
use Rattle.mpm_machine.proofs.SparedActs.{spares_popped, spares_answering, spares_keeping, spares_after}
use Rattle.mpm_machine.proofs.SparedParts.{Spares, spares_then, spares_on, spares_same, spares_itself, spares_kernel, spares_spoke, spares_ended, spares_asking}
use Rattle.mpm_machine.proofs.SparedResidents.{spares_taking}
use Rattle.mpm_machine.proofs.SpoolingLaws.{Stays, Spools, spooling_by, so_then, spooling_took}
use Rattle.mpm_machine.proofs.SpoolingRows.{Goes, Leads, HasPrinter, Asks, came_still, takes_at, leads_begun, leads_attach, leads_at, leads_detach, closed_leads, home_asked, mild_row}
use Rattle.mpm_machine.proofs.SpoolingSteps.{goes_spared}
use Rattle.mpm_machine.proofs.WholeStepLaws.{whole_counted}
use Rattle.mpm_machine.specs.DiskStep.{file_called, is_done_at_once}
use Rattle.mpm_machine.specs.Ending.{ended}
use Rattle.mpm_machine.specs.FileCalls.{answered_by, concluded, error_met, told_then, is_of_files, called_next, is_file_number, calls_files}
use Rattle.mpm_spool.specs.Printed.{has_file, has_printer, printed_by, printed_in}
use Rattle.mpm_machine.specs.Printed.{bytes_to}
use Rattle.mpm_machine.specs.Spooling.{IsAtHome, KeepsFileCall, Includes, may_wait, spooler_awaits, opens_or_attaches}

-- another's call

spares_other : (q p : ℕ) (process : Process) (system : System) → q ≢ p → Spares q system (silent (record system { kernel = with_changed system.kernel p process }))
spares_other q p process system other =
    spares_kernel q system (with_changed system.kernel p process) (beside_other system.kernel.dispatcher.procs p q process other) (prints_other q p system.kernel process other) refl (λ k x. x)

spares_caller : (q : ℕ) (change : CallerChange) (p : ℕ) (system : System) → q ≢ p → Spares q system (silent (with_caller change p system))
unfolding with_caller
spares_caller q Unchanged p system other = spares_itself q system
spares_caller q (Selects drive) p system other = spares_other q p (record (process_in system.kernel.dispatcher.procs p) { drive = drive }) system other
spares_caller q Resets p system other =
    let process = process_in system.kernel.dispatcher.procs p in
    spares_other q p (record process { drive = 0; dma = first_dma system.memory process.seg }) system other

spares_reply_by : (q : ℕ) (seg : Option ℕ) (reply : Answer) (p : ℕ) (system : System) → q ≢ p → Spares q system (silent (reply_by seg reply p system))
spares_reply_by q (Some seg) reply p system other = spares_answering q reply (call_of system.kernel.dispatcher.procs p) p seg system
spares_reply_by q None reply p system other = spares_taking q reply p system other

spares_replied : (q : ℕ) (reply : Answer) (p : ℕ) (system : System) → q ≢ p → Spares q system (silent (file_replied reply p system))
unfolding file_replied
spares_replied q reply p system other = spares_reply_by q (process_in system.kernel.dispatcher.procs p).seg reply p system other

spares_told : (q : ℕ) (error : Extended) (p : ℕ) (system : System) → Spares q system (error_told error p system)
unfolding error_told
spares_told q error p system = spares_spoke q (process_in system.kernel.dispatcher.procs p).console _ system

spares_told_then : (q : ℕ) (answers : Bool) (error : Extended) (reply : Answer) (p : ℕ) (system : System) → IsWhole system → Lives system.kernel.dispatcher.procs p → q ≢ p
    → Spares q system (told_then answers error reply p system)
unfolding told_then
spares_told_then q true error reply p system w h other =
    let told = error_told error p system in spares_on q system told _ (spares_told q error p system) (spares_replied q reply p told.system other)
spares_told_then q false error reply p system w h other =
    let told = error_told error p system in
    let whole = whole_told error p system w h in
    spares_on q system told _ (spares_told q error p system) (spares_ended q p told.system whole.whole whole.lives other)

spares_met : (q : ℕ) (error : Extended) (reply : Answer) (p : ℕ) (system : System) → IsWhole system → Lives system.kernel.dispatcher.procs p → q ≢ p
    → Spares q system (error_met error reply p system)
unfolding error_met
spares_met q error reply p system w h other =
    let mode = (process_in system.kernel.dispatcher.procs p).error_mode in
    either (Spares q system) (mode == 255) _ _ (λ _. spares_replied q reply p system other) (λ _. spares_told_then q (mode == 254) error reply p system w h other)

spares_answered_by : (q : ℕ) (error : Option Extended) (reply : Answer) (p : ℕ) (system : System) → IsWhole system → Lives system.kernel.dispatcher.procs p → q ≢ p
    → Spares q system (answered_by error reply p system)
spares_answered_by q None reply p system w h other = spares_replied q reply p system other
spares_answered_by q (Some error) reply p system w h other = spares_met q error reply p system w h other

pub spares_concluded : (q : ℕ) (told : Directly) (p : ℕ) (system : System) → IsWhole system → Lives system.kernel.dispatcher.procs p → q ≢ p → Spares q system (concluded told p system)
unfolding concluded
spares_concluded q told p system w h other =
    let now = with_caller told.caller p system in
    let changed = whole_caller told.caller p system w h in
    spares_after q system now _ (spares_caller q told.caller p system other) (spares_answered_by q told.extended told.answer p now changed.whole changed.lives other)

spares_waiting : (q p : ℕ) (system : System) → q ≢ p → Spares q system (silent (record system { kernel = waiting_for_disk p system.kernel }))
unfolding waiting_for_disk
spares_waiting q p system other =
    let procs = system.kernel.dispatcher.procs in
    let itself = spares_itself q system in
    record {
      beside = itself.beside;
      printer = record { set = refl; block = refl; owner = λ n is. is };
      resident = refl;
      place = at_entered_other system.kernel.disk p q (process_in procs p).priority other;
      pays = λ x. x;
      awaits = λ k x. awaits_removed k q system.kernel.dispatcher.lists system.kernel.dispatcher.completed p other x;
      nothing = itself.nothing;
    }

spares_file_called : (q : ℕ) (told : Directly) (p : ℕ) (system : System) → IsWhole system → Lives system.kernel.dispatcher.procs p → q ≢ p → Spares q system (file_called told p system)
unfolding file_called
spares_file_called q told p system w h other =
    either (Spares q system) (is_done_at_once p system) _ _ (λ _. spares_concluded q told p system w h other) (λ _. spares_waiting q p system other)

spares_asked_by : (q : ℕ) (o : Option Native) (p : ℕ) (system : System) → q ≢ p → Spares q system (silent (asked_by o p system))
spares_asked_by q None p system other = spares_itself q system
spares_asked_by q (Some native) p system other = spares_asking q p (native_call native) system other

spares_made_by : (q : ℕ) (seg : Option ℕ) (p : ℕ) (system : System) → q ≢ p → Spares q system (silent (made_by seg p system))
spares_made_by q None p system other = spares_asked_by q (native_in system.residents p) p system other
spares_made_by q (Some seg) p system other =
    let now = keeping p (asked p seg system) system in
    spares_then q system now _ (spares_keeping q p (asked p seg system) system other) (spares_popped q p seg now)

spares_made : (q p : ℕ) (system : System) → q ≢ p → Spares q system (silent (call_made p system))
unfolding call_made
spares_made q p system other =
    spares_then q system (counted system) _ (spares_same q system (counted system) refl refl refl refl refl refl (λ x. x))
    (spares_made_by q (process_in system.kernel.dispatcher.procs p).seg p (counted system) other)

-- its own

-- what is so of its answers, and what is then, where a process's call has come to something
pub record Passes (Such New : List Answer → Type 0) (q p : ℕ) (told : Directly) (system : System) : Type 0 where
  pub others : q ≢ p → (answers : List Answer) → Such answers → New answers
  pub own : q ≡ p → (answers : List Answer) → IsAtHome q system → KeepsFileCall q answers system → Such answers → (told.caller ≡ Unchanged) × New (told.answer ∷ answers)

-- and where it was made: it is done at once, or waits for the disk
pub record Called (Such New : List Answer → Type 0) (q p : ℕ) (told : Directly) (system : System) : Type 0 where
  pub at_once : is_done_at_once p system ≡ true → Passes Such New q p told system
  pub waits : is_done_at_once p system ≡ false → (answers : List Answer) → Such answers → New answers
  pub stays : Stays New

others_so : {Such New : List Answer → Type 0} (q p : ℕ) (told : Directly) (system : System) → Called Such New q p told system → q ≢ p → (answers : List Answer) → Such answers → New answers
others_so {Such} {New} q p told system c other answers so = by_test (is_done_at_once p system) refl where
  by_test : (b : Bool) → is_done_at_once p system ≡ b → New answers
  by_test true once = (c.at_once once).others other answers so
  by_test false waits = c.waits waits answers so

-- it made a call on files, which its process keeps, and awaits nothing
pub record MakesFiled (q : ℕ) (answers : List Answer) (system : System) (outputs : List Output) : Type 0 where
  pub acts : native_in system.residents q ≡ Some (Spool (after answers))
  pub home : IsAtHome q system
  pub filed : KeepsFileCall q answers system
  pub none : AwaitsIn 0 q system.kernel
  pub gone : at_disk system.kernel.disk q ≡ 0
  pub has : has_printer (after answers).row ≡ true → HasPrinter q (printed_in answers) system.kernel outputs
  pub came : has_file (after answers).row ≡ true → Includes (reverse (printed_in answers)) (bytes_to 0 outputs)

read_leads : (A H : Type 0) (came ended : Bool) (bytes : List ℕ) (s : Spooler) → H
    → Leads A H (if came then record s { row = row_at bytes 0; bytes = bytes; place = 0 } else (if ended then record s { row = Detach } else record s { row = Detach; is_unprinted = true })).row
read_leads A H true ended bytes s has = leads_at A H bytes 0 has
read_leads A H false true bytes s has = leads_detach A H has
read_leads A H false false bytes s has = leads_detach A H has

open_leads : (A H : Type 0) (opened : Bool) (with_it s : Spooler) → A → Leads A H (if opened then record with_it { row = Attach } else begun_next s).row
open_leads A H true with_it s asks = leads_attach A H asks
open_leads A H false with_it s asks = leads_begun A H s

-- by its row: the answer of its call
filed_leads : (row : Row) (q : ℕ) (s : Spooler) (reply : Answer) (printed : List ℕ) (kernel : Kernel) (outputs : List Output) → is_of_files (call_at row s).function ≡ true
    → (call_of kernel.dispatcher.procs q).function ≡ (call_at row s).function → (has_printer row ≡ true → HasPrinter q printed kernel outputs)
    → Leads (Asks q kernel) (HasPrinter q (printed_by row (call_at row s) printed) kernel outputs) (took_at row s reply).row
unfolding is_of_files Rattle.mpm_file_functions.specs.Functions.function_of Rattle.mpm_file_functions.specs.Functions.direct_of
filed_leads Open q s reply printed kernel outputs files kept has =
    open_leads (Asks q kernel) (HasPrinter q [] kernel outputs) (reply.hl == 0) (with_block reply s) s (ap opens_or_attaches kept)
filed_leads Read q s reply printed kernel outputs files kept has =
    read_leads (Asks q kernel) (HasPrinter q printed kernel outputs) (reply.hl == 0) (reply.hl == 1) (record_in reply) (with_block reply s) (has refl)
filed_leads Close q s reply printed kernel outputs files kept has =
    closed_leads (Asks q kernel) (HasPrinter q printed kernel outputs) (s.item.delete && not s.is_unprinted) s
filed_leads Delete q s reply printed kernel outputs files kept has = leads_begun (Asks q kernel) (HasPrinter q printed kernel outputs) s
filed_leads ReadList q s reply printed kernel outputs files kept has = absurd (cc)
filed_leads Attach q s reply printed kernel outputs files kept has = absurd (cc)
filed_leads AskStop q s reply printed kernel outputs files kept has = absurd (cc)
filed_leads Print q s reply printed kernel outputs files kept has = absurd (cc)
filed_leads Detach q s reply printed kernel outputs files kept has = absurd (cc)

files_print_none : (row : Row) (s : Spooler) → is_of_files (call_at row s).function ≡ true → row ≡ Print → ⊥
unfolding is_of_files Rattle.mpm_file_functions.specs.Functions.function_of Rattle.mpm_file_functions.specs.Functions.direct_of
files_print_none row s files is = false≢true (sym (ap (λ (r : Row). is_of_files (call_at r s).function) is) ∙ files)

own_replied : {Such : List Answer → Type 0} (q : ℕ) (answers : List Answer) (reply : Answer) (system : System) (outputs : List Output) → MakesFiled q answers system outputs
    → Such (reply ∷ answers) → Stays Such → Spools Such q (file_replied reply q system) outputs
unfolding file_replied next_call
own_replied {Such} q answers reply system outputs f so stays =
    let s = after answers in
    subst (λ (seg : Option ℕ). Spools Such q (reply_by seg reply q system) outputs) (sym f.home.resides)
    (spooling_took q answers reply system outputs
    (takes_at q answers reply s.row system outputs refl f.acts f.home f.none f.gone so stays
    (came_still s.row s reply (printed_in answers) (bytes_to 0 outputs) refl (files_print_none s.row s f.filed.files) f.came)
    (filed_leads s.row q s reply (printed_in answers) system.kernel outputs f.filed.files f.filed.kept f.has)))

own_answered_by : {Such : List Answer → Type 0} (error : Option Extended) (q : ℕ) (answers : List Answer) (reply : Answer) (system : System) (outputs : List Output) → MakesFiled q answers system outputs
    → Such (reply ∷ answers) → Stays Such → Goes Such q (answered_by error reply q system) outputs
unfolding error_met
own_answered_by {Such} None q answers reply system outputs f so stays = own_replied q answers reply system outputs f so stays
own_answered_by {Such} (Some error) q answers reply system outputs f so stays =
    let mode : ((process_in system.kernel.dispatcher.procs q).error_mode == 255) ≡ true = ap (λ (m : ℕ). m == 255) f.home.answers in
    subst (λ (b : Bool). Goes Such q (if b then silent (file_replied reply q system) else (told_then ((process_in system.kernel.dispatcher.procs q).error_mode == 254) error reply q system)) outputs)
    (sym mode) (own_replied q answers reply system outputs f so stays)

pub own_concluded : {Such : List Answer → Type 0} (q : ℕ) (answers : List Answer) (told : Directly) (system : System) (outputs : List Output) → MakesFiled q answers system outputs
    → told.caller ≡ Unchanged → Such (told.answer ∷ answers) → Stays Such → Goes Such q (concluded told q system) outputs
unfolding concluded with_caller
own_concluded {Such} q answers told system outputs f same so stays =
    subst (λ (change : CallerChange). Goes Such q (answered_by told.extended told.answer q (with_caller change q system)) outputs) (sym same)
    (own_answered_by told.extended q answers told.answer system outputs f so stays)

-- it waits for the disk

waits_not : (row : Row) (s : Spooler) → is_of_files (call_at row s).function ≡ true → may_wait row ≡ false
unfolding is_of_files Rattle.mpm_file_functions.specs.Functions.function_of Rattle.mpm_file_functions.specs.Functions.direct_of
waits_not ReadList s files = absurd (cc)
waits_not Attach s files = absurd (cc)
waits_not Open s files = refl
waits_not AskStop s files = refl
waits_not Read s files = refl
waits_not Print s files = refl
waits_not Detach s files = refl
waits_not Close s files = refl
waits_not Delete s files = refl

pub files_places : (answers : List Answer) (places : ℕ) → is_of_files (next_call (after answers)).function ≡ true → spooler_awaits places (after answers).row ≡ places
unfolding next_call
files_places answers places files = ap (λ (b : Bool). if b then 1 else places) (waits_not (after answers).row (after answers) files)

never_attaches : (row : Row) (s : Spooler) → is_of_files (call_at row s).function ≡ true → row ≡ Attach → ⊥
never_attaches row s files is = false≢true (sym (waits_not row s files) ∙ ap may_wait is)

own_waits : {Such : List Answer → Type 0} (q : ℕ) (answers : List Answer) (system : System) (outputs : List Output) → MakesFiled q answers system outputs
    → Such answers → Stays Such → Spools Such q (record system { kernel = waiting_for_disk q system.kernel }) outputs
unfolding waiting_for_disk next_call
own_waits {Such} q answers system outputs f so stays =
    let procs = system.kernel.dispatcher.procs in
    let disk = entered system.kernel.disk q (process_in procs q).priority in
    let some = entered_there system.kernel.disk q (process_in procs q).priority in
    record {
      answers = answers;
      acts = f.acts;
      home = record { lives = f.home.lives; resides = f.home.resides; answers = f.home.answers; goes_on = f.home.goes_on; calls = f.home.calls; set = f.home.set; pays = f.home.pays };
      asks = λ is. absurd (never_attaches (after answers).row (after answers) f.filed.files is);
      filed = λ _. record { files = f.filed.files; kept = f.filed.kept; block = f.filed.block };
      awaits = record {
        table = table_removed system.kernel.dispatcher.lists q f.none.table;
        few = omega (arith, f.none.few);
        at_once = λ all. absurd (omega (arith, all, f.none.few, some, files_places answers (at_disk disk q) f.filed.files));
      };
      owns = λ has. (f.has has).0;
      printed = λ has. (f.has has).1;
      came = f.came;
      so = so;
      stays = stays;
    }

own_file_called : {Such New : List Answer → Type 0} (q : ℕ) (answers : List Answer) (told : Directly) (system : System) (outputs : List Output) → MakesFiled q answers system outputs
    → Called Such New q q told system → Such answers → Goes New q (file_called told q system) outputs
unfolding file_called
own_file_called {Such} {New} q answers told system outputs f c so =
    either (λ (change : SystemChange). Goes New q change outputs) (is_done_at_once q system) _ _
    (λ once. let own = (c.at_once once).own refl answers f.home f.filed so in own_concluded q answers told system outputs f own.0 own.1 c.stays)
    (λ waits. own_waits q answers system outputs f (c.waits waits answers so) c.stays)

-- it makes the call

called_files : {Such : List Answer → Type 0} (seg : Option ℕ) (q : ℕ) (system : System) (outputs : List Output) (i : Spools Such q system outputs) → seg ≡ None → is_file_number (called_next seg q system) ≡ true
    → is_of_files (next_call (after i.answers)).function ≡ true
called_files {Such} (Some seg) q system outputs i home is = absurd (cc)
called_files {Such} None q system outputs i home is = sym (ap (λ (o : Option Native). is_file_number (option_map (λ (native : Native). (native_call native).function) o)) i.acts) ∙ is

none_waits : {Such : List Answer → Type 0} (q : ℕ) (system : System) (outputs : List Output) (i : Spools Such q system outputs) → is_of_files (next_call (after i.answers)).function ≡ true → at_disk system.kernel.disk q ≡ 0
    → AwaitsIn 0 q system.kernel
none_waits {Such} q system outputs i files gone = subst (λ (k : ℕ). AwaitsIn k q system.kernel) (files_places i.answers (at_disk system.kernel.disk q) files ∙ gone) i.awaits

own_asked : {Such : List Answer → Type 0} (q : ℕ) (system : System) (outputs : List Output) → IsWhole system → IsReady system.kernel.dispatcher q → (i : Spools Such q system outputs)
    → is_of_files (next_call (after i.answers)).function ≡ true → MakesFiled q i.answers (asking q (next_call (after i.answers)) system) outputs
unfolding next_call
own_asked {Such} q system outputs w ready i files =
    let call = next_call (after i.answers) in
    let procs = system.kernel.dispatcher.procs in
    let below = lives_below procs q w.sound.slots i.home.lives in
    let gone = ready_not_at_disk system.kernel q w.sound ready in
    record {
      acts = i.acts;
      home = home_asked q call system w (mild_row (after i.answers).row (after i.answers)) i.home;
      filed = record {
        files = files;
        kept = ap (λ (c : Taken). c.function) (call_changed procs q call (omega (arith, w.sound.slots.calls, below)));
        block = ap (λ (c : Taken). c.fcb) (call_changed procs q call (omega (arith, w.sound.slots.calls, below)));
      };
      none = none_waits q system outputs i files gone;
      gone = gone;
      has = λ has. (i.owns has, i.printed has);
      came = i.came;
    }

own_made : {Such : List Answer → Type 0} (q : ℕ) (system : System) (outputs : List Output) → IsWhole system → IsReady system.kernel.dispatcher q → (i : Spools Such q system outputs) → calls_files q system ≡ true
    → MakesFiled q i.answers (call_made q system) outputs
unfolding call_made calls_files spooling_by
own_made {Such} q system outputs w ready i is =
    let now = counted system in
    let b = spooling_by q system (silent now) outputs (spares_same q system now refl refl refl refl refl refl (λ x. x)) i in
    let files = called_files (process_in system.kernel.dispatcher.procs q).seg q system outputs i i.home.resides is in
    let own : MakesFiled q i.answers (asking q (next_call (after i.answers)) now) outputs = own_asked q now outputs (whole_counted system w) ready b files in
    subst (λ (seg : Option ℕ). MakesFiled q i.answers (made_by seg q now) outputs) (sym i.home.resides)
    (subst (λ (o : Option Native). MakesFiled q i.answers (asked_by o q now) outputs) (sym i.acts) own)

pub goes_file_called : {Such New : List Answer → Type 0} (q : ℕ) (told : Directly) (p : ℕ) (system : System) (outputs : List Output) → IsWhole system → Lives system.kernel.dispatcher.procs p → IsReady system.kernel.dispatcher p
    → calls_files p system ≡ true → Called Such New q p told (call_made p system) → Spools Such q system outputs → Goes New q (file_called told p (call_made p system)) outputs
goes_file_called {Such} {New} q told p system outputs w h ready is c i = elim (cases_eq q p) [
  | inl same ↦
      let P : ℕ → Type 0 = λ r. Goes New q (file_called told r (call_made r system)) outputs in
      let Q : ℕ → Type 0 = λ r. Called Such New q r told (call_made r system) in
      subst P same (own_file_called q i.answers told (call_made q system) outputs
      (own_made q system outputs w (subst (λ (r : ℕ). IsReady system.kernel.dispatcher r) (sym same) ready) i (subst (λ (r : ℕ). calls_files r system ≡ true) (sym same) is))
      (subst Q (sym same) c) i.so)
  | inr other ↦
      let made = makes p system w h in
      goes_spared q system _ outputs
      (spares_after q system (call_made p system) _ (spares_made q p system other) (spares_file_called q told p (call_made p system) made.whole made.lives other))
      (so_then q system outputs i c.stays (others_so q p told (call_made p system) c other i.answers i.so))
]
