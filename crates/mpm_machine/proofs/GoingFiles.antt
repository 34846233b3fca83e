-- The command line interpreter makes a file call, which is done at once, or waits for the disk, is served, and is over in a later step.
-- While it is at the disk, the interpreter's row is one that makes such a call, and after it the interpreter awaits nothing.
use Rattle.std.proofs.Common.{ℕ, zero, suc, ◌≡◌, ◌≢◌, ◌∙◌, ◌==◌, if◌then◌else◌, Bool, true, false, Option, Some, None, inl, inr, refl, sym, ap, subst, arith}
use Rattle.std.proofs.lemmas.Bool.{false≢true, cases_lt}
use Rattle.std.specs.Option.{option_map}
use Rattle.mpm_base.proofs.Choices.{either}
use Rattle.mpm_base.specs.Calls.{Answer}
use Rattle.mpm_directories.specs.Direct.{Directly, CallerChange, Resets, Selects, Stays}
use Rattle.mpm_file_functions.specs.declared.refusals.Extended.{Extended}
use Rattle.mpm_residents.specs.Interpreters.{Interpreter, call_at, next_call}
use Rattle.mpm_residents.specs.declared.cli.table.Row.{Row}
use Rattle.mpm_residents.specs.declared.cli.table.Row.TheVariants.{ReadCommand, OpenQueue, WriteQueue, SetUser, OpenRelocatable, OpenAbsolute, ReadHeader, ComputeSize, SetUserZero, Reserve, Place, Patch, ReadOn, Free, CloseAfter, Close, Tell, Give, PlaceBasePage, Begin}
use Rattle.mpm_dispatcher.specs.Dispatch.{IsReady}
use Rattle.mpm_kernel.proofs.AwaitingLaws.{awaits_removed}
use Rattle.mpm_kernel.proofs.Beside.{beside_same, beside_changed}
use Rattle.mpm_kernel.proofs.DiskLaws.{ready_not_at_disk, sound_turned, over_turned, sound_ready_again, ready_ready_again}
use Rattle.mpm_kernel.specs.Awaiting.{completions}
use Rattle.mpm_kernel.specs.Disk.{with_disk, waiting_for_disk, ready_again as made_ready_again}
use Rattle.mpm_procs.specs.Table.{Lives, process_in, call_of}
use Rattle.mpm_ready.proofs.TableLaws.{table_removed}
use Rattle.mpm_residents.specs.Natives.{native_in, native_call}
use Rattle.mpm_residents.specs.declared.native.Native.{Native}
use Rattle.mpm_service.proofs.PlaceLaws.{at_entered_other, at_last}
use Rattle.mpm_service.specs.Disk.{entered, turned, turn_answer}
use Rattle.mpm_service.specs.Places.{at_disk}
use Rattle.mpm_service.specs.declared.service.Turn.TheVariants.{Work}
use Rattle.mpm_kernel.specs.Columns.{spoke}
use Rattle.mpm_system.specs.FileCalling.{call_made, error_told, file_replied, first_dma, made_by, reply_by, with_caller}
use Rattle.mpm_system.specs.Residents.{asked_by}
use Rattle.mpm_system.specs.Taking.{asked, keeping}
use Rattle.mpm_system.specs.Whole.{SystemChange, IsWhole, speaking}
use Rattle.mpm_system.specs.Coming.{counted}
use Rattle.mpm_system.specs.declared.system.System.{System}
use Rattle.mpm_machine.proofs.DiskStepLaws.{entered_there}
use Rattle.mpm_machine.proofs.FileLaws.{whole_caller, whole_told}
use Rattle.mpm_machine.proofs.GoingOn.{another, own_call, acts_with}
use Rattle.mpm_machine.proofs.GoingOwn.{same_interpreter, mild_next, nothing_left}
use Rattle.mpm_machine.proofs.GoingParts.{same_place, still_awaits, goes_answering, goes_ended, goes_keeping, goes_kernel, goes_popped, goes_same, goes_spoke, goes_with, others_call, own_asked}
use Rattle.mpm_machine.proofs.OwnLaws.{AwaitsNothing, awaits_less, is_reserving, interprets_taken, interprets_another}
use Rattle.mpm_machine.proofs.WholeStepLaws.{whole_counted}
use Rattle.mpm_machine.specs.DiskStep.{file_called, is_done_at_once, ready_again, step_passed}
use Rattle.mpm_machine.specs.FileCalls.{answered_by, concluded, error_met, told_then, is_of_files, called_next, is_file_number, calls_files}
use Rattle.mpm_machine.specs.Interpreting.{Interprets, IsActing, is_reading, awaited}

-- a row that makes a call on files neither reserves nor reads a command
no_files_there : (row : Row) (cli : Interpreter) → is_of_files (call_at row cli).function ≡ true → (is_reserving row ≡ false) × (is_reading row ≡ false)
unfolding is_of_files Rattle.mpm_file_functions.specs.Functions.function_of Rattle.mpm_file_functions.specs.Functions.direct_of
no_files_there ReadCommand cli is = absurd (cc)
no_files_there (Reserve true pages) cli is = absurd (cc)
no_files_there (Reserve false pages) cli is = absurd (cc)
no_files_there OpenQueue cli is = (refl, refl)
no_files_there WriteQueue cli is = (refl, refl)
no_files_there SetUser cli is = (refl, refl)
no_files_there OpenRelocatable cli is = (refl, refl)
no_files_there OpenAbsolute cli is = (refl, refl)
no_files_there ReadHeader cli is = (refl, refl)
no_files_there ComputeSize cli is = (refl, refl)
no_files_there SetUserZero cli is = (refl, refl)
no_files_there Place cli is = (refl, refl)
no_files_there Patch cli is = (refl, refl)
no_files_there ReadOn cli is = (refl, refl)
no_files_there (Free message) cli is = (refl, refl)
no_files_there (CloseAfter message) cli is = (refl, refl)
no_files_there Close cli is = (refl, refl)
no_files_there (Tell message) cli is = (refl, refl)
no_files_there Give cli is = (refl, refl)
no_files_there PlaceBasePage cli is = (refl, refl)
no_files_there Begin cli is = (refl, refl)

pub neither_at : (cli : Interpreter) → is_of_files (next_call cli).function ≡ true → (is_reserving cli.row ≡ false) × (is_reading cli.row ≡ false)
unfolding next_call
neither_at cli is = no_files_there cli.row cli is

-- a file call comes to what is answered

goes_caller : (change : CallerChange) (p : ℕ) (system : System) → Interprets system → Interprets (with_caller change p system)
unfolding with_caller
goes_caller Stays p system a = a
goes_caller (Selects drive) p system a =
    goes_with system _ refl (beside_changed system.kernel.dispatcher.procs p 0 (record (process_in system.kernel.dispatcher.procs p) { drive = drive }) refl refl (λ _. refl) (λ _. refl)) refl refl refl refl refl a
goes_caller Resets p system a =
    let process = process_in system.kernel.dispatcher.procs p in
    goes_with system _ refl (beside_changed system.kernel.dispatcher.procs p 0 (record process { drive = 0; dma = first_dma system.memory process.seg }) refl refl (λ _. refl) (λ _. refl)) refl refl refl refl refl a

-- a caller in slot 0 made a file call, and awaits nothing
pub record FilesAt (p : ℕ) (system : System) : Type 0 where
  pub interprets : Interprets system
  pub files : 0 ≡ p → is_of_files (next_call interprets.acting.cli).function ≡ true
  pub none : 0 ≡ p → AwaitsNothing system.kernel

same_files : (p : ℕ) (old new : System) (f : FilesAt p old) → (i : Interprets new) → new.residents ≡ old.residents → new.kernel.disk ≡ old.kernel.disk
    → new.kernel.dispatcher.lists ≡ old.kernel.dispatcher.lists → new.kernel.dispatcher.completed ≡ old.kernel.dispatcher.completed → FilesAt p new
same_files p old new f i same disk lists completed = record {
  interprets = i;
  files = λ is. ap (λ (c : Interpreter). is_of_files (next_call c).function) (same_interpreter old new f.interprets i same) ∙ f.files is;
  none = λ is. (still_awaits 0 old.kernel new.kernel lists completed (f.none is).0, same_place old.kernel new.kernel disk ∙ (f.none is).1);
}

goes_reply_by : (seg : Option ℕ) (reply : Answer) (p : ℕ) (system : System) → FilesAt p system → Interprets (reply_by seg reply p system)
goes_reply_by (Some seg) reply p system f = goes_answering reply (call_of system.kernel.dispatcher.procs p) p seg system f.interprets
goes_reply_by None reply zero system f = interprets_taken system reply f.interprets (neither_at f.interprets.acting.cli (f.files refl)).0 (f.none refl)
goes_reply_by None reply (suc q) system f = interprets_another system reply q f.interprets

goes_file_replied : (reply : Answer) (p : ℕ) (system : System) → FilesAt p system → Interprets (file_replied reply p system)
unfolding file_replied
goes_file_replied reply p system f = goes_reply_by (process_in system.kernel.dispatcher.procs p).seg reply p system f

pub goes_told : (error : Extended) (p : ℕ) (system : System) → FilesAt p system → FilesAt p (error_told error p system).system
unfolding error_told speaking spoke
goes_told error p system f =
    same_files p system (error_told error p system).system f (goes_spoke (process_in system.kernel.dispatcher.procs p).console _ system f.interprets) refl refl refl refl

goes_told_then : (answers : Bool) (error : Extended) (reply : Answer) (p : ℕ) (system : System) → IsWhole system → Lives system.kernel.dispatcher.procs p → 0 ≢ p
    → FilesAt p system → Interprets (told_then answers error reply p system).system
unfolding told_then
goes_told_then true error reply p system w h other f = goes_file_replied reply p _ (goes_told error p system f)
goes_told_then false error reply p system w h other f =
    let told = whole_told error p system w h in goes_ended p (error_told error p system).system told.whole told.lives other (goes_told error p system f).interprets

-- its own extended errors are answers
not_answered : (p : ℕ) (system : System) → IsActing system → ((process_in system.kernel.dispatcher.procs p).error_mode == 255) ≡ false → 0 ≢ p
not_answered p system a e = λ is.
    false≢true (sym e ∙ ap (λ n. (process_in system.kernel.dispatcher.procs n).error_mode == 255) (sym is) ∙ ap (λ mode. mode == 255) a.answers)

goes_met : (error : Extended) (reply : Answer) (p : ℕ) (system : System) → IsWhole system → Lives system.kernel.dispatcher.procs p → FilesAt p system
    → Interprets (error_met error reply p system).system
unfolding error_met
goes_met error reply p system w h f =
    let mode = (process_in system.kernel.dispatcher.procs p).error_mode in
    either (λ (c : SystemChange). Interprets c.system) (mode == 255) _ _ (λ _. goes_file_replied reply p system f)
    (λ not. goes_told_then (mode == 254) error reply p system w h (not_answered p system f.interprets.acting not) f)

goes_answered_by : (error : Option Extended) (reply : Answer) (p : ℕ) (system : System) → IsWhole system → Lives system.kernel.dispatcher.procs p → FilesAt p system
    → Interprets (answered_by error reply p system).system
goes_answered_by None reply p system w h f = goes_file_replied reply p system f
goes_answered_by (Some error) reply p system w h f = goes_met error reply p system w h f

pub files_with_caller : (change : CallerChange) (p : ℕ) (system : System) → FilesAt p system → FilesAt p (with_caller change p system)
unfolding with_caller
files_with_caller Stays p system f = f
files_with_caller (Selects drive) p system f = same_files p system _ f (goes_caller (Selects drive) p system f.interprets) refl refl refl refl
files_with_caller Resets p system f = same_files p system _ f (goes_caller Resets p system f.interprets) refl refl refl refl

pub goes_concluded : (told : Directly) (p : ℕ) (system : System) → IsWhole system → Lives system.kernel.dispatcher.procs p → FilesAt p system
    → Interprets (concluded told p system).system
unfolding concluded
goes_concluded told p system w h f =
    let changed = whole_caller told.caller p system w h in
    goes_answered_by told.extended told.answer p (with_caller told.caller p system) changed.whole changed.lives (files_with_caller told.caller p system f)

-- the call is made

called_by_own : (seg : Option ℕ) (system : System) (i : Interprets system) → seg ≡ None → is_file_number (called_next seg 0 system) ≡ true → is_of_files (next_call i.acting.cli).function ≡ true
called_by_own (Some seg) system i home is = absurd (cc)
called_by_own None system i home is =
    sym (ap (λ (o : Option Native). is_file_number (option_map (λ (native : Native). (native_call native).function) o)) i.acting.acts) ∙ is

asked_another : (o : Option Native) (p : ℕ) (system : System) → 0 ≢ p → Interprets system → Interprets (asked_by o p system)
asked_another None p system other i = i
asked_another (Some native) p system other i = others_call p (native_call native) system other i

files_by : (seg : Option ℕ) (p : ℕ) (system : System) → IsWhole system → IsReady system.kernel.dispatcher p → (process_in system.kernel.dispatcher.procs p).seg ≡ seg
    → Interprets system → is_file_number (called_next seg p system) ≡ true → FilesAt p (made_by seg p system)
unfolding own_asked own_call
files_by (Some seg) p system w ready home i is =
    let other = another p seg system i.acting home in
    record {
      interprets = goes_popped p seg (keeping p (asked p seg system) system) (goes_keeping p (asked p seg system) system other i);
      files = λ zero_is. absurd (other zero_is);
      none = λ zero_is. absurd (other zero_is);
    }
files_by None zero system w ready home i is =
    let own = called_by_own None system i refl is in
    let P : Option Native → Type 0 = λ o. FilesAt 0 (asked_by o 0 system) in
    subst P (sym i.acting.acts) (record {
      interprets = own_asked (next_call i.acting.cli) system w (mild_next i.acting.cli) i;
      files = λ _. own;
      none = λ _. nothing_left system i i.acting.cli.row refl (neither_at i.acting.cli own).1 (ready_not_at_disk system.kernel 0 w.sound ready);
    })
files_by None (suc q) system w ready home i is =
    let other : 0 ≢ suc q = λ e. absurd (cc) in
    record {
      interprets = asked_another (native_in system.residents (suc q)) (suc q) system other i;
      files = λ e. absurd (other e);
      none = λ e. absurd (other e);
    }

counted_calls : (seg : Option ℕ) (p : ℕ) (system : System) → called_next seg p (counted system) ≡ called_next seg p system
counted_calls None p system = refl
counted_calls (Some seg) p system = refl

pub files_made : (p : ℕ) (system : System) → IsWhole system → IsReady system.kernel.dispatcher p → Interprets system → calls_files p system ≡ true → FilesAt p (call_made p system)
unfolding call_made calls_files
files_made p system w ready i is =
    let s = counted system in
    let b = goes_same system s refl refl refl refl refl refl refl i in
    let seg = (process_in system.kernel.dispatcher.procs p).seg in
    files_by seg p s (whole_counted system w) ready refl b (ap is_file_number (counted_calls seg p system) ∙ is)

-- it waits for the disk

awaits_places : (cli : Interpreter) (places : ℕ) → is_of_files (next_call cli).function ≡ true → awaited places cli.row ≡ places
awaits_places cli places files = ap (λ (b : Bool). if b then 1 else places) (neither_at cli files).1

own_waits : (system : System) → FilesAt 0 system → Interprets (record system { kernel = waiting_for_disk 0 system.kernel })
unfolding waiting_for_disk acts_with
own_waits system f =
    let i = f.interprets in
    let procs = system.kernel.dispatcher.procs in
    let disk = entered system.kernel.disk 0 (process_in procs 0).priority in
    let none = (f.none refl).0 in
    let some = entered_there system.kernel.disk 0 (process_in procs 0).priority in
    record {
      acting = acts_with system (record system { kernel = waiting_for_disk 0 system.kernel }) refl (beside_same 0 procs procs refl) refl i.acting;
      few = i.few;
      homes = i.homes;
      has = i.has;
      filed = λ _. f.files refl;
      awaits = record {
        table = table_removed system.kernel.dispatcher.lists 0 none.table;
        few = omega (arith, none.few);
        at_once = λ all. absurd (omega (arith, all, none.few, some, awaits_places i.acting.cli (at_disk disk 0) (f.files refl)));
      };
    }

goes_waiting : (p : ℕ) (system : System) → FilesAt p system → Interprets (record system { kernel = waiting_for_disk p system.kernel })
unfolding waiting_for_disk
goes_waiting zero system f = own_waits system f
goes_waiting (suc q) system f =
    let procs = system.kernel.dispatcher.procs in
    let other : 0 ≢ suc q = λ e. absurd (cc) in
    goes_kernel system (waiting_for_disk (suc q) system.kernel) (beside_same 0 procs procs refl) refl
    (at_entered_other system.kernel.disk (suc q) 0 (process_in procs (suc q)).priority other)
    (λ k x. awaits_removed k 0 system.kernel.dispatcher.lists system.kernel.dispatcher.completed (suc q) other x) f.interprets

pub goes_file_called : (told : Directly) (p : ℕ) (system : System) → IsWhole system → Lives system.kernel.dispatcher.procs p → FilesAt p system
    → Interprets (file_called told p system).system
unfolding file_called
goes_file_called told p system w h f =
    either (λ (c : SystemChange). Interprets c.system) (is_done_at_once p system) _ _ (λ _. goes_concluded told p system w h f) (λ _. goes_waiting p system f)

-- its call is over: it awaited no other answer

over_awaits : (system : System) → IsWhole system → (i : Interprets system) → at_disk system.kernel.disk 0 ≡ 1 → completions 0 system.kernel.dispatcher.completed ≡ 0
over_awaits system w i one = elim (cases_lt (completions 0 system.kernel.dispatcher.completed) 1) [
  | inl less ↦ omega (arith, less)
  | inr enough ↦
      let k = awaits_places i.acting.cli (at_disk system.kernel.disk 0) (i.filed (omega (arith, one))) in
      absurd (omega (arith, one, ready_not_at_disk system.kernel 0 w.sound (i.awaits.at_once (omega (arith, enough, k, one)))))
]

pub own_over : (system : System) → IsWhole system → turn_answer system.kernel.disk ≡ Work 0 true → Interprets system → FilesAt 0 (ready_again 0 (step_passed system))
unfolding acts_with
own_over system w last i =
    let procs = system.kernel.dispatcher.procs in
    let kernel = with_disk turned system.kernel in
    let gone = at_last system.kernel.disk 0 last in
    let one : at_disk system.kernel.disk 0 ≡ 1 = omega (arith, gone, w.sound.once 0) in
    let none = over_awaits system w i one in
    let over = over_turned system.kernel 0 w.sound last in
    let passed = sound_turned system.kernel w.sound in
    let again = made_ready_again 0 kernel in
    let apart : at_disk (turned system.kernel.disk) 0 ≡ 0 = omega (arith, gone, one) in
    let nothing : AwaitsNothing again = (
      record { table = (sound_ready_again kernel 0 passed over).table; few = omega (arith, none); at_once = λ _. ready_ready_again kernel 0 passed over },
      apart,
    ) in
    record {
      interprets = record {
        acting = acts_with system (ready_again 0 (step_passed system)) refl (beside_same 0 procs procs refl) refl i.acting;
        few = i.few;
        homes = i.homes;
        has = i.has;
        filed = λ some. absurd (omega (arith, some, apart));
        awaits = awaits_less (awaited (at_disk (turned system.kernel.disk) 0) i.acting.cli.row) again nothing.0;
      };
      files = λ _. i.filed (omega (arith, one));
      none = λ _. nothing;
    }
