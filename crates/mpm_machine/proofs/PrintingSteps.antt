-- The spooler prints its file in each step: what it has read stays the file's.
use Rattle.std.proofs.Common.{◌≡◌, ◌≢◌, ◌∙◌, ℕ, ◌+◌, ◌<◌, ◌==◌, ◌||◌, Bool, true, false, if◌then◌else◌, List, ◌∷◌, Option, Some, None, refl, sym, ap, subst, arith}
use Rattle.std.specs.Prelude.{◌%◌, is_none, is_some, option_and_then, option_map, ⊤}
use Rattle.std.proofs.lemmas.Bool.{false≢true, eq-eqb, eqb-true}
use Rattle.std.proofs.lemmas.Option.{none-some}
use Rattle.mpm_base.proofs.Choices.{either}
use Rattle.mpm_base.specs.Calls.{Taken, Answer}
use Rattle.mpm_bdos.proofs.SoundLaws.{call_keeps_sound}
use Rattle.mpm_bdos.specs.Outcomes.{file_call}
use Rattle.mpm_directories.specs.Direct.{Directly}
use Rattle.mpm_directories.specs.Direct.{Stays as Unchanged}
use Rattle.mpm_file_functions.specs.Functions.{function_of, direct_of}
use Rattle.mpm_file_functions.specs.declared.functions.FileFunction.{FileFunction}
use Rattle.mpm_file_functions.specs.declared.refusals.Extended.{Extended}
use Rattle.mpm_procs.specs.Table.{process_in, call_of}
use Rattle.mpm_render.specs.Outputs.{Output}
use Rattle.mpm_residents.specs.Natives.{native_in}
use Rattle.mpm_residents.specs.declared.native.Native.{Native}
use Rattle.mpm_ready.proofs.OrderLaws.{first_is_in}
use Rattle.mpm_ready.specs.Order.{in_list, first_of}
use Rattle.mpm_refusals.specs.Filing.{Filing, Situation}
use Rattle.mpm_service.specs.Disk.{DiskService, answer_by, is_last_step, step_answer, turn_answer, served_process}
use Rattle.mpm_service.specs.Places.{at_disk, is_call_of}
use Rattle.mpm_service.specs.declared.service.Served.{Served}
use Rattle.mpm_service.specs.declared.service.Turn.{Turn}
use Rattle.mpm_service.specs.declared.service.Turn.TheVariants.{Idle, Passing, Work, Starts}
use Rattle.mpm_spool.specs.Spoolers.{Spooler, call_at, next_call, after}
use Rattle.mpm_spool.specs.declared.table.Row.{Row}
use Rattle.mpm_spool.specs.declared.table.Row.TheVariants.{ReadList, Open, Attach, AskStop, Read, Print, Detach, Close, Delete}
use Rattle.mpm_system.specs.Answering.{popped}
use Rattle.mpm_system.specs.Coming.{counted}
use Rattle.mpm_system.specs.FileCalling.{call_made, change_of, made_by}
use Rattle.mpm_system.specs.Residents.{asked_by}
use Rattle.mpm_system.specs.Taking.{keeping}
use Rattle.mpm_system.specs.Whole.{IsWhole}
use Rattle.mpm_system.specs.declared.system.System.{System}
use Rattle.mpm_machine.proofs.FileStays.{ReadsAs, called_stays, served_stays, given_stays, entered_stays}
use Rattle.mpm_machine.proofs.LockLaws.{sound_called, sound_served, sound_given, sound_entered}
use Rattle.mpm_machine.proofs.PrintingLaws.{stays_reading, reads_on, own_answered}
use Rattle.mpm_machine.proofs.ServedFiles.{served_first, served_next, filed_next, turns_next}
use Rattle.mpm_machine.proofs.ServeLaws.{over_files}
use Rattle.mpm_machine.proofs.SpoolingDisk.{Over, Begins, Rests, goes_in_step}
use Rattle.mpm_machine.proofs.SpoolingFiles.{Called, Passes}
use Rattle.mpm_machine.proofs.SpoolingLaws.{Spools, spools_as}
use Rattle.mpm_machine.proofs.SpoolingRows.{Goes}
use Rattle.mpm_machine.proofs.TextLaws.{prints_file}
use Rattle.mpm_machine.specs.After.{next}
use Rattle.mpm_machine.specs.DiskStep.{is_done_at_once, done_at_once, files_called, told_at_gate, step_passed, ready_again, disk_served, files_over, files_served_by, files_served, within_call, files_entered_by, files_entered_unless, files_entered, over_by, process_over}
use Rattle.mpm_machine.specs.FileCalls.{file_caller, is_of_files, outcome_by, outcome_in, situation_of}
use Rattle.mpm_machine.specs.Files.{FilesInService, Between, Within, filing_in, owes, given_back}
use Rattle.mpm_machine.specs.Printing.{ServedBy, HasTurns, IsItsCall, IfItsCall, ReadsOpenFile, IsPrinting}
use Rattle.mpm_machine.specs.Slots.{Settings}
use Rattle.mpm_machine.specs.Spooling.{IsAtHome, KeepsFileCall, IsSpooling}
use Rattle.mpm_machine.specs.State.{State}
use Rattle.mpm_machine.specs.Stepping.{told_first_by, told_first, files_begun_by, files_begun, before_disk, told_by_process, told_within, paid_after, entered_after, ended_after, files_paid, files_then, telling_then, files_rest, telling_of, step_with, stepped}

-- what it has of its file, as files are
abbrev pub Reads : ℕ → FilesInService → List Answer → Type 0
Reads q files answers = ReadsOpenFile q answers files

-- its calls change nothing of its process

unchanged_row : (row : Row) (s : Spooler) (call : Taken) (error : Option Extended) → is_of_files (call_at row s).function ≡ true → call.function ≡ (call_at row s).function → change_of call error ≡ Unchanged
unfolding is_of_files Rattle.mpm_file_functions.specs.Functions.function_of Rattle.mpm_file_functions.specs.Functions.direct_of change_of
unchanged_row Open s call error files is = subst (λ (f : ℕ). change_of (record call { function = f }) error ≡ Unchanged) (sym is) refl
unchanged_row Read s call error files is = subst (λ (f : ℕ). change_of (record call { function = f }) error ≡ Unchanged) (sym is) refl
unchanged_row Close s call error files is = subst (λ (f : ℕ). change_of (record call { function = f }) error ≡ Unchanged) (sym is) refl
unchanged_row Delete s call error files is = subst (λ (f : ℕ). change_of (record call { function = f }) error ≡ Unchanged) (sym is) refl
unchanged_row ReadList s call error files is = absurd (false≢true files)
unchanged_row Attach s call error files is = absurd (false≢true files)
unchanged_row AskStop s call error files is = absurd (false≢true files)
unchanged_row Print s call error files is = absurd (false≢true files)
unchanged_row Detach s call error files is = absurd (false≢true files)

pub unchanged : (q : ℕ) (answers : List Answer) (system : System) (error : Option Extended) → KeepsFileCall q answers system → change_of (call_of system.kernel.dispatcher.procs q) error ≡ Unchanged
unfolding next_call
unchanged q answers system error f = unchanged_row (after answers).row (after answers) (call_of system.kernel.dispatcher.procs q) error f.files f.kept

-- so it is where one is done at once
pub unchanged_at_gate : (q p : ℕ) (answers : List Answer) (system : System) (files : FilesInService) → q ≡ p → KeepsFileCall q answers system → (told_at_gate p system files).caller ≡ Unchanged
unchanged_at_gate q p answers system files same f =
    let error = (outcome_in (filing_in files) p system).extended in
    ap (λ (n : ℕ). change_of (call_of system.kernel.dispatcher.procs n) error) (sym same) ∙ unchanged q answers system error f

-- they are served by the disk

served_row : (row : Row) (s : Spooler) → is_of_files (call_at row s).function ≡ true → is_some (function_of (call_at row s).function) ≡ true
unfolding is_of_files Rattle.mpm_file_functions.specs.Functions.function_of Rattle.mpm_file_functions.specs.Functions.direct_of
served_row Open s files = refl
served_row Read s files = refl
served_row Close s files = refl
served_row Delete s files = refl
served_row ReadList s files = absurd (false≢true files)
served_row Attach s files = absurd (false≢true files)
served_row AskStop s files = absurd (false≢true files)
served_row Print s files = absurd (false≢true files)
served_row Detach s files = absurd (false≢true files)

some_function : (o : Option FileFunction) → is_some o ≡ true → (function : FileFunction) × (o ≡ Some function)
some_function None some = absurd (false≢true some)
some_function (Some function) some = (function, refl)

its_function : (q : ℕ) (answers : List Answer) (system : System) → KeepsFileCall q answers system → (function : FileFunction) × (function_of (call_of system.kernel.dispatcher.procs q).function ≡ Some function)
unfolding next_call
its_function q answers system f =
    some_function (function_of (call_of system.kernel.dispatcher.procs q).function)
    (ap (λ (n : ℕ). is_some (function_of n)) f.kept ∙ served_row (after answers).row (after answers) f.files)

-- as its call enters service

pub its_situation : (q : ℕ) (answers : List Answer) (filing : Filing) (function : FileFunction) (system : System) → IsAtHome q system → KeepsFileCall q answers system
    → function_of (call_of system.kernel.dispatcher.procs q).function ≡ Some function → IsItsCall answers (situation_of filing function q system)
its_situation q answers filing function system h f is = record {
  function = ap function_of (sym f.kept) ∙ is;
  block = f.block;
  drive = ap (λ (x : Settings). x.drive) h.set;
  user = ap (λ (x : Settings). x.user % 16) h.set;
  multi = ap (λ (x : Settings). x.multi) h.set;
}

-- another's call

others_read : (q p : ℕ) (function : Option FileFunction) → q ≢ p → ReadsAs q p function
others_read q p None other = tt
others_read q p (Some function) other = λ same. absurd (other (sym same))

its_called : (q : ℕ) (answers : List Answer) (p : ℕ) (system : System) (files : FilesInService) → IfItsCall q answers files → IfItsCall q answers (files_called p system files)
unfolding files_called
its_called q answers p system files c =
    either (IfItsCall q answers) (is_done_at_once p system) _ files (λ _. at_once files c) (λ _. c)
  where
    at_once : (files : FilesInService) → IfItsCall q answers files → IfItsCall q answers (done_at_once p system files)
    at_once (Between filing) c = tt
    at_once (Within s) c = c

-- its own is done at once: then no call is in service

pub served_there : (disk : DiskService) (call : Served) → disk.served ≡ Some call → 0 < at_disk disk call.p
unfolding at_disk
served_there disk call is =
    let its : is_call_of call.p disk.served ≡ true = ap (is_call_of call.p) is ∙ eq-eqb call.p call.p refl in
    subst (λ (b : Bool). 0 < (if in_list call.p disk.waiting then 1 else 0) + (if b then 1 else 0)) (sym its) (omega arith)

not_within : (disk : DiskService) (s : Situation) → ServedBy disk.served (Within s) → HasTurns disk → (disk.turn_steps == 0) ≡ true → ⊥
not_within disk s by turns none = by_served disk.served refl by where
  by_served : (served : Option Served) → disk.served ≡ served → ServedBy served (Within s) → ⊥
  by_served None is by = by
  by_served (Some call) is by =
      let some : 0 < disk.turn_steps = turns call.p (served_there disk call is) in
      let empty : disk.turn_steps ≡ 0 = eqb-true disk.turn_steps 0 none in
      absurd (omega (arith, some, empty))

at_once_turns : (o : Option FileFunction) (b : Bool) → is_some o ≡ true → (is_none o || b) ≡ true → b ≡ true
at_once_turns None b some once = absurd (false≢true some)
at_once_turns (Some function) b some once = once

module _ (q : ℕ) (system : System) (files : FilesInService) where
  own_at_once : (answers : List Answer) → ServedBy system.kernel.disk.served files → HasTurns system.kernel.disk → IsAtHome q system → KeepsFileCall q answers system
      → is_done_at_once q system ≡ true → Reads q files answers → Reads q (done_at_once q system files) ((told_at_gate q system files).answer ∷ answers)
  unfolding outcome_in
  own_at_once answers by sound h f once r = by_files files by r where
    function : (f : FileFunction) × (function_of (call_of system.kernel.dispatcher.procs q).function ≡ Some f)
    function = its_function q answers system f

    turns : (system.kernel.disk.turn_steps == 0) ≡ true
    turns = at_once_turns (function_of (call_of system.kernel.dispatcher.procs q).function) (system.kernel.disk.turn_steps == 0) (ap is_some function.1) once

    by_files : (files : FilesInService) → ServedBy system.kernel.disk.served files → Reads q files answers
        → Reads q (done_at_once q system files) ((told_at_gate q system files).answer ∷ answers)
    by_files (Within s) by r = absurd (not_within system.kernel.disk s by sound turns)
    by_files (Between filing) by r =
        let number = (call_of system.kernel.dispatcher.procs q).function in
        let call = situation_of filing function.0 q system in
        subst (λ (o : Option FileFunction). Reads q (Between (outcome_by o (direct_of number) filing q system).filing) ((outcome_by o (direct_of number) filing q system).answer ∷ answers)) (sym function.1)
        (own_answered q answers call (its_situation q answers filing function.0 system h f function.1) refl r.opens (call_keeps_sound call r.opens) r.file r.without)

-- what a step begins with

passes_called : (q p : ℕ) (system : System) (files : FilesInService) → ServedBy system.kernel.disk.served files → HasTurns system.kernel.disk → is_done_at_once p system ≡ true
    → Passes (Reads q files) (Reads q (files_called p system files)) q p (told_at_gate p system files) system
unfolding files_called
passes_called q p system files by sound once = record {
  others = λ other answers r.
      reads_on q answers files (files_called p system files)
      (λ key number. called_stays q key number p system files (others_read q p (function_of (call_of system.kernel.dispatcher.procs p).function) other))
      (sound_called p system files r.opens) (its_called q answers p system files r.its_call) r;
  own = λ same answers h f r.
      let P : ℕ → Type 0 = λ n. is_done_at_once n system ≡ true in
      let once_own : is_done_at_once q system ≡ true = subst P (sym same) once in
      let answered : Reads q (done_at_once q system files) ((told_at_gate q system files).answer ∷ answers) = own_at_once q system files answers by sound h f once_own r in (
        unchanged_at_gate q p answers system files same f,
        subst (λ (n : ℕ). Reads q (if is_done_at_once n system then done_at_once n system files else files) ((told_at_gate n system files).answer ∷ answers)) same
            (subst (λ (b : Bool). Reads q (if b then done_at_once q system files else files) ((told_at_gate q system files).answer ∷ answers)) (sym once_own) answered),
      );
}

called_so : (q p : ℕ) (system : System) (files : FilesInService) → ServedBy system.kernel.disk.served files → HasTurns system.kernel.disk
    → Called (Reads q files) (Reads q (files_called p system files)) q p (told_at_gate p system files) system
unfolding files_called
called_so q p system files by sound = record {
  at_once = λ once. passes_called q p system files by sound once;
  waits = λ waits answers r. subst (λ (b : Bool). Reads q (if b then done_at_once p system files else files) answers) (sym waits) r;
  stays = stays_reading q (files_called p system files);
}

asked_disk : (native : Option Native) (p : ℕ) (system : System) → (asked_by native p system).kernel.disk ≡ system.kernel.disk
asked_disk None p system = refl
asked_disk (Some native) p system = refl

made_disk_by : (seg : Option ℕ) (p : ℕ) (system : System) → (made_by seg p system).kernel.disk ≡ system.kernel.disk
unfolding popped keeping
made_disk_by None p system = asked_disk (native_in system.residents p) p system
made_disk_by (Some seg) p system = refl

made_disk : (p : ℕ) (system : System) → (call_made p system).kernel.disk ≡ system.kernel.disk
unfolding call_made
made_disk p system = made_disk_by (process_in system.kernel.dispatcher.procs p).seg p (counted system)

pub same_process : (p r : ℕ) → Some p ≡ Some r → p ≡ r
same_process p r e = cc

begins_by : (q : ℕ) (caller : Option ℕ) (system : System) (files : FilesInService) → ServedBy system.kernel.disk.served files → HasTurns system.kernel.disk
    → Begins (Reads q files) (Reads q (files_begun_by caller system files)) q caller (told_first_by caller system files) system
begins_by q None system files by sound =
    record { made = λ p is. absurd (none-some p is); none = λ _ answers r. r; stays = stays_reading q files }
begins_by q (Some p) system files by sound =
    let made = call_made p system in
    let disk = made_disk p system in
    let c : Called (Reads q files) (Reads q (files_called p made files)) q p (told_at_gate p made files) made =
    called_so q p made files (subst (λ (d : DiskService). ServedBy d.served files) (sym disk) by) (subst HasTurns (sym disk) sound) in
    record {
      made = λ r is. subst (λ (n : ℕ). Called (Reads q files) (Reads q (files_called p made files)) q n (told_at_gate p made files) (call_made n system)) (same_process p r is) c;
      none = λ none. absurd (none-some p (sym none));
      stays = stays_reading q (files_called p made files);
    }

-- the call in service is over

works_call : (turn_steps : ℕ) (served : Option Served) (first : Option ℕ) (p : ℕ) → answer_by turn_steps served first ≡ Work p true → (call : Served) × (served ≡ Some call) × (call.p ≡ p)
unfolding step_answer
works_call turn_steps None None p is = absurd (cc)
works_call turn_steps None (Some r) p is = absurd (cc)
works_call turn_steps (Some call) first p is = (call, refl, by_last (is_last_step turn_steps call) (call.left == 1) call.p p is) where
  by_last : (last done : Bool) (r p : ℕ) → (if last then Work r done else Passing) ≡ Work p true → r ≡ p
  by_last true done r p is = cc
  by_last false done r p is = absurd (cc)

pub works : (disk : DiskService) (p : ℕ) → turn_answer disk ≡ Work p true → (call : Served) × (disk.served ≡ Some call) × (call.p ≡ p)
unfolding turn_answer
works disk p is = works_call disk.turn_steps disk.served (first_of disk.waiting) p is

over_of : (system : System) (p : ℕ) → turn_answer system.kernel.disk ≡ Work p true → process_over system ≡ Some p
unfolding process_over served_process
over_of system p is =
    let w = works system.kernel.disk p is in
    ap (λ (served : Option Served). option_and_then (λ p. over_by (turn_answer system.kernel.disk)) (option_map (λ call. call.p) served)) w.1 ∙ ap over_by is

told_caller : (files : FilesInService) (system : System) (p : ℕ) → turn_answer system.kernel.disk ≡ Work p true
    → (told_within files system).caller ≡ change_of (call_of system.kernel.dispatcher.procs p) (told_within files system).extended
unfolding told_within
told_caller files system p is =
    subst (λ (o : Option ℕ). (told_by_process o files system).caller ≡ change_of (call_of system.kernel.dispatcher.procs p) (told_by_process o files system).extended) (sym (over_of system p is)) (by_files files)
  where
    by_files : (files : FilesInService) → (told_by_process (Some p) files system).caller ≡ change_of (call_of system.kernel.dispatcher.procs p) (told_by_process (Some p) files system).extended
    by_files (Between filing) = refl
    by_files (Within s) = refl

-- the spooler's own call changes nothing of its process then
pub unchanged_at_disk : (q p : ℕ) (answers : List Answer) (system : System) (files : FilesInService) → turn_answer system.kernel.disk ≡ Work p true → q ≡ p
    → KeepsFileCall q answers (ready_again p (step_passed system)) → (told_within files system).caller ≡ Unchanged
unchanged_at_disk q p answers system files is same f =
    let error = (told_within files system).extended in
    told_caller files system p is ∙ ap (λ (n : ℕ). change_of (call_of system.kernel.dispatcher.procs n) error) (sym same) ∙ unchanged q answers (ready_again p (step_passed system)) error f

told_answer : (s : Situation) (system : System) (p : ℕ) → turn_answer system.kernel.disk ≡ Work p true → (told_within (Within s) system).answer ≡ (file_call s).answer
unfolding told_within
told_answer s system p is = ap (λ (o : Option ℕ). (told_by_process o (Within s) system).answer) (over_of system p is)

over_still : (turn : Turn) (files : FilesInService) → ((p : ℕ) → turn ≢ Work p true) → files_over turn files ≡ files
over_still Idle files never = refl
over_still Passing files never = refl
over_still (Starts p) files never = refl
over_still (Work p last) (Between filing) never = refl
over_still (Work p true) (Within s) never = absurd (never p refl)
over_still (Work p false) (Within s) never = refl

never_over : (system : System) (files : FilesInService) → ((p : ℕ) → turn_answer system.kernel.disk ≢ Work p true) → files_served system files ≡ files
unfolding files_served
never_over system files never = by_served (served_process system.kernel.disk) where
  by_served : (served : Option ℕ) → files_served_by served system files ≡ files
  by_served None = refl
  by_served (Some p) = over_still (turn_answer system.kernel.disk) files never

over_last : (q p : ℕ) (system : System) (files : FilesInService) → ServedBy system.kernel.disk.served files → turn_answer system.kernel.disk ≡ Work p true
    → Passes (Reads q files) (Reads q (files_served system files)) q p (told_within files system) (ready_again p (step_passed system))
over_last q p system (Between filing) by is = (let w = works system.kernel.disk p is in absurd (subst (λ (o : Option Served). ServedBy o (Between filing)) w.1 by))
over_last q p system (Within s) by is =
    let w = works system.kernel.disk p is in
    let its : w.0.p ≡ s.caller.process = subst (λ (o : Option Served). ServedBy o (Within s)) w.1 by in
    let process : s.caller.process ≡ p = sym its ∙ w.2 in
    let served : files_served system (Within s) ≡ Between (file_call s).filing = over_files system (Within s) p is in
    let told = told_within (Within s) system in
    record {
      others = λ other answers r.
          reads_on q answers (Within s) (files_served system (Within s)) (λ key number. served_stays q key number system (Within s) (λ own. absurd (other (sym own ∙ process))))
          (sound_served system (Within s) r.opens) (subst (λ (f : FilesInService). IfItsCall q answers f) (sym served) tt) r;
      own = λ same answers h f r.
          let its_own : s.caller.process ≡ q = process ∙ sym same in
          let answered : Reads q (Between (file_call s).filing) ((file_call s).answer ∷ answers) =
          own_answered q answers s (r.its_call its_own) its_own r.opens (call_keeps_sound s r.opens) r.file r.without in (
            unchanged_at_disk q p answers system (Within s) is same f,
            subst (λ (f : FilesInService). Reads q f (told.answer ∷ answers)) (sym served)
                (subst (λ (a : Answer). Reads q (Between (file_call s).filing) (a ∷ answers)) (sym (told_answer s system p is)) answered),
          );
    }

over_so : (q : ℕ) (system : System) (files : FilesInService) → ServedBy system.kernel.disk.served files
    → Over (Reads q files) (Reads q (files_served system files)) q (turn_answer system.kernel.disk) (told_within files system) system
over_so q system files by = record {
  last = λ p is. over_last q p system files by is;
  more = λ never answers r. subst (λ (f : FilesInService). Reads q f answers) (sym (never_over system files never)) r;
  stays = stays_reading q (files_served system files);
}

-- the next one enters

starts_first : (turn_steps : ℕ) (served : Option Served) (first : Option ℕ) (p : ℕ) → answer_by turn_steps served first ≡ Starts p → first ≡ Some p
unfolding step_answer
starts_first turn_steps None None p is = absurd (cc)
starts_first turn_steps None (Some r) p is = (let same : r ≡ p = cc in ap (λ (n : ℕ). Some n) same)
starts_first turn_steps (Some call) first p is = absurd (never (is_last_step turn_steps call) (call.left == 1) call.p p is) where
  never : (last done : Bool) (r p : ℕ) → (if last then Work r done else Passing) ≡ Starts p → ⊥
  never true done r p is = absurd (cc)
  never false done r p is = absurd (cc)

starts_there : (disk : DiskService) (p : ℕ) → turn_answer disk ≡ Starts p → 0 < at_disk disk p
unfolding turn_answer at_disk
starts_there disk p is =
    let waits : in_list p disk.waiting ≡ true = first_is_in disk.waiting p (starts_first disk.turn_steps disk.served (first_of disk.waiting) p is) in
    subst (λ (b : Bool). 0 < (if b then 1 else 0) + (if is_call_of p disk.served then 1 else 0)) (sym waits) (omega arith)

module _ (q : ℕ) (answers : List Answer) (system : System) (h : IsAtHome q system) (filed : 0 < at_disk system.kernel.disk q → KeepsFileCall q answers system) where
  within_so : (o : Option FileFunction) (p : ℕ) (filing : Filing) → function_of (call_of system.kernel.dispatcher.procs p).function ≡ o → turn_answer system.kernel.disk ≡ Starts p
      → IfItsCall q answers (within_call o filing p system)
  within_so None p filing is starts = tt
  within_so (Some function) p filing is starts = λ own.
      let P : ℕ → Type 0 = λ n. IsItsCall answers (situation_of filing function n system) in
      let there : 0 < at_disk system.kernel.disk q = subst (λ (n : ℕ). 0 < at_disk system.kernel.disk n) own (starts_there system.kernel.disk p starts) in
      subst P (sym own) (its_situation q answers filing function system h (filed there) (subst (λ (n : ℕ). function_of (call_of system.kernel.dispatcher.procs n).function ≡ Some function) own is))

  entering_so : (turn : Turn) (files : FilesInService) → turn_answer system.kernel.disk ≡ turn → IfItsCall q answers files → IfItsCall q answers (files_entered_by turn system files)
  entering_so Idle files is c = c
  entering_so Passing files is c = c
  entering_so (Work p last) files is c = c
  entering_so (Starts p) (Within s) is c = c
  entering_so (Starts p) (Between filing) is c = within_so (function_of (call_of system.kernel.dispatcher.procs p).function) p filing refl is

  entered_so : (files : FilesInService) → IfItsCall q answers files → IfItsCall q answers (files_entered system files)
  unfolding files_entered
  entered_so files c = by_served (served_process system.kernel.disk) where
    by_served : (served : Option ℕ) → IfItsCall q answers (files_entered_unless served system files)
    by_served None = entering_so (turn_answer system.kernel.disk) files refl c
    by_served (Some p) = c

given_call : (q : ℕ) (answers : List Answer) (owed : List Bool) (files : FilesInService) → IfItsCall q answers files → IfItsCall q answers (given_back owed files)
given_call q answers owed (Between filing) c = tt
given_call q answers owed (Within s) c = c

given_so : (q : ℕ) (answers : List Answer) (owed : List Bool) (files : FilesInService) → owes owed q ≡ false → Reads q files answers → Reads q (given_back owed files) answers
given_so q answers owed files pays r =
    reads_on q answers files (given_back owed files) (λ key number. given_stays q key number owed files pays) (sound_given owed files r.opens) (given_call q answers owed files r.its_call) r

rests_so : (q : ℕ) (at_gate : Directly) (system : System) (files : FilesInService) → ServedBy system.kernel.disk.served files
    → Rests (Reads q files) (Reads q (files_served system files)) (Reads q (files_paid system files)) (Reads q (files_then system files)) (Reads q (files_rest system files)) q
    (telling_then at_gate system files) system
unfolding telling_then files_paid files_then files_rest ended_after entered_after
rests_so q at_gate system files by =
    let told = told_within files system in
    let served = files_served system files in
    let paid = given_back (disk_served told system).system.owed served in
    let after_paid = paid_after told system in
    record {
      over = over_so q system files by;
      paid = λ answers pays r. given_so q answers (disk_served told system).system.owed served pays r;
      paid_stays = stays_reading q paid;
      enters = λ answers h filed r.
          reads_on q answers paid (files_entered after_paid paid) (λ key number. entered_stays q key number after_paid paid) (sound_entered after_paid paid r.opens)
          (entered_so q answers after_paid h filed paid r.its_call) r;
      enters_stays = stays_reading q (files_entered after_paid paid);
      ends = λ answers pays r. given_so q answers _ (files_entered after_paid paid) pays r;
      ends_stays = stays_reading q (files_rest system files);
    }

-- so it is in each step

as_spooling : {Such : List Answer → Type 0} (q : ℕ) (system : System) (outputs : List Output) (i : Spools Such q system outputs) → IsSpooling q system outputs
as_spooling q system outputs i = record {
  answers = i.answers;
  acts = i.acts;
  home = i.home;
  asks = i.asks;
  filed = i.filed;
  awaits = i.awaits;
  owns = i.owns;
  printed = i.printed;
  came = i.came;
}

begins_so : (q : ℕ) (system : System) (files : FilesInService) → ServedBy system.kernel.disk.served files → HasTurns system.kernel.disk
    → Begins (Reads q files) (Reads q (files_begun system files)) q (file_caller system) (told_first system files) system
unfolding files_begun told_first
begins_so q system files by sound = begins_by q (file_caller system) system files by sound

pub printing_next : (q : ℕ) (s : State) → IsWhole s.system → IsPrinting q s → IsPrinting q (next s)
unfolding next stepped telling_of telling_then before_disk told_first
printing_next q s w p =
    let begun = (before_disk s.system s.files).system in
    let files = files_begun s.system s.files in
    let goes : Goes (Reads q (files_rest begun files)) q (step_with (telling_of s.system s.files) s.system) s.outputs =
    goes_in_step q (telling_of s.system s.files) s.system s.outputs w (begins_so q s.system s.files p.served p.turns)
    (rests_so q (told_first s.system s.files) begun files (served_first s w p.filed p.served))
    (spools_as q s.system s.outputs p.spooling (stays_reading q s.files) p.reads) in
    record {
      spooling = record {
        answers = goes.answers;
        acts = goes.acts;
        home = goes.home;
        asks = goes.asks;
        filed = goes.filed;
        awaits = goes.awaits;
        owns = goes.owns;
        printed = goes.printed;
        came = goes.came;
      };
      filed = filed_next s w p.filed;
      turns = turns_next s w p.filed p.turns;
      served = served_next s w p.filed p.served;
      reads = goes.so;
      prints = prints_file q goes.answers (filing_in (files_rest begun files)) goes.so.file;
    }

-- and whatever its files are, the spooler goes on

abbrev Always : List Answer → Type 0
Always answers = ⊤

begins_always : (q : ℕ) (caller : Option ℕ) (system : System) (files : FilesInService) → Begins Always Always q caller (told_first_by caller system files) system
begins_always q None system files = record { made = λ p is. absurd (none-some p is); none = λ _ _ _. tt; stays = λ _ _ _ _. tt }
begins_always q (Some p) system files =
    let made = call_made p system in
    let c : Called Always Always q p (told_at_gate p made files) made = record {
      at_once = λ once. record {
        others = λ _ _ _. tt;
        own = λ same answers h f so. (unchanged_at_gate q p answers made files same f, tt);
      };
      waits = λ _ _ _. tt;
      stays = λ _ _ _ _. tt;
    } in
    record {
      made = λ r is. subst (λ (n : ℕ). Called Always Always q n (told_at_gate p made files) (call_made n system)) (same_process p r is) c;
      none = λ _ _ _. tt;
      stays = λ _ _ _ _. tt;
    }

rests_always : (q : ℕ) (at_gate : Directly) (system : System) (files : FilesInService) → Rests Always Always Always Always Always q (telling_then at_gate system files) system
unfolding telling_then
rests_always q at_gate system files = record {
  over = record {
    last = λ p is. record {
      others = λ _ _ _. tt;
      own = λ same answers h f so. (unchanged_at_disk q p answers system files is same f, tt);
    };
    more = λ _ _ _. tt;
    stays = λ _ _ _ _. tt;
  };
  paid = λ _ _ _. tt;
  paid_stays = λ _ _ _ _. tt;
  enters = λ _ _ _ _. tt;
  enters_stays = λ _ _ _ _. tt;
  ends = λ _ _ _. tt;
  ends_stays = λ _ _ _ _. tt;
}

pub spooling_next : (q : ℕ) (s : State) → IsWhole s.system → IsSpooling q s.system s.outputs → IsSpooling q (next s).system (next s).outputs
unfolding next stepped telling_of telling_then before_disk told_first file_caller
spooling_next q s w i =
    as_spooling q (next s).system (next s).outputs
    (goes_in_step q (telling_of s.system s.files) s.system s.outputs w (begins_always q (file_caller s.system) s.system s.files)
    (rests_always q (told_first s.system s.files) (before_disk s.system s.files).system (files_begun s.system s.files)) (spools_as q s.system s.outputs i (λ _ _ _ _. tt) tt))
