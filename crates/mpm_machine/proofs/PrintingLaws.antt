-- The spooler prints its file: what it has of the file goes on through each part of a step.
use Rattle.std.proofs.Common.{◌≡◌, ◌∙◌, ℕ, ◌+◌, ◌==◌, ◌&&◌, ◌||◌, not, Bool, true, false, if◌then◌else◌, List, [], ◌∷◌, length, Option, Some, None, refl, sym, ap, subst}
use Rattle.std.specs.Prelude.{is_some, nat_lt, slice_index}
use Rattle.std.proofs.lemmas.Bool.{true≢false, false≢true, eq-eqb}
use Rattle.mpm_base.proofs.Choices.{either}
use Rattle.mpm_base.specs.Calls.{Answer}
use Rattle.mpm_base.specs.Lists.{in_width}
use Rattle.mpm_bdos.proofs.ClosedFile.{deletion_opens_none, refused_opening}
use Rattle.mpm_bdos.specs.Outcomes.{file_call}
use Rattle.mpm_file_functions.specs.Functions.{function_of, direct_of}
use Rattle.mpm_file_functions.specs.declared.functions.FileFunction.{FileFunction}
use Rattle.mpm_file_functions.specs.declared.functions.FileFunction.TheVariants.{OpenFile, CloseFile, DeleteFile, ReadSequential}
use Rattle.mpm_opens.specs.Opens.{OpenFiles, AreOpen, HasNone}
use Rattle.mpm_opens.specs.declared.kinds.FileKey.{FileKey}
use Rattle.mpm_refusals.specs.Filing.{Filing, Situation}
use Rattle.mpm_spool.specs.SpoolLists.{list_of}
use Rattle.mpm_spool.specs.Spoolers.{Spooler, call_at, next_call, took, took_at, after, begun_next, with_list, with_block, record_in, row_at, with_record}
use Rattle.mpm_spool.specs.declared.list.SpoolItem.{SpoolItem}
use Rattle.mpm_spool.specs.declared.table.Row.{Row}
use Rattle.mpm_spool.specs.declared.table.Row.TheVariants.{ReadList, Open, Attach, AskStop, Read, Print, Detach, Close, Delete}
use Rattle.mpm_machine.proofs.ClosingLaws.{close_answered}
use Rattle.mpm_machine.proofs.FileStays.{StaysIn}
use Rattle.mpm_machine.proofs.NamedLaws.{named_in_full}
use Rattle.mpm_machine.proofs.OpeningLaws.{begun_has_no_file, open_answered}
use Rattle.mpm_machine.proofs.ReadingLaws.{reads_kept, reads_again, read_answered}
use Rattle.mpm_machine.proofs.SpoolingLaws.{Stays}
use Rattle.mpm_machine.specs.FileCalls.{is_of_files}
use Rattle.mpm_machine.specs.Files.{FilesInService, Between, Within, filing_in}
use Rattle.mpm_spool.specs.Printed.{read_by, read_in, ended_by, ended_in, has_file}
use Rattle.mpm_machine.specs.Printing.{key_of_spool_item, ReadsFile, IsItsCall, IfItsCall, ReadsOpenFile}

-- an answer to a call that isn't on files

pub listed_has_no_file : (list : Option (List SpoolItem)) (s : Spooler) → s.row ≡ ReadList → has_file (with_list list s).row ≡ true → ⊥
listed_has_no_file None s is has = false≢true (sym (ap has_file is) ∙ has)
listed_has_no_file (Some items) s is has = begun_has_no_file (record s { left = items }) has

stays_at : (row : Row) (q : ℕ) (s : Spooler) (reply : Answer) (read : List ℕ) (ended : Bool) (filing : Filing) → s.row ≡ row → is_of_files (call_at row s).function ≡ false
    → (has_file row ≡ true → ReadsFile q s read ended filing) → has_file (took_at row s reply).row ≡ true → ReadsFile q (took_at row s reply) (read_by row reply read) (ended_by row reply ended) filing
unfolding is_of_files Rattle.mpm_file_functions.specs.Functions.function_of Rattle.mpm_file_functions.specs.Functions.direct_of
stays_at ReadList q s reply read ended filing is other r has = absurd (listed_has_no_file (list_of (in_width 128 reply.bytes)) s is has)
stays_at Attach q s reply read ended filing is other r has =
    either (λ (t : Spooler). ReadsFile q t read ended filing) (reply.hl == 0) _ _ (λ _. reads_again q s _ read ended filing refl refl (r refl)) (λ _. reads_again q s _ read ended filing refl refl (r refl))
stays_at AskStop q s reply read ended filing is other r has =
    either (λ (t : Spooler). ReadsFile q t read ended filing) (reply.hl == 0) _ _ (λ _. reads_again q s _ read ended filing refl refl (r refl)) (λ _. reads_again q s _ read ended filing refl refl (r refl))
stays_at Print q s reply read ended filing is other r has = reads_again q s _ read ended filing refl refl (r refl)
stays_at Detach q s reply read ended filing is other r has = reads_again q s _ read ended filing refl refl (r refl)
stays_at Open q s reply read ended filing is other r has = absurd (false≢true (sym other))
stays_at Read q s reply read ended filing is other r has = absurd (false≢true (sym other))
stays_at Close q s reply read ended filing is other r has = absurd (false≢true (sym other))
stays_at Delete q s reply read ended filing is other r has = absurd (false≢true (sym other))

-- the rows after one in which it has its file
pub has_at : (bytes : List ℕ) (place : ℕ) → has_file (row_at bytes place) ≡ true
has_at bytes place = by_tests (nat_lt place 128) (slice_index bytes place == 26)
  where
    by_tests : (below ends : Bool) → has_file (if below then (if ends then Detach else Print) else AskStop) ≡ true
    by_tests true true = refl
    by_tests true false = refl
    by_tests false ends = refl

pub has_after_read : (reply : Answer) (s : Spooler) → has_file (with_record reply s).row ≡ true
has_after_read reply s = by_tests (reply.hl == 0) (reply.hl == 1)
  where
    by_tests : (came over : Bool)
        → has_file (if came then record s { row = row_at (record_in reply) 0; bytes = record_in reply; place = 0 }
        else (if over then record s { row = Detach } else record s { row = Detach; is_unprinted = true })).row ≡ true
    by_tests true over = has_at (record_in reply) 0
    by_tests false true = refl
    by_tests false false = refl

-- where it has none, it had none
without_at : (row : Row) (q : ℕ) (s : Spooler) (reply : Answer) (opens : OpenFiles) → is_of_files (call_at row s).function ≡ false
    → (has_file row ≡ false → HasNone q opens) → has_file (took_at row s reply).row ≡ false → HasNone q opens
unfolding is_of_files Rattle.mpm_file_functions.specs.Functions.function_of Rattle.mpm_file_functions.specs.Functions.direct_of
without_at ReadList q s reply opens other w none = w refl
without_at Attach q s reply opens other w none =
    either (λ (t : Spooler). has_file t.row ≡ false → HasNone q opens) (reply.hl == 0) (record s { row = AskStop }) (record s { row = Close; is_unprinted = true }) (λ _ e. absurd (true≢false e)) (λ _ e. absurd (true≢false e)) none
without_at AskStop q s reply opens other w none =
    either (λ (t : Spooler). has_file t.row ≡ false → HasNone q opens) (reply.hl == 0) (record s { row = Detach; left = []; is_unprinted = true }) (record s { row = Read }) (λ _ e. absurd (true≢false e)) (λ _ e. absurd (true≢false e)) none
without_at Print q s reply opens other w none = absurd (true≢false (sym (has_at s.bytes (s.place + 1)) ∙ none))
without_at Detach q s reply opens other w none = absurd (true≢false none)
without_at Open q s reply opens other w none = absurd (false≢true (sym other))
without_at Read q s reply opens other w none = absurd (false≢true (sym other))
without_at Close q s reply opens other w none = absurd (false≢true (sym other))
without_at Delete q s reply opens other w none = absurd (false≢true (sym other))

is_its_function : (answers : List Answer) (call : Situation) → IsItsCall answers call → is_of_files (next_call (after answers)).function ≡ true
unfolding is_of_files
is_its_function answers call c = ap (λ (f : Option FileFunction). is_some f || is_some (direct_of (next_call (after answers)).function)) c.function

no_call_of_its : (q : ℕ) (answers : List Answer) (reply : Answer) (files : FilesInService) → is_of_files (next_call (after answers)).function ≡ false → IfItsCall q answers files
    → IfItsCall q (reply ∷ answers) files
no_call_of_its q answers reply (Between filing) other c = tt
no_call_of_its q answers reply (Within call) other c = λ same. absurd (false≢true (sym other ∙ is_its_function answers call (c same)))

pub stays_reading : (q : ℕ) (files : FilesInService) → Stays (λ answers. ReadsOpenFile q answers files)
unfolding after took read_in ended_in next_call
stays_reading q files answers reply other r = record {
  opens = r.opens;
  its_call = no_call_of_its q answers reply files other r.its_call;
  file = stays_at (after answers).row q (after answers) reply (read_in answers) (ended_in answers) (filing_in files) refl other r.file;
  without = without_at (after answers).row q (after answers) reply (filing_in files).opens other r.without;
}

-- others leave the file

pub reads_on : (q : ℕ) (answers : List Answer) (old new : FilesInService) → ((key : FileKey) (number : ℕ) → StaysIn q key number old new) → AreOpen (filing_in new).opens → IfItsCall q answers new
    → ReadsOpenFile q answers old → ReadsOpenFile q answers new
reads_on q answers old new stays sound call r = record {
  opens = sound;
  its_call = call;
  file = λ has. (let f = r.file has in
      let s = stays (key_of_spool_item (after answers).item) f.number in
      reads_kept q (after answers) (read_in answers) (ended_in answers) (filing_in old) (filing_in new) f (s.file (record { sound = r.opens; has = f.has })).1 s.none);
  without = λ none number. (stays (key_of_spool_item (after answers).item) 0).none number (r.without none number);
}

-- its own call comes to its outcome

same_function : (a b : FileFunction) → Some a ≡ Some b → b ≡ a
same_function a b e = cc

own_row : (row : Row) (q : ℕ) (s : Spooler) (call : Situation) (read : List ℕ) (ended : Bool) → is_of_files (call_at row s).function ≡ true
    → function_of (call_at row s).function ≡ Some call.function → call.call.fcb ≡ (call_at row s).fcb → call.caller.process ≡ q → call.caller.drive ≡ 0 → call.caller.user ≡ 0
    → call.caller.multi ≡ 1 → AreOpen call.filing.opens → length s.item.name ≡ 11 → (has_file row ≡ true → ReadsFile q s read ended call.filing)
    → (has_file row ≡ false → HasNone q call.filing.opens) → has_file (took_at row s (file_call call).answer).row ≡ true
    → ReadsFile q (took_at row s (file_call call).answer) (read_by row (file_call call).answer read) (ended_by row (file_call call).answer ended) (file_call call).filing
unfolding is_of_files Rattle.mpm_file_functions.specs.Functions.function_of Rattle.mpm_file_functions.specs.Functions.direct_of
own_row Open q s call read ended files function fcb process drive user multi opens size r w has =
    open_answered q s call (record { function = same_function OpenFile call.function function; process = process; block_is = fcb; drive = drive; user = user; opens = opens; without = w refl }) size has
own_row Read q s call read ended files function fcb process drive user multi opens size r w has =
    read_answered q s read ended call (r refl) (record { function = same_function ReadSequential call.function function; process = process; block_is = fcb; drive = drive; multi = multi })
own_row Close q s call read ended files function fcb process drive user multi opens size r w has =
    absurd (closed_without (s.item.delete && not s.is_unprinted) s has)
  where
    closed_without : (b : Bool) (s : Spooler) → has_file (if b then record s { row = Delete } else begun_next s).row ≡ true → ⊥
    closed_without true s has = false≢true has
    closed_without false s has = begun_has_no_file s has
own_row Delete q s call read ended files function fcb process drive user multi opens size r w has = absurd (begun_has_no_file s has)
own_row ReadList q s call read ended files function fcb process drive user multi opens size r w has = absurd (false≢true files)
own_row Attach q s call read ended files function fcb process drive user multi opens size r w has = absurd (false≢true files)
own_row AskStop q s call read ended files function fcb process drive user multi opens size r w has = absurd (false≢true files)
own_row Print q s call read ended files function fcb process drive user multi opens size r w has = absurd (false≢true files)
own_row Detach q s call read ended files function fcb process drive user multi opens size r w has = absurd (false≢true files)

own_without : (row : Row) (q : ℕ) (s : Spooler) (call : Situation) (read : List ℕ) (ended : Bool) → is_of_files (call_at row s).function ≡ true
    → function_of (call_at row s).function ≡ Some call.function → call.call.fcb ≡ (call_at row s).fcb → call.caller.process ≡ q → call.caller.drive ≡ 0 → AreOpen call.filing.opens
    → (has_file row ≡ true → ReadsFile q s read ended call.filing) → (has_file row ≡ false → HasNone q call.filing.opens) → has_file (took_at row s (file_call call).answer).row ≡ false
    → HasNone q (file_call call).filing.opens
unfolding is_of_files Rattle.mpm_file_functions.specs.Functions.function_of Rattle.mpm_file_functions.specs.Functions.direct_of
own_without Open q s call read ended files function fcb process drive opens r w none =
    subst (λ (filing : Filing). HasNone q filing.opens) (sym (refused_opening call (same_function OpenFile call.function function) opened)) (w refl)
  where
    opened : (file_call call).answer.hl ≡ 0 → ⊥
    opened zero =
        true≢false (sym (ap (λ (b : Bool). has_file (if b then record (with_block (file_call call).answer s) { row = Attach } else begun_next s).row) (eq-eqb (file_call call).answer.hl 0 zero)) ∙ none)
own_without Read q s call read ended files function fcb process drive opens r w none =
    absurd (true≢false (sym (has_after_read (file_call call).answer (with_block (file_call call).answer s)) ∙ none))
own_without Close q s call read ended files function fcb process drive opens r w none =
    close_answered q s read ended call (r refl) (record { function = same_function CloseFile call.function function; process = process; block_is = fcb; drive = drive }) opens
own_without Delete q s call read ended files function fcb process drive opens r w none =
    λ number. deletion_opens_none call q (same_function DeleteFile call.function function) number (w refl number)
own_without ReadList q s call read ended files function fcb process drive opens r w none = absurd (false≢true files)
own_without Attach q s call read ended files function fcb process drive opens r w none = absurd (false≢true files)
own_without AskStop q s call read ended files function fcb process drive opens r w none = absurd (false≢true files)
own_without Print q s call read ended files function fcb process drive opens r w none = absurd (false≢true files)
own_without Detach q s call read ended files function fcb process drive opens r w none = absurd (false≢true files)

pub own_answered : (q : ℕ) (answers : List Answer) (call : Situation) → IsItsCall answers call → call.caller.process ≡ q → AreOpen call.filing.opens → AreOpen (file_call call).filing.opens
    → (has_file (after answers).row ≡ true → ReadsFile q (after answers) (read_in answers) (ended_in answers) call.filing) → (has_file (after answers).row ≡ false → HasNone q call.filing.opens)
    → ReadsOpenFile q ((file_call call).answer ∷ answers) (Between (file_call call).filing)
unfolding after took read_in ended_in next_call
own_answered q answers call c process opens opened file without = record {
  opens = opened;
  its_call = tt;
  file = own_row (after answers).row q (after answers) call (read_in answers) (ended_in answers) (is_its_function answers call c) c.function c.block process c.drive c.user c.multi opens
      (named_in_full answers) file without;
  without = own_without (after answers).row q (after answers) call (read_in answers) (ended_in answers) (is_its_function answers call c) c.function c.block process c.drive opens file without;
}
