-- While the spooler has its file open, the file stays as it is on the drives: after a step its records are the same as before it, and so is
-- its text.
use Rattle.std.proofs.Common.{◌≡◌, ◌≢◌, ◌∙◌, ℕ, zero, suc, ◌+◌, ◌<◌, ◌==◌, ◌&&◌, not, Bool, true, false, if◌then◌else◌, List, [], ◌∷◌, Option, Some, None, IfSome, inl, inr, refl, sym, ap, subst, arith}
use Rattle.std.specs.Prelude.{◌⊎◌}
use Rattle.std.proofs.lemmas.Bool.{true≢false, false≢true, false_from_ne_true}
use Rattle.std.proofs.lemmas.Option.{none-some}
use Rattle.mpm_base.proofs.Choices.{either}
use Rattle.mpm_base.specs.Calls.{Answer}
use Rattle.mpm_base.specs.Lists.{in_width}
use Rattle.mpm_directories.specs.Direct.{Directly}
use Rattle.mpm_dispatcher.specs.Dispatch.{IsReady}
use Rattle.mpm_file_functions.specs.Functions.{function_of}
use Rattle.mpm_file_functions.specs.declared.functions.FileFunction.TheVariants.{ReadSequential}
use Rattle.mpm_kernel.proofs.DiskLaws.{ready_not_at_disk}
use Rattle.mpm_procs.specs.Table.{call_of}
use Rattle.mpm_refusals.specs.Filing.{Filing}
use Rattle.mpm_residents.specs.declared.native.Native.TheVariants.{Spool}
use Rattle.mpm_service.specs.Disk.{turn_answer}
use Rattle.mpm_service.specs.Places.{at_disk}
use Rattle.mpm_service.specs.declared.service.Served.{Served}
use Rattle.mpm_service.specs.declared.service.Turn.TheVariants.{Work}
use Rattle.mpm_spool.specs.SpoolLists.{list_of}
use Rattle.mpm_spool.specs.Spoolers.{Spooler, call_at, next_call, begun_next, with_block, record_in, row_at, with_record, took, took_at, after}
use Rattle.mpm_spool.specs.declared.list.SpoolItem.{SpoolItem}
use Rattle.mpm_spool.specs.declared.table.Row.{Row}
use Rattle.mpm_spool.specs.declared.table.Row.TheVariants.{ReadList, Open, Attach, AskStop, Read, Print, Detach, Close, Delete}
use Rattle.mpm_system.specs.FileCalling.{call_made}
use Rattle.mpm_system.specs.Whole.{IsWhole}
use Rattle.mpm_system.specs.declared.system.System.{System}
use Rattle.mpm_machine.proofs.BegunLaws.{begun_as_serves}
use Rattle.mpm_machine.proofs.FiledLaws.{caller_ready}
use Rattle.mpm_machine.proofs.FileStays.{same_function, ReadsAtGate, ReadsIn, ReadsOver, ReadsInStep, stays_in_step}
use Rattle.mpm_machine.proofs.OpeningLaws.{begun_has_no_file}
use Rattle.mpm_machine.proofs.PrintingLaws.{listed_has_no_file, has_at, has_after_read}
use Rattle.mpm_machine.proofs.PrintingSteps.{unchanged_at_gate, unchanged_at_disk, served_there, same_process, works}
use Rattle.mpm_machine.proofs.ServedFiles.{served_first}
use Rattle.mpm_machine.proofs.SpoolingDisk.{Begins, Rests, goes_in_step}
use Rattle.mpm_machine.proofs.SpoolingFiles.{Called}
use Rattle.mpm_machine.proofs.NextLaws.{whole_after}
use Rattle.mpm_machine.proofs.SpoolingAfter.{printing_after}
use Rattle.mpm_machine.proofs.SpoolingLaws.{Stays, spools_as}
use Rattle.mpm_machine.proofs.SpoolingRows.{Goes}
use Rattle.mpm_machine.proofs.TextLaws.{same_text}
use Rattle.mpm_machine.specs.After.{next, after as steps_after}
use Rattle.mpm_machine.specs.DiskStep.{is_done_at_once, done_at_once, files_called, told_at_gate, step_passed, ready_again, disk_served}
use Rattle.mpm_machine.specs.FileCalls.{file_caller, is_of_files}
use Rattle.mpm_machine.specs.Files.{FilesInService, Between, Within, filing_in, owes}
use Rattle.mpm_spool.specs.Printed.{has_file}
use Rattle.mpm_machine.specs.PrintedText.{HasFileOpen, KeepsText}
use Rattle.mpm_machine.specs.Printing.{HasText, key_of_spool_item, seen_in, ServedBy, IfItsCall, IsPrinting}
use Rattle.mpm_machine.specs.Spooling.{KeepsFileCall}
use Rattle.mpm_machine.specs.State.{State}
use Rattle.mpm_machine.specs.Stepping.{told_first, told_first_by, files_begun, files_begun_by, before_disk, told_within, ended_after, entered_after, nothing_told, telling_then, telling_of, step_with, stepped}

-- by its table: an answer leaves it the file that it has open, unless it closed that

pub record HasStill (s new : Spooler) : Type 0 where
  pub file : has_file new.row ≡ true
  pub item : new.item ≡ s.item

abbrev HasNoFile : Spooler → Type 0
HasNoFile s = has_file s.row ≡ false

still_at : (row : Row) (s : Spooler) (reply : Answer) → is_of_files (call_at row s).function ≡ false → has_file row ≡ true → HasStill s (took_at row s reply)
unfolding is_of_files Rattle.mpm_file_functions.specs.Functions.function_of Rattle.mpm_file_functions.specs.Functions.direct_of
still_at ReadList s reply other has = absurd (false≢true has)
still_at Open s reply other has = absurd (false≢true has)
still_at Attach s reply other has =
    either (HasStill s) (reply.hl == 0) (record s { row = AskStop }) (record s { row = Close; is_unprinted = true }) (λ _. record { file = refl; item = refl }) (λ _. record { file = refl; item = refl })
still_at AskStop s reply other has =
    either (HasStill s) (reply.hl == 0) (record s { row = Detach; left = []; is_unprinted = true }) (record s { row = Read }) (λ _. record { file = refl; item = refl })
    (λ _. record { file = refl; item = refl })
still_at Read s reply other has = absurd (false≢true (sym other))
still_at Print s reply other has = record { file = has_at s.bytes (s.place + 1); item = refl }
still_at Detach s reply other has = record { file = refl; item = refl }
still_at Close s reply other has = absurd (false≢true (sym other))
still_at Delete s reply other has = absurd (false≢true has)

without_at : (row : Row) (s : Spooler) (reply : Answer) → s.row ≡ row → is_of_files (call_at row s).function ≡ false → has_file row ≡ false → HasNoFile (took_at row s reply)
unfolding is_of_files Rattle.mpm_file_functions.specs.Functions.function_of Rattle.mpm_file_functions.specs.Functions.direct_of
without_at ReadList s reply is other none = false_from_ne_true (has_file (took_at ReadList s reply).row) (listed_has_no_file (list_of (in_width 128 reply.bytes)) s is)
without_at Open s reply is other none = absurd (false≢true (sym other))
without_at Attach s reply is other none = absurd (true≢false none)
without_at AskStop s reply is other none = absurd (true≢false none)
without_at Read s reply is other none = absurd (true≢false none)
without_at Print s reply is other none = absurd (true≢false none)
without_at Detach s reply is other none = absurd (true≢false none)
without_at Close s reply is other none = absurd (true≢false none)
without_at Delete s reply is other none = absurd (false≢true (sym other))

read_item : (reply : Answer) (s : Spooler) → (with_record reply s).item ≡ s.item
read_item reply s = by_tests (reply.hl == 0) (reply.hl == 1)
  where
    by_tests : (came over : Bool)
        → (if came then record s { row = row_at (record_in reply) 0; bytes = record_in reply; place = 0 }
        else (if over then record s { row = Detach } else record s { row = Detach; is_unprinted = true })).item ≡ s.item
    by_tests true over = refl
    by_tests false true = refl
    by_tests false false = refl

closed_at : (s : Spooler) (reply : Answer) → HasNoFile (took_at Close s reply)
closed_at s reply =
    either HasNoFile (s.item.delete && not s.is_unprinted) (record s { row = Delete }) (begun_next s) (λ _. refl) (λ _. false_from_ne_true (has_file (begun_next s).row) (begun_has_no_file s))

-- its own call on files reads, or closes it
abbrev CallsRead : Row → Spooler → Type 0
CallsRead row s = function_of (call_at row s).function ≡ Some ReadSequential

filed_at : (row : Row) (s : Spooler) (reply : Answer) → is_of_files (call_at row s).function ≡ true → has_file row ≡ true
    → (CallsRead row s × HasStill s (took_at row s reply)) ⊎ HasNoFile (took_at row s reply)
unfolding is_of_files Rattle.mpm_file_functions.specs.Functions.function_of Rattle.mpm_file_functions.specs.Functions.direct_of
filed_at ReadList s reply files has = absurd (false≢true has)
filed_at Open s reply files has = absurd (false≢true has)
filed_at Attach s reply files has = absurd (false≢true files)
filed_at AskStop s reply files has = absurd (false≢true files)
filed_at Read s reply files has = inl (refl, record { file = has_after_read reply (with_block reply s); item = read_item reply (with_block reply s) })
filed_at Print s reply files has = absurd (false≢true files)
filed_at Detach s reply files has = absurd (false≢true files)
filed_at Close s reply files has = inr (closed_at s reply)
filed_at Delete s reply files has = absurd (false≢true has)

still_after : (s t new : Spooler) → HasStill s t → HasStill t new → HasStill s new
still_after s t new first second = record { file = second.file; item = second.item ∙ first.item }

-- since a step began, as it had taken the first answers: it has the file still, and something is so of the step, or it has none

abbrev HasFrom : List Answer → List Answer → Type 0
HasFrom first answers = HasStill (after first) (after answers)

abbrev HasOrNone : Type 0 → List Answer → List Answer → Type 0
HasOrNone So first answers = (So × HasFrom first answers) ⊎ HasNoFile (after answers)

so_too : {So Too : Type 0} (first answers : List Answer) → (So → Too) → HasOrNone So first answers → HasOrNone Too first answers
so_too first answers also (inl so) = inl (also so.0, so.1)
so_too first answers also (inr none) = inr none

stays_still : (first : List Answer) → Stays (HasFrom first)
unfolding after took next_call
stays_still first answers reply other so =
    let s = after answers in still_after (after first) s (took_at s.row s reply) so (still_at s.row s reply other so.file)

stays_none : Stays (λ answers. HasNoFile (after answers))
unfolding after took next_call
stays_none answers reply other none = (let s = after answers in without_at s.row s reply refl other none)

stays_or_none : {So : Type 0} (first : List Answer) → Stays (HasOrNone So first)
stays_or_none first answers reply other (inl so) = inl (so.0, stays_still first answers reply other so.1)
stays_or_none first answers reply other (inr none) = inr (stays_none answers reply other none)

-- and it has taken no other answer where its call is at the disk as the step begins

abbrev CallIsOnFiles : List Answer → Type 0
CallIsOnFiles first = is_of_files (next_call (after first)).function ≡ true

abbrev IsAtDisk : ℕ → System → Type 0
IsAtDisk q system = 0 < at_disk system.kernel.disk q

record Since (File : List Answer → Type 0) (q : ℕ) (old : System) (first answers : List Answer) : Type 0 where
  file : File answers
  still : IsAtDisk q old → answers ≡ first

stays_since : {File : List Answer → Type 0} (q : ℕ) (old : System) (first : List Answer) → (IsAtDisk q old → CallIsOnFiles first) → Stays File → Stays (Since File q old first)
stays_since q old first filed stays answers reply other so = record {
  file = stays answers reply other so.file;
  still = λ at. absurd (false≢true (sym other ∙ ap (λ (xs : List Answer). is_of_files (next_call (after xs)).function) (so.still at) ∙ filed at));
}

-- its own call, as its process keeps it, is answered
own_answered : (q : ℕ) (first answers : List Answer) (reply : Answer) (system : System) → KeepsFileCall q answers system → HasFrom first answers
    → HasOrNone (function_of (call_of system.kernel.dispatcher.procs q).function ≡ Some ReadSequential) first (reply ∷ answers)
unfolding after took next_call
own_answered q first answers reply system kept so =
    let s = after answers in
    elim (filed_at s.row s reply kept.files so.file) [
      | inl reads ↦ inl (ap function_of kept.kept ∙ reads.0, still_after (after first) s (took_at s.row s reply) so reads.1)
      | inr none ↦ inr none
    ]

-- what a step begins with

module _ (q : ℕ) (first : List Answer) (system : System) (w : IsWhole system) (filed : IsAtDisk q system → CallIsOnFiles first) where
  called_reads : (p : ℕ) (files : FilesInService) → IsReady system.kernel.dispatcher p
      → Called (Since (HasFrom first) q system first) (Since (HasOrNone (ReadsAtGate q (Some p) system) first) q system first) q p (told_at_gate p (call_made p system) files) (call_made p system)
  called_reads p files ready =
      let made = call_made p system in
      let reply = (told_at_gate p made files).answer in
      record {
        at_once = λ _. record {
          others = λ other answers so. record { file = inl ((λ same _. absurd (other (sym same))), so.file); still = so.still };
          own = λ same answers h kept so.
              let ready_own : IsReady system.kernel.dispatcher q = subst (λ (n : ℕ). IsReady system.kernel.dispatcher n) (sym same) ready in
              let none = ready_not_at_disk system.kernel q w.sound ready_own in (
                unchanged_at_gate q p answers made files same kept,
                record {
                  file = so_too first (reply ∷ answers) (λ reads _ _. subst (λ (n : ℕ). function_of (call_of made.kernel.dispatcher.procs n).function ≡ Some ReadSequential) same reads)
                      (own_answered q first answers reply made kept so.file);
                  still = λ at. absurd (omega (arith, at, none));
                },
              );
        };
        waits = λ waits answers so. record { file = inl ((λ _ once. absurd (true≢false (sym once ∙ waits))), so.file); still = so.still };
        stays = stays_since q system first filed (stays_or_none first);
      }

  begins_reads : (caller : Option ℕ) (files : FilesInService) → IfSome caller (λ p. IsReady system.kernel.dispatcher p)
      → Begins (Since (HasFrom first) q system first) (Since (HasOrNone (ReadsAtGate q caller system) first) q system first) q caller (told_first_by caller system files) system
  begins_reads None files ready = record {
    made = λ p is. absurd (none-some p is);
    none = λ _ answers so. record { file = inl (tt, so.file); still = so.still };
    stays = stays_since q system first filed (stays_or_none first);
  }
  begins_reads (Some p) files ready = record {
    made = λ r is.
        subst (λ (n : ℕ). Called (Since (HasFrom first) q system first) (Since (HasOrNone (ReadsAtGate q (Some p) system) first) q system first) q n (told_at_gate p (call_made p system) files) (call_made n system))
        (same_process p r is) (called_reads p files ready);
    none = λ none. absurd (none-some p (sym none));
    stays = stays_since q system first filed (stays_or_none first);
  }

its_at_once : (q : ℕ) (answers : List Answer) (p : ℕ) (system : System) (files : FilesInService) → IfItsCall q answers files → IfItsCall q answers (done_at_once p system files)
its_at_once q answers p system (Between filing) c = tt
its_at_once q answers p system (Within s) c = c

its_begun_by : (q : ℕ) (answers : List Answer) (caller : Option ℕ) (system : System) (files : FilesInService) → IfItsCall q answers files → IfItsCall q answers (files_begun_by caller system files)
unfolding files_called
its_begun_by q answers None system files c = c
its_begun_by q answers (Some p) system files c =
    let made = call_made p system in
    either (IfItsCall q answers) (is_done_at_once p made) (done_at_once p made files) files (λ _. its_at_once q answers p made files c) (λ _. c)

its_begun : (q : ℕ) (answers : List Answer) (system : System) (files : FilesInService) → IfItsCall q answers files → IfItsCall q answers (files_begun system files)
unfolding files_begun
its_begun q answers system files c = its_begun_by q answers (file_caller system) system files c

-- and the rest of it

-- where the call in service is over, it isn't its own, or reads

others_over : (q p : ℕ) (system : System) (files : FilesInService) → ServedBy system.kernel.disk.served files → turn_answer system.kernel.disk ≡ Work p true → q ≢ p → ReadsIn q files
others_over q p system (Between filing) by is other = tt
others_over q p system (Within s) by is other = λ own.
    let w = works system.kernel.disk p is in
    let its : w.0.p ≡ s.caller.process = subst (λ (o : Option Served). ServedBy o (Within s)) w.1 by in
    absurd (other (sym own ∙ sym its ∙ w.2))

its_over : (q : ℕ) (answers : List Answer) (system : System) (files : FilesInService) → IfItsCall q answers files → KeepsFileCall q answers system
    → function_of (call_of system.kernel.dispatcher.procs q).function ≡ Some ReadSequential → ReadsIn q files
its_over q answers system (Between filing) c kept reads = tt
its_over q answers system (Within s) c kept reads = λ own. same_function s.function ReadSequential (sym (c own).function ∙ sym (ap function_of kept.kept) ∙ reads)

abbrev OverReads : ℕ → System → FilesInService → Type 0
OverReads q system files = ReadsOver q (turn_answer system.kernel.disk) files

-- what is so of a step as far as it is done: its calls that are over read, and it owes nothing

abbrev HasOver : Type 0 → ℕ → System → FilesInService → Type 0
HasOver Begun q system files = Begun × OverReads q system files

abbrev HasPaid : Type 0 → ℕ → System → FilesInService → Type 0
HasPaid Begun q system files = HasOver Begun q system files × (owes (disk_served (told_within files system) system).system.owed q ≡ false)

abbrev HasEnded : Type 0 → ℕ → System → FilesInService → Type 0
HasEnded Begun q system files = HasPaid Begun q system files × (owes (ended_after (telling_then nothing_told system files) system).owed q ≡ false)

module _ (Begun : Type 0) (q : ℕ) (first : List Answer) (old : System) (has : has_file (after first).row ≡ true) (at_gate : Directly) (system : System) (files : FilesInService)
    (serves : system.kernel.disk.served ≡ old.kernel.disk.served) (by : ServedBy system.kernel.disk.served files) (call : IfItsCall q first files) where
  own_over : (answers : List Answer) (reply : Answer) (made : System) → answers ≡ first → KeepsFileCall q answers made → HasOrNone Begun first answers → HasOrNone (HasOver Begun q system files) first (reply ∷ answers)
  own_over answers reply made same kept (inr none) = absurd (true≢false (sym has ∙ ap (λ (xs : List Answer). has_file (after xs).row) (sym same) ∙ none))
  own_over answers reply made same kept (inl so) = elim (own_answered q first answers reply made kept so.1) [
    | inl reads ↦
        let its : IfItsCall q answers files = subst (λ (xs : List Answer). IfItsCall q xs files) (sym same) call in
        inl ((so.0, λ _ _. its_over q answers made files its kept reads.0), reads.1)
    | inr none ↦ inr none
  ]

  rests_reading : Rests (Since (HasOrNone Begun first) q old first) (HasOrNone (HasOver Begun q system files) first) (HasOrNone (HasPaid Begun q system files) first) (HasOrNone (HasPaid Begun q system files) first) (HasOrNone (HasEnded Begun q system files) first) q
      (telling_then at_gate system files) system
  unfolding telling_then ended_after entered_after
  rests_reading = record {
    over = record {
      last = λ p is. record {
        others = λ other answers so. so_too first answers (λ begun. (begun, λ _ _. others_over q p system files by is other)) so.file;
        own = λ same answers h kept so.
            let w = works system.kernel.disk p is in
            let at : 0 < at_disk old.kernel.disk w.0.p = served_there old.kernel.disk w.0 (sym serves ∙ w.1) in
            let own : IsAtDisk q old = subst (λ (n : ℕ). 0 < at_disk old.kernel.disk n) (w.2 ∙ sym same) at in (
              unchanged_at_disk q p answers system files is same kept,
              own_over answers (told_within files system).answer (ready_again p (step_passed system)) (so.still own) kept so.file,
            );
      };
      more = λ never answers so. so_too first answers (λ begun. (begun, λ p is. absurd (never p is))) so.file;
      stays = stays_or_none first;
    };
    paid = λ answers pays so. so_too first answers (λ over. (over, pays)) so;
    paid_stays = stays_or_none first;
    enters = λ answers _ _ so. so;
    enters_stays = stays_or_none first;
    ends = λ answers pays so. so_too first answers (λ paid. (paid, pays)) so;
    ends_stays = stays_or_none first;
  }

-- so it is in each step

same_spooler : (a b : Spooler) → Some (Spool a) ≡ Some (Spool b) → a ≡ b
same_spooler a b e = cc

keeps_by : (old new : Spooler) (before now : Filing) → new.item ≡ old.item → ((n : ℕ) → seen_in now (key_of_spool_item old.item) n ≡ seen_in before (key_of_spool_item old.item) n)
    → KeepsText old new before now
keeps_by old new before now item records = record {
  item = item;
  records = records;
  text = λ text has.
      subst (λ (i : SpoolItem). HasText (seen_in now (key_of_spool_item i)) text) (sym item)
      (same_text (seen_in before (key_of_spool_item old.item)) (seen_in now (key_of_spool_item old.item)) text records has);
}

abbrev StepReads : ℕ → State → Type 0
StepReads q s = HasEnded (ReadsAtGate q (file_caller s.system) s.system) q (before_disk s.system s.files).system (files_begun s.system s.files)

module _ (q : ℕ) (s : State) (w : IsWhole s.system) (p : IsPrinting q s) (has : has_file (after p.spooling.answers).row ≡ true) where
  goes_reading : Goes (HasOrNone (StepReads q s) p.spooling.answers) q (step_with (telling_of s.system s.files) s.system) s.outputs
  unfolding telling_of before_disk told_first telling_then
  goes_reading =
      let first = p.spooling.answers in
      let begun = (before_disk s.system s.files).system in
      let files = files_begun s.system s.files in
      let filed : IsAtDisk q s.system → CallIsOnFiles first = λ at. (p.spooling.filed at).files in
      let serves = (begun_as_serves (told_first s.system s.files) s.system w p.filed).served in
      goes_in_step q (telling_of s.system s.files) s.system s.outputs w (begins_reads q first s.system w filed (file_caller s.system) s.files (caller_ready s.system w))
      (rests_reading (ReadsAtGate q (file_caller s.system) s.system) q first s.system has (told_first s.system s.files) begun files serves (served_first s w p.filed p.served)
      (its_begun q first s.system s.files p.reads.its_call))
      (spools_as q s.system s.outputs p.spooling (stays_since q s.system first filed (stays_still first)) (record { file = record { file = has; item = refl }; still = λ _. refl }))

  ended_keeps : (answers : List Answer) → has_file (after answers).row ≡ true → HasOrNone (StepReads q s) p.spooling.answers answers
      → KeepsText (after p.spooling.answers) (after answers) (filing_in s.files) (filing_in (next s).files)
  ended_keeps answers still (inr none) = absurd (true≢false (sym still ∙ none))
  ended_keeps answers still (inl so) =
      let reads = p.reads.file has in
      let in_step : ReadsInStep q s = record { begins = so.0.0.0.0; rest = record { over = so.0.0.0.1; paid = so.0.0.1; ended = so.0.1 } } in
      keeps_by (after p.spooling.answers) (after answers) (filing_in s.files) (filing_in (next s).files) so.1.item
      (stays_in_step q (key_of_spool_item (after p.spooling.answers).item) reads.number s in_step p.reads.opens reads.has).records

pub printed_text_stays : (q : ℕ) (s : State) → IsWhole s.system → IsPrinting q s → (old : HasFileOpen q s) (new : HasFileOpen q (next s))
    → KeepsText old.spooler new.spooler (filing_in s.files) (filing_in (next s).files)
unfolding next stepped
printed_text_stays q s w p old new =
    let first = p.spooling.answers in
    let same : after first ≡ old.spooler = same_spooler (after first) old.spooler (sym p.spooling.acts ∙ old.acts) in
    let has : has_file (after first).row ≡ true = ap (λ (t : Spooler). has_file t.row) same ∙ old.file in
    let goes = goes_reading q s w p has in
    let same_then : after goes.answers ≡ new.spooler = same_spooler (after goes.answers) new.spooler (sym goes.acts ∙ new.acts) in
    let keeps = ended_keeps q s w p has goes.answers (ap (λ (t : Spooler). has_file t.row) same_then ∙ new.file) goes.so in
    subst (λ (t : Spooler). KeepsText t new.spooler (filing_in s.files) (filing_in (next s).files)) same
    (subst (λ (t : Spooler). KeepsText (after first) t (filing_in s.files) (filing_in (next s).files)) same_then keeps)

-- and over n steps in which it has its file open all the time

keeps_then : (a b c : Spooler) (f g h : Filing) → KeepsText a b f g → KeepsText b c g h → KeepsText a c f h
keeps_then a b c f g h first then_it =
    keeps_by a c f h (then_it.item ∙ first.item) (λ n. subst (λ (i : SpoolItem). seen_in h (key_of_spool_item i) n ≡ seen_in g (key_of_spool_item i) n) first.item (then_it.records n) ∙ first.records n)

pub printed_text_stays_after : (q n : ℕ) (s : State) → IsWhole s.system → IsPrinting q s → (old : HasFileOpen q s) → ((k : ℕ) → k < n → HasFileOpen q (steps_after k s))
    → (new : HasFileOpen q (steps_after n s)) → KeepsText old.spooler new.spooler (filing_in s.files) (filing_in (steps_after n s).files)
unfolding steps_after
printed_text_stays_after q zero s w p old between new =
    keeps_by old.spooler new.spooler (filing_in s.files) (filing_in s.files) (ap (λ (t : Spooler). t.item) (same_spooler new.spooler old.spooler (sym new.acts ∙ old.acts))) (λ _. refl)
printed_text_stays_after q (suc n) s w p old between new =
    let last : HasFileOpen q (steps_after n s) = between n (omega arith) in
    keeps_then old.spooler last.spooler new.spooler (filing_in s.files) (filing_in (steps_after n s).files) (filing_in (steps_after (suc n) s).files)
    (printed_text_stays_after q n s w p old (λ k less. between k (omega (arith, less))) last)
    (printed_text_stays q (steps_after n s) (whole_after n s w) (printing_after q n s w p) last new)
