-- The spooler asks for a file's deletion only after it closed the file, wholly printed.
use Rattle.std.proofs.Common.{◌≡◌, ◌∙◌, ℕ, ◌+◌, ◌<◌, ◌==◌, ◌&&◌, not, Bool, true, false, if◌then◌else◌, List, ◌∷◌, length, Option, Some, None, IfSome, option_map, inl, inr, refl, sym, ap, subst, arith}
use Rattle.std.specs.Prelude.{◌⊎◌, nat_lt, drop, slice_get, slice_index}
use Rattle.std.proofs.lemmas.Bool.{false≢true}
use Rattle.std.proofs.lemmas.Option.{none-some}
use Rattle.mpm_base.proofs.Choices.{either}
use Rattle.mpm_base.specs.Calls.{Answer}
use Rattle.mpm_base.specs.Lists.{in_width}
use Rattle.mpm_directories.specs.Direct.{Directly}
use Rattle.mpm_dispatcher.specs.Dispatch.{IsReady}
use Rattle.mpm_kernel.proofs.DiskLaws.{ready_not_at_disk}
use Rattle.mpm_residents.specs.Natives.{native_in, native_call}
use Rattle.mpm_residents.specs.declared.native.Native.{Native}
use Rattle.mpm_residents.specs.declared.native.Native.TheVariants.{Spool}
use Rattle.mpm_service.specs.Places.{at_disk}
use Rattle.mpm_spool.specs.SpoolLists.{list_of}
use Rattle.mpm_spool.specs.Spoolers.{Spooler, call_at, next_call, begun_next, begun_with, with_list, with_block, record_in, row_at, with_record, took, took_at, after}
use Rattle.mpm_spool.proofs.CallingRows.{deletes_alone, ClosesWhole, asks_at}
use Rattle.mpm_spool.specs.declared.list.SpoolItem.{SpoolItem}
use Rattle.mpm_spool.specs.declared.table.Row.{Row}
use Rattle.mpm_spool.specs.declared.table.Row.TheVariants.{ReadList, Open, Attach, AskStop, Read, Print, Detach, Close, Delete}
use Rattle.mpm_system.specs.FileCalling.{call_made}
use Rattle.mpm_system.specs.Whole.{IsWhole}
use Rattle.mpm_system.specs.declared.system.System.{System}
use Rattle.mpm_machine.proofs.BegunLaws.{begun_as_serves}
use Rattle.mpm_machine.proofs.FiledLaws.{caller_ready, caller_files}
use Rattle.mpm_machine.proofs.NamedLaws.{named_in_full}
use Rattle.mpm_machine.proofs.OpeningLaws.{deleting_names}
use Rattle.mpm_machine.proofs.PrintingSteps.{unchanged_at_gate, unchanged_at_disk, served_there, same_process, works}
use Rattle.mpm_machine.proofs.SpoolingDisk.{Begins, Rests, goes_in_step}
use Rattle.mpm_machine.proofs.SpoolingFiles.{Called}
use Rattle.mpm_machine.proofs.SpoolingLaws.{Stays, spools_as}
use Rattle.mpm_machine.proofs.SpoolingRows.{Goes}
use Rattle.mpm_machine.specs.After.{next}
use Rattle.mpm_machine.specs.DiskStep.{told_at_gate}
use Rattle.mpm_machine.specs.FileCalls.{called_next, calls_files, file_caller, is_file_number, is_of_files}
use Rattle.mpm_machine.specs.Files.{FilesInService}
use Rattle.mpm_spool.specs.Printed.{has_file}
use Rattle.mpm_machine.specs.Printing.{NamesFile, key_of_spool_item, has_closing, IsPrinting, ClosedPrinted, DeletesPrinted}
use Rattle.mpm_machine.specs.Spooling.{IsAtHome}
use Rattle.mpm_machine.specs.State.{State}
use Rattle.mpm_machine.specs.Stepping.{before_disk, files_begun, stepped, step_with, telling_of, telling_then, told_first, told_first_by, told_within}

-- since a step began, as it had taken the first answers: where it now asks for a deletion, it has taken no other, or one more, to its closing
abbrev AsksOnly : List Answer → List Answer → Type 0
AsksOnly first answers = (after answers).row ≡ Delete → (answers ≡ first) ⊎ ClosesWhole (after first).row (after first) (after answers)

-- and it has taken no other where something is so of that beginning
record AsksSince (Begun : Type 0) (first answers : List Answer) : Type 0 where
  asks : AsksOnly first answers
  still : Begun → answers ≡ first

asks_itself : {Begun : Type 0} (first answers : List Answer) → answers ≡ first → AsksSince Begun first answers
asks_itself first answers same = record { asks = λ _. inl same; still = λ _. same }

asks_next : (first : List Answer) (reply : Answer) → AsksOnly first (reply ∷ first)
unfolding after took
asks_next first reply is = inr (asks_at (after first).row (after first) reply refl is)

closing_files : (row : Row) (s : Spooler) → row ≡ Close → is_of_files (call_at row s).function ≡ true
unfolding is_of_files Rattle.mpm_file_functions.specs.Functions.function_of Rattle.mpm_file_functions.specs.Functions.direct_of
closing_files row s is = ap (λ (r : Row). is_of_files (call_at r s).function) is

stays_asking : (first : List Answer) → Stays (AsksOnly first)
unfolding after took next_call
stays_asking first answers reply other so is =
    let closes = asks_at (after answers).row (after answers) reply refl is in
    absurd (false≢true (sym other ∙ closing_files (after answers).row (after answers) closes.closes))

stays_since : {Begun : Type 0} (first : List Answer) → (Begun → is_of_files (next_call (after first)).function ≡ true) → Stays (AsksSince Begun first)
stays_since first files answers reply other so = record {
  asks = stays_asking first answers reply other so.asks;
  still = λ begun. absurd (false≢true (sym other ∙ ap (λ (xs : List Answer). is_of_files (next_call (after xs)).function) (so.still begun) ∙ files begun));
}

-- what a step begins with

-- the call of its row is one on files, and its call is at the disk
abbrev CallIsOnFiles : List Answer → Type 0
CallIsOnFiles first = is_of_files (next_call (after first)).function ≡ true

abbrev IsAtDisk : ℕ → System → Type 0
IsAtDisk q system = 0 < at_disk system.kernel.disk q

its_call : (q : ℕ) (answers : List Answer) (system : System) → native_in system.residents q ≡ Some (Spool (after answers)) → IsAtHome q system
    → calls_files q system ≡ is_of_files (next_call (after answers)).function
unfolding calls_files
its_call q answers system acts home =
    ap (λ (seg : Option ℕ). is_file_number (called_next seg q system)) home.resides
    ∙ ap (λ (o : Option Native). is_file_number (option_map (λ (native : Native). (native_call native).function) o)) acts

module _ (q : ℕ) (first : List Answer) (system : System) (w : IsWhole system) (acts : native_in system.residents q ≡ Some (Spool (after first))) (home : IsAtHome q system)
    (filed : IsAtDisk q system → CallIsOnFiles first) where
  called_asking : (p : ℕ) (files : FilesInService) → IsReady system.kernel.dispatcher p → calls_files p system ≡ true
      → Called (AsksSince (CallIsOnFiles first) first) (AsksSince (IsAtDisk q system) first) q p (told_at_gate p (call_made p system) files) (call_made p system)
  called_asking p files ready makes =
      let reply = (told_at_gate p (call_made p system) files).answer in
      let waits : (answers : List Answer) → AsksSince (CallIsOnFiles first) first answers → AsksSince (IsAtDisk q system) first answers =
      λ answers so. record { asks = so.asks; still = λ at. so.still (filed at) } in
      record {
        at_once = λ _. record {
          others = λ _. waits;
          own = λ same answers h f so.
              let P : ℕ → Type 0 = λ n. calls_files n system ≡ true in
              let files_own : CallIsOnFiles first = sym (its_call q first system acts home) ∙ subst P (sym same) makes in
              let ready_own : IsReady system.kernel.dispatcher q = subst (λ (n : ℕ). IsReady system.kernel.dispatcher n) (sym same) ready in
              let none = ready_not_at_disk system.kernel q w.sound ready_own in (
                unchanged_at_gate q p answers (call_made p system) files same f,
                subst (λ (xs : List Answer). AsksSince (IsAtDisk q system) first (reply ∷ xs)) (sym (so.still files_own))
                    (record { asks = asks_next first reply; still = λ at. absurd (omega (arith, at, none)) }),
              );
        };
        waits = λ _. waits;
        stays = stays_since first filed;
      }

  begins_asking : (caller : Option ℕ) (files : FilesInService) → IfSome caller (λ p. IsReady system.kernel.dispatcher p) → IfSome caller (λ p. calls_files p system ≡ true)
      → Begins (AsksSince (CallIsOnFiles first) first) (AsksSince (IsAtDisk q system) first) q caller (told_first_by caller system files) system
  begins_asking None files ready makes = record {
    made = λ p is. absurd (none-some p is);
    none = λ _ answers so. record { asks = so.asks; still = λ at. so.still (filed at) };
    stays = stays_since first filed;
  }
  begins_asking (Some p) files ready makes = record {
    made = λ r is.
        subst (λ (n : ℕ). Called (AsksSince (CallIsOnFiles first) first) (AsksSince (IsAtDisk q system) first) q n (told_at_gate p (call_made p system) files) (call_made n system))
        (same_process p r is) (called_asking p files ready makes);
    none = λ none. absurd (none-some p (sym none));
    stays = stays_since first filed;
  }

-- and the rest of it: where its own call is over, that was in service as the step began

rests_asking : (q : ℕ) (first : List Answer) (old : System) (at_gate : Directly) (system : System) (files : FilesInService) → system.kernel.disk.served ≡ old.kernel.disk.served
    → Rests (AsksSince (IsAtDisk q old) first) (AsksOnly first) (AsksOnly first) (AsksOnly first) (AsksOnly first) q (telling_then at_gate system files) system
unfolding telling_then
rests_asking q first old at_gate system files serves = record {
  over = record {
    last = λ p is. record {
      others = λ _ answers so. so.asks;
      own = λ same answers h f so.
          let w = works system.kernel.disk p is in
          let at : 0 < at_disk old.kernel.disk w.0.p = served_there old.kernel.disk w.0 (sym serves ∙ w.1) in
          let own : IsAtDisk q old = subst (λ (n : ℕ). 0 < at_disk old.kernel.disk n) (w.2 ∙ sym same) at in
          let reply = (told_within files system).answer in (
            unchanged_at_disk q p answers system files is same f,
            subst (λ (xs : List Answer). AsksOnly first (reply ∷ xs)) (sym (so.still own)) (asks_next first reply),
          );
    };
    more = λ _ answers so. so.asks;
    stays = stays_asking first;
  };
  paid = λ answers _ so. so;
  paid_stays = stays_asking first;
  enters = λ answers _ _ so. so;
  enters_stays = stays_asking first;
  ends = λ answers _ so. so;
  ends_stays = stays_asking first;
}

-- so it is in each step

same_spooler : (a b : Spooler) → Some (Spool a) ≡ Some (Spool b) → a ≡ b
same_spooler a b e = cc

deleting_call : (s : Spooler) → length s.item.name ≡ 11 → NamesFile (next_call (record s { row = Delete })).fcb (key_of_spool_item s.item)
unfolding next_call
deleting_call s size = deleting_names s.item size

module _ (q : ℕ) (s : State) (p : IsPrinting q s) where
  closed_whole : (asks : Spooler) → ClosesWhole (after p.spooling.answers).row (after p.spooling.answers) asks → ClosedPrinted q s p asks
  closed_whole asks c =
      let before = after p.spooling.answers in
      record {
        before = before;
        acts = p.spooling.acts;
        closes = c.closes;
        printed = c.printed;
        whole = p.prints.whole (ap has_closing c.closes) c.printed;
        came = p.spooling.came (ap has_file c.closes);
        names = subst (λ (t : Spooler). NamesFile (next_call t).fcb (key_of_spool_item before.item)) (sym c.same) (deleting_call before (named_in_full p.spooling.answers));
        same = c.same;
      }

  asks_by : (answers : List Answer) (new : List Native) → native_in new q ≡ Some (Spool (after answers)) → AsksOnly p.spooling.answers answers → DeletesPrinted q s p new
  asks_by answers new acts so asks is deletes =
      let same : after answers ≡ asks = same_spooler (after answers) asks (sym acts ∙ is) in
      let Q : Spooler → Type 0 = λ t. (native_in s.system.residents q ≡ Some (Spool t)) ⊎ ClosedPrinted q s p t in
      subst Q same (by_answers (so (ap (λ (t : Spooler). t.row) same ∙ deletes_alone asks deletes)))
    where
      by_answers : (answers ≡ p.spooling.answers) ⊎ ClosesWhole (after p.spooling.answers).row (after p.spooling.answers) (after answers)
          → (native_in s.system.residents q ≡ Some (Spool (after answers))) ⊎ ClosedPrinted q s p (after answers)
      by_answers (inl none) = inl (p.spooling.acts ∙ ap (λ (xs : List Answer). Some (Spool (after xs))) (sym none))
      by_answers (inr closed) = inr (closed_whole (after answers) closed)

pub deleting_next : (q : ℕ) (s : State) → IsWhole s.system → (p : IsPrinting q s) → DeletesPrinted q s p (next s).system.residents
unfolding next stepped telling_of telling_then before_disk told_first
deleting_next q s w p =
    let first = p.spooling.answers in
    let system = s.system in
    let begun = (before_disk system s.files).system in
    let filed : IsAtDisk q system → CallIsOnFiles first = λ at. (p.spooling.filed at).files in
    let goes : Goes (AsksOnly first) q (step_with (telling_of system s.files) system) s.outputs =
    goes_in_step q (telling_of system s.files) system s.outputs w
    (begins_asking q first system w p.spooling.acts p.spooling.home filed (file_caller system) s.files (caller_ready system w) (caller_files system))
    (rests_asking q first system (told_first system s.files) begun (files_begun system s.files) (begun_as_serves (told_first system s.files) system w p.filed).served)
    (spools_as q system s.outputs p.spooling (stays_since {Begun = CallIsOnFiles first} first (λ files. files)) (asks_itself first first refl)) in
    asks_by q s p goes.answers (next s).system.residents goes.acts goes.so
