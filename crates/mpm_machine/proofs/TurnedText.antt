-- While a call is in service, the file that the spooler prints is on the drives for which the images stand as it is on those that the call
-- found: other calls leave it, and its own read it, or close it.
use Rattle.std.proofs.Common.{◌≡◌, ◌∙◌, inl, inr, ℕ, true, List, Option, Some, None, length, refl, sym, ap, subst}
use Rattle.std.specs.Prelude.{◌⊎◌, slice_index_or, slice_set, unwrap_or}
use Rattle.std.proofs.lemmas.Bool.{false≢true, cases_eq, cases_lt}
use Rattle.std.proofs.lemmas.List.{get_or-set_same, get_or-set_other, set_past}
use Rattle.mpm_base.specs.Calls.{Answer}
use Rattle.mpm_bdos.proofs.KeptFile.{turns_keep_file}
use Rattle.mpm_bdos.proofs.NextTurns.{job_drives, idle_drives}
use Rattle.mpm_bdos.specs.Jobs.{reading_job, job_by, unless_refused, job_of}
use Rattle.mpm_bdos.specs.OpenToRead.{HasFile}
use Rattle.mpm_bdos.specs.Outcomes.{drives_after}
use Rattle.mpm_file_functions.specs.Functions.{function_of}
use Rattle.mpm_file_functions.specs.declared.functions.FileFunction.{FileFunction}
use Rattle.mpm_file_functions.specs.declared.functions.FileFunction.TheVariants.{CloseFile, ReadSequential}
use Rattle.mpm_file_functions.specs.declared.refusals.Refusal.{Refusal}
use Rattle.mpm_files.proofs.KeptEntries.{entries_stay, records_stay}
use Rattle.mpm_files.specs.Serving.{units_done}
use Rattle.mpm_mount.specs.Drives.{Drive, visible_of}
use Rattle.mpm_opens.specs.Opens.{AreOpen}
use Rattle.mpm_opens.specs.declared.kinds.FileKey.{FileKey}
use Rattle.mpm_refusals.specs.Filing.{Situation}
use Rattle.mpm_refusals.specs.Refusals.{refusal_of}
use Rattle.mpm_refusals.specs.Subjects.{blank_drive, drive_at, drive_number, file_of}
use Rattle.mpm_service.specs.declared.service.Served.{Served}
use Rattle.mpm_spool.specs.Spoolers.{Spooler, call_at, next_call, after}
use Rattle.mpm_spool.specs.declared.table.Row.{Row}
use Rattle.mpm_spool.specs.declared.table.Row.TheVariants.{ReadList, Open, Attach, AskStop, Read, Print, Detach, Close, Delete}
use Rattle.mpm_machine.proofs.FileStays.{same_function}
use Rattle.mpm_machine.specs.Files.{FilesInService, Between, Within, filing_in, turns_ended, drives_in}
use Rattle.mpm_spool.specs.Printed.{has_file}
use Rattle.mpm_machine.specs.PrintedText.{seen_on}
use Rattle.mpm_machine.specs.Printing.{key_of_spool_item, seen_in, IfItsCall, IsPrinting, ReadsOpenFile}
use Rattle.mpm_machine.specs.State.{State}

-- one drive was changed, and the file's records on it weren't
seen_there : (drives : List (Option Drive)) (number : ℕ) (new : Drive) (key : FileKey) (n : ℕ)
    → (key.drive ≡ number → visible_of new (file_of key) n ≡ visible_of (unwrap_or (slice_index_or drives number None) blank_drive) (file_of key) n)
    → seen_on (slice_set drives number (Some new)) key n ≡ seen_on drives key n
seen_there drives number new key n same = elim (cases_eq key.drive number) [
  | inl here ↦
      let P : ℕ → Type 0 = λ k. on_drive (slice_set drives number (Some new)) k ≡ on_drive drives k in
      subst P (sym here) (elim (cases_lt number (length drives)) [
        | inl within ↦ ap seen_of (get_or-set_same drives number (Some new) None within) ∙ same here
        | inr past ↦ ap (λ (ds : List (Option Drive)). on_drive ds number) (set_past drives number (Some new) past)
      ])
  | inr other ↦ ap seen_of (get_or-set_other drives number key.drive (Some new) None other)
] where
  seen_of : Option Drive → Option (List ℕ)
  seen_of place = visible_of (unwrap_or place blank_drive) (file_of key) n

  on_drive : List (Option Drive) → ℕ → Option (List ℕ)
  on_drive ds number = seen_of (slice_index_or ds number None)

-- a call that reads, or closes

abbrev ReadsOrCloses : FileFunction → Type 0
ReadsOrCloses function = (function ≡ ReadSequential) ⊎ (function ≡ CloseFile)

idle_shows : (s : Situation) (j : ℕ) (key : FileKey) (n : ℕ) → job_of s ≡ None → seen_on (drives_after s j) key n ≡ seen_on s.filing.drives key n
idle_shows s j key n is = ap (λ (drives : List (Option Drive)). seen_on drives key n) (idle_drives s j is)

reading_shows : (s : Situation) (j : ℕ) (key : FileKey) (n : ℕ) → job_of s ≡ Some (reading_job s) → seen_on (drives_after s j) key n ≡ seen_on s.filing.drives key n
unfolding drive_at
reading_shows s j key n is =
    let job = reading_job s in
    let new = units_done (drive_at s) job j in
    ap (λ (drives : List (Option Drive)). seen_on drives key n) (job_drives s job j is)
    ∙ seen_there s.filing.drives (drive_number s) new key n (λ _. records_stay (file_of key) (drive_at s) new n (entries_stay (drive_at s) job j (file_of key) refl))

refused_job : (s : Situation) (refusal : Option Refusal) → refusal_of s ≡ refusal → job_of s ≡ unless_refused refusal (job_by s s.function)
unfolding job_of
refused_job s refusal is = ap (λ (r : Option Refusal). unless_refused r (job_by s s.function)) is

own_shows : (s : Situation) (j : ℕ) (key : FileKey) (n : ℕ) → ReadsOrCloses s.function → refusal_of s ≡ None → seen_on (drives_after s j) key n ≡ seen_on s.filing.drives key n
unfolding job_by
own_shows s j key n (inl reads) none = reading_shows s j key n (refused_job s None none ∙ ap (job_by s) reads)
own_shows s j key n (inr closes) none = idle_shows s j key n (refused_job s None none ∙ ap (job_by s) closes)

-- with so many turns ended
turns_show : (s : Situation) (q : ℕ) (key : FileKey) (number j n : ℕ) → (s.caller.process ≡ q → ReadsOrCloses s.function) → AreOpen s.filing.opens → HasFile q key number s.filing
    → seen_on (drives_after s j) key n ≡ seen_on s.filing.drives key n
turns_show s q key number j n own sound has = by_refusal (refusal_of s) refl where
  by_refusal : (refusal : Option Refusal) → refusal_of s ≡ refusal → seen_on (drives_after s j) key n ≡ seen_on s.filing.drives key n
  by_refusal (Some refusal) is = idle_shows s j key n (refused_job s (Some refusal) is)
  by_refusal None is = elim (cases_eq s.caller.process q) [
    | inl its ↦ own_shows s j key n (own its) is
    | inr other ↦ records_stay (file_of key) _ _ n (turns_keep_file s q key number j other sound has is)
  ]

-- in the rows in which the spooler has its file
its_function : (row : Row) (s : Spooler) (function : FileFunction) → has_file row ≡ true → function_of (call_at row s).function ≡ Some function → ReadsOrCloses function
unfolding function_of
its_function ReadList s function has is = absurd (false≢true has)
its_function Open s function has is = absurd (false≢true has)
its_function Attach s function has is = absurd (cc)
its_function AskStop s function has is = absurd (cc)
its_function Read s function has is = inl (sym (same_function ReadSequential function is))
its_function Print s function has is = absurd (cc)
its_function Detach s function has is = absurd (cc)
its_function Close s function has is = inr (sym (same_function CloseFile function is))
its_function Delete s function has is = absurd (false≢true has)

its_call : (q : ℕ) (answers : List Answer) (s : Situation) → has_file (after answers).row ≡ true → IfItsCall q answers (Within s) → s.caller.process ≡ q → ReadsOrCloses s.function
unfolding next_call
its_call q answers s has call own = its_function (after answers).row (after answers) s.function has (call own).function

shown_by : (served : Option Served) (q : ℕ) (answers : List Answer) (files : FilesInService) (n : ℕ) → ReadsOpenFile q answers files → has_file (after answers).row ≡ true
    → seen_on (drives_in served files) (key_of_spool_item (after answers).item) n ≡ seen_in (filing_in files) (key_of_spool_item (after answers).item) n
unfolding drives_in
shown_by served q answers (Between filing) n reads has = refl
shown_by None q answers (Within s) n reads has = refl
shown_by (Some call) q answers (Within s) n reads has =
    let file = reads.file has in
    turns_show s q (key_of_spool_item (after answers).item) file.number (turns_ended call s) n (its_call q answers s has reads.its_call) reads.opens file.has

pub shown_as_printed : (q : ℕ) (s : State) (p : IsPrinting q s) (n : ℕ) → has_file (after p.spooling.answers).row ≡ true
    → seen_on (drives_in s.system.kernel.disk.served s.files) (key_of_spool_item (after p.spooling.answers).item) n
    ≡ seen_in (filing_in s.files) (key_of_spool_item (after p.spooling.answers).item) n
shown_as_printed q s p n has = shown_by s.system.kernel.disk.served q p.spooling.answers s.files n p.reads has
