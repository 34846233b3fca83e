-- A file that a process has open in read-only mode stays as it is in each step in which no file call of the process is done but one that
-- reads, and it gives nothing back; and nothing is opened for the process.
use Rattle.std.proofs.Common.{◌≡◌, ◌∙◌, inl, inr, ℕ, Bool, true, false, cond, List, [], ◌∷◌, Option, Some, None, refl, sym, ap, subst}
use Rattle.std.specs.Prelude.{⊤}
use Rattle.std.specs.List.{range_with_len}
use Rattle.std.proofs.lemmas.Bool.{true≢false, cases_eq}
use Rattle.mpm_base.proofs.Choices.{either}
use Rattle.mpm_service.specs.Disk.{turn_answer, served_process}
use Rattle.mpm_service.specs.declared.service.Turn.{Turn}
use Rattle.mpm_service.specs.declared.service.Turn.TheVariants.{Idle, Passing, Work, Starts}
use Rattle.mpm_opens.specs.declared.kinds.FileKey.{FileKey}
use Rattle.mpm_opens.proofs.OneItem.{others_open_none}
use Rattle.mpm_opens.specs.Items.{has_item, is_of}
use Rattle.mpm_opens.specs.Opens.{AreOpen, OpensNone}
use Rattle.mpm_procs.specs.Table.{call_of}
use Rattle.mpm_file_functions.specs.declared.functions.FileFunction.{FileFunction}
use Rattle.mpm_file_functions.specs.declared.functions.FileFunction.TheVariants.{ReadSequential}
use Rattle.mpm_file_functions.specs.declared.functions.DirectFunction.{DirectFunction}
use Rattle.mpm_file_functions.specs.Functions.{function_of, direct_of}
use Rattle.mpm_refusals.specs.Filing.{Filing, Situation}
use Rattle.mpm_bdos.specs.Outcomes.{file_call, left_by, without_search}
use Rattle.mpm_bdos.specs.OpenToRead.{HasFile, KeepsFile}
use Rattle.mpm_bdos.proofs.SoundLaws.{call_keeps_sound, end_keeps_sound}
use Rattle.mpm_bdos.proofs.OthersItems.{call_leaves, end_leaves}
use Rattle.mpm_bdos.proofs.KeptFile.{kept_by_others, reads_place, kept_by_reading, kept_as_left, kept_same, kept_after, has_still}
use Rattle.mpm_system.specs.declared.system.System.{System}
use Rattle.mpm_system.specs.FileCalling.{call_made}
use Rattle.mpm_machine.specs.State.{State}
use Rattle.mpm_machine.specs.Files.{FilesInService, Between, Within, filing_in, owes, given_back}
use Rattle.mpm_machine.specs.FileCalls.{file_caller, situation_of, outcome_by, outcome_in}
use Rattle.mpm_machine.specs.DiskStep.{is_done_at_once, disk_served, done_at_once, files_called, files_over, files_served_by, files_served, within_call, entering_call, files_entered_by, files_entered_unless, files_entered}
use Rattle.mpm_machine.specs.Stepping.{nothing_told, files_begun_by, files_begun, before_disk, told_within, paid_after, ended_after, telling_then, files_paid, files_then, files_rest, stepped}
use Rattle.mpm_machine.specs.After.{next}
use Rattle.mpm_machine.proofs.LeftLaws.{left_each, all_left_each}

-- of what stands, all of it together
pub record IsOpen (q : ℕ) (key : FileKey) (number : ℕ) (filing : Filing) : Type 0 where
  pub sound : AreOpen filing.opens
  pub has : HasFile q key number filing

pub record Stays (q : ℕ) (key : FileKey) (number : ℕ) (old new : Filing) : Type 0 where
  pub none : OpensNone q old.opens new.opens
  pub file : IsOpen q key number old → IsOpen q key number new × KeepsFile key number old new

stays_same : (q : ℕ) (key : FileKey) (number : ℕ) (filing : Filing) → Stays q key number filing filing
stays_same q key number filing = record { none = λ _ none. none; file = λ is. (is, kept_same key number filing) }

stays_after : (q : ℕ) (key : FileKey) (number : ℕ) (a b c : Filing) → Stays q key number a b → Stays q key number b c → Stays q key number a c
stays_after q key number a b c first second = record {
  none = λ place none. second.none place (first.none place none);
  file = λ is.
      let one = first.file is in
      let other = second.file one.0 in
      (other.0, kept_after key number a b c one.1 other.1);
}

kept : (q : ℕ) (key : FileKey) (number : ℕ) (old new : Filing) → HasFile q key number old → AreOpen new.opens → KeepsFile key number old new → IsOpen q key number new × KeepsFile key number old new
kept q key number old new has sound keeps = (record { sound = sound; has = has_still q key number old new has keeps }, keeps)

-- a call of another process, or one that reads
abbrev pub ReadsAs : ℕ → ℕ → Option FileFunction → Type 0
ReadsAs q p None = ⊤
ReadsAs q p (Some function) = p ≡ q → function ≡ ReadSequential

abbrev pub ReadsIn : ℕ → FilesInService → Type 0
ReadsIn q (Between filing) = ⊤
ReadsIn q (Within s) = s.caller.process ≡ q → s.function ≡ ReadSequential

call_stays : (q : ℕ) (key : FileKey) (number : ℕ) (s : Situation) → (s.caller.process ≡ q → s.function ≡ ReadSequential) → Stays q key number s.filing (file_call s).filing
call_stays q key number s reads =
    elim (cases_eq s.caller.process q) [
      | inl own ↦ record {
        none = λ place none. ap (has_item (is_of q)) (reads_place s place (reads own)) ∙ none;
        file = λ is. kept q key number s.filing (file_call s).filing is.has (call_keeps_sound s is.sound) (kept_by_reading s q key number (reads own) is.has);
      }
      | inr other ↦ record {
        none = others_open_none s.caller.process q s.filing.opens (file_call s).filing.opens (call_leaves s) other;
        file = λ is. kept q key number s.filing (file_call s).filing is.has (call_keeps_sound s is.sound) (kept_by_others s q key number other is.sound is.has);
      }
    ]

outcome_stays : (q : ℕ) (key : FileKey) (number : ℕ) (function : Option FileFunction) (other : Option DirectFunction) (filing : Filing) (p : ℕ) (system : System) → ReadsAs q p function
    → Stays q key number filing (outcome_by function other filing p system).filing
outcome_stays q key number (Some function) other filing p system reads = call_stays q key number (situation_of filing function p system) reads
outcome_stays q key number None (Some function) filing p system reads = stays_same q key number filing
outcome_stays q key number None None filing p system reads = stays_same q key number filing

abbrev pub ReadsMade : ℕ → ℕ → System → Type 0
ReadsMade q p system = ReadsAs q p (function_of (call_of system.kernel.dispatcher.procs p).function)

made_stays : (q : ℕ) (key : FileKey) (number : ℕ) (filing : Filing) (p : ℕ) (system : System) → ReadsMade q p system → Stays q key number filing (outcome_in filing p system).filing
unfolding outcome_in
made_stays q key number filing p system reads =
    outcome_stays q key number (function_of (call_of system.kernel.dispatcher.procs p).function) (direct_of (call_of system.kernel.dispatcher.procs p).function) filing p system reads

-- of files, between two calls of the disk or within one
abbrev pub StaysIn : ℕ → FileKey → ℕ → FilesInService → FilesInService → Type 0
StaysIn q key number old new = Stays q key number (filing_in old) (filing_in new)

at_once_stays : (q : ℕ) (key : FileKey) (number p : ℕ) (system : System) (files : FilesInService) → ReadsMade q p system → StaysIn q key number files (done_at_once p system files)
at_once_stays q key number p system (Between filing) reads = made_stays q key number filing p system reads
at_once_stays q key number p system (Within s) reads = stays_same q key number s.filing

-- one that waits for the disk leaves them
once_called_stays : (q : ℕ) (key : FileKey) (number p : ℕ) (system : System) (files : FilesInService) → (is_done_at_once p system ≡ true → ReadsMade q p system)
    → StaysIn q key number files (files_called p system files)
unfolding files_called
once_called_stays q key number p system files reads =
    either (StaysIn q key number files) (is_done_at_once p system) (done_at_once p system files) files (λ once. at_once_stays q key number p system files (reads once))
    (λ _. stays_same q key number (filing_in files))

pub called_stays : (q : ℕ) (key : FileKey) (number p : ℕ) (system : System) (files : FilesInService) → ReadsMade q p system → StaysIn q key number files (files_called p system files)
called_stays q key number p system files reads = once_called_stays q key number p system files (λ _. reads)

-- where the process's own call is done at once, it reads
abbrev pub ReadsAtGate : ℕ → Option ℕ → System → Type 0
ReadsAtGate q None system = ⊤
ReadsAtGate q (Some p) system =
    p ≡ q → is_done_at_once p (call_made p system) ≡ true → function_of (call_of (call_made p system).kernel.dispatcher.procs p).function ≡ Some ReadSequential

pub same_function : (a b : FileFunction) → Some a ≡ Some b → a ≡ b
same_function a b e = cc

reads_as : (q p : ℕ) (function : Option FileFunction) → (p ≡ q → function ≡ Some ReadSequential) → ReadsAs q p function
reads_as q p None reads = tt
reads_as q p (Some function) reads = λ same. same_function function ReadSequential (reads same)

begun_stays_by : (q : ℕ) (key : FileKey) (number : ℕ) (caller : Option ℕ) (system : System) (files : FilesInService) → ReadsAtGate q caller system
    → StaysIn q key number files (files_begun_by caller system files)
begun_stays_by q key number None system files reads = stays_same q key number (filing_in files)
begun_stays_by q key number (Some p) system files reads =
    let made = call_made p system in
    once_called_stays q key number p made files (λ once. reads_as q p (function_of (call_of made.kernel.dispatcher.procs p).function) (λ same. reads same once))

pub begun_stays : (q : ℕ) (key : FileKey) (number : ℕ) (system : System) (files : FilesInService) → ReadsAtGate q (file_caller system) system → StaysIn q key number files (files_begun system files)
unfolding files_begun
begun_stays q key number system files reads = begun_stays_by q key number (file_caller system) system files reads

-- the call that is over
abbrev pub ReadsOver : ℕ → Turn → FilesInService → Type 0
ReadsOver q turn files = (p : ℕ) → turn ≡ Work p true → ReadsIn q files

over_stays : (q : ℕ) (key : FileKey) (number : ℕ) (turn : Turn) (files : FilesInService) → ReadsOver q turn files → StaysIn q key number files (files_over turn files)
over_stays q key number Idle files reads = stays_same q key number (filing_in files)
over_stays q key number Passing files reads = stays_same q key number (filing_in files)
over_stays q key number (Starts p) files reads = stays_same q key number (filing_in files)
over_stays q key number (Work p last) (Between filing) reads = stays_same q key number filing
over_stays q key number (Work p true) (Within s) reads = call_stays q key number s (reads p refl)
over_stays q key number (Work p false) (Within s) reads = stays_same q key number s.filing

served_stays_by : (q : ℕ) (key : FileKey) (number : ℕ) (served : Option ℕ) (system : System) (files : FilesInService) → ReadsOver q (turn_answer system.kernel.disk) files
    → StaysIn q key number files (files_served_by served system files)
served_stays_by q key number None system files reads = stays_same q key number (filing_in files)
served_stays_by q key number (Some p) system files reads = over_stays q key number (turn_answer system.kernel.disk) files reads

over_served_stays : (q : ℕ) (key : FileKey) (number : ℕ) (system : System) (files : FilesInService) → ReadsOver q (turn_answer system.kernel.disk) files
    → StaysIn q key number files (files_served system files)
unfolding files_served
over_served_stays q key number system files reads = served_stays_by q key number (served_process system.kernel.disk) system files reads

pub served_stays : (q : ℕ) (key : FileKey) (number : ℕ) (system : System) (files : FilesInService) → ReadsIn q files → StaysIn q key number files (files_served system files)
served_stays q key number system files reads = over_served_stays q key number system files (λ _ _. reads)

-- what those leave who end in it
gone_stays : (q : ℕ) (key : FileKey) (number : ℕ) (gone : Bool) (p : ℕ) (filing : Filing) → (p ≡ q → gone ≡ false)
    → Stays q key number filing (cond gone (without_search (left_by filing p) p) filing)
gone_stays q key number true p filing stays =
    let new : Filing = without_search (left_by filing p) p in
    record {
      none = others_open_none p q filing.opens new.opens (end_leaves filing p) (λ same. true≢false (stays same));
      file = λ is. kept q key number filing new is.has (end_keeps_sound filing p is.sound) (kept_as_left filing p q key number (λ same. true≢false (stays same)) is.has);
    }
gone_stays q key number false p filing stays = stays_same q key number filing

each_stays : (q : ℕ) (key : FileKey) (number : ℕ) (gone : ℕ → Bool) (ps : List ℕ) (filing : Filing) → gone q ≡ false → Stays q key number filing (left_each gone ps filing)
unfolding left_each
each_stays q key number gone [] filing stays = stays_same q key number filing
each_stays q key number gone (p ∷ ps) filing stays =
    let first : Filing = cond (gone p) (without_search (left_by filing p) p) filing in
    stays_after q key number filing first (left_each gone ps first) (gone_stays q key number (gone p) p filing (λ same. ap gone same ∙ stays)) (each_stays q key number gone ps first stays)

pub given_stays : (q : ℕ) (key : FileKey) (number : ℕ) (owed : List Bool) (files : FilesInService) → owes owed q ≡ false → StaysIn q key number files (given_back owed files)
given_stays q key number owed (Between filing) stays =
    subst (Stays q key number filing) (sym (all_left_each owed filing)) (each_stays q key number (owes owed) (range_with_len 0 32) filing stays)
given_stays q key number owed (Within s) stays = stays_same q key number s.filing

-- the call that enters
within_stays : (q : ℕ) (key : FileKey) (number : ℕ) (function : Option FileFunction) (filing : Filing) (p : ℕ) (system : System)
    → StaysIn q key number (Between filing) (within_call function filing p system)
within_stays q key number None filing p system = stays_same q key number filing
within_stays q key number (Some function) filing p system = stays_same q key number filing

entering_stays : (q : ℕ) (key : FileKey) (number p : ℕ) (system : System) (files : FilesInService) → StaysIn q key number files (entering_call p system files)
entering_stays q key number p system (Within s) = stays_same q key number s.filing
entering_stays q key number p system (Between filing) = within_stays q key number (function_of (call_of system.kernel.dispatcher.procs p).function) filing p system

entered_stays_by : (q : ℕ) (key : FileKey) (number : ℕ) (turn : Turn) (system : System) (files : FilesInService) → StaysIn q key number files (files_entered_by turn system files)
entered_stays_by q key number Idle system files = stays_same q key number (filing_in files)
entered_stays_by q key number Passing system files = stays_same q key number (filing_in files)
entered_stays_by q key number (Work p last) system files = stays_same q key number (filing_in files)
entered_stays_by q key number (Starts p) system files = entering_stays q key number p system files

entered_stays_unless : (q : ℕ) (key : FileKey) (number : ℕ) (served : Option ℕ) (system : System) (files : FilesInService)
    → StaysIn q key number files (files_entered_unless served system files)
entered_stays_unless q key number (Some p) system files = stays_same q key number (filing_in files)
entered_stays_unless q key number None system files = entered_stays_by q key number (turn_answer system.kernel.disk) system files

pub entered_stays : (q : ℕ) (key : FileKey) (number : ℕ) (system : System) (files : FilesInService) → StaysIn q key number files (files_entered system files)
unfolding files_entered
entered_stays q key number system files = entered_stays_unless q key number (served_process system.kernel.disk) system files

-- in the rest of a step, and in a step, no call of the process is done but one that reads, and it owes nothing that it had open
pub record ReadsThen (q : ℕ) (system : System) (files : FilesInService) : Type 0 where
  pub over : ReadsOver q (turn_answer system.kernel.disk) files
  pub paid : owes (disk_served (told_within files system) system).system.owed q ≡ false
  pub ended : owes (ended_after (telling_then nothing_told system files) system).owed q ≡ false

pub record ReadsInStep (q : ℕ) (s : State) : Type 0 where
  pub begins : ReadsAtGate q (file_caller s.system) s.system
  pub rest : ReadsThen q (before_disk s.system s.files).system (files_begun s.system s.files)

rest_stays : (q : ℕ) (key : FileKey) (number : ℕ) (system : System) (files : FilesInService) → ReadsThen q system files → StaysIn q key number files (files_rest system files)
unfolding files_rest files_then files_paid
rest_stays q key number system files reads =
    let told = told_within files system in
    let owed = (disk_served told system).system.owed in
    let last = (ended_after (telling_then nothing_told system files) system).owed in
    let served : FilesInService = files_served system files in
    let paid : FilesInService = given_back owed served in
    let entered : FilesInService = files_entered (paid_after told system) paid in
    stays_after q key number (filing_in files) (filing_in served) (filing_in (given_back last entered)) (over_served_stays q key number system files reads.over)
    (stays_after q key number (filing_in served) (filing_in paid) (filing_in (given_back last entered)) (given_stays q key number owed served reads.paid)
    (stays_after q key number (filing_in paid) (filing_in entered) (filing_in (given_back last entered)) (entered_stays q key number (paid_after told system) paid)
    (given_stays q key number last entered reads.ended)))

pub stays_in_step : (q : ℕ) (key : FileKey) (number : ℕ) (s : State) → ReadsInStep q s → AreOpen (filing_in s.files).opens → HasFile q key number (filing_in s.files)
    → KeepsFile key number (filing_in s.files) (filing_in (next s).files)
unfolding next stepped
stays_in_step q key number s reads sound has =
    let system = (before_disk s.system s.files).system in
    let begun : FilesInService = files_begun s.system s.files in
    let stays : StaysIn q key number s.files (files_rest system begun) =
    stays_after q key number (filing_in s.files) (filing_in begun) (filing_in (files_rest system begun)) (begun_stays q key number s.system s.files reads.begins)
    (rest_stays q key number system begun reads.rest) in
    (stays.file (record { sound = sound; has = has })).1
