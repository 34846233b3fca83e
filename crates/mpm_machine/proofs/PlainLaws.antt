-- A step in which no file call is made, nothing is given back and the disk only passes leaves files and drives as they are.
use Rattle.std.proofs.Common.{◌≡◌, ◌∙◌, ℕ, zero, suc, Bool, true, false, List, [], ◌∷◌, ◌++◌, Option, Some, None, slice_index_or, replicate, if◌then◌else◌, refl, ap}
use Rattle.std.proofs.lemmas.Bool.{false≢true}
use Rattle.std.specs.List.{range_with_len}
use Rattle.mpm_service.specs.Disk.{served_process, turn_answer}
use Rattle.mpm_service.specs.declared.service.Served.{Served}
use Rattle.mpm_service.specs.declared.service.Turn.{Turn}
use Rattle.mpm_service.specs.declared.service.Turn.TheVariants.{Idle, Passing, Work, Starts}
use Rattle.mpm_refusals.specs.Filing.{Filing}
use Rattle.mpm_bdos.specs.Outcomes.{left_by, without_search}
use Rattle.mpm_directories.specs.Direct.{Directly}
use Rattle.mpm_system.specs.declared.system.System.{System}
use Rattle.mpm_system.specs.Owing.{nobody_owes}
use Rattle.mpm_system.specs.Whole.{SystemChange, silent, NoCompletions, NobodyAborted}
use Rattle.mpm_system.specs.Coming.{coming, counted}
use Rattle.mpm_machine.specs.State.{State}
use Rattle.mpm_machine.specs.Step.{acted}
use Rattle.mpm_machine.specs.Files.{FilesInService, Between, Within, AreWithin, owes, all_left, given_back}
use Rattle.mpm_machine.specs.FileCalls.{file_caller}
use Rattle.mpm_machine.specs.DiskStep.{disk_served, all_paid, files_over, files_served_by, files_served, files_entered_by, files_entered_unless, files_entered, step_passed}
use Rattle.mpm_machine.specs.Moving.{is_still}
use Rattle.mpm_machine.specs.Stepping.{Telling, nothing_told, told_first, files_begun_by, files_begun, before_disk, told_within, paid_after, files_paid, files_then, telling_then, telling_of, step_with, stepped, files_rest}
use Rattle.mpm_machine.specs.After.{next}
use Rattle.mpm_machine.proofs.LeftLaws.{left_each, all_left_each}
use Rattle.mpm_machine.proofs.QuietLaws.{begun_quiet, served_still, served_nobody}
use Rattle.mpm_machine.proofs.PassingLaws.{IsPaid, paid_passed, paid_already, still_serves, ended_still}

none_leaves : (gone : ℕ → Bool) (ps : List ℕ) (filing : Filing) → ((p : ℕ) → gone p ≡ false) → left_each gone ps filing ≡ filing
unfolding left_each
none_leaves gone [] filing none = refl
none_leaves gone (p ∷ ps) filing none =
    ap (λ b. left_each gone ps (if b then without_search (left_by filing p) p else filing)) (none p) ∙ none_leaves gone ps filing none

-- where nobody owes anything

pub nowhere : (n p : ℕ) → slice_index_or (replicate n false) p false ≡ false
nowhere zero p = refl
nowhere (suc n) zero = refl
nowhere (suc n) (suc p) = nowhere n p

pub nobody_leaves : (owed : List Bool) (filing : Filing) → owed ≡ nobody_owes → all_left owed filing ≡ filing
nobody_leaves owed filing none =
    all_left_each owed filing
    ∙ ap (λ (slots : List Bool). left_each (owes slots) (range_with_len 0 32) filing) none
    ∙ none_leaves (owes nobody_owes) (range_with_len 0 32) filing (nowhere 32)

-- or where a call is in service
pub given_nothing : (owed : List Bool) (served : Option Served) (files : FilesInService) → AreWithin served files → (served ≡ None → owed ≡ nobody_owes) → given_back owed files ≡ files
given_nothing owed None (Between filing) within nobody = ap Between (nobody_leaves owed filing (nobody refl))
given_nothing owed None (Within s) within nobody = absurd within
given_nothing owed (Some call) (Between filing) within nobody = absurd within
given_nothing owed (Some call) (Within s) within nobody = refl

-- a step so is the state's next
pub plain_next : (s : State) (later : System) → ((telling : Telling) → step_with telling s.system ≡ silent later)
    → files_rest (before_disk s.system s.files).system (files_begun s.system s.files) ≡ s.files → next s ≡ record s { system = later }
unfolding next stepped
plain_next s later is still =
    ap (λ (change : SystemChange). let t : State = record {
      system = change.system;
      outputs = change.emitted ++ s.outputs;
      files = files_rest (before_disk s.system s.files).system (files_begun s.system s.files);
    } in t) (is (telling_of s.system s.files))
    ∙ ap (λ (files : FilesInService). let t : State = record { system = later; outputs = s.outputs; files = files } in t) still

-- files in it

over_still : (turn : Turn) (files : FilesInService) → is_still turn ≡ true → files_over turn files ≡ files
over_still Idle files still = refl
over_still Passing files still = refl
over_still (Work p last) files still = absurd (false≢true still)
over_still (Starts p) files still = absurd (false≢true still)

served_by_still : (whom : Option ℕ) (system : System) (files : FilesInService) → is_still (turn_answer system.kernel.disk) ≡ true → files_served_by whom system files ≡ files
served_by_still None system files still = refl
served_by_still (Some p) system files still = over_still (turn_answer system.kernel.disk) files still

files_served_still : (system : System) (files : FilesInService) → is_still (turn_answer system.kernel.disk) ≡ true → files_served system files ≡ files
unfolding files_served
files_served_still system files still = served_by_still (served_process system.kernel.disk) system files still

entered_by_still : (turn : Turn) (system : System) (files : FilesInService) → is_still turn ≡ true → files_entered_by turn system files ≡ files
entered_by_still Idle system files still = refl
entered_by_still Passing system files still = refl
entered_by_still (Work p last) system files still = absurd (false≢true still)
entered_by_still (Starts p) system files still = absurd (false≢true still)

enters_by_whom : (whom : Option ℕ) (told : Directly) (system : System) (files : FilesInService) → IsPaid system → served_process system.kernel.disk ≡ whom
    → is_still (turn_answer system.kernel.disk) ≡ true → files_entered (paid_after told system) files ≡ files
unfolding files_entered
enters_by_whom None told system files paid is still =
    ap (λ (c : System). files_entered_unless (served_process c.kernel.disk) c files) (ap (λ (c : SystemChange). all_paid c.system) (served_nobody told system is) ∙ paid_already system paid)
    ∙ ap (λ whom. files_entered_unless whom system files) is
    ∙ entered_by_still (turn_answer system.kernel.disk) system files still
enters_by_whom (Some p) told system files paid is still =
    ap (λ (c : System). files_entered_unless (served_process c.kernel.disk) c files) (ap (λ (c : SystemChange). all_paid c.system) (served_still told p system is still) ∙ paid_passed system paid still)
    ∙ ap (λ whom. files_entered_unless whom (step_passed system) files) (still_serves system.kernel.disk p still is)

owed_by_whom : (whom : Option ℕ) (told : Directly) (system : System) → served_process system.kernel.disk ≡ whom → is_still (turn_answer system.kernel.disk) ≡ true
    → (disk_served told system).system.owed ≡ system.owed
owed_by_whom None told system is still = ap (λ (c : SystemChange). c.system.owed) (served_nobody told system is)
owed_by_whom (Some p) told system is still = ap (λ (c : SystemChange). c.system.owed) (served_still told p system is still)

paid_still : (system : System) (files : FilesInService) → IsPaid system → is_still (turn_answer system.kernel.disk) ≡ true → AreWithin system.kernel.disk.served files
    → files_paid system files ≡ files
unfolding files_paid
paid_still system files paid still within =
    ap (given_back (disk_served (told_within files system) system).system.owed) (files_served_still system files still)
    ∙ ap (λ owed. given_back owed files) (owed_by_whom (served_process system.kernel.disk) (told_within files system) system refl still)
    ∙ given_nothing system.owed system.kernel.disk.served files within paid

pub rest_leaves : (system : System) (files : FilesInService) → IsPaid system → NobodyAborted system.kernel → system.abort_deferred ≡ false
    → is_still (turn_answer system.kernel.disk) ≡ true → AreWithin system.kernel.disk.served files → files_rest system files ≡ files
unfolding files_rest files_then
rest_leaves system files paid nobody off still within =
    ap (λ owed. given_back owed (files_entered (paid_after (told_within files system) system) (files_paid system files)))
    (ap (λ (c : System). c.owed) (ended_still (telling_then nothing_told system files) system paid nobody off still))
    ∙ ap (λ f. given_back system.owed (files_entered (paid_after (told_within files system) system) f)) (paid_still system files paid still within)
    ∙ ap (given_back system.owed) (enters_by_whom (served_process system.kernel.disk) (told_within files system) system files paid refl still)
    ∙ given_nothing system.owed system.kernel.disk.served files within paid

pub files_still : (s : State) (later : System) → file_caller s.system ≡ None → coming (counted s.system) ≡ None → acted (counted s.system) ≡ silent later
    → NoCompletions later → NobodyAborted later.kernel → later.abort_deferred ≡ false → is_still (turn_answer later.kernel.disk) ≡ true
    → AreWithin later.kernel.disk.served s.files → files_rest (before_disk s.system s.files).system (files_begun s.system s.files) ≡ s.files
unfolding before_disk files_begun
files_still s later alone quiet acts none nobody off still within =
    ap (λ (c : SystemChange). files_rest c.system (files_begun_by (file_caller s.system) s.system s.files)) (begun_quiet (told_first s.system s.files) s.system later alone quiet acts none.answered)
    ∙ ap (λ caller. files_rest later (files_begun_by caller s.system s.files)) alone
    ∙ rest_leaves later s.files none.paid nobody off still within
