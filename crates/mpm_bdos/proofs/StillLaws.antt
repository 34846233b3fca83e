-- What is looked up of a call after its turns is what was looked up of it as it entered.
use Rattle.std.proofs.Common.{◌≡◌, ◌∙◌, ℕ, zero, suc, Bool, true, false, Option, Some, None, refl, sym, ap, subst}
use Rattle.std.specs.Prelude.{is_some, slice_index_or, unwrap_or, replicate}
use Rattle.std.proofs.lemmas.Bool.{false≢true}
use Rattle.mpm_mount.specs.Drives.{FileName, Drive}
use Rattle.mpm_opens.specs.declared.kinds.FileKey.{FileKey}
use Rattle.mpm_jobs.specs.declared.jobs.JobKind.TheVariants as kinds
use Rattle.mpm_jobs.specs.declared.jobs.Job.{Job}
use Rattle.mpm_files.specs.Plans.{file_of_job, turns_of}
use Rattle.mpm_files.specs.Serving.{units_done}
use Rattle.mpm_guard.specs.Passwords.{has_bit}
use Rattle.mpm_fcb.specs.declared.block.ControlBlock.{ControlBlock}
use Rattle.mpm_file_functions.specs.declared.functions.FileFunction.{FileFunction}
use Rattle.mpm_file_functions.specs.declared.functions.FileFunction.TheVariants.{ResetDisks, OpenFile, CloseFile, SearchFirst, SearchNext, DeleteFile, ReadSequential, WriteSequential, MakeFile, RenameFile, ProtectDisk, SetAttributes, ReadRandom, WriteRandom, FileSize, ResetDrives, AccessDrives, FreeDrives, TestAndWrite, LockRecord, UnlockRecord, FreeSpace, FlushBuffers, SetLabel, LabelData, ReadXfcb, WriteXfcb}
use Rattle.mpm_refusals.specs.Filing.{LastSearch, Situation, block}
use Rattle.mpm_mount.specs.Looking.{data_byte}
use Rattle.mpm_refusals.specs.Subjects.{drive_number, blank_drive, drive_at, own_file, last_search, open_key, opened_in, subject_by, subject, found_by, found}
use Rattle.mpm_refusals.specs.Refusals.{refusal_of}
use Rattle.mpm_jobs.specs.Jobs.{stamp_where, with_stamp}
use Rattle.mpm_bdos.specs.Jobs.{job_on, job_by, job_of, turns_by, call_turns, turned_by, turned}
use Rattle.mpm_refusals.specs.Asking.{asked_of}
use Rattle.mpm_bdos.proofs.EndingLaws.{own_job}
use Rattle.mpm_bdos.proofs.NamedFiles.{subject_name}
use Rattle.mpm_bdos.proofs.OpenedLaws.{Alike, opened_alike, still_opened}

-- the drive after the turns, by the job
drive_by_job : (s : Situation) (job : Option Job) → job_of s ≡ job → (turned s (call_turns s)).drive ≡ (turned_by (drive_at s) (turns_by (drive_at s) job) job).drive
unfolding turned call_turns
drive_by_job s job is = ap (λ j. (turned_by (drive_at s) (turns_by (drive_at s) j) j).drive) is

pub same_drive : (s : Situation) → job_of s ≡ None → (turned s (call_turns s)).drive ≡ drive_at s
same_drive s none = drive_by_job s None none

opening : Situation → Job
opening s = with_stamp (stamp_where (has_bit 0x40 (data_byte (drive_at s))) s.moment) (job_on s kinds.Nothing)

opening_file : (s : Situation) → file_of_job (opening s) ≡ subject s
unfolding opening
opening_file s = ap (λ name. record { user = (subject s).user; name = name }) (sym (subject_name s))

pub opening_alike : (s : Situation) → refusal_of s ≡ None → s.function ≡ OpenFile → Alike (subject s) (drive_at s) (turned s (call_turns s)).drive
unfolding job_by opening
opening_alike s none f =
    let is : job_of s ≡ Some (opening s) = own_job s none ∙ ap (job_by s) f in
    subst (λ drive. Alike (subject s) (drive_at s) drive) (sym (drive_by_job s (Some (opening s)) is))
    (subst (λ file. Alike file (drive_at s) (units_done (drive_at s) (opening s) (turns_of (drive_at s) (opening s)))) (opening_file s)
    (opened_alike (drive_at s) (opening s) refl))

-- whose file a call is about depends on the drive where it opens it alone, and what it finds where it searches
subject_alike : (one other : Drive) (own : FileName) (key : Option FileKey) (f : FileFunction) → (f ≡ OpenFile → opened_in one own ≡ opened_in other own)
    → subject_by one own key f ≡ subject_by other own key f
unfolding subject_by
subject_alike one other own key ResetDisks same = refl
subject_alike one other own key OpenFile same = same refl
subject_alike one other own key CloseFile same = refl
subject_alike one other own key SearchFirst same = refl
subject_alike one other own key SearchNext same = refl
subject_alike one other own key DeleteFile same = refl
subject_alike one other own key ReadSequential same = refl
subject_alike one other own key WriteSequential same = refl
subject_alike one other own key MakeFile same = refl
subject_alike one other own key RenameFile same = refl
subject_alike one other own key ProtectDisk same = refl
subject_alike one other own key SetAttributes same = refl
subject_alike one other own key ReadRandom same = refl
subject_alike one other own key WriteRandom same = refl
subject_alike one other own key FileSize same = refl
subject_alike one other own key ResetDrives same = refl
subject_alike one other own key AccessDrives same = refl
subject_alike one other own key FreeDrives same = refl
subject_alike one other own key TestAndWrite same = refl
subject_alike one other own key LockRecord same = refl
subject_alike one other own key UnlockRecord same = refl
subject_alike one other own key FreeSpace same = refl
subject_alike one other own key FlushBuffers same = refl
subject_alike one other own key SetLabel same = refl
subject_alike one other own key LabelData same = refl
subject_alike one other own key ReadXfcb same = refl
subject_alike one other own key WriteXfcb same = refl

abbrev searches_drive : FileFunction → Bool
searches_drive SearchFirst = true
searches_drive SearchNext = true
searches_drive function = false

found_alike : (one other : Drive) (user : ℕ) (b : ControlBlock) (search : Option LastSearch) (f : FileFunction) → (searches_drive f ≡ true → one ≡ other)
    → found_by one user b search f ≡ found_by other user b search f
unfolding found_by
found_alike one other user b search ResetDisks same = refl
found_alike one other user b search OpenFile same = refl
found_alike one other user b search CloseFile same = refl
found_alike one other user b search SearchFirst same = ap (λ drive. found_by drive user b search SearchFirst) (same refl)
found_alike one other user b search SearchNext same = ap (λ drive. found_by drive user b search SearchNext) (same refl)
found_alike one other user b search DeleteFile same = refl
found_alike one other user b search ReadSequential same = refl
found_alike one other user b search WriteSequential same = refl
found_alike one other user b search MakeFile same = refl
found_alike one other user b search RenameFile same = refl
found_alike one other user b search ProtectDisk same = refl
found_alike one other user b search SetAttributes same = refl
found_alike one other user b search ReadRandom same = refl
found_alike one other user b search WriteRandom same = refl
found_alike one other user b search FileSize same = refl
found_alike one other user b search ResetDrives same = refl
found_alike one other user b search AccessDrives same = refl
found_alike one other user b search FreeDrives same = refl
found_alike one other user b search TestAndWrite same = refl
found_alike one other user b search LockRecord same = refl
found_alike one other user b search UnlockRecord same = refl
found_alike one other user b search FreeSpace same = refl
found_alike one other user b search FlushBuffers same = refl
found_alike one other user b search SetLabel same = refl
found_alike one other user b search LabelData same = refl
found_alike one other user b search ReadXfcb same = refl
found_alike one other user b search WriteXfcb same = refl

search_has_none : (s : Situation) (f : FileFunction) → searches_drive f ≡ true → job_by s f ≡ None
unfolding job_by
search_has_none s ResetDisks is = absurd (false≢true is)
search_has_none s OpenFile is = absurd (false≢true is)
search_has_none s CloseFile is = absurd (false≢true is)
search_has_none s SearchFirst is = refl
search_has_none s SearchNext is = refl
search_has_none s DeleteFile is = absurd (false≢true is)
search_has_none s ReadSequential is = absurd (false≢true is)
search_has_none s WriteSequential is = absurd (false≢true is)
search_has_none s MakeFile is = absurd (false≢true is)
search_has_none s RenameFile is = absurd (false≢true is)
search_has_none s ProtectDisk is = absurd (false≢true is)
search_has_none s SetAttributes is = absurd (false≢true is)
search_has_none s ReadRandom is = absurd (false≢true is)
search_has_none s WriteRandom is = absurd (false≢true is)
search_has_none s FileSize is = absurd (false≢true is)
search_has_none s ResetDrives is = absurd (false≢true is)
search_has_none s AccessDrives is = absurd (false≢true is)
search_has_none s FreeDrives is = absurd (false≢true is)
search_has_none s TestAndWrite is = absurd (false≢true is)
search_has_none s LockRecord is = absurd (false≢true is)
search_has_none s UnlockRecord is = absurd (false≢true is)
search_has_none s FreeSpace is = absurd (false≢true is)
search_has_none s FlushBuffers is = absurd (false≢true is)
search_has_none s SetLabel is = absurd (false≢true is)
search_has_none s LabelData is = absurd (false≢true is)
search_has_none s ReadXfcb is = absurd (false≢true is)
search_has_none s WriteXfcb is = absurd (false≢true is)

pub still_found : (s : Situation) → refusal_of s ≡ None → found_by (turned s (call_turns s)).drive s.caller.user (block s) (last_search s) s.function ≡ found s
still_found s none =
    found_alike (turned s (call_turns s)).drive (drive_at s) s.caller.user (block s) (last_search s) s.function
    (λ is. same_drive s (own_job s none ∙ search_has_none s s.function is))

still_subject : (s : Situation) → refusal_of s ≡ None → subject_by (turned s (call_turns s)).drive (own_file s) (open_key s) s.function ≡ subject s
unfolding subject_by
still_subject s none =
    subject_alike (turned s (call_turns s)).drive (drive_at s) (own_file s) (open_key s) s.function
    (λ f. sym (still_opened (subject s) (own_file s) (drive_at s) (turned s (call_turns s)).drive (opening_alike s none f)))

-- a call upon drives of which all up to the one that it names are another
abbrev pub moved_to : Situation → Drive → Situation
moved_to s drive = record s { filing = record s.filing { drives = replicate (suc (drive_number s)) (Some drive) } }

last_of_many : (n : ℕ) (drive : Drive) → slice_index_or (replicate (suc n) (Some drive)) n None ≡ Some drive
last_of_many zero drive = refl
last_of_many (suc n) drive = last_of_many n drive

pub moved_drive : (s : Situation) (drive : Drive) → drive_at (moved_to s drive) ≡ drive
unfolding drive_at
moved_drive s drive = ap (λ d. unwrap_or d blank_drive) (last_of_many (drive_number s) drive)

pub asked_still : (s : Situation) → refusal_of s ≡ None → asked_of (moved_to s (turned s (call_turns s)).drive) ≡ asked_of s
unfolding open_key
asked_still s none =
    let after : Drive = (turned s (call_turns s)).drive in
    let here : drive_at (moved_to s after) ≡ after = moved_drive s after in
    let owner : (subject (moved_to s after)).user ≡ (subject s).user =
    ap (λ drive. (subject_by drive (own_file s) (open_key s) s.function).user) here ∙ ap (λ (file : FileName). file.user) (still_subject s none)
    in
    let finds : is_some (found (moved_to s after)) ≡ is_some (found s) =
    ap (λ drive. is_some (found_by drive s.caller.user (block s) (last_search s) s.function)) here ∙ ap is_some (still_found s none)
    in
    (λ i. record (asked_of s) { owner = owner i; is_found = finds i })
