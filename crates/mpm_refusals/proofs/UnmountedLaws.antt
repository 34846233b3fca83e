-- Why a call is refused whose drive isn't mounted, or that names none.
use Rattle.std.proofs.Common.{◌≡◌, ◌∙◌, ℕ, Bool, true, false, not, cond, List, ◌∷◌, Option, Some, None, drop, sym, refl, ap, subst}
use Rattle.std.specs.Option.{option_or}
use Rattle.std.specs.Prelude.{is_some, option_map, option_and_then, unwrap_or, find}
use Rattle.mpm_file_functions.specs.declared.functions.FileFunction.{FileFunction}
use Rattle.mpm_file_functions.specs.declared.functions.FileFunction.TheVariants.{ResetDisks, OpenFile, CloseFile, SearchFirst, SearchNext, DeleteFile, ReadSequential, WriteSequential, MakeFile, RenameFile, ProtectDisk, SetAttributes, ReadRandom, WriteRandom, FileSize, ResetDrives, AccessDrives, FreeDrives, TestAndWrite, LockRecord, UnlockRecord, FreeSpace, FlushBuffers, SetLabel, LabelData, ReadXfcb, WriteXfcb}
use Rattle.mpm_file_functions.specs.declared.refusals.Refusal.{Refusal}
use Rattle.mpm_file_functions.specs.declared.refusals.Refusal.TheVariants.{NotMounted, NotFound, Busy}
use Rattle.mpm_file_functions.specs.Refusals.{refusals_of}
use Rattle.mpm_mount.specs.Drives.{FileName, Drive}
use Rattle.mpm_mount.specs.Directories.{Directory, Stands}
use Rattle.mpm_marks.specs.Busy.{are_busy}
use Rattle.mpm_refusals.specs.Filing.{LastSearch, Situation, block}
use Rattle.mpm_refusals.specs.Subjects.{last_search, drive_by, drive_named, drive_number, mounted, blank_drive, drive_at, open_key, subject, found_behind, found_by}
use Rattle.mpm_refusals.specs.Refusals.{is_unmounted, is_missing_in, deletion_refusal, applies, refusal_of}
use Rattle.mpm_refusals.specs.Asking.{StandsForDirectory, where_deleted, unnamed_refusal, unmounted_refusal, StandsWhere}
use Rattle.mpm_refusals.proofs.Deleted.{deleter}
use Rattle.mpm_refusals.proofs.AskedLaws.{refusal_parts}

-- the row of each call that names a drive begins with that
head_first : (s : Situation) (file : FileName) (rest : List Refusal) → applies s file NotMounted ≡ true → find (applies s file) (NotMounted ∷ rest) ≡ Some NotMounted
head_first s file rest there = ap (λ b. cond b (Some NotMounted) (find (applies s file) rest)) there

heads : (s : Situation) (file : FileName) (function : FileFunction) (drive : ℕ) → applies s file NotMounted ≡ true
    → drive_by (last_search s) s.caller.drive s.call.word (block s) function ≡ Some drive → find (applies s file) (refusals_of function) ≡ Some NotMounted
unfolding drive_by refusals_of
heads s file ResetDisks drive there is = absurd (cc)
heads s file OpenFile drive there is = head_first s file (drop 1 (refusals_of OpenFile)) there
heads s file CloseFile drive there is = head_first s file (drop 1 (refusals_of CloseFile)) there
heads s file SearchFirst drive there is = head_first s file (drop 1 (refusals_of SearchFirst)) there
heads s file SearchNext drive there is = head_first s file (drop 1 (refusals_of SearchNext)) there
heads s file DeleteFile drive there is = head_first s file (drop 1 (refusals_of DeleteFile)) there
heads s file ReadSequential drive there is = head_first s file (drop 1 (refusals_of ReadSequential)) there
heads s file WriteSequential drive there is = head_first s file (drop 1 (refusals_of WriteSequential)) there
heads s file MakeFile drive there is = head_first s file (drop 1 (refusals_of MakeFile)) there
heads s file RenameFile drive there is = head_first s file (drop 1 (refusals_of RenameFile)) there
heads s file ProtectDisk drive there is = absurd (cc)
heads s file SetAttributes drive there is = head_first s file (drop 1 (refusals_of SetAttributes)) there
heads s file ReadRandom drive there is = head_first s file (drop 1 (refusals_of ReadRandom)) there
heads s file WriteRandom drive there is = head_first s file (drop 1 (refusals_of WriteRandom)) there
heads s file FileSize drive there is = head_first s file (drop 1 (refusals_of FileSize)) there
heads s file ResetDrives drive there is = absurd (cc)
heads s file AccessDrives drive there is = absurd (cc)
heads s file FreeDrives drive there is = absurd (cc)
heads s file TestAndWrite drive there is = head_first s file (drop 1 (refusals_of TestAndWrite)) there
heads s file LockRecord drive there is = head_first s file (drop 1 (refusals_of LockRecord)) there
heads s file UnlockRecord drive there is = head_first s file (drop 1 (refusals_of UnlockRecord)) there
heads s file FreeSpace drive there is = head_first s file (drop 1 (refusals_of FreeSpace)) there
heads s file FlushBuffers drive there is = absurd (cc)
heads s file SetLabel drive there is = head_first s file (drop 1 (refusals_of SetLabel)) there
heads s file LabelData drive there is = head_first s file (drop 1 (refusals_of LabelData)) there
heads s file ReadXfcb drive there is = head_first s file (drop 1 (refusals_of ReadXfcb)) there
heads s file WriteXfcb drive there is = head_first s file (drop 1 (refusals_of WriteXfcb)) there

-- that of the others is empty, or asks whether drives are busy; but for a search that goes on, where there is none
or_nothing : (busy : Bool) → option_or (cond busy (Some Busy) None) None ≡ cond busy (Some Busy) None
or_nothing true = refl
or_nothing false = refl

no_search : (search : Option LastSearch) → option_map (λ (search : LastSearch). search.drive) search ≡ None → search ≡ None
no_search None is = refl
no_search (Some search) is = absurd (cc)

nothing_sought : (s : Situation) (file : FileName) → s.function ≡ SearchNext → drive_named s ≡ None → last_search s ≡ None
    → option_or (cond (applies s file NotMounted) (Some NotMounted) (cond (applies s file NotFound) (Some NotFound) None)) None ≡ Some NotFound
unfolding applies found_by
nothing_sought s file of_function is none =
    let missing : is_missing_in (drive_at s) file s.caller.user (block s) (is_some (open_key s)) (is_some (found_by (drive_at s) s.caller.user (block s) (last_search s) s.function)) s.function ≡ true =
    (λ i. is_missing_in (drive_at s) file s.caller.user (block s) (is_some (open_key s)) (is_some (found_by (drive_at s) s.caller.user (block s) (last_search s) (of_function i))) (of_function i))
    ∙ ap (λ search. not (is_some (option_and_then (found_behind (drive_at s)) search))) none
    in
    (λ i. option_or (cond (is_unmounted s (is i)) (Some NotMounted) (cond (missing i) (Some NotFound) None)) None)

unnamed : (s : Situation) (file : FileName) (refusal : Option Refusal) (function : FileFunction) → s.function ≡ function → drive_named s ≡ None
    → drive_by (last_search s) s.caller.drive s.call.word (block s) function ≡ None
    → option_or (find (applies s file) (refusals_of function)) (where_deleted refusal function) ≡ unnamed_refusal (applies s file Busy) function
unfolding drive_by refusals_of
unnamed s file refusal ResetDisks of_function is none = or_nothing (applies s file Busy)
unnamed s file refusal OpenFile of_function is none = absurd (cc)
unnamed s file refusal CloseFile of_function is none = absurd (cc)
unnamed s file refusal SearchFirst of_function is none = absurd (cc)
unnamed s file refusal SearchNext of_function is none = nothing_sought s file of_function is (no_search (last_search s) none)
unnamed s file refusal DeleteFile of_function is none = absurd (cc)
unnamed s file refusal ReadSequential of_function is none = absurd (cc)
unnamed s file refusal WriteSequential of_function is none = absurd (cc)
unnamed s file refusal MakeFile of_function is none = absurd (cc)
unnamed s file refusal RenameFile of_function is none = absurd (cc)
unnamed s file refusal ProtectDisk of_function is none = or_nothing (applies s file Busy)
unnamed s file refusal SetAttributes of_function is none = absurd (cc)
unnamed s file refusal ReadRandom of_function is none = absurd (cc)
unnamed s file refusal WriteRandom of_function is none = absurd (cc)
unnamed s file refusal FileSize of_function is none = absurd (cc)
unnamed s file refusal ResetDrives of_function is none = or_nothing (applies s file Busy)
unnamed s file refusal AccessDrives of_function is none = refl
unnamed s file refusal FreeDrives of_function is none = refl
unnamed s file refusal TestAndWrite of_function is none = absurd (cc)
unnamed s file refusal LockRecord of_function is none = absurd (cc)
unnamed s file refusal UnlockRecord of_function is none = absurd (cc)
unnamed s file refusal FreeSpace of_function is none = absurd (cc)
unnamed s file refusal FlushBuffers of_function is none = refl
unnamed s file refusal SetLabel of_function is none = absurd (cc)
unnamed s file refusal LabelData of_function is none = absurd (cc)
unnamed s file refusal ReadXfcb of_function is none = absurd (cc)
unnamed s file refusal WriteXfcb of_function is none = absurd (cc)

number_is : (s : Situation) (drive : ℕ) → drive_named s ≡ Some drive → drive_number s ≡ drive
number_is s drive is = ap (λ named. unwrap_or named s.caller.drive) is

not_there : (s : Situation) (file : FileName) (drive : ℕ) → mounted s.filing (drive_number s) ≡ None → drive_named s ≡ Some drive → applies s file NotMounted ≡ true
unfolding applies
not_there s file drive none is =
    ap (is_unmounted s) is ∙ ap (λ m. not (is_some m)) (ap (mounted s.filing) (sym (number_is s drive is)) ∙ none)

by_drive : (s : Situation) (refusal : Option Refusal) (named : Option ℕ) → mounted s.filing (drive_number s) ≡ None → drive_named s ≡ named
    → option_or (find (applies s (subject s)) (refusals_of s.function)) (where_deleted refusal s.function) ≡ unmounted_refusal named (unnamed_refusal (applies s (subject s) Busy) s.function)
by_drive s refusal None none is = unnamed s (subject s) refusal s.function refl is is
by_drive s refusal (Some drive) none is =
    ap (λ r. option_or r (where_deleted refusal s.function)) (heads s (subject s) s.function drive (not_there s (subject s) drive none is) is)

pub unmounted_so : (s : Situation) → mounted s.filing (drive_number s) ≡ None → refusal_of s
    ≡ unmounted_refusal (drive_named s) (unnamed_refusal (are_busy s.filing.opens s.filing.marks s.caller.process s.function s.caller.drive s.call.word) s.function)
unfolding applies
unmounted_so s none =
    refusal_parts s ∙ by_drive s (deletion_refusal (drive_at s) s.filing.opens (deleter s) (block s).name) (drive_named s) none refl

-- what the directory of its drive tells, where that is mounted, and where it isn't
pub record IsThere (image : List ℕ) (directory : Directory) (s : Situation) : Type 0 where
  pub stands : Stands image directory (drive_at s)
  pub there : is_unmounted s (drive_named s) ≡ false

named_there : (s : Situation) (drive : Drive) (named : Option ℕ) → mounted s.filing (drive_number s) ≡ Some drive → drive_named s ≡ named → is_unmounted s named ≡ false
named_there s drive None at is = refl
named_there s drive (Some number) at is = ap (λ m. not (is_some m)) (ap (mounted s.filing) (sym (number_is s number is)) ∙ at)

there_by : (s : Situation) (image : List ℕ) (directory : Directory) (m : Option Drive) → mounted s.filing (drive_number s) ≡ m → StandsWhere (drive_number s) image (Some directory) m
    → IsThere image directory s
unfolding drive_at
there_by s image directory None at h = absurd h
there_by s image directory (Some drive) at h = record {
  stands = subst (Stands image directory) (sym (ap (λ m. unwrap_or m blank_drive) at)) h.stands;
  there = named_there s drive (drive_named s) at refl;
}

pub is_there : (s : Situation) (image : List ℕ) (directory : Directory) → StandsForDirectory image (Some directory) s → IsThere image directory s
is_there s image directory h = there_by s image directory (mounted s.filing (drive_number s)) refl h

none_by : (s : Situation) (image : List ℕ) (m : Option Drive) → mounted s.filing (drive_number s) ≡ m → StandsWhere (drive_number s) image None m → mounted s.filing (drive_number s) ≡ None
none_by s image None at h = at
none_by s image (Some drive) at h = absurd h

pub is_not_there : (s : Situation) (image : List ℕ) → StandsForDirectory image None s → mounted s.filing (drive_number s) ≡ None
is_not_there s image h = none_by s image (mounted s.filing (drive_number s)) refl h
