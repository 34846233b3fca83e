-- Whether a deletion names a file, and which refuses it first, by searches for its pattern.
use Rattle.std.proofs.Common.{◌≡◌, ◌∙◌, ℕ, ◌==◌, ◌&&◌, ◌||◌, Bool, true, false, not, cond, List, [], ◌∷◌, ◌++◌, Option, Some, None, length, map, refl, sym, ap, arith, ne_eqb}
use Rattle.std.proofs.Math.Bool.{or-false, and-true}
use Rattle.std.specs.List.{flat_map}
use Rattle.std.specs.Option.{option_or}
use Rattle.std.specs.Prelude.{is_some, option_map, option_and_then, find, filter}
use Rattle.mpm_base.proofs.Choices.{at_either}
use Rattle.mpm_mount.specs.Drives.{FileName, Drive}
use Rattle.mpm_mount.specs.declared.searching.Found.{Found}
use Rattle.mpm_opens.specs.Opens.{OpenFiles}
use Rattle.mpm_mount.specs.Files.{entries_named}
use Rattle.mpm_refusals.specs.declared.deleting.Deleter.{Deleter}
use Rattle.mpm_file_functions.specs.declared.refusals.Refusal.{Refusal}
use Rattle.mpm_mount.proofs.Lowest.{found_same}
use Rattle.mpm_file_functions.specs.declared.functions.FileFunction.{FileFunction}
use Rattle.mpm_file_functions.specs.declared.functions.FileFunction.TheVariants.{DeleteFile}
use Rattle.mpm_file_functions.specs.declared.refusals.Refusal.TheVariants.{ReadOnlyFile, WrongPassword, InUse}
use Rattle.mpm_refusals.specs.Filing.{Situation, block}
use Rattle.mpm_refusals.specs.Subjects.{drive_number, drive_at, given_password, is_next, next_in, is_of_extent, found_in, fits, deleted_in, deleted_files, has_attribute, mode_if_open}
use Rattle.mpm_file_functions.specs.Refusals.{refusals_of_each}
use Rattle.mpm_refusals.specs.Refusals.{RefusalTest, tests_for, tests_each, applies, does_apply, is_open_read_only, lacks_password, is_in_use, file_refusal, first_refused, deletion_refusal}

mapped_none : {X Y : Type 0} (f : X → Y) (o : Option X) → not (is_some o) ≡ not (is_some (option_map f o))
mapped_none f None = refl
mapped_none f (Some x) = refl

none_kept_step : {X Y : Type 0} (test : X → Bool) (f : X → Y) (x : X) (xs : List X) (b : Bool) → not (is_some (find test xs)) ≡ (length (map f (filter test xs)) == 0)
    → not (is_some (cond b (Some x) (find test xs))) ≡ (length (map f (cond b (x ∷ filter test xs) (filter test xs))) == 0)
none_kept_step test f x xs true rest = sym (ne_eqb (length (map f (x ∷ filter test xs))) 0 (λ h. omega (arith, h)))
none_kept_step test f x xs false rest = rest

none_kept : {X Y : Type 0} (test : X → Bool) (f : X → Y) (xs : List X) → not (is_some (find test xs)) ≡ (length (map f (filter test xs)) == 0)
none_kept test f [] = refl
none_kept test f (x ∷ xs) = none_kept_step test f x xs (test x) (none_kept test f xs)

-- none is named where a search for every extent finds nothing
pub nothing_deleted : (drive : Drive) (user : ℕ) (pattern : List ℕ) (name : Found → FileName × ℕ) (found : Option Found) → option_map name found ≡ found_in drive user pattern 63 None
    → not (is_some found) ≡ (length (deleted_in drive user pattern) == 0)
unfolding found_in
nothing_deleted drive user pattern name found is =
    mapped_none name found ∙ ap (λ o. not (is_some o)) is
    ∙ ap (λ o. not (is_some o)) (found_same (is_next user pattern (is_of_extent drive.kind 63) None) (fits user pattern) (entries_named drive) (λ entry. and-true (fits user pattern entry)))
    ∙ none_kept (fits user pattern) (λ entry. entry.0) (entries_named drive)

-- the first file that is refused, by a search for one
abbrev pub is_refused : Drive → OpenFiles → Deleter → (FileName × ℕ) → Bool
is_refused drive opens by entry = is_some (file_refusal drive opens by entry.0)

refused_step : (refusal : FileName → Option Refusal) (entry : FileName × ℕ) (files : List FileName) (found : Option (FileName × ℕ)) (b : Bool) (o : Option Refusal) → refusal entry.0 ≡ o
    → first_refused refusal files ≡ option_and_then (λ (e : FileName × ℕ). refusal e.0) found
    → first_refused refusal (cond b (entry.0 ∷ files) files) ≡ option_and_then (λ (e : FileName × ℕ). refusal e.0) (cond (b && (is_some (refusal entry.0) && true)) (Some entry) found)
refused_step refusal entry files found false o is rest = rest
refused_step refusal entry files found true None is rest =
    ap (λ r. option_or r (first_refused refusal files)) is ∙ rest
    ∙ sym (ap (λ r. option_and_then (λ (e : FileName × ℕ). refusal e.0) (cond (is_some r && true) (Some entry) found)) is)
refused_step refusal entry files found true (Some r) is rest =
    ap (λ r. option_or r (first_refused refusal files)) is ∙ sym is
    ∙ sym (ap (λ r. option_and_then (λ (e : FileName × ℕ). refusal e.0) (cond (is_some r && true) (Some entry) found)) is)

refused_first : (refusal : FileName → Option Refusal) (user : ℕ) (pattern : List ℕ) (entries : List (FileName × ℕ))
    → first_refused refusal (map (λ (e : FileName × ℕ). e.0) (filter (fits user pattern) entries))
    ≡ option_and_then (λ (e : FileName × ℕ). refusal e.0) (find (is_next user pattern (λ e. is_some (refusal e.0)) None) entries)
refused_first refusal user pattern [] = refl
refused_first refusal user pattern (entry ∷ entries) =
    ap (first_refused refusal) (at_either (map (λ (e : FileName × ℕ). e.0)) (fits user pattern entry) (entry ∷ filter (fits user pattern) entries) (filter (fits user pattern) entries))
    ∙ refused_step refusal entry (map (λ (e : FileName × ℕ). e.0) (filter (fits user pattern) entries)) (find (is_next user pattern (λ e. is_some (refusal e.0)) None) entries)
    (fits user pattern entry) (refusal entry.0) refl (refused_first refusal user pattern entries)

pub refused_deletion : (drive : Drive) (opens : OpenFiles) (by : Deleter) (pattern : List ℕ) (found : Option (FileName × ℕ)) → next_in drive by.user pattern (is_refused drive opens by) None ≡ found
    → deletion_refusal drive opens by pattern ≡ option_and_then (λ (e : FileName × ℕ). file_refusal drive opens by e.0) found
unfolding deletion_refusal
refused_deletion drive opens by pattern found is =
    refused_first (file_refusal drive opens by) by.user pattern (entries_named drive) ∙ ap (option_and_then (λ (e : FileName × ℕ). file_refusal drive opens by e.0)) is

-- so a deletion is refused as the table of each of its files says
abbrev pub deleter : Situation → Deleter
deleter s = record { process = s.caller.process; user = s.caller.user; drive = drive_number s; given = given_password s; default = s.caller.password }

pub tests_step : (s : Situation) (file : FileName) (tests : List RefusalTest) (row : List Refusal)
    → option_map (λ (t : RefusalTest). t.refusal) (find (does_apply s) (tests_for row file ++ tests)) ≡ option_or (find (applies s file) row) (option_map (λ (t : RefusalTest). t.refusal) (find (does_apply s) tests))
tests_step s file tests [] = refl
tests_step s file tests (refusal ∷ row) = by_test (applies s file refusal) (tests_step s file tests row)
  where
    by_test : (b : Bool) → option_map (λ (t : RefusalTest). t.refusal) (find (does_apply s) (tests_for row file ++ tests)) ≡ option_or (find (applies s file) row) (option_map (λ (t : RefusalTest). t.refusal) (find (does_apply s) tests))
        → option_map (λ (t : RefusalTest). t.refusal) (cond b (Some (record { refusal = refusal; file = file })) (find (does_apply s) (tests_for row file ++ tests)))
        ≡ option_or (cond b (Some refusal) (find (applies s file) row)) (option_map (λ (t : RefusalTest). t.refusal) (find (does_apply s) tests))
    by_test true rest = refl
    by_test false rest = rest

tests_all : (s : Situation) (row : List Refusal) (files : List FileName)
    → option_map (λ (t : RefusalTest). t.refusal) (find (does_apply s) (flat_map (tests_for row) files)) ≡ first_refused (λ file. find (applies s file) row) files
tests_all s row [] = refl
tests_all s row (file ∷ files) =
    tests_step s file (flat_map (tests_for row) files) row ∙ ap (option_or (find (applies s file) row)) (tests_all s row files)

same_refused : (f g : FileName → Option Refusal) → ((file : FileName) → f file ≡ g file) → (files : List FileName) → first_refused f files ≡ first_refused g files
same_refused f g same [] = refl
same_refused f g same (file ∷ files) =
    ap (λ r. option_or r (first_refused f files)) (same file) ∙ ap (option_or (g file)) (same_refused f g same files)

as_table : (s : Situation) (file : FileName) → s.function ≡ DeleteFile → find (applies s file) (refusals_of_each DeleteFile) ≡ file_refusal (drive_at s) s.filing.opens (deleter s) file
unfolding applies refusals_of_each file_refusal
as_table s file is =
    let rest : FileFunction → Option Refusal = λ f. cond (lacks_password (drive_at s) file f (given_password s) s.caller.password) (Some WrongPassword) (cond (is_in_use s file f) (Some InUse) None) in
    ap (λ f. cond (has_attribute (drive_at s) file 8 || is_open_read_only (mode_if_open s) f) (Some ReadOnlyFile) (rest f)) is
    ∙ ap (λ b. cond b (Some ReadOnlyFile) (rest DeleteFile)) (or-false (has_attribute (drive_at s) file 8))

pub deletion_as_table : (s : Situation) → s.function ≡ DeleteFile
    → option_map (λ (t : RefusalTest). t.refusal) (find (does_apply s) (tests_each (refusals_of_each DeleteFile) (deleted_files s))) ≡ deletion_refusal (drive_at s) s.filing.opens (deleter s) (block s).name
unfolding deletion_refusal deleted_files refusals_of_each
deletion_as_table s is =
    tests_all s (refusals_of_each DeleteFile) (deleted_in (drive_at s) s.caller.user (block s).name)
    ∙ same_refused (λ file. find (applies s file) (refusals_of_each DeleteFile)) (file_refusal (drive_at s) s.filing.opens (deleter s)) (λ file. as_table s file is)
    (deleted_in (drive_at s) s.caller.user (block s).name)
