-- The turns of a job that sets attributes.
use Rattle.std.proofs.Common.{◌≡◌, ℕ, suc, ◌<◌, Bool, true, false, cond, ◌==◌, ◌&&◌, List, [], ◌∷◌, Option, Some, None, map, length, refl, sym, ap, subst, ◌∙◌}
use Rattle.std.specs.Prelude.{option_map}
use Rattle.std.specs.List.{filter, list_all}
use Rattle.std.specs.FinMap.{get, entries}
use Rattle.std.proofs.lemmas.Bool.{and_parts}
use Rattle.mpm_names.specs.Matching.{does_match}
use Rattle.mpm_base.specs.declared.kind.Kind.{Kind}
use Rattle.mpm_blocks.specs.Sectors.{sectors_of}
use Rattle.mpm_dirent.specs.declared.kinds.Entry.TheVariants.{File}
use Rattle.mpm_dirent.specs.declared.kinds.FileEntry.{FileEntry}
use Rattle.mpm_mount.specs.declared.searching.Found.{Found}
use Rattle.mpm_mount.specs.Drives.{FileName, entry_number, Drive, is_of, extents_of}
use Rattle.mpm_mount.specs.Faults.{name_of}
use Rattle.mpm_mount.specs.Images.{extent_in}
use Rattle.mpm_mount.specs.Directories.{Directory, Stands, entry_in}
use Rattle.mpm_mount.specs.Searching.{found_name, search_of, is_above, IsLeast, IsNext, IsUnambiguous}
use Rattle.mpm_mount.specs.Files.{is_same_file, file_in}
use Rattle.mpm_mount.specs.Attributes.{attributes_in}
use Rattle.mpm_mount.proofs.NextFound.{is_sought_pair, next_found, next_none}
use Rattle.mpm_mount.proofs.OneFile.{extents_sought, first_filtered, none_filtered}
use Rattle.mpm_mount.proofs.Names.{one_file, is_itself}
use Rattle.mpm_mount.proofs.LookedUp.{kind_of}
use Rattle.mpm_jobs.specs.declared.jobs.JobKind.TheVariants.{Attributes}
use Rattle.mpm_jobs.specs.declared.jobs.Job.{Job}
use Rattle.mpm_files.specs.declared.work.Work.{Work}
use Rattle.mpm_files.specs.Units.{FileUnit, Idles, SetsAttributes, applied}
use Rattle.mpm_files.specs.Plans.{plan_of, file_of_job, each}
use Rattle.mpm_files.specs.Serving.{units_done, missed_by, has_missed, is_later, left_setting, Follows, IsServingJob}
use Rattle.mpm_files.specs.Turning.{last_named, last_of_job, SuitsKind, Suits, one_ended}
use Rattle.mpm_files.proofs.NoFile.{there_at, all_of_file}
use Rattle.mpm_files.proofs.NextEntries.{filter_mapped}
use Rattle.mpm_files.proofs.NextAttributes.{order_of_one, setting_next}
use Rattle.mpm_files.proofs.Served.{left_as, serves_quietly}
use Rattle.mpm_files.proofs.NextDone.{IsDone}
use Rattle.mpm_files.proofs.DeleteTurns.{never_empty}

-- what is sought above an entry is sought, and above it
above_too : (a b c : Bool) → (a && (b && c)) ≡ ((a && (b && true)) && c)
above_too true true c = refl
above_too true false c = refl
above_too false b c = refl

-- what passes both of two tests; and what passes one of two that agree
both_step : {X : Type 0} (q : X → Bool) (x : X) (xs : List X) (b : Bool) → cond (b && q x) (x ∷ filter q xs) (filter q xs) ≡ filter q (cond b (x ∷ xs) xs)
both_step q x xs true = refl
both_step q x xs false = refl

filter_both : {X : Type 0} (p q r : X → Bool) (xs : List X) → ((x : X) → r x ≡ (p x && q x)) → filter r xs ≡ filter q (filter p xs)
filter_both p q r [] same = refl
filter_both p q r (x ∷ xs) same =
    ap (λ b. cond b (x ∷ filter r xs) (filter r xs)) (same x) ∙ ap (λ l. cond (p x && q x) (x ∷ l) l) (filter_both p q r xs same) ∙ both_step q x (filter p xs) (p x)

agree_step : {X : Type 0} (q r : X → Bool) (x : X) (xs : List X) (b : Bool) → (b ≡ true → q x ≡ r x) → filter q xs ≡ filter r xs → filter q (cond b (x ∷ xs) xs) ≡ filter r (cond b (x ∷ xs) xs)
agree_step q r x xs true agree same = ap (λ b. cond b (x ∷ filter q xs) (filter q xs)) (agree refl) ∙ ap (λ l. cond (r x) (x ∷ l) l) same
agree_step q r x xs false agree same = same

filter_agree : {X : Type 0} (p q r : X → Bool) (xs : List X) → ((x : X) → p x ≡ true → q x ≡ r x) → filter q (filter p xs) ≡ filter r (filter p xs)
filter_agree p q r [] agree = refl
filter_agree p q r (x ∷ xs) agree = agree_step q r x (filter p xs) (p x) (agree x) (filter_agree p q r xs agree)

-- of one file's entries, those above the last by name are those of a later number
above_later : (kind : Kind) (user : ℕ) (pattern : List ℕ) (last : Option Found) (name : FileName) (number : ℕ) → is_same_file name (file_in user pattern) ≡ true
    → is_above (option_map (found_name kind user) (last_named pattern last)) (record { user = name.user; name = name.name; number = number }) ≡ is_later kind last number
above_later kind user pattern None name number own = refl
above_later kind user pattern (Some found) name number own =
    let file : FileName = file_in user pattern in
    order_of_one file file name (entry_number kind found.extent) number (is_itself file) own

-- the entries that a search for a file's name above the last seeks
later_sought : (image : List ℕ) (d : Directory) (files : Drive) (user : ℕ) (pattern : List ℕ) (last : Option Found) → Stands image d files → IsUnambiguous pattern
    → filter (is_sought_pair (search_of d.kind user pattern (last_named pattern last))) (entries files.extents)
    ≡ filter (λ e. is_later d.kind last e.0.number) (extents_of files (file_in user pattern))
unfolding extents_of
later_sought image d files user pattern last stands one =
    filter_both (is_sought_pair (search_of d.kind user pattern None)) (λ e. is_above (option_map (found_name d.kind user) (last_named pattern last)) e.0)
    (is_sought_pair (search_of d.kind user pattern (last_named pattern last))) (entries files.extents)
    (λ e. above_too (e.0.user == user) (does_match pattern e.0.name) (is_above (option_map (found_name d.kind user) (last_named pattern last)) e.0))
    ∙ ap (filter (λ e. is_above (option_map (found_name d.kind user) (last_named pattern last)) e.0)) (extents_sought image d files user pattern stands one)
    ∙ filter_agree (is_of (file_in user pattern)) (λ e. is_above (option_map (found_name d.kind user) (last_named pattern last)) e.0) (λ e. is_later d.kind last e.0.number) (entries files.extents)
    (λ e own. above_later d.kind user pattern last (record { user = e.0.user; name = e.0.name }) e.0.number own)

-- their numbers are the later ones of the file's, and they are the file's own
later_numbers : (image : List ℕ) (d : Directory) (files : Drive) (user : ℕ) (pattern : List ℕ) (last : Option Found) → Stands image d files → IsUnambiguous pattern
    → filter (is_later files.kind last) (each (extents_of files (file_in user pattern)) (λ e. e.0.number))
    ≡ each (filter (is_sought_pair (search_of d.kind user pattern (last_named pattern last))) (entries files.extents)) (λ e. e.0.number)
later_numbers image d files user pattern last stands one =
    ap (λ k. filter (is_later k last) (each (extents_of files (file_in user pattern)) (λ e. e.0.number))) (kind_of image d files stands)
    ∙ sym (filter_mapped (λ e. is_later d.kind last e.0.number) (is_later d.kind last) (λ e. e.0.number) (extents_of files (file_in user pattern)) (λ e. refl))
    ∙ ap (λ es. each es (λ e. e.0.number)) (sym (later_sought image d files user pattern last stands one))

all_step : {X : Type 0} (p : X → Bool) (x : X) (xs : List X) (b : Bool) → p x ≡ true → list_all p xs ≡ true → list_all p (cond b (x ∷ xs) xs) ≡ true
all_step p x xs true passes all = ap (λ b. b && list_all p xs) passes ∙ all
all_step p x xs false passes all = all

all_of_them : {X : Type 0} (p q : X → Bool) (xs : List X) → list_all p xs ≡ true → list_all p (filter q xs) ≡ true
all_of_them p q [] all = refl
all_of_them p q (x ∷ xs) all =
    let parts = and_parts (p x) (list_all p xs) all in
    all_step p x (filter q xs) (q x) parts.0 (all_of_them p q xs parts.1)

-- the turn of an entry
kind_is : (before : Drive) (job : Job) (j : ℕ) (work : Work) → IsServingJob before job j work → work.job.kind ≡ Attributes → job.kind ≡ Attributes
kind_is before job j work serving is = sym (ap (λ (q : Job). q.kind) serving.job_is) ∙ is

quiet : (before : Drive) (job : Job) (j k : ℕ) → job.kind ≡ Attributes → has_missed before job k ≡ has_missed before job j
quiet before job j k is = ap (missed_by before job k) is ∙ sym (ap (missed_by before job j) is)

name_fits : (before : Drive) (job : Job) (j : ℕ) (work : Work) → IsServingJob before job j work → work.job.kind ≡ Attributes → Suits before job → IsUnambiguous work.job.name
name_fits before job j work serving is suits =
    subst (λ (q : Job). IsUnambiguous q.name) (sym serving.job_is) (subst (SuitsKind before job) (kind_is before job j work serving is) suits.kind)

left_now : (before : Drive) (job : Job) (j : ℕ) (work : Work) → IsServingJob before job j work → work.job.kind ≡ Attributes
    → Follows (plan_of before job).units j (left_setting (units_done before job j) (file_of_job work.job) (attributes_in work.job.name) work.last)
left_now before job j work serving is = subst (Follows (plan_of before job).units j) (left_as (units_done before job j) work Attributes is) serving.left

-- the first entry above the last gets the attributes
pub record EntrySet (d : Directory) (before : Drive) (job : Job) (j : ℕ) (work : Work) (found : Found) : Type 0 where
  pub file : FileEntry
  pub entry : entry_in d found.slot ≡ File file
  pub done : IsDone before job j (record work { last = Some found; cleared = None })
      (SetsAttributes (file_in file.user file.name) (name_of (units_done before job j).kind file).number (attributes_in work.job.name))

pub entry_set : (image : List ℕ) (d : Directory) (before : Drive) (job : Job) (j : ℕ) (work : Work) (found : Found) → Stands image d (units_done before job j)
    → IsServingJob before job j work → work.job.kind ≡ Attributes → Suits before job → j < length (plan_of before job).units
    → IsLeast d.kind (search_of d.kind work.job.user work.job.name (last_of_job work)) d.entries found → EntrySet d before job j work found
entry_set image d before job j work found stands serving is suits h least =
    let us : List FileUnit = (plan_of before job).units in
    let files : Drive = units_done before job j in
    let file : FileName = file_of_job work.job in
    let attributes : List Bool = attributes_in work.job.name in
    let search = search_of d.kind work.job.user work.job.name (last_of_job work) in
    let f : FileEntry = least.file in
    let number : ℕ = (name_of d.kind f).number in
    let kind : files.kind ≡ d.kind = kind_of image d files stands in
    let first = first_filtered (is_sought_pair search) (entries files.extents) (name_of d.kind f, extent_in (sectors_of image d.kind) d.kind f)
    (next_found image d files search found stands least) in
    let one : IsUnambiguous work.job.name = name_fits before job j work serving is suits in
    let numbers : filter (is_later files.kind work.last) (each (extents_of files file) (λ e. e.0.number)) ≡ number ∷ each first.0 (λ e. e.0.number) =
    later_numbers image d files work.job.user work.job.name work.last stands one ∙ ap (λ es. each es (λ e. e.0.number)) first.1 in
    let same : file_in f.user f.name ≡ file =
    one_file (file_in f.user f.name) file
    (and_parts (is_same_file (file_in f.user f.name) file) (list_all (is_of file) first.0)
    (ap (list_all (is_of file)) (sym first.1 ∙ later_sought image d files work.job.user work.job.name work.last stands one)
    ∙ all_of_them (is_of file) (λ e. is_later d.kind work.last e.0.number) (extents_of files file) (all_of_file files file))).0 in
    let there : get files.extents (record { user = file.user; name = file.name; number = number }) ≡ Some (extent_in (sectors_of image d.kind) d.kind f) =
    ap (λ (q : FileName). get files.extents (record { user = q.user; name = q.name; number = number })) (sym same) ∙ there_at image d files found.slot f stands least.within least.entry in
    let unit : FileUnit = SetsAttributes file number attributes in
    let next = setting_next us j files file attributes work.last found number (extent_in (sectors_of image d.kind) d.kind f) (each first.0 (λ e. e.0.number)) (Idles (file_of_job job) None)
    (left_now before job j work serving is) numbers there (ap (λ k. entry_number k found.extent) kind ∙ ap (entry_number d.kind) least.extent) h in
    let new : Work = record work { last = Some found; cleared = None } in
    let done : IsDone before job j new unit = record {
      unit_is = next.0;
      serving = serves_quietly before job j work new unit serving h next.0 refl refl refl refl refl refl refl refl (quiet before job j (suc j) (kind_is before job j work serving is))
          (subst (Follows us (suc j)) (sym (left_as (applied files unit) (one_ended new) Attributes is)) next.1);
    } in
    record {
      file = f;
      entry = least.entry;
      done = subst (λ k. IsDone before job j new (SetsAttributes (file_in f.user f.name) (name_of k f).number attributes)) (sym kind)
          (subst (λ (q : FileName). IsDone before job j new (SetsAttributes q number attributes)) (sym same) done);
    }

-- there is always one
pub setting_goes_on : (image : List ℕ) (d : Directory) (before : Drive) (job : Job) (j : ℕ) (work : Work) → Stands image d (units_done before job j)
    → IsServingJob before job j work → work.job.kind ≡ Attributes → Suits before job → j < length (plan_of before job).units
    → IsNext d.kind (search_of d.kind work.job.user work.job.name (last_of_job work)) d.entries None → ⊥
setting_goes_on image d before job j work stands serving is suits h none =
    let files : Drive = units_done before job j in
    let file : FileName = file_of_job work.job in
    let search = search_of d.kind work.job.user work.job.name (last_of_job work) in
    never_empty (plan_of before job).units j (left_setting files file (attributes_in work.job.name) work.last) (left_now before job j work serving is)
    (ap (map (λ k. SetsAttributes file k (attributes_in work.job.name)))
    (later_numbers image d files work.job.user work.job.name work.last stands (name_fits before job j work serving is suits)
    ∙ ap (λ es. each es (λ e. e.0.number)) (none_filtered (is_sought_pair search) (entries files.extents) (next_none image d files search stands none)))) h
