-- The turns of a deletion.
use Rattle.std.proofs.Common.{◌≡◌, ℕ, zero, suc, ◌+◌, ◌≤◌, ◌<◌, Bool, true, false, ◌&&◌, ◌==◌, List, [], ◌∷◌, ◌++◌, Option, Some, None, drop, length, refl, sym, ap, subst, ◌∙◌, arith}
use Rattle.std.specs.Prelude.{cond, is_some, option_map, if◌then◌else◌}
use Rattle.mpm_names.specs.Matching.{does_match}
use Rattle.std.specs.List.{list_any}
use Rattle.std.specs.List as lists
use Rattle.std.specs.Ordering.{is_eq}
use Rattle.std.specs.Cmp.{tied_itself}
use Rattle.std.specs.FinMap.{get, get-remove, keys, entries}
use Rattle.std.proofs.lemmas.Bool.{true≢false, and_parts, eqb-true}
use Rattle.std.proofs.Math.Bool.{and-true}
use Rattle.mpm_base.proofs.Choices.{at_either}
use Rattle.mpm_blocks.specs.Geometries.{geometry_of}
use Rattle.mpm_blocks.specs.Sectors.{sectors_of}
use Rattle.mpm_dirent.specs.declared.kinds.Entry.TheVariants.{Free}
use Rattle.mpm_dirent.specs.declared.kinds.FileEntry.{FileEntry}
use Rattle.mpm_dirent.specs.Names.{plain}
use Rattle.mpm_dirent.proofs.PlainNames.{plain_twice}
use Rattle.mpm_mount.specs.declared.searching.Found.{Found}
use Rattle.mpm_mount.specs.Drives.{FileName, Protection, Drive, without_extent, without_xfcb}
use Rattle.mpm_mount.specs.Faults.{name_of, is_xfcb}
use Rattle.mpm_mount.specs.Changes.{exchanged}
use Rattle.mpm_mount.specs.Directories.{Directory, Stands, entry_in, xfcb_slot}
use Rattle.mpm_mount.specs.Searching.{search_of, IsLeast, IsNext}
use Rattle.mpm_mount.specs.Files.{entries_named, has_file, is_fitting, is_part_of, file_in}
use Rattle.mpm_mount.proofs.Sorts.{extent_freed, xfcb_freed}
use Rattle.mpm_mount.proofs.Orders.{file_total}
use Rattle.mpm_mount.proofs.NextFound.{next_found, next_none, is_sought_pair}
use Rattle.mpm_mount.proofs.LookedUp.{xfcb_found, xfcb_missing, kind_of}
use Rattle.mpm_jobs.specs.declared.jobs.JobKind.TheVariants.{Delete}
use Rattle.mpm_jobs.specs.declared.jobs.Job.{Job}
use Rattle.mpm_files.specs.declared.work.Work.{Work}
use Rattle.mpm_files.specs.Units.{FileUnit, Idles, RemovesEntry, RemovesXfcb, stages, last_of, applied}
use Rattle.mpm_files.specs.Plans.{plan_of, file_of_job, when, each, of_xfcb, deleting_entry, deleting}
use Rattle.mpm_files.specs.Serving.{units_done, missed_by, has_missed, xfcb_left, left_of, Follows, IsServingJob}
use Rattle.mpm_files.specs.Turning.{xfcb_due, xfcb_due_by, one_ended}
use Rattle.mpm_files.proofs.CountedEntries.{there_same}
use Rattle.mpm_files.proofs.NextEntries.{deletion_next, deleted_xfcb_next}
use Rattle.mpm_files.proofs.Served.{left_as, serves_quietly}
use Rattle.mpm_files.proofs.NextDone.{IsDone, place_within}
use Rattle.mpm_files.proofs.Left.{no_front}

-- the first of a list by a test of what it is made to
abbrev made_of : {X Y : Type 0} → Option X → (X → Y) → Option Y
made_of o f = option_map f o

find_made : {X Y : Type 0} (xs : List X) (f : X → Y) (p : X → Bool) (q : Y → Bool) → ((x : X) → q (f x) ≡ p x) → lists.find q (each xs f) ≡ made_of (lists.find p xs) f
find_made [] f p q same = refl
find_made (x ∷ xs) f p q same =
    ap (λ b. cond b (Some (f x)) (lists.find q (each xs f))) (same x) ∙ ap (cond (p x) (Some (f x))) (find_made xs f p q same) ∙ sym (at_either (option_map f) (p x) (Some x) (lists.find p xs))

-- the first entry that fits is the one that a search finds
first_fitting : (files : Drive) (d : Directory) (user : ℕ) (pattern : List ℕ)
    → lists.find (λ e. is_fitting user pattern e.0) (entries_named files)
    ≡ made_of (made_of (lists.find (is_sought_pair (search_of d.kind user pattern None)) (entries files.extents)) (λ e. e.0)) (λ name. (record { user = name.user; name = name.name }, name.number))
unfolding entries_named
first_fitting files d user pattern =
    find_made (keys files.extents) (λ name. (record { user = name.user; name = name.name }, name.number)) (λ name. is_fitting user pattern (record { user = name.user; name = name.name }))
    (λ e. is_fitting user pattern e.0) (λ name. refl)
    ∙ ap (λ o. made_of o (λ name. (record { user = name.user; name = name.name }, name.number)))
    (find_made (entries files.extents) (λ e. e.0) (is_sought_pair (search_of d.kind user pattern None)) (λ name. is_fitting user pattern (record { user = name.user; name = name.name }))
    (λ e. ap (λ b. (e.0.user == user) && b) (sym (and-true (does_match pattern e.0.name)))))

-- a job of this sort misses no record
quiet : (before : Drive) (job : Job) (j k : ℕ) → job.kind ≡ Delete → has_missed before job k ≡ has_missed before job j
quiet before job j k is = ap (missed_by before job k) is ∙ sym (ap (missed_by before job j) is)

kind_is : (before : Drive) (job : Job) (j : ℕ) (work : Work) → IsServingJob before job j work → work.job.kind ≡ Delete → job.kind ≡ Delete
kind_is before job j work serving is = sym (ap (λ (q : Job). q.kind) serving.job_is) ∙ is

-- the XFCB of the file whose last entry went, by the directory
xfcb_of : Drive → FileName → Bool → List FileUnit
xfcb_of files file there = if there then [] else of_xfcb files file (RemovesXfcb file)

left_alike : (image : List ℕ) (d : Directory) (files : Drive) (user : ℕ) (found : Found) → Stands image d files
    → xfcb_left files user (Some found) ≡ xfcb_of files (file_in user found.name) (list_any (is_part_of (file_in user found.name)) d.entries)
unfolding has_file xfcb_of
left_alike image d files user found stands = ap (xfcb_of files (file_in user found.name)) (there_same image d files (file_in user found.name) stands)

none_due : (image : List ℕ) (d : Directory) (files : Drive) (file : FileName) (there : Bool) → Stands image d files → (if there then None else xfcb_slot d file) ≡ None
    → xfcb_of files file there ≡ []
unfolding xfcb_of
none_due image d files file true stands none = refl
none_due image d files file false stands none = ap (λ o. when (is_some o) (RemovesXfcb file)) (xfcb_missing image d files file stands none)

none_left : (image : List ℕ) (d : Directory) (files : Drive) (user : ℕ) (last : Option Found) → Stands image d files → xfcb_due_by d user last ≡ None → xfcb_left files user last ≡ []
none_left image d files user None stands none = refl
none_left image d files user (Some found) stands none =
    left_alike image d files user found stands
    ∙ none_due image d files (file_in user found.name) (list_any (is_part_of (file_in user found.name)) d.entries) stands none

-- the entries that are left, where no XFCB is due
only_entries : (image : List ℕ) (d : Directory) (before : Drive) (job : Job) (j : ℕ) (work : Work) → Stands image d (units_done before job j) → IsServingJob before job j work
    → work.job.kind ≡ Delete → xfcb_due d work ≡ None
    → Follows (plan_of before job).units j (deleting (units_done before job j) work.job.user work.job.name (entries_named (units_done before job j)))
only_entries image d before job j work stands serving kind none =
    let files : Drive = units_done before job j in
    subst (Follows (plan_of before job).units j)
    (left_as files work Delete kind
    ∙ ap (λ l. l ++ deleting files work.job.user work.job.name (entries_named files)) (none_left image d files work.job.user work.last stands none))
    serving.left

-- an entry goes
pub entry_deleted : (image : List ℕ) (d : Directory) (before : Drive) (job : Job) (j : ℕ) (work : Work) (found : Found) → Stands image d (units_done before job j)
    → IsServingJob before job j work → work.job.kind ≡ Delete → j < length (plan_of before job).units → xfcb_due d work ≡ None
    → (least : IsLeast d.kind (search_of d.kind work.job.user work.job.name None) d.entries found)
    → (unit : FileUnit) × (IsDone before job j (record work { last = Some found; cleared = None }) unit
    × (stages unit (units_done before job j) ≡ exchanged (sectors_of image d.kind) (units_done before job j) (entry_in d found.slot) Free ∷ []))
unfolding stages
entry_deleted image d before job j work found stands serving kind h none least =
    let files : Drive = units_done before job j in
    let user : ℕ = work.job.user in
    let pattern : List ℕ = work.job.name in
    let f : FileEntry = least.file in
    let file : FileName = file_in f.user f.name in
    let number : ℕ = (name_of d.kind f).number in
    let new : Work = record work { last = Some found; cleared = None } in
    let next = deletion_next (plan_of before job).units j files user pattern file number (Idles (file_of_job job) None)
    (only_entries image d before job j work stands serving kind none)
    (first_fitting files d user pattern
    ∙ ap (λ o. made_of (made_of o (λ e. e.0)) (λ name. (record { user = name.user; name = name.name }, name.number)))
    (next_found image d files (search_of d.kind user pattern None) found stands least)) h in
    let after : Drive = applied files (RemovesEntry file number) in
    let user_is : f.user ≡ user = eqb-true f.user user ((and_parts (f.user == user) (does_match pattern (plain f.name) && true) least.sought).0) in
    let same : file ≡ file_in user found.name = λ i. record { user = user_is i; name = (sym (plain_twice f.name) ∙ ap plain (sym least.name)) i } in
    let left : left_of after (one_ended new) ≡ (if has_file after file then [] else of_xfcb after file (RemovesXfcb file)) ++ deleting after user pattern (entries_named after) =
    left_as after (one_ended new) Delete kind
    ∙ ap (λ (q : FileName). (if has_file after q then [] else of_xfcb after q (RemovesXfcb q)) ++ deleting after user pattern (entries_named after)) (sym same) in (
      RemovesEntry file number,
      (
        record {
          unit_is = next.0;
          serving = serves_quietly before job j work new (RemovesEntry file number) serving h next.0 refl refl refl refl refl refl refl refl
              (quiet before job j (suc j) (kind_is before job j work serving kind))
              (subst (Follows (plan_of before job).units (suc j)) (sym left) next.1);
        },
        ap (λ e. without_extent files e ∷ []) (ap (λ k. name_of k f) (sym (kind_of image d files stands)))
            ∙ ap (λ x. x ∷ []) (sym (extent_freed (sectors_of image d.kind) files f))
            ∙ ap (λ e. exchanged (sectors_of image d.kind) files e Free ∷ []) (sym least.entry),
      ),
    )

-- an XFCB goes
pub record IsDue (d : Directory) (user : ℕ) (last : Option Found) (slot : ℕ) : Type 0 where
  pub found : Found
  pub last_is : last ≡ Some found
  pub none : list_any (is_part_of (file_in user found.name)) d.entries ≡ false
  pub slot_is : xfcb_slot d (file_in user found.name) ≡ Some slot

is_due : (d : Directory) (user : ℕ) (last : Option Found) (slot : ℕ) → xfcb_due_by d user last ≡ Some slot → IsDue d user last slot
is_due d user None slot due = absurd (true≢false (sym (ap is_some due)))
is_due d user (Some found) slot due = by_there (list_any (is_part_of (file_in user found.name)) d.entries) refl due
  where
    by_there : (b : Bool) → list_any (is_part_of (file_in user found.name)) d.entries ≡ b → (if b then None else xfcb_slot d (file_in user found.name)) ≡ Some slot
        → IsDue d user (Some found) slot
    by_there true is none = absurd (true≢false (sym (ap is_some none)))
    by_there false is found_at = record { found = found; last_is = refl; none = is; slot_is = found_at }

pub due_within : (d : Directory) (work : Work) (slot : ℕ) → length d.entries ≡ (geometry_of d.kind).drm + 1 → xfcb_due d work ≡ Some slot → slot ≤ (geometry_of d.kind).drm
due_within d work slot full due =
    let is = is_due d work.job.user work.last slot due in
    place_within (is_xfcb work.job.user (plain is.found.name)) d.entries slot (geometry_of d.kind).drm full is.slot_is

either_none : (b : Bool) (file : FileName) (o : Option Protection) → o ≡ None → (if b then [] else when (is_some o) (RemovesXfcb file)) ≡ []
either_none true file o none = refl
either_none false file o none = ap (λ x. when (is_some x) (RemovesXfcb file)) none

pub xfcb_deleted : (image : List ℕ) (d : Directory) (before : Drive) (job : Job) (j : ℕ) (work : Work) (slot : ℕ) → Stands image d (units_done before job j)
    → IsServingJob before job j work → work.job.kind ≡ Delete → j < length (plan_of before job).units → xfcb_due d work ≡ Some slot
    → (unit : FileUnit) × (IsDone before job j (record work { cleared = None }) unit
    × (stages unit (units_done before job j) ≡ exchanged (sectors_of image d.kind) (units_done before job j) (entry_in d slot) Free ∷ []))
unfolding stages applied last_of xfcb_of has_file
xfcb_deleted image d before job j work slot stands serving kind h is =
    let files : Drive = units_done before job j in
    let user : ℕ = work.job.user in
    let pattern : List ℕ = work.job.name in
    let due = is_due d user work.last slot is in
    let file : FileName = file_in user due.found.name in
    let new : Work = record work { cleared = None } in
    let at = xfcb_found image d files file slot stands due.slot_is in
    let begins : left_of files work ≡ RemovesXfcb file ∷ deleting files user pattern (entries_named files) =
    left_as files work Delete kind
    ∙ ap (λ last. xfcb_left files user last ++ deleting files user pattern (entries_named files)) due.last_is
    ∙ ap (λ l. l ++ deleting files user pattern (entries_named files)) (left_alike image d files user due.found stands ∙ ap (xfcb_of files file) due.none ∙ ap (λ o. when (is_some o) (RemovesXfcb file)) at.protection) in
    let none : has_file files file ≡ false = there_same image d files file stands ∙ due.none in
    let next = deleted_xfcb_next (plan_of before job).units j files user pattern file (Idles (file_of_job job) None) (subst (Follows (plan_of before job).units j) begins serving.left) none h in
    let after : Drive = applied files (RemovesXfcb file) in
    let gone : get after.xfcbs file ≡ None = get-remove file_total files.xfcbs file file ∙ ap (λ r. cond (is_eq r) None (get files.xfcbs file)) (tied_itself file_total file) in
    let left : left_of after (one_ended new) ≡ deleting after user pattern (entries_named after) =
    left_as after (one_ended new) Delete kind
    ∙ ap (λ last. xfcb_left after user last ++ deleting after user pattern (entries_named after)) due.last_is
    ∙ ap (λ l. l ++ deleting after user pattern (entries_named after)) (either_none (has_file after file) file (get after.xfcbs file) gone) in (
      RemovesXfcb file,
      (
        record {
          unit_is = next.0;
          serving = serves_quietly before job j work new (RemovesXfcb file) serving h next.0 refl refl refl refl refl refl refl refl
              (quiet before job j (suc j) (kind_is before job j work serving kind))
              (subst (Follows (plan_of before job).units (suc j)) (sym left) next.1);
        },
        ap (λ n. without_xfcb files n ∷ []) (sym at.name_is)
            ∙ ap (λ x. x ∷ []) (sym (xfcb_freed (sectors_of image d.kind) files at.xfcb))
            ∙ ap (λ e. exchanged (sectors_of image d.kind) files e Free ∷ []) (sym at.entry),
      ),
    )

-- there is always one that goes
drop_none : (us : List FileUnit) (j : ℕ) → drop j us ≡ [] → length us ≤ j
drop_none [] j none = omega arith
drop_none (u ∷ us) zero none = absurd (omega (arith, ap length none))
drop_none (u ∷ us) (suc j) none = omega (arith, drop_none us j none)

pub never_empty : (units : List FileUnit) (j : ℕ) (left : List FileUnit) → Follows units j left → left ≡ [] → j < length units → ⊥
never_empty units j left follows none h = omega (arith, drop_none units j (no_front (drop j units) follows.rest (follows.same ∙ none)))

fits_none : (files : Drive) (user : ℕ) (pattern : List ℕ) (e : FileName × ℕ) (es : List (FileName × ℕ)) (b : Bool) → is_fitting user pattern e.0 ≡ b
    → cond b (Some e) (lists.find (λ x. is_fitting user pattern x.0) es) ≡ None → (lists.find (λ x. is_fitting user pattern x.0) es ≡ None → deleting files user pattern es ≡ [])
    → deleting files user pattern (e ∷ es) ≡ []
unfolding deleting
fits_none files user pattern e es true is there so = absurd (true≢false (ap is_some there))
fits_none files user pattern e es false is rest so =
    ap (λ b. (if b then deleting_entry files e es else []) ++ deleting files user pattern es) is ∙ so rest

none_fits : (files : Drive) (user : ℕ) (pattern : List ℕ) (es : List (FileName × ℕ)) → lists.find (λ e. is_fitting user pattern e.0) es ≡ None → deleting files user pattern es ≡ []
unfolding deleting
none_fits files user pattern [] none = refl
none_fits files user pattern (e ∷ es) none = fits_none files user pattern e es (is_fitting user pattern e.0) refl none (none_fits files user pattern es)

pub deletion_goes_on : (image : List ℕ) (d : Directory) (before : Drive) (job : Job) (j : ℕ) (work : Work) → Stands image d (units_done before job j) → IsServingJob before job j work
    → work.job.kind ≡ Delete → j < length (plan_of before job).units → xfcb_due d work ≡ None → IsNext d.kind (search_of d.kind work.job.user work.job.name None) d.entries None → ⊥
deletion_goes_on image d before job j work stands serving kind h none missing =
    let files : Drive = units_done before job j in
    never_empty (plan_of before job).units j (deleting files work.job.user work.job.name (entries_named files)) (only_entries image d before job j work stands serving kind none)
    (none_fits files work.job.user work.job.name (entries_named files)
    (first_fitting files d work.job.user work.job.name
    ∙ ap (λ o. made_of (made_of o (λ e. e.0)) (λ name. (record { user = name.user; name = name.name }, name.number)))
    (next_none image d files (search_of d.kind work.job.user work.job.name None) stands missing))) h
