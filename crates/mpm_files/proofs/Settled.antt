-- Calls that change entries alone: each record is seen, after any number of turns, as before the call or as after it. What a unit
-- changes of a record's entry is changed by none after it.
use Rattle.std.proofs.Common.{◌≡◌, ◌≢◌, ◌⊎◌, inl, inr, ℕ, zero, suc, ◌/◌, Bool, true, false, not, ◌==◌, cond, List, [], ◌∷◌, ◌++◌, Option, Some, None, take, refl, sym, ap, subst, ◌∙◌}
use Rattle.std.specs.Prelude.{nat_le, is_some, option_and_then, if◌then◌else◌}
use Rattle.std.specs.List.{AllByRecursion, list_any}
use Rattle.std.specs.Ordering.{eq_by_cmp, is_eq}
use Rattle.std.specs.Cmp.{tied_itself}
use Rattle.std.specs.FinMap.{get, remove, get-insert, get-remove}
use Rattle.std.proofs.lemmas.Bool.{true≢false, false_from_ne_true, cases_eq}
use Rattle.mpm_base.specs.declared.kind.Kind.{Kind}
use Rattle.mpm_mount.specs.Drives.{FileName, PhysicalExtent, Protection, Drive, entry_cmp, entry_number, with_extent_there, extent_at, visible_in, visible_of, extents_of, with_extent, without_extent, with_xfcb, without_xfcb}
use Rattle.mpm_mount.specs.Files.{where_there, is_same_file, entries_named, is_entry_of, is_fitting}
use Rattle.mpm_mount.specs.Attributes.{attributes_in}
use Rattle.mpm_mount.proofs.Orders.{entry_total}
use Rattle.mpm_mount.proofs.Names.{one_file, entry_parts, entries_differ}
use Rattle.mpm_jobs.specs.declared.jobs.JobKind.TheVariants.{Make, Delete, Rename, Attributes}
use Rattle.mpm_jobs.specs.declared.jobs.Job.{Job}
use Rattle.mpm_files.specs.Units.{FileUnit, AddsEntry, RemovesEntry, SetsAttributes, RenamesEntry, PutsXfcb, RemovesXfcb, RenamesXfcb, with_attributes, stages, last_of, applied, all_applied}
use Rattle.mpm_files.specs.Plans.{each, of_entries, of_xfcb, deleting_entry, deleting, renaming, making, file_of_job, new_file_of_job, protection_in, plan_by, plan_of, turns_of}
use Rattle.mpm_files.specs.Serving.{units_done}
use Rattle.mpm_files.proofs.TurnLaws.{all_turns}
use Rattle.mpm_files.proofs.Keeping.{all_both}

-- a unit leaves what is seen of a drive, or settles it: what is settled no unit changes
pub record Settles (see : Drive → Option (List ℕ)) (settled : Drive → Type 0) (unit : FileUnit) : Type 0 where
  pub step : (d : Drive) → (see (applied d unit) ≡ see d) ⊎ settled (applied d unit)
  pub stays : (d : Drive) → settled d → settled (applied d unit) × (see (applied d unit) ≡ see d)

settled_stays : (see : Drive → Option (List ℕ)) (settled : Drive → Type 0) (us : List FileUnit) (d : Drive) → AllByRecursion (Settles see settled) us → settled d → see (all_applied d us) ≡ see d
unfolding all_applied
settled_stays see settled [] d all is = refl
settled_stays see settled (u ∷ us) d all is =
    let next = all.0.stays d is in
    settled_stays see settled us (applied d u) all.1 next.0 ∙ next.1

first_ones : (P : FileUnit → Type 0) (us : List FileUnit) (j : ℕ) → AllByRecursion P us → AllByRecursion P (take j us)
first_ones P [] zero all = tt
first_ones P [] (suc j) all = tt
first_ones P (u ∷ us) zero all = tt
first_ones P (u ∷ us) (suc j) all = (all.0, first_ones P us j all.1)

-- what is seen after some of the units is what was seen before them, or what is seen after all
Either : (Drive → Option (List ℕ)) → Drive → Drive → Drive → Type 0
Either see before after now = (see now ≡ see before) ⊎ (see now ≡ see after)

behind_unit : (see : Drive → Option (List ℕ)) (before next after now : Drive) → see next ≡ see before → Either see next after now → Either see before after now
unfolding Either
behind_unit see before next after now same (inl e) = inl (e ∙ same)
behind_unit see before next after now same (inr e) = inr e

either_way : (see : Drive → Option (List ℕ)) (settled : Drive → Type 0) (us : List FileUnit) (j : ℕ) (d : Drive) → AllByRecursion (Settles see settled) us
    → Either see d (all_applied d us) (all_applied d (take j us))
unfolding all_applied Either
either_way see settled [] zero d all = inl refl
either_way see settled [] (suc j) d all = inl refl
either_way see settled (u ∷ us) zero d all = inl refl
either_way see settled (u ∷ us) (suc j) d all = by_step see settled u us j d all (all.0.step d) (either_way see settled us j (applied d u) all.1)
  where
    by_step : (see : Drive → Option (List ℕ)) (settled : Drive → Type 0) (u : FileUnit) (us : List FileUnit) (j : ℕ) (d : Drive) → AllByRecursion (Settles see settled) (u ∷ us)
        → (see (applied d u) ≡ see d) ⊎ settled (applied d u)
        → Either see (applied d u) (all_applied (applied d u) us) (all_applied (applied d u) (take j us))
        → Either see d (all_applied (applied d u) us) (all_applied (applied d u) (take j us))
    by_step see settled u us j d all (inl same) rest = behind_unit see d (applied d u) (all_applied (applied d u) us) (all_applied (applied d u) (take j us)) same rest
    by_step see settled u us j d all (inr is) rest =
        inr (settled_stays see settled (take j us) (applied d u) (first_ones (Settles see settled) us j all.1) is ∙ sym (settled_stays see settled us (applied d u) all.1 is))

-- what is seen of a record, by its entry
abbrev look : Kind → ℕ → Option PhysicalExtent → Option (List ℕ)
look kind n entry = option_and_then (visible_in kind n) (option_and_then (with_extent_there (n / 128)) entry)

-- an entry goes
gone_by : (kind : Kind) (n : ℕ) (o : Option PhysicalExtent) (b : Bool) → (look kind n (cond b None o) ≡ look kind n o) ⊎ (look kind n (cond b None o) ≡ None)
gone_by kind n o true = inr refl
gone_by kind n o false = inl refl

gone : (file g : FileName) (number n : ℕ) (d : Drive)
    → (visible_of (without_extent d (record { user = file.user; name = file.name; number = number })) g n ≡ visible_of d g n)
    ⊎ (visible_of (without_extent d (record { user = file.user; name = file.name; number = number })) g n ≡ None)
unfolding visible_of extent_at
gone file g number n d =
    let k : ℕ = entry_number d.kind (n / 128) in
    let there = get d.extents (record { user = g.user; name = g.name; number = k }) in
    let b : Bool = eq_by_cmp entry_cmp (record { user = g.user; name = g.name; number = k }) (record { user = file.user; name = file.name; number = number }) in
    let is : get (remove d.extents (record { user = file.user; name = file.name; number = number })) (record { user = g.user; name = g.name; number = k }) ≡ cond b None there =
    get-remove entry_total d.extents (record { user = file.user; name = file.name; number = number }) (record { user = g.user; name = g.name; number = k }) in
    elim (gone_by d.kind n there b) [
      | inl same ↦ inl (ap (look d.kind n) is ∙ same)
      | inr none ↦ inr (ap (look d.kind n) is ∙ none)
    ]

-- the units of a deletion
both_ways : (a b : Option (List ℕ)) → (a ≡ b) ⊎ (a ≡ None) → b ≡ None → (a ≡ None) × (a ≡ b)
both_ways a b (inl same) none = (same ∙ none, same)
both_ways a b (inr gone) none = (gone, gone ∙ sym none)

removing : (file g : FileName) (number n : ℕ) → Settles (λ d. visible_of d g n) (λ d. visible_of d g n ≡ None) (RemovesEntry file number)
unfolding applied stages last_of
removing file g number n = record {
  step = λ d. gone file g number n d;
  stays = λ d none. both_ways (visible_of (without_extent d (record { user = file.user; name = file.name; number = number })) g n) (visible_of d g n) (gone file g number n d) none;
}

removing_xfcb : (file g : FileName) (n : ℕ) → Settles (λ d. visible_of d g n) (λ d. visible_of d g n ≡ None) (RemovesXfcb file)
unfolding applied stages last_of visible_of extent_at
removing_xfcb file g n = record { step = λ d. inl refl; stays = λ d none. (none, refl) }

all_when : (P : FileUnit → Type 0) (b : Bool) (u : FileUnit) → P u → AllByRecursion P (if b then u ∷ [] else [])
all_when P true u is = (is, tt)
all_when P false u is = tt

all_unless : (P : FileUnit → Type 0) (b : Bool) (us : List FileUnit) → AllByRecursion P us → AllByRecursion P (if b then [] else us)
all_unless P true us all = tt
all_unless P false us all = all

all_if : (P : FileUnit → Type 0) (b : Bool) (us : List FileUnit) → AllByRecursion P us → AllByRecursion P (if b then us else [])
all_if P true us all = all
all_if P false us all = tt

all_deleting : (P : FileUnit → Type 0) → ((file : FileName) (number : ℕ) → P (RemovesEntry file number)) → ((file : FileName) → P (RemovesXfcb file)) → (drive : Drive) (user : ℕ) (pattern : List ℕ)
    (entries : List (FileName × ℕ)) → AllByRecursion P (deleting drive user pattern entries)
unfolding deleting
all_deleting P entry xfcb drive user pattern [] = tt
all_deleting P entry xfcb drive user pattern (e ∷ es) =
    all_both P (if is_fitting user pattern e.0 then deleting_entry drive e es else []) (deleting drive user pattern es)
    (all_if P (is_fitting user pattern e.0) (deleting_entry drive e es)
    (entry e.0 e.1, all_unless P (list_any (is_entry_of e.0) es) (of_xfcb drive e.0 (RemovesXfcb e.0)) (all_when P (is_some (get drive.xfcbs e.0)) (RemovesXfcb e.0) (xfcb e.0))))
    (all_deleting P entry xfcb drive user pattern es)

-- those of a renaming: a record is settled once the file has no entry of its number
not_one : (a b : FileName) (k m : ℕ) → k ≢ m
    → eq_by_cmp entry_cmp (record { user = a.user; name = a.name; number = k }) (record { user = b.user; name = b.name; number = m }) ≡ false
not_one a b k m apart = false_from_ne_true _ (λ tied. apart ((entry_parts a b k m tied).1))

NoEntry : FileName → ℕ → Drive → Type 0
NoEntry file n d = get d.extents (record { user = file.user; name = file.name; number = entry_number d.kind (n / 128) }) ≡ None

abbrev moved : Drive → FileName → FileName → ℕ → PhysicalExtent → Drive
moved d file new number entry =
    with_extent (without_extent d (record { user = file.user; name = file.name; number = number })) (record { user = new.user; name = new.name; number = number }) entry

moved_other : (d : Drive) (file new g : FileName) (number k : ℕ) (entry : PhysicalExtent) → k ≢ number
    → get (moved d file new number entry).extents (record { user = g.user; name = g.name; number = k }) ≡ get d.extents (record { user = g.user; name = g.name; number = k })
moved_other d file new g number k entry apart =
    let rest = remove d.extents (record { user = file.user; name = file.name; number = number }) in
    get-insert entry_total rest (record { user = new.user; name = new.name; number = number }) entry (record { user = g.user; name = g.name; number = k })
    ∙ ap (λ b. cond b (Some entry) (get rest (record { user = g.user; name = g.name; number = k }))) (not_one g new k number apart)
    ∙ get-remove entry_total d.extents (record { user = file.user; name = file.name; number = number }) (record { user = g.user; name = g.name; number = k })
    ∙ ap (λ b. cond b None (get d.extents (record { user = g.user; name = g.name; number = k }))) (not_one g file k number apart)

moved_away : (d : Drive) (file new : FileName) (number : ℕ) (entry : PhysicalExtent) → is_same_file file new ≡ false
    → get (moved d file new number entry).extents (record { user = file.user; name = file.name; number = number }) ≡ None
moved_away d file new number entry other =
    let rest = remove d.extents (record { user = file.user; name = file.name; number = number }) in
    get-insert entry_total rest (record { user = new.user; name = new.name; number = number }) entry (record { user = file.user; name = file.name; number = number })
    ∙ ap (λ b. cond b (Some entry) (get rest (record { user = file.user; name = file.name; number = number }))) (entries_differ file new number number other)
    ∙ get-remove entry_total d.extents (record { user = file.user; name = file.name; number = number }) (record { user = file.user; name = file.name; number = number })
    ∙ ap (λ r. cond (is_eq r) None (get d.extents (record { user = file.user; name = file.name; number = number }))) (tied_itself entry_total (record { user = file.user; name = file.name; number = number }))

moving_step : (d : Drive) (file new g : FileName) (number n : ℕ) (entry : PhysicalExtent) → is_same_file file new ≡ false
    → (visible_of (moved d file new number entry) g n ≡ visible_of d g n) ⊎ NoEntry file n (moved d file new number entry)
unfolding visible_of extent_at NoEntry
moving_step d file new g number n entry other =
    let k : ℕ = entry_number d.kind (n / 128) in
    elim (cases_eq k number) [
      | inl same ↦ inr (ap (λ q. get (moved d file new number entry).extents (record { user = file.user; name = file.name; number = q })) same ∙ moved_away d file new number entry other)
      | inr apart ↦ inl (ap (look d.kind n) (moved_other d file new g number k entry apart))
    ]

moving_stays : (d : Drive) (file new g : FileName) (number n : ℕ) (entry : PhysicalExtent)
    → get d.extents (record { user = file.user; name = file.name; number = number }) ≡ Some entry → NoEntry file n d
    → NoEntry file n (moved d file new number entry) × (visible_of (moved d file new number entry) g n ≡ visible_of d g n)
unfolding visible_of extent_at NoEntry
moving_stays d file new g number n entry there none =
    let k : ℕ = entry_number d.kind (n / 128) in
    let apart : k ≢ number = λ same.
    true≢false (sym (ap is_some there) ∙ ap (λ q. is_some (get d.extents (record { user = file.user; name = file.name; number = q }))) (sym same) ∙ ap is_some none) in
    (moved_other d file new file number k entry apart ∙ none, ap (look d.kind n) (moved_other d file new g number k entry apart))

by_entry : (d : Drive) (file new g : FileName) (number n : ℕ) → is_same_file file new ≡ false → (o : Option PhysicalExtent)
    → let next : Drive = last_of d (where_there o (λ entry. moved d file new number entry ∷ [])) in
    (visible_of next g n ≡ visible_of d g n) ⊎ NoEntry file n next
unfolding last_of
by_entry d file new g number n other None = inl refl
by_entry d file new g number n other (Some entry) = moving_step d file new g number n entry other

by_entry_still : (d : Drive) (file new g : FileName) (number n : ℕ) (o : Option PhysicalExtent) → get d.extents (record { user = file.user; name = file.name; number = number }) ≡ o → NoEntry file n d
    → let next : Drive = last_of d (where_there o (λ entry. moved d file new number entry ∷ [])) in
    NoEntry file n next × (visible_of next g n ≡ visible_of d g n)
unfolding last_of
by_entry_still d file new g number n None there none = (none, refl)
by_entry_still d file new g number n (Some entry) there none = moving_stays d file new g number n entry there none

moving : (file new g : FileName) (number n : ℕ) → is_same_file file new ≡ false → Settles (λ d. visible_of d g n) (NoEntry file n) (RenamesEntry file number new)
unfolding applied stages
moving file new g number n other = record {
  step = λ d. by_entry d file new g number n other (get d.extents (record { user = file.user; name = file.name; number = number }));
  stays = λ d none. by_entry_still d file new g number n (get d.extents (record { user = file.user; name = file.name; number = number })) refl none;
}

by_xfcb : (d : Drive) (file new g h : FileName) (n : ℕ) (o : Option Protection)
    → let next : Drive = last_of d (where_there o (λ xfcb. with_xfcb (without_xfcb d file) new xfcb ∷ [])) in
    (visible_of next g n ≡ visible_of d g n) × (NoEntry h n d → NoEntry h n next)
unfolding last_of visible_of extent_at NoEntry
by_xfcb d file new g h n None = (refl, λ none. none)
by_xfcb d file new g h n (Some xfcb) = (refl, λ none. none)

moving_xfcb : (file new g h : FileName) (n : ℕ) → Settles (λ d. visible_of d g n) (NoEntry h n) (RenamesXfcb file new)
unfolding applied stages
moving_xfcb file new g h n = record {
  step = λ d. inl ((by_xfcb d file new g h n (get d.xfcbs file)).0);
  stays = λ d none. let both = by_xfcb d file new g h n (get d.xfcbs file) in (both.1 none, both.0);
}

other_xfcb : (file g h : FileName) (n : ℕ) → Settles (λ d. visible_of d g n) (NoEntry h n) (RemovesXfcb file)
unfolding applied stages last_of visible_of extent_at NoEntry
other_xfcb file g h n = record { step = λ d. inl refl; stays = λ d none. (none, refl) }

all_each : {X : Type 0} (P : FileUnit → Type 0) (f : X → FileUnit) (xs : List X) → ((x : X) → P (f x)) → AllByRecursion P (each xs f)
all_each P f [] so = tt
all_each P f (x ∷ xs) so = (so x, all_each P f xs so)

all_renaming : (drive : Drive) (file new g : FileName) (n : ℕ) → is_same_file file new ≡ false → AllByRecursion (Settles (λ d. visible_of d g n) (NoEntry file n)) (renaming drive file new)
all_renaming drive file new g n other =
    let P : FileUnit → Type 0 = Settles (λ d. visible_of d g n) (NoEntry file n) in
    all_both P (of_xfcb drive new (RemovesXfcb new)) (of_entries drive file (λ number. RenamesEntry file number new) ++ of_xfcb drive file (RenamesXfcb file new))
    (all_when P (is_some (get drive.xfcbs new)) (RemovesXfcb new) (other_xfcb new g file n))
    (all_both P (of_entries drive file (λ number. RenamesEntry file number new)) (of_xfcb drive file (RenamesXfcb file new))
    (all_each P _ (extents_of drive file) (λ entry. moving file new g entry.0.number n other))
    (all_when P (is_some (get drive.xfcbs file)) (RenamesXfcb file new) (moving_xfcb file new g file n)))

-- attributes aren't seen of records
Never : Drive → Type 0
Never d = ⊥

marked_there : (kind : Kind) (n : ℕ) (entry : PhysicalExtent) (attributes : List Bool) (b : Bool)
    → option_and_then (visible_in kind n) (if b then Some (with_attributes attributes entry) else None) ≡ option_and_then (visible_in kind n) (if b then Some entry else None)
marked_there kind n entry attributes true = refl
marked_there kind n entry attributes false = refl

marked_by : (kind : Kind) (n : ℕ) (entry : PhysicalExtent) (attributes : List Bool) (o : Option PhysicalExtent) (b : Bool) → (b ≡ true → o ≡ Some entry)
    → look kind n (cond b (Some (with_attributes attributes entry)) o) ≡ look kind n o
marked_by kind n entry attributes o true one = marked_there kind n entry attributes (nat_le (n / 128) entry.last) ∙ sym (ap (look kind n) (one refl))
marked_by kind n entry attributes o false one = refl

setting_step : (d : Drive) (file g : FileName) (number n : ℕ) (attributes : List Bool) (o : Option PhysicalExtent)
    → get d.extents (record { user = file.user; name = file.name; number = number }) ≡ o
    → visible_of (last_of d (where_there o (λ entry. with_extent d (record { user = file.user; name = file.name; number = number }) (with_attributes attributes entry) ∷ []))) g n ≡ visible_of d g n
unfolding last_of visible_of extent_at
setting_step d file g number n attributes None there = refl
setting_step d file g number n attributes (Some entry) there =
    let k : ℕ = entry_number d.kind (n / 128) in
    ap (look d.kind n) (get-insert entry_total d.extents (record { user = file.user; name = file.name; number = number }) (with_attributes attributes entry) (record { user = g.user; name = g.name; number = k }))
    ∙ marked_by d.kind n entry attributes (get d.extents (record { user = g.user; name = g.name; number = k })) _
    (λ tied.
    let parts = entry_parts g file k number tied in
    ap (λ (f : FileName). get d.extents (record { user = f.user; name = f.name; number = k })) (one_file g file parts.0)
    ∙ ap (λ q. get d.extents (record { user = file.user; name = file.name; number = q })) parts.1 ∙ there)

setting : (file g : FileName) (number n : ℕ) (attributes : List Bool) → Settles (λ d. visible_of d g n) Never (SetsAttributes file number attributes)
unfolding applied stages Never
setting file g number n attributes = record {
  step = λ d. inl (setting_step d file g number n attributes (get d.extents (record { user = file.user; name = file.name; number = number })) refl);
  stays = λ d never. absurd never;
}

-- a file that is made is there with its entry, before its XFCB
xfcb_behind : (d : Drive) (file g : FileName) (xfcb : Protection) (n j : ℕ) (b : Bool)
    → visible_of (all_applied d (take j (if b then PutsXfcb file xfcb ∷ [] else []))) g n ≡ visible_of (all_applied d (if b then PutsXfcb file xfcb ∷ [] else [])) g n
unfolding all_applied applied stages last_of visible_of extent_at
xfcb_behind d file g xfcb n zero false = refl
xfcb_behind d file g xfcb n (suc j) false = refl
xfcb_behind d file g xfcb n zero true = refl
xfcb_behind d file g xfcb n (suc zero) true = refl
xfcb_behind d file g xfcb n (suc (suc j)) true = refl

made_shown : (d : Drive) (job : Job) (g : FileName) (n j : ℕ) → Either (λ e. visible_of e g n) d (all_applied d (making job)) (all_applied d (take j (making job)))
unfolding all_applied Either
made_shown d job g n zero = inl refl
made_shown d job g n (suc j) = inr (xfcb_behind (applied d (AddsEntry (file_of_job job) 0)) (file_of_job job) g (protection_in job) n j (not (job.count == 0)))

-- a call that changes entries alone; a renaming to another name
pub data ChangesEntries (job : Job) : Type 0 where
  Makes : job.kind ≡ Make → ChangesEntries job
  Deletes : job.kind ≡ Delete → ChangesEntries job
  Renames : job.kind ≡ Rename → is_same_file (file_of_job job) (new_file_of_job job) ≡ false → ChangesEntries job
  Sets : job.kind ≡ Attributes → ChangesEntries job

either_by : (before : Drive) (job : Job) (j : ℕ) (file : FileName) (n : ℕ) → ChangesEntries job
    → Either (λ d. visible_of d file n) before (all_applied before (plan_by before job job.kind).units) (all_applied before (take j (plan_by before job job.kind).units))
either_by before job j file n (Makes is) =
    subst (λ kind. Either (λ d. visible_of d file n) before (all_applied before (plan_by before job kind).units) (all_applied before (take j (plan_by before job kind).units))) (sym is)
    (made_shown before job file n j)
either_by before job j file n (Deletes is) =
    subst (λ kind. Either (λ d. visible_of d file n) before (all_applied before (plan_by before job kind).units) (all_applied before (take j (plan_by before job kind).units))) (sym is)
    (either_way (λ d. visible_of d file n) (λ d. visible_of d file n ≡ None) (deleting before job.user job.name (entries_named before)) j before
    (all_deleting (Settles (λ d. visible_of d file n) (λ d. visible_of d file n ≡ None)) (λ f number. removing f file number n) (λ f. removing_xfcb f file n) before job.user job.name (entries_named before)))
either_by before job j file n (Renames is other) =
    subst (λ kind. Either (λ d. visible_of d file n) before (all_applied before (plan_by before job kind).units) (all_applied before (take j (plan_by before job kind).units))) (sym is)
    (either_way (λ d. visible_of d file n) (NoEntry (file_of_job job) n) (renaming before (file_of_job job) (new_file_of_job job)) j before
    (all_renaming before (file_of_job job) (new_file_of_job job) file n other))
either_by before job j file n (Sets is) =
    subst (λ kind. Either (λ d. visible_of d file n) before (all_applied before (plan_by before job kind).units) (all_applied before (take j (plan_by before job kind).units))) (sym is)
    (either_way (λ d. visible_of d file n) Never (of_entries before (file_of_job job) (λ number. SetsAttributes (file_of_job job) number (attributes_in job.name))) j before
    (all_each (Settles (λ d. visible_of d file n) Never) _ (extents_of before (file_of_job job)) (λ entry. setting (file_of_job job) file entry.0.number n (attributes_in job.name))))

-- after any number of turns of such a call each record of each file is seen as before it, or as after it
pub entries_shown : (before : Drive) (job : Job) (j : ℕ) (file : FileName) (n : ℕ) → ChangesEntries job
    → (visible_of (units_done before job j) file n ≡ visible_of before file n)
    ⊎ (visible_of (units_done before job j) file n ≡ visible_of (units_done before job (turns_of before job)) file n)
unfolding plan_of Either
entries_shown before job j file n changes =
    subst (λ (z : Drive). Either (λ d. visible_of d file n) before z (units_done before job j)) (sym (all_turns before job)) (either_by before job j file n changes)
