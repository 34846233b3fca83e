-- The open files that a deletion gives back: what is kept of them as it begins names the same files.
use Rattle.std.proofs.Common.{◌≡◌, ◌∙◌, ℕ, zero, suc, ◌%◌, ◌+◌, ◌<◌, ◌==◌, Bool, true, false, not, ◌&&◌, ◌||◌, cond, List, [], ◌∷◌, Option, Some, None, length, take, get_or, map, refl, sym, ap, arith, eq-eqb, add-one, take_all, le_refl}
use Rattle.std.proofs.lemmas.List.{get_or-map, length-map}
use Rattle.std.specs.Prelude.{bytes_eq, is_some, find, filter, option_map}
use Rattle.std.specs.List.{list_any, list_all}
use Rattle.std.proofs.lemmas.Bool.{false≢true, and_parts, eqb-true}
use Rattle.std.proofs.lemmas.List.FromFn.{fill_by_all}
use Rattle.std.proofs.Math.Bool.{or-true, and-false, and_assoc}
use Rattle.std.specs.Cmp.{both_ways}
use Rattle.mpm_base.proofs.Choices.{at_either}
use Rattle.mpm_names.specs.Matching.{does_match}
use Rattle.mpm_names.proofs.Fitting.{fits_everywhere}
use Rattle.mpm_dirent.specs.Names.{plain}
use Rattle.mpm_dirent.proofs.PlainNames.{plain_twice}
use Rattle.mpm_mount.specs.declared.searching.Found.{Found}
use Rattle.mpm_mount.specs.Drives.{FileName, Drive}
use Rattle.mpm_mount.specs.Directories.{Directory, Stands}
use Rattle.mpm_mount.specs.Searching.{search_of, IsNext}
use Rattle.mpm_opens.specs.declared.kinds.FileKey.{FileKey}
use Rattle.mpm_opens.specs.declared.kinds.Item.{Item}
use Rattle.mpm_opens.specs.declared.kinds.RecordLock.{RecordLock}
use Rattle.mpm_opens.specs.Kinds as keys
use Rattle.mpm_opens.specs.Items.{place_at, has_item_of, file_where, is_given_back, left_in, items_without}
use Rattle.mpm_opens.specs.Locks.{locks_without, is_lock_among}
use Rattle.mpm_opens.specs.Opens.{OpenFiles, given_back, has_owners_item, AreOpen}
use Rattle.mpm_opens.proofs.Keys.{same_file, file_is_itself, same_file_back}
use Rattle.mpm_opens.proofs.GivingLaws.{given_back_twice}
use Rattle.mpm_mount.specs.Files.{is_same_file, entries_named, is_entry_of, has_file, is_fitting}
use Rattle.mpm_mount.proofs.Names.{one_file}
use Rattle.mpm_mount.proofs.Lowest.{found_same}
use Rattle.mpm_bdos.specs.declared.releasing.Deletion.{Deletion}
use Rattle.mpm_refusals.specs.Subjects.{file_of, is_next, next_in, fits}
use Rattle.mpm_refusals.specs.Looking.{entry_found}
use Rattle.mpm_bdos.specs.Changes.{is_deleted_in, is_at, is_among}
use Rattle.mpm_refusals.proofs.Searched.{next_step}
use Rattle.mpm_marks.proofs.Freed.{given_alike, no_file, all_kept}

-- a file of this very name is there, by a search for its name
itself_matches : (name : List ℕ) → length name ≡ 11 → does_match name name ≡ true
itself_matches name size = fits_everywhere name name (λ k h.
    let p = get_or name k 0 in
    ap (λ x. (p % 128 == 63) || x) (eq-eqb (p % 128) (p % 128) refl) ∙ or-true (p % 128 == 63))

any_is_found : {X : Type 0} (test : X → Bool) (xs : List X) → list_any test xs ≡ is_some (find test xs)
any_is_found test [] = refl
any_is_found test (x ∷ xs) = by_test (test x) (any_is_found test xs)
  where
    by_test : (b : Bool) → list_any test xs ≡ is_some (find test xs) → (b || list_any test xs) ≡ is_some (cond b (Some x) (find test xs))
    by_test true rest = refl
    by_test false rest = rest

sought_alike : (file : FileName) (entry : FileName × ℕ) (b : Bool) → length file.name ≡ 11 → is_same_file file entry.0 ≡ b → b ≡ (is_fitting file.user file.name entry.0 && (b && true))
sought_alike file entry true size is =
    let same : file ≡ entry.0 = one_file file entry.0 is in
    sym (ap (λ (f : FileName). ((f.user == file.user) && does_match file.name f.name) && true) (sym same)
    ∙ ap (λ x. (x && does_match file.name file.name) && true) (eq-eqb file.user file.user refl)
    ∙ ap (λ x. x && true) (itself_matches file.name size))
sought_alike file entry false size is = sym (never (is_fitting file.user file.name entry.0))
  where
    never : (x : Bool) → (x && false) ≡ false
    never true = refl
    never false = refl

pub file_sought : (drive : Drive) (file : FileName) → length file.name ≡ 11 → has_file drive file ≡ is_some (next_in drive file.user file.name (is_entry_of file) None)
unfolding has_file
file_sought drive file size =
    any_is_found (is_entry_of file) (entries_named drive)
    ∙ ap is_some (found_same (is_entry_of file) (is_next file.user file.name (is_entry_of file) None) (entries_named drive)
    (λ entry. sought_alike file entry (is_same_file file entry.0) size refl))

pub file_step : (image : List ℕ) (d : Directory) (files : Drive) (user : ℕ) (name : List ℕ) (last : Option Found) (found : Found) → Stands image d files
    → (least : IsNext d.kind (search_of d.kind user name last) d.entries (Some found))
    → next_in files user name (is_entry_of (record { user = user; name = name })) (option_map (entry_found d.kind user) last)
    ≡ cond (bytes_eq name found.name) (Some (entry_found d.kind user found)) (next_in files user name (is_entry_of (record { user = user; name = name })) (Some (entry_found d.kind user found)))
file_step image d files user name last found stands least =
    let rest = next_in files user name (is_entry_of (record { user = user; name = name })) (Some (entry_found d.kind user found)) in
    let named : plain found.name ≡ found.name = ap plain least.name ∙ plain_twice least.file.name ∙ sym least.name in
    next_step image d files user name (is_entry_of (record { user = user; name = name })) last found stands least
    ∙ ap (λ b. cond b (Some (entry_found d.kind user found)) rest)
    (ap (λ b. b && bytes_eq name (plain found.name)) (eq-eqb user user refl) ∙ ap (bytes_eq name) named)

-- a deletion deletes the files that fit and are there
deleted_step : (file : FileName) (entry : FileName × ℕ) (rest : List FileName) (there test here fitting : Bool) → is_same_file file entry.0 ≡ here → (here ≡ true → test ≡ fitting)
    → list_any (is_same_file file) rest ≡ (fitting && there) → list_any (is_same_file file) (cond test (entry.0 ∷ rest) rest) ≡ (fitting && (here || there))
deleted_step file entry rest there true true fitting is same so =
    ap (λ b. b || list_any (is_same_file file) rest) is ∙ ap (λ f. f && true) (same refl)
deleted_step file entry rest there true false fitting is same so = ap (λ b. b || list_any (is_same_file file) rest) is ∙ so
deleted_step file entry rest there false true fitting is same so =
    so ∙ ap (λ f. f && there) (sym (same refl)) ∙ ap (λ f. f && true) (same refl)
deleted_step file entry rest there false false fitting is same so = so

deleted_fits : (file : FileName) (user : ℕ) (pattern : List ℕ) (entry : FileName × ℕ) → is_same_file file entry.0 ≡ true → fits user pattern entry ≡ is_fitting user pattern file
deleted_fits file user pattern entry is = ap (is_fitting user pattern) (sym (one_file file entry.0 is))

pub deleted_among : (file : FileName) (user : ℕ) (pattern : List ℕ) (es : List (FileName × ℕ))
    → list_any (is_same_file file) (map (λ (e : FileName × ℕ). e.0) (filter (fits user pattern) es)) ≡ (is_fitting user pattern file && list_any (is_entry_of file) es)
deleted_among file user pattern [] = sym (and-false (is_fitting user pattern file))
deleted_among file user pattern (entry ∷ es) =
    ap (list_any (is_same_file file)) (at_either (map (λ (e : FileName × ℕ). e.0)) (fits user pattern entry) (entry ∷ filter (fits user pattern) es) (filter (fits user pattern) es))
    ∙ deleted_step file entry (map (λ (e : FileName × ℕ). e.0) (filter (fits user pattern) es)) (list_any (is_entry_of file) es) (fits user pattern entry) (is_same_file file entry.0) (is_fitting user pattern file)
    refl (deleted_fits file user pattern entry) (deleted_among file user pattern es)

deleted_is : (drive : Drive) (deletion : Deletion) (key : FileKey)
    → is_deleted_in drive deletion key ≡ ((key.drive == deletion.drive) && (is_fitting deletion.user deletion.pattern (file_of key) && has_file drive (file_of key)))
unfolding has_file
deleted_is drive deletion key = ap (λ b. (key.drive == deletion.drive) && b) (deleted_among (file_of key) deletion.user deletion.pattern (entries_named drive))

abbrev names_file : Deletion → FileKey → Bool
names_file deletion key = (key.drive == deletion.drive) && is_fitting deletion.user deletion.pattern (file_of key)

pub deleted_where_named : (drive : Drive) (deletion : Deletion) (key : FileKey) (named there : Bool) → named ≡ names_file deletion key → there ≡ has_file drive (file_of key) → (named && there) ≡ is_deleted_in drive deletion key
deleted_where_named drive deletion key named there is so =
    ap (λ b. b && there) is ∙ ap (λ b. names_file deletion key && b) so
    ∙ sym (deleted_is drive deletion key ∙ sym (and_assoc (key.drive == deletion.drive) (is_fitting deletion.user deletion.pattern (file_of key)) (has_file drive (file_of key))))

-- the process's open files, place after place
pub deleted_all : (places : List (Option Item)) (made : List (Option FileKey)) (p : ℕ) (among : FileKey → Bool) → length places ≡ 64 → length made ≡ 64
    → ((k : ℕ) → k < 64 → get_or made k None ≡ file_where (is_given_back p among) (place_at places k)) → made ≡ map (file_where (is_given_back p among)) places
deleted_all places made p among size long each =
    fill_by_all (λ k. file_where (is_given_back p among) (place_at places k)) made 64 None long each
    ∙ sym (fill_by_all (λ k. file_where (is_given_back p among) (place_at places k)) (map (file_where (is_given_back p among)) places) 64 None (length-map places (file_where (is_given_back p among)) ∙ size)
    (λ k h. get_or-map (file_where (is_given_back p among)) places k None None (omega (arith, size, h))))

-- they are given back one after the other
pub none_given : (opens : OpenFiles) (p : ℕ) → opens ≡ given_back opens p (is_among [])
none_given opens p = sym (given_alike opens p (is_among []) no_file (λ key. refl) ∙ all_kept opens p)

one_more : (files : List (Option FileKey)) (k : ℕ) (key : FileKey) → k < length files → (is_among (take k files) key || is_at (get_or files k None) key) ≡ is_among (take (suc k) files) key
one_more [] k key h = absurd (omega (arith, h))
one_more (file ∷ files) zero key h = sym (or_nothing (is_at file key) files key)
  where
    or_nothing : (b : Bool) (files : List (Option FileKey)) (key : FileKey) → (b || is_among (take 0 files) key) ≡ b
    or_nothing true files key = refl
    or_nothing false [] key = refl
    or_nothing false (f ∷ files) key = refl
one_more (file ∷ files) (suc k) key h =
    or_apart (is_at file key) (is_among (take k files) key) (is_at (get_or files k None) key) ∙ ap (λ b. is_at file key || b) (one_more files k key (omega (arith, h)))
  where
    or_apart : (a b c : Bool) → ((a || b) || c) ≡ (a || (b || c))
    or_apart true b c = refl
    or_apart false b c = refl

pub one_given : (initial old new : OpenFiles) (p : ℕ) (files : List (Option FileKey)) (k : ℕ) → k < length files → old ≡ given_back initial p (is_among (take k files))
    → new ≡ given_back old p (is_at (get_or files k None)) → new ≡ given_back initial p (is_among (take (k + 1) files))
one_given initial old new p files k h before is =
    is ∙ ap (λ opens. given_back opens p (is_at (get_or files k None))) before
    ∙ given_back_twice initial p (is_among (take k files)) (is_at (get_or files k None))
    ∙ given_alike initial p (λ key. is_among (take k files) key || is_at (get_or files k None) key) (is_among (take (suc k) files)) (λ key. one_more files k key h)
    ∙ ap (λ n. given_back initial p (is_among (take n files))) (sym (add-one k))

pub all_given : (initial old : OpenFiles) (p : ℕ) (files : List (Option FileKey)) (k : ℕ) → length files ≡ k → old ≡ given_back initial p (is_among (take k files))
    → old ≡ given_back initial p (is_among files)
all_given initial old p files k size is =
    is ∙ ap (λ n. given_back initial p (is_among (take n files))) (sym size) ∙ ap (λ l. given_back initial p (is_among l)) (take_all (length files) files (le_refl (length files)))

-- none at a place gives back nothing
pub nowhere_given : (opens : OpenFiles) (p : ℕ) → opens ≡ given_back opens p (is_at None)
nowhere_given opens p = sym (given_alike opens p (is_at None) no_file (λ key. refl) ∙ all_kept opens p)

-- those that are kept are those that are deleted, among the files that the process has open
kept_only_step : (p : ℕ) (among : FileKey → Bool) (item : Item) (key : FileKey) (rest own this : Bool) → among item.file ≡ this
    → (is_at (cond (own && this) (Some item.file) None) key || rest) ≡ true → (rest ≡ true → among key ≡ true) → among key ≡ true
kept_only_step p among item key rest true true is h more = by_same (keys.is_same_file key item.file) refl h
  where
    by_same : (b : Bool) → keys.is_same_file key item.file ≡ b → (b || rest) ≡ true → among key ≡ true
    by_same true same e = ap among (same_file key item.file same) ∙ is
    by_same false same e = more e
kept_only_step p among item key rest true false is h more = more h
kept_only_step p among item key rest false this is h more = more h

kept_only : (places : List (Option Item)) (p : ℕ) (among : FileKey → Bool) (key : FileKey) → is_among (map (file_where (is_given_back p among)) places) key ≡ true → among key ≡ true
kept_only [] p among key h = absurd (false≢true h)
kept_only (None ∷ places) p among key h = kept_only places p among key h
kept_only (Some item ∷ places) p among key h =
    kept_only_step p among item key (is_among (map (file_where (is_given_back p among)) places) key) (item.process == p) (among item.file) refl h (kept_only places p among key)

kept_there_step : (p : ℕ) (among : FileKey → Bool) (item : Item) (key : FileKey) (rest more own same : Bool) → keys.is_same_file item.file key ≡ same → among key ≡ true
    → ((own && same) || more) ≡ true → (more ≡ true → rest ≡ true) → (is_at (cond (own && among item.file) (Some item.file) None) key || rest) ≡ true
kept_there_step p among item key rest more true true is there h so =
    let file : item.file ≡ key = same_file item.file key is in
    ap (λ (f : FileKey). is_at (cond (among f) (Some item.file) None) key || rest) file
    ∙ ap (λ b. is_at (cond b (Some item.file) None) key || rest) there
    ∙ ap (λ b. b || rest) (same_file_back key item.file ∙ is)
kept_there_step p among item key rest more true false is there h so = or_true (is_at (cond (among item.file) (Some item.file) None) key) (so h)
  where
    or_true : (b : Bool) → rest ≡ true → (b || rest) ≡ true
    or_true true e = refl
    or_true false e = e
kept_there_step p among item key rest more false same is there h so = so h

kept_there : (places : List (Option Item)) (p : ℕ) (among : FileKey → Bool) (key : FileKey) → list_any (has_item_of p key) places ≡ true → among key ≡ true
    → is_among (map (file_where (is_given_back p among)) places) key ≡ true
kept_there [] p among key h there = absurd (false≢true h)
kept_there (None ∷ places) p among key h there = kept_there places p among key h there
kept_there (Some item ∷ places) p among key h there =
    kept_there_step p among item key (is_among (map (file_where (is_given_back p among)) places) key) (list_any (has_item_of p key) places) (item.process == p) (keys.is_same_file item.file key) refl there h
    (λ more. kept_there places p among key more there)

kept_alike : (places : List (Option Item)) (p : ℕ) (among : FileKey → Bool) (key : FileKey) → list_any (has_item_of p key) places ≡ true
    → is_among (map (file_where (is_given_back p among)) places) key ≡ among key
kept_alike places p among key has =
    both_ways (is_among (map (file_where (is_given_back p among)) places) key) (among key) (kept_only places p among key) (kept_there places p among key has)

-- so items and locks go alike
item_alike : (p : ℕ) (a b : FileKey → Bool) (item : Item) (own : Bool) → (item.process == p) ≡ own → (own ≡ true → a item.file ≡ b item.file)
    → cond (own && a item.file) None (Some item) ≡ cond (own && b item.file) None (Some item)
item_alike p a b item true is same = ap (λ x. cond x None (Some item)) (same refl)
item_alike p a b item false is same = refl

items_alike : (all places : List (Option Item)) (p : ℕ) (a b : FileKey → Bool) → ((key : FileKey) → list_any (has_item_of p key) all ≡ true → a key ≡ b key)
    → ((key : FileKey) → list_any (has_item_of p key) places ≡ true → list_any (has_item_of p key) all ≡ true) → items_without places p a ≡ items_without places p b
unfolding items_without
items_alike all [] p a b same among = refl
items_alike all (None ∷ places) p a b same among =
    ap (λ (rest : List (Option Item)). None ∷ rest) (items_alike all places p a b same among)
items_alike all (Some item ∷ places) p a b same among =
    ap (λ (x : Option Item). x ∷ map (left_in p a) places)
    (item_alike p a b item (item.process == p) refl (λ own. same item.file (among item.file (ap (λ x. (x && keys.is_same_file item.file item.file) || list_any (has_item_of p item.file) places) own
    ∙ ap (λ x. x || list_any (has_item_of p item.file) places) (file_is_itself item.file)))))
    ∙ ap (λ (rest : List (Option Item)). left_in p b (Some item) ∷ rest) (items_alike all places p a b same (λ key h. among key (or_more ((item.process == p) && keys.is_same_file item.file key) h)))
  where
    or_more : {r : Bool} (x : Bool) → r ≡ true → (x || r) ≡ true
    or_more true h = refl
    or_more false h = h

lock_alike : (p : ℕ) (a b : FileKey → Bool) (lock : RecordLock) (rest other : List RecordLock) (own : Bool) → (lock.owner == p) ≡ own → (own ≡ true → a lock.file ≡ b lock.file) → rest ≡ other
    → cond (not (own && a lock.file)) (lock ∷ rest) rest ≡ cond (not (own && b lock.file)) (lock ∷ other) other
lock_alike p a b lock rest other true is same so =
    ap (λ x. cond (not x) (lock ∷ rest) rest) (same refl) ∙ ap (λ (l : List RecordLock). cond (not (b lock.file)) (lock ∷ l) l) so
lock_alike p a b lock rest other false is same so = ap (λ (l : List RecordLock). lock ∷ l) so

locks_alike : (places : List (Option Item)) (locks : List RecordLock) (p : ℕ) (a b : FileKey → Bool) → ((key : FileKey) → list_any (has_item_of p key) places ≡ true → a key ≡ b key)
    → list_all (has_owners_item places) locks ≡ true → locks_without locks p (is_lock_among a) ≡ locks_without locks p (is_lock_among b)
unfolding locks_without
locks_alike places [] p a b same all = refl
locks_alike places (lock ∷ locks) p a b same all =
    let parts = and_parts (has_owners_item places lock) (list_all (has_owners_item places) locks) all in
    lock_alike p a b lock (locks_without locks p (is_lock_among a)) (locks_without locks p (is_lock_among b)) (lock.owner == p) refl
    (λ own. same lock.file (ap (λ q. list_any (has_item_of q lock.file) places) (sym (eqb-true lock.owner p own)) ∙ parts.0))
    (locks_alike places locks p a b same parts.1)

pub deleted_given : (opens : OpenFiles) (p : ℕ) (among : FileKey → Bool) → AreOpen opens
    → given_back opens p (is_among (map (file_where (is_given_back p among)) opens.items)) ≡ given_back opens p among
unfolding given_back
deleted_given opens p among sound =
    let kept : FileKey → Bool = is_among (map (file_where (is_given_back p among)) opens.items) in
    ap (λ items. record { items = items; locks = locks_without opens.locks p (is_lock_among kept) })
    (items_alike opens.items opens.items p kept among (kept_alike opens.items p among) (λ key h. h))
    ∙ ap (λ locks. record { items = items_without opens.items p among; locks = locks })
    (locks_alike opens.items opens.locks p kept among (kept_alike opens.items p among) sound.owned)
