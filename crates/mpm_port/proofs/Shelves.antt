-- What finding and replacing by a place says of the contents of a name and of the name of a drive.
use Rattle.std.proofs.Common.{◌≡◌, ◌≢◌, ℕ, suc, ◌+◌, ◌*◌, take, drop, length-append, length-take, length-drop, ◌<◌, ◌≤◌, Bool, true, false, not, cond, List, [], ◌∷◌, ◌++◌, Some, None, length, get_or, set, option_map, option_and_then, refl, ap, sym, subst, arith}
use Rattle.std.specs.List.{find, position_or_len}
use Rattle.std.specs.Str.{bytes_eq}
use Rattle.std.proofs.lemmas.List.Quantifiers.{position-Some}
use Rattle.std.proofs.lemmas.Option.{gets}
use Rattle.std.proofs.lemmas.List.Folds.{find_at}
use Rattle.std.proofs.lemmas.Slice.Eq.{bytes_eq-Decides}
use Rattle.std.proofs.lemmas.Bool.{false_from_ne_true}
use Rattle.std.proofs.lemmas.Bool.Decides.{nat_tests}
use Rattle.mpm_port.specs.Disks.{with_sector}
use Rattle.mpm_port.specs.Named.{with_item, is_named, contents_of, with_contents, is_of, name_of_drive, with_drive}
use Rattle.mpm_port.specs.declared.named.Named.{Named}
use Rattle.mpm_port.specs.declared.links.Link.{Link}

-- ---- one more item, by its place

set_step : {X : Type 0} (b : Bool) (x y : X) (xs ys : List X) (n : ℕ) → (n < length xs → ys ≡ set xs n y) → cond (not b) (1 + n) 0 < length (x ∷ xs) → cond b (y ∷ xs) (x ∷ ys) ≡ set (x ∷ xs) (cond (not b) (1 + n) 0) y
set_step true x y xs ys n h below = refl
set_step false x y xs ys n h below =
    let e : 1 + n ≡ suc n = omega arith in rw e (ap (λ zs. x ∷ zs) (h (omega arith)))

push_step : {X : Type 0} (b : Bool) (x y : X) (xs ys : List X) (n : ℕ) → (length xs ≤ n → ys ≡ xs ++ y ∷ []) → length (x ∷ xs) ≤ cond (not b) (1 + n) 0 → cond b (y ∷ xs) (x ∷ ys) ≡ x ∷ (xs ++ y ∷ [])
push_step true x y xs ys n h above = absurd (omega arith)
push_step false x y xs ys n h above = ap (λ zs. x ∷ zs) (h (omega arith))

pub with_item_set : {X : Type 0} (p : X → Bool) (items : List X) (item : X) → position_or_len p items < length items → with_item p items item ≡ set items (position_or_len p items) item
unfolding with_item
with_item_set p [] item h = absurd (omega arith)
with_item_set p (x ∷ xs) item h =
    set_step (p x) x item xs (with_item p xs item) (position_or_len p xs) (with_item_set p xs item) h

pub with_item_push : {X : Type 0} (p : X → Bool) (items : List X) (item : X) → length items ≤ position_or_len p items → with_item p items item ≡ items ++ item ∷ []
unfolding with_item
with_item_push p [] item h = refl
with_item_push p (x ∷ xs) item h =
    push_step (p x) x item xs (with_item p xs item) (position_or_len p xs) (with_item_push p xs item) h

-- ---- what is found after one more item

here_step : {X : Type 0} (p : X → Bool) (b : Bool) (x y : X) (ys xs : List X) → p x ≡ b → p y ≡ true → find p ys ≡ Some y → find p (cond b (y ∷ xs) (x ∷ ys)) ≡ Some y
here_step p true x y ys xs px py h = rw py refl
here_step p false x y ys xs px py h = rw px h

find_here : {X : Type 0} (p : X → Bool) (items : List X) (item : X) → p item ≡ true → find p (with_item p items item) ≡ Some item
unfolding with_item
find_here p [] item h = rw h refl
find_here p (x ∷ xs) item h =
    here_step p (p x) x item (with_item p xs item) xs refl h (find_here p xs item h)

other_step : {X : Type 0} (q : X → Bool) (b : Bool) (x y : X) (ys xs : List X) → (b ≡ true → q x ≡ false) → q y ≡ false → find q ys ≡ find q xs → find q (cond b (y ∷ xs) (x ∷ ys)) ≡ cond (q x) (Some x) (find q xs)
other_step q true x y ys xs qx qy h = rw (qy, qx refl) refl
other_step q false x y ys xs qx qy h = rw h refl

find_other : {X : Type 0} (p q : X → Bool) (items : List X) (item : X) → ((x : X) → p x ≡ true → q x ≡ false) → q item ≡ false → find q (with_item p items item) ≡ find q items
unfolding with_item
find_other p q [] item apart h = rw h refl
find_other p q (x ∷ xs) item apart h =
    other_step q (p x) x item (with_item p xs item) xs (apart x) h (find_other p q xs item apart h)

-- ---- names and their contents

pub contents_of_place : (items : List Named) (name : List ℕ) (i : ℕ) (d : Named) → position_or_len (is_named name) items ≡ i → i < length items → contents_of items name ≡ Some (get_or items i d).contents
unfolding contents_of
contents_of_place items name i d e h = grind (arith, find_at, gets)

pub contents_of_none : (items : List Named) (name : List ℕ) → length items ≤ position_or_len (is_named name) items → contents_of items name ≡ None
unfolding contents_of
contents_of_none items name h = grind (arith, find_at, gets)

-- the contents that were put are there
pub contents_of_here : (items : List Named) (name contents : List ℕ) → contents_of (with_contents items name contents) name ≡ Some contents
unfolding contents_of with_contents
contents_of_here items name contents =
    ap (option_map (λ item. item.contents)) (find_here (is_named name) items _ ((bytes_eq-Decides name name).1 refl))

not_named : (name other : List ℕ) → other ≢ name → bytes_eq name other ≡ false
not_named name other ne = false_from_ne_true _ (λ h. ne (sym ((bytes_eq-Decides name other).0 h)))

not_both : (name other : List ℕ) → other ≢ name → (x : Named) → is_named name x ≡ true → is_named other x ≡ false
not_both name other ne x h =
    false_from_ne_true _ (λ k. ne (grind (arith, bytes_eq-Decides x.name name, bytes_eq-Decides x.name other)))

-- and those of every other name stay
pub contents_of_other : (items : List Named) (name contents other : List ℕ) → other ≢ name → contents_of (with_contents items name contents) other ≡ contents_of items other
unfolding contents_of with_contents
contents_of_other items name contents other ne =
    ap (option_map (λ item. item.contents)) (find_other (is_named name) (is_named other) items _ (not_both name other ne) (not_named name other ne))

-- ---- drives and their names

pub name_of_place : (links : List Link) (drive i : ℕ) (d : Link) → position_or_len (is_of drive) links ≡ i → i < length links → name_of_drive links drive ≡ Some (get_or links i d).name
unfolding name_of_drive
name_of_place links drive i d e h = grind (arith, find_at, gets)

pub name_of_none : (links : List Link) (drive : ℕ) → length links ≤ position_or_len (is_of drive) links → name_of_drive links drive ≡ None
unfolding name_of_drive
name_of_none links drive h = grind (arith, find_at, gets)

-- where no drive is attached none has a name
pub no_name : (drive : ℕ) → name_of_drive [] drive ≡ None
unfolding name_of_drive
no_name drive = refl

-- the name that a drive was attached by is its name
pub name_of_here : (links : List Link) (drive : ℕ) (name : List ℕ) → name_of_drive (with_drive links drive name) drive ≡ Some name
unfolding name_of_drive with_drive
name_of_here links drive name =
    ap (option_map (λ link. link.name)) (find_here (is_of drive) links _ (grind (arith, nat_tests)))

not_of_both : (drive other : ℕ) → other ≢ drive → (x : Link) → is_of drive x ≡ true → is_of other x ≡ false
not_of_both drive other ne x h = grind (arith, nat_tests)

-- and that of every other drive stays
pub name_of_other : (links : List Link) (drive : ℕ) (name : List ℕ) (other : ℕ) → other ≢ drive → name_of_drive (with_drive links drive name) other ≡ name_of_drive links other
unfolding name_of_drive with_drive
name_of_other links drive name other ne =
    ap (option_map (λ link. link.name)) (find_other (is_of drive) (is_of other) links _ (not_of_both drive other ne) (grind (arith, nat_tests)))

-- ---- other contents of a name that is there

pub with_same_name : (items : List Named) (name contents : List ℕ) (i : ℕ) (d : Named) → position_or_len (is_named name) items ≡ i → i < length items → with_contents items name contents ≡ set items i (record (get_or items i d) { contents = contents })
unfolding with_contents
with_same_name items name contents i d e h =
    let at : is_named name (get_or items i d) ≡ true = (position-Some (is_named name) items i d (grind (arith, nat_tests))).1 in
    let same : (get_or items i d).name ≡ name = (bytes_eq-Decides _ _).0 at in
    subst (λ (j : ℕ). with_item (is_named name) items (record { name = name; contents = contents }) ≡ set items j (record (get_or items i d) { contents = contents })) e
    (subst (λ (n : List ℕ). with_item (is_named name) items (record { name = name; contents = contents }) ≡ set items (position_or_len (is_named name) items) (record { name = n; contents = contents })) (sym same)
    (with_item_set (is_named name) items _ (omega arith)))

length_with_sector : (image : List ℕ) (sector : ℕ) (bytes : List ℕ) → length bytes ≡ 128 → 128 * sector + 128 ≤ length image → length (with_sector image sector bytes) ≡ length image
length_with_sector image sector bytes h k =
    omega (arith, length-append (take (128 * sector) image) (bytes ++ drop (128 * sector + 128) image), length-append bytes (drop (128 * sector + 128) image), length-take (128 * sector) image, length-drop (128 * sector + 128) image)

length_kept : (items : List Named) (name old contents other : List ℕ) → contents_of items name ≡ Some old → length contents ≡ length old → option_map length (contents_of (with_contents items name contents) other) ≡ option_map length (contents_of items other)
length_kept items name old contents other h k =
    elim (bytes_eq other name) as (λ b. b ≡ bytes_eq other name → option_map length (contents_of (with_contents items name contents) other) ≡ option_map length (contents_of items other)) [
      | true ↦ λ e. let same : name ≡ other = sym ((bytes_eq-Decides other name).0 (sym e)) in
          subst (λ (n : List ℕ). option_map length (contents_of (with_contents items name contents) n) ≡ option_map length (contents_of items n)) same
          (rw (contents_of_here, h, k) refl)
      | false ↦ λ e. ap (option_map length) (contents_of_other items name contents other (λ s. grind (arith, e, s, bytes_eq-Decides other name)))
    ] refl

-- a write to a sector keeps the size of each drive
pub sizes_kept : (items : List Named) (links : List Link) (name image : List ℕ) (sector : ℕ) (bytes : List ℕ) (drive : ℕ) → contents_of items name ≡ Some image → length bytes ≡ 128 → 128 * sector + 128 ≤ length image → option_map length (option_and_then (contents_of (with_contents items name (with_sector image sector bytes))) (name_of_drive links drive)) ≡ option_map length (option_and_then (contents_of items) (name_of_drive links drive))
sizes_kept items links name image sector bytes drive h k inside =
    elim (name_of_drive links drive) as (λ n. option_map length (option_and_then (contents_of (with_contents items name (with_sector image sector bytes))) n) ≡ option_map length (option_and_then (contents_of items) n)) [
      | None ↦ refl
      | Some n ↦ length_kept items name image (with_sector image sector bytes) n h (length_with_sector image sector bytes k inside)
    ]
