-- The least of the entries that are sought.
use Rattle.std.proofs.Common.{◌≡◌, ℕ, ◌+◌, ◌<◌, ◌==◌, Bool, true, false, ◌&&◌, ◌||◌, List, [], ◌∷◌, ◌++◌, Option, Some, None, length, get_or, take, refl, sym, ap, subst, ◌∙◌, arith, add-one}
use Rattle.std.specs.Prelude.{if◌then◌else◌}
use Rattle.std.specs.List.{list_any}
use Rattle.std.specs.declared.cmp.Ordering.{Ordering}
use Rattle.std.specs.declared.cmp.Ordering.TheVariants.{Less, Equal, Greater}
use Rattle.std.specs.Ordering.{is_lt, nat_cmp, ordering_then}
use Rattle.std.specs.Cmp.{tied_itself}
use Rattle.std.specs.Cmp.Lexicographic.{slice_cmp}
use Rattle.std.proofs.Math.Seq.{take-suc}
use Rattle.std.proofs.lemmas.Bool.{false≢true, both_ways, false_from_ne_true, eqb-true, or_parts, or_from, and_parts, and_from}
use Rattle.std.proofs.lemmas.List.{length_push, length-take-le, get_or_push, get_or_append_left}
use Rattle.std.proofs.lemmas.List.Folds.{list_any-append}
use Rattle.std.proofs.Math.Bool.{and-false}
use Rattle.mpm_base.specs.declared.kind.Kind.{Kind}
use Rattle.mpm_names.specs.Matching.{does_match}
use Rattle.mpm_dirent.specs.declared.kinds.Entry.{Entry}
use Rattle.mpm_dirent.specs.declared.kinds.Entry.TheVariants.{Free, File, Xfcb, Label, Kept}
use Rattle.mpm_dirent.specs.declared.kinds.FileEntry.{FileEntry}
use Rattle.mpm_dirent.specs.Names.{plain}
use Rattle.mpm_dirent.proofs.PlainNames.{plain_twice}
use Rattle.mpm_mount.specs.declared.searching.Found.{Found}
use Rattle.mpm_mount.specs.declared.searching.Search.{Search}
use Rattle.mpm_mount.specs.declared.slots.EntryName.{EntryName}
use Rattle.mpm_mount.specs.Drives.{entry_cmp, entry_number}
use Rattle.mpm_mount.specs.Faults.{extent_of, name_of}
use Rattle.mpm_mount.specs.Searching.{found_name, is_above, is_sought, is_target, is_target_below, IsLeast, IsNext, is_lesser, lesser}
use Rattle.mpm_mount.proofs.Orders.{entry_total, same_entry}

-- lists of one length, and one number more in each
then_assoc : (a b c : Ordering) → ordering_then (ordering_then a b) c ≡ ordering_then a (ordering_then b c)
then_assoc Less b c = refl
then_assoc Equal b c = refl
then_assoc Greater b c = refl

then_equal : (a : Ordering) → ordering_then a Equal ≡ a
then_equal Less = refl
then_equal Equal = refl
then_equal Greater = refl

cmp_push : (xs ys : List ℕ) (m n : ℕ) → length xs ≡ length ys → slice_cmp nat_cmp (xs ++ (m ∷ [])) (ys ++ (n ∷ [])) ≡ ordering_then (slice_cmp nat_cmp xs ys) (nat_cmp m n)
cmp_push [] [] m n same = then_equal (nat_cmp m n)
cmp_push [] (y ∷ ys) m n same = absurd (omega arith)
cmp_push (x ∷ xs) [] m n same = absurd (omega arith)
cmp_push (x ∷ xs) (y ∷ ys) m n same =
    ap (ordering_then (nat_cmp x y)) (cmp_push xs ys m n (omega arith))
    ∙ sym (then_assoc (nat_cmp x y) (slice_cmp nat_cmp xs ys) (nat_cmp m n))

-- the order is that of the fields, one after the other
pub by_fields : (a b : EntryName) → length a.name ≡ length b.name
    → entry_cmp a b ≡ ordering_then (nat_cmp a.user b.user) (ordering_then (slice_cmp nat_cmp a.name b.name) (nat_cmp a.number b.number))
unfolding entry_cmp
by_fields a b same = ap (ordering_then (nat_cmp a.user b.user)) (cmp_push a.name b.name a.number b.number same)

-- what was found has the name of its entry
found_is : (kind : Kind) (user : ℕ) (found : Found) (f : FileEntry) → user ≡ f.user → found.name ≡ plain f.name → found.extent ≡ extent_of f
    → found_name kind user found ≡ name_of kind f
found_is kind user found f same name extent =
    same_entry (found_name kind user found) (name_of kind f) same (ap plain name ∙ plain_twice f.name) (ap (λ (e : ℕ). entry_number kind e) extent)

of_user : (search : Search) (name : EntryName) → is_sought search name ≡ true → name.user ≡ search.user
of_user search name sought =
    eqb-true name.user search.user (and_parts (name.user == search.user) (does_match search.pattern name.name && is_above search.last name) sought).0

pub less_of : (r : Ordering) → is_lt r ≡ true → r ≡ Less
less_of Less lt = refl
less_of Equal lt = absurd (false≢true lt)
less_of Greater lt = absurd (false≢true lt)

pub less_through : (a b c : EntryName) → is_lt (entry_cmp a b) ≡ true → is_lt (entry_cmp b c) ≡ true → is_lt (entry_cmp a c) ≡ true
less_through a b c one two = ap is_lt (entry_total.trans a b c (less_of (entry_cmp a b) one) (less_of (entry_cmp b c) two))

pub not_below_itself : (a : EntryName) → is_lt (entry_cmp a a) ≡ false
not_below_itself a = ap is_lt (tied_itself entry_total a)

-- a test that fewer pass
pub fewer : (p q : Entry → Bool) → ((e : Entry) → p e ≡ true → q e ≡ true) → (entries : List Entry) → list_any q entries ≡ false → list_any p entries ≡ false
fewer p q so [] none = refl
fewer p q so (e ∷ entries) none =
    let parts = or_parts (q e) (list_any q entries) none in
    or_from (p e) (list_any p entries) (false_from_ne_true (p e) (λ passes. both_ways (q e) parts.0 (so e passes))) (fewer p q so entries parts.1)

none_more : (p : Entry → Bool) (entries : List Entry) (e : Entry) → list_any p entries ≡ false → p e ≡ false → list_any p (entries ++ (e ∷ [])) ≡ false
none_more p entries e none here = list_any-append p entries (e ∷ []) ∙ or_from (list_any p entries) (p e || false) none (or_from (p e) false here refl)

below_sought : (kind : Kind) (search : Search) (name : EntryName) (e : Entry) → is_target_below kind search name e ≡ true → is_target kind search e ≡ true
below_sought kind search name (File f) has = (and_parts (is_sought search (name_of kind f)) (is_lt (entry_cmp (name_of kind f) name)) has).0
below_sought kind search name Free has = absurd (false≢true has)
below_sought kind search name (Xfcb x) has = absurd (false≢true has)
below_sought kind search name (Label l) has = absurd (false≢true has)
below_sought kind search name (Kept bytes) has = absurd (false≢true has)

below_less : (kind : Kind) (search : Search) (a b : EntryName) → is_lt (entry_cmp a b) ≡ true → (e : Entry) → is_target_below kind search a e ≡ true → is_target_below kind search b e ≡ true
below_less kind search a b less (File f) has =
    let parts = and_parts (is_sought search (name_of kind f)) (is_lt (entry_cmp (name_of kind f) a)) has in
    and_from (is_sought search (name_of kind f)) (is_lt (entry_cmp (name_of kind f) b)) parts.0 (less_through (name_of kind f) a b parts.1 less)
below_less kind search a b less Free has = absurd (false≢true has)
below_less kind search a b less (Xfcb x) has = absurd (false≢true has)
below_less kind search a b less (Label l) has = absurd (false≢true has)
below_less kind search a b less (Kept bytes) has = absurd (false≢true has)

-- one entry more, which doesn't change what was found
abbrev IsPassed : Kind → Search → List Entry → Option Found → Entry → Type 0
IsPassed kind search entries None e = is_target kind search e ≡ false
IsPassed kind search entries (Some found) e = (h : IsLeast kind search entries found) → is_target_below kind search (name_of kind h.file) e ≡ false

passed : (kind : Kind) (search : Search) (entries : List Entry) (least : Option Found) (e : Entry) → IsNext kind search entries least → IsPassed kind search entries least e
    → IsNext kind search (entries ++ (e ∷ [])) least
passed kind search entries None e none here = none_more (is_target kind search) entries e none here
passed kind search entries (Some found) e h here = record {
  file = h.file;
  within = omega (arith, h.within, length_push entries e);
  entry = get_or_append_left entries (e ∷ []) Free found.slot h.within ∙ h.entry;
  name = h.name;
  extent = h.extent;
  sought = h.sought;
  least = none_more (is_target_below kind search (name_of kind h.file)) entries e h.least (here h);
}

-- no file's entry
other_passed : (kind : Kind) (search : Search) (entries : List Entry) (least : Option Found) (e : Entry) → is_target kind search e ≡ false → IsPassed kind search entries least e
other_passed kind search entries None e none = none
other_passed kind search entries (Some found) e none = λ h.
    false_from_ne_true (is_target_below kind search (name_of kind h.file) e) (λ has. both_ways (is_target kind search e) none (below_sought kind search (name_of kind h.file) e has))

either : (b x y : Bool) → (b ≡ true → y ≡ x) → (b && x) ≡ false → (b && y) ≡ false
either true x y same none = same refl ∙ none
either false x y same none = refl

unsought : (b : Bool) → (b && true) ≡ false → b ≡ false
unsought true none = none
unsought false none = refl

-- a file's entry that isn't sought, or isn't less
file_passed : (kind : Kind) (search : Search) (entries : List Entry) (least : Option Found) (f : FileEntry)
    → (is_sought search (name_of kind f) && is_lesser kind (name_of kind f) least) ≡ false → IsPassed kind search entries least (File f)
file_passed kind search entries None f none = unsought (is_sought search (name_of kind f)) none
file_passed kind search entries (Some found) f none = λ h.
    either (is_sought search (name_of kind f)) (is_lesser kind (name_of kind f) (Some found)) (is_lt (entry_cmp (name_of kind f) (name_of kind h.file)))
    (λ sought. ap (λ n. is_lt (entry_cmp (name_of kind f) n))
    (sym (found_is kind f.user found h.file (of_user search (name_of kind f) sought ∙ sym (of_user search (name_of kind h.file) h.sought)) h.name h.extent))) none

-- a file's entry that is sought and less than what was found
none_below : (kind : Kind) (search : Search) (entries : List Entry) (least : Option Found) (f : FileEntry) → IsNext kind search entries least
    → is_sought search (name_of kind f) ≡ true → is_lesser kind (name_of kind f) least ≡ true → list_any (is_target_below kind search (name_of kind f)) entries ≡ false
none_below kind search entries None f none sought lesser =
    fewer (is_target_below kind search (name_of kind f)) (is_target kind search) (below_sought kind search (name_of kind f)) entries none
none_below kind search entries (Some found) f h sought lesser =
    let same = found_is kind f.user found h.file (of_user search (name_of kind f) sought ∙ sym (of_user search (name_of kind h.file) h.sought)) h.name h.extent in
    fewer (is_target_below kind search (name_of kind f)) (is_target_below kind search (name_of kind h.file))
    (below_less kind search (name_of kind f) (name_of kind h.file) (ap (λ n. is_lt (entry_cmp (name_of kind f) n)) (sym same) ∙ lesser)) entries h.least

taken : (kind : Kind) (search : Search) (entries : List Entry) (least : Option Found) (f : FileEntry) (slot : ℕ) → IsNext kind search entries least → length entries ≡ slot
    → is_sought search (name_of kind f) ≡ true → is_lesser kind (name_of kind f) least ≡ true
    → IsLeast kind search (entries ++ (File f ∷ [])) (record { name = plain f.name; extent = extent_of f; slot = slot })
taken kind search entries least f slot so size sought lesser = record {
  file = f;
  within = omega (arith, length_push entries (File f));
  entry = get_or_push entries (File f) Free slot size;
  name = refl;
  extent = refl;
  sought = sought;
  least = none_more (is_target_below kind search (name_of kind f)) entries (File f) (none_below kind search entries least f so sought lesser)
      (ap (λ b. is_sought search (name_of kind f) && b) (not_below_itself (name_of kind f)) ∙ and-false (is_sought search (name_of kind f)));
}

file_more : (kind : Kind) (search : Search) (entries : List Entry) (least : Option Found) (f : FileEntry) (slot : ℕ) (b : Bool) → IsNext kind search entries least → length entries ≡ slot
    → (is_sought search (name_of kind f) && is_lesser kind (name_of kind f) least) ≡ b
    → IsNext kind search (entries ++ (File f ∷ [])) (if b then Some (record { name = plain f.name; extent = extent_of f; slot = slot }) else least)
file_more kind search entries least f slot true so size is =
    let parts = and_parts (is_sought search (name_of kind f)) (is_lesser kind (name_of kind f) least) is in
    taken kind search entries least f slot so size parts.0 parts.1
file_more kind search entries least f slot false so size is = passed kind search entries least (File f) so (file_passed kind search entries least f is)

one_more : (kind : Kind) (search : Search) (entries : List Entry) (least : Option Found) (slot : ℕ) (e : Entry) → IsNext kind search entries least → length entries ≡ slot
    → IsNext kind search (entries ++ (e ∷ [])) (lesser kind search least slot e)
one_more kind search entries least slot (File f) so size =
    file_more kind search entries least f slot (is_sought search (name_of kind f) && is_lesser kind (name_of kind f) least) so size refl
one_more kind search entries least slot Free so size = passed kind search entries least Free so (other_passed kind search entries least Free refl)
one_more kind search entries least slot (Xfcb x) so size = passed kind search entries least (Xfcb x) so (other_passed kind search entries least (Xfcb x) refl)
one_more kind search entries least slot (Label l) so size = passed kind search entries least (Label l) so (other_passed kind search entries least (Label l) refl)
one_more kind search entries least slot (Kept bytes) so size = passed kind search entries least (Kept bytes) so (other_passed kind search entries least (Kept bytes) refl)

-- the loop, one slot on
pub next_more : (kind : Kind) (search : Search) (entries : List Entry) (slot : ℕ) (least now : Option Found) → IsNext kind search (take slot entries) least → slot < length entries
    → now ≡ lesser kind search least slot (get_or entries slot Free) → IsNext kind search (take (slot + 1) entries) now
next_more kind search entries slot least now so h is =
    let longer : take (slot + 1) entries ≡ take slot entries ++ (get_or entries slot Free ∷ []) = ap (λ (n : ℕ). take n entries) (add-one slot) ∙ take-suc entries slot Free h in
    subst (λ (o : Option Found). IsNext kind search (take (slot + 1) entries) o) (sym is)
    (subst (λ (es : List Entry). IsNext kind search es (lesser kind search least slot (get_or entries slot Free))) (sym longer)
    (one_more kind search (take slot entries) least slot (get_or entries slot Free) so (length-take-le slot entries (omega arith))))

pub as_searched : (kind : Kind) (search other : Search) (entries others : List Entry) (found : Option Found) → search ≡ other → entries ≡ others
    → IsNext kind search entries found → IsNext kind other others found
as_searched kind search other entries others found same all so =
    subst (λ (s : Search). IsNext kind s others found) same (subst (λ (es : List Entry). IsNext kind search es found) all so)
