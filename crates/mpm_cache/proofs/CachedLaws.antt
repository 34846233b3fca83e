-- What the changes of a list of cached sectors are to look-ups.
use Rattle.std.proofs.Common.{◌≡◌, ◌⊎◌, ℕ, zero, suc, ◌-◌, ◌==◌, Bool, true, false, cond, List, [], ◌∷◌, take, Option, Some, None, IfSome, IfNone, IsSome, is_some, if◌then◌else◌, Result, Ok, Err, OnOk, OnErr, IsOk, refl, sym, ap, subst, ◌∙◌, inl, inr}
use Rattle.std.specs.Cmp.{IsEquivalence}
use Rattle.std.specs.List.{IsDistinct}
use Rattle.std.specs.Map.{keys_of, lookup, lookup_entry, remove_entry}
use Rattle.std.specs.Option.{option_map_or}
use Rattle.std.proofs.lemmas.Bool.{false≢true, eqb-true, eq-eqb, false_from_ne_true, and_parts, and_from}
use Rattle.std.proofs.lemmas.Map.{lookup-remove_entry}
use Rattle.lru.specs.LruCache.{LruCache, lru_cache, promoted, put_entries}
use Rattle.lru.proofs.CallerLemmas.{Contains-lookup_entry}
use Rattle.mpm_base.proofs.Tests.{one_test}
use Rattle.mpm_cache.specs.declared.cache.SectorPlace.{SectorPlace}
use Rattle.mpm_cache.specs.Cached.{is_at, cached_at, used, put_first, IsPut, taken_out, SameCached, StaysCached, CachesSector, Forgets}

abbrev pub same_place : SectorPlace → SectorPlace → Bool
same_place x y = is_at x.drive x.sector y

abbrev pub at : ℕ → ℕ → SectorPlace
at drive sector = record { drive = drive; sector = sector }

-- two numbers each are the same
pub known_same : (d s o p : ℕ) → is_at d s (at o p) ≡ true → (d ≡ o) × (s ≡ p)
known_same d s o p h = let two = and_parts (d == o) (s == p) h in (eqb-true d o two.0, eqb-true s p two.1)

pub same_known : (d s o p : ℕ) → d ≡ o → s ≡ p → is_at d s (at o p) ≡ true
same_known d s o p h k = and_from (d == o) (s == p) (eq-eqb d o h) (eq-eqb s p k)

swapped : (x y : SectorPlace) → same_place x y ≡ true → same_place y x ≡ true
swapped x y h = let two = known_same x.drive x.sector y.drive y.sector h in same_known y.drive y.sector x.drive x.sector (sym two.0) (sym two.1)

through : (x y z : SectorPlace) → same_place x y ≡ true → same_place y z ≡ true → same_place x z ≡ true
through x y z h k =
    let one = known_same x.drive x.sector y.drive y.sector h in
    let two = known_same y.drive y.sector z.drive z.sector k in
    same_known x.drive x.sector z.drive z.sector (one.0 ∙ two.0) (one.1 ∙ two.1)

pub same_place_laws : IsEquivalence same_place
same_place_laws = record {
  refl = λ x. same_known x.drive x.sector x.drive x.sector refl refl;
  symm = λ x y. one_test (same_place x y) (same_place y x) (swapped x y) (swapped y x);
  congr = λ x y z h. one_test (same_place x z) (same_place y z) (λ k. through y x z (swapped x y h) k) (λ k. through x y z h k);
}

-- a place that is one sector is no other
apart_at : (d s o p : ℕ) (x : SectorPlace) → is_at d s (at o p) ≡ false → is_at d s x ≡ true → is_at o p x ≡ false
apart_at d s o p x apart is = false_from_ne_true (is_at o p x) (λ other. false≢true (sym apart ∙ through (at d s) x (at o p) is (swapped (at o p) x other)))

-- without the entry of one sector the others are found as before
found_without : (d s o p : ℕ) (es : List (SectorPlace × List ℕ)) → is_at d s (at o p) ≡ false → lookup (is_at o p) (remove_entry (is_at d s) es) ≡ lookup (is_at o p) es
found_without d s o p [] apart = refl
found_without d s o p (e ∷ es) apart = by_test (is_at d s e.0) refl (found_without d s o p es apart)
  where
    by_test : (b : Bool) → is_at d s e.0 ≡ b → lookup (is_at o p) (remove_entry (is_at d s) es) ≡ lookup (is_at o p) es
        → lookup (is_at o p) (cond b es (e ∷ remove_entry (is_at d s) es)) ≡ cond (is_at o p e.0) (Some e.1) (lookup (is_at o p) es)
    by_test true is rest = sym (ap (λ (c : Bool). cond c (Some e.1) (lookup (is_at o p) es)) (apart_at d s o p e.0 apart is))
    by_test false is rest = ap (λ (found : Option (List ℕ)). cond (is_at o p e.0) (Some e.1) found) rest

-- what is found among the first is found among all
found_first : (o p n : ℕ) (es : List (SectorPlace × List ℕ)) (kept : List ℕ) → lookup (is_at o p) (take n es) ≡ Some kept → lookup (is_at o p) es ≡ Some kept
found_first o p zero es kept h = absurd (cc)
found_first o p (suc n) [] kept h = h
found_first o p (suc n) (e ∷ es) kept h = by_test (is_at o p e.0) (λ rest. found_first o p n es kept rest) h
  where
    by_test : (b : Bool) → (lookup (is_at o p) (take n es) ≡ Some kept → lookup (is_at o p) es ≡ Some kept) → cond b (Some e.1) (lookup (is_at o p) (take n es)) ≡ Some kept → cond b (Some e.1) (lookup (is_at o p) es) ≡ Some kept
    by_test true on h = h
    by_test false on h = on h

-- what holds of what is found
pub if_found : (o : Option (List ℕ)) (P : List ℕ → Type 0) → ((kept : List ℕ) → o ≡ Some kept → P kept) → IfSome o P
if_found None P each = tt
if_found (Some kept) P each = each kept refl

-- a sector is cached no more
pub forgets : (d s : ℕ) (es new : List (SectorPlace × List ℕ)) → IsDistinct same_place (keys_of es) → new ≡ remove_entry (is_at d s) es → Forgets d s es new
unfolding cached_at
forgets d s es new distinct is =
    let removed : Forgets d s es (remove_entry (is_at d s) es) = record {
      here = lookup-remove_entry same_place_laws (is_at d s) (λ x y h. same_place_laws.congr (at d s) x y h) (at d s) es distinct
          ∙ ap (λ (b : Bool). cond b None (lookup (is_at d s) es)) (same_place_laws.refl (at d s));
      others = λ other apart. found_without d s other.drive other.sector es apart;
    } in
    subst (λ (l : List (SectorPlace × List ℕ)). Forgets d s es l) (sym is) removed

-- a sector is cached with these bytes
after_put : (d s n : ℕ) (bytes : List ℕ) (es : List (SectorPlace × List ℕ)) → Option (SectorPlace × List ℕ) → List (SectorPlace × List ℕ)
after_put d s n bytes es o = option_map_or (λ e. (e.0, bytes) ∷ remove_entry (is_at d s) es) o ((at d s, bytes) ∷ take n es)

head_here : (d s : ℕ) (x : SectorPlace) (bytes : List ℕ) (rest : List (SectorPlace × List ℕ)) → is_at d s x ≡ true → lookup (is_at d s) ((x, bytes) ∷ rest) ≡ Some bytes
head_here d s x bytes rest is = ap (λ (b : Bool). cond b (Some bytes) (lookup (is_at d s) rest)) is

head_other : (d s o p : ℕ) (x : SectorPlace) (bytes : List ℕ) (rest : List (SectorPlace × List ℕ)) → is_at d s (at o p) ≡ false → is_at d s x ≡ true
    → lookup (is_at o p) ((x, bytes) ∷ rest) ≡ lookup (is_at o p) rest
head_other d s o p x bytes rest apart is = ap (λ (b : Bool). cond b (Some bytes) (lookup (is_at o p) rest)) (apart_at d s o p x apart is)

some_same : (x : Option (List ℕ)) (a b : List ℕ) → x ≡ Some a → x ≡ Some b → a ≡ b
some_same None a b h k = absurd (cc)
some_same (Some c) a b h k = cc

-- of a sector whose entry isn't there nothing is cached
no_value : (d s : ℕ) (es : List (SectorPlace × List ℕ)) → lookup_entry (is_at d s) es ≡ None → lookup (is_at d s) es ≡ None
no_value d s [] h = refl
no_value d s (f ∷ es) h = by_test (is_at d s f.0) (λ rest. no_value d s es rest) h
  where
    by_test : (b : Bool) → (lookup_entry (is_at d s) es ≡ None → lookup (is_at d s) es ≡ None) → cond b (Some f) (lookup_entry (is_at d s) es) ≡ None → cond b (Some f.1) (lookup (is_at d s) es) ≡ None
    by_test true on h = absurd (cc)
    by_test false on h = on h

-- what is found among the first is found so among all
first_same : (o p n : ℕ) (es : List (SectorPlace × List ℕ)) (found : Option (List ℕ)) → lookup (is_at o p) (take n es) ≡ found → IsSome found → lookup (is_at o p) (take n es) ≡ lookup (is_at o p) es
first_same o p n es None h some = absurd (false≢true some)
first_same o p n es (Some kept) h some = h ∙ sym (found_first o p n es kept h)

-- nothing is cached of a sector that is taken for one of which something is
none_there : (o : Option (List ℕ)) → o ≡ None → IsSome o → ⊥
none_there None h some = false≢true some
none_there (Some kept) h some = absurd (cc)

keeps_by : (d s n : ℕ) (bytes : List ℕ) (es : List (SectorPlace × List ℕ)) (o : Option (SectorPlace × List ℕ)) → n ≡ 255 → lookup_entry (is_at d s) es ≡ o → CachesSector d s bytes es (after_put d s n bytes es o)
unfolding after_put cached_at StaysCached
keeps_by d s n bytes es None few none = record {
  here = if_found _ (λ kept. kept ≡ bytes) (λ kept h. some_same _ kept bytes h (head_here d s (at d s) bytes (take n es) (same_place_laws.refl (at d s))));
  others = λ other apart. if_found _ (λ kept. lookup (is_at other.drive other.sector) es ≡ Some kept)
      (λ kept h. found_first other.drive other.sector n es kept
      (sym (head_other d s other.drive other.sector (at d s) bytes (take n es) apart (same_place_laws.refl (at d s))) ∙ h));
  stays = λ other apart room. head_other d s other.drive other.sector (at d s) bytes (take n es) apart (same_place_laws.refl (at d s)) ∙ by_room other room;
}
  where
    by_room : (other : SectorPlace) → IsSome (lookup (is_at d s) es) ⊎ IsSome (lookup (is_at other.drive other.sector) (take 255 es))
        → lookup (is_at other.drive other.sector) (take n es) ≡ lookup (is_at other.drive other.sector) es
    by_room other (inl some) = absurd (none_there _ (no_value d s es none) some)
    by_room other (inr some) =
        subst (λ (m : ℕ). lookup (is_at other.drive other.sector) (take m es) ≡ lookup (is_at other.drive other.sector) es) (sym few)
        (first_same other.drive other.sector 255 es (lookup (is_at other.drive other.sector) (take 255 es)) refl some)
keeps_by d s n bytes es (Some e) few there =
    let is : is_at d s e.0 ≡ true = (Contains-lookup_entry (is_at d s) es e there).1 in record {
      here = if_found _ (λ kept. kept ≡ bytes) (λ kept h. some_same _ kept bytes h (head_here d s e.0 bytes (remove_entry (is_at d s) es) is));
      others = λ other apart. if_found _ (λ kept. lookup (is_at other.drive other.sector) es ≡ Some kept)
          (λ kept h. sym (found_without d s other.drive other.sector es apart)
          ∙ sym (head_other d s other.drive other.sector e.0 bytes (remove_entry (is_at d s) es) apart is) ∙ h);
      stays = λ other apart room.
          head_other d s other.drive other.sector e.0 bytes (remove_entry (is_at d s) es) apart is ∙ found_without d s other.drive other.sector es apart;
    }

pub keeps : (d s : ℕ) (bytes : List ℕ) (old : LruCache SectorPlace (List ℕ)) (new : List (SectorPlace × List ℕ)) → old.cap ≡ 256 → new ≡ put_entries same_place old (at d s) bytes
    → CachesSector d s bytes old.entries new
unfolding after_put
keeps d s bytes old new room is =
    subst (λ (l : List (SectorPlace × List ℕ)). CachesSector d s bytes old.entries l) (sym is)
    (keeps_by d s (old.cap - 1) bytes old.entries (lookup_entry (is_at d s) old.entries) (ap (λ (n : ℕ). n - 1) room) refl)

-- where there was no memory for a new sector it isn't cached
pub keeps_nothing : (d s : ℕ) (bytes : List ℕ) (es new : List (SectorPlace × List ℕ)) → (IsSome (lookup (is_at d s) es) → ⊥) → new ≡ es → CachesSector d s bytes es new
unfolding cached_at
keeps_nothing d s bytes es new none is =
    let same : CachesSector d s bytes es es = record {
      here = if_found _ (λ kept. kept ≡ bytes) (λ kept h. absurd (none (subst (λ (o : Option (List ℕ)). IsSome o) (sym h) refl)));
      others = λ other apart. if_found _ (λ kept. lookup (is_at other.drive other.sector) es ≡ Some kept) (λ kept h. h);
      stays = λ other apart room. refl;
    } in
    subst (λ (l : List (SectorPlace × List ℕ)). CachesSector d s bytes es l) (sym is) same

-- the entry of a sector at the front
entry_found : (d s : ℕ) (es : List (SectorPlace × List ℕ)) (e : SectorPlace × List ℕ) → lookup_entry (is_at d s) es ≡ Some e → lookup (is_at d s) es ≡ Some e.1
entry_found d s [] e h = absurd (cc)
entry_found d s (f ∷ es) e h = by_test (is_at d s f.0) (λ rest. entry_found d s es e rest) h
  where
    by_test : (b : Bool) → (lookup_entry (is_at d s) es ≡ Some e → lookup (is_at d s) es ≡ Some e.1) → cond b (Some f) (lookup_entry (is_at d s) es) ≡ Some e → cond b (Some f.1) (lookup (is_at d s) es) ≡ Some e.1
    by_test true on h = ap (λ (o : Option (SectorPlace × List ℕ)). option_map_or (λ x. Some x.1) o None) h
    by_test false on h = on h

no_entry : (d s : ℕ) (es : List (SectorPlace × List ℕ)) → lookup (is_at d s) es ≡ None → lookup_entry (is_at d s) es ≡ None
no_entry d s [] h = refl
no_entry d s (f ∷ es) h = by_test (is_at d s f.0) (λ rest. no_entry d s es rest) h
  where
    by_test : (b : Bool) → (lookup (is_at d s) es ≡ None → lookup_entry (is_at d s) es ≡ None) → cond b (Some f.1) (lookup (is_at d s) es) ≡ None → cond b (Some f) (lookup_entry (is_at d s) es) ≡ None
    by_test true on h = absurd (cc)
    by_test false on h = on h

same_by : (d s : ℕ) (es : List (SectorPlace × List ℕ)) (o : Option (SectorPlace × List ℕ)) → lookup_entry (is_at d s) es ≡ o
    → SameCached es (option_map_or (λ e. e ∷ remove_entry (is_at d s) es) o es)
unfolding cached_at
same_by d s es None none o p = refl
same_by d s es (Some e) there o p =
    let is : is_at d s e.0 ≡ true = (Contains-lookup_entry (is_at d s) es e there).1 in
    by_place (is_at d s (at o p)) refl is
  where
    by_place : (b : Bool) → is_at d s (at o p) ≡ b → is_at d s e.0 ≡ true → lookup (is_at o p) (e ∷ remove_entry (is_at d s) es) ≡ lookup (is_at o p) es
    by_place true same is =
        let two = known_same d s o p same in
        subst (λ (x : ℕ). lookup (is_at x p) (e ∷ remove_entry (is_at d s) es) ≡ lookup (is_at x p) es) two.0
        (subst (λ (y : ℕ). lookup (is_at d y) (e ∷ remove_entry (is_at d s) es) ≡ lookup (is_at d y) es) two.1
        (head_here d s e.0 e.1 (remove_entry (is_at d s) es) is ∙ sym (entry_found d s es e there)))
    by_place false apart is = head_other d s o p e.0 e.1 (remove_entry (is_at d s) es) apart is ∙ found_without d s o p es apart

pub same_promoted : (d s : ℕ) (es new : List (SectorPlace × List ℕ)) → new ≡ promoted (is_at d s) es → SameCached es new
same_promoted d s es new is = subst (λ (l : List (SectorPlace × List ℕ)). SameCached es l) (sym is) (same_by d s es (lookup_entry (is_at d s) es) refl)

pub none_promoted : (d s : ℕ) (es new : List (SectorPlace × List ℕ)) → new ≡ promoted (is_at d s) es → lookup (is_at d s) es ≡ None → new ≡ es
none_promoted d s es new is none = is ∙ ap (λ (o : Option (SectorPlace × List ℕ)). option_map_or (λ e. e ∷ remove_entry (is_at d s) es) o es) (no_entry d s es none)

pub if_none : (o : Option (List ℕ)) (P : Type 0) → (o ≡ None → P) → IfNone o P
if_none None P h = h refl
if_none (Some kept) P h = tt

-- after a put, which wants memory for a new sector alone
pub keeps_put : {A B : Type 0} (d s : ℕ) (bytes : List ℕ) (old new : LruCache SectorPlace (List ℕ)) (result : Result A B) → old.cap ≡ 256
    → OnOk result (new ≡ lru_cache (put_entries same_place old (at d s) bytes) old.cap) → OnErr result (new ≡ old)
    → (IsSome (lookup (is_at d s) old.entries) → IsOk result) → CachesSector d s bytes old.entries new.entries
keeps_put d s bytes old new (Ok x) room ok err succeeds = keeps d s bytes old new.entries room (ap (λ (l : LruCache SectorPlace (List ℕ)). l.entries) ok)
keeps_put d s bytes old new (Err x) room ok err succeeds =
    keeps_nothing d s bytes old.entries new.entries (λ some. false≢true (succeeds some)) (ap (λ (l : LruCache SectorPlace (List ℕ)). l.entries) err)

-- ---- what the list is afterwards

-- a sector that is looked up is used
pub used_promoted : (d s : ℕ) (es new : List (SectorPlace × List ℕ)) → new ≡ promoted (is_at d s) es → new ≡ used d s es
unfolding used
used_promoted d s es new is = is

-- one that is taken out
pub taken : (d s : ℕ) (es new : List (SectorPlace × List ℕ)) → new ≡ remove_entry (is_at d s) es → new ≡ taken_out d s es
unfolding taken_out
taken d s es new is = is

-- one that is put goes first
first_by : (d s n : ℕ) (bytes : List ℕ) (es : List (SectorPlace × List ℕ)) (o : Option (SectorPlace × List ℕ)) → n ≡ 255 → lookup_entry (is_at d s) es ≡ o
    → after_put d s n bytes es o ≡ put_first d s bytes es
unfolding after_put put_first cached_at
first_by d s n bytes es None few none =
    ap (λ (m : ℕ). (at d s, bytes) ∷ take m es) few
    ∙ sym (ap (λ (o : Option (List ℕ)). (at d s, bytes) ∷ (if is_some o then (remove_entry (is_at d s) es) else (take 255 es))) (no_value d s es none))
first_by d s n bytes es (Some e) few there =
    let place = known_same d s e.0.drive e.0.sector (Contains-lookup_entry (is_at d s) es e there).1 in
    ap (λ (x : ℕ). (at x e.0.sector, bytes) ∷ remove_entry (is_at d s) es) (sym place.0)
    ∙ ap (λ (y : ℕ). (at d y, bytes) ∷ remove_entry (is_at d s) es) (sym place.1)
    ∙ sym (ap (λ (o : Option (List ℕ)). (at d s, bytes) ∷ (if is_some o then (remove_entry (is_at d s) es) else (take 255 es))) (entry_found d s es e there))

is_none : (o : Option (List ℕ)) → (IsSome o → ⊥) → o ≡ None
is_none None not_some = refl
is_none (Some kept) not_some = absurd (not_some refl)

-- or there was no memory for it
pub is_put : {A B : Type 0} (d s : ℕ) (bytes : List ℕ) (old new : LruCache SectorPlace (List ℕ)) (result : Result A B) → old.cap ≡ 256
    → OnOk result (new ≡ lru_cache (put_entries same_place old (at d s) bytes) old.cap) → OnErr result (new ≡ old)
    → (IsSome (lookup (is_at d s) old.entries) → IsOk result) → IsPut d s bytes old.entries new.entries
unfolding cached_at after_put
is_put d s bytes old new (Ok x) room ok err succeeds =
    inl (ap (λ (l : LruCache SectorPlace (List ℕ)). l.entries) ok
    ∙ first_by d s (old.cap - 1) bytes old.entries (lookup_entry (is_at d s) old.entries) (ap (λ (n : ℕ). n - 1) room) refl)
is_put d s bytes old new (Err x) room ok err succeeds =
    inr (is_none _ (λ some. false≢true (succeeds some)), ap (λ (l : LruCache SectorPlace (List ℕ)). l.entries) err)
