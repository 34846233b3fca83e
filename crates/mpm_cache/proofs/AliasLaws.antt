-- A drive has no alias in the cache, and keeps having none.
use Rattle.std.proofs.Common.{◌≡◌, ◌≢◌, ◌⊎◌, ℕ, Bool, true, false, List, [], Option, Some, None, IsSome, refl, sym, subst, ◌∙◌, inl, inr}
use Rattle.std.specs.Prelude.{⊤}
use Rattle.std.proofs.lemmas.Bool.{false≢true}
use Rattle.std.proofs.lemmas.Option.{same_Some, MatchOption-at_some}
use Rattle.mpm_port.specs.Disks.{Disks, WritesSector}
use Rattle.mpm_cache.specs.declared.cache.SectorPlace.{SectorPlace}
use Rattle.mpm_cache.specs.Cached.{is_at, cached_at, SameCached, CachesSector, Forgets}
use Rattle.mpm_cache.specs.Coherent.{HaveOwnImages, HasNoAlias, StayApart, AreApart}
use Rattle.mpm_cache.proofs.CachedLaws.{at, known_same}
use Rattle.mpm_cache.proofs.CoherentLaws.{keeps_none}

-- the drives are attached by the same names
abbrev pub SameNames : Disks → Disks → Type 0
SameNames old new = (drive : ℕ) → new.name_of drive ≡ old.name_of drive

-- drives that have images of their own keep them
own_images_kept : (disks now : Disks) (drive other : ℕ) → SameNames disks now → HaveOwnImages disks drive other → HaveOwnImages now drive other
own_images_kept disks now drive other names own ne same = own ne (sym (names drive) ∙ same ∙ names other)

-- drives that are attached by two names
pub own_images_named : (disks : Disks) (drive other : ℕ) (name name_too : List ℕ) → disks.name_of drive ≡ Some name → disks.name_of other ≡ Some name_too → name ≢ name_too
    → HaveOwnImages disks drive other
own_images_named disks drive other name name_too h k apart ne same = apart (same_Some name name_too (sym h ∙ same ∙ k))

-- of no drive but one a sector is cached now of which none was
abbrev AddsAtMost : ℕ → List (SectorPlace × List ℕ) → List (SectorPlace × List ℕ) → Type 0
AddsAtMost drive cached new = (other sector : ℕ) → IsSome (cached_at new other sector) → (drive ≡ other) ⊎ IsSome (cached_at cached other sector)

some_of : (o : Option (List ℕ)) (kept : List ℕ) → o ≡ Some kept → IsSome o
some_of o kept h = subst (λ (x : Option (List ℕ)). IsSome x) (sym h) refl

adds_kept : (drive sector : ℕ) (bytes : List ℕ) (cached new : List (SectorPlace × List ℕ)) → CachesSector drive sector bytes cached new → AddsAtMost drive cached new
adds_kept drive sector bytes cached new keeps other place some = by_place (is_at drive sector (at other place)) refl (cached_at new other place) refl
  where
    none_some : (o : Option (List ℕ)) → o ≡ None → IsSome o → ⊥
    none_some None h some = false≢true some
    none_some (Some kept) h some = absurd (cc)

    by_place : (b : Bool) → is_at drive sector (at other place) ≡ b → (o : Option (List ℕ)) → cached_at new other place ≡ o → (drive ≡ other) ⊎ IsSome (cached_at cached other place)
    by_place true here o is = inl (known_same drive sector other place here).0
    by_place false apart None is = absurd (none_some (cached_at new other place) is some)
    by_place false apart (Some kept) is = inr (some_of _ kept (MatchOption-at_some ⊤ (λ k. cached_at cached other place ≡ Some k) kept is (keeps.others (at other place) apart)))

adds_same : (drive : ℕ) (cached new : List (SectorPlace × List ℕ)) → SameCached cached new → AddsAtMost drive cached new
adds_same drive cached new same other sector some = inr (subst (λ (o : Option (List ℕ)). IsSome o) (same other sector) some)

no_alias : (drive other : ℕ) (cached new : List (SectorPlace × List ℕ)) (disks now : Disks) → AddsAtMost drive cached new → SameNames disks now → HaveOwnImages disks other drive
    → HasNoAlias cached disks other → HasNoAlias new now other
unfolding HasNoAlias
no_alias drive other cached new disks now adds told own alone third sector some = elim (adds third sector some) [
  | inl here ↦ own_images_kept disks now other third told (subst (λ (d : ℕ). HaveOwnImages disks other d) here own)
  | inr before ↦ own_images_kept disks now other third told (alone third sector before)
]

pub no_alias_none : (disks : Disks) (drive : ℕ) → HasNoAlias [] disks drive
unfolding HasNoAlias cached_at
no_alias_none disks drive other sector some = absurd (false≢true some)

apart_by : (drive : ℕ) (cached new : List (SectorPlace × List ℕ)) (disks now : Disks) → AddsAtMost drive cached new → SameNames disks now → StayApart drive cached new disks now
apart_by drive cached new disks now adds told = record {
  own = λ one other own. own_images_kept disks now one other told own;
  alone = λ other own alone. no_alias drive other cached new disks now adds told own alone;
}

pub apart_same : (drive : ℕ) (cached new : List (SectorPlace × List ℕ)) (disks : Disks) → SameCached cached new → StayApart drive cached new disks disks
apart_same drive cached new disks same = apart_by drive cached new disks disks (adds_same drive cached new same) (λ other. refl)

pub apart_read : (drive sector : ℕ) (bytes : List ℕ) (cached new : List (SectorPlace × List ℕ)) (disks : Disks) → CachesSector drive sector bytes cached new → StayApart drive cached new disks disks
apart_read drive sector bytes cached new disks keeps = apart_by drive cached new disks disks (adds_kept drive sector bytes cached new keeps) (λ other. refl)

pub apart_written : (drive sector : ℕ) (bytes : List ℕ) (cached new : List (SectorPlace × List ℕ)) (disks now : Disks) → CachesSector drive sector bytes cached new
    → WritesSector drive sector bytes disks now → StayApart drive cached new disks now
apart_written drive sector bytes cached new disks now keeps writes = apart_by drive cached new disks now (adds_kept drive sector bytes cached new keeps) writes.names

pub apart_failed : (drive sector : ℕ) (bytes : List ℕ) (cached new : List (SectorPlace × List ℕ)) (disks now : Disks) → Forgets drive sector cached new
    → (now ≡ disks) ⊎ WritesSector drive sector bytes disks now → StayApart drive cached new disks now
apart_failed drive sector bytes cached new disks now forgets told =
    let keeps = keeps_none drive sector bytes cached new forgets in
    elim told [
      | inl same ↦ subst (λ (d : Disks). StayApart drive cached new disks d) (sym same) (apart_read drive sector bytes cached new disks keeps)
      | inr written ↦ apart_written drive sector bytes cached new disks now keeps written
    ]

-- two calls on one drive
pub apart_twice : (drive : ℕ) (first second third : List (SectorPlace × List ℕ)) (disks mid now : Disks) → StayApart drive first second disks mid → StayApart drive second third mid now
    → StayApart drive first third disks now
apart_twice drive first second third disks mid now one two = record {
  own = λ a b own. two.own a b (one.own a b own);
  alone = λ other own alone. two.alone other (one.own other drive own) (one.alone other own alone);
}

-- the drive of a call has no alias after it, as it had none before
pub alone_after : (drive : ℕ) (cached new : List (SectorPlace × List ℕ)) (disks now : Disks) → StayApart drive cached new disks now → HasNoAlias cached disks drive → HasNoAlias new now drive
alone_after drive cached new disks now stay alone = stay.alone drive (λ ne. absurd (ne refl)) alone

-- where nothing is cached, drives are apart that are attached by names of their own
pub apart_at_first : (among : ℕ → Bool) (disks : Disks) → ((drive other : ℕ) → among drive ≡ true → among other ≡ true → HaveOwnImages disks drive other) → AreApart among [] disks
apart_at_first among disks own = record { own = own; alone = λ drive is. no_alias_none disks drive }

-- a call on one of the drives leaves them apart
pub apart_after : (among : ℕ → Bool) (drive : ℕ) (cached new : List (SectorPlace × List ℕ)) (disks now : Disks) → among drive ≡ true → StayApart drive cached new disks now
    → AreApart among cached disks → AreApart among new now
apart_after among drive cached new disks now is stay apart = record {
  own = λ one other a b. stay.own one other (apart.own one other a b);
  alone = λ other a. stay.alone other (apart.own other drive a is) (apart.alone other a);
}
