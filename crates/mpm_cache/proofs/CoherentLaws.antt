-- The cached sectors stay those of the attached images.
use Rattle.std.proofs.Common.{◌≡◌, ◌≢◌, ◌⊎◌, ℕ, ◌+◌, ◌*◌, ◌≤◌, Bool, true, false, List, [], length, Option, Some, None, IfSome, IsSome, refl, sym, ap, subst, ◌∙◌, inl, inr}
use Rattle.std.specs.Prelude.{⊤, option_map}
use Rattle.std.proofs.lemmas.Bool.{cases_eq, false≢true}
use Rattle.std.proofs.lemmas.Option.{MatchOption-at_some}
use Rattle.mpm_port.specs.Disks.{Disks, IsInsideDrive, size_of, sector_of, with_sector, WritesSector}
use Rattle.mpm_cache.specs.declared.cache.SectorPlace.{SectorPlace}
use Rattle.mpm_cache.specs.Cached.{is_at, cached_at, SameCached, CachesSector, Forgets}
use Rattle.mpm_cache.specs.Coherent.{IsCoherent, HasNoAlias}
use Rattle.mpm_cache.proofs.CachedLaws.{at, if_found, known_same, same_known}
use Rattle.mpm_cache.proofs.SectorLaws.{sector_written, sector_kept}

-- a drive's image has these bytes in a sector, where the drive has one
abbrev pub Has : Disks → ℕ → ℕ → List ℕ → Type 0
Has disks drive sector kept = IfSome (disks.image drive) (λ image. sector_of image sector ≡ kept)

was : (cached : List (SectorPlace × List ℕ)) (disks : Disks) (drive sector : ℕ) (kept : List ℕ) → IsCoherent cached disks → cached_at cached drive sector ≡ Some kept → Has disks drive sector kept
unfolding IsCoherent
was cached disks drive sector kept are h = MatchOption-at_some ⊤ (Has disks drive sector) kept h (are drive sector)

-- no more is cached
abbrev pub Fewer : List (SectorPlace × List ℕ) → List (SectorPlace × List ℕ) → Type 0
Fewer cached new = (d s : ℕ) (kept : List ℕ) → cached_at new d s ≡ Some kept → cached_at cached d s ≡ Some kept

coherent_fewer : (cached new : List (SectorPlace × List ℕ)) (disks : Disks) → Fewer cached new → IsCoherent cached disks → IsCoherent new disks
unfolding IsCoherent
coherent_fewer cached new disks fewer are d s =
    if_found (cached_at new d s) (Has disks d s) (λ kept h. was cached disks d s kept are (fewer d s kept h))

pub coherent_same : (cached new : List (SectorPlace × List ℕ)) (disks : Disks) → SameCached cached new → IsCoherent cached disks → IsCoherent new disks
coherent_same cached new disks found coherent = coherent_fewer cached new disks (λ d s kept h. sym (found d s) ∙ h) coherent

fewer_forgotten : (drive sector : ℕ) (cached new : List (SectorPlace × List ℕ)) → Forgets drive sector cached new → Fewer cached new
fewer_forgotten drive sector cached new forgets d s kept h = by_place (is_at drive sector (at d s)) refl
  where
    none_some : (o : Option (List ℕ)) (kept : List ℕ) → o ≡ None → o ≡ Some kept → ⊥
    none_some o kept h k = cc

    by_place : (b : Bool) → is_at drive sector (at d s) ≡ b → cached_at cached d s ≡ Some kept
    by_place true here =
        let two = known_same drive sector d s here in
        absurd (none_some (cached_at new drive sector) kept forgets.here (ap (λ (x : ℕ). cached_at new x sector) two.0 ∙ ap (λ (y : ℕ). cached_at new d y) two.1 ∙ h))
    by_place false other = sym (forgets.others (at d s) other) ∙ h

pub coherent_none : (disks : Disks) → IsCoherent [] disks
unfolding IsCoherent cached_at
coherent_none disks d s = tt

-- a sector that was read is cached
pub coherent_read : (cached new : List (SectorPlace × List ℕ)) (disks : Disks) (drive sector : ℕ) (bytes : List ℕ) → CachesSector drive sector bytes cached new
    → IfSome (disks.image drive) (λ image. bytes ≡ sector_of image sector) → IsCoherent cached disks → IsCoherent new disks
unfolding IsCoherent
coherent_read cached new disks drive sector bytes keeps read are d s =
    if_found (cached_at new d s) (Has disks d s) (λ kept h. by_place d s kept h (is_at drive sector (at d s)) refl)
  where
    has : Has disks drive sector bytes
    has = if_found (disks.image drive) (λ image. sector_of image sector ≡ bytes) (λ image h. sym (MatchOption-at_some ⊤ (λ i. bytes ≡ sector_of i sector) image h read))

    by_place : (d s : ℕ) (kept : List ℕ) → cached_at new d s ≡ Some kept → (b : Bool) → is_at drive sector (at d s) ≡ b → Has disks d s kept
    by_place d s kept h true here =
        let two = known_same drive sector d s here in
        let found : cached_at new drive sector ≡ Some kept = ap (λ (x : ℕ). cached_at new x sector) two.0 ∙ ap (λ (y : ℕ). cached_at new d y) two.1 ∙ h in
        let is : kept ≡ bytes = MatchOption-at_some ⊤ (λ k. k ≡ bytes) kept found keeps.here in
        subst (λ (k : List ℕ). Has disks d s k) (sym is) (subst (λ (x : ℕ). Has disks x s bytes) two.0 (subst (λ (y : ℕ). Has disks drive y bytes) two.1 has))
    by_place d s kept h false other =
        was cached disks d s kept are (MatchOption-at_some ⊤ (λ k. cached_at cached d s ≡ Some k) kept h (keeps.others (at d s) other))

-- ---- where a sector was written

pub image_here : (old now : Disks) (drive sector : ℕ) (bytes image : List ℕ) → WritesSector drive sector bytes old now → old.image drive ≡ Some image → now.image drive ≡ Some (with_sector image sector bytes)
image_here old now drive sector bytes image writes is = MatchOption-at_some ⊤ (λ i. now.image drive ≡ Some (with_sector i sector bytes)) image is writes.here

-- a sector other than the written one
has_other : (old now : Disks) (drive sector d s : ℕ) (bytes kept image : List ℕ) → WritesSector drive sector bytes old now
    → (drive ≢ d → old.name_of drive ≢ old.name_of d) → length bytes ≡ 128
    → old.image drive ≡ Some image → 128 * sector + 128 ≤ length image → is_at drive sector (at d s) ≡ false → Has old d s kept → Has now d s kept
has_other old now drive sector d s bytes kept image writes apart long is inside other has = elim (cases_eq drive d) [
  | inl same ↦ (
      let changed : now.image d ≡ Some (with_sector image sector bytes) = ap now.image (sym same) ∙ image_here old now drive sector bytes image writes is in
      let had : sector_of image s ≡ kept = MatchOption-at_some ⊤ (λ i. sector_of i s ≡ kept) image (ap old.image (sym same) ∙ is) has in
      let ne : sector ≢ s = λ at. apart_places drive sector d s other same at in
      subst (λ (o : Option (List ℕ)). IfSome o (λ i. sector_of i s ≡ kept)) (sym changed) (sector_kept image sector s bytes inside long ne ∙ had))
  | inr ne ↦ subst (λ (o : Option (List ℕ)). IfSome o (λ i. sector_of i s ≡ kept)) (sym (writes.others d (λ same. apart ne (sym same)))) has
]
  where
    apart_places : (drive sector d s : ℕ) → is_at drive sector (at d s) ≡ false → drive ≡ d → sector ≡ s → ⊥
    apart_places drive sector d s other h k = false≢true (sym other ∙ same_known drive sector d s h k)

has_written : (old now : Disks) (drive sector : ℕ) (bytes image : List ℕ) → WritesSector drive sector bytes old now → length bytes ≡ 128 → old.image drive ≡ Some image → 128 * sector + 128 ≤ length image
    → Has now drive sector bytes
has_written old now drive sector bytes image writes long is inside =
    subst (λ (o : Option (List ℕ)). IfSome o (λ i. sector_of i sector ≡ bytes)) (sym (image_here old now drive sector bytes image writes is)) (sector_written image sector bytes inside long)

are_written : (cached new : List (SectorPlace × List ℕ)) (old now : Disks) (drive sector : ℕ) (bytes image : List ℕ) → CachesSector drive sector bytes cached new → WritesSector drive sector bytes old now
    → length bytes ≡ 128 → old.image drive ≡ Some image → 128 * sector + 128 ≤ length image → HasNoAlias cached old drive → IsCoherent cached old → IsCoherent new now
unfolding HasNoAlias IsCoherent
are_written cached new old now drive sector bytes image keeps writes long is inside alone are d s =
    if_found (cached_at new d s) (Has now d s) (λ kept h. by_place d s kept h (is_at drive sector (at d s)) refl)
  where
    by_place : (d s : ℕ) (kept : List ℕ) → cached_at new d s ≡ Some kept → (b : Bool) → is_at drive sector (at d s) ≡ b → Has now d s kept
    by_place d s kept h true here =
        let two = known_same drive sector d s here in
        let found : cached_at new drive sector ≡ Some kept = ap (λ (x : ℕ). cached_at new x sector) two.0 ∙ ap (λ (y : ℕ). cached_at new d y) two.1 ∙ h in
        let same : kept ≡ bytes = MatchOption-at_some ⊤ (λ k. k ≡ bytes) kept found keeps.here in
        subst (λ (k : List ℕ). Has now d s k) (sym same)
        (subst (λ (x : ℕ). Has now x s bytes) two.0 (subst (λ (y : ℕ). Has now drive y bytes) two.1 (has_written old now drive sector bytes image writes long is inside)))
    by_place d s kept h false other =
        let before : cached_at cached d s ≡ Some kept = MatchOption-at_some ⊤ (λ k. cached_at cached d s ≡ Some k) kept h (keeps.others (at d s) other) in
        has_other old now drive sector d s bytes kept image writes (alone d s (subst (λ (o : Option (List ℕ)). IsSome o) (sym before) refl)) long is inside other
        (was cached old d s kept are before)

sized_image : (o : Option (List ℕ)) (sector : ℕ) → IsInsideDrive (option_map length o) sector → (image : List ℕ) × (o ≡ Some image) × (128 * sector + 128 ≤ length image)
sized_image None sector h = absurd h
sized_image (Some image) sector h = (image, refl, h)

pub coherent_written : (cached new : List (SectorPlace × List ℕ)) (old now : Disks) (drive sector : ℕ) (bytes : List ℕ) → CachesSector drive sector bytes cached new
    → WritesSector drive sector bytes old now → length bytes ≡ 128 → IsInsideDrive (size_of old drive) sector → HasNoAlias cached old drive → IsCoherent cached old → IsCoherent new now
coherent_written cached new old now drive sector bytes keeps writes long inside alone coherent =
    let found = sized_image (old.image drive) sector inside in
    are_written cached new old now drive sector bytes found.0 keeps writes long found.1 found.2 alone coherent

-- a sector that is cached no more may be thought to be cached with any bytes
pub keeps_none : (drive sector : ℕ) (bytes : List ℕ) (cached new : List (SectorPlace × List ℕ)) → Forgets drive sector cached new → CachesSector drive sector bytes cached new
keeps_none drive sector bytes cached new forgets = record {
  here = if_found (cached_at new drive sector) (λ k. k ≡ bytes) (λ kept h. absurd (none_some _ kept forgets.here h));
  others = λ other apart. if_found (cached_at new other.drive other.sector) (λ k. cached_at cached other.drive other.sector ≡ Some k) (λ kept h. sym (forgets.others other apart) ∙ h);
  stays = λ other apart room. forgets.others other apart;
}
  where
    none_some : (o : Option (List ℕ)) (kept : List ℕ) → o ≡ None → o ≡ Some kept → ⊥
    none_some o kept h k = cc

pub coherent_failed : (cached new : List (SectorPlace × List ℕ)) (old now : Disks) (drive sector : ℕ) (bytes : List ℕ) → Forgets drive sector cached new
    → (now ≡ old) ⊎ WritesSector drive sector bytes old now → length bytes ≡ 128 → IsInsideDrive (size_of old drive) sector → HasNoAlias cached old drive → IsCoherent cached old → IsCoherent new now
coherent_failed cached new old now drive sector bytes forgets told long inside alone coherent = elim told [
  | inl same ↦ subst (λ (d : Disks). IsCoherent new d) (sym same) (coherent_fewer cached new old (fewer_forgotten drive sector cached new forgets) coherent)
  | inr written ↦ coherent_written cached new old now drive sector bytes (keeps_none drive sector bytes cached new forgets) written long inside alone coherent
]

-- a cached sector is the image's
pub coherent_hit : (cached : List (SectorPlace × List ℕ)) (disks : Disks) (drive sector : ℕ) (bytes : List ℕ) → IsCoherent cached disks → cached_at cached drive sector ≡ Some bytes
    → IfSome (disks.image drive) (λ image. bytes ≡ sector_of image sector)
coherent_hit cached disks drive sector bytes coherent at =
    let has : Has disks drive sector bytes = was cached disks drive sector bytes coherent at in
    if_found (disks.image drive) (λ image. bytes ≡ sector_of image sector) (λ image h. sym (MatchOption-at_some ⊤ (λ i. sector_of i sector ≡ bytes) image h has))
