-- Sectors that are written one after the other.
use Rattle.std.proofs.Common.{◌≡◌, ◌⊎◌, ℕ, zero, suc, ◌+◌, ◌-◌, ◌<◌, max, List, [], ◌∷◌, ◌++◌, Option, Some, IfSome, Result, Ok, Err, OnOk, OnErr, refl, sym, ap, subst, ◌∙◌, inl, inr, arith}
use Rattle.std.proofs.lemmas.List.{append_assoc}
use Rattle.std.proofs.lemmas.List.FromFn.{map-range_with_len_more}
use Rattle.mpm_base.specs.declared.kind.Kind.{Kind}
use Rattle.mpm_blocks.specs.Geometries.{block_records, place_of}
use Rattle.mpm_port.specs.Disks.{Disks, WritesSector, sector_of, with_sector}
use Rattle.mpm_blocks.specs.Sectors.{sectors_of}
use Rattle.mpm_sectors.specs.Writes.{Write, written, AreWritten, FirstAreWritten, Puts, Elsewhere, cleared, zeros_from, block_sector, block_writes}
use Rattle.mpm_cache.proofs.CoherentLaws.{image_here}
use Rattle.mpm_sectors.proofs.OtherImages.{elsewhere_same, elsewhere_written}

pub written_more : (kind : Kind) (writes more : List Write) (image : List ℕ) → written kind (writes ++ more) image ≡ written kind more (written kind writes image)
unfolding written
written_more kind [] more image = refl
written_more kind (write ∷ writes) more image = written_more kind writes more (with_sector image (place_of kind write.sector) write.bytes)

pub none_written : (drive : ℕ) (kind : Kind) (old new : Disks) → new ≡ old → AreWritten drive kind [] old new
unfolding AreWritten written
none_written drive kind old new same image is = ap (λ (d : Disks). d.image drive) same ∙ is

pub one_written : (drive : ℕ) (kind : Kind) (sector : ℕ) (bytes : List ℕ) (old new : Disks) → WritesSector drive (place_of kind sector) bytes old new
    → AreWritten drive kind (record { sector = sector; bytes = bytes } ∷ []) old new
unfolding AreWritten written
one_written drive kind sector bytes old new writes image is = image_here old new drive (place_of kind sector) bytes image writes is

pub more_written : (drive : ℕ) (kind : Kind) (writes more : List Write) (a b c : Disks) → AreWritten drive kind writes a b → AreWritten drive kind more b c
    → AreWritten drive kind (writes ++ more) a c
unfolding AreWritten
more_written drive kind writes more a b c one two image is =
    two (written kind writes image) (one image is) ∙ ap (λ (i : List ℕ). Some i) (sym (written_more kind writes more image))

-- the first of more are first of all
pub first_after : (drive : ℕ) (kind : Kind) (writes more : List Write) (a b c : Disks) → AreWritten drive kind writes a b → FirstAreWritten drive kind more b c
    → FirstAreWritten drive kind (writes ++ more) a c
first_after drive kind writes more a b c one two = record {
  first = writes ++ two.first;
  rest = two.rest;
  all = append_assoc writes two.first two.rest ∙ ap (λ (ws : List Write). writes ++ ws) two.all;
  are = more_written drive kind writes two.first a b c one two.are;
}

-- the first of some are first where more were to follow
pub first_before : (drive : ℕ) (kind : Kind) (writes more : List Write) (a b : Disks) → FirstAreWritten drive kind writes a b → FirstAreWritten drive kind (writes ++ more) a b
first_before drive kind writes more a b first = record {
  first = first.first;
  rest = first.rest ++ more;
  all = sym (append_assoc first.first first.rest more) ∙ ap (λ (ws : List Write). ws ++ more) first.all;
  are = first.are;
}

-- nothing of some
pub first_none : (drive : ℕ) (kind : Kind) (writes : List Write) (a b : Disks) → b ≡ a → FirstAreWritten drive kind writes a b
first_none drive kind writes a b same = record { first = []; rest = writes; all = refl; are = none_written drive kind a b same }

-- a failed write of one sector has written it or nothing
pub first_of_one : (drive : ℕ) (kind : Kind) (sector : ℕ) (bytes : List ℕ) (old new : Disks) → (new ≡ old) ⊎ (WritesSector drive (place_of kind sector) bytes old new)
    → FirstAreWritten drive kind (record { sector = sector; bytes = bytes } ∷ []) old new
first_of_one drive kind sector bytes old new (inl same) = first_none drive kind (record { sector = sector; bytes = bytes } ∷ []) old new same
first_of_one drive kind sector bytes old new (inr writes) = record {
  first = record { sector = sector; bytes = bytes } ∷ [];
  rest = [];
  all = refl;
  are = one_written drive kind sector bytes old new writes;
}

pub puts_after : {A E : Type 0} (drive : ℕ) (kind : Kind) (writes more : List Write) (a b c : Disks) (result : Result A E) → AreWritten drive kind writes a b
    → Puts drive kind more b c result → Puts drive kind (writes ++ more) a c result
puts_after drive kind writes more a b c (Ok x) one puts = record { ok = more_written drive kind writes more a b c one puts.ok; err = tt }
puts_after drive kind writes more a b c (Err e) one puts = record { ok = tt; err = first_after drive kind writes more a b c one puts.err }

pub puts_stopped : {A E : Type 0} (drive : ℕ) (kind : Kind) (writes more : List Write) (a b : Disks) (error : E) → FirstAreWritten drive kind writes a b
    → Puts {A = A} {E = E} drive kind (writes ++ more) a b (Err error)
puts_stopped drive kind writes more a b error first = record { ok = tt; err = first_before drive kind writes more a b first }

-- ---- zeros in a row

zeros_more : (first count : ℕ) → zeros_from first (count + 1) ≡ zeros_from first count ++ (cleared (first + count) ∷ [])
unfolding zeros_from
zeros_more first count = map-range_with_len_more cleared first count (first + count) refl

-- ---- a call of the cache

same_sector : (image : List ℕ) (kind : Kind) (sector place : ℕ) → place ≡ place_of kind sector → sector_of image place ≡ sectors_of image kind sector
unfolding sectors_of
same_sector image kind sector place at = ap (λ (p : ℕ). sector_of image p) at

-- a sector that was read is that of the image
pub sector_read : {A E : Type 0} (drive : ℕ) (kind : Kind) (sector place : ℕ) (bytes image : List ℕ) (disks : Disks) (result : Result A E) → place ≡ place_of kind sector
    → OnOk result (IfSome (disks.image drive) (λ found. bytes ≡ sector_of found place)) → disks.image drive ≡ Some image
    → OnOk result (bytes ≡ sectors_of image kind sector)
sector_read drive kind sector place bytes image disks (Err e) at read is = tt
sector_read drive kind sector place bytes image disks (Ok x) at read is =
    subst (λ (o : Option (List ℕ)). IfSome o (λ found. bytes ≡ sector_of found place)) is read ∙ same_sector image kind sector place at

pub put_written : {A E : Type 0} (drive : ℕ) (kind : Kind) (sector place : ℕ) (bytes : List ℕ) (old new : Disks) (result : Result A E) → place ≡ place_of kind sector
    → OnOk result (WritesSector drive place bytes old new) → OnErr result ((new ≡ old) ⊎ (WritesSector drive place bytes old new))
    → Puts drive kind (record { sector = sector; bytes = bytes } ∷ []) old new result
put_written drive kind sector place bytes old new (Ok x) at ok err =
    record { ok = one_written drive kind sector bytes old new (subst (λ (p : ℕ). WritesSector drive p bytes old new) at ok); err = tt }
put_written drive kind sector place bytes old new (Err e) at ok err =
    record { ok = tt; err = first_of_one drive kind sector bytes old new (subst (λ (p : ℕ). (new ≡ old) ⊎ (WritesSector drive p bytes old new)) at err) }

pub put_elsewhere : {A E : Type 0} (drive place : ℕ) (bytes : List ℕ) (old new : Disks) (result : Result A E) → OnOk result (WritesSector drive place bytes old new)
    → OnErr result ((new ≡ old) ⊎ (WritesSector drive place bytes old new)) → Elsewhere drive old new
put_elsewhere drive place bytes old new (Ok x) ok err = elsewhere_written drive place bytes old new ok
put_elsewhere drive place bytes old new (Err e) ok (inl same) = elsewhere_same drive old new same
put_elsewhere drive place bytes old new (Err e) ok (inr writes) = elsewhere_written drive place bytes old new writes

-- ---- the sectors of a fresh block

pub zeros_at_first : (drive : ℕ) (kind : Kind) (first : ℕ) (disks : Disks) → AreWritten drive kind (zeros_from first 0) disks disks
unfolding zeros_from
zeros_at_first drive kind first disks = none_written drive kind disks disks refl

pub zeros_one_more : (drive : ℕ) (kind : Kind) (first count : ℕ) (a b c : Disks) → AreWritten drive kind (zeros_from first count) a b
    → AreWritten drive kind (cleared (first + count) ∷ []) b c → AreWritten drive kind (zeros_from first (count + 1)) a c
zeros_one_more drive kind first count a b c zeros one =
    subst (λ (ws : List Write). AreWritten drive kind ws a c) (sym (zeros_more first count))
    (more_written drive kind (zeros_from first count) (cleared (first + count) ∷ []) a b c zeros one)

zeros_split : (first count more all last : ℕ) → all ≡ count + more → last ≡ first + count → zeros_from first all ≡ zeros_from first count ++ zeros_from last more
unfolding zeros_from
zeros_split first zero more all last h k = ap (λ (n : ℕ). zeros_from first n) (omega (arith, h)) ∙ ap (λ (l : ℕ). zeros_from l more) (omega (arith, k))
zeros_split first (suc count) more all last h k =
    ap (λ (n : ℕ). zeros_from first n) (next_count count more all h) ∙ ap (λ (ws : List Write). cleared first ∷ ws) (zeros_split (first + 1) count more (count + more) last refl (omega (arith, k)))
  where
    next_count : (count more all : ℕ) → all ≡ suc count + more → all ≡ suc (count + more)
    next_count count more all h = omega (arith, h)

-- a failure at one of them
pub zeros_stopped : (drive : ℕ) (kind : Kind) (first count all : ℕ) (a b c : Disks) → count < all → AreWritten drive kind (zeros_from first count) a b
    → FirstAreWritten drive kind (cleared (first + count) ∷ []) b c → FirstAreWritten drive kind (zeros_from first all) a c
zeros_stopped drive kind first count all a b c less zeros one =
    let some : FirstAreWritten drive kind (zeros_from first (count + 1)) a c =
    subst (λ (ws : List Write). FirstAreWritten drive kind ws a c) (sym (zeros_more first count))
    (first_after drive kind (zeros_from first count) (cleared (first + count) ∷ []) a b c zeros one) in
    let rest = zeros_from (first + (count + 1)) (all - (count + 1)) in
    subst (λ (ws : List Write). FirstAreWritten drive kind ws a c) (sym (zeros_split first (count + 1) (all - (count + 1)) all (first + (count + 1)) (omega (arith, less)) refl))
    (first_before drive kind (zeros_from first (count + 1)) rest a c some)

-- zeros from elsewhere, as another name of their first and their number has it
abbrev zeros_moved : (P : List Write → Type 0) (first count first_too count_too : ℕ) → first ≡ first_too → count ≡ count_too → P (zeros_from first count) → P (zeros_from first_too count_too)
zeros_moved P first count first_too count_too h k all = subst (λ (f : ℕ). P (zeros_from f count_too)) h (subst (λ (n : ℕ). P (zeros_from first n)) k all)

pub block_stopped : {A E : Type 0} (drive : ℕ) (kind : Kind) (block clear index : ℕ) (bytes : List ℕ) (first count : ℕ) (a b : Disks) (error : E)
    → first ≡ block_sector kind block + clear → count ≡ index - clear → FirstAreWritten drive kind (zeros_from first count) a b
    → Puts {A = A} {E = E} drive kind (block_writes kind block clear index bytes) a b (Err error)
unfolding block_writes
block_stopped drive kind block clear index bytes first count a b error h k zeros =
    puts_stopped drive kind (zeros_from (block_sector kind block + clear) (index - clear)) _ a b error
    (zeros_moved (λ ws. FirstAreWritten drive kind ws a b) first count (block_sector kind block + clear) (index - clear) h k zeros)

pub block_stopped_behind : {A E : Type 0} (drive : ℕ) (kind : Kind) (block clear index : ℕ) (bytes : List ℕ) (first count second more : ℕ) (a b c : Disks) (error : E)
    → first ≡ block_sector kind block + clear → count ≡ index - clear → second ≡ block_sector kind block + max clear (index + 1) → more ≡ block_records kind - max clear (index + 1)
    → AreWritten drive kind (zeros_from first count) a b → FirstAreWritten drive kind (zeros_from second more) b c
    → Puts {A = A} {E = E} drive kind (block_writes kind block clear index bytes) a c (Err error)
unfolding block_writes
block_stopped_behind drive kind block clear index bytes first count second more a b c error h k m n zeros rest =
    puts_after drive kind (zeros_from (block_sector kind block + clear) (index - clear)) _ a b c (Err error)
    (zeros_moved (λ ws. AreWritten drive kind ws a b) first count (block_sector kind block + clear) (index - clear) h k zeros)
    (puts_stopped drive kind (zeros_from (block_sector kind block + max clear (index + 1)) (block_records kind - max clear (index + 1))) _ b c error
    (zeros_moved (λ ws. FirstAreWritten drive kind ws b c) second more (block_sector kind block + max clear (index + 1)) (block_records kind - max clear (index + 1)) m n rest))

pub block_put : {A E : Type 0} (drive : ℕ) (kind : Kind) (block clear index : ℕ) (bytes : List ℕ) (first count second more sector : ℕ) (a b c d : Disks) (result : Result A E)
    → first ≡ block_sector kind block + clear → count ≡ index - clear → second ≡ block_sector kind block + max clear (index + 1) → more ≡ block_records kind - max clear (index + 1)
    → sector ≡ block_sector kind block + index → AreWritten drive kind (zeros_from first count) a b → AreWritten drive kind (zeros_from second more) b c
    → Puts drive kind (record { sector = sector; bytes = bytes } ∷ []) c d result → Puts drive kind (block_writes kind block clear index bytes) a d result
unfolding block_writes
block_put {A = A} {E = E} drive kind block clear index bytes first count second more sector a b c d result h k m n s zeros rest puts =
    puts_after drive kind (zeros_from (block_sector kind block + clear) (index - clear)) _ a b d result
    (zeros_moved (λ ws. AreWritten drive kind ws a b) first count (block_sector kind block + clear) (index - clear) h k zeros)
    (puts_after drive kind (zeros_from (block_sector kind block + max clear (index + 1)) (block_records kind - max clear (index + 1))) _ b c d result
    (zeros_moved (λ ws. AreWritten drive kind ws b c) second more (block_sector kind block + max clear (index + 1)) (block_records kind - max clear (index + 1)) m n rest)
    (subst (λ (n : ℕ). Puts {A = A} {E = E} drive kind (record { sector = n; bytes = bytes } ∷ []) c d result) s puts))
