-- Slots of one sector of a directory that are freed as it is written, and those of one sector after another.
use Rattle.std.proofs.Common.{◌≡◌, ℕ, zero, suc, ◌+◌, ◌*◌, ◌/◌, ◌%◌, ◌<◌, ◌≤◌, ◌⊎◌, inl, inr, Bool, true, false, List, [], ◌∷◌, ◌++◌, length, take, drop, cond, refl, sym, ap, subst, ◌∙◌, arith, add-one}
use Rattle.std.specs.Prelude.{Option, Some, Result, Ok, Err, OnOk, OnErr, IfSome, option_map, slice_set, slice_index_or}
use Rattle.std.specs.List.{range_with_len, filter}
use Rattle.std.proofs.lemmas.List.{length-set, length-take-le, length-drop, take-append-drop, drop-drop}
use Rattle.std.proofs.lemmas.Option.{same_Some}
use Rattle.mpm_base.specs.declared.kind.Kind.{Kind}
use Rattle.mpm_base.specs.declared.kind.Kind.TheVariants.{Ibm3740, Hd4, Hd8}
use Rattle.mpm_blocks.specs.Geometries.{geometry_of, place_of, logical_sectors}
use Rattle.mpm_blocks.proofs.Written.{spliced, spliced_here, spliced_again, from_to, place_inside}
use Rattle.mpm_port.specs.Disks.{Disks, WritesSector, with_sector, sector_of, size_of}
use Rattle.mpm_sectors.proofs.OtherImages.{elsewhere_same, elsewhere_written, elsewhere_over}
use Rattle.mpm_fault_lines.specs.Lists.{listed, listed_at}
use Rattle.mpm_repair.specs.Freeing.{byte_of, freed_image, freed_within, listed_from, FreesOn, FreesFirst}
use Rattle.mpm_repair.proofs.Freed.{kept_first, filter_next}
use Rattle.mpm_repair.proofs.FreedImages.{set_in_part}

-- all are slots of one sector
abbrev pub AllIn : ℕ → List ℕ → Type 0
AllIn sector [] = Unit {0}
AllIn sector (slot ∷ slots) = (slot / 4 ≡ sector) × AllIn sector slots

kept_in : (here : Bool) (sector slot : ℕ) (slots : List ℕ) → slot / 4 ≡ sector → AllIn sector slots → AllIn sector (cond here (slot ∷ slots) slots)
kept_in true sector slot slots at rest = (at, rest)
kept_in false sector slot slots at rest = rest

four_in : (p : ℕ → Bool) (sector first count : ℕ) → 4 * sector ≤ first → first + count ≤ 4 * sector + 4 → AllIn sector (filter p (range_with_len first count))
four_in p sector first zero low high = tt
four_in p sector first (suc count) low high =
    let at : first / 4 ≡ sector = omega arith in
    kept_in (p first) sector first (filter p (range_with_len (first + 1) count)) at (four_in p sector (first + 1) count (omega arith) (omega arith))

sector_part : (image : List ℕ) (place : ℕ) → sector_of image place ≡ take 128 (drop (128 * place) image)
sector_part image place = ap (λ (n : ℕ). take n (drop (128 * place) image)) (from_to (128 * place))

kept_sector : (image : List ℕ) (place : ℕ) → image ≡ with_sector image place (sector_of image place)
kept_sector image place =
    let a : ℕ = 128 * place in
    let tail : List ℕ = drop a image in
    sym (take-append-drop a image)
    ∙ ap (λ ys. take a image ++ ys)
    (sym (take-append-drop 128 tail) ∙ ap (λ ys. take 128 tail ++ ys) (drop-drop 128 a image) ∙ ap (λ ys. ys ++ drop (a + 128) image) (sym (sector_part image place)))

-- the slots of a sector that are freed one after another, as that sector is written
pub freed_sector_is : (kind : Kind) (sector : ℕ) (slots image : List ℕ) → AllIn sector slots → 128 * place_of kind sector + 128 ≤ length image
    → freed_image kind slots image ≡ with_sector image (place_of kind sector) (freed_within slots (sector_of image (place_of kind sector)))
unfolding freed_image freed_within
freed_sector_is kind sector [] image all inside = kept_sector image (place_of kind sector)
freed_sector_is kind sector (slot ∷ slots) image all inside =
    let p = place_of kind sector in
    let i : ℕ = 32 * (slot % 4) in
    let bytes = slice_set (sector_of image p) i 229 in
    let now = slice_set image (byte_of kind slot) 229 in
    let same : byte_of kind slot ≡ 128 * p + i = ap (λ (s : ℕ). 128 * place_of kind s + i) all.0 in
    let changed : now ≡ with_sector image p bytes =
    ap (λ (k : ℕ). slice_set image k 229) same ∙ set_in_part image (128 * p) 128 i 229 (omega arith) inside
    ∙ ap (λ ys. spliced image (slice_set ys i 229) (128 * p) 128) (sym (sector_part image p)) in
    let long : length bytes ≡ 128 =
    length-set (sector_of image p) i 229 ∙ ap (λ (ys : List ℕ). length ys) (sector_part image p) ∙ length-take-le 128 (drop (128 * p) image) (omega (arith, inside, length-drop (128 * p) image)) in
    let read : sector_of now p ≡ bytes =
    ap (λ (im : List ℕ). sector_of im p) changed ∙ sector_part (with_sector image p bytes) p ∙ spliced_here image bytes (128 * p) 128 long inside in
    let size : length now ≡ length image = length-set image (byte_of kind slot) 229 in
    freed_sector_is kind sector slots now all.1 (omega (arith, inside, size))
    ∙ ap (λ ys. with_sector now p (freed_within slots ys)) read
    ∙ ap (λ (im : List ℕ). with_sector im p (freed_within slots bytes)) changed
    ∙ spliced_again image bytes (freed_within slots bytes) (128 * p) 128 long inside

pub within_both : (slots more bytes : List ℕ) → freed_within (slots ++ more) bytes ≡ freed_within more (freed_within slots bytes)
unfolding freed_within
within_both [] more bytes = refl
within_both (slot ∷ slots) more bytes = within_both slots more (slice_set bytes (32 * (slot % 4)) 229)

-- the slots of a sector, one after another
pub listed_next : (marks : List Bool) (first count : ℕ) → listed_from marks first (count + 1) ≡ listed_from marks first count ++ listed_at marks (first + count)
unfolding listed_from
listed_next marks first count =
    let p : ℕ → Bool = λ slot. slice_index_or marks slot false in
    ap (λ n. filter p (range_with_len first n)) (add-one count) ∙ filter_next p first count

pub listed_nothing : (marks : List Bool) (first : ℕ) → listed_from marks first 0 ≡ []
unfolding listed_from
listed_nothing marks first = refl

pub within_nothing : (marks : List Bool) (first : ℕ) (bytes : List ℕ) → freed_within (listed_from marks first 0) bytes ≡ bytes
unfolding freed_within
within_nothing marks first bytes = ap (λ slots. freed_within slots bytes) (listed_nothing marks first)

-- those of one sector after another
filter_parts : (p : ℕ → Bool) (a m n : ℕ) → filter p (range_with_len a (m + n)) ≡ filter p (range_with_len a m) ++ filter p (range_with_len (a + m) n)
filter_parts p a zero n =
    let none : 0 + n ≡ n = omega arith in
    let same : a ≡ a + 0 = omega arith in
    ap (λ k. filter p (range_with_len a k)) none ∙ ap (λ k. filter p (range_with_len k n)) same
filter_parts p a (suc m) n =
    let more : suc m + n ≡ suc (m + n) = omega arith in
    let same : a + 1 + m ≡ a + suc m = omega arith in
    ap (λ k. filter p (range_with_len a k)) more
    ∙ ap (λ rest. cond (p a) (a ∷ rest) rest) (filter_parts p (a + 1) m n)
    ∙ kept_first p (p a) a (filter p (range_with_len (a + 1) m)) (filter p (range_with_len (a + 1 + m) n))
    ∙ ap (λ k. filter p (range_with_len a (suc m)) ++ filter p (range_with_len k n)) same

listed_sectors : (marks : List Bool) (sector : ℕ) → listed marks (4 * (sector + 1)) ≡ listed marks (4 * sector) ++ listed_from marks (4 * sector) 4
unfolding listed listed_from
listed_sectors marks sector =
    let p : ℕ → Bool = λ slot. slice_index_or marks slot false in
    let more : 4 * (sector + 1) ≡ 4 * sector + 4 = omega arith in
    let same : 0 + 4 * sector ≡ 4 * sector = omega arith in
    ap (λ n. filter p (range_with_len 0 n)) more ∙ filter_parts p 0 (4 * sector) 4
    ∙ ap (λ k. filter p (range_with_len 0 (4 * sector)) ++ filter p (range_with_len k 4)) same

image_both : (kind : Kind) (slots more image : List ℕ) → freed_image kind (slots ++ more) image ≡ freed_image kind more (freed_image kind slots image)
unfolding freed_image
image_both kind [] more image = refl
image_both kind (slot ∷ slots) more image = image_both kind slots more (slice_set image (byte_of kind slot) 229)

all_listed : (marks : List Bool) (sector : ℕ) → AllIn sector (listed_from marks (4 * sector) 4)
unfolding listed_from
all_listed marks sector = four_in (λ slot. slice_index_or marks slot false) sector (4 * sector) 4 (omega arith) (omega arith)

-- on a drive
pub frees_nothing : (drive : ℕ) (kind : Kind) (slots : List ℕ) (old new : Disks) → slots ≡ [] → new ≡ old → FreesOn drive kind slots old new
unfolding freed_image
frees_nothing drive kind slots old new none same = record {
  here = λ image is. ap (λ (d : Disks). d.image drive) same ∙ is ∙ ap (λ ss. Some (freed_image kind ss image)) (sym none);
  beside = elsewhere_same drive old new same;
}

frees_both : (drive : ℕ) (kind : Kind) (slots more : List ℕ) (a b c : Disks) → FreesOn drive kind slots a b → FreesOn drive kind more b c → FreesOn drive kind (slots ++ more) a c
frees_both drive kind slots more a b c one two = record {
  here = λ image is. two.here (freed_image kind slots image) (one.here image is) ∙ ap (λ im. Some im) (sym (image_both kind slots more image));
  beside = elsewhere_over drive a b c one.beside two.beside;
}

pub frees_more : (drive : ℕ) (kind : Kind) (marks : List Bool) (sector : ℕ) (a b c : Disks) → FreesOn drive kind (listed marks (4 * sector)) a b → FreesOn drive kind (listed_from marks (4 * sector) 4) b c
    → FreesOn drive kind (listed marks (4 * (sector + 1))) a c
frees_more drive kind marks sector a b c one two =
    subst (λ slots. FreesOn drive kind slots a c) (sym (listed_sectors marks sector)) (frees_both drive kind (listed marks (4 * sector)) (listed_from marks (4 * sector) 4) a b c one two)

-- a sector that was read, freed and written
pub frees_written : (drive : ℕ) (kind : Kind) (marks : List Bool) (sector place : ℕ) (read bytes : List ℕ) (old new : Disks) → place ≡ place_of kind sector
    → size_of old drive ≡ Some (geometry_of kind).bytes → sector < logical_sectors kind → IfSome (old.image drive) (λ image. read ≡ sector_of image place)
    → bytes ≡ freed_within (listed_from marks (4 * sector) 4) read → WritesSector drive place bytes old new → FreesOn drive kind (listed_from marks (4 * sector) 4) old new
frees_written drive kind marks sector place read bytes old new at size within was is writes = record {
  here = λ image has.
      let slots = listed_from marks (4 * sector) 4 in
      let p = place_of kind sector in
      let long : length image ≡ (geometry_of kind).bytes = same_Some (length image) (geometry_of kind).bytes (sym (ap (option_map length) has) ∙ size) in
      let inside : 128 * p + 128 ≤ length image = omega (arith, long, place_inside kind sector within) in
      let had : read ≡ sector_of image place = subst (λ (o : Option (List ℕ)). IfSome o (λ im. read ≡ sector_of im place)) has was in
      let put : new.image drive ≡ Some (with_sector image place bytes) = subst (λ (o : Option (List ℕ)). IfSome o (λ im. new.image drive ≡ Some (with_sector im place bytes))) has writes.here in
      put ∙ ap (λ ys. Some (with_sector image place ys)) (is ∙ ap (freed_within slots) had)
      ∙ ap (λ (k : ℕ). Some (with_sector image k (freed_within slots (sector_of image k)))) at
      ∙ ap (λ im. Some im) (sym (freed_sector_is kind sector slots image (all_listed marks sector) inside));
  beside = elsewhere_written drive place bytes old new writes;
}

-- so by the results of the device's calls
pub put_frees : {E : Type 0} (drive : ℕ) (kind : Kind) (marks : List Bool) (sector place : ℕ) (read bytes : List ℕ) (old mid new : Disks) (result : Result (Unit {0}) E) → mid ≡ old → place ≡ place_of kind sector
    → size_of old drive ≡ Some (geometry_of kind).bytes → sector < logical_sectors kind → IfSome (old.image drive) (λ image. read ≡ sector_of image place)
    → bytes ≡ freed_within (listed_from marks (4 * sector) 4) read → OnOk result (WritesSector drive place bytes mid new) → OnOk result (FreesOn drive kind (listed_from marks (4 * sector) 4) old new)
put_frees drive kind marks sector place read bytes old mid new (Ok done) same at size within was is writes =
    frees_written drive kind marks sector place read bytes old new at size within was is (subst (λ (d : Disks). WritesSector drive place bytes d new) same writes)
put_frees drive kind marks sector place read bytes old mid new (Err failed) same at size within was is writes = tt

pub put_fails : {E : Type 0} (drive : ℕ) (kind : Kind) (marks : List Bool) (sector place : ℕ) (read bytes : List ℕ) (old mid new : Disks) (result : Result (Unit {0}) E) → mid ≡ old → place ≡ place_of kind sector
    → size_of old drive ≡ Some (geometry_of kind).bytes → sector < logical_sectors kind → IfSome (old.image drive) (λ image. read ≡ sector_of image place)
    → bytes ≡ freed_within (listed_from marks (4 * sector) 4) read → OnErr result ((new ≡ mid) ⊎ WritesSector drive place bytes mid new)
    → OnErr result ((new ≡ old) ⊎ FreesOn drive kind (listed_from marks (4 * sector) 4) old new)
put_fails drive kind marks sector place read bytes old mid new (Ok done) same at size within was is left = tt
put_fails drive kind marks sector place read bytes old mid new (Err failed) same at size within was is (inl stays) = inl (stays ∙ same)
put_fails drive kind marks sector place read bytes old mid new (Err failed) same at size within was is (inr writes) =
    inr (frees_written drive kind marks sector place read bytes old new at size within was is (subst (λ (d : Disks). WritesSector drive place bytes d new) same writes))

-- the first sectors of a directory, all of them in the end
pub whole_sectors : (kind : Kind) → 4 * (((geometry_of kind).drm + 1) / 4) ≡ (geometry_of kind).drm + 1
whole_sectors Ibm3740 = refl
whole_sectors Hd4 = refl
whole_sectors Hd8 = refl

pub frees_first : (drive : ℕ) (kind : Kind) (marks : List Bool) (sector : ℕ) (a b c : Disks) → 4 * (sector + 1) ≤ (geometry_of kind).drm + 1 → FreesOn drive kind (listed marks (4 * sector)) a b
    → (c ≡ b) ⊎ FreesOn drive kind (listed_from marks (4 * sector) 4) b c → FreesFirst drive kind marks a c
frees_first drive kind marks sector a b c within so (inl same) = record {
  sectors = sector;
  within = omega (arith, within);
  frees = subst (λ (d : Disks). FreesOn drive kind (listed marks (4 * sector)) a d) (sym same) so;
}
frees_first drive kind marks sector a b c within so (inr more) = record { sectors = sector + 1; within = within; frees = frees_more drive kind marks sector a b c so more }

pub frees_all : (drive : ℕ) (kind : Kind) (marks : List Bool) (a b c : Disks) → c ≡ b → FreesOn drive kind (listed marks ((geometry_of kind).drm + 1)) a b → FreesFirst drive kind marks a c
frees_all drive kind marks a b c same so = record {
  sectors = ((geometry_of kind).drm + 1) / 4;
  within = omega (arith, whole_sectors kind);
  frees = subst (λ (n : ℕ). FreesOn drive kind (listed marks n) a c) (sym (whole_sectors kind)) (subst (λ (d : Disks). FreesOn drive kind (listed marks ((geometry_of kind).drm + 1)) a d) (sym same) so);
}

pub on_err : {A E P : Type 0} (result : Result A E) → P → OnErr result P
on_err (Ok answer) so = tt
on_err (Err error) so = so
