-- Directory entries, as they are read sector by sector.
use Rattle.std.proofs.Common.{◌≡◌, ℕ, zero, suc, ◌+◌, ◌*◌, ◌/◌, ◌%◌, ◌<◌, Bool, List, [], ◌∷◌, ◌++◌, length, map, refl, sym, ap, subst, ◌∙◌, arith, add-zero, zero-add, add-one}
use Rattle.std.specs.Prelude.{Option, Some, None, IfSome}
use Rattle.std.specs.List.{range_with_len}
use Rattle.std.proofs.lemmas.List.{append-nil, append_assoc, length-append}
use Rattle.std.proofs.lemmas.List.FromFn.{map-range_with_len_more}
use Rattle.mpm_base.specs.declared.kind.Kind.{Kind}
use Rattle.mpm_base.specs.declared.kind.Kind.TheVariants.{Ibm3740, Hd4, Hd8}
use Rattle.mpm_blocks.specs.Geometries.{geometry_of, place_of}
use Rattle.mpm_blocks.specs.Sectors.{Sectors, sectors_of}
use Rattle.mpm_port.specs.Disks.{sector_of}
use Rattle.mpm_dirent.specs.declared.kinds.Entry.{Entry}
use Rattle.mpm_dirent.specs.Entries.{part, entry_of}
use Rattle.mpm_mount.specs.Images.{slot_entry, entries_to, entries_in}
use Rattle.mpm_mount.proofs.Ranges.{map_same}

split : {X : Type 0} (f : ℕ → X) (m n : ℕ) → map f (range_with_len 0 (m + n)) ≡ map f (range_with_len 0 m) ++ map (λ k. f (m + k)) (range_with_len 0 n)
split f m zero = ap (λ k. map f (range_with_len 0 k)) (add-zero m) ∙ sym (append-nil (map f (range_with_len 0 m)))
split f m (suc n) =
    let next : m + suc n ≡ m + n + 1 = omega arith in
    let front = map f (range_with_len 0 m) in
    let more = map (λ k. f (m + k)) (range_with_len 0 n) in
    ap (λ k. map f (range_with_len 0 k)) next
    ∙ map-range_with_len_more f 0 (m + n) (m + n) (zero-add (m + n))
    ∙ ap (λ xs. xs ++ (f (m + n) ∷ [])) (split f m n)
    ∙ append_assoc front more (f (m + n) ∷ [])
    ∙ ap (λ xs. front ++ xs) (sym (map-range_with_len_more (λ k. f (m + k)) 0 n n (zero-add n)))
    ∙ ap (λ k. front ++ map (λ j. f (m + j)) (range_with_len 0 k)) (add-one n)

-- an entry by its sector and its place there
slot_at : (sectors : Sectors) (wide : Bool) (n k : ℕ) → k < 4 → slot_entry sectors wide (4 * n + k) ≡ entry_of (part (32 * k) 32 (sectors n)) wide
slot_at sectors wide n k h =
    let place : (4 * n + k) % 4 ≡ k = omega arith in
    let sector : (4 * n + k) / 4 ≡ n = omega arith in
    ap (λ m. entry_of (part (32 * m) 32 (sectors ((4 * n + k) / 4))) wide) place ∙ ap (λ m. entry_of (part (32 * k) 32 (sectors m)) wide) sector

pub entries_to_more : (sectors : Sectors) (wide : Bool) (n : ℕ) → entries_to sectors wide (4 * (n + 1)) ≡ entries_to sectors wide (4 * n) ++ entries_in (sectors n) wide 4
unfolding entries_to entries_in
entries_to_more sectors wide n =
    let next : 4 * (n + 1) ≡ 4 * n + 4 = omega arith in
    ap (λ m. map (slot_entry sectors wide) (range_with_len 0 m)) next
    ∙ split (slot_entry sectors wide) (4 * n) 4
    ∙ ap (λ xs. map (slot_entry sectors wide) (range_with_len 0 (4 * n)) ++ xs)
    (map_same (λ k. slot_entry sectors wide (4 * n + k)) (λ k. entry_of (part (32 * k) 32 (sectors n)) wide) 4 (slot_at sectors wide n))

-- the entries of a sector, one by one
pub entries_in_none : (bytes : List ℕ) (wide : Bool) (before : List Entry) → before ≡ before ++ entries_in bytes wide 0
unfolding entries_in
entries_in_none bytes wide before = sym (append-nil before)

pub entries_in_more : (bytes : List ℕ) (wide : Bool) (k : ℕ) (before mid now : List Entry) (entry : Entry) → mid ≡ before ++ entries_in bytes wide k
    → now ≡ mid ++ (entry ∷ []) → entry ≡ entry_of (part (32 * k) 32 bytes) wide → now ≡ before ++ entries_in bytes wide (k + 1)
unfolding entries_in
entries_in_more bytes wide k before mid now entry was pushed is =
    let f : ℕ → Entry = λ place. entry_of (part (32 * place) 32 bytes) wide in
    pushed
    ∙ ap (λ xs. xs ++ (entry ∷ [])) was
    ∙ append_assoc before (map f (range_with_len 0 k)) (entry ∷ [])
    ∙ ap (λ e. before ++ (map f (range_with_len 0 k) ++ (e ∷ []))) is
    ∙ ap (λ xs. before ++ xs) (sym (map-range_with_len_more f 0 k k (zero-add k)))

pub nothing_read : (here : Option (List ℕ)) (kind : Kind) → IfSome here (λ image. [] ≡ entries_to (sectors_of image kind) (geometry_of kind).wide (4 * 0))
unfolding entries_to
nothing_read None kind = tt
nothing_read (Some image) kind = refl

read_more : (here : Option (List ℕ)) (kind : Kind) (n : ℕ) (mid now : List Entry)
    → IfSome here (λ image. mid ≡ entries_to (sectors_of image kind) (geometry_of kind).wide (4 * n))
    → IfSome here (λ image. now ≡ mid ++ entries_in (sectors_of image kind n) (geometry_of kind).wide 4)
    → IfSome here (λ image. now ≡ entries_to (sectors_of image kind) (geometry_of kind).wide (4 * (n + 1)))
read_more None kind n mid now was read = tt
read_more (Some image) kind n mid now was read =
    read ∙ ap (λ es. es ++ entries_in (sectors_of image kind n) (geometry_of kind).wide 4) was ∙ sym (entries_to_more (sectors_of image kind) (geometry_of kind).wide n)

pub more_read : (here before : Option (List ℕ)) (kind : Kind) (n : ℕ) (mid now : List Entry) → before ≡ here
    → IfSome here (λ image. mid ≡ entries_to (sectors_of image kind) (geometry_of kind).wide (4 * n))
    → IfSome before (λ image. now ≡ mid ++ entries_in (sectors_of image kind n) (geometry_of kind).wide 4)
    → IfSome here (λ image. now ≡ entries_to (sectors_of image kind) (geometry_of kind).wide (4 * (n + 1)))
more_read here before kind n mid now same was read =
    read_more here kind n mid now was
    (subst (λ (t : Option (List ℕ)). IfSome t (λ image. now ≡ mid ++ entries_in (sectors_of image kind n) (geometry_of kind).wide 4)) same read)

pub whole_directory : (kind : Kind) (n : ℕ) → n ≡ ((geometry_of kind).drm + 1) / 4 → 4 * n ≡ (geometry_of kind).drm + 1
whole_directory Ibm3740 n is = omega arith
whole_directory Hd4 n is = omega arith
whole_directory Hd8 n is = omega arith

-- a sector that was read
pub entries_in_size : (bytes : List ℕ) (wide : Bool) → length (entries_in bytes wide 4) ≡ 4
unfolding entries_in
entries_in_size bytes wide = refl

pub sized_more : (bytes : List ℕ) (wide : Bool) (old now : List Entry) → now ≡ old ++ entries_in bytes wide 4 → length now ≡ length old + 4
sized_more bytes wide old now is = omega (arith, length-append old (entries_in bytes wide 4), entries_in_size bytes wide, ap length is)

pub sector_read : (found : Option (List ℕ)) (kind : Kind) (sector place : ℕ) (bytes : List ℕ) (wide : Bool) (old now : List Entry) → place ≡ place_of kind sector
    → IfSome found (λ image. bytes ≡ sector_of image place) → now ≡ old ++ entries_in bytes wide 4
    → IfSome found (λ image. now ≡ old ++ entries_in (sectors_of image kind sector) wide 4)
unfolding sectors_of
sector_read None kind sector place bytes wide old now at read is = tt
sector_read (Some image) kind sector place bytes wide old now at read is =
    is ∙ ap (λ b. old ++ entries_in b wide 4) (read ∙ ap (λ (p : ℕ). sector_of image p) at)
