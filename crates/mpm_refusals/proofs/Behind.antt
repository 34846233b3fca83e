-- A search after a place goes on from an entry that stands there or before it, and tests what it comes to.
use Rattle.std.proofs.Common.{◌≡◌, ◌∙◌, ℕ, ◌≤◌, ◌<◌, nat_lt, length, Bool, true, false, ◌&&◌, List, Option, Some, sym, refl, ap, arith}
use Rattle.std.specs.declared.cmp.Ordering.TheVariants.{Less}
use Rattle.std.specs.Ordering.{is_lt, nat_cmp, ordering_then}
use Rattle.std.specs.Cmp.{tied_itself, nat_cmp_is}
use Rattle.std.specs.Cmp.Lexicographic.{slice_cmp}
use Rattle.std.proofs.lemmas.Bool.{ltb-true, ltb-false}
use Rattle.std.proofs.lemmas.Cmp.{nat_cmp_total, nat_list_cmp_total}
use Rattle.mpm_base.specs.declared.kind.Kind.{Kind}
use Rattle.mpm_dirent.specs.Names.{plain}
use Rattle.mpm_mount.specs.Drives.{FileName, Drive, entry_cmp, entry_number}
use Rattle.mpm_mount.specs.Files.{entries_named, is_fitting}
use Rattle.mpm_mount.proofs.Sought.{by_fields, less_through}
use Rattle.mpm_mount.proofs.Lowest.{found_same}
use Rattle.mpm_refusals.specs.declared.searching.EntryPlace.{EntryPlace}
use Rattle.mpm_refusals.specs.Subjects.{is_behind, is_next, next_in, is_of_extent, found_in}
use Rattle.mpm_refusals.specs.Looking.{MissesNothing}

-- of entries of one user, the order is that of names and then of numbers
pub by_place : (user : ℕ) (name other : List ℕ) (m n : ℕ) → length name ≡ length other
    → entry_cmp (record { user = user; name = name; number = m }) (record { user = user; name = other; number = n }) ≡ ordering_then (slice_cmp nat_cmp name other) (nat_cmp m n)
by_place user name other m n same =
    by_fields (record { user = user; name = name; number = m }) (record { user = user; name = other; number = n }) same
    ∙ ap (λ r. ordering_then r (ordering_then (slice_cmp nat_cmp name other) (nat_cmp m n))) (tied_itself nat_cmp_total user)

pub by_number : (user : ℕ) (name : List ℕ) (m n : ℕ) → m < n
    → is_lt (entry_cmp (record { user = user; name = name; number = m }) (record { user = user; name = name; number = n })) ≡ true
by_number user name m n less =
    ap is_lt (by_place user name name m n refl
    ∙ ap (λ r. ordering_then r (nat_cmp m n)) (tied_itself nat_list_cmp_total name)
    ∙ sym (nat_cmp_is m n Less less))

-- what is after an entry is after one of a lower number too
pub lower : (user : ℕ) (name : List ℕ) (m n : ℕ) (entry : FileName × ℕ) → m ≤ n → is_behind (Some (record { user = user; name = name }, n)) entry ≡ true
    → is_behind (Some (record { user = user; name = name }, m)) entry ≡ true
lower user name m n entry h behind = by_test (nat_lt m n) refl
  where
    by_test : (b : Bool) → nat_lt m n ≡ b → is_behind (Some (record { user = user; name = name }, m)) entry ≡ true
    by_test true less =
        less_through (record { user = user; name = name; number = m }) (record { user = user; name = name; number = n }) (record { user = entry.0.user; name = entry.0.name; number = entry.1 })
        (by_number user name m n (ltb-true m n less)) behind
    by_test false not_less =
        let same : m ≡ n = omega (arith, ltb-false m n not_less, h) in
        ap (λ k. is_behind (Some (record { user = user; name = name }, k)) entry) same ∙ behind

pub starts_at : (user : ℕ) (kind : Kind) (place : EntryPlace) (extent slot : ℕ) → entry_number kind extent ≤ place.number
    → MissesNothing user kind (Some place) (Some (record { name = place.name; extent = extent; slot = slot }))
starts_at user kind place extent slot h = λ entry behind. lower user (plain place.name) (entry_number kind extent) place.number entry h behind

-- the search for a place's next is that from where it begins, for what comes after the place
abbrev pub is_sought : Kind → ℕ → Option (FileName × ℕ) → (FileName × ℕ) → Bool
is_sought kind extent behind entry = is_of_extent kind extent entry && is_behind behind entry

both_behind : (fits test behind start : Bool) → (behind ≡ true → start ≡ true) → (fits && (test && behind)) ≡ (fits && ((test && behind) && start))
both_behind false test behind start so = refl
both_behind true false behind start so = refl
both_behind true true false start so = refl
both_behind true true true start so = sym (so refl)

pub search_begins : (drive : Drive) (user : ℕ) (pattern : List ℕ) (extent : ℕ) (behind start : Option (FileName × ℕ))
    → ((entry : FileName × ℕ) → is_behind behind entry ≡ true → is_behind start entry ≡ true)
    → found_in drive user pattern extent behind ≡ next_in drive user pattern (is_sought drive.kind extent behind) start
unfolding found_in
search_begins drive user pattern extent behind start so =
    found_same (is_next user pattern (is_of_extent drive.kind extent) behind) (is_next user pattern (is_sought drive.kind extent behind) start) (entries_named drive)
    (λ entry. both_behind (is_fitting user pattern entry.0) (is_of_extent drive.kind extent entry) (is_behind behind entry) (is_behind start entry) (so entry))
