-- The orders of files and of their entries, and which keys they take for one.
use Rattle.std.proofs.Common.{◌≡◌, ℕ, true, List, [], ◌∷◌, ◌++◌, get_or, drop, ap}
use Rattle.std.specs.Ordering.{eq_by_cmp}
use Rattle.std.specs.Cmp.{IsTotalOrder, Equal-is}
use Rattle.std.specs.Cmp.Lexicographic.{nat_list_cmp_total}
use Rattle.std.specs.FinMap.{IsAntisymmetric, nat_cmp-IsAntisymmetric, slice_cmp-IsAntisymmetric}
use Rattle.std.proofs.lemmas.List.{same_from_push}
use Rattle.mpm_mount.specs.declared.slots.EntryName.{EntryName}
use Rattle.mpm_mount.specs.Drives.{FileName, file_cmp, entry_cmp}

abbrev entry_key : EntryName → List ℕ
entry_key a = a.user ∷ (a.name ++ (a.number ∷ []))

abbrev file_key : FileName → List ℕ
file_key a = a.user ∷ a.name

pub entry_total : IsTotalOrder entry_cmp
unfolding entry_cmp
entry_total = record {
  antisymm = λ x y. nat_list_cmp_total.antisymm (entry_key x) (entry_key y);
  trans = λ x y z. nat_list_cmp_total.trans (entry_key x) (entry_key y) (entry_key z);
  congr = λ x y z. nat_list_cmp_total.congr (entry_key x) (entry_key y) (entry_key z);
}

pub file_total : IsTotalOrder file_cmp
unfolding file_cmp
file_total = record {
  antisymm = λ x y. nat_list_cmp_total.antisymm (file_key x) (file_key y);
  trans = λ x y z. nat_list_cmp_total.trans (file_key x) (file_key y) (file_key z);
  congr = λ x y z. nat_list_cmp_total.congr (file_key x) (file_key y) (file_key z);
}

pub same_entry : (a b : EntryName) → a.user ≡ b.user → a.name ≡ b.name → a.number ≡ b.number → a ≡ b
same_entry a b user name number = λ i. record { user = user i; name = name i; number = number i }

pub same_file : (a b : FileName) → a.user ≡ b.user → a.name ≡ b.name → a ≡ b
same_file a b user name = λ i. record { user = user i; name = name i }

entry_from_key : (a b : EntryName) → entry_key a ≡ entry_key b → a ≡ b
entry_from_key a b keys =
    let rest : a.name ++ (a.number ∷ []) ≡ b.name ++ (b.number ∷ []) = ap (drop 1) keys in
    let parts = same_from_push a.name b.name a.number b.number rest in
    same_entry a b (ap (λ (k : List ℕ). get_or k 0 0) keys) parts.0 parts.1

pub entry_same : IsAntisymmetric entry_cmp
unfolding entry_cmp
entry_same a b tied = entry_from_key a b (slice_cmp-IsAntisymmetric nat_cmp-IsAntisymmetric (entry_key a) (entry_key b) tied)

pub file_same : IsAntisymmetric file_cmp
unfolding file_cmp
file_same a b tied =
    let keys : file_key a ≡ file_key b = slice_cmp-IsAntisymmetric nat_cmp-IsAntisymmetric (file_key a) (file_key b) tied in
    same_file a b (ap (λ (k : List ℕ). get_or k 0 0) keys) (ap (drop 1) keys)

pub entry_tied : (a b : EntryName) → eq_by_cmp entry_cmp a b ≡ true → a ≡ b
entry_tied a b tied = entry_same a b ((Equal-is (entry_cmp a b)).0 tied)

pub file_tied : (a b : FileName) → eq_by_cmp file_cmp a b ≡ true → a ≡ b
file_tied a b tied = file_same a b ((Equal-is (file_cmp a b)).0 tied)
