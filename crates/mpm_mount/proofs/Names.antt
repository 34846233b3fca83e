-- Names of files and of their entries: which are one.
use Rattle.std.proofs.Common.{◌≡◌, ℕ, true, false, ◌==◌, List, [], ◌∷◌, ◌++◌, get_or, drop, refl, sym, ap, ◌∙◌, arith}
use Rattle.std.specs.Prelude.{bytes_eq}
use Rattle.std.specs.Ordering.{eq_by_cmp, is_eq}
use Rattle.std.specs.Cmp.{Equal-is, tied_itself}
use Rattle.std.specs.FinMap.{nat_cmp-IsAntisymmetric, slice_cmp-IsAntisymmetric}
use Rattle.std.proofs.lemmas.Bool.{true≢false, false_from_ne_true, and_parts, and_from, eq-eqb}
use Rattle.std.proofs.lemmas.Bool.Decides.{nat_tests}
use Rattle.std.proofs.lemmas.List.{same_from_push}
use Rattle.std.proofs.lemmas.Slice.Eq.{bytes_eq-Decides}
use Rattle.mpm_base.proofs.Tests.{one_test}
use Rattle.mpm_mount.specs.Drives.{FileName, file_cmp, entry_cmp}
use Rattle.mpm_mount.specs.Files.{is_same_file}
use Rattle.mpm_mount.proofs.Orders.{file_tied, file_total}

equal_tested : (a b : ℕ) → (a == b) ≡ true → a ≡ b
equal_tested a b e = grind (arith, nat_tests)

pub one_file : (a b : FileName) → is_same_file a b ≡ true → a ≡ b
one_file a b same =
    let parts = and_parts (a.user == b.user) (bytes_eq a.name b.name) same in
    let user : a.user ≡ b.user = equal_tested a.user b.user parts.0 in
    let name : a.name ≡ b.name = (bytes_eq-Decides a.name b.name).0 parts.1 in
    λ i. record { user = user i; name = name i }

same_parts : (a b : FileName) → a.user ≡ b.user → a.name ≡ b.name → is_same_file a b ≡ true
same_parts a b user name =
    and_from (a.user == b.user) (bytes_eq a.name b.name) (eq-eqb a.user b.user user) ((bytes_eq-Decides a.name b.name).1 name)

pub is_itself : (a : FileName) → is_same_file a a ≡ true
is_itself a = same_parts a a refl refl

-- one entry is one entry of one file
pub entry_parts : (a b : FileName) (k m : ℕ)
    → eq_by_cmp entry_cmp (record { user = a.user; name = a.name; number = k }) (record { user = b.user; name = b.name; number = m }) ≡ true
    → (is_same_file a b ≡ true) × (k ≡ m)
unfolding entry_cmp
entry_parts a b k m tied =
    let keys : a.user ∷ (a.name ++ (k ∷ [])) ≡ b.user ∷ (b.name ++ (m ∷ [])) =
    slice_cmp-IsAntisymmetric nat_cmp-IsAntisymmetric (a.user ∷ (a.name ++ (k ∷ []))) (b.user ∷ (b.name ++ (m ∷ []))) ((Equal-is _).0 tied) in
    let parts = same_from_push a.name b.name k m (ap (drop 1) keys) in
    (same_parts a b (ap (λ (l : List ℕ). get_or l 0 0) keys) parts.0, parts.1)

pub entries_differ : (a b : FileName) (k m : ℕ) → is_same_file a b ≡ false
    → eq_by_cmp entry_cmp (record { user = a.user; name = a.name; number = k }) (record { user = b.user; name = b.name; number = m }) ≡ false
entries_differ a b k m apart = false_from_ne_true _ (λ tied. true≢false (sym ((entry_parts a b k m tied).0) ∙ apart))

pub files_differ : (a b : FileName) → is_same_file a b ≡ false → eq_by_cmp file_cmp a b ≡ false
files_differ a b apart =
    false_from_ne_true (eq_by_cmp file_cmp a b) (λ tied. true≢false (sym (is_itself a) ∙ ap (λ (f : FileName). is_same_file a f) (file_tied a b tied) ∙ apart))

pub same_back : (a b : FileName) → is_same_file a b ≡ is_same_file b a
same_back a b =
    one_test (is_same_file a b) (is_same_file b a)
    (λ e. ap (λ (x : FileName). is_same_file b x) (one_file a b e) ∙ is_itself b)
    (λ e. ap (λ (x : FileName). is_same_file a x) (one_file b a e) ∙ is_itself a)

pub same_by_cmp : (a b : FileName) → eq_by_cmp file_cmp a b ≡ is_same_file a b
same_by_cmp a b =
    one_test (eq_by_cmp file_cmp a b) (is_same_file a b)
    (λ tied. ap (λ (x : FileName). is_same_file a x) (sym (file_tied a b tied)) ∙ is_itself a)
    (λ same. ap (λ (x : FileName). eq_by_cmp file_cmp a x) (sym (one_file a b same)) ∙ ap is_eq (tied_itself file_total a))
