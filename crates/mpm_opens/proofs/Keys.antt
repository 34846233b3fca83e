-- Files are one where their keys are, and which modes exclude each other goes both ways.
use Rattle.std.proofs.Common.{◌≡◌, ◌∙◌, ℕ, true, ◌==◌, ◌&&◌, List, refl, ap, arith}
use Rattle.std.specs.Prelude.{bytes_eq}
use Rattle.std.proofs.lemmas.Bool.Decides.{nat_tests}
use Rattle.std.proofs.lemmas.Slice.Eq.{bytes_eq-Decides}
use Rattle.std.proofs.lemmas.Bool.{and_parts, eqb-true}
use Rattle.std.specs.Cmp.{both_ways}
use Rattle.mpm_opens.specs.declared.kinds.FileKey.{FileKey}
use Rattle.mpm_opens.specs.declared.kinds.Mode.{Mode}
use Rattle.mpm_opens.specs.declared.kinds.Mode.TheVariants.{Locked, Unlocked, ReadOnly}
use Rattle.mpm_opens.specs.Kinds.{is_same_file, is_same_mode, do_modes_go_together}

pub is_itself : (a : ℕ) → (a == a) ≡ true
is_itself a = grind (arith, nat_tests)

same_parts : (a b : FileKey) → a.drive ≡ b.drive → a.user ≡ b.user → a.name ≡ b.name → a ≡ b
same_parts a b d u n =
    let with_drive : ℕ → FileKey = λ x. record a { drive = x } in
    let with_user : ℕ → FileKey = λ x. record a { drive = b.drive; user = x } in
    let with_name : List ℕ → FileKey = λ x. record b { name = x } in
    ap with_drive d ∙ ap with_user u ∙ ap with_name n

pub same_file : (a b : FileKey) → is_same_file a b ≡ true → a ≡ b
same_file a b e =
    let first = and_parts (a.drive == b.drive) ((a.user == b.user) && bytes_eq a.name b.name) e in
    let rest = and_parts (a.user == b.user) (bytes_eq a.name b.name) (first.1) in
    same_parts a b (eqb-true a.drive b.drive (first.0)) (eqb-true a.user b.user (rest.0)) ((bytes_eq-Decides a.name b.name).0 (rest.1))

pub file_is_itself : (a : FileKey) → is_same_file a a ≡ true
file_is_itself a =
    let name : bytes_eq a.name a.name ≡ true = (bytes_eq-Decides a.name a.name).1 refl in
    ap (λ b. b && ((a.user == a.user) && bytes_eq a.name a.name)) (is_itself a.drive)
    ∙ ap (λ b. b && bytes_eq a.name a.name) (is_itself a.user) ∙ name

-- a test that follows from one the other way round is it
pub same_file_back : (a b : FileKey) → is_same_file a b ≡ is_same_file b a
same_file_back a b =
    both_ways (is_same_file a b) (is_same_file b a)
    (λ e. ap (λ x. is_same_file b x) (same_file a b e) ∙ file_is_itself b)
    (λ e. ap (λ x. is_same_file a x) (same_file b a e) ∙ file_is_itself a)

pub same_number_back : (a b : ℕ) → (a == b) ≡ (b == a)
same_number_back a b = grind (arith, nat_tests)

pub same_mode_back : (a b : Mode) → is_same_mode a b ≡ is_same_mode b a
same_mode_back Locked Locked = refl
same_mode_back Locked Unlocked = refl
same_mode_back Locked ReadOnly = refl
same_mode_back Unlocked Locked = refl
same_mode_back Unlocked Unlocked = refl
same_mode_back Unlocked ReadOnly = refl
same_mode_back ReadOnly Locked = refl
same_mode_back ReadOnly Unlocked = refl
same_mode_back ReadOnly ReadOnly = refl

pub go_together_back : (a b : Mode) → do_modes_go_together a b ≡ do_modes_go_together b a
go_together_back Locked Locked = refl
go_together_back Locked Unlocked = refl
go_together_back Locked ReadOnly = refl
go_together_back Unlocked Locked = refl
go_together_back Unlocked Unlocked = refl
go_together_back Unlocked ReadOnly = refl
go_together_back ReadOnly Locked = refl
go_together_back ReadOnly Unlocked = refl
go_together_back ReadOnly ReadOnly = refl

pub mode_is_itself : (a : Mode) → is_same_mode a a ≡ true
mode_is_itself Locked = refl
mode_is_itself Unlocked = refl
mode_is_itself ReadOnly = refl

pub same_mode : (a b : Mode) → is_same_mode a b ≡ true → a ≡ b
same_mode Locked Locked e = refl
same_mode Locked Unlocked e = absurd (cc)
same_mode Locked ReadOnly e = absurd (cc)
same_mode Unlocked Locked e = absurd (cc)
same_mode Unlocked Unlocked e = refl
same_mode Unlocked ReadOnly e = absurd (cc)
same_mode ReadOnly Locked e = absurd (cc)
same_mode ReadOnly Unlocked e = absurd (cc)
same_mode ReadOnly ReadOnly e = refl
