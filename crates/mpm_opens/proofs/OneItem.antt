-- A process that has nothing open: others open nothing for it, a file that it opens is its only one, and as that is closed it has none.
use Rattle.std.proofs.Common.{◌≡◌, ◌≢◌, ◌∙◌, inl, inr, ℕ, Bool, true, false, ◌==◌, Option, Some, None, sym, refl, ap, subst, arith}
use Rattle.std.specs.Prelude.{unwrap_or}
use Rattle.std.proofs.lemmas.Bool.{false≢true, and_parts, eqb-true, cases_eq}
use Rattle.mpm_opens.specs.declared.kinds.FileKey.{FileKey}
use Rattle.mpm_opens.specs.declared.kinds.Mode.{Mode}
use Rattle.mpm_opens.specs.declared.kinds.Item.{Item}
use Rattle.mpm_opens.specs.Kinds.{is_same_file}
use Rattle.mpm_opens.specs.Items.{no_items, has_item, is_of, place_at, blank_item, item_at, number_of, first_free, refusal_of, opened_number, items_without}
use Rattle.mpm_opens.specs.Opens.{OpenFiles, none_open, IsItemOf, item_of, given_back, closed_at, closed, AreOpen, LeavesOthers, HasNone, HasOne, OpensNone, IsOpened, IsClosed}
use Rattle.mpm_opens.proofs.ItemLaws.{place_left, so_of_left, none_at}
use Rattle.mpm_opens.proofs.OpeningLaws.{item_stands, may_open, free_place}
use Rattle.mpm_opens.proofs.LeavingLaws.{closes}
use Rattle.mpm_opens.proofs.FindingLaws.{closed_is}

-- nothing is open
pub none_at_first : (p : ℕ) → HasNone p none_open
unfolding none_open no_items
none_at_first p number = ap (has_item (is_of p)) (none_at 64 number)

-- what others do
pub others_open_none : (p q : ℕ) (old new : OpenFiles) → LeavesOthers p old new → p ≢ q → OpensNone q old new
others_open_none p q old new leaves apart number none = by_place (place_at new.items number) refl
  where
    by_test : (item : Item) (b : Bool) → (item.process == q) ≡ b → place_at new.items number ≡ Some item → b ≡ false
    by_test item false is at = refl
    by_test item true is at =
        let its : item.process ≡ q = eqb-true item.process q is in
        absurd (false≢true (sym none ∙ ap (has_item (is_of q)) (leaves.was number item at (λ e. apart (sym e ∙ its))) ∙ is))

    by_place : (place : Option Item) → place_at new.items number ≡ place → has_item (is_of q) place ≡ false
    by_place None at = refl
    by_place (Some item) at = by_test item (item.process == q) refl at

pub one_still : (q number : ℕ) (old new : OpenFiles) → OpensNone q old new → place_at new.items number ≡ place_at old.items number → HasOne q number old → HasOne q number new
one_still q number old new none same one = record {
  once = ap (λ (o : Option Item). (unwrap_or o blank_item).count) same ∙ one.once;
  others = λ k apart. none k (one.others k apart);
}

-- what is given back
pub given_back_opens_none : (p q : ℕ) (among : FileKey → Bool) (opens : OpenFiles) → OpensNone q opens (given_back opens p among)
unfolding given_back items_without
given_back_opens_none p q among opens number none =
    ap (has_item (is_of q)) (place_left opens.items p among number)
    ∙ so_of_left (λ (place : Option Item). has_item (is_of q) place ≡ false) p among (place_at opens.items number) refl none

-- a file is opened first
none_found : (opens : OpenFiles) (p : ℕ) (file : FileKey) → HasNone p opens → number_of opens.items p file ≡ None
none_found opens p file none = by_number (number_of opens.items p file) refl
  where
    by_number : (o : Option ℕ) → number_of opens.items p file ≡ o → o ≡ None
    by_number None e = refl
    by_number (Some i) e =
        let stands = item_stands opens.items p file i e in
        let item = item_at opens.items i in
        absurd (false≢true (sym (none i) ∙ ap (has_item (is_of p)) (stands.0) ∙ (and_parts (item.process == p) (is_same_file item.file file) (stands.1)).0))

pub free_first : (opens : OpenFiles) (p : ℕ) (file : FileKey) (mode : Mode) → refusal_of opens.items p file mode ≡ None → HasNone p opens
    → place_at opens.items (opened_number opens.items p file) ≡ None
unfolding opened_number
free_first opens p file mode may none =
    ap (λ o. place_at opens.items (unwrap_or o (first_free opens.items))) (none_found opens p file none)
    ∙ (free_place opens.items ((may_open opens.items p file mode may).room)).1

pub one_opened : (p number : ℕ) (file : FileKey) (mode : Mode) (old new : OpenFiles) → IsOpened p file mode number old new → place_at old.items number ≡ None → HasNone p old
    → HasOne p number new
one_opened p number file mode old new so free none = record {
  once = ap (λ (o : Option Item). (unwrap_or o blank_item).count) (so.first free);
  others = λ k apart. ap (has_item (is_of p)) (so.others k apart) ∙ none k;
}

-- and closed
last_closed : (p number : ℕ) (old new : OpenFiles) → IsClosed number old new → HasOne p number old → HasNone p new
last_closed p number old new is one k =
    elim (cases_eq k number) [
      | inl same ↦ ap (λ n. has_item (is_of p) (place_at new.items n)) same ∙ ap (has_item (is_of p)) (is.gone (omega (arith, one.once)))
      | inr apart ↦ ap (has_item (is_of p)) (is.others k apart) ∙ one.others k apart
    ]

pub none_closed : (opens : OpenFiles) (p : ℕ) (file : FileKey) (number : ℕ) → AreOpen opens → IsItemOf opens p file number → HasOne p number opens → HasNone p (closed opens p file)
none_closed opens p file number sound its one =
    subst (λ (f : FileKey). HasNone p (closed opens p f)) its.its_file
    (subst (λ (r : ℕ). HasNone p (closed opens r (item_of opens number).file)) its.its_process
    (subst (HasNone p) (closed_is opens number sound its.live) (last_closed p number opens (closed_at opens number) (closes opens number sound its.live) one)))
