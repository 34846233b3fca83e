-- One of the ninety-six lists, where nobody is in the others.
use Rattle.std.proofs.Common.{◌≡◌, ℕ, zero, suc, Bool, true, false, List, [], ◌∷◌, Option, Some, None, map, replicate, is_some, refl, sym, ap, ◌∙◌}
use Rattle.mpm_ready.specs.Order.{Member, put_in, without_slot, in_list}
use Rattle.mpm_ready.specs.Tables.{list_at, list_of, no_lists, inserted, removed}
use Rattle.mpm_ready.proofs.TableLaws.{none_in_none, list_of_unlisted}
use Rattle.mpm_service.specs.Waiting.{only_list}

pub none_listed : only_list [] ≡ no_lists
unfolding only_list no_lists
none_listed = refl

pub the_list : (ms : List Member) → list_at (only_list ms) 0 ≡ ms
unfolding only_list
the_list ms = refl

pub put_in_list : (ms : List Member) (member : Member) → inserted (only_list ms) 0 member ≡ only_list (put_in ms member)
unfolding only_list inserted
put_in_list ms member = refl

others_removed : (p n : ℕ) → map (without_slot p) (replicate n []) ≡ replicate n []
unfolding without_slot
others_removed p zero = refl
others_removed p (suc n) = ap (λ (rest : List (List Member)). [] ∷ rest) (others_removed p n)

pub taken_out : (ms : List Member) (p : ℕ) → removed (only_list ms) p ≡ only_list (without_slot p ms)
unfolding only_list removed
taken_out ms p = ap (λ (rest : List (List Member)). without_slot p ms ∷ rest) (others_removed p 95)

no_other : (n k : ℕ) → list_at (replicate n []) k ≡ []
no_other zero k = refl
no_other (suc n) zero = refl
no_other (suc n) (suc k) = no_other n k

in_none : (ms : List Member) (p list : ℕ) → in_list p ms ≡ false → in_list p (list_at (only_list ms) list) ≡ false
unfolding only_list
in_none ms p zero absent = absent
in_none ms p (suc k) absent = ap (in_list p) (no_other 95 k) ∙ none_in_none p

-- a process is in the list or in none
pub in_no_list : (ms : List Member) (p : ℕ) → in_list p ms ≡ false → list_of (only_list ms) p ≡ None
in_no_list ms p absent = list_of_unlisted (only_list ms) p (λ list. in_none ms p list absent)

in_some_list : (ms : List Member) (p : ℕ) → in_list p ms ≡ true → list_of (only_list ms) p ≡ Some 0
unfolding list_of only_list
in_some_list ms p here = rw here refl

listed_at : (ms : List Member) (p : ℕ) (b : Bool) → in_list p ms ≡ b → is_some (list_of (only_list ms) p) ≡ b
listed_at ms p true here = ap (λ (o : Option ℕ). is_some o) (in_some_list ms p here)
listed_at ms p false absent = ap (λ (o : Option ℕ). is_some o) (in_no_list ms p absent)

-- the same over lists that are known to be one, as the calls name them
pub one_at_first : (lists : List (List Member)) → lists ≡ no_lists → lists ≡ only_list (list_at lists 0)
one_at_first lists is = is ∙ sym none_listed ∙ sym (ap only_list (ap (λ (ls : List (List Member)). list_at ls 0) (is ∙ sym none_listed) ∙ the_list []))

pub none_at_first : (lists : List (List Member)) → lists ≡ no_lists → list_at lists 0 ≡ []
none_at_first lists is = ap (λ (ls : List (List Member)). list_at ls 0) (is ∙ sym none_listed) ∙ the_list []

after_change : (new : List (List Member)) (ms : List Member) → new ≡ only_list ms → (new ≡ only_list (list_at new 0)) × (list_at new 0 ≡ ms)
after_change new ms is =
    let first : list_at new 0 ≡ ms = ap (λ (ls : List (List Member)). list_at ls 0) is ∙ the_list ms in
    (is ∙ sym (ap only_list first), first)

put_one : (lists new : List (List Member)) (member : Member) → lists ≡ only_list (list_at lists 0) → new ≡ inserted lists 0 member → new ≡ only_list (put_in (list_at lists 0) member)
put_one lists new member one is =
    is ∙ ap (λ (ls : List (List Member)). inserted ls 0 member) one ∙ put_in_list (list_at lists 0) member

pub one_after_put : (lists new : List (List Member)) (member : Member) → lists ≡ only_list (list_at lists 0) → new ≡ inserted lists 0 member → new ≡ only_list (list_at new 0)
one_after_put lists new member one is = (after_change new _ (put_one lists new member one is)).0

pub list_after_put : (lists new : List (List Member)) (member : Member) → lists ≡ only_list (list_at lists 0) → new ≡ inserted lists 0 member → list_at new 0 ≡ put_in (list_at lists 0) member
list_after_put lists new member one is = (after_change new _ (put_one lists new member one is)).1

pub unlisted_before_put : (lists : List (List Member)) (p : ℕ) → lists ≡ only_list (list_at lists 0) → in_list p (list_at lists 0) ≡ false → list_of lists p ≡ None
unlisted_before_put lists p one absent = ap (λ (ls : List (List Member)). list_of ls p) one ∙ in_no_list (list_at lists 0) p absent

remove_one : (lists new : List (List Member)) (p : ℕ) → lists ≡ only_list (list_at lists 0) → new ≡ removed lists p → new ≡ only_list (without_slot p (list_at lists 0))
remove_one lists new p one is =
    is ∙ ap (λ (ls : List (List Member)). removed ls p) one ∙ taken_out (list_at lists 0) p

pub one_after_removal : (lists new : List (List Member)) (p : ℕ) → lists ≡ only_list (list_at lists 0) → new ≡ removed lists p → new ≡ only_list (list_at new 0)
one_after_removal lists new p one is = (after_change new _ (remove_one lists new p one is)).0

pub list_after_removal : (lists new : List (List Member)) (p : ℕ) → lists ≡ only_list (list_at lists 0) → new ≡ removed lists p → list_at new 0 ≡ without_slot p (list_at lists 0)
list_after_removal lists new p one is = (after_change new _ (remove_one lists new p one is)).1

pub listed_in_one : (lists : List (List Member)) (p : ℕ) → lists ≡ only_list (list_at lists 0) → is_some (list_of lists p) ≡ in_list p (list_at lists 0)
listed_in_one lists p one = ap (λ (ls : List (List Member)). is_some (list_of ls p)) one ∙ listed_at (list_at lists 0) p (in_list p (list_at lists 0)) refl
