-- The slots of a directory's own list are different and rising, so that they are what a text of it names.
use Rattle.std.proofs.Common.{◌≡◌, ℕ, zero, suc, ◌+◌, ◌==◌, Bool, true, false, ◌&&◌, List, ◌∷◌, Option, Some, None, map, length, get_or, refl, sym, ap, ◌∙◌, arith, eq-eqb}
use Rattle.std.specs.Prelude.{option_map, is_some, cond}
use Rattle.std.specs.List.{range_with_len, filter, filter_map, cons_option, list_any}
use Rattle.std.proofs.lemmas.Bool.{eqb-true}
use Rattle.std.proofs.lemmas.Map.Views.{any-filter_same}
use Rattle.mpm_base.proofs.Lists.{any_at}
use Rattle.mpm_base.specs.declared.kind.Kind.{Kind}
use Rattle.mpm_dirent.specs.declared.kinds.Entry.{Entry}
use Rattle.mpm_dirent.specs.declared.kinds.Entry.TheVariants.{Free}
use Rattle.mpm_fault_lines.specs.declared.fault.SlotFault.{SlotFault}
use Rattle.mpm_repair.specs.FaultLists.{staying, cause_in, told_of, fault_in, fault_list, slot_of}
use Rattle.mpm_fault_lines.proofs.Marks.{filter_alike}
use Rattle.mpm_fault_lines.specs.Lists.{different}

told_step : (kind : Kind) (earlier : List Entry) (slot : ℕ) (entry : Entry) (o : Option ℕ) (items : List SlotFault)
    → map slot_of (cons_option (option_map (told_of kind earlier slot entry) o) items) ≡ cond (is_some o) (slot ∷ map slot_of items) (map slot_of items)
told_step kind earlier slot entry None items = refl
told_step kind earlier slot entry (Some cause) items = refl

slots_from : (kind : Kind) (entries : List Entry) (a n : ℕ)
    → map slot_of (filter_map (fault_in kind entries) (range_with_len a n)) ≡ filter (λ slot. is_some (cause_in kind entries slot)) (range_with_len a n)
slots_from kind entries a zero = refl
slots_from kind entries a (suc n) =
    let items = filter_map (fault_in kind entries) (range_with_len (a + 1) n) in
    told_step kind (staying kind entries a) a (get_or entries a Free) (cause_in kind entries a) items
    ∙ ap (λ slots. cond (is_some (cause_in kind entries a)) (a ∷ slots) slots) (slots_from kind entries (a + 1) n)

and_so : (a b : Bool) → b ≡ true → (a && b) ≡ a
and_so true b is = is
and_so false b is = refl

pub own_slots : (kind : Kind) (entries : List Entry) → different (length entries) (map slot_of (fault_list kind entries)) ≡ map slot_of (fault_list kind entries)
unfolding fault_list different
own_slots kind entries =
    let n : ℕ = length entries in
    let p : ℕ → Bool = λ slot. is_some (cause_in kind entries slot) in
    let are = slots_from kind entries 0 n in
    ap (λ slots. filter (λ slot. list_any (λ other. other == slot) slots) (range_with_len 0 n)) are
    ∙ filter_alike (λ slot. list_any (λ other. other == slot) (filter p (range_with_len 0 n))) p 0 n (λ slot low high.
    any-filter_same (λ other. other == slot) p (p slot) (λ k same. ap p (eqb-true k slot same)) (range_with_len 0 n)
    ∙ and_so (p slot) (list_any (λ other. other == slot) (range_with_len 0 n)) (any_at (λ other. other == slot) n slot (omega arith) (eq-eqb slot slot refl)))
    ∙ sym are
