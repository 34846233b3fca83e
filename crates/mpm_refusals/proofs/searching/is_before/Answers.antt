use Rattle.std.proofs.Common.{◌≡◌, ◌∙◌, ◌%◌, length, sym, ap, arith}
use Rattle.std.specs.Ordering.{is_lt, nat_cmp, ordering_then}
use Rattle.std.specs.Cmp.Lexicographic.{slice_cmp}
use Rattle.std.proofs.lemmas.List.{length-map}
use Rattle.mpm_dirent.specs.Names.{plain}
use Rattle.mpm_refusals.proofs.Behind.{by_place}
use Rattle.mpm_refusals.proofs.searching.is_before.Goals as goal

pub returns : goal.returns
returns c = λ user.
    let sizes : length c.args.place.now.name ≡ length c.args.other.now.name = omega arith in
    c.is_lt.ensures
    ∙ ap is_lt (c.cmp.ensures
    ∙ (λ i. ordering_then (slice_cmp nat_cmp (c.plain.ensures i).name (c.plain-2.ensures i).name) (nat_cmp (c.plain.ensures i).number (c.plain-2.ensures i).number))
    ∙ sym (by_place user (plain c.args.place.now.name) (plain c.args.other.now.name) c.args.place.now.number c.args.other.now.number
    (length-map c.args.place.now.name (λ byte. byte % 128) ∙ sizes ∙ sym (length-map c.args.other.now.name (λ byte. byte % 128)))))
