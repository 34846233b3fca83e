use Rattle.std.proofs.Common.{◌≡◌, length, sym, ap, ◌∙◌, arith}
use Rattle.std.specs.Ordering.{is_lt}
use Rattle.mpm_mount.proofs.Sought.{by_fields}
use Rattle.mpm_mount.proofs.searching.is_less.Goals as goal

pub returns : goal.returns
returns c =
    let sizes : length c.args.a.now.name ≡ length c.args.b.now.name = omega arith in
    c.is_lt.ensures ∙ ap is_lt (c.cmp.ensures ∙ sym (by_fields c.args.a.now c.args.b.now sizes))
