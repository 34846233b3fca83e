use Rattle.std.proofs.Common.{arith}
use Rattle.std.proofs.lemmas.List.FromFn.{fill_by_all}
use Rattle.mpm_names.specs.Spellings.{filled, kept_at}
use Rattle.mpm_names.proofs.fields.filled_to.Goals as goal

pub returns : goal.returns
unfolding filled
returns g c =
    fill_by_all (kept_at c.args.field.now c.args.star) _ _ 0 c.loop-place.invariant.size (λ k h. c.loop-place.invariant.done k (omega arith))
