use Rattle.std.proofs.Common.{arith}
use Rattle.std.proofs.lemmas.List.FromFn.{fill_by_all}
use Rattle.mpm_generator.specs.Images.{number_at}
use Rattle.mpm_generator.proofs.Places.{each_number}
use Rattle.mpm_generator.proofs.imaging.numbers_from.Goals as goal

pub returns : goal.returns
returns c =
    let loop = c.loop-place in
    fill_by_all (number_at c.args.first c.args.count) _ _ 0 loop.invariant.size
    (λ k below. each_number c.args.first c.args.count k _ (λ there. loop.invariant.done k (omega arith)) (λ beyond. loop.invariant.left k (omega arith)))
