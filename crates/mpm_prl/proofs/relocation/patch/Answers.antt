use Rattle.std.proofs.Common.{arith}
use Rattle.std.proofs.lemmas.List.FromFn.{fill_by_all}
use Rattle.mpm_prl.specs.Relocation.{relocated, relocated_byte}
use Rattle.mpm_prl.proofs.relocation.patch.Goals as goal

pub returns : goal.returns
unfolding relocated
returns c =
    let place = c.loop-place.place in
    fill_by_all (relocated_byte c.args.code.now c.args.bits.now c.args.page) _ _ 0 c.loop-place.invariant.size (λ k h. c.loop-place.invariant.done k (omega arith))
