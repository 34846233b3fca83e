use Rattle.mpm_gate.proofs.BytesLaws.{bytes_are}
use Rattle.mpm_gate.proofs.take.block_of_each.Goals as goal

pub returns : goal.returns
returns c = bytes_are _ _ _ _ _ c.loop-k.invariant.size c.loop-k-test.false c.loop-k.invariant.read
