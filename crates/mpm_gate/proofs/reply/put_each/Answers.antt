use Rattle.std.proofs.Common.{◌∙◌}
use Rattle.mpm_gate.proofs.WritingLaws.{written_more, written_all}
use Rattle.mpm_gate.proofs.reply.put_each.Goals as goal

pub loop-byte-preserved : goal.loop-byte-preserved
loop-byte-preserved c =
    written_more _ _ _ _ _ _ c.loop-byte-test.true c.put.ensures ∙ c.loop-byte.invariant

pub returns : goal.returns
returns c = written_all _ _ _ _ _ c.loop-byte-test.false ∙ c.loop-byte.invariant
