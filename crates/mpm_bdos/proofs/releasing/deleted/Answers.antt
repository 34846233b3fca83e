use Rattle.std.proofs.Common.{arith}
use Rattle.mpm_bdos.specs.Changes.{is_deleted_in}
use Rattle.mpm_bdos.proofs.DeletedFiles.{deleted_all}
use Rattle.mpm_bdos.proofs.releasing.deleted.Goals as goal

pub returns : goal.returns
returns c = λ image drive stands.
    deleted_all c.args.opens.now.items c.loop-number.deleted c.args.p (is_deleted_in drive c.args.deletion.now) c.recall_sound.ensures.items.places c.loop-number.invariant.size
    (λ k h. c.loop-number.invariant.done image drive stands k (omega (arith, h, c.loop-number-test.false)))
