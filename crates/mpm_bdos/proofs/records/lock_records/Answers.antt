use Rattle.std.proofs.Common.{◌∙◌, ap, arith}
use Rattle.mpm_opens.specs.Opens.{OpenFiles}
use Rattle.mpm_bdos.specs.Records.{Locking}
use Rattle.mpm_bdos.proofs.Locking.{locked_stop, one_locked_more, all_locked}
use Rattle.mpm_bdos.specs.Leaving.{ended_of}
use Rattle.mpm_bdos.proofs.records.lock_records.Goals as goal

pub returns-in-Some : goal.returns-in-Some
returns-in-Some c =
    let all = locked_stop c.args.mounted.now c.args.opens.now c.loop-k.opens c.lock_record.new.opens c.args.item c.args.file c.args.first c.args.count c.loop-k.k
    c.from.result c.read_error-error.result c.lock_record.result c.in-Some.end c.loop-k.invariant (omega (arith, c.loop-k-test.true)) c.from.ensures
    (record { named = c.requires.plain_is; its = c.requires.file_is; reads = c.read_error-error.ensures; comes = c.lock_record.ensures.end })
    c.in-Some.is c.in-Some.ensures.kept in
    record {
      opens = λ image drive stands. ap (λ (l : Locking). l.opens) (all image drive stands);
      ended = λ image drive stands. ap ended_of (all image drive stands);
      items = ap (λ (o : OpenFiles). o.items) c.in-Some.ensures.kept ∙ c.loop-k.invariant.items;
    }

pub loop-k-preserved : goal.loop-k-preserved
loop-k-preserved c =
    one_locked_more c.args.mounted.now c.args.opens.now c.loop-k.opens c.lock_record.new.opens c.args.item c.args.file c.args.first c.args.count c.loop-k.k
    c.from.result c.read_error-error.result c.lock_record.result c.loop-k.invariant c.from.ensures
    (record { named = c.requires.plain_is; its = c.requires.file_is; reads = c.read_error-error.ensures; comes = c.lock_record.ensures.end })
    c.in-None.is (c.lock_record.ensures.locked c.in-None.is) c.lock_record.ensures.live

pub returns : goal.returns
returns c =
    let all = all_locked c.args.mounted.now c.args.opens.now c.loop-k.opens c.args.item c.args.file c.args.first c.args.count c.loop-k.k c.loop-k.invariant
    (omega (arith, c.loop-k-test.false, c.loop-k.auto.k-end)) in
    record {
      opens = λ image drive stands. ap (λ (l : Locking). l.opens) (all image drive stands);
      ended = λ image drive stands. ap ended_of (all image drive stands);
      items = c.loop-k.invariant.items;
    }
