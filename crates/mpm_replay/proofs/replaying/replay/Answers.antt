use Rattle.mpm_banks.specs.Sides.{alone}
use Rattle.mpm_replay.specs.Replays.{portless}
use Rattle.mpm_replay.proofs.AgreeLaws.{agreed_from}
use Rattle.mpm_replay.proofs.replaying.replay.Goals as goal

pub returns-clause-agrees : goal.returns-clause-agrees
returns-clause-agrees c seg views is each =
    agreed_from c.args.inside seg c.args.most views (portless c.args.spec c.args.regs.now c.args.segment.now c.args.common.now) c.advance_on.new.regs
    (alone c.args.spec c.advance_on.new.segment c.advance_on.new.common) c.advance_on.result c.advance_on.ensures is each
