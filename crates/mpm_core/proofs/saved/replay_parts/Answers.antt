use Rattle.std.proofs.Common.{rules, refl}
use Rattle.mpm_core.proofs.ReplayedLaws.{is_replayed}
use Rattle.mpm_core.proofs.saved.replay_parts.Goals as goal

pub returns : goal.returns
returns c = record {
  replayed = record { head = refl; replay = c.replay-replayed.ensures.replayed };
  is = is_replayed (record { head = c.args.head.now; segment = c.args.segment.now; common = c.args.common.now }) c.replay-replayed.new.regs c.replay-replayed.new.segment c.replay-replayed.new.common
      c.requires c.recall_mode.ensures (search rules) (search rules);
}
