use Rattle.std.proofs.Common.{arith, rules}
use Rattle.mpm_messages.specs.Texts.{is_space}
use Rattle.mpm_messages.proofs.Runs.{ends_with}
use Rattle.mpm_messages.proofs.text.trailing_spaces.Goals as goal

pub returns : goal.returns
returns c = record {
  number = ends_with is_space c.args.text.now c.loop-end.end c.loop-end.invariant.0 c.loop-end.invariant.1 (search rules);
  limit = omega arith;
}
