use Rattle.std.proofs.Common.{arith, rules}
use Rattle.mpm_messages.specs.Texts.{is_space}
use Rattle.mpm_names.proofs.Runs.{stops_at, runs_through}
use Rattle.mpm_messages.proofs.text.leading_spaces.Goals as goal

pub returns-then-byte-ne32 : goal.returns-then-byte-ne32
returns-then-byte-ne32 c = record {
  number = stops_at is_space c.args.text.now c.loop-place.place (omega arith) c.loop-place.invariant (search rules);
  limit = omega arith;
}

pub returns : goal.returns
returns c = record {
  number = runs_through is_space c.args.text.now c.loop-place.place (omega arith) (omega arith) c.loop-place.invariant;
  limit = omega arith;
}
