use Rattle.std.proofs.Common.{arith, rules}
use Rattle.mpm_command.specs.Texts.{is_of}
use Rattle.mpm_names.proofs.Runs.{stops_at, runs_through}
use Rattle.mpm_command.proofs.text.run_length.Goals as goal

pub returns-then-not-goes_on : goal.returns-then-not-goes_on
returns-then-not-goes_on c = record {
  number = stops_at (is_of c.args.kind) c.args.text.now c.loop-place.place (omega arith) c.loop-place.invariant (search rules);
  limit = omega arith;
}

pub returns : goal.returns
returns c = record {
  number = runs_through (is_of c.args.kind) c.args.text.now c.loop-place.place (omega arith) (omega arith) c.loop-place.invariant;
  limit = omega arith;
}
