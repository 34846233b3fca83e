use Rattle.std.proofs.Common.{arith, rules}
use Rattle.mpm_messages.specs.Texts.{is_text}
use Rattle.mpm_names.proofs.Runs.{stops_at, runs_through}
use Rattle.mpm_messages.proofs.text.text_length.Goals as goal

pub returns-then-ends_text : goal.returns-then-ends_text
returns-then-ends_text c = record {
  number = stops_at is_text c.args.message.now c.loop-place.place (omega arith) c.loop-place.invariant (search rules);
  limit = omega arith;
}

pub returns : goal.returns
returns c = record {
  number = runs_through is_text c.args.message.now c.loop-place.place (omega arith) (omega arith) c.loop-place.invariant;
  limit = omega arith;
}
