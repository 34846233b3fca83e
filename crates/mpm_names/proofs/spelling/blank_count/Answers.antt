use Rattle.std.proofs.Common.{arith, rules}
use Rattle.mpm_names.specs.Characters.{is_blank}
use Rattle.mpm_names.proofs.Runs.{stops_at, runs_through}
use Rattle.mpm_names.proofs.spelling.blank_count.Goals as goal

pub returns-then-not-blank : goal.returns-then-not-blank
returns-then-not-blank c = record { number = stops_at is_blank c.args.text.now c.loop-place.place (omega arith) c.loop-place.invariant (search rules); limit = omega arith }

pub returns : goal.returns
returns c = record { number = runs_through is_blank c.args.text.now c.loop-place.place (omega arith) (omega arith) c.loop-place.invariant; limit = omega arith }
