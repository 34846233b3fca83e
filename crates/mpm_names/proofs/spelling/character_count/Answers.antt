use Rattle.std.proofs.Common.{arith, rules}
use Rattle.mpm_names.specs.Characters.{is_character}
use Rattle.mpm_names.proofs.Runs.{stops_at, runs_through}
use Rattle.mpm_names.proofs.spelling.character_count.Goals as goal

pub returns-then-not-character : goal.returns-then-not-character
returns-then-not-character c = record { number = stops_at is_character c.args.text.now c.loop-place.place (omega arith) c.loop-place.invariant (search rules); limit = omega arith }

pub returns : goal.returns
returns c = record { number = runs_through is_character c.args.text.now c.loop-place.place (omega arith) (omega arith) c.loop-place.invariant; limit = omega arith }
