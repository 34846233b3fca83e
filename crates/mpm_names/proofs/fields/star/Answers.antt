use Rattle.std.proofs.Common.{◌==◌, arith, not, eq-eqb, ap}
use Rattle.mpm_names.proofs.Runs.{stops_at, runs_through}
use Rattle.mpm_names.proofs.fields.star.Goals as goal

pub returns-then-byte-eq42 : goal.returns-then-byte-eq42
returns-then-byte-eq42 c = record {
  number = stops_at (λ byte. not (byte == 42)) c.args.field.now c.loop-place.place (omega arith) (λ k h. ap not (c.loop-place.invariant k h)) (ap not (eq-eqb _ _ c.if-byte-eq42.true));
  limit = omega arith;
}

pub returns : goal.returns
returns c = record {
  number = runs_through (λ byte. not (byte == 42)) c.args.field.now c.loop-place.place (omega arith) (omega arith) (λ k h. ap not (c.loop-place.invariant k h));
  limit = omega arith;
}
