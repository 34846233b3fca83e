use Rattle.std.proofs.Common.{◌==◌, arith, not, eq-eqb, ap}
use Rattle.mpm_names.proofs.Runs.{stops_at, runs_through}
use Rattle.mpm_spool.proofs.list.comma_place.Goals as goal

pub returns-then-byte-eq44 : goal.returns-then-byte-eq44
returns-then-byte-eq44 c = record {
  number = stops_at (λ byte. not (byte == 44)) c.args.text.now c.loop-place.place (omega arith) (λ k h. ap not (c.loop-place.invariant k h)) (ap not (eq-eqb _ _ c.if-byte-eq44.true));
  limit = omega arith;
}

pub returns : goal.returns
returns c = record {
  number = runs_through (λ byte. not (byte == 44)) c.args.text.now c.loop-place.place (omega arith) (omega arith) (λ k h. ap not (c.loop-place.invariant k h));
  limit = omega arith;
}
