use Rattle.std.proofs.Common.{◌∙◌, List, ℕ, sym, ap, take, arith, length-take-le, take_all}
use Rattle.mpm_residents.proofs.cli.records_in.Goals as goal

pub slice_bounds-result-end : goal.slice_bounds-result-end
slice_bounds-result-end c = sym (length-take-le 2048 c.placed-bytes.result.now (omega arith))

pub returns-then-bytes-le-MOST : goal.returns-then-bytes-le-MOST
returns-then-bytes-le-MOST c = record {
  bytes = sym (take_all 2048 c.placed-bytes.result.now (omega arith)) ∙ ap (λ (bytes : List ℕ). take 2048 bytes) c.placed-bytes.ensures.value;
  size = omega arith;
}

pub returns-else-bytes-le-MOST : goal.returns-else-bytes-le-MOST
returns-else-bytes-le-MOST c = record {
  bytes = ap (λ (bytes : List ℕ). take 2048 bytes) c.placed-bytes.ensures.value;
  size = omega (arith, length-take-le 2048 c.placed-bytes.result.now (omega arith));
}
