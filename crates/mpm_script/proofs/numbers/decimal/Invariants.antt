use Rattle.std.proofs.Common.{◌≡◌, ◌≤◌, drop}
use Rattle.mpm_script.specs.Numbers.{decimal_of}
use Rattle.mpm_script.proofs.numbers.decimal.Given as goal

abbrev pub invariant-loop-byte : goal.invariant-loop-byte
invariant-loop-byte l = record {
  rest : decimal_of l.greatest 0 l.digits ≡ decimal_of l.greatest l.value (drop l.byte-index l.digits);
  limit : l.value ≤ l.greatest;
}
