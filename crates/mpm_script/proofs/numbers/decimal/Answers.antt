use Rattle.std.proofs.Common.{◌∙◌, ◌+◌, ◌*◌, drop, ap, sym, arith}
use Rattle.mpm_script.specs.Numbers.{decimal_of}
use Rattle.mpm_script.proofs.DecimalLaws.{decimal_behind, decimal_no_digit, decimal_digit, decimal_over}
use Rattle.mpm_script.proofs.numbers.decimal.Goals as goal

pub returns-then-not-is_ascii_digit : goal.returns-then-not-is_ascii_digit
returns-then-not-is_ascii_digit c = record {
  number = sym (c.loop-byte.invariant.rest ∙ decimal_no_digit _ _ c.args.digits.now c.loop-byte.byte-index c.loop-byte-test.true (sym c.if-not-is_ascii_digit.ensures.value));
  limit = tt;
}

pub returns-then-value-from : goal.returns-then-value-from
returns-then-value-from c = record {
  number = sym (c.loop-byte.invariant.rest
      ∙ decimal_over _ _ c.args.digits.now c.loop-byte.byte-index c.loop-byte-test.true (sym c.if-not-is_ascii_digit.ensures.value) (omega (arith, c.from.ensures, c.from-in-loop-byte.ensures, c.if-value-from.true)));
  limit = tt;
}

pub loop-byte-preserved : goal.loop-byte-preserved
loop-byte-preserved c = record {
  rest = c.loop-byte.invariant.rest
      ∙ (decimal_digit _ _ c.args.digits.now c.loop-byte.byte-index c.loop-byte-test.true (sym c.if-not-is_ascii_digit.ensures.value)
      ∙ ap (λ n. decimal_of c.args.greatest (10 * c.loop-byte.value + n) (drop (c.loop-byte.byte-index + 1) c.args.digits.now)) (sym c.from.ensures));
  limit = omega (arith, c.from-in-loop-byte.ensures, c.if-value-from.false);
}

pub returns : goal.returns
returns c = record {
  number = sym (c.loop-byte.invariant.rest ∙ decimal_behind _ _ c.args.digits.now c.loop-byte.byte-index c.loop-byte.invariant.limit c.loop-byte-test.false);
  limit = omega (arith, c.loop-byte.invariant.limit);
}
