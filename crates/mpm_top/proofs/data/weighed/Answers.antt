use Rattle.std.proofs.Common.{◌∙◌, ◌*◌, ◌+◌, ap, rules, arith}
use Rattle.std.proofs.lemmas.Grind.{common_steps}
use Rattle.mpm_top.proofs.data.weighed.Goals as goal

pub returns : goal.returns
returns c = record {
  part = λ image files here stands. (λ i. (c.from.ensures i + 1) * c.from-2.ensures i) ∙ ap (λ byte. (c.args.place + 1) * byte) (c.first_byte.ensures.byte image files here stands);
  small = first_of (search rules, grind (arith, common_steps));
  read = first_of (search rules, grind (arith, common_steps));
}
