use Rattle.mpm_bdos.proofs.UserLaws.{users_same}
use Rattle.std.proofs.Common.{rules, arith}
use Rattle.std.proofs.lemmas.Grind.{common_steps}
use Rattle.mpm_bdos.proofs.leaving.grant.Goals as goal

pub returns : goal.returns
returns c = record {
  opens = first_of (search rules, grind (arith, common_steps));
  granted = first_of (search rules, grind (arith, common_steps));
  number = first_of (search rules, grind (arith, common_steps));
  users = λ users low. c.open_asked-opened.ensures.users (users_same c.args.opens.now c.end_records-ended.new.opens c.end_records-ended.ensures.items users) low;
}
