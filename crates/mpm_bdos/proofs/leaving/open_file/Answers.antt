use Rattle.std.proofs.Common.{ap, rules, arith}
use Rattle.mpm_bdos.specs.Replies.{opened_as}
use Rattle.mpm_bdos.proofs.LeavingLaws.{number_small}
use Rattle.mpm_bdos.proofs.UserLaws.{users_opened}
use Rattle.std.proofs.lemmas.Grind.{common_steps}
use Rattle.mpm_bdos.proofs.leaving.open_file.Goals as goal

pub returns-in-Ok : goal.returns-in-Ok
returns-in-Ok c = record {
  opens = first_of (search rules, grind (arith, common_steps));
  opened = ap (opened_as c.args.mode) c.in-Ok.ensures.answer;
  number = number_small c.add.new.self c.in-Ok.number c.add.ensures.sound c.in-Ok.ensures.live;
  users = users_opened c.args.opens.now c.add.new.self c.args.p c.args.file c.args.mode c.add.ensures.opens;
}

pub returns-in-Err : goal.returns-in-Err
returns-in-Err c = record {
  opens = first_of (search rules, grind (arith, common_steps));
  opened = ap (opened_as c.args.mode) c.in-Err.ensures.answer;
  number = tt;
  users = users_opened c.args.opens.now c.add.new.self c.args.p c.args.file c.args.mode c.add.ensures.opens;
}
