use Rattle.std.proofs.Common.{sym, rules, arith}
use Rattle.mpm_refusals.proofs.OwnItems.{own_named}
use Rattle.std.proofs.lemmas.Grind.{common_steps}
use Rattle.mpm_refusals.proofs.subjects.named_item.Goals as goal

pub returns-in-Some : goal.returns-in-Some
returns-in-Some c = record {
  item = first_of (search rules, grind (arith, common_steps));
  own = own_named c.args.opens.now c.args.p c.args.number c.args.drive c.args.name.now c.in-Some.file c.mode.result c.requires (sym c.in-Some.ensures.file);
}
