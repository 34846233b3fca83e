use Rattle.std.proofs.Common.{rules, refl, sym}
use Rattle.mpm_bdos.specs.Serving.{filing_of}
use Rattle.mpm_machine.proofs.PassingLaws.{paid_now}
use Rattle.mpm_machine.proofs.PlainLaws.{nobody_leaves}
use Rattle.mpm_machine.proofs.machine.Machine.pay.Goals as goal

pub returns-else-has_some : goal.returns-else-has_some
returns-else-has_some c = record {
  system = sym (paid_now c.args.self.now.system c.args.self.now.system.kernel.disk.served refl (λ _. c.has_some.ensures c.if-has_some.false));
  reply = search rules;
  rest = search rules;
  served = search rules;
  filing = λ none drives. sym (nobody_leaves c.args.self.now.system.owed (filing_of c.args.self.now.bdos drives) (c.has_some.ensures c.if-has_some.false));
}
