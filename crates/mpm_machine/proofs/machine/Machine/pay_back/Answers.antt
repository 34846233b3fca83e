use Rattle.std.proofs.Common.{rules, ◌∙◌, ap}
use Rattle.mpm_service.specs.Disk.{served_process}
use Rattle.mpm_machine.proofs.WorkLaws.{nobody_served, somebody_served, not_both, paid_for, unpaid}
use Rattle.mpm_machine.proofs.machine.Machine.pay_back.Goals as goal

pub returns-then-is_none : goal.returns-then-is_none
returns-then-is_none c = record {
  system =
      paid_for c.args.self.now.system c.clear.new.self
      (nobody_served c.args.self.now.system.kernel.disk c.serving.result c.is_none.result (c.serving.ensures.served ∙ ap served_process c.disk.ensures) c.is_none.ensures c.if-is_none.true)
      c.clear.ensures;
  reply = search rules;
  rest = search rules;
  served = λ some.
      absurd (not_both c.args.self.now.system.kernel.disk.served
      (nobody_served c.args.self.now.system.kernel.disk c.serving.result c.is_none.result (c.serving.ensures.served ∙ ap served_process c.disk.ensures) c.is_none.ensures c.if-is_none.true)
      some);
  filing = search rules;
}

pub returns-else-is_none : goal.returns-else-is_none
returns-else-is_none c = record {
  system =
      unpaid c.args.self.now.system
      (somebody_served c.args.self.now.system.kernel.disk c.serving.result c.is_none.result (c.serving.ensures.served ∙ ap served_process c.disk.ensures) c.is_none.ensures c.if-is_none.false);
  reply = search rules;
  rest = search rules;
  served = search rules;
  filing = λ none drives.
      absurd (not_both c.args.self.now.system.kernel.disk.served none
      (somebody_served c.args.self.now.system.kernel.disk c.serving.result c.is_none.result (c.serving.ensures.served ∙ ap served_process c.disk.ensures) c.is_none.ensures c.if-is_none.false));
}
