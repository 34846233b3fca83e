use Rattle.mpm_machine.proofs.FilingLaws.{directly_is, directly_answered}
use Rattle.mpm_machine.proofs.filing.call_directly.Goals as goal

pub returns : goal.returns
returns c = record {
  outcome = λ disks filing stands.
      directly_is disks filing c.args.p c.args.system.now c.args.bdos.now c.kept_call.result.now c.living.result.now c.answer.new.self c.direct.new.reply c.direct.result
      c.kept_call.ensures c.living.ensures c.requires.function stands c.answer.ensures
      c.direct.ensures.answer c.direct.ensures.extended c.direct.ensures.other c.direct.ensures.unanswered;
  within = λ images s j serves.
      directly_answered s.filing c.args.p c.args.system.now c.kept_call.result.now c.living.result.now c.answer.new.self c.direct.new.reply c.direct.result
      c.kept_call.ensures c.living.ensures c.requires.function c.answer.ensures
      (c.direct.ensures.served images s j serves) (c.direct.ensures.served_extended images s j serves) c.direct.ensures.other c.direct.ensures.unanswered;
}
