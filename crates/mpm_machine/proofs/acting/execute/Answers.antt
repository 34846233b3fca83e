use Rattle.std.proofs.Common.{◌∙◌, sym}
use Rattle.mpm_machine.specs.Step.{instruction_at}
use Rattle.mpm_machine.proofs.ActingLaws.{executed_listed, executed_unlisted}
use Rattle.mpm_machine.proofs.MakingLaws.{makes_silent, makes_as}
use Rattle.mpm_machine.proofs.acting.execute.Goals as goal

-- a listed instruction stands there
pub returns-then-instruct : goal.returns-then-instruct
returns-then-instruct g c =
    makes_silent _ _ _ _ _ _ _
    (executed_listed (instruction_at c.args.p c.args.seg c.args.system.now) c.args.p c.args.seg c.args.system.now c.instruct.new.system
    (sym c.instruct.ensures.listed ∙ c.if-instruct.true) c.instruct.ensures.system)

-- none does
pub returns : goal.returns
returns g c =
    makes_as _ _
    (sym (executed_unlisted (instruction_at c.args.p c.args.seg c.args.system.now) c.args.p c.args.seg c.args.system.now c.instruct.new.system
    (sym c.instruct.ensures.listed ∙ c.if-instruct.false) c.instruct.ensures.system)) c.illegal.ensures
