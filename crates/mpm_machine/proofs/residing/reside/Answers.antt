use Rattle.std.proofs.Common.{◌∙◌, sym}
use Rattle.mpm_machine.proofs.MakingLaws.{makes_silent, makes_as}
use Rattle.mpm_machine.proofs.ResidingLaws.{resides, nobody_resides}
use Rattle.mpm_machine.proofs.residing.reside.Goals as goal

pub returns-then-not-has : goal.returns-then-not-has
returns-then-not-has g c = makes_silent _ _ _ _ _ _ _ (nobody_resides c.args.p c.args.system.now (sym c.has.ensures ∙ c.if-not-has.true))

pub act_native-requires : goal.act_native-requires
act_native-requires g c =
    let acts = resides c.args.p c.ask_call-act.result c.args.system.now c.ask_call-act.new.self c.requires.whole c.requires.lives (sym c.has.ensures ∙ c.if-not-has.false)
    c.ask_call-act.ensures.system c.ask_call-act.ensures.act in
    record { acts = record { whole = acts.whole; lives = acts.lives; ready = acts.ready c.requires.ready }; has = acts.has }

pub returns : goal.returns
returns g c =
    let acts = resides c.args.p c.ask_call-act.result c.args.system.now c.ask_call-act.new.self c.requires.whole c.requires.lives (sym c.has.ensures ∙ c.if-not-has.false)
    c.ask_call-act.ensures.system c.ask_call-act.ensures.act in
    makes_as _ _ acts.change c.act_native.ensures
