use Rattle.mpm_system.proofs.SendingLaws.{keeps_other, called_whole}
use Rattle.mpm_system.proofs.system.System.send.Goals as goal

pub call-outcome-requires : goal.call-outcome-requires
call-outcome-requires c =
    let kept = keeps_other c.args.p _ c.args.self.now c.frame_call.new.self c.requires.whole c.requires.lives c.frame_call.ensures in
    record { sound = kept.whole.sound; lives = kept.lives; ready = kept.ready c.requires.ready }

pub rename_call-requires : goal.rename_call-requires
rename_call-requires c =
    let kept = keeps_other c.args.p _ c.args.self.now c.frame_call.new.self c.requires.whole c.requires.lives c.frame_call.ensures in
    (called_whole c.args.p c.frame_call.new.self c.call-outcome.new.self kept.whole kept.lives (kept.ready c.requires.ready) c.call-outcome.ensures.yields.kernel).lives

pub pass_after-requires : goal.pass_after-requires
pass_after-requires c =
    let kept = keeps_other c.args.p _ c.args.self.now c.frame_call.new.self c.requires.whole c.requires.lives c.frame_call.ensures in
    let done = called_whole c.args.p c.frame_call.new.self c.call-outcome.new.self kept.whole kept.lives (kept.ready c.requires.ready) c.call-outcome.ensures.yields.kernel in
    let after = keeps_other c.args.p _ (record c.frame_call.new.self { kernel = c.call-outcome.new.self }) c.rename_call.new.self done.whole done.lives c.rename_call.ensures in
    record { whole = after.whole; lives = after.lives }
