use Rattle.mpm_machine.proofs.MakingLaws.{makes_as}
use Rattle.mpm_machine.proofs.CallLaws.{kept_after, kept_is_taken, done_after}
use Rattle.mpm_machine.proofs.call.call.Goals as goal

pub serve-outcome-requires : goal.serve-outcome-requires
serve-outcome-requires g c =
    let kept = kept_after c.args.p c.args.seg c.args.system.now c.take_call.new.self c.requires.whole c.requires.lives c.take_call.ensures in
    record {
      acts = record { whole = kept.whole; lives = kept.lives; ready = kept.ready c.requires.ready };
      taken = kept_is_taken c.args.p c.args.seg c.args.system.now c.take_call.new.self c.requires.whole c.requires.lives kept;
    }

pub conclude-requires : goal.conclude-requires
conclude-requires g c =
    let kept = kept_after c.args.p c.args.seg c.args.system.now c.take_call.new.self c.requires.whole c.requires.lives c.take_call.ensures in
    let done = done_after c.args.p c.args.seg c.args.system.now c.take_call.new.self c.serve-outcome.new.system c.serve-outcome.result c.serve-outcome.new.reply
    c.requires.ready c.take_call.ensures kept c.serve-outcome.ensures.system c.serve-outcome.ensures.outcome c.serve-outcome.ensures.reply in
    record { whole = done.whole; lives = done.lives; room = done.room c.requires.room }

pub returns : goal.returns
returns g c =
    let kept = kept_after c.args.p c.args.seg c.args.system.now c.take_call.new.self c.requires.whole c.requires.lives c.take_call.ensures in
    let done = done_after c.args.p c.args.seg c.args.system.now c.take_call.new.self c.serve-outcome.new.system c.serve-outcome.result c.serve-outcome.new.reply
    c.requires.ready c.take_call.ensures kept c.serve-outcome.ensures.system c.serve-outcome.ensures.outcome c.serve-outcome.ensures.reply in
    makes_as _ _ done.change c.conclude.ensures
