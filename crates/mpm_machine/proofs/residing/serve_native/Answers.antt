use Rattle.mpm_output.specs.Outside.{TheSink}
use Rattle.mpm_output.proofs.WritingLaws.{fails_before}
use Rattle.mpm_machine.proofs.MakingLaws.{makes_as, makes_after, makes_none}
use Rattle.mpm_machine.proofs.ResidingLaws.{concludes}
use Rattle.mpm_machine.proofs.residing.serve_native.Goals as goal

pub put_echo-requires : goal.put_echo-requires
put_echo-requires g c =
    let done = concludes c.args.p c.args.system.now c.serve_to_all-outcome.new.system c.serve_to_all-outcome.result c.serve_to_all-outcome.new.reply c.requires.acts.whole c.requires.acts.lives
    c.requires.acts.ready c.requires.has c.serve_to_all-outcome.ensures.system c.serve_to_all-outcome.ensures.outcome c.serve_to_all-outcome.ensures.reply in
    record { whole = done.whole; lives = done.lives }

pub conclude_residing-requires : goal.conclude_residing-requires
conclude_residing-requires g c =
    let done = concludes c.args.p c.args.system.now c.serve_to_all-outcome.new.system c.serve_to_all-outcome.result c.serve_to_all-outcome.new.reply c.requires.acts.whole c.requires.acts.lives
    c.requires.acts.ready c.requires.has c.serve_to_all-outcome.ensures.system c.serve_to_all-outcome.ensures.outcome c.serve_to_all-outcome.ensures.reply in
    record { living = record { whole = done.whole; lives = done.lives }; has = done.has }

pub returns-in_err-put_echo : goal.returns-in_err-put_echo
returns-in_err-put_echo g c =
    let done = concludes c.args.p c.args.system.now c.serve_to_all-outcome.new.system c.serve_to_all-outcome.result c.serve_to_all-outcome.new.reply c.requires.acts.whole c.requires.acts.lives
    c.requires.acts.ready c.requires.has c.serve_to_all-outcome.ensures.system c.serve_to_all-outcome.ensures.outcome c.serve_to_all-outcome.ensures.reply in
    makes_as _ _ done.change (makes_none _ _ _ _ _ _ _ _ _ c.from_residual.ensures.0 (fails_before TheSink _ _ _ _ c.in_err-put_echo.ensures.wrote.err))

pub returns : goal.returns
returns g c =
    let done = concludes c.args.p c.args.system.now c.serve_to_all-outcome.new.system c.serve_to_all-outcome.result c.serve_to_all-outcome.new.reply c.requires.acts.whole c.requires.acts.lives
    c.requires.acts.ready c.requires.has c.serve_to_all-outcome.ensures.system c.serve_to_all-outcome.ensures.outcome c.serve_to_all-outcome.ensures.reply in
    makes_as _ _ done.change (makes_after _ _ c.in_ok-put_echo.ensures.wrote.ok c.conclude_residing.ensures)
