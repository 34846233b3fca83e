use Rattle.std.proofs.Common.{ap, refl}
use Rattle.mpm_procs.specs.Table.{call_of}
use Rattle.mpm_output.specs.Outside.{TheSink}
use Rattle.mpm_output.proofs.WritingLaws.{fails_before}
use Rattle.mpm_machine.specs.Serving.{after_echo}
use Rattle.mpm_machine.proofs.MakingLaws.{makes_as, makes_none}
use Rattle.mpm_machine.proofs.call.conclude_undone.Goals as goal

pub returns-in_err-put_echo : goal.returns-in_err-put_echo
returns-in_err-put_echo g c reply = makes_none _ _ _ _ _ _ _ _ _ c.from_residual.ensures.0 (fails_before TheSink _ _ _ _ c.in_err-put_echo.ensures.wrote.err)

pub returns : goal.returns
returns g c reply =
    makes_as _ _
    (ap (after_echo (call_of c.args.system.now.kernel.dispatcher.procs c.args.p) c.args.p c.args.system.now) (c.bring_about.ensures reply))
    (record { system = refl; wrote = record { ok = c.in_ok-put_echo.ensures.wrote.ok; err = tt } })
