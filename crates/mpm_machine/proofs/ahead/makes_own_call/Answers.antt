use Rattle.mpm_kernel.proofs.SoundLaws.{runner_lives}
use Rattle.mpm_machine.proofs.ahead.makes_own_call.Goals as goal

pub regs-regs-requires : goal.regs-regs-requires
regs-regs-requires c = runner_lives c.args.system.now.kernel c.args.ahead.now.p c.requires.whole.sound c.requires.ahead.on.running
