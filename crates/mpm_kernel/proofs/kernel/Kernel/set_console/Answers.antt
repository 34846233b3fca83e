use Rattle.std.proofs.Common.{sym, subst, arith}
use Rattle.mpm_kernel.specs.Kernel.{MayUseUnit}
use Rattle.mpm_kernel.proofs.ChangeLaws.{uses_console_changed}
use Rattle.mpm_kernel.proofs.kernel.Kernel.set_console.Goals as goal

pub attach_unit-requires : goal.attach_unit-requires
attach_unit-requires c =
    subst (MayUseUnit c.args.p _) (sym c.change_console.ensures)
    (uses_console_changed c.args.self.now c.args.p _ c.requires (omega (arith, c.consoles.ensures, c.if-consoles-console.false)))
