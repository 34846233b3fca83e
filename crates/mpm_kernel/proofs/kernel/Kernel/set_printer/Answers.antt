use Rattle.std.proofs.Common.{sym, subst, arith}
use Rattle.mpm_kernel.specs.Kernel.{MayUseUnit}
use Rattle.mpm_kernel.proofs.ChangeLaws.{uses_printer_changed}
use Rattle.mpm_kernel.proofs.kernel.Kernel.set_printer.Goals as goal

pub attach_unit-requires : goal.attach_unit-requires
attach_unit-requires c =
    subst (MayUseUnit c.args.p _) (sym c.change_printer.ensures)
    (uses_printer_changed c.args.self.now c.args.p _ c.requires (omega (arith, c.printers.ensures, c.if-printers-printer.false)))
