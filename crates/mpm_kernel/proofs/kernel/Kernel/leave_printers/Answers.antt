use Rattle.std.proofs.Common.{◌∙◌, sym, ap, subst, arith}
use Rattle.mpm_base.specs.declared.unit.Unit.TheVariants.{Printer as PrinterUnit}
use Rattle.mpm_kernel.specs.Kernel.{IsSoundKernel}
use Rattle.mpm_kernel.specs.Consoling.{unit_left}
use Rattle.mpm_kernel.proofs.LeavingLaws.{printers_none, printers_more, has_next_printer, sound_printers_left}
use Rattle.mpm_kernel.proofs.kernel.Kernel.leave_printers.Goals as goal

pub loop-n-init : goal.loop-n-init
loop-n-init c = sym (printers_none c.args.p c.args.self.now)

pub leave_unit-requires : goal.leave_unit-requires
leave_unit-requires c = record {
  sound = subst IsSoundKernel (sym c.loop-n.invariant) (sound_printers_left c.args.p c.loop-n.n c.args.self.now c.requires (omega (arith, c.printers-n-end.ensures, c.loop-n-test.true)));
  there = has_next_printer c.args.p c.loop-n.n c.args.self.now c.loop-n.self c.requires c.loop-n.invariant (omega (arith, c.printers-n-end.ensures, c.loop-n-test.true));
}

pub loop-n-preserved : goal.loop-n-preserved
loop-n-preserved c =
    c.leave_unit.ensures ∙ ap (unit_left c.args.p (PrinterUnit c.loop-n.n)) c.loop-n.invariant ∙ sym (printers_more c.args.p c.loop-n.n c.args.self.now)
