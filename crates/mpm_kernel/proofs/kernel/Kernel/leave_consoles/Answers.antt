use Rattle.std.proofs.Common.{◌∙◌, sym, ap, subst, arith}
use Rattle.mpm_base.specs.declared.unit.Unit.TheVariants.{Console as ConsoleUnit}
use Rattle.mpm_kernel.specs.Kernel.{IsSoundKernel}
use Rattle.mpm_kernel.specs.Consoling.{unit_left}
use Rattle.mpm_kernel.proofs.LeavingLaws.{consoles_none, consoles_more, has_next_console, sound_consoles_left}
use Rattle.mpm_kernel.proofs.kernel.Kernel.leave_consoles.Goals as goal

pub loop-n-init : goal.loop-n-init
loop-n-init c = sym (consoles_none c.args.p c.args.self.now)

pub leave_unit-requires : goal.leave_unit-requires
leave_unit-requires c = record {
  sound = subst IsSoundKernel (sym c.loop-n.invariant) (sound_consoles_left c.args.p c.loop-n.n c.args.self.now c.requires (omega (arith, c.consoles-n-end.ensures, c.loop-n-test.true)));
  there = has_next_console c.args.p c.loop-n.n c.args.self.now c.loop-n.self c.requires c.loop-n.invariant (omega (arith, c.consoles-n-end.ensures, c.loop-n-test.true));
}

pub loop-n-preserved : goal.loop-n-preserved
loop-n-preserved c =
    c.leave_unit.ensures ∙ ap (unit_left c.args.p (ConsoleUnit c.loop-n.n)) c.loop-n.invariant ∙ sym (consoles_more c.args.p c.loop-n.n c.args.self.now)
