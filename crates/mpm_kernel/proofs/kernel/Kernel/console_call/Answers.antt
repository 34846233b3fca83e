use Rattle.std.proofs.Common.{◌∙◌, ◌<◌, true, length, ap, arith}
use Rattle.mpm_procs.specs.declared.process.Process.{Process}
use Rattle.mpm_procs.specs.Table.{process_in}
use Rattle.mpm_base.specs.declared.unit.Unit.TheVariants.{Console as ConsoleUnit}
use Rattle.mpm_kernel.specs.Kernel.{Kernel, UsesConsole}
use Rattle.mpm_kernel.proofs.UnitLaws.{has_own_console}
use Rattle.mpm_kernel.proofs.InputLaws.{has_then_attached, uses_then_attached, uses_made_raw}
use Rattle.mpm_kernel.proofs.kernel.Kernel.console_call.Goals as goal

pub set_raw_if-requires : goal.set_raw_if-requires
set_raw_if-requires c =
    let before = c.args.self.now in
    let p = c.args.p in
    let console = c.get.result.now.console in
    let own =
    ap (λ (process : Process). process.console) c.get.ensures ∙ ap (λ (k : Kernel). (process_in k.dispatcher.procs p).console) c.self.view_is in
    let has : console < length before.units.consoles = omega (arith, own, has_own_console before p c.requires.sound c.requires.lives) in
    has_then_attached before c.attach.new.self p console (ConsoleUnit console) true c.attach.ensures.made has

pub unless_stopped-requires : goal.unless_stopped-requires
unless_stopped-requires c =
    let before = c.args.self.now in
    let p = c.args.p in
    let console = c.get.result.now.console in
    let own =
    ap (λ (process : Process). process.console) c.get.ensures ∙ ap (λ (k : Kernel). (process_in k.dispatcher.procs p).console) c.self.view_is in
    let has : console < length before.units.consoles = omega (arith, own, has_own_console before p c.requires.sound c.requires.lives) in
    let attached : UsesConsole p console c.attach.new.self =
    uses_then_attached before c.attach.new.self p console true c.attach.result c.attach.ensures.made c.requires.lives has c.attach.ensures.answered c.if-not-attach.false in
    uses_made_raw c.attach.new.self c.set_raw_if.new.self p console _ _ c.set_raw_if.ensures attached
