use Rattle.std.proofs.Common.{◌∙◌, ap, arith}
use Rattle.mpm_procs.specs.Table.{lowest_free}
use Rattle.mpm_residents.specs.declared.native.Native.TheVariants.{Tmp}
use Rattle.mpm_residents.specs.Terminals.{opening}
use Rattle.mpm_system.specs.Opening.{resident_process, terminal_process}
use Rattle.mpm_system.proofs.OpeningLaws.{resident_here, resident_refused}
use Rattle.mpm_system.proofs.system.System.begin_terminal.Goals as goal

pub begin_process-requires : goal.begin_process-requires
begin_process-requires c = record { sound = c.requires.whole.sound; console = omega (arith, c.resident_process-new.ensures.console, c.requires.console) }

pub returns-then-begin_process : goal.returns-then-begin_process
returns-then-begin_process c =
    resident_here c.args.self.now c.begin_process.new.kernel c.add_terminal.new.self (lowest_free c.args.self.now.kernel.dispatcher.procs) c.begin_process.result c.resident_process-new.result
    (terminal_process c.args.console) (Tmp (opening c.args.console)) c.begin_process.ensures.kernel c.begin_process.ensures.begun c.if-begin_process.true c.add_terminal.ensures
    (c.resident_process-new.ensures.process ∙ ap (λ name. resident_process name 198 c.args.console) c.terminal_name.ensures)

pub returns-else-begin_process : goal.returns-else-begin_process
returns-else-begin_process c =
    resident_refused c.args.self.now c.begin_process.new.kernel (lowest_free c.args.self.now.kernel.dispatcher.procs) c.begin_process.result c.resident_process-new.result
    (terminal_process c.args.console) (Tmp (opening c.args.console)) c.begin_process.ensures.kernel c.begin_process.ensures.begun c.if-begin_process.false
    (c.resident_process-new.ensures.process ∙ ap (λ name. resident_process name 198 c.args.console) c.terminal_name.ensures)
