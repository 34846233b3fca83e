use Rattle.std.proofs.Common.{◌∙◌, ap, arith}
use Rattle.mpm_system.specs.Opening.{with_terminals}
use Rattle.mpm_system.proofs.OpeningLaws.{begun_none, begun_more}
use Rattle.mpm_system.proofs.system.System.begin_terminals.Goals as goal

pub loop-console-init : goal.loop-console-init
loop-console-init c = begun_none c.args.self.now c.requires.whole

pub begin_terminal-requires : goal.begin_terminal-requires
begin_terminal-requires c = record {
  whole = c.loop-console.invariant.begun.whole;
  console = omega (arith, c.loop-console-test.true, c.requires.consoles, c.loop-console.invariant.begun.consoles);
  room = omega (arith, c.loop-console-test.true, c.requires.consoles, c.requires.first, c.requires.whole.sound.units.consoles, c.loop-console.invariant.few);
}

pub loop-console-preserved : goal.loop-console-preserved
loop-console-preserved c =
    begun_more c.args.self.now c.loop-console.self c.begin_terminal.new.self c.loop-console.console c.loop-console.invariant
    (omega (arith, c.loop-console-test.true, c.requires.consoles)) c.begin_terminal.ensures

pub returns : goal.returns
returns c = record {
  system = c.loop-console.invariant.is ∙ ap (λ n. with_terminals n c.args.self.now) (omega arith);
  begun = c.loop-console.invariant.begun;
  few = omega (arith, c.loop-console.invariant.few);
  queues = c.loop-console.invariant.has;
}
