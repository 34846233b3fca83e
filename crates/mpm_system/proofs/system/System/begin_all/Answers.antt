use Rattle.std.proofs.Common.{◌∙◌, sym, arith}
use Rattle.mpm_system.specs.Opening.{command_queues}
use Rattle.mpm_system.proofs.OpeningLaws.{one_begun, first_here, command_here}
use Rattle.mpm_system.proofs.ResidingLaws.{spooler_here, spooling_here, spooler_few_here, begun_in_turn}
use Rattle.mpm_system.proofs.system.System.begin_all.Goals as goal

pub begin_terminals-requires : goal.begin_terminals-requires
begin_terminals-requires c =
    let first = first_here c.args.self.now c.begin_interpreting.new.self c.args.consoles c.requires.whole c.requires.queues c.begin_interpreting.ensures in
    record {
      whole = first.whole;
      consoles = c.requires.consoles ∙ sym first.consoles;
      first = omega (arith, one_begun c.args.self.now c.begin_interpreting.new.self c.args.consoles c.requires.nobody c.begin_interpreting.ensures);
    }

pub begin_spooler-requires : goal.begin_spooler-requires
begin_spooler-requires c =
    let first = first_here c.args.self.now c.begin_interpreting.new.self c.args.consoles c.requires.whole c.requires.queues c.begin_interpreting.ensures in
    record {
      whole = c.begin_terminals.ensures.begun.whole;
      queues = c.begin_terminals.ensures.queues command_queues
          (command_here c.args.self.now c.begin_interpreting.new.self c.args.consoles c.requires.whole c.requires.queues c.begin_interpreting.ensures);
      room = omega (arith, c.begin_terminals.ensures.few, one_begun c.args.self.now c.begin_interpreting.new.self c.args.consoles c.requires.nobody c.begin_interpreting.ensures, c.requires.consoles, c.requires.whole.sound.units.consoles);
    }

pub begin_scheduler-requires : goal.begin_scheduler-requires
begin_scheduler-requires c =
    let has = c.begin_terminals.ensures.queues command_queues
    (command_here c.args.self.now c.begin_interpreting.new.self c.args.consoles c.requires.whole c.requires.queues c.begin_interpreting.ensures) in
    record {
      whole = (spooler_here c.begin_terminals.new.self c.begin_spooler.new.self c.args.spool c.begin_terminals.ensures.begun.whole has c.begin_spooler.ensures).whole;
      queues = spooling_here c.begin_terminals.new.self c.begin_spooler.new.self c.args.spool c.begin_terminals.ensures.begun.whole has c.begin_spooler.ensures;
      room = omega (arith, spooler_few_here c.begin_terminals.new.self c.begin_spooler.new.self c.args.spool c.begin_spooler.ensures, c.begin_terminals.ensures.few, one_begun c.args.self.now c.begin_interpreting.new.self c.args.consoles c.requires.nobody c.begin_interpreting.ensures, c.requires.consoles, c.requires.whole.sound.units.consoles);
    }

pub returns : goal.returns
returns c =
    begun_in_turn c.args.self.now c.begin_interpreting.new.self c.begin_terminals.new.self c.begin_spooler.new.self c.begin_scheduler.new.self c.args.consoles c.args.spool c.args.sched
    c.begin_interpreting.ensures c.begin_terminals.ensures.system c.begin_spooler.ensures c.begin_scheduler.ensures
