use Rattle.mpm_processor.specs.Moving.{View}
use Rattle.mpm_processor.proofs.AloneLaws.{whole_moves, whole_stopped}
use Rattle.mpm_processor.proofs.instruction.run_instructions.Goals as goal

pub returns : goal.returns
returns c =
    let old : View = record { regs = c.args.regs.now; memory = c.args.banks.now; devices = c.args.devices.now } in
    let new : View = record { regs = c.run.new.regs; memory = c.run.new.self; devices = c.run.new.devices } in
    let ran = c.run.ensures.ran in
    record {
      count = ran.count;
      moved = whole_moves c.args.inside c.run.result c.args.seg old new c.requires.exists ran.moved c.run.ensures.others;
      stopped = λ less.
          whole_stopped c.args.inside c.run.result c.args.seg old new c.requires.exists ran.moved c.run.ensures.others (ran.stopped less);
    }
