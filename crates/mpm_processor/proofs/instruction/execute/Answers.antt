use Rattle.std.proofs.Common.{ap}
use Rattle.mpm_processor.specs.Moving.{View}
use Rattle.mpm_processor.proofs.MovingLaws.{moved_once, listed_once}
use Rattle.mpm_processor.proofs.instruction.execute.Goals as goal

pub returns : goal.returns
returns c =
    let old : View = record { regs = c.args.regs.now; memory = c.args.banks.now; devices = c.args.devices.now } in
    let ran = c.run_instructions in
    let new : View = record { regs = ran.new.regs; memory = ran.new.banks; devices = ran.new.devices } in
    let is = moved_once c.args.inside ran.result c.args.seg old new ran.ensures.moved ran.ensures.count ran.ensures.stopped c.requires.gate in
    record {
      listed = listed_once c.args.inside ran.result c.args.seg old new ran.ensures.moved ran.ensures.count ran.ensures.stopped c.requires.gate;
      registers = ap (λ (view : View). view.regs) is;
      memory = ap (λ (view : View). view.memory) is;
      devices = ap (λ (view : View). view.devices) is;
    }
