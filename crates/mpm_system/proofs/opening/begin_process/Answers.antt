use Rattle.std.proofs.Common.{rules}
use Rattle.mpm_system.proofs.OpeningLaws.{admitted_here, process_begun, process_refused}
use Rattle.mpm_system.proofs.opening.begin_process.Goals as goal

pub process_mut-requires : goal.process_mut-requires
process_mut-requires c =
    (admitted_here c.args.kernel.now c.admit.new.self c.in-Ok.p c.args.new c.requires.sound c.requires.console c.in-Ok.ensures.slot c.admit.ensures.kernel).lives

pub returns-in-Ok : goal.returns-in-Ok
returns-in-Ok c = record {
  kernel = process_begun c.args.kernel.now c.admit.new.self c.in-Ok.p c.args.new c.process_mut.result.now c.admit.ensures.kernel c.in-Ok.ensures.slot c.process_mut.ensures.value;
  begun = search rules;
}

pub returns-in-Err : goal.returns-in-Err
returns-in-Err c = record {
  kernel = process_refused c.args.kernel.now c.admit.new.self c.args.new c.admit.ensures.kernel c.in-Err.ensures.refused;
  begun = search rules;
}
