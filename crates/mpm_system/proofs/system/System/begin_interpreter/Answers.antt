use Rattle.std.proofs.Common.{arith}
use Rattle.mpm_system.proofs.OpeningLaws.{command_fits, sound_queued, admitted_here, interpreter_here, no_interpreter}
use Rattle.mpm_system.proofs.system.System.begin_interpreter.Goals as goal

pub admit-requires : goal.admit-requires
admit-requires c =
    sound_queued c.args.self.now.kernel c.system_queue.new.self c.requires.whole.sound c.requires.queues c.system_queue.ensures.kernel

pub process_mut-process-requires : goal.process_mut-process-requires
process_mut-process-requires c =
    let sound = sound_queued c.args.self.now.kernel c.system_queue.new.self c.requires.whole.sound c.requires.queues c.system_queue.ensures.kernel in
    (admitted_here c.system_queue.new.self c.admit.new.self c.in-Ok.p c.resident_process-new.result sound
    (omega (arith, c.resident_process-new.ensures.console, sound.units.some)) c.in-Ok.ensures.slot c.admit.ensures.kernel).lives

pub returns-in-Ok : goal.returns-in-Ok
returns-in-Ok c =
    interpreter_here c.args.self.now c.system_queue.new.self c.admit.new.self c.in-Ok.p c.resident_process-new.result c.process_mut-process.result.now
    c.system_queue.ensures.kernel c.admit.ensures.kernel c.in-Ok.ensures.slot c.resident_process-new.ensures.process c.process_mut-process.ensures.value

pub returns-in_default : goal.returns-in_default
returns-in_default c =
    no_interpreter c.args.self.now c.system_queue.new.self c.admit.new.self c.resident_process-new.result c.system_queue.ensures.kernel c.admit.ensures.kernel
    c.in_default.ensures.refused

pub system_queue-requires : goal.system_queue-requires
system_queue-requires c =
    record { sound = c.requires.whole.sound; boot = c.requires.queues.systems; room = command_fits c.args.self.now.kernel c.requires.queues }
