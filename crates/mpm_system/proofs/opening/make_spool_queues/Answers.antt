use Rattle.std.proofs.Common.{◌∙◌, ap, sym, subst}
use Rattle.mpm_kernel.specs.Kernel.{Kernel}
use Rattle.mpm_kernel.specs.Queueing.{with_system_queue}
use Rattle.mpm_system.specs.Opening.{spool_queue, stop_queue, command_queues, OnlyHas}
use Rattle.mpm_system.proofs.QueuedLaws.{room_of, spool_room, stop_room, first_spooling, has_first_spooling}
use Rattle.mpm_system.proofs.opening.make_spool_queues.Goals as goal

pub system_queue-requires : goal.system_queue-requires
system_queue-requires c =
    record { sound = c.requires.sound; boot = c.requires.queues.systems; room = room_of c.args.kernel.now command_queues spool_queue 128 8 c.requires.queues spool_room }

pub system_queue-requires-2 : goal.system_queue-requires-2
system_queue-requires-2 c =
    let has = subst (OnlyHas first_spooling) (sym c.system_queue.ensures.kernel) (has_first_spooling c.args.kernel.now c.requires.sound c.requires.queues) in
    record { sound = c.system_queue.ensures.sound; boot = has.systems; room = room_of c.system_queue.new.self first_spooling stop_queue 1 1 has stop_room }

pub returns : goal.returns
returns c = c.system_queue-2.ensures.kernel ∙ ap (λ (k : Kernel). with_system_queue k stop_queue 1 1) c.system_queue.ensures.kernel
