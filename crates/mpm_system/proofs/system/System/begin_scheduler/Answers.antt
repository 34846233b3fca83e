use Rattle.std.proofs.Common.{◌∙◌, ap, arith, ◌++◌, ◌∷◌, []}
use Rattle.mpm_residents.specs.declared.native.Native.TheVariants.{Sched}
use Rattle.mpm_sched.specs.Schedulers.{opening as opening_scheduler}
use Rattle.mpm_system.specs.Opening.{schedule_number, with_schedule_queue, scheduler_process}
use Rattle.mpm_system.proofs.ResidingLaws.{schedule_queued, schedule_fits, queued_here, queued_refused, scheduler_is, no_scheduler}
use Rattle.mpm_system.proofs.system.System.begin_scheduler.Goals as goal

pub returns-then-not-sched : goal.returns-then-not-sched
returns-then-not-sched c = no_scheduler c.args.self.now c.args.sched (schedule_number c.args.spool) c.if-not-sched.true

pub system_queue-requires : goal.system_queue-requires
system_queue-requires c =
    record { sound = c.requires.whole.sound; boot = c.requires.queues.systems; room = schedule_fits c.args.self.now.kernel c.args.spool c.requires.queues }

pub begin_process-requires : goal.begin_process-requires
begin_process-requires c =
    let queued = schedule_queued c.args.self.now c.system_queue.new.self c.args.spool c.requires.whole c.requires.queues c.system_queue.ensures.kernel in
    record { sound = queued.sound; console = omega (arith, queued.some, c.resident_process-new.ensures.console) }

pub returns-then-begin_process : goal.returns-then-begin_process
returns-then-begin_process c =
    queued_here c.args.self.now c.system_queue.new.self (with_schedule_queue c.args.self.now.kernel) c.begin_process.new.kernel c.add_scheduler.new.self c.begin_process.result c.resident_process-new.result
    scheduler_process (Sched (opening_scheduler (schedule_number c.args.spool))) c.system_queue.ensures.kernel c.begin_process.ensures.kernel c.begin_process.ensures.begun c.if-begin_process.true
    (c.add_scheduler.ensures ∙ ap (λ queue. c.args.self.now.residents ++ Sched (opening_scheduler queue) ∷ []) c.schedule_number.ensures.number) c.resident_process-new.ensures.process
    ∙ scheduler_is c.args.self.now c.args.sched (schedule_number c.args.spool) c.if-not-sched.false

pub returns-else-begin_process : goal.returns-else-begin_process
returns-else-begin_process c =
    queued_refused c.args.self.now c.system_queue.new.self (with_schedule_queue c.args.self.now.kernel) c.begin_process.new.kernel c.begin_process.result c.resident_process-new.result
    scheduler_process (Sched (opening_scheduler (schedule_number c.args.spool))) c.system_queue.ensures.kernel c.begin_process.ensures.kernel c.begin_process.ensures.begun c.if-begin_process.false
    c.resident_process-new.ensures.process
    ∙ scheduler_is c.args.self.now c.args.sched (schedule_number c.args.spool) c.if-not-sched.false
