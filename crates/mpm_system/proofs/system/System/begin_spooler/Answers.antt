use Rattle.std.proofs.Common.{◌∙◌, arith}
use Rattle.mpm_residents.specs.declared.native.Native.TheVariants.{Spool}
use Rattle.mpm_spool.specs.Spoolers.{opening as opening_spooler}
use Rattle.mpm_system.specs.Opening.{with_spool_queues, spooler_process}
use Rattle.mpm_system.proofs.ResidingLaws.{spool_queued, queued_here, queued_refused, spooler_is, no_spooler}
use Rattle.mpm_system.proofs.system.System.begin_spooler.Goals as goal

pub returns-then-not-spool : goal.returns-then-not-spool
returns-then-not-spool c = no_spooler c.args.self.now c.args.spool c.if-not-spool.true

pub make_spool_queues-requires : goal.make_spool_queues-requires
make_spool_queues-requires c = record { sound = c.requires.whole.sound; queues = c.requires.queues }

pub begin_process-requires : goal.begin_process-requires
begin_process-requires c =
    let queued = spool_queued c.args.self.now c.make_spool_queues.new.kernel c.requires.whole c.requires.queues c.make_spool_queues.ensures in
    record { sound = queued.sound; console = omega (arith, queued.some, c.resident_process-new.ensures.console) }

pub returns-then-begin_process : goal.returns-then-begin_process
returns-then-begin_process c =
    queued_here c.args.self.now c.make_spool_queues.new.kernel (with_spool_queues c.args.self.now.kernel) c.begin_process.new.kernel c.add_spooler.new.self c.begin_process.result c.resident_process-new.result
    spooler_process (Spool opening_spooler) c.make_spool_queues.ensures c.begin_process.ensures.kernel c.begin_process.ensures.begun c.if-begin_process.true c.add_spooler.ensures c.resident_process-new.ensures.process
    ∙ spooler_is c.args.self.now c.args.spool c.if-not-spool.false

pub returns-else-begin_process : goal.returns-else-begin_process
returns-else-begin_process c =
    queued_refused c.args.self.now c.make_spool_queues.new.kernel (with_spool_queues c.args.self.now.kernel) c.begin_process.new.kernel c.begin_process.result c.resident_process-new.result
    spooler_process (Spool opening_spooler) c.make_spool_queues.ensures c.begin_process.ensures.kernel c.begin_process.ensures.begun c.if-begin_process.false c.resident_process-new.ensures.process
    ∙ spooler_is c.args.self.now c.args.spool c.if-not-spool.false
