use Rattle.std.proofs.Common.{◌∙◌, sym, ap}
use Rattle.mpm_service.specs.Disk.{DiskService}
use Rattle.mpm_kernel.specs.Kernel.{Kernel}
use Rattle.mpm_system.proofs.OpeningLaws.{whole_picked, no_completions_picked}
use Rattle.mpm_system.proofs.ResidingLaws.{all_here, residents_here}
use Rattle.mpm_system.proofs.system.System.begin_residents.Goals as goal

pub pick-requires : goal.pick-requires
pick-requires c =
    (all_here c.args.self.now c.begin_all.new.self c.args.consoles c.args.spool c.args.sched c.requires.awaits.whole c.requires.awaits.queues c.requires.awaits.consoles c.begin_all.ensures).whole.sound

pub returns : goal.returns
returns c =
    let begun = all_here c.args.self.now c.begin_all.new.self c.args.consoles c.args.spool c.args.sched c.requires.awaits.whole c.requires.awaits.queues c.requires.awaits.consoles c.begin_all.ensures in
    record {
      system = residents_here c.args.self.now c.begin_all.new.self c.pick.new.self c.args.consoles c.args.spool c.args.sched c.begin_all.ensures c.pick.ensures.kernel;
      whole = whole_picked c.begin_all.new.self c.pick.new.self begun.whole c.pick.ensures.kernel;
      no_completions = no_completions_picked c.begin_all.new.self c.pick.new.self c.pick.ensures.kernel (record {
        answered = begun.completed ∙ c.requires.no_completions.answered;
        written = begun.records ∙ c.requires.no_completions.written;
        paid = λ idle. begun.owed ∙ c.requires.no_completions.paid (ap (λ (d : DiskService). d.served) (sym begun.disk) ∙ idle);
      });
      disk = ap (λ (k : Kernel). k.disk) c.pick.ensures.kernel ∙ begun.disk;
      steps = begun.steps;
    }
