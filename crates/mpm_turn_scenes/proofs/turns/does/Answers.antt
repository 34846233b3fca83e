use Rattle.mpm_port.specs.MemoryDisks.{disks_of}
use Rattle.mpm_turn_scenes.proofs.TurnLaws.{begins}
use Rattle.mpm_turn_scenes.proofs.turns.does.Goals as goal

pub ends-requires : goal.ends-requires
ends-requires g c =
    let first = c.requires in
    begins (disks_of c.args.drives.now) c.args.mounted.now c.args.cache.now c.args.job.now c.plan-work.result first
    (c.if-not-suits.ensures first.image first.files first.stands) c.plan-work.ensures.service
