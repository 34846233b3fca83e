use Rattle.std.proofs.Common.{◌∙◌}
use Rattle.mpm_port.specs.MemoryDisks.{disks_of}
use Rattle.mpm_sectors.proofs.WriteLaws.{put_elsewhere}
use Rattle.mpm_turn_scenes.proofs.disks.put_sector.Goals as goal

pub returns-then-sector-geometry : goal.returns-then-sector-geometry
returns-then-sector-geometry c =
    let elsewhere = put_elsewhere 0 c.place-sector.result c.args.bytes.now (disks_of c.args.drives.now) (disks_of c.write.new.self) c.write.result c.write.ensures.answers.ok c.write.ensures.answers.err in
    elsewhere.sizes 0 ∙ c.requires
