use Rattle.std.proofs.Common.{rules, arith, Bool, List, ◌++◌, ap, ◌∙◌}
use Rattle.std.proofs.lemmas.Grind.{common_steps}
use Rattle.mpm_blocks.specs.Geometries.{geometry_of}
use Rattle.mpm_blocks.specs.declared.parameters.Geometry.{Geometry}
use Rattle.mpm_dirent.specs.declared.kinds.Entry.{Entry}
use Rattle.mpm_mount.specs.Images.{entries_in}
use Rattle.mpm_mount.proofs.EntriesRead.{sized_more, sector_read}
use Rattle.mpm_mount.proofs.reading.read_sector.Goals as goal

pub returns-in-Ok-push_entries : goal.returns-in-Ok-push_entries
returns-in-Ok-push_entries g c =
    let wide = ap (λ (geometry : Geometry). geometry.wide) c.geometry.ensures in
    record {
      entries = sector_read ((g.D.Drives.disks c.args.drives.now).image c.args.drive) c.args.kind c.args.sector c.place.result c.read.new.out (geometry_of c.args.kind).wide
          c.args.entries.now.items c.push_entries.new.entries.items c.place.ensures.place c.in-Ok.ensures.bytes
          (◌∙◌ {A = List Entry} c.in-Ok-push_entries.ensures.entries (ap (λ (w : Bool). c.args.entries.now.items ++ entries_in c.read.new.out w 4) wide));
      size = sized_more c.read.new.out c.geometry.result.wide c.args.entries.now.items c.push_entries.new.entries.items c.in-Ok-push_entries.ensures.entries;
      proper = first_of (search rules, grind (arith, common_steps));
      whole = first_of (search rules, grind (arith, common_steps));
      device = tt;
      count = first_of (search rules, grind (arith, common_steps));
      same = first_of (search rules, grind (arith, common_steps));
    }
