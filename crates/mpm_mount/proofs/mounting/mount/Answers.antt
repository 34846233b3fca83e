use Rattle.std.proofs.Common.{rules, ap, arith}
use Rattle.std.proofs.lemmas.Grind.{common_steps}
use Rattle.mpm_port.proofs.FrameLaws.{only_over}
use Rattle.mpm_port.specs.Disks.{Disks}
use Rattle.mpm_blocks.specs.Geometries.{geometry_of}
use Rattle.mpm_mount.proofs.Mounts.{mounted_so, refused_so, image_sized}
use Rattle.mpm_mount.proofs.mounting.mount.Goals as goal

pub returns-in-Ok-read_directory : goal.returns-in-Ok-read_directory
returns-in-Ok-read_directory g c =
    let before = (g.D.Drives.disks c.args.drives.now).image c.args.drive in
    let same_image = ap (λ (d : Disks). d.image c.args.drive) c.in-Ok.ensures.same.drives.images in
    let sized = image_sized before (geometry_of c.args.kind).bytes c.in-Ok.ensures.size in
    record {
      ok = mounted_so before ((g.D.Drives.disks c.check_size.new.drives).image c.args.drive) c.args.kind c.args.drive
          c.in-Ok-read_directory.entries.items c.mount_entries.result same_image sized
          c.in-Ok-read_directory.ensures.entries c.mount_entries.ensures.ok c.mount_entries.ensures.faultless;
      drive = first_of (search rules, grind (arith, common_steps));
      kind = first_of (search rules, grind (arith, common_steps));
      directory = c.mount_entries.ensures.directory;
      size = first_of (search rules, grind (arith, common_steps));
      other_size = first_of (search rules, grind (arith, common_steps));
      err = refused_so before ((g.D.Drives.disks c.check_size.new.drives).image c.args.drive) c.args.kind
          c.in-Ok-read_directory.entries.items c.mount_entries.result same_image sized
          c.in-Ok-read_directory.ensures.entries c.mount_entries.ensures.err;
      count = first_of (search rules, grind (arith, common_steps));
      same = only_over g.D.Drives _ _ _ c.in-Ok.ensures.same c.in-Ok-read_directory.ensures.same;
    }
