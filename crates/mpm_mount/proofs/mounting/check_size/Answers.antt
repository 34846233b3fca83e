use Rattle.std.proofs.Common.{rules, ◌≡◌, arith}
use Rattle.std.proofs.lemmas.Grind.{common_steps}
use Rattle.mpm_blocks.specs.Geometries.{geometry_of}
use Rattle.mpm_mount.proofs.Mounts.{wrong_size}
use Rattle.mpm_mount.proofs.mounting.check_size.Goals as goal

pub returns-in-Ok-2 : goal.returns-in-Ok-2
returns-in-Ok-2 g c =
    let size : c.from.result ≡ (geometry_of c.args.kind).bytes = first_of (search rules, grind (arith, common_steps)) in
    let other : c.in-Ok.bytes ≡ (geometry_of c.args.kind).bytes → ⊥ = λ same. omega arith in
    record {
      size = tt;
      other_size = first_of (search rules, grind (arith, common_steps));
      err = wrong_size ((g.D.Drives.disks c.args.drives.now).image c.args.drive) c.args.kind c.in-Ok.bytes other c.in-Ok.ensures.size;
      count = first_of (search rules, grind (arith, common_steps));
      same = first_of (search rules, grind (arith, common_steps));
    }
