use Rattle.std.proofs.Common.{rules, ◌≡◌, ◌*◌, ◌/◌, ◌<◌, ℕ, false, refl, subst, arith}
use Rattle.mpm_blocks.specs.Geometries.{logical_sectors}
use Rattle.mpm_mount.proofs.EntryWritten.{directory_within}
use Rattle.mpm_sectors.proofs.OtherImages.{told_itself}
use Rattle.mpm_repair.specs.Freeing.{listed_from}
use Rattle.mpm_repair.proofs.FreedSectors.{frees_nothing, put_frees, put_fails}
use Rattle.mpm_repair.proofs.writing.free_sector.Goals as goal

pub returns-then-not-has_any : goal.returns-then-not-has_any
returns-then-not-has_any g c =
    let off : c.has_any.result ≡ false = search rules in
    record {
      ok = frees_nothing c.args.drive c.args.kind (listed_from c.args.slots.now (4 * c.args.sector) 4) (g.D.Drives.disks c.args.drives.now) (g.D.Drives.disks c.args.drives.now) (c.has_any.ensures off) refl;
      err = tt;
      told = told_itself ((g.D.Drives.disks c.args.drives.now).name_of c.args.drive) (g.D.Drives.told c.args.drives.now);
      cause = search rules;
      names = refl;
      beside = λ other apart. refl;
    }

pub returns : goal.returns
returns g c =
    let same : 4 * c.args.sector / 4 ≡ c.args.sector = omega arith in
    let within : c.args.sector < logical_sectors c.args.kind = subst (λ (s : ℕ). s < logical_sectors c.args.kind) same (directory_within c.args.kind (4 * c.args.sector) (omega (arith, c.requires.within))) in
    record {
      ok = put_frees c.args.drive c.args.kind c.args.slots.now c.args.sector c.place-spot.result c.read.new.out c.free_in.new.bytes (g.D.Drives.disks c.args.drives.now) (g.D.Drives.disks c.read.new.self)
          (g.D.Drives.disks c.write.new.self) c.write.result c.in-Ok.ensures.disks c.place-spot.ensures.place c.requires.size within c.in-Ok.ensures.bytes c.free_in.ensures c.write.ensures.ok;
      err = put_fails c.args.drive c.args.kind c.args.slots.now c.args.sector c.place-spot.result c.read.new.out c.free_in.new.bytes (g.D.Drives.disks c.args.drives.now) (g.D.Drives.disks c.read.new.self)
          (g.D.Drives.disks c.write.new.self) c.write.result c.in-Ok.ensures.disks c.place-spot.ensures.place c.requires.size within c.in-Ok.ensures.bytes c.free_in.ensures c.write.ensures.err;
      told = search rules;
      cause = search rules;
      names = search rules;
      beside = search rules;
    }
