use Rattle.std.proofs.Common.{rules, ◌+◌, ◌*◌, ◌≤◌, ◌∙◌, refl, ap, arith}
use Rattle.mpm_blocks.specs.Geometries.{geometry_of}
use Rattle.mpm_blocks.specs.declared.parameters.Geometry.{Geometry}
use Rattle.mpm_fault_lines.specs.Lists.{listed}
use Rattle.mpm_sectors.proofs.OtherImages.{told_itself, told_over}
use Rattle.mpm_repair.proofs.Freed.{listed_none}
use Rattle.mpm_repair.proofs.FreedSectors.{frees_nothing, frees_more, frees_first}
use Rattle.mpm_repair.proofs.writing.free_sectors.Goals as goal

pub loop-sector-init : goal.loop-sector-init
loop-sector-init g c = record {
  frees = frees_nothing c.args.drive c.args.kind (listed c.args.slots.now 0) (g.D.Drives.disks c.args.drives.now) (g.D.Drives.disks c.args.drives.now) (listed_none c.args.slots.now) refl;
  told = told_itself ((g.D.Drives.disks c.args.drives.now).name_of c.args.drive) (g.D.Drives.told c.args.drives.now);
  count = refl;
  names = refl;
  beside = λ other apart. refl;
}

pub returns-in-Err : goal.returns-in-Err
returns-in-Err g c =
    let drm = ap (λ (geometry : Geometry). geometry.drm) c.geometry.ensures in
    let within : 4 * (c.loop-sector.sector + 1) ≤ (geometry_of c.args.kind).drm + 1 = omega (arith, c.loop-sector-test.true, c.from.ensures, drm) in
    record {
      ok = tt;
      err = frees_first c.args.drive c.args.kind c.args.slots.now c.loop-sector.sector (g.D.Drives.disks c.args.drives.now) (g.D.Drives.disks c.loop-sector.drives) (g.D.Drives.disks c.free_sector.new.drives)
          within c.loop-sector.invariant.frees c.in-Err.ensures.err;
      told = told_over ((g.D.Drives.disks c.args.drives.now).name_of c.args.drive) ((g.D.Drives.disks c.loop-sector.drives).name_of c.args.drive) (g.D.Drives.told c.args.drives.now)
          (g.D.Drives.told c.loop-sector.drives) (g.D.Drives.told c.free_sector.new.drives) (c.loop-sector.invariant.frees.beside.names c.args.drive) c.loop-sector.invariant.told c.free_sector.ensures.told;
      cause = search rules;
      names = c.free_sector.ensures.names ∙ c.loop-sector.invariant.names;
      beside = λ other apart. c.free_sector.ensures.beside other apart ∙ c.loop-sector.invariant.beside other apart;
    }

pub loop-sector-preserved : goal.loop-sector-preserved
loop-sector-preserved g c = record {
  frees = frees_more c.args.drive c.args.kind c.args.slots.now c.loop-sector.sector (g.D.Drives.disks c.args.drives.now) (g.D.Drives.disks c.loop-sector.drives) (g.D.Drives.disks c.free_sector.new.drives)
      c.loop-sector.invariant.frees c.in-Ok.ensures.ok;
  told = told_over ((g.D.Drives.disks c.args.drives.now).name_of c.args.drive) ((g.D.Drives.disks c.loop-sector.drives).name_of c.args.drive) (g.D.Drives.told c.args.drives.now)
      (g.D.Drives.told c.loop-sector.drives) (g.D.Drives.told c.free_sector.new.drives) (c.loop-sector.invariant.frees.beside.names c.args.drive) c.loop-sector.invariant.told c.free_sector.ensures.told;
  count = c.in-Ok.ensures.cause.stays ∙ c.loop-sector.invariant.count;
  names = c.free_sector.ensures.names ∙ c.loop-sector.invariant.names;
  beside = λ other apart. c.free_sector.ensures.beside other apart ∙ c.loop-sector.invariant.beside other apart;
}
