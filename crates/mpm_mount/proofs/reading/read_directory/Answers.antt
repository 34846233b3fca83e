use Rattle.std.proofs.Common.{◌≡◌, ◌*◌, List, [], length, refl, sym, ap, subst, ◌∙◌, arith}
use Rattle.std.specs.Prelude.{IfSome}
use Rattle.std.proofs.lemmas.List.Elements.{All-nil, All-same}
use Rattle.mpm_blocks.specs.Geometries.{geometry_of}
use Rattle.mpm_blocks.specs.Sectors.{sectors_of}
use Rattle.mpm_port.specs.Disks.{Disks}
use Rattle.mpm_dirent.specs.declared.kinds.Entry.{Entry}
use Rattle.mpm_dirent.specs.Proper.{IsProper}
use Rattle.mpm_mount.specs.Directories.{IsWholeEntry}
use Rattle.mpm_mount.specs.Images.{entries_to}
use Rattle.mpm_mount.proofs.EntriesRead.{nothing_read, more_read}
use Rattle.mpm_port.proofs.FrameLaws.{only_itself, only_over}
use Rattle.mpm_mount.proofs.reading.read_directory.Goals as goal

pub loop-sector-init : goal.loop-sector-init
loop-sector-init g c =
    let here = (g.D.Drives.disks c.args.drives.now).image c.args.drive in
    record {
      entries = subst (λ (xs : List Entry). IfSome here (λ image. xs ≡ entries_to (sectors_of image c.args.kind) (geometry_of c.args.kind).wide (4 * 0)))
          (sym c.new-entries.ensures.items) (nothing_read here c.args.kind);
      size = ap length c.new-entries.ensures.items;
      proper = All-same (IsProper (geometry_of c.args.kind).wide) c.new-entries.result.items [] c.new-entries.ensures.items (All-nil (IsProper (geometry_of c.args.kind).wide));
      whole = All-same IsWholeEntry c.new-entries.result.items [] c.new-entries.ensures.items (All-nil IsWholeEntry);
      count = refl;
      same = only_itself g.D.Drives c.args.drives.now;
    }

pub loop-sector-preserved : goal.loop-sector-preserved
loop-sector-preserved g c =
    record {
      entries = more_read ((g.D.Drives.disks c.args.drives.now).image c.args.drive) ((g.D.Drives.disks c.loop-sector.drives).image c.args.drive) c.args.kind
          c.loop-sector.sector c.loop-sector.entries.items c.read_sector.new.entries.items
          (ap (λ (d : Disks). d.image c.args.drive) c.loop-sector.invariant.same.drives.images)
          c.loop-sector.invariant.entries c.in-Ok.ensures.entries;
      size = omega (arith, c.in-Ok.ensures.size, c.loop-sector.invariant.size);
      proper = c.in-Ok.ensures.proper c.loop-sector.invariant.proper;
      whole = c.in-Ok.ensures.whole c.loop-sector.invariant.whole;
      count = c.in-Ok.ensures.count ∙ c.loop-sector.invariant.count;
      same = only_over g.D.Drives c.args.drives.now c.loop-sector.drives c.read_sector.new.drives
          c.loop-sector.invariant.same c.in-Ok.ensures.same;
    }
