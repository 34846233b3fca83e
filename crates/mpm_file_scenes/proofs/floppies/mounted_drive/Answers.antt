use Rattle.std.proofs.Common.{◌∙◌, Some, sym, ap}
use Rattle.mpm_base.specs.declared.kind.Kind.{Kind}
use Rattle.mpm_port.specs.MemoryDisks.{disks_of}
use Rattle.mpm_blocks.specs.Geometries.{geometry_of}
use Rattle.mpm_file_scenes.proofs.FloppyLaws.{floppy_stands}
use Rattle.mpm_file_scenes.proofs.floppies.mounted_drive.Goals as goal

pub returns-in-Ok-clause-floppy : goal.returns-in-Ok-clause-floppy
returns-in-Ok-clause-floppy c = record {
  low = c.requires.low;
  its = c.in-Ok.ensures.drive;
  size = c.in-Ok.ensures.size ∙ ap (λ (kind : Kind). Some (geometry_of kind).bytes) (sym c.in-Ok.ensures.kind);
  stands = floppy_stands (disks_of c.args.drives.now.drives) c.args.number _ _ c.requires.some c.in-Ok.ensures.ok;
}
