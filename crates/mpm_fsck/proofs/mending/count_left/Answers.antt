use Rattle.std.proofs.Common.{List, length, sym, ap, subst, ◌∙◌}
use Rattle.std.specs.List.{All}
use Rattle.mpm_blocks.specs.Geometries.{geometry_of}
use Rattle.mpm_dirent.specs.declared.kinds.Entry.{Entry}
use Rattle.mpm_dirent.specs.Proper.{IsProper}
use Rattle.mpm_mount.specs.Directories.{IsWholeEntry}
use Rattle.mpm_repair.proofs.FreedSlots.{freed_proper, freed_whole, freed_long}
use Rattle.mpm_fsck.proofs.mending.count_left.Goals as goal

pub mount_entries-requires : goal.mount_entries-requires
mount_entries-requires c = record {
  full = ap (λ (xs : List Entry). length xs) c.free_listed-count.ensures.freed ∙ freed_long _ c.args.entries.items ∙ c.requires.full;
  proper = subst (All (IsProper (geometry_of c.args.kind).wide)) (sym c.free_listed-count.ensures.freed)
      (freed_proper (geometry_of c.args.kind).wide _ c.args.entries.items c.requires.proper);
  whole = subst (All IsWholeEntry) (sym c.free_listed-count.ensures.freed) (freed_whole _ c.args.entries.items c.requires.whole);
}
