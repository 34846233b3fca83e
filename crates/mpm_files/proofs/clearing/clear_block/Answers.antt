use Rattle.std.proofs.Common.{sym, ◌∙◌}
use Rattle.mpm_files.proofs.FoundEntries.{not_missing}
use Rattle.mpm_files.proofs.RecordUnits.{clears_first, clears_stopped, block_cleared}
use Rattle.mpm_files.proofs.WorkingLaws.{works_done, works_failed}
use Rattle.mpm_files.proofs.clearing.clear_block.Goals as goal

pub unreachable-requires : goal.unreachable-requires
unreachable-requires g c = not_missing _ c.free_block.result c.requires.free c.free_block.ensures c.in-None.is

pub clear_first-requires : goal.clear_first-requires
clear_first-requires g c = record {
  ready = c.requires.ready;
  clears = c.requires.clears;
  free = sym c.free_block.ensures ∙ c.in-Some.is;
}

pub returns-in-Ok : goal.returns-in-Ok
returns-in-Ok g c = record {
  block = sym c.free_block.ensures ∙ c.in-Some.is;
  does = λ image files told stands file n.
      clears_first (g.D.Drives.disks c.args.drives.now) (g.D.Drives.disks c.clear_first.new.drives) c.args.mounted.now image files file n c.in-Some.block _ _ told stands
      c.requires.clears (sym c.free_block.ensures ∙ c.in-Some.is)
      c.in-Ok.ensures.puts;
  cleared = λ image files told stands.
      block_cleared (g.D.Drives.disks c.args.drives.now) (g.D.Drives.disks c.clear_first.new.drives) c.args.mounted.now image files c.in-Some.block _ told stands
      c.requires.clears (sym c.free_block.ensures ∙ c.in-Some.is)
      c.in-Ok.ensures.puts;
  works = works_done g.D.Drives _ _ _ _ _ _ _ _ _ _ _ c.in-Ok.ensures.works;
}

pub returns-in-Err : goal.returns-in-Err
returns-in-Err g c = record {
  block = tt;
  does = λ image files told stands file n.
      clears_stopped (g.D.Drives.disks c.args.drives.now) (g.D.Drives.disks c.clear_first.new.drives) c.args.mounted.now image files file n c.in-Some.block _ told stands
      c.requires.clears (sym c.free_block.ensures ∙ c.in-Some.is)
      c.in-Err.ensures.puts;
  cleared = λ image files told stands. tt;
  works = works_failed g.D.Drives _ _ _ _ _ _ _ _ _ _ c.in-Err.ensures.works;
}
