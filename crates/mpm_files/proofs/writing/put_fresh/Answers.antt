use Rattle.std.proofs.Common.{sym, subst, ◌∙◌, arith}
use Rattle.std.proofs.lemmas.Option.{same_Some}
use Rattle.mpm_blocks.specs.Sectors.{sectors_of}
use Rattle.mpm_files.specs.Plans.{clears_blocks, file_of_job}
use Rattle.mpm_files.specs.Standing.{HasFreshBlock}
use Rattle.mpm_files.proofs.RecordUnits.{is_lacking, clear_within, calls_few, block_free, may_take, fresh_done, fresh_failed}
use Rattle.mpm_files.proofs.WorkingLaws.{works_within, works_then, ready_behind}
use Rattle.mpm_files.proofs.writing.put_fresh.Goals as goal

-- the record has an entry, and a fresh block is there for it

pub unreachable-requires : goal.unreachable-requires
unreachable-requires g c = block_free _ _ c.args.mounted.now c.args.cleared c.requires.fresh (sym c.free_block.ensures ∙ c.in-None.is)

pub unreachable-requires-in-None-cleared_of : goal.unreachable-requires-in-None-cleared_of
unreachable-requires-in-None-cleared_of g c =
    may_take _ _ c.args.mounted.now c.args.cleared c.in-Some.block c.requires.fresh (sym c.free_block.ensures ∙ c.in-Some.is) (sym c.cleared_of.ensures ∙ c.in-None-cleared_of.is)

-- the block, and then its entry

pub put_with_block-requires : goal.put_with_block-requires
put_with_block-requires g c = record {
  ready = c.requires.ready;
  free = sym c.free_block.ensures ∙ c.in-Some.is;
  clear = clear_within c.args.mounted.now.kind c.args.cleared c.in-Some.block c.in-Some-cleared_of.clear (sym c.cleared_of.ensures ∙ c.in-Some-cleared_of.is);
  index = c.index_in-index.ensures.within;
  few = calls_few c.args.mounted.now.kind c.args.cleared c.in-Some.block c.in-Some-cleared_of.clear c.index_in-index.result (sym c.cleared_of.ensures ∙ c.in-Some-cleared_of.is)
      c.index_in-index.ensures.within;
}

pub put_taken-requires : goal.put_taken-requires
put_taken-requires g c = record {
  ready = ready_behind g.D.Drives _ _ _ _ _ _ _ _ _ _ c.requires.ready c.put_with_block.ensures.works;
  entry = c.find_entry-found.ensures;
  free = sym c.free_block.ensures ∙ c.in-Some.is;
}

pub returns-in-Ok : goal.returns-in-Ok
returns-in-Ok g c = record {
  does = λ image files told stands.
      fresh_done image c.args.mounted.now c.put_taken.new.mounted files (file_of_job c.args.job.now) c.args.written.now.number c.find_entry-found.result.slot c.in-Some.block c.in-Some-cleared_of.clear c.index_in-index.result c.find_entry-found.result.file
      c.args.written.now.bytes c.args.cleared c.args.written.now.moment (g.D.Drives.disks c.args.drives.now) (g.D.Drives.disks c.put_with_block.new.drives) (g.D.Drives.disks c.put_taken.new.drives) _
      c.put_taken.result told stands c.find_entry-found.ensures
      (is_lacking c.args.mounted.now (file_of_job c.args.job.now) c.args.written.now.number c.find_entry-found.result.slot c.find_entry-found.result.file c.find_entry-found.ensures c.requires.lacks)
      (sym c.free_block.ensures ∙ c.in-Some.is) (sym c.cleared_of.ensures ∙ c.in-Some-cleared_of.is)
      (subst (λ i. HasFreshBlock (clears_blocks c.args.mounted.now.kind) (sectors_of i c.args.mounted.now.kind) c.args.mounted.now c.args.cleared) (same_Some _ _ (sym c.requires.told ∙ told)) c.requires.fresh)
      c.put_with_block.ensures.long c.index_in-index.ensures.index
      c.in-Ok.ensures.puts c.put_taken.ensures.puts;
  works = works_then g.D.Drives 16 4 20 _ _ _ _ _ _ _ _ _ _ _ _ _ _ (omega arith) c.in-Ok.ensures.works c.put_taken.ensures.works;
}

pub returns-in-Err : goal.returns-in-Err
returns-in-Err g c = record {
  does = λ image files told stands.
      fresh_failed image c.args.mounted.now c.args.mounted.now files (file_of_job c.args.job.now) c.args.written.now.number c.in-Some.block c.in-Some-cleared_of.clear c.index_in-index.result
      c.args.written.now.bytes c.args.cleared c.args.written.now.moment (g.D.Drives.disks c.args.drives.now) (g.D.Drives.disks c.put_with_block.new.drives) _ told stands
      (sym c.free_block.ensures ∙ c.in-Some.is) (sym c.cleared_of.ensures ∙ c.in-Some-cleared_of.is) c.put_with_block.ensures.long c.index_in-index.ensures.within c.in-Err.ensures.puts;
  works = works_within g.D.Drives 16 20 _ _ _ _ _ _ _ _ _ (omega arith) c.in-Err.ensures.works;
}
