use Rattle.std.proofs.Common.{arith}
use Rattle.mpm_files.specs.Plans.{file_of_job}
use Rattle.mpm_files.proofs.HeldRecords.{held_inside, record_put}
use Rattle.mpm_files.proofs.RecordUnits.{block_entered, number_lacking, held_done, held_failed}
use Rattle.mpm_files.proofs.WorkingLaws.{works_within, works_then, ready_behind}
use Rattle.mpm_files.proofs.writing.put_held.Goals as goal

-- its block is held

pub find_entry-found-requires : goal.find_entry-found-requires
find_entry-found-requires g c = record { number = c.requires.number; entry = block_entered c.args.mounted.now (file_of_job c.args.job.now) c.args.written.now.number c.requires.held }

pub held_sector-sector-requires : goal.held_sector-sector-requires
held_sector-sector-requires g c = λ none. number_lacking c.args.mounted.now (file_of_job c.args.job.now) c.args.written.now.number c.find_entry-found.result.slot c.find_entry-found.result.file c.find_entry-found.ensures none c.requires.held

-- the record, and then its entry

pub put_sector-requires : goal.put_sector-requires
put_sector-requires g c = record {
  ready = c.requires.ready;
  within = held_inside c.args.mounted.now (file_of_job c.args.job.now) c.args.written.now.number c.find_entry-found.result.slot c.held_sector-sector.result c.find_entry-found.result.file c.find_entry-found.ensures c.held_sector-sector.ensures;
}

pub put_raised-requires : goal.put_raised-requires
put_raised-requires g c = record {
  ready = ready_behind g.D.Drives _ _ _ _ _ _ _ _ _ _ c.requires.ready c.put_sector.ensures.works;
  entry = c.find_entry-found.ensures;
}

pub returns-in-Ok : goal.returns-in-Ok
returns-in-Ok g c = record {
  does = λ image files told stands.
      held_done image c.args.mounted.now c.put_raised.new.mounted files (file_of_job c.args.job.now) c.args.written.now.number c.find_entry-found.result.slot c.find_entry-found.result.file
      c.args.written.now.bytes c.args.written.now.moment (g.D.Drives.disks c.put_sector.new.drives) (g.D.Drives.disks c.put_raised.new.drives) _ c.put_raised.result stands c.find_entry-found.ensures
      c.held_sector-sector.ensures.held (record_put image c.args.mounted.now files (file_of_job c.args.job.now) c.args.written.now.number c.find_entry-found.result.slot c.held_sector-sector.result c.find_entry-found.result.file c.args.written.now.bytes
      (g.D.Drives.disks c.args.drives.now) (g.D.Drives.disks c.put_sector.new.drives) _ told stands c.find_entry-found.ensures c.held_sector-sector.ensures c.put_sector.ensures.long c.in-Ok.ensures.puts) c.put_raised.ensures.puts;
  works = works_then g.D.Drives 1 4 5 _ _ _ _ _ _ _ _ _ _ _ _ _ _ (omega arith) c.in-Ok.ensures.works c.put_raised.ensures.works;
}

pub returns-in-Err : goal.returns-in-Err
returns-in-Err g c = record {
  does = λ image files told stands.
      held_failed image c.args.mounted.now c.args.mounted.now files (file_of_job c.args.job.now) c.args.written.now.number c.find_entry-found.result.slot c.find_entry-found.result.file
      c.args.written.now.bytes c.args.written.now.moment (g.D.Drives.disks c.put_sector.new.drives) _ stands c.find_entry-found.ensures
      c.held_sector-sector.ensures.held (record_put image c.args.mounted.now files (file_of_job c.args.job.now) c.args.written.now.number c.find_entry-found.result.slot c.held_sector-sector.result c.find_entry-found.result.file c.args.written.now.bytes
      (g.D.Drives.disks c.args.drives.now) (g.D.Drives.disks c.put_sector.new.drives) _ told stands c.find_entry-found.ensures c.held_sector-sector.ensures c.put_sector.ensures.long c.in-Err.ensures.puts);
  works = works_within g.D.Drives 1 5 _ _ _ _ _ _ _ _ _ (omega arith) c.in-Err.ensures.works;
}
