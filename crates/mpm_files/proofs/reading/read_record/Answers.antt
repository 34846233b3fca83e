use Rattle.std.proofs.Common.{refl, rules, arith}
use Rattle.mpm_files.proofs.WorkingLaws.{works_as, one_call}
use Rattle.mpm_files.specs.Plans.{file_of_job}
use Rattle.mpm_files.proofs.RecordUnits.{block_entered, number_lacking}
use Rattle.mpm_files.proofs.RecordReads.{reads, read_inside, reads_visible, reads_only}
use Rattle.std.proofs.lemmas.Grind.{common_steps}
use Rattle.mpm_files.proofs.reading.read_record.Goals as goal

pub find_entry-found-requires : goal.find_entry-found-requires
find_entry-found-requires g c = record { number = c.requires.number; entry = block_entered c.args.mounted.now (file_of_job c.args.job.now) c.args.n c.requires.held }

pub held_sector-sector-requires : goal.held_sector-sector-requires
held_sector-sector-requires g c = λ none. number_lacking c.args.mounted.now (file_of_job c.args.job.now) c.args.n c.find_entry-found.result.slot c.find_entry-found.result.file c.find_entry-found.ensures none c.requires.held

pub read-requires-clause-within : goal.read-requires-clause-within
read-requires-clause-within g c =
    read_inside c.args.mounted.now (file_of_job c.args.job.now) c.args.n c.find_entry-found.result.slot c.held_sector-sector.result c.find_entry-found.result.file c.disk_of.result c.disk_of.ensures.disk c.find_entry-found.ensures c.held_sector-sector.ensures

pub returns : goal.returns
returns g c = record {
  held = λ image files told stands.
      reads image c.args.mounted.now files (file_of_job c.args.job.now) c.args.n c.find_entry-found.result.slot c.held_sector-sector.result c.find_entry-found.result.file c.read.new.out c.disk_of.result (g.D.Drives.disks c.args.drives.now) c.read.result
      c.disk_of.ensures.disk c.find_entry-found.ensures c.held_sector-sector.ensures told stands c.read.ensures.bytes;
  visible = λ image files told stands none.
      reads_visible image c.args.mounted.now files (file_of_job c.args.job.now) c.args.n c.read.new.out c.read.result stands none
      (reads image c.args.mounted.now files (file_of_job c.args.job.now) c.args.n c.find_entry-found.result.slot c.held_sector-sector.result c.find_entry-found.result.file c.read.new.out c.disk_of.result (g.D.Drives.disks c.args.drives.now) c.read.result
      c.disk_of.ensures.disk c.find_entry-found.ensures c.held_sector-sector.ensures told stands c.read.ensures.bytes);
  does = λ image files told stands.
      reads_only image c.args.mounted.now files (file_of_job c.args.job.now) c.args.n (g.D.Drives.disks c.args.drives.now) (g.D.Drives.disks c.read.new.drives) c.read.result told stands c.read.ensures.disks;
  cached = first_of (search rules, grind (arith, common_steps));
  disks = c.read.ensures.disks;
  unsynced = first_of (search rules, grind (arith, common_steps));
  works = works_as g.D.Drives 1 c.args.mounted.now c.args.mounted.now c.disk_of.result _ _ _ _ _ _ _ c.disk_of.ensures.disk (record { drive = refl; kind = refl })
      (one_call _ _ _ c.read.ensures.calls) c.read.ensures.leaves c.read.ensures.cause;
}
