use Rattle.std.proofs.Common.{◌/◌, refl}
use Rattle.mpm_files.proofs.EntryPuts.{entry_put}
use Rattle.mpm_files.proofs.StandingLaws.{done, failed}
use Rattle.mpm_sectors.proofs.LeavesLaws.{few_slot_calls}
use Rattle.mpm_files.proofs.WorkingLaws.{works_as, same_put}
use Rattle.mpm_files.proofs.entries.put_entry.Goals as goal

pub returns-in-Ok : goal.returns-in-Ok
returns-in-Ok g c = record {
  puts = λ image files told stands. done _ _ _ _ _ _ _
      (entry_put c.args.mounted.now _ image files c.args.slot c.args.entry.now c.disk_of-disk.result (g.D.Drives.disks c.args.drives.now) (g.D.Drives.disks c.put_slot.new.drives) _
      c.disk_of-disk.ensures.disk told stands c.disk_of-disk.ensures.sound.full c.requires.slot c.requires.faultless c.put_slot.ensures.read.back c.put_slot.ensures.read.long c.in-Ok.ensures.puts c.put.ensures);
  works = works_as g.D.Drives 2 c.args.mounted.now _ c.disk_of-disk.result _ _ _ _ _ _ _ c.disk_of-disk.ensures.disk
      (same_put _ _ _ _ c.put.ensures)
      (few_slot_calls c.args.cache.now c.disk_of-disk.result.drive c.disk_of-disk.result.kind (c.args.slot / 4) _ _ _ c.put_slot.ensures.calls) c.put_slot.ensures.leaves c.in-Ok.ensures.cause;
}

pub returns-in-Err : goal.returns-in-Err
returns-in-Err g c = record {
  puts = λ image files told stands. failed _ _ _ _ _ _ _ _
      (entry_put c.args.mounted.now c.args.mounted.now image files c.args.slot c.args.entry.now c.disk_of-disk.result (g.D.Drives.disks c.args.drives.now) (g.D.Drives.disks c.put_slot.new.drives) _
      c.disk_of-disk.ensures.disk told stands c.disk_of-disk.ensures.sound.full c.requires.slot c.requires.faultless c.put_slot.ensures.read.back c.put_slot.ensures.read.long c.in-Err.ensures.puts tt);
  works = works_as g.D.Drives 2 c.args.mounted.now c.args.mounted.now c.disk_of-disk.result _ _ _ _ _ _ _ c.disk_of-disk.ensures.disk
      (record { drive = refl; kind = refl }) (few_slot_calls c.args.cache.now c.disk_of-disk.result.drive c.disk_of-disk.result.kind (c.args.slot / 4) _ _ _ c.put_slot.ensures.calls) c.put_slot.ensures.leaves c.in-Err.ensures.cause;
}
