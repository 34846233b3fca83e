use Rattle.std.proofs.Common.{◌/◌, ap, ◌∙◌, refl}
use Rattle.mpm_mount.specs.Directories.{Directory, with_entry}
use Rattle.mpm_files.proofs.EntryPuts.{beside_within, entries_put}
use Rattle.mpm_files.proofs.StandingLaws.{done, failed}
use Rattle.mpm_sectors.proofs.LeavesLaws.{few_slot_calls}
use Rattle.mpm_files.proofs.WorkingLaws.{works_as}
use Rattle.mpm_files.proofs.entries.put_entries.Goals as goal

pub returns-in-Ok : goal.returns-in-Ok
returns-in-Ok g c = record {
  puts = λ image files told stands last is_last. done _ _ _ _ _ _ _
      (entries_put c.args.mounted.now _ image files last c.args.first.now.slot c.args.second.now.slot c.args.first.now.entry c.args.second.now.entry c.disk_of-disk.result (g.D.Drives.disks c.args.drives.now)
      (g.D.Drives.disks c.put_slots.new.drives) _ c.disk_of-disk.ensures.disk told stands c.disk_of-disk.ensures.sound.full c.requires.slot (beside_within c.args.mounted.now.kind c.args.first.now.slot c.args.second.now.slot c.requires.same c.requires.slot) c.requires.same
      c.requires.faultless c.requires.second_faultless c.put_slots.ensures.read.back c.put_slots.ensures.read.long c.put_slots.ensures.second_read.back c.put_slots.ensures.second_read.long c.in-Ok.ensures.puts is_last
      (c.put-in-Ok.ensures ∙ ap (λ (d : Directory). with_entry d c.args.second.now.slot c.args.second.now.entry) c.put.ensures));
  works = works_as g.D.Drives 2 c.args.mounted.now _ c.disk_of-disk.result _ _ _ _ _ _ _ c.disk_of-disk.ensures.disk
      (record {
        drive = ap (λ (d : Directory). d.drive) c.put-in-Ok.ensures ∙ ap (λ (d : Directory). d.drive) c.put.ensures;
        kind = ap (λ (d : Directory). d.kind) c.put-in-Ok.ensures ∙ ap (λ (d : Directory). d.kind) c.put.ensures;
      })
      (few_slot_calls c.args.cache.now c.disk_of-disk.result.drive c.disk_of-disk.result.kind (c.args.first.now.slot / 4) _ _ _ c.put_slots.ensures.calls) c.put_slots.ensures.leaves c.in-Ok.ensures.cause;
}

pub returns-in-Err : goal.returns-in-Err
returns-in-Err g c = record {
  puts = λ image files told stands last is_last. failed _ _ _ _ _ _ _ _
      (entries_put c.args.mounted.now c.args.mounted.now image files last c.args.first.now.slot c.args.second.now.slot c.args.first.now.entry c.args.second.now.entry c.disk_of-disk.result (g.D.Drives.disks c.args.drives.now)
      (g.D.Drives.disks c.put_slots.new.drives) _ c.disk_of-disk.ensures.disk told stands c.disk_of-disk.ensures.sound.full c.requires.slot (beside_within c.args.mounted.now.kind c.args.first.now.slot c.args.second.now.slot c.requires.same c.requires.slot) c.requires.same
      c.requires.faultless c.requires.second_faultless c.put_slots.ensures.read.back c.put_slots.ensures.read.long c.put_slots.ensures.second_read.back c.put_slots.ensures.second_read.long c.in-Err.ensures.puts is_last tt);
  works = works_as g.D.Drives 2 c.args.mounted.now c.args.mounted.now c.disk_of-disk.result _ _ _ _ _ _ _ c.disk_of-disk.ensures.disk
      (record { drive = refl; kind = refl }) (few_slot_calls c.args.cache.now c.disk_of-disk.result.drive c.disk_of-disk.result.kind (c.args.first.now.slot / 4) _ _ _ c.put_slots.ensures.calls) c.put_slots.ensures.leaves c.in-Err.ensures.cause;
}
