use Rattle.std.proofs.Common.{◌∙◌, rules, [], ◌∷◌, arith}
use Rattle.std.proofs.lemmas.Grind.{common_steps}
use Rattle.mpm_sectors.specs.Slots.{slots_write}
use Rattle.mpm_sectors.proofs.LeavesLaws.{leaves_over}
use Rattle.mpm_sectors.proofs.WriteLaws.{first_none}
use Rattle.mpm_sectors.proofs.SlotPuts.{put_by_bytes, slots_put}
use Rattle.mpm_sectors.proofs.disk.Disk.put_slots.Goals as goal

pub returns-in-Err : goal.returns-in-Err
returns-in-Err g c = record {
  puts = λ image told. record {
    ok = tt;
    err = first_none c.args.self.now.drive c.args.self.now.kind (slots_write c.args.self.now.kind image c.args.first.now.slot c.args.first.now.entry c.args.second.now.slot c.args.second.now.entry ∷ [])
        (g.D.Drives.disks c.args.drives.now) (g.D.Drives.disks c.read.new.drives) c.read.ensures.disks;
  };
  read = first_of (search rules, grind (arith, common_steps));
  second_read = first_of (search rules, grind (arith, common_steps));
  calls = first_of (search rules, grind (arith, common_steps));
  leaves = c.in-Err.ensures.leaves;
  unsynced = tt;
  cause = c.in-Err.ensures.cause;
}

pub returns : goal.returns
returns g c = record {
  puts = λ image told. slots_put c.args.self.now.drive c.args.self.now.kind image c.args.first.now.slot c.from.result c.from-2.result c.args.second.now.slot c.args.first.now.entry c.args.second.now.entry
      c.geometry-wide.result.wide c.read.new.out c.put_entry.new.sector c.put_entry-2.new.sector _ _ _ c.put.result c.in-Ok.ensures.disks (first_of (search rules, grind (arith, common_steps))) (first_of (search rules, grind (arith, common_steps))) (first_of (search rules, grind (arith, common_steps)))
      (c.in-Ok.ensures.bytes image told) (c.put_entry.ensures ∙ put_by_bytes _ _ _ _ _ c.entry_bytes-bytes.ensures.bytes)
      (c.put_entry-2.ensures ∙ put_by_bytes _ _ _ _ _ c.entry_bytes-second_bytes.ensures.bytes) c.put.ensures.puts;
  read = first_of (search rules, grind (arith, common_steps));
  second_read = first_of (search rules, grind (arith, common_steps));
  calls = first_of (search rules, grind (arith, common_steps));
  leaves = leaves_over g.D.Drives.disks g.D.Drives.told g.D.Drives.failed_names g.D.Drives.unsynced c.args.self.now.drive c.args.cache.now _ _ c.args.drives.now _ _ c.in-Ok.ensures.leaves c.put.ensures.leaves;
  unsynced = first_of (search rules, grind (arith, common_steps));
  cause = first_of (search rules, grind (arith, common_steps));
}
