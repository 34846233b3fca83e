use Rattle.std.proofs.Common.{rules, arith}
use Rattle.std.proofs.lemmas.Grind.{common_steps}
use Rattle.mpm_sectors.proofs.LeavesLaws.{leaves_over}
use Rattle.mpm_sectors.proofs.WriteLaws.{block_stopped, block_stopped_behind, block_put}
use Rattle.mpm_sectors.proofs.disk.Disk.put_block.Goals as goal

pub returns-in-Err : goal.returns-in-Err
returns-in-Err g c =
    let k = c.geometry.ensures in
    let a = c.from-records.ensures in
    let b = c.from.ensures in
    let d = c.from-clear.ensures in
    let e = c.from-index.ensures in
    let s = c.saturating_sub.ensures in
    record {
      puts = block_stopped c.args.self.now.drive c.args.self.now.kind c.args.block.number c.args.block.clear c.args.index c.args.bytes.now _ _ (g.D.Drives.disks c.args.drives.now) (g.D.Drives.disks c.clear.new.drives)
          c.in-Err.failed (cc) (cc) c.in-Err.ensures.puts.err;
      calls = first_of (search rules, grind (arith, common_steps));
      leaves = c.in-Err.ensures.leaves;
      unsynced = c.in-Err.ensures.unsynced;
      cause = c.in-Err.ensures.cause;
    }

pub returns-in-Err-clear : goal.returns-in-Err-clear
returns-in-Err-clear g c =
    let k = c.geometry.ensures in
    let a = c.from-records.ensures in
    let b = c.from.ensures in
    let d = c.from-clear.ensures in
    let e = c.from-index.ensures in
    let s = c.saturating_sub.ensures in
    let m = c.max-behind.ensures in
    record {
      puts = block_stopped_behind c.args.self.now.drive c.args.self.now.kind c.args.block.number c.args.block.clear c.args.index c.args.bytes.now _ _ _ _ (g.D.Drives.disks c.args.drives.now)
          (g.D.Drives.disks c.clear.new.drives) (g.D.Drives.disks c.clear-2.new.drives) c.in-Err-clear.failed (cc) (cc) (cc) (cc) c.in-Ok.ensures.puts.ok c.in-Err-clear.ensures.puts.err;
      calls = first_of (search rules, grind (arith, common_steps));
      leaves = leaves_over g.D.Drives.disks g.D.Drives.told g.D.Drives.failed_names g.D.Drives.unsynced c.args.self.now.drive c.args.cache.now _ _ c.args.drives.now _ _ c.in-Ok.ensures.leaves c.in-Err-clear.ensures.leaves;
      unsynced = c.in-Err-clear.ensures.unsynced;
      cause = first_of (search rules, grind (arith, common_steps));
    }

pub returns : goal.returns
returns g c =
    let k = c.geometry.ensures in
    let a = c.from-records.ensures in
    let b = c.from.ensures in
    let d = c.from-clear.ensures in
    let e = c.from-index.ensures in
    let s = c.saturating_sub.ensures in
    let m = c.max-behind.ensures in
    record {
      puts = block_put c.args.self.now.drive c.args.self.now.kind c.args.block.number c.args.block.clear c.args.index c.args.bytes.now _ _ _ _ _ (g.D.Drives.disks c.args.drives.now)
          (g.D.Drives.disks c.clear.new.drives) (g.D.Drives.disks c.clear-2.new.drives) (g.D.Drives.disks c.put.new.drives) c.put.result (cc) (cc) (cc) (cc) (cc)
          c.in-Ok.ensures.puts.ok c.in-Ok-clear.ensures.puts.ok c.put.ensures.puts;
      calls = first_of (search rules, grind (arith, common_steps));
      leaves = leaves_over g.D.Drives.disks g.D.Drives.told g.D.Drives.failed_names g.D.Drives.unsynced c.args.self.now.drive c.args.cache.now _ _ c.args.drives.now _ _ (leaves_over g.D.Drives.disks g.D.Drives.told g.D.Drives.failed_names g.D.Drives.unsynced c.args.self.now.drive c.args.cache.now _ _ c.args.drives.now _ _ c.in-Ok.ensures.leaves c.in-Ok-clear.ensures.leaves) c.put.ensures.leaves;
      unsynced = c.put.ensures.unsynced;
      cause = first_of (search rules, grind (arith, common_steps));
    }
