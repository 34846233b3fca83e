use Rattle.mpm_fsck.specs.Outside.{drives_seen}
use Rattle.mpm_fsck.proofs.Opened.{found_later}
use Rattle.mpm_fsck.proofs.checking.find.Goals as goal

pub returns-in-Ok-judge : goal.returns-in-Ok-judge
returns-in-Ok-judge g c =
    let read = c.in-Ok-read.ensures in
    found_later c.args.kind c.args.name.now
    (drives_seen g.D.Drives c.args.drives.now)
    (drives_seen g.D.Drives c.open.new.drives)
    (drives_seen g.D.Drives c.read.new.drives)
    c.in-Ok-read.entries.items c.in-Ok-judge.found c.in-Ok.ensures (record { disks = read.same.drives.images; known = read.same.drives.told_are; unsynced = read.same.unsynced_are; failed = read.same.drives.failed }) read.count read.entries
    c.in-Ok-judge.ensures
