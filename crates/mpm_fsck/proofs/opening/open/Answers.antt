use Rattle.std.proofs.Common.{◌∙◌, inl, ap}
use Rattle.mpm_port.specs.Causes.{names_with}
use Rattle.mpm_fsck.specs.Outside.{drives_seen}
use Rattle.mpm_fsck.proofs.Opened.{keeps_attached, lost_sized}
use Rattle.mpm_fsck.proofs.opening.open.Goals as goal

-- it couldn't be attached

pub returns-in-Err-Failed : goal.returns-in-Err-Failed
returns-in-Err-Failed g c = record {
  why = inl (c.in-Err-Failed.ensures.names ∙ ap (names_with (g.D.Drives.failed_names c.args.drives.now) c.args.name.now) c.in-Err-Failed.field-0-is, c.in-Err-Failed.ensures.count);
  keeps = keeps_attached c.args.name.now (drives_seen g.D.Drives c.args.drives.now) (drives_seen g.D.Drives c.attach.new.self) c.in-Err-Failed.ensures.err c.in-Err-Failed.ensures.told
      c.in-Err-Failed.ensures.unsynced c.in-Err-Failed.ensures.beside;
}

pub returns-in-Err-OutOfMemory : goal.returns-in-Err-OutOfMemory
returns-in-Err-OutOfMemory g c = record {
  keeps = keeps_attached c.args.name.now (drives_seen g.D.Drives c.args.drives.now) (drives_seen g.D.Drives c.attach.new.self) c.in-Err-OutOfMemory.ensures.err c.in-Err-OutOfMemory.ensures.told
      c.in-Err-OutOfMemory.ensures.unsynced c.in-Err-OutOfMemory.ensures.beside;
  fails = record { faults = c.in-Err-OutOfMemory.ensures.count; failed = c.in-Err-OutOfMemory.ensures.names ∙ ap (names_with (g.D.Drives.failed_names c.args.drives.now) c.args.name.now) c.in-Err-OutOfMemory.field-0-is };
}

-- its size isn't known, is its kind's, or another one

pub returns-in-Err : goal.returns-in-Err
returns-in-Err g c =
    let a = drives_seen g.D.Drives c.args.drives.now in
    let b = drives_seen g.D.Drives c.attach.new.self in
    let d = drives_seen g.D.Drives c.size.new.self in
    lost_sized c.args.name.now a b d c.in-Ok.ensures.ok c.in-Ok.ensures.told c.in-Ok.ensures.fresh c.in-Ok.ensures.beside (record { faults = c.in-Ok.ensures.count; failed = c.in-Ok.ensures.names })
    (record { disks = c.in-Err.ensures.disks; known = c.in-Err.ensures.told; unsynced = c.in-Err.ensures.unsynced; failed = c.in-Err.ensures.names }) c.in-Err.ensures.cause.failed
