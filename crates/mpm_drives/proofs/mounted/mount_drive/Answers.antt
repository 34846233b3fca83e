use Rattle.std.proofs.Common.{rules, ◌∙◌, refl, arith}
use Rattle.std.proofs.lemmas.Grind.{common_steps}
use Rattle.mpm_mount.specs.Directories.{Directory}
use Rattle.mpm_drives.specs.Mounted.{number_of}
use Rattle.mpm_drives.proofs.Mounting.{mounted_as, fault_as, count_as, failures_same}
use Rattle.mpm_drives.proofs.Telling.{attached_only}
use Rattle.mpm_drives.proofs.mounted.mount_drive.Goals as goal

pub returns-in-Ok-mount : goal.returns-in-Ok-mount
returns-in-Ok-mount g c = record {
  mounted = mounted_as _ _ _ (g.D.Drives.told c.args.drives.now) c.args.spec.now c.as_str.result.now c.in-Ok-mount.mounted c.as_str.ensures
      c.in-Ok.ensures.ok c.in-Ok-mount.ensures.same.drives.images c.in-Ok-mount.ensures.drive c.in-Ok-mount.ensures.kind c.in-Ok-mount.ensures.ok;
  count = first_of (search rules, grind (arith, common_steps));
  names = first_of (search rules, grind (arith, common_steps));
  err = tt;
  fresh = first_of (search rules, grind (arith, common_steps));
  asks = first_of (search rules, grind (arith, common_steps));
  unsynced = first_of (search rules, grind (arith, common_steps));
  only = attached_only (number_of c.args.spec.now) c.as_str.result.now _ _ _ _ c.in-Ok.ensures.ok c.in-Ok-mount.ensures.same.drives.images;
  told = first_of (search rules, grind (arith, common_steps));
}

pub returns-in-Err-Image : goal.returns-in-Err-Image
returns-in-Err-Image g c = record {
  mounted = tt;
  count = tt;
  names = tt;
  err = (
    refl,
    fault_as _ _ _ (g.D.Drives.told c.args.drives.now) c.args.spec.now c.as_str.result.now c.in-Err-Image.field-0 c.in-Err-Image.cause c.in-Err-Image.place c.as_str.ensures
        c.in-Err-Image.field-0-is c.in-Ok.ensures.ok c.in-Err-Image.ensures.same.drives.images c.in-Err-Image.ensures.err,
    failures_same _ _ _ _
        (count_as Directory _ _ c.in-Err-Image.field-0 c.in-Err-Image.cause c.in-Err-Image.place c.in-Err-Image.field-0-is c.in-Err-Image.ensures.count ∙ c.in-Ok.ensures.count)
        (c.in-Err-Image.ensures.same.drives.failed ∙ c.in-Ok.ensures.names),
  );
  fresh = tt;
  asks = first_of (search rules, grind (arith, common_steps));
  unsynced = first_of (search rules, grind (arith, common_steps));
  only = attached_only (number_of c.args.spec.now) c.as_str.result.now _ _ _ _ c.in-Ok.ensures.ok c.in-Err-Image.ensures.same.drives.images;
  told = first_of (search rules, grind (arith, common_steps));
}

pub returns-in-Err-DiskFault : goal.returns-in-Err-DiskFault
returns-in-Err-DiskFault g c = record {
  mounted = tt;
  count = tt;
  names = tt;
  err = first_of (search rules, grind (arith, common_steps));
  fresh = tt;
  asks = first_of (search rules, grind (arith, common_steps));
  unsynced = first_of (search rules, grind (arith, common_steps));
  only = attached_only (number_of c.args.spec.now) c.as_str.result.now _ _ _ _ c.in-Ok.ensures.ok c.in-Err-DiskFault.ensures.same.drives.images;
  told = first_of (search rules, grind (arith, common_steps));
}

pub returns-in-Err-OutOfMemory-mount : goal.returns-in-Err-OutOfMemory-mount
returns-in-Err-OutOfMemory-mount g c = record {
  mounted = tt;
  count = tt;
  names = tt;
  err = first_of (search rules, grind (arith, common_steps));
  fresh = tt;
  asks = first_of (search rules, grind (arith, common_steps));
  unsynced = first_of (search rules, grind (arith, common_steps));
  only = attached_only (number_of c.args.spec.now) c.as_str.result.now _ _ _ _ c.in-Ok.ensures.ok c.in-Err-OutOfMemory-mount.ensures.same.drives.images;
  told = first_of (search rules, grind (arith, common_steps));
}
