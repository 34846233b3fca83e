-- What was written is in the images as they were, since asking for it and counting the call leave them.
use Rattle.std.proofs.Common.{rules, ◌≡◌, sym, arith}
use Rattle.std.proofs.lemmas.Grind.{common_steps}
use Rattle.mpm_port.specs.Disks.{IsInsideDrive, size_of}
use Rattle.mpm_port.specs.MemoryDisks.{shelved}
use Rattle.mpm_port.proofs.Attached.{writes_sector, keeps_told}
use Rattle.mpm_port.proofs.Flags.{flag_here, flag_other}
use Rattle.mpm_port.proofs.memory_drives.MemoryDrivesDrives.write.Goals as goal

pub returns-clause-answers : goal.returns-clause-answers
returns-clause-answers c =
    let images : c.args.self.now.images ≡ c.self-2.inside.images = grind (arith, c.is_failing.ensures.images, c.is_failing.ensures.links, c.self.view_is, c.self-2.view_is) in
    let links : c.args.self.now.links ≡ c.self-2.inside.links = grind (arith, c.is_failing.ensures.images, c.is_failing.ensures.links, c.self.view_is, c.self-2.view_is) in
    let inside : IsInsideDrive (size_of (shelved c.self-2.inside.images c.self-2.inside.links) c.args.drive) c.args.sector = rw (sym images, sym links) c.requires in
    record {
      ok = rw (images, links) (writes_sector c.self-2.inside.images _ c.self-2.inside.links c.args.drive _ c.args.sector c.args.bytes.now c.in-Some.ensures c.write_sector.ensures inside c.told-bytes);
      err = tt;
      told = rw (images, links) (keeps_told c.self-2.inside.images _ c.self-2.inside.links c.args.drive _ c.args.sector c.args.bytes.now c.in-Some.ensures c.write_sector.ensures inside);
      cause = first_of (search rules, grind (arith, common_steps));
      names = first_of (search rules, grind (arith, common_steps));
      unsynced = first_of (search (rules, flag_here), grind (arith, common_steps));
      beside = first_of (search (rules, flag_other), grind (arith, common_steps));
    }
