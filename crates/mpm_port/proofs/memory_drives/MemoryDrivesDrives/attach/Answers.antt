-- The image of the name is there, and the drive is attached by it.
use Rattle.std.proofs.Common.{rules, ◌≡◌, IsSome, sym, ap, arith}
use Rattle.std.proofs.lemmas.Grind.{common_steps}
use Rattle.mpm_port.specs.Named.{contents_of, with_drive}
use Rattle.mpm_port.specs.MemoryDisks.{told_in}
use Rattle.mpm_port.proofs.Attached.{attaches}
use Rattle.mpm_port.proofs.Flags.{flag_here, flag_other}
use Rattle.mpm_port.proofs.memory_drives.MemoryDrivesDrives.attach.Goals as goal

pub returns-in-Ok-clause-answers : goal.returns-in-Ok-clause-answers
returns-in-Ok-clause-answers c =
    let images : c.args.self.now.images ≡ c.self.inside.images = grind (arith, c.self.view_is) in
    let links : c.args.self.now.links ≡ c.self.inside.links = grind (arith, c.self.view_is) in
    let there : IsSome (contents_of c.self.inside.images c.args.name.now) = grind (arith, c.get.ensures, c.if-is_none.false, c.if-is_none.ensures, c.as_bytes.ensures.value) in
    let set : c.set.new.self ≡ with_drive c.self.inside.links c.args.drive c.args.name.now = grind (arith, c.set.ensures, c.as_bytes-2.ensures.value, c.in-Ok.is) in
    record {
      ok = rw (images, links) (attaches c.self.inside.images c.self.inside.links _ c.args.drive c.args.name.now set there);
      err = tt;
      told = ap told_in (sym images);
      names = first_of (search rules, grind (arith, common_steps));
      count = first_of (search rules, grind (arith, common_steps));
      fresh = first_of (search (rules, flag_here), grind (arith, common_steps));
      unsynced = tt;
      beside = first_of (search (rules, flag_other), grind (arith, common_steps));
    }
