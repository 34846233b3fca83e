use Rattle.std.proofs.Common.{rules, arith}
use Rattle.std.proofs.lemmas.Grind.{common_steps}
use Rattle.mpm_cache.proofs.CoherentLaws.{coherent_written, coherent_failed}
use Rattle.mpm_cache.proofs.AliasLaws.{apart_written, apart_failed}
use Rattle.mpm_cache.proofs.cache.Cache.write.Goals as goal

pub returns-in-Ok : goal.returns-in-Ok
returns-in-Ok g c = record {
  ok = c.in-Ok.ensures.ok;
  err = tt;
  coherent = coherent_written c.args.self.now c.keep.new.self (g.D.Drives.disks c.args.drives.now) (g.D.Drives.disks c.write.new.self) c.args.drive c.args.sector c.args.bytes.now
      c.keep.ensures.kept c.in-Ok.ensures.ok c.told-bytes c.requires.inside c.requires.apart c.requires.coherent;
  apart = apart_written c.args.drive c.args.sector c.args.bytes.now c.args.self.now c.keep.new.self (g.D.Drives.disks c.args.drives.now) (g.D.Drives.disks c.write.new.self)
      c.keep.ensures.kept c.in-Ok.ensures.ok;
  calls = first_of (search rules, grind (arith, common_steps));
  cached = record { put = c.keep.ensures.put; kept = c.keep.ensures.kept; out = tt; forgotten = tt };
  asked = record { told_are = c.in-Ok.ensures.told; names = c.in-Ok.ensures.names; owed = c.in-Ok.ensures.unsynced; beside = c.in-Ok.ensures.beside };
  cause = c.in-Ok.ensures.cause;
}

pub returns-in-Err : goal.returns-in-Err
returns-in-Err g c = record {
  ok = tt;
  err = c.in-Err.ensures.err;
  coherent = coherent_failed c.args.self.now c.forget.new.self (g.D.Drives.disks c.args.drives.now) (g.D.Drives.disks c.write.new.self) c.args.drive c.args.sector c.args.bytes.now
      c.forget.ensures.forgotten c.in-Err.ensures.err c.told-bytes c.requires.inside c.requires.apart c.requires.coherent;
  apart = apart_failed c.args.drive c.args.sector c.args.bytes.now c.args.self.now c.forget.new.self (g.D.Drives.disks c.args.drives.now) (g.D.Drives.disks c.write.new.self)
      c.forget.ensures.forgotten c.in-Err.ensures.err;
  calls = first_of (search rules, grind (arith, common_steps));
  cached = record { put = tt; kept = tt; out = c.forget.ensures.out; forgotten = c.forget.ensures.forgotten };
  asked = record { told_are = c.in-Err.ensures.told; names = c.in-Err.ensures.names; owed = c.in-Err.ensures.unsynced; beside = c.in-Err.ensures.beside };
  cause = c.in-Err.ensures.cause;
}
