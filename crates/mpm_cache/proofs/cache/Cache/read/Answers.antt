use Rattle.std.proofs.Common.{rules, ◌≡◌, ℕ, List, sym, subst, ◌∙◌, arith}
use Rattle.std.proofs.lemmas.Grind.{common_steps}
use Rattle.mpm_port.proofs.FrameLaws.{only_itself}
use Rattle.mpm_cache.specs.declared.cache.SectorPlace.{SectorPlace}
use Rattle.mpm_cache.specs.Cached.{CachesSector}
use Rattle.mpm_cache.proofs.CoherentLaws.{coherent_hit, coherent_same, coherent_read}
use Rattle.mpm_cache.proofs.AliasLaws.{apart_same, apart_read}
use Rattle.mpm_cache.proofs.cache.Cache.read.Goals as goal

pub returns-in-Some : goal.returns-in-Some
returns-in-Some g c = record {
  bytes = coherent_hit c.args.self.now (g.D.Drives.disks c.args.drives.now) c.args.drive c.args.sector c.in-Some.bytes c.requires.coherent (sym c.find.ensures.found ∙ c.in-Some.is);
  coherent = coherent_same c.args.self.now c.find.new.self (g.D.Drives.disks c.args.drives.now) c.find.ensures.same c.requires.coherent;
  apart = apart_same c.args.drive c.args.self.now c.find.new.self (g.D.Drives.disks c.args.drives.now) c.find.ensures.same;
  calls = first_of (search rules, grind (arith, common_steps));
  hit = first_of (search rules, grind (arith, common_steps));
  cached = first_of (search rules, grind (arith, common_steps));
  same = only_itself g.D.Drives c.args.drives.now;
  cause = first_of (search rules, grind (arith, common_steps));
}

pub returns-in-Ok : goal.returns-in-Ok
returns-in-Ok g c =
    let e : c.find.new.self ≡ c.args.self.now = first_of (search rules, grind (arith, common_steps)) in
    let kept = subst (λ (s : List (SectorPlace × List ℕ)). CachesSector c.args.drive c.args.sector c.read.new.out s c.keep.new.self) e c.keep.ensures.kept in
    record {
      bytes = c.in-Ok.ensures.bytes;
      coherent = rw c.read.ensures.disks (coherent_read c.args.self.now c.keep.new.self (g.D.Drives.disks c.args.drives.now) c.args.drive c.args.sector _
          kept c.in-Ok.ensures.bytes c.requires.coherent);
      apart = rw c.read.ensures.disks (apart_read c.args.drive c.args.sector _ c.args.self.now c.keep.new.self (g.D.Drives.disks c.args.drives.now) kept);
      calls = first_of (search rules, grind (arith, common_steps));
      hit = first_of (search rules, grind (arith, common_steps));
      cached = record {
        put = first_of (search rules, grind (arith, common_steps));
        kept = kept;
        err = tt;
      };
      same = first_of (search rules, grind (arith, common_steps));
      cause = c.in-Ok.ensures.cause;
    }

pub returns-in-Err : goal.returns-in-Err
returns-in-Err g c =
    let e : c.find.new.self ≡ c.args.self.now = first_of (search rules, grind (arith, common_steps)) in
    record {
      bytes = tt;
      coherent = rw (c.read.ensures.disks, e) c.requires.coherent;
      apart = rw c.read.ensures.disks (apart_same c.args.drive c.args.self.now c.find.new.self (g.D.Drives.disks c.args.drives.now) c.find.ensures.same);
      calls = first_of (search rules, grind (arith, common_steps));
      hit = first_of (search rules, grind (arith, common_steps));
      cached = first_of (search rules, grind (arith, common_steps));
      same = first_of (search rules, grind (arith, common_steps));
      cause = c.in-Err.ensures.cause;
    }
