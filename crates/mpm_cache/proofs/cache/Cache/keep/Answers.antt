use Rattle.std.proofs.Common.{ℕ, List, subst}
use Rattle.mpm_cache.specs.declared.cache.SectorPlace.{SectorPlace}
use Rattle.mpm_cache.specs.Cached.{IsPut, CachesSector}
use Rattle.mpm_cache.proofs.CachedLaws.{is_put, keeps_put}
use Rattle.mpm_cache.proofs.cache.Cache.keep.Goals as goal

pub returns-clause-put : goal.returns-clause-put
returns-clause-put c =
    subst (λ (es : List (SectorPlace × List ℕ)). IsPut c.args.drive c.args.sector c.args.bytes.now es c.put.new.self.entries) c.self.view_is
    (is_put c.args.drive c.args.sector c.args.bytes.now _ c.put.new.self c.put.result c.self.invariant c.put.ensures.entries c.put.ensures.err c.put.ensures.succeeds)

pub returns-clause-kept : goal.returns-clause-kept
returns-clause-kept c =
    subst (λ (es : List (SectorPlace × List ℕ)). CachesSector c.args.drive c.args.sector c.args.bytes.now es c.put.new.self.entries) c.self.view_is
    (keeps_put c.args.drive c.args.sector c.args.bytes.now _ c.put.new.self c.put.result c.self.invariant c.put.ensures.entries c.put.ensures.err c.put.ensures.succeeds)
