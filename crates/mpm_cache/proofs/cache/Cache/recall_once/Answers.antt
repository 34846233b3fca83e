use Rattle.std.proofs.Common.{subst}
use Rattle.mpm_cache.specs.Cached.{IsCachedOnce}
use Rattle.mpm_cache.proofs.cache.Cache.recall_once.Goals as goal

pub returns : goal.returns
returns c = subst IsCachedOnce c.self.view_is c.len.ensures.valid.0
