use Rattle.std.proofs.Common.{ap, subst, ◌≡◌, ◌∙◌, List, ℕ}
use Rattle.mpm_cache.specs.declared.cache.SectorPlace.{SectorPlace}
use Rattle.std.specs.Map.{remove_entry}
use Rattle.mpm_cache.specs.Cached.{is_at, taken_out}
use Rattle.mpm_cache.proofs.CachedLaws.{taken, forgets}
use Rattle.mpm_cache.proofs.cache.Cache.forget.Goals as goal

pub returns-clause-out : goal.returns-clause-out
returns-clause-out c =
    subst (λ (es : List (SectorPlace × List ℕ)). c.pop.new.self.entries ≡ taken_out c.args.drive c.args.sector es) c.self.view_is
    (taken c.args.drive c.args.sector c.self.inside.sectors.entries c.pop.new.self.entries (ap (λ l. l.entries) c.pop.ensures.entries))

pub returns-clause-forgotten : goal.returns-clause-forgotten
returns-clause-forgotten c =
    forgets c.args.drive c.args.sector c.args.self.now c.pop.new.self.entries c.recall_once.ensures
    (ap (λ l. l.entries) c.pop.ensures.entries ∙ ap (λ (es : List (SectorPlace × List ℕ)). remove_entry (is_at c.args.drive c.args.sector) es) c.self.view_is)
