use Rattle.std.proofs.Common.{◌≡◌, ℕ, List, ap, sym, subst, ◌∙◌}
use Rattle.mpm_cache.specs.declared.cache.SectorPlace.{SectorPlace}
use Rattle.mpm_cache.specs.Cached.{cached_at, used, SameCached}
use Rattle.mpm_cache.proofs.CachedLaws.{used_promoted, same_promoted, none_promoted, if_none}
use Rattle.mpm_cache.proofs.cache.Cache.find.Goals as goal

pub returns-clause-found : goal.returns-clause-found
unfolding cached_at
returns-clause-found c = c.copied.ensures ∙ c.get.ensures.value ∙ ap (λ es. cached_at es c.args.drive c.args.sector) c.self.view_is

pub returns-clause-used : goal.returns-clause-used
returns-clause-used c =
    subst (λ (es : List (SectorPlace × List ℕ)). c.get.follows.lender-at-none.entries ≡ used c.args.drive c.args.sector es) c.self.view_is
    (used_promoted c.args.drive c.args.sector c.self.inside.sectors.entries c.get.follows.lender-at-none.entries (ap (λ l. l.entries) c.get.follows.holds-at-none))

pub returns-clause-same : goal.returns-clause-same
returns-clause-same c =
    subst (λ (es : List (SectorPlace × List ℕ)). SameCached es c.get.follows.lender-at-none.entries) c.self.view_is
    (same_promoted c.args.drive c.args.sector c.self.inside.sectors.entries c.get.follows.lender-at-none.entries (ap (λ l. l.entries) c.get.follows.holds-at-none))

pub returns-clause-nothing : goal.returns-clause-nothing
returns-clause-nothing c = if_none c.copied.result _ (λ none.
    none_promoted c.args.drive c.args.sector c.self.inside.sectors.entries c.get.follows.lender-at-none.entries (ap (λ l. l.entries) c.get.follows.holds-at-none)
    (sym (c.copied.ensures ∙ c.get.ensures.value) ∙ none)
    ∙ c.self.view_is)
