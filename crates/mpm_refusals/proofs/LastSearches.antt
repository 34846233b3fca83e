-- The last searches as they are kept, one of which is looked up or changed.
use Rattle.std.proofs.Common.{◌≡◌, sym, ℕ, List, Option, Some, None}
use Rattle.std.specs.Prelude.{map, slice_index_or, slice_set}
use Rattle.std.proofs.Math.ListN.{get_or-map}
use Rattle.std.proofs.lemmas.List.{map-set}
use Rattle.mpm_refusals.specs.declared.searches.LastSearch.{LastSearch}
use Rattle.mpm_refusals.specs.Searches.{search_of, searched}

pub search_at : (places : List (Option LastSearch)) (p : ℕ) → searched (slice_index_or places p None) ≡ slice_index_or (map searched places) p None
search_at places p = sym (get_or-map searched places p None)

pub search_put : (places : List (Option LastSearch)) (p : ℕ) (search : LastSearch)
    → map searched (slice_set places p (Some search)) ≡ slice_set (map searched places) p (Some (search_of search))
search_put places p search = map-set searched places p (Some search)

pub search_forgotten : (places : List (Option LastSearch)) (p : ℕ) → map searched (slice_set places p None) ≡ slice_set (map searched places) p None
search_forgotten places p = map-set searched places p None
