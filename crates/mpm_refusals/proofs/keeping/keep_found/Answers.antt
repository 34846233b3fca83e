use Rattle.std.specs.Prelude.{slice_index_or}
use Rattle.std.proofs.Common.{None}
use Rattle.mpm_refusals.proofs.KeepLaws.{kept_found}
use Rattle.mpm_refusals.proofs.keeping.keep_found.Goals as goal

pub returns-in-Some : goal.returns-in-Some
returns-in-Some c = λ files is.
    let asked = c.args.asked.now in
    let p = asked.caller.process in
    kept_found c.args.searches.now c.keep.new.searches p c.args.kind files asked.caller.user asked.drive asked.block (slice_index_or c.args.searches.now p None) c.get-search.result
    c.search_behind.result asked.function c.args.found.now c.in-Some.entry c.place_of-place.result c.in-Some.is is c.get-search.ensures (c.place_of-place.ensures c.in-Some.entry.user) c.search_behind.ensures
    c.keep.ensures
