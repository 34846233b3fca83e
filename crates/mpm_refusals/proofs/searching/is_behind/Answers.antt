use Rattle.std.proofs.Common.{◌∙◌, Some, sym, ap}
use Rattle.std.specs.Prelude.{option_map}
use Rattle.mpm_refusals.specs.Looking.{at_place, entry_found}
use Rattle.mpm_refusals.specs.Subjects as spec
use Rattle.mpm_refusals.proofs.searching.is_behind.Goals as goal

pub returns-in-Some : goal.returns-in-Some
returns-in-Some c = λ user.
    c.is_before.ensures user
    ∙ ap (spec.is_behind (Some (at_place user c.in-Some.place))) (c.place_of.ensures user)
    ∙ ap (λ place. spec.is_behind (option_map (at_place user) place) (entry_found c.args.kind user c.args.found.now)) (sym c.in-Some.is)
