use Rattle.std.proofs.Common.{◌∙◌, ◌&&◌, sym, ap}
use Rattle.std.specs.Option.{option_map}
use Rattle.mpm_refusals.specs.Looking.{at_place, entry_found}
use Rattle.mpm_refusals.specs.Subjects.{is_behind}
use Rattle.mpm_refusals.proofs.searching.is_sought.Goals as goal

-- what follows of the extent, as the entry covers it

pub returns-then-is_of_extent : goal.returns-then-is_of_extent
returns-then-is_of_extent c = λ user.
    c.is_behind.ensures user
    ∙ ap (λ b. b && is_behind (option_map (at_place user) c.args.behind) (entry_found c.args.kind user c.args.found.now)) (sym c.if-is_of_extent.true ∙ c.is_of_extent.ensures user)

pub returns-else-is_of_extent : goal.returns-else-is_of_extent
returns-else-is_of_extent c = λ user.
    c.if-is_of_extent.false
    ∙ ap (λ b. b && is_behind (option_map (at_place user) c.args.behind) (entry_found c.args.kind user c.args.found.now)) (sym c.if-is_of_extent.false ∙ c.is_of_extent.ensures user)
