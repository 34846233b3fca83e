use Rattle.mpm_refusals.proofs.Behind.{starts_at}
use Rattle.mpm_refusals.proofs.searching.first_at.Goals as goal

pub returns : goal.returns
returns c = λ user. starts_at user c.args.kind c.args.place.now c.extent_of.result 0 c.extent_of.ensures
