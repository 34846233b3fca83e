use Rattle.mpm_core.proofs.SavedLaws.{new_is}
use Rattle.mpm_core.proofs.saved.Core.new.Goals as goal

pub returns : goal.returns
returns c = new_is c.no_head.result c.in_ok-segment.segment.items c.in_ok-common.common.items c.no_head.ensures c.in_ok-common.ensures.zeros
