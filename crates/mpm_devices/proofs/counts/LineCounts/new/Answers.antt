use Rattle.mpm_devices.proofs.KindLaws.{nothing_counted}
use Rattle.mpm_devices.proofs.counts.LineCounts.new.Goals as goal

pub invariant_of-result : goal.invariant_of-result
invariant_of-result c = nothing_counted c.in_ok-new.field-0 c.in_ok-new.ensures
