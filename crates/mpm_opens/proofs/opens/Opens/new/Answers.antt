use Rattle.mpm_opens.proofs.OpenLaws.{none_are_open}
use Rattle.mpm_opens.proofs.opens.Opens.new.Goals as goal

pub invariant_of-result : goal.invariant_of-result
invariant_of-result c = rw (c.new.ensures, c.new-2.ensures) none_are_open

pub returns-clause-sound : goal.returns-clause-sound
returns-clause-sound c = rw (c.new.ensures, c.new-2.ensures) none_are_open
