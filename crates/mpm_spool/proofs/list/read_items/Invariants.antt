use Rattle.std.proofs.Common.{◌-◌}
use Rattle.mpm_spool.proofs.Items.{IsRead}
use Rattle.mpm_spool.proofs.list.read_items.Given as goal

abbrev pub invariant-loop-list : goal.invariant-loop-list
invariant-loop-list l = IsRead l.text l.rest l.list

abbrev pub decreases-loop-list : goal.decreases-loop-list
decreases-loop-list l = 8 - l.list.count
