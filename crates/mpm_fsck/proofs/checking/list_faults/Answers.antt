use Rattle.std.proofs.Common.{rules, arith}
use Rattle.std.proofs.lemmas.Grind.{common_steps}
use Rattle.mpm_fsck.proofs.Found.{few_found, lists_few}
use Rattle.mpm_fsck.proofs.checking.list_faults.Goals as goal

pub returns : goal.returns
returns c =
    lists_few c.args.kind c.args.entries.now.items _ c.fault_list.result (first_of (search rules, grind (arith, common_steps)))
    (few_found c.args.kind c.args.entries.now.items c.as_mut_slice.result.now c.fault_list.new.entries c.fault_list.result c.requires c.as_mut_slice.ensures.value c.fault_list.ensures)
