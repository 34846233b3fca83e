use Rattle.std.proofs.Common.{sym, arith, length-take-le}
use Rattle.mpm_loader.proofs.plan.first_record.Goals as goal

pub slice_bounds-copy_from_slice-end-2 : goal.slice_bounds-copy_from_slice-end-2
slice_bounds-copy_from_slice-end-2 c = sym (length-take-le 128 c.args.records.now (omega arith))

pub copy_from_slice-requires : goal.copy_from_slice-requires
copy_from_slice-requires c = sym (length-take-le 128 c.args.records.now (omega arith))
