use Rattle.mpm_gate.proofs.RangesTaken.{bytes_lent, length_lent}
use Rattle.mpm_gate.proofs.memory.range_at.Goals as goal

pub returns-clause-bytes : goal.returns-clause-bytes
returns-clause-bytes c = bytes_lent _ _ _ _ _ c.view.ensures

pub returns-clause-size : goal.returns-clause-size
returns-clause-size c =
    length_lent _ _ _ _ (bytes_lent c.args.banks.now c.args.seg c.args.address c.args.count c.view.result c.view.ensures)
