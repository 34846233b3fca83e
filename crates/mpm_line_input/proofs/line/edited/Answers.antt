use Rattle.mpm_line_input.proofs.Laws.{few}
use Rattle.mpm_line_input.proofs.line.edited.Goals as goal

pub returns-clause-few : goal.returns-clause-few
returns-clause-few c =
    rw c.with_end.ensures
    (rw c.echo-shown.ensures.value
    (rw c.from.ensures
    (rw c.ends_at-ends.ensures
    (rw c.change.ensures.changes.size (few c.args.line.now c.args.count.now c.args.greatest c.args.key c.requires)))))
