use Rattle.std.proofs.Common.{◌∙◌, arith}
use Rattle.mpm_bdos.proofs.Planned.{tested_so}
use Rattle.mpm_bdos.proofs.FewRecords.{few_where_some}
use Rattle.mpm_bdos.proofs.planning.tested.Goals as goal

pub returns-clause-job : goal.returns-clause-job
returns-clause-job c = λ image drive stands.
    c.testing.ensures
    ∙ tested_so drive c.count_tested-count.result _ c.args.caller.now.multi c.writing_stamp-stamp.result c.args.name.now c.args.bytes.now c.args.moment c.args.about
    (c.count_tested-count.ensures.value image drive stands) (c.writing_stamp-stamp.ensures image drive stands)

pub returns-clause-few : goal.returns-clause-few
returns-clause-few c =
    few_where_some c.count_tested-count.result _ c.testing.result c.testing.ensures
    (record { first = c.requires.first; count = omega (arith, c.count_tested-count.ensures.few, c.requires.count) })
