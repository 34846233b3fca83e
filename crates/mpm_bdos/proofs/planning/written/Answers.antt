use Rattle.std.proofs.Common.{◌∙◌, arith}
use Rattle.mpm_bdos.proofs.Planned.{written_so}
use Rattle.mpm_bdos.proofs.FewRecords.{few_where_some}
use Rattle.mpm_bdos.proofs.planning.written.Goals as goal

pub returns-clause-job : goal.returns-clause-job
returns-clause-job c = λ image drive stands.
    c.writing.ensures
    ∙ written_so drive c.count_free-count.result _ c.writing_stamp-stamp.result c.args.name.now c.args.bytes.now c.args.moment c.args.about c.count_free-count.ensures.value
    (c.writing_stamp-stamp.ensures image drive stands)

pub returns-clause-few : goal.returns-clause-few
returns-clause-few c =
    few_where_some c.count_free-count.result _ c.writing.result c.writing.ensures
    (record { first = c.requires.first; count = omega (arith, c.count_free-count.ensures.few, c.requires.few) })
