use Rattle.std.proofs.Common.{Some, ap, refl}
use Rattle.mpm_bdos.specs.Planning.{opened}
use Rattle.mpm_bdos.proofs.FewRecords.{few_on_its_drive, without_records}
use Rattle.mpm_bdos.proofs.planning.opened.Goals as goal

pub returns-clause-job : goal.returns-clause-job
returns-clause-job c = λ image drive stands. ap Some (c.opening.ensures image drive stands)

pub returns-clause-few : goal.returns-clause-few
returns-clause-few c =
    few_on_its_drive c.args.mounted.now (λ drive. opened drive c.args.user c.args.name.now c.args.moment) c.opening.result c.recall_directory.ensures c.opening.ensures
    (λ drive. without_records (opened drive c.args.user c.args.name.now c.args.moment) refl refl)
