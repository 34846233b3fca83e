use Rattle.std.proofs.Common.{Some, ap, refl}
use Rattle.mpm_bdos.specs.Planning.{guarded}
use Rattle.mpm_bdos.proofs.FewRecords.{few_on_its_drive, without_records}
use Rattle.mpm_bdos.proofs.planning.guarded.Goals as goal

pub returns-clause-job : goal.returns-clause-job
returns-clause-job c = λ image drive stands. ap Some (c.guarding.ensures image drive stands)

pub returns-clause-few : goal.returns-clause-few
returns-clause-few c =
    few_on_its_drive c.args.mounted.now (λ drive. guarded drive c.args.user c.args.block.now c.args.call.now) c.guarding.result c.recall_directory.ensures c.guarding.ensures
    (λ drive. without_records (guarded drive c.args.user c.args.block.now c.args.call.now) refl refl)
