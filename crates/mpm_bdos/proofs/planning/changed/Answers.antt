use Rattle.std.proofs.Common.{Some, ap, sym, refl, subst}
use Rattle.mpm_jobs.specs.Jobs.{job_for}
use Rattle.mpm_files.specs.Finding.{HasFewRecords}
use Rattle.mpm_bdos.proofs.FewRecords.{without_records}
use Rattle.mpm_bdos.proofs.planning.changed.Goals as goal

pub returns-clause-job : goal.returns-clause-job
returns-clause-job c = ap Some c.job_on.ensures

pub returns-clause-few : goal.returns-clause-few
returns-clause-few c = subst HasFewRecords (sym c.job_on.ensures) (without_records (job_for c.args.kind c.args.user c.args.name.now) refl refl)
