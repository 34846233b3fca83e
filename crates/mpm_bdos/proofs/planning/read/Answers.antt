use Rattle.std.proofs.Common.{Some, ap, sym, subst}
use Rattle.mpm_files.specs.Finding.{HasFewRecords}
use Rattle.mpm_bdos.proofs.planning.read.Goals as goal

pub returns-clause-job : goal.returns-clause-job
returns-clause-job c = ap Some c.reading_job.ensures

pub returns-clause-few : goal.returns-clause-few
returns-clause-few c = subst HasFewRecords (sym c.reading_job.ensures) (record { first = c.requires.first; count = c.requires.few })
