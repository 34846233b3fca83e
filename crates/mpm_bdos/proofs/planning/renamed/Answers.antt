use Rattle.std.proofs.Common.{◌∙◌, Some, ap, sym, refl, subst}
use Rattle.mpm_jobs.specs.declared.jobs.JobKind.TheVariants as kinds
use Rattle.mpm_jobs.specs.Jobs.{job_for, with_new_name}
use Rattle.mpm_files.specs.Finding.{HasFewRecords}
use Rattle.mpm_bdos.proofs.FewRecords.{without_records}
use Rattle.mpm_bdos.proofs.planning.renamed.Goals as goal

pub returns-clause-job : goal.returns-clause-job
returns-clause-job c =
    ap Some (c.renaming_job.ensures
    ∙ ap (λ new_name. with_new_name new_name (job_for kinds.Rename c.args.user c.args.block.now.name)) c.new_name.ensures)

pub returns-clause-few : goal.returns-clause-few
returns-clause-few c = subst HasFewRecords (sym c.renaming_job.ensures) (without_records (with_new_name _ (job_for kinds.Rename c.args.user c.args.block.now.name)) refl refl)
