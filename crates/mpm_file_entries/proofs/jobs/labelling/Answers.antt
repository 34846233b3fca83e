use Rattle.std.proofs.Common.{◌∙◌, ap}
use Rattle.mpm_base.specs.Calls.{eight_at}
use Rattle.mpm_jobs.specs.declared.jobs.JobKind.TheVariants as kinds
use Rattle.mpm_jobs.specs.Jobs.{job_for, with_new_name}
use Rattle.mpm_file_entries.specs.Protections.{with_protection}
use Rattle.mpm_file_entries.proofs.PutLaws.{put_so}
use Rattle.mpm_file_entries.proofs.jobs.labelling.Goals as goal

pub returns : goal.returns
returns c = λ image drive stands.
    let block = c.args.block.now in
    c.labelling_job.ensures
    ∙ ap (λ label. with_protection label (with_new_name block.name (job_for kinds.Label c.args.user block.name)))
    (c.change_label.ensures ∙ put_so block.ex c.eight.result (eight_at c.args.call.now 8) c.label_there-label.result _ c.eight.ensures (c.label_there-label.ensures image drive stands))
