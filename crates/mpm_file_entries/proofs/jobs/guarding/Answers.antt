use Rattle.std.proofs.Common.{◌∙◌, ap}
use Rattle.mpm_base.specs.Calls.{eight_at}
use Rattle.mpm_jobs.specs.declared.jobs.JobKind.TheVariants as kinds
use Rattle.mpm_jobs.specs.Jobs.{job_for}
use Rattle.mpm_file_entries.specs.Protections.{with_protection}
use Rattle.mpm_file_entries.proofs.PutLaws.{xfcb_so}
use Rattle.mpm_file_entries.proofs.jobs.guarding.Goals as goal

pub returns : goal.returns
returns c = λ image drive stands.
    let block = c.args.block.now in
    c.guarding_job.ensures
    ∙ ap (λ xfcb. with_protection xfcb (job_for kinds.Xfcb c.args.user block.name))
    (c.change_xfcb.ensures ∙ xfcb_so block.ex c.eight.result (eight_at c.args.call.now 8) c.xfcb_there-xfcb.result _ c.eight.ensures (c.xfcb_there-xfcb.ensures image drive stands))
