use Rattle.std.proofs.Common.{◌∙◌, ap}
use Rattle.mpm_guard.specs.Passwords.{has_bit}
use Rattle.mpm_jobs.specs.declared.jobs.JobKind.TheVariants as kinds
use Rattle.mpm_jobs.specs.Jobs.{job_for, stamp_where, with_stamp}
use Rattle.mpm_file_entries.proofs.jobs.opening.Goals as goal

pub returns : goal.returns
returns c = λ image drive stands.
    c.opening_job.ensures
    ∙ ap (λ label. with_stamp (stamp_where (has_bit 0x40 label) c.args.moment) (job_for kinds.Nothing c.args.user c.args.name.now)) (c.label_byte.ensures image drive stands)
