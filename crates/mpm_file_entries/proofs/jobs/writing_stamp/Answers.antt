use Rattle.std.proofs.Common.{◌∙◌, ap, ◌&&◌, not}
use Rattle.mpm_guard.specs.Passwords.{has_bit}
use Rattle.mpm_jobs.specs.Jobs.{stamp_where}
use Rattle.mpm_file_entries.proofs.jobs.writing_stamp.Goals as goal

pub returns : goal.returns
returns c = λ image drive stands.
    c.stamp_where.ensures
    ∙ ap (λ asks. stamp_where asks c.args.moment) (c.does_stamp.ensures ∙ ap (λ label. has_bit 0x20 label && not c.args.has_written) (c.label_byte.ensures image drive stands))
