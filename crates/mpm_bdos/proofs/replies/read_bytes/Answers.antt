use Rattle.std.proofs.Common.{◌∙◌, ◌*◌, ap, take, length, arith}
use Rattle.std.proofs.lemmas.List.{length-take}
use Rattle.mpm_jobs.specs.declared.jobs.Job.{Job}
use Rattle.mpm_bdos.proofs.ReadBytes.{records_taken}
use Rattle.mpm_bdos.proofs.replies.read_bytes.Goals as goal

pub returns-clause-bytes : goal.returns-clause-bytes
returns-clause-bytes c = λ records read.
    ap (λ n. take (128 * n) c.room_of.result.now) c.from.ensures
    ∙ records_taken records c.room_of.result.now read.before.bytes c.args.count c.room_of.ensures.size read.size read.count c.requires
    (c.room_of.ensures.bytes ∙ ap (λ (job : Job). job.bytes) read.job_is)

pub returns-clause-size : goal.returns-clause-size
returns-clause-size c =
    ap (λ n. length (take (128 * n) c.room_of.result.now)) c.from.ensures
    ∙ omega (arith, length-take (128 * c.args.count) c.room_of.result.now, c.room_of.ensures.size, c.requires)
