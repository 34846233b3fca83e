use Rattle.std.proofs.Common.{◌∙◌, Some, ap}
use Rattle.mpm_base.specs.Calls.{byte_in, eight_at}
use Rattle.mpm_guard.specs.Passwords.{has_bit}
use Rattle.mpm_fcb.specs.Names.{has_f6}
use Rattle.mpm_jobs.specs.declared.jobs.JobKind.TheVariants as kinds
use Rattle.mpm_mount.specs.Looking.{data_byte}
use Rattle.mpm_refusals.specs.Refusals.{makes_xfcb}
use Rattle.mpm_file_entries.specs.Protections.{given_xfcb, with_first_stamp}
use Rattle.mpm_jobs.specs.Jobs.{job_for}
use Rattle.mpm_bdos.proofs.Planned.{making_so}
use Rattle.mpm_bdos.proofs.FewRecords.{few_made}
use Rattle.mpm_bdos.proofs.planning.made.Goals as goal

pub returns-clause-job : goal.returns-clause-job
returns-clause-job c = λ image drive stands.
    let block = c.args.block.now in
    let call = c.args.call.now in
    let label = c.label_byte-label.ensures image drive stands in
    ap Some (c.making_job.ensures
    ∙ making_so c.makes_xfcb.result (makes_xfcb (data_byte drive) block) c.made_xfcb-xfcb.result _ (job_for kinds.Make c.args.user block.name)
    (c.makes_xfcb.ensures ∙ ap (λ byte. makes_xfcb byte block) label)
    (c.made_xfcb-xfcb.ensures ∙ ap (λ byte. with_first_stamp (has_bit 0x10 byte) c.args.moment (given_xfcb (has_f6 block) (byte_in call 8) (eight_at call 0))) label))

pub returns-clause-few : goal.returns-clause-few
returns-clause-few c = few_made c.makes_xfcb.result c.made_xfcb-xfcb.result c.args.user c.args.block.now.name c.making_job.result c.making_job.ensures
