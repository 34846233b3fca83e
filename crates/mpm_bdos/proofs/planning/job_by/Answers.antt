use Rattle.std.proofs.Common.{◌∙◌, sym, ap}
use Rattle.mpm_refusals.specs.Filing.{Situation}
use Rattle.mpm_refusals.specs.Subjects.{drive_at}
use Rattle.mpm_locks.specs.Locks.{is_locked_off, count_until}
use Rattle.mpm_bdos.specs.Jobs.{is_tested_off, job_by}
use Rattle.mpm_refusals.specs.Asking.{called}
use Rattle.mpm_bdos.specs.Planning.{written, tested}
use Rattle.mpm_bdos.proofs.Planned.{is_found, opening_is, deleting_is, setting_is, sequential_reading_is, random_reading_is, renaming_is, labelling_is, guarding_is, making_is, sequential_writing_is, random_writing_is, testing_is, no_job}
use Rattle.mpm_bdos.proofs.planning.job_by.Goals as goal

pub returns-in-OpenFile-clause-job : goal.returns-in-OpenFile-clause-job
returns-in-OpenFile-clause-job c = λ image drives protected marks searches is.
    let s : Situation = called drives protected c.args.opens.now marks searches c.args.file_call.now.caller c.args.file_call.now.function c.args.file_call.now.call.now c.args.file_call.now.moment in
    let found = is_found image c.args.mounted.now c.args.about s c.args.block.now is c.requires.block in
    c.opened.ensures.job image (drive_at s) is.stands
    ∙ opening_is s c.args.about c.args.block.now found
    ∙ ap (job_by s) (sym c.in-OpenFile.is)

pub returns-in-DeleteFile-clause-job : goal.returns-in-DeleteFile-clause-job
returns-in-DeleteFile-clause-job c = λ image drives protected marks searches is.
    let s : Situation = called drives protected c.args.opens.now marks searches c.args.file_call.now.caller c.args.file_call.now.function c.args.file_call.now.call.now c.args.file_call.now.moment in
    let found = is_found image c.args.mounted.now c.args.about s c.args.block.now is c.requires.block in
    c.changed.ensures.job
    ∙ deleting_is s c.args.about c.args.block.now found
    ∙ ap (job_by s) (sym c.in-DeleteFile.is)

pub returns-in-ReadSequential-clause-job : goal.returns-in-ReadSequential-clause-job
returns-in-ReadSequential-clause-job c = λ image drives protected marks searches is.
    let s : Situation = called drives protected c.args.opens.now marks searches c.args.file_call.now.caller c.args.file_call.now.function c.args.file_call.now.call.now c.args.file_call.now.moment in
    let found = is_found image c.args.mounted.now c.args.about s c.args.block.now is c.requires.block in
    c.read.ensures.job
    ∙ sequential_reading_is s c.args.about c.args.block.now found c.in-ReadSequential.is
    ∙ ap (job_by s) (sym c.in-ReadSequential.is)

pub returns-in-WriteSequential-clause-job : goal.returns-in-WriteSequential-clause-job
returns-in-WriteSequential-clause-job c = λ image drives protected marks searches is.
    let s : Situation = called drives protected c.args.opens.now marks searches c.args.file_call.now.caller c.args.file_call.now.function c.args.file_call.now.call.now c.args.file_call.now.moment in
    let found = is_found image c.args.mounted.now c.args.about s c.args.block.now is c.requires.block in
    c.written.ensures.job image (drive_at s) is.stands
    ∙ ap (λ bytes. written (drive_at s) (count_until (is_locked_off s.filing.opens s.caller.process c.args.about.file) c.args.about.first s.caller.multi) c.args.block.now.name bytes s.moment c.args.about)
    c.taken-bytes.ensures
    ∙ sequential_writing_is s c.args.about c.args.block.now found c.in-WriteSequential.is
    ∙ ap (job_by s) (sym c.in-WriteSequential.is)

pub returns-in-MakeFile-clause-job : goal.returns-in-MakeFile-clause-job
returns-in-MakeFile-clause-job c = λ image drives protected marks searches is.
    let s : Situation = called drives protected c.args.opens.now marks searches c.args.file_call.now.caller c.args.file_call.now.function c.args.file_call.now.call.now c.args.file_call.now.moment in
    let found = is_found image c.args.mounted.now c.args.about s c.args.block.now is c.requires.block in
    c.made.ensures.job image (drive_at s) is.stands
    ∙ making_is s c.args.about c.args.block.now found
    ∙ ap (job_by s) (sym c.in-MakeFile.is)

pub returns-in-RenameFile-clause-job : goal.returns-in-RenameFile-clause-job
returns-in-RenameFile-clause-job c = λ image drives protected marks searches is.
    let s : Situation = called drives protected c.args.opens.now marks searches c.args.file_call.now.caller c.args.file_call.now.function c.args.file_call.now.call.now c.args.file_call.now.moment in
    let found = is_found image c.args.mounted.now c.args.about s c.args.block.now is c.requires.block in
    c.renamed.ensures.job
    ∙ renaming_is s c.args.about c.args.block.now found
    ∙ ap (job_by s) (sym c.in-RenameFile.is)

pub returns-in-SetAttributes-clause-job : goal.returns-in-SetAttributes-clause-job
returns-in-SetAttributes-clause-job c = λ image drives protected marks searches is.
    let s : Situation = called drives protected c.args.opens.now marks searches c.args.file_call.now.caller c.args.file_call.now.function c.args.file_call.now.call.now c.args.file_call.now.moment in
    let found = is_found image c.args.mounted.now c.args.about s c.args.block.now is c.requires.block in
    c.changed-in-SetAttributes.ensures.job
    ∙ setting_is s c.args.about c.args.block.now found
    ∙ ap (job_by s) (sym c.in-SetAttributes.is)

pub returns-in-ReadRandom-clause-job : goal.returns-in-ReadRandom-clause-job
returns-in-ReadRandom-clause-job c = λ image drives protected marks searches is.
    let s : Situation = called drives protected c.args.opens.now marks searches c.args.file_call.now.caller c.args.file_call.now.function c.args.file_call.now.call.now c.args.file_call.now.moment in
    let found = is_found image c.args.mounted.now c.args.about s c.args.block.now is c.requires.block in
    c.read-in-ReadRandom.ensures.job
    ∙ random_reading_is s c.args.about c.args.block.now found c.in-ReadRandom.is
    ∙ ap (job_by s) (sym c.in-ReadRandom.is)

pub returns-in-WriteRandom-clause-job : goal.returns-in-WriteRandom-clause-job
returns-in-WriteRandom-clause-job c = λ image drives protected marks searches is.
    let s : Situation = called drives protected c.args.opens.now marks searches c.args.file_call.now.caller c.args.file_call.now.function c.args.file_call.now.call.now c.args.file_call.now.moment in
    let found = is_found image c.args.mounted.now c.args.about s c.args.block.now is c.requires.block in
    c.written-in-WriteRandom.ensures.job image (drive_at s) is.stands
    ∙ ap (λ bytes. written (drive_at s) (count_until (is_locked_off s.filing.opens s.caller.process c.args.about.file) c.args.about.first s.caller.multi) c.args.block.now.name bytes s.moment c.args.about)
    c.taken-bytes.ensures
    ∙ random_writing_is s c.args.about c.args.block.now found c.in-WriteRandom.is
    ∙ ap (job_by s) (sym c.in-WriteRandom.is)

pub returns-in-TestAndWrite-clause-job : goal.returns-in-TestAndWrite-clause-job
returns-in-TestAndWrite-clause-job c = λ image drives protected marks searches is.
    let s : Situation = called drives protected c.args.opens.now marks searches c.args.file_call.now.caller c.args.file_call.now.function c.args.file_call.now.call.now c.args.file_call.now.moment in
    let found = is_found image c.args.mounted.now c.args.about s c.args.block.now is c.requires.block in
    c.tested.ensures.job image (drive_at s) is.stands
    ∙ ap (λ bytes. tested (drive_at s) (count_until (is_tested_off (drive_at s) s.filing.opens s.caller.process c.args.about.file) c.args.about.first s.caller.multi) s.caller.multi c.args.block.now.name bytes s.moment c.args.about)
    c.taken-bytes.ensures
    ∙ testing_is s c.args.about c.args.block.now found c.in-TestAndWrite.is
    ∙ ap (job_by s) (sym c.in-TestAndWrite.is)

pub returns-in-SetLabel-clause-job : goal.returns-in-SetLabel-clause-job
returns-in-SetLabel-clause-job c = λ image drives protected marks searches is.
    let s : Situation = called drives protected c.args.opens.now marks searches c.args.file_call.now.caller c.args.file_call.now.function c.args.file_call.now.call.now c.args.file_call.now.moment in
    let found = is_found image c.args.mounted.now c.args.about s c.args.block.now is c.requires.block in
    c.labelled.ensures.job image (drive_at s) is.stands
    ∙ labelling_is s c.args.about c.args.block.now found
    ∙ ap (job_by s) (sym c.in-SetLabel.is)

pub returns-in-WriteXfcb-clause-job : goal.returns-in-WriteXfcb-clause-job
returns-in-WriteXfcb-clause-job c = λ image drives protected marks searches is.
    let s : Situation = called drives protected c.args.opens.now marks searches c.args.file_call.now.caller c.args.file_call.now.function c.args.file_call.now.call.now c.args.file_call.now.moment in
    let found = is_found image c.args.mounted.now c.args.about s c.args.block.now is c.requires.block in
    c.guarded.ensures.job image (drive_at s) is.stands
    ∙ guarding_is s c.args.about c.args.block.now found
    ∙ ap (job_by s) (sym c.in-WriteXfcb.is)

pub returns-in_default-clause-job : goal.returns-in_default-clause-job
returns-in_default-clause-job c = λ image drives protected marks searches is.
    let s : Situation = called drives protected c.args.opens.now marks searches c.args.file_call.now.caller c.args.file_call.now.function c.args.file_call.now.call.now c.args.file_call.now.moment in
    no_job s c.args.file_call.now.function (record {
      opens = c.in_default.not-OpenFile;
      deletes = c.in_default.not-DeleteFile;
      reads = c.in_default.not-ReadSequential;
      writes = c.in_default.not-WriteSequential;
      makes = c.in_default.not-MakeFile;
      renames = c.in_default.not-RenameFile;
      sets = c.in_default.not-SetAttributes;
      reads_random = c.in_default.not-ReadRandom;
      writes_random = c.in_default.not-WriteRandom;
      tests = c.in_default.not-TestAndWrite;
      labels = c.in_default.not-SetLabel;
      guards = c.in_default.not-WriteXfcb;
    })
