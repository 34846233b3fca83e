use Rattle.std.proofs.Common.{◌∙◌, sym, ap}
use Rattle.std.specs.Prelude.{map}
use Rattle.mpm_opens.specs.Items.{file_where, is_given_back}
use Rattle.mpm_refusals.specs.Subjects.{drive_at}
use Rattle.mpm_bdos.specs.Changes.{is_deleted_in, deleted_by}
use Rattle.mpm_bdos.proofs.starting.deleted_on.Goals as goal

pub returns-in-DeleteFile : goal.returns-in-DeleteFile
unfolding deleted_by
returns-in-DeleteFile c = λ image s stands opens p deletion.
    c.deleted.ensures image (drive_at s) stands
    ∙ (λ i. map (file_where (is_given_back (p i) (is_deleted_in (drive_at s) (deletion i)))) (opens i).items)
    ∙ ap (deleted_by s) (sym c.in-DeleteFile.is)
