use Rattle.std.proofs.Common.{◌≤◌, ◌∙◌, ap, subst}
use Rattle.mpm_dirent.specs.declared.limits.TheConstants.{LAST_POSITION}
use Rattle.mpm_fcb.specs.Positions.{sequential_record}
use Rattle.mpm_bdos.proofs.finishing.recall_position.Goals as goal

pub returns-clause-low : goal.returns-clause-low
returns-clause-low c =
    subst (λ n. n ≤ LAST_POSITION) (c.sequential_record.ensures.value ∙ ap sequential_record c.block_of_call-block.ensures.block) c.sequential_record.ensures.small
