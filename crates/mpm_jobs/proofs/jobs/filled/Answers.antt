use Rattle.mpm_jobs.proofs.Filling.{filled_by_one}
use Rattle.mpm_jobs.proofs.jobs.filled.Goals as goal

pub returns : goal.returns
returns c = filled_by_one _ _ c.copy_from_slice.ensures.after c.requires
