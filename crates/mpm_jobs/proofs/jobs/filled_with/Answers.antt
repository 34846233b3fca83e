use Rattle.mpm_jobs.proofs.Filling.{filled_by_two}
use Rattle.mpm_jobs.proofs.jobs.filled_with.Goals as goal

pub returns : goal.returns
returns c = filled_by_two _ _ _ _ _ c.copy_from_slice.ensures.after c.copy_from_slice-2.ensures.after c.split_at_mut-front.ensures.back c.requires
