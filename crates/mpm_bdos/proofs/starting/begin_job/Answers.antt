use Rattle.mpm_bdos.proofs.starting.begin_job.Goals as goal

pub returns : goal.returns
returns c = λ image drive stands suits. c.plan.ensures.service image drive stands
