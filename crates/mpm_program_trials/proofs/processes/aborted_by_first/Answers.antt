use Rattle.mpm_kernel.proofs.SoundLaws.{sound_call}
use Rattle.mpm_program_trials.proofs.processes.aborted_by_first.Goals as goal

pub returns-then-lives : goal.returns-then-lives
returns-then-lives c = sound_call c.args.kernel.now 0 c.name_to_abort.new.call c.requires
