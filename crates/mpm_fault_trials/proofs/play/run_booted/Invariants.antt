use Rattle.mpm_fault_trials.proofs.play.run_booted.Given as goal

abbrev pub ghosts-run : goal.ghosts-run
ghosts-run a = record { name = a.blank.name; parts = a.blank.parts }
