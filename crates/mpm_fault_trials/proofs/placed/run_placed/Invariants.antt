use Rattle.mpm_fault_trials.proofs.placed.run_placed.Given as goal

abbrev pub ghosts-run : goal.ghosts-run
ghosts-run a = record { name = a.blank.name; parts = a.blank.parts }
