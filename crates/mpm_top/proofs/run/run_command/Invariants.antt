use Rattle.mpm_top.proofs.run.run_command.Given as goal

abbrev pub ghosts-run_to_end : goal.ghosts-run_to_end
ghosts-run_to_end g a = record { name = a.blank.name; parts = a.blank.parts }
