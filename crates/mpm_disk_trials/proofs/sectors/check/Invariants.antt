use Rattle.mpm_disk_trials.proofs.sectors.check.Given as goal

abbrev pub ghosts-is_so : goal.ghosts-is_so
ghosts-is_so a = record { name = a.blank.name; parts = a.blank.parts }
