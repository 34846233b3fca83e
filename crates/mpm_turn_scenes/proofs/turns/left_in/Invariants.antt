use Rattle.mpm_turn_scenes.proofs.turns.left_in.Given as goal

abbrev pub ghosts-done : goal.ghosts-done
ghosts-done a = record { name = a.blank.name; parts = a.blank.parts }
