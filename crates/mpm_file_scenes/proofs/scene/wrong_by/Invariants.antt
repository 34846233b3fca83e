use Rattle.mpm_file_scenes.proofs.scene.wrong_by.Given as goal

abbrev pub ghosts-wrong_on : goal.ghosts-wrong_on
ghosts-wrong_on a = record { name = a.blank.name; parts = a.blank.parts }
