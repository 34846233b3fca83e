use Rattle.mpm_machine_scenes.proofs.scene.Scene.is_so_alone.Given as goal

abbrev pub ghosts-is_seen : goal.ghosts-is_seen
ghosts-is_seen a = record { name = a.blank.name; parts = a.blank.parts }
