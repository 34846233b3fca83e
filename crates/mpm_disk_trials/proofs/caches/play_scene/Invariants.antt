use Rattle.mpm_disk_trials.proofs.caches.play_scene.Given as goal

abbrev pub ghosts-play_on : goal.ghosts-play_on
ghosts-play_on a = record { name = a.blank.name; parts = a.blank.parts }
