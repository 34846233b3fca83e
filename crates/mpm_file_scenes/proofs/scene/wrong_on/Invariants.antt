use Rattle.std.specs.Bool.{⊤}
use Rattle.mpm_file_scenes.proofs.scene.wrong_on.Given as goal

abbrev pub invariant-loop-mounting : goal.invariant-loop-mounting
invariant-loop-mounting g l = ⊤
