use Rattle.mpm_mount.specs.Using.{FreesTo}
use Rattle.mpm_mount.proofs.blocks.free_all.Given as goal

abbrev pub invariant-loop-place : goal.invariant-loop-place
invariant-loop-place l = FreesTo l.file l.place l.initial.blocks l.blocks
