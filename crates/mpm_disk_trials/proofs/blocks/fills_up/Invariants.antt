use Rattle.std.proofs.Common.{◌≡◌}
use Rattle.mpm_base.specs.declared.kind.Kind.TheVariants.{Ibm3740}
use Rattle.mpm_disk_trials.proofs.blocks.fills_up.Given as goal

abbrev pub invariant-loop-block : goal.invariant-loop-block
invariant-loop-block l = l.map.kind ≡ Ibm3740
