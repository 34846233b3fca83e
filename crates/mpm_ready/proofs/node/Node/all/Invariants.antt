use Rattle.std.proofs.Common.{◌≡◌, ℕ, ◌<◌, length, get_or}
use Rattle.mpm_ready.proofs.node.Node.all.Given as goal

abbrev pub invariant-loop-k : goal.invariant-loop-k
invariant-loop-k l = record { size : length l.nodes ≡ 128; same : (k : ℕ) → k < l.k → get_or l.nodes k 0 ≡ k }
