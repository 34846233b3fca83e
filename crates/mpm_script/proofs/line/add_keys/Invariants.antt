use Rattle.std.proofs.Common.{◌≡◌, ◌≤◌, length}
use Rattle.mpm_script.proofs.KeyLaws.{keys_onto}
use Rattle.mpm_script.proofs.line.add_keys.Given as goal

abbrev pub invariant-loop-rest : goal.invariant-loop-rest
invariant-loop-rest l = record {
  keys : keys_onto l.fn.events.items l.step l.console 128 l.text ≡ keys_onto l.events.items l.step l.console l.most l.rest;
  most : l.most ≤ 128;
}

abbrev pub decreases-loop-rest : goal.decreases-loop-rest
decreases-loop-rest l = length l.rest
