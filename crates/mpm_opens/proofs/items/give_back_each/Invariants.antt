use Rattle.std.proofs.Common.{◌≡◌, ◌++◌, map, take, drop}
use Rattle.mpm_opens.specs.Kinds.{is_among}
use Rattle.mpm_opens.specs.Items.{left_in}
use Rattle.mpm_opens.proofs.items.give_back_each.Given as goal

abbrev pub invariant-loop-place : goal.invariant-loop-place
invariant-loop-place l = l.places ≡ map (left_in l.p (is_among l.files)) (take l.place-index l.initial.places) ++ drop l.place-index l.initial.places
