use Rattle.std.proofs.Common.{◌≡◌, length}
use Rattle.mpm_directories.specs.Places.{AreInPlace, all_put, in_places as all_in_places}
use Rattle.mpm_directories.proofs.places.in_places.Given as goal

-- those that are left come into the places as they are now, and each that came is in its own
abbrev pub invariant-loop-next : goal.invariant-loop-next
invariant-loop-next l = record {
  put : all_put l.mounted.items l.places.items ≡ all_in_places l.fn.mounted.items;
  placed : AreInPlace l.places.items;
}

abbrev pub decreases-loop-next : goal.decreases-loop-next
decreases-loop-next l = length l.mounted.items
