-- The limits by number.
use Rattle.std.proofs.Common.{◌≡◌, refl}
use Rattle.mpm_opens.specs.declared.limits.TheConstants.{ITEMS, ITEMS_OF_PROCESS, OPENINGS, LOCKS, LOCKS_OF_PROCESS}

pub items_in_all : ITEMS ≡ 64
items_in_all = refl

pub items_each : ITEMS_OF_PROCESS ≡ 16
items_each = refl

pub openings_each : OPENINGS ≡ 255
openings_each = refl

pub locks_in_all : LOCKS ≡ 128
locks_in_all = refl

pub locks_each : LOCKS_OF_PROCESS ≡ 32
locks_each = refl
