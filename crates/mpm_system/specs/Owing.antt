-- Of each slot whether a process ended there which owes what it had open and marked: it is to be given back. (MP/M II Programmer's
-- Guide, "Function 143: Terminate Process".)
use Rattle.std.specs.Prelude.{ℕ, Bool, true, false, List, replicate, slice_set, if◌then◌else◌}

-- nobody does
abbrev pub nobody_owes : List Bool
nobody_owes = replicate 32 false

-- the process of a slot does, unless it stays
abbrev pub owing : ℕ → List Bool → List Bool
owing p owed = slice_set owed p true

abbrev pub owing_unless : Bool → ℕ → List Bool → List Bool
owing_unless stays p owed = if stays then owed else owing p owed
