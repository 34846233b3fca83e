-- A flag for each drive, one of which is set.
use Rattle.std.proofs.Common.{◌≡◌, ◌≢◌, ℕ, ◌<◌, Bool, false, List, length}
use Rattle.std.specs.Prelude.{slice_index_or, slice_set}
use Rattle.std.proofs.lemmas.List.{get_or-set_same, get_or-set_other}

pub flag_here : (flags : List Bool) (drive : ℕ) (flag : Bool) → drive < length flags → slice_index_or (slice_set flags drive flag) drive false ≡ flag
flag_here flags drive flag within = get_or-set_same flags drive flag false within

pub flag_other : (flags : List Bool) (drive other : ℕ) (flag : Bool) → other ≢ drive → slice_index_or (slice_set flags drive flag) other false ≡ slice_index_or flags other false
flag_other flags drive other flag apart = get_or-set_other flags drive other flag false apart
