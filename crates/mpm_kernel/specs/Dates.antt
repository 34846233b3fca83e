-- The calls that set and tell the date and the time, whose numbers are packed decimal: two digits in a byte. (MP/M II
-- Programmer's Guide, "Function 104: Set Date and Time", "Function 105: Get Date and Time", "Function 155: Get Date and
-- Time".)
use Rattle.std.specs.Prelude.{ℕ, List, [], ◌∷◌, ◌++◌, if◌then◌else◌}
use Rattle.mpm_base.specs.Calls.{Taken, answering}
use Rattle.mpm_base.specs.declared.call.Outcome.TheVariants.{Done}
use Rattle.mpm_clock.specs.Times.{moment_of, set_to}
use Rattle.mpm_clock.specs.PackedDecimal.{packed, stamp, names_time, named_moment}
use Rattle.mpm_kernel.specs.Kernel.{Kernel}
use Rattle.mpm_kernel.specs.Called.{Called, valued, done, failure_code}

-- function 104
unfoldable pub date_set : Taken → Kernel → Called
date_set call kernel =
    if names_time call then done (record kernel { clock = set_to kernel.clock (named_moment call) }) else valued failure_code kernel

-- a call is done that answers a value and writes bytes where its parameter says
abbrev pub answered_with : Taken → ℕ → List ℕ → Kernel → Called
answered_with call value bytes kernel =
    record { kernel = kernel; outcome = Done; reply = record (answering value) { at = call.word; bytes = bytes } }

-- function 105: the second in HL
unfoldable pub date_answered : Taken → Kernel → Called
date_answered call kernel =
    let now = moment_of kernel.clock in
    answered_with call (packed now.second) (stamp now) kernel

-- function 155
unfoldable pub time_answered : Taken → Kernel → Called
time_answered call kernel =
    let now = moment_of kernel.clock in
    answered_with call 0 (stamp now ++ packed now.second ∷ []) kernel
