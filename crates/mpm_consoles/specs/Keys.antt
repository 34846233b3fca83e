-- The control characters of a console: ^S stops its output, ^Q lets it go on, ^C aborts its owner, and ^D passes it on. (MP/M II
-- User's Guide, control characters of a console.)
use Rattle.std.specs.Prelude.{ℕ, Bool, Option, Some, None, ◌==◌, if◌then◌else◌}
use Rattle.mpm_consoles.specs.declared.keys.Control.{Control}
use Rattle.mpm_consoles.specs.declared.keys.Control.TheVariants.{Stop, Resume, Abort, Detach}

-- what a key does as a control character; on a raw console all keys are like others
unfoldable pub control_of : Bool → ℕ → Option Control
control_of raw byte =
    if raw then None
    else (if byte == 19 then Some Stop
    else (if byte == 17 then Some Resume
    else (if byte == 3 then Some Abort
    else (if byte == 4 then Some Detach
    else None))))
