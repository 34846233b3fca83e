-- What a scene carries between its calls, and within one.
use Rattle.std.specs.Prelude.{◌≡◌, ℕ, None}
use Rattle.mpm_port.specs.Disks.{Disks}
use Rattle.mpm_refusals.specs.Filing.{Situation}
use Rattle.mpm_bdos.specs.Asking.{StandForSome}
use Rattle.mpm_bdos.specs.Jobs.{call_turns}
use Rattle.mpm_bdos.specs.Serving.{Kept, Serves}
use Rattle.mpm_bdos.specs.Turns.{FitsDrives, images_of}

-- no call is in service; the drives fit, and their images stand for some files
pub record IsBetweenCalls {D : Type 0} (disks : D → Disks) (kept : Kept) (drives : D) : Type 0 where
  pub fits : FitsDrives disks kept.mounted kept.cached drives
  pub stand : StandForSome (images_of (disks drives)) kept.mounted
  pub none : kept.service ≡ None

-- the drives fit, and a call is in service on them with so many of its turns ended
pub record IsWithinCall {D : Type 0} (disks : D → Disks) (kept : Kept) (drives : D) (ended turns : ℕ) : Type 0 where
  pub fits : FitsDrives disks kept.mounted kept.cached drives
  pub situation : Situation
  pub serves : Serves (images_of (disks drives)) kept situation ended
  pub all : call_turns situation ≡ turns
