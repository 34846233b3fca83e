-- What is so at any time of all that is kept of file calls.
use Rattle.std.specs.Prelude.{◌≡◌, List, Option, None, false, IsSome, IfSome}
use Rattle.mpm_mount.specs.Directories.{Directory}
use Rattle.mpm_opens.specs.Opens.{OpenFiles}
use Rattle.mpm_directories.specs.Places.{directory_at}
use Rattle.mpm_refusals.specs.Filing.{HaveUsers}
use Rattle.mpm_bdos.specs.Serving.{InService}
use Rattle.mpm_bdos.specs.Replying.{is_on_drives}

-- the drive of a call is mounted, unless it is refused, or is one on drives, which names none
abbrev pub IsMountedFor : Option Directory → InService → Type 0
IsMountedFor directory service = service.refusal ≡ None → is_on_drives service.function ≡ false → IsSome directory

-- so it is of the call in service, and the users of open files are in their range
pub record HoldsCall (mounted : List (Option Directory)) (opens : OpenFiles) (service : Option InService) : Type 0 where
  pub users : HaveUsers opens
  pub granted : IfSome service (λ call. IsMountedFor (directory_at mounted call.drive) call)
