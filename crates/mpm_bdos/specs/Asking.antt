-- What turns of the call in service ask, and a call that is done at once: that the drives fit, and that what is to be done is there.
use Rattle.std.specs.Prelude.{◌≡◌, ℕ, ◌+◌, ◌≤◌, true, List, Option, Some, None, IsSome, IfSome}
use Rattle.mpm_port.specs.Disks.{Disks, size_of}
use Rattle.mpm_blocks.specs.Geometries.{geometry_of}
use Rattle.mpm_cache.specs.declared.cache.SectorPlace.{SectorPlace}
use Rattle.mpm_cache.specs.Coherent.{IsCoherent, HasNoAlias}
use Rattle.mpm_mount.specs.Drives.{Drive}
use Rattle.mpm_mount.specs.Directories.{Directory}
use Rattle.mpm_files.specs.declared.work.Work.{Work}
use Rattle.mpm_files.specs.Turning.{HasTurnLeft}
use Rattle.mpm_directories.specs.Places.{directory_at}
use Rattle.mpm_refusals.specs.Filing.{Situation}
use Rattle.mpm_bdos.specs.Jobs.{call_turns}
use Rattle.mpm_bdos.specs.Serving.{InService, Kept, StandEach, Serves}
use Rattle.mpm_bdos.specs.Turns.{FitsDrives, has_work, images_of}

-- a drive is mounted, and a turn of some work is left on it
abbrev pub HasTurnAt : Disks → Option Directory → Work → Type 0
HasTurnAt disks None work = ⊥
HasTurnAt disks (Some directory) work = HasTurnLeft disks directory work

-- so it is of a call's work, if it has some
abbrev pub HasTurnIfWork : Disks → List (Option Directory) → InService → Type 0
HasTurnIfWork disks mounted service = IfSome service.work (HasTurnAt disks (directory_at mounted service.drive))

-- a call is in service, and so it is of its work
abbrev pub HasTurnHeld : Disks → List (Option Directory) → Option InService → Type 0
HasTurnHeld disks mounted None = ⊥
HasTurnHeld disks mounted (Some service) = HasTurnIfWork disks mounted service

-- a turn of some work is left on the drive of a place, which fits the drives: it is attached to an image of its kind's size, what is
-- cached is what the images have, and no other drive of which a sector is cached has its image
pub record MayTurnPlace (disks : Disks) (place : Option Directory) (cached : List (SectorPlace × List ℕ)) (work : Work) : Type 0 where
  pub size : IfSome place (λ d. size_of disks d.drive ≡ Some (geometry_of d.kind).bytes)
  pub coherent : IsCoherent cached disks
  pub apart : IfSome place (λ d. HasNoAlias cached disks d.drive)
  pub left : HasTurnAt disks place work

-- a turn of some work is left on the drive of a number
pub record MayTurnDrive {D : Type 0} (disks : D → Disks) (number : ℕ) (mounted : List (Option Directory)) (cached : List (SectorPlace × List ℕ)) (work : Work) (drives : D) : Type 0 where
  pub fits : FitsDrives disks mounted cached drives
  pub left : HasTurnAt (disks drives) (directory_at mounted number) work

-- a turn is left of the work of a call, if it has some
pub record MayTurnWork {D : Type 0} (disks : D → Disks) (service : InService) (mounted : List (Option Directory)) (cached : List (SectorPlace × List ℕ)) (drives : D) : Type 0 where
  pub fits : FitsDrives disks mounted cached drives
  pub left : HasTurnIfWork (disks drives) mounted service

-- the same of the call in service
pub record MayTurnHeldCall {D : Type 0} (disks : D → Disks) (service : Option InService) (mounted : List (Option Directory)) (cached : List (SectorPlace × List ℕ)) (drives : D) : Type 0 where
  pub fits : FitsDrives disks mounted cached drives
  pub left : HasTurnHeld (disks drives) mounted service

-- a call is in service of which so many turns are left
pub record HasCallTurns (images : ℕ → List ℕ) (kept : Kept) (turns : ℕ) : Type 0 where
  pub situation : Situation
  pub ended : ℕ
  pub serves : Serves images kept situation ended
  pub left : ended + turns ≤ call_turns situation

-- so many turns may be done: the drives fit, a call is in service, and where it has work so many of its turns are left
pub record MayDoTurns {D : Type 0} (disks : D → Disks) (turns : ℕ) (kept : Kept) (drives : D) : Type 0 where
  pub fits : FitsDrives disks kept.mounted kept.cached drives
  pub served : IsSome kept.service
  pub left : has_work kept.service ≡ true → HasCallTurns (images_of (disks drives)) kept turns

-- the images stand for some drives
pub record StandForSome (images : ℕ → List ℕ) (mounted : List (Option Directory)) : Type 0 where
  pub drives : List (Option Drive)
  pub stand : StandEach images mounted drives
