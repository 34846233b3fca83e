-- What the end of a run leaves, and where it stops: the call in service is carried to its end, drives are synced, and unfinished lines are
-- closed.
use Rattle.std.specs.Prelude.{◌≡◌, ℕ, ◌+◌, ◌*◌, ◌≤◌, ◌⊎◌, Bool, List, ◌++◌, Option, None, IsSome}
use Rattle.mpm_port.specs.Disks.{Disks}
use Rattle.mpm_mount.specs.Directories.{Directory}
use Rattle.mpm_render.specs.Outputs.{rendered, closed}
use Rattle.mpm_render.specs.Shown.{Shows, EndsBetween}
use Rattle.mpm_service.specs.Ahead.{turns_left}
use Rattle.mpm_bdos.specs.Serving.{Kept}
use Rattle.mpm_directories.specs.Places.{directory_at}
use Rattle.mpm_bdos.specs.Syncing.{AreMountedSynced, StopsAtDrive, mounted_count}
use Rattle.mpm_bdos.specs.Turns.{KeepsUnsynced, drive_served}
use Rattle.mpm_system.specs.declared.system.System.{System}
use Rattle.mpm_machine.specs.declared.machine.Machine.{Machine}
use Rattle.mpm_machine.specs.declared.machine.StepFault.{StepFault}
use Rattle.mpm_machine.specs.declared.machine.StepFault.TheVariants.{DiskFault, WriteFault}
use Rattle.mpm_machine.specs.State.{State}
use Rattle.mpm_machine.specs.Files.{StandsForFiles, filing_in}
use Rattle.mpm_machine.specs.Failing.{Left, FailsWithin, HaveImages, HaveImagesOf}
use Rattle.mpm_machine.specs.Settling.{carried, left_of}

-- it came through, as that of a state: the text of all of the state's outputs and of the call's was written, with unfinished lines closed,
-- and the machine and the images stand for what the state is carried to
pub record EndsRun (trace : Bool) (machine : Machine) (written : List ℕ) (disks : Disks) (s : State) (first : List ℕ) : Type 0 where
  pub text : written ≡ first ++ closed trace (carried s).outputs
  pub system : machine.system ≡ (carried s).system
  pub files : StandsForFiles machine.system.kernel.disk machine.bdos disks (carried s).files

-- How drives were called.

-- which drives aren't synced, and how often one was called
pub record DriveCalls : Type 0 where
  pub unsynced : ℕ → Bool
  pub calls : ℕ

abbrev pub drive_calls : {D : Type 0} → (D → ℕ → Bool) → D → ℕ → DriveCalls
drive_calls unsynced drives calls = record { unsynced = unsynced drives; calls = calls }

-- the turns that were left call the drive of the call in service, at most 20 times each, and leave none synced that wasn't; without a call
-- in service none is called
pub record TurnsCall (system : System) (kept : Kept) (old new : DriveCalls) : Type 0 where
  pub unsynced : KeepsUnsynced (drive_served kept.service) old.unsynced new.unsynced
  pub calls : new.calls ≤ old.calls + 20 * turns_left system.kernel.disk
  pub idle : system.kernel.disk.served ≡ None → new ≡ old

-- each mounted drive is synced by one call, and no other is
pub record SyncsAll (mounted : List (Option Directory)) (old new : DriveCalls) : Type 0 where
  pub synced : AreMountedSynced new.unsynced mounted
  pub beside : (number : ℕ) → directory_at mounted number ≡ None → new.unsynced number ≡ old.unsynced number
  pub calls : new.calls ≡ old.calls + mounted_count mounted

-- each mounted drive before one that failed is synced, in order of their letters, and no other is
pub record SyncsUpTo (mounted : List (Option Directory)) (old new : DriveCalls) : Type 0 where
  pub stops : StopsAtDrive mounted old.unsynced new.unsynced old.calls new.calls
  pub beside : (number : ℕ) → directory_at mounted number ≡ None → new.unsynced number ≡ old.unsynced number

-- how far the drives were synced: where the sink failed as lines were closed, all were
abbrev pub SyncsTo : StepFault → List (Option Directory) → DriveCalls → DriveCalls → Type 0
SyncsTo WriteFault mounted old new = SyncsAll mounted old new
SyncsTo DiskFault mounted old new = SyncsUpTo mounted old new

-- the turns that were left were done, and the drives were synced after them
pub record AfterTurns (system : System) (kept : Kept) (Syncs : DriveCalls → DriveCalls → Type 0) (old new : DriveCalls) : Type 0 where
  pub between : DriveCalls
  pub turns : TurnsCall system kept old between
  pub syncs : Syncs between new

-- Where it stopped.

-- by the calls of drives: it stopped in a turn of the call in service, and each drive that was owed a sync is owed it still, or after the turns
abbrev pub StopsSettling : StepFault → List (Option Directory) → Kept → DriveCalls → DriveCalls → System → Type 0
StopsSettling fault mounted kept old new system =
    (IsSome system.kernel.disk.served × TurnsCall system kept old new) ⊎ AfterTurns system kept (SyncsTo fault mounted) old new

-- as that of a state: a drive failed in a turn of the call in service, when nothing of the end was written and each drive that was owed
-- a sync was owed it still
pub record StopsInTurn (left : Left) (kept : Kept) (old new : DriveCalls) (s : State) (first : List ℕ) : Type 0 where
  pub shown : Shows left.kept left.written s.outputs first
  pub images : HaveImagesOf (FailsWithin (left_of s.files s.system.kernel.disk.served)) left.disks left.mounted
  pub calls : TurnsCall s.system kept old new

-- as that of a state: a drive failed as it was synced, after the turns and after all that the call brings about was written
pub record StopsInSync (left : Left) (kept : Kept) (old new : DriveCalls) (s : State) (first : List ℕ) : Type 0 where
  pub shown : Shows left.kept left.written (carried s).outputs first
  pub images : HaveImages left.disks left.mounted (filing_in (carried s).files).drives
  pub calls : AfterTurns s.system kept (SyncsUpTo left.mounted) old new

-- as that of a state, by which device failed: where the sink did, a first part of what the end adds was written
abbrev pub StopsAtEnd : StepFault → Left → Kept → DriveCalls → DriveCalls → State → List ℕ → Type 0
StopsAtEnd WriteFault left kept old new s first =
    EndsBetween left.written first (rendered left.kept.trace s.outputs) (closed left.kept.trace (carried s).outputs)
    × HaveImages left.disks left.mounted (filing_in (carried s).files).drives
StopsAtEnd DiskFault left kept old new s first = StopsInTurn left kept old new s first ⊎ StopsInSync left kept old new s first
