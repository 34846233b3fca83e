-- What the parts of a step leave, one after another.
use Rattle.std.proofs.Common.{◌≡◌, ◌∙◌, ℕ, Bool, List, [], Option, Result, Ok, Err, OnOk, IfErr, refl, sym, subst, arith}
use Rattle.std.specs.Prelude.{IsOk}
use Rattle.std.proofs.lemmas.Bool.{false≢true}
use Rattle.mpm_port.specs.declared.Failed.{Failed}
use Rattle.mpm_port.specs.Disks.{Disks}
use Rattle.mpm_port.specs.declared.drives.Drives.{Ghosts}
use Rattle.mpm_mount.specs.Directories.{Directory}
use Rattle.mpm_drives.specs.Images.{Images}
use Rattle.mpm_service.specs.Disk.{HasBegun}
use Rattle.mpm_system.specs.Whole.{IsWhole}
use Rattle.mpm_machine.specs.declared.machine.Machine.{Machine}
use Rattle.mpm_machine.specs.declared.machine.StepFault.{StepFault}
use Rattle.mpm_machine.specs.declared.machine.StepFault.TheVariants.{WriteFault}
use Rattle.mpm_machine.specs.Faults.{EndsBySink}
use Rattle.mpm_machine.specs.Holding.{AreFiled, OwnsService}
use Rattle.mpm_bdos.specs.Serving.{Kept}
use Rattle.mpm_bdos.specs.AtOnce.{TurnsLeave}
use Rattle.mpm_machine.specs.Mounting.{HasNoDrive, KeepsMounted}
use Rattle.mpm_machine.specs.Parts.{MayEnd, UsesDrives, of_drive}
use Rattle.mpm_machine.proofs.FilingLaws.{bare_still}
use Rattle.mpm_machine.proofs.DriveLaws.{keeps_still, keeps_both}

-- after the disk's step, where it succeeded
pub may_end : {A E : Type 0} (r : Result A E) (machine : Machine) → OnOk r (IsWhole machine.system) → OnOk r (machine.system.kernel.dispatcher.completed ≡ [])
    → OnOk r (AreFiled machine.system.kernel) → OnOk r (OwnsService machine.system.kernel machine.bdos.service) → OnOk r (HasBegun machine.system.kernel.disk) → OnOk r (MayEnd machine)
may_end (Ok x) machine whole completed filed own begun = record { whole = whole; completed = completed; calls = record { filed = filed; own = own; begun = begun } }
may_end (Err e) machine whole completed filed own begun = tt

-- a call of drives alone that succeeds fails on none
pub none_fails : {A : Type 0} (r : Result A Failed) → IsOk r → IfErr r (λ error. of_drive error ≡ WriteFault)
none_fails (Ok x) ok = tt
none_fails (Err e) ok = absurd (false≢true ok)

pub done_fails : {A E : Type 0} {x : A} {e : E} → Err e ≡ Ok x → ⊥
done_fails e = absurd (cc)

-- no drive was used
pub uses_none : {D A E : Type 0} (of : Ghosts D) (fault : E → StepFault) (mounted : List (Option Directory)) (drives : D)
    (r : Result A E) → IfErr r (λ error. fault error ≡ WriteFault) → UsesDrives of fault mounted mounted drives drives r
uses_none of fault mounted drives r sink = record {
  drives = record { keeps = keeps_still (of.told drives) (of.disks drives) mounted mounted refl; names = refl; unsynced = λ number was. was };
  none = λ bare. record { sink = sink; drives = refl; bare = bare };
}

-- the turns of a call were done, or some of them
pub uses_turns : {D A E : Type 0} (of : Ghosts D) (fault : E → StepFault) (old new : Kept) (drives now : D)
    (r : Result A E) → TurnsLeave of.disks of.told of.failed_names of.unsynced old new drives now → (HasNoDrive old.mounted → now ≡ drives) → (HasNoDrive old.mounted → IfErr r (λ error. fault error ≡ WriteFault))
    → UsesDrives of fault old.mounted new.mounted drives now r
uses_turns of fault old new drives now r left same sink = record {
  drives = record {
    keeps = record { labels = left.kept.labels; beside = left.beside; told_are = left.told_are };
    names = left.names;
    unsynced = left.kept_unsynced.owed;
  };
  none = λ bare. record { sink = sink bare; drives = same bare; bare = bare_still old.mounted new.mounted left.kept.labels bare };
}

-- the same was done, with another result
pub uses_as : {D A B E F : Type 0} {of : Ghosts D} {f : E → StepFault} {one two : List (Option Directory)} {x y : D}
    {r : Result A E} (h : F → StepFault) (q : Result B F) → UsesDrives of f one two x y r → (HasNoDrive one → IfErr q (λ error. h error ≡ WriteFault))
    → UsesDrives of h one two x y q
uses_as h q uses sink = record {
  drives = uses.drives;
  none = λ bare. let so = uses.none bare in record { sink = sink bare; drives = so.drives; bare = so.bare };
}

-- one thing was done after another
pub uses_both : {D A B C E F G : Type 0} {of : Ghosts D} {f : E → StepFault} {h : F → StepFault}
    {one two three : List (Option Directory)} {x y z : D} {r : Result A E} {q : Result B F} (k : G → StepFault) (last : Result C G)
    → UsesDrives of f one two x y r → UsesDrives of h two three y z q → (HasNoDrive one → IfErr last (λ error. k error ≡ WriteFault))
    → UsesDrives of k one three x z last
uses_both k last first next sink = record {
  drives = record {
    keeps = keeps_both _ _ _ _ _ _ _ _ _ first.drives.keeps next.drives.keeps;
    names = next.drives.names ∙ first.drives.names;
    unsynced = λ number was. next.drives.unsynced number (first.drives.unsynced number was);
  };
  none = λ bare.
      let before = first.none bare in
      let behind = next.none before.bare in
      record { sink = sink bare; drives = behind.drives ∙ before.drives; bare = behind.bare };
}

-- what leaves the directories leaves that
pub uses_kept : {D A E : Type 0} (of : Ghosts D) (f : E → StepFault) (one two three : List (Option Directory)) (x y : D)
    (r : Result A E) → three ≡ two → UsesDrives of f one two x y r → UsesDrives of f one three x y r
uses_kept of f one two three x y r same uses = subst (λ (m : List (Option Directory)). UsesDrives of f one m x y r) (sym same) uses

-- what began with the same directories
pub keeps_since : (told told' : Images) (x y : Disks) (kept between : Kept) (last : List (Option Directory)) → between ≡ kept → KeepsMounted told told' x y between.mounted last
    → KeepsMounted told told' x y kept.mounted last
keeps_since told told' x y kept between last same keeps = subst (λ (k : Kept). KeepsMounted told told' x y k.mounted last) same keeps

-- nothing was written
pub ends_still : {A E : Type 0} (x : A) (trace : Bool) (faults : ℕ) → EndsBySink {A = A} {E = E} trace trace faults faults (Ok x)
ends_still x trace faults = record { trace = refl; cause = record { later = omega arith; stays = refl; failed = tt } }
