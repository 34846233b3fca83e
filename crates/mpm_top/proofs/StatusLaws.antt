-- Laws of how a command ends: where it ended before the first step, and where a device failed in its run.
use Rattle.std.proofs.Common.{◌≡◌, ◌∙◌, ◌≤◌, ℕ, List, inl, inr, sym, subst}
use Rattle.mpm_machine.specs.State.{State}
use Rattle.mpm_machine.specs.declared.machine.StepFault.{StepFault}
use Rattle.mpm_machine.specs.declared.machine.StepFault.TheVariants.{WriteFault as SinkFailed, DiskFault as DriveFailed}
use Rattle.mpm_top.specs.declared.status.Status.{Status}
use Rattle.mpm_top.specs.declared.status.Status.TheVariants.{Ran, Usage, MachineFault, ScriptFault, ImageFault, TooLong, ReadFault, DiskFault, WriteFault, OutOfMemory}
use Rattle.mpm_top.specs.declared.status.Input.TheVariants.{ScriptText}
use Rattle.mpm_top.specs.Words.{Command}
use Rattle.mpm_top.specs.Beginnings.{Contents, BeginsCommand, drives_listed}
use Rattle.mpm_top.specs.Runs.{StandFor, KeepsOthers, StopsRunBy, Causes}
use Rattle.mpm_top.specs.Endings.{Unfetched, Unread, IsEarly, IsRefusal, by_fault, UnlessReadFault, UnlessDiskFault, UnlessWriteFault, ended_by}
use Rattle.mpm_top.specs.Promises.{Seen, WritesNothing, Writes, Fails}

-- what is so in each case is so

pub each_fault : {none file drive output : Type 0} (status : Status) → none → file → drive → output → by_fault none file drive output status
each_fault Ran n f d o = n
each_fault Usage n f d o = n
each_fault MachineFault n f d o = n
each_fault (ScriptFault line) n f d o = n
each_fault (ImageFault letter cause place) n f d o = n
each_fault (TooLong what) n f d o = n
each_fault ReadFault n f d o = f
each_fault (DiskFault step) n f d o = d
each_fault (WriteFault step) n f d o = o
each_fault OutOfMemory n f d o = n

pub always_disk : (status : Status) (P : Type 0) → P → UnlessDiskFault status P
always_disk status P p = each_fault status p p tt p

pub always_file : (status : Status) (P : Type 0) → P → UnlessReadFault status P
always_file status P p = each_fault status p tt p p

always_write : (status : Status) (P : Type 0) → P → UnlessWriteFault status P
always_write status P p = each_fault status p p tt tt

-- a script whose file wasn't fetched wasn't read
pub unfetched_unread : (contents : Contents) (script : List ℕ) (old new : List (List ℕ)) (status : Status) → Unfetched contents ScriptText script old new status
    → Unread contents script old new status
unfetched_unread contents script old new Ran why = why
unfetched_unread contents script old new Usage why = why
unfetched_unread contents script old new MachineFault why = why
unfetched_unread contents script old new (ScriptFault line) why = absurd why
unfetched_unread contents script old new (ImageFault drive cause place) why = why
unfetched_unread contents script old new (TooLong what) why = why
unfetched_unread contents script old new ReadFault why = why
unfetched_unread contents script old new (DiskFault step) why = why
unfetched_unread contents script old new (WriteFault step) why = why
unfetched_unread contents script old new OutOfMemory why = why

-- no output failed where all is done
pub ran_wrote : (step : ℕ) → Ran ≡ WriteFault step → ⊥
ran_wrote step is = subst (λ (status : Status). UnlessWriteFault status ⊥) (sym is) tt

-- it ended before the first step

pub early_ran : (status : Status) → IsEarly status → status ≡ Ran → ⊥
early_ran status early is = subst IsEarly is early

early_write : (status : Status) (step : ℕ) → IsEarly status → status ≡ WriteFault step → ⊥
early_write status step early is = subst IsEarly is early

pub writes_early : (Same : Type 0) (command : Command) (old new : Seen) (status : Status) → IsEarly status → WritesNothing Same old new → Writes Same command old new status
writes_early Same command old new Ran early nothing = absurd early
writes_early Same command old new Usage early nothing = nothing
writes_early Same command old new MachineFault early nothing = nothing
writes_early Same command old new (ScriptFault line) early nothing = nothing
writes_early Same command old new (ImageFault drive cause place) early nothing = nothing
writes_early Same command old new (TooLong what) early nothing = nothing
writes_early Same command old new ReadFault early nothing = nothing
writes_early Same command old new (DiskFault step) early nothing = inl (early, nothing)
writes_early Same command old new (WriteFault step) early nothing = absurd early
writes_early Same command old new OutOfMemory early nothing = nothing

pub fails_early : (old new : Seen) (status : Status) → IsEarly status → UnlessReadFault status (new.failed.files ≡ old.failed.files)
    → UnlessDiskFault status (new.failed.drives ≡ old.failed.drives) → new.printed.faults ≡ old.printed.faults → Fails old new status
fails_early old new status early files drives same = record {
  files = files;
  drives = drives;
  output = always_write status _ same;
  write = λ step is. absurd (early_write status step early is);
}

-- a device failed in its run

pub ended_ran : (fault : StepFault) (step : ℕ) (status : Status) → status ≡ ended_by fault step → status ≡ Ran → ⊥
ended_ran SinkFailed step status is ran = let no : WriteFault step ≡ Ran = sym is ∙ ran in absurd (cc)
ended_ran DriveFailed step status is ran = let no : DiskFault step ≡ Ran = sym is ∙ ran in absurd (cc)

pub ended_usage : (fault : StepFault) (step : ℕ) (status : Status) → status ≡ ended_by fault step → status ≡ Usage → ⊥
ended_usage SinkFailed step status is usage = let no : WriteFault step ≡ Usage = sym is ∙ usage in absurd (cc)
ended_usage DriveFailed step status is usage = let no : DiskFault step ≡ Usage = sym is ∙ usage in absurd (cc)

refuses : (fault : StepFault) (step : ℕ) → IsRefusal (ended_by fault step) → ⊥
refuses SinkFailed step refusal = refusal
refuses DriveFailed step refusal = refusal

pub ended_refusal : (fault : StepFault) (step : ℕ) (status : Status) → status ≡ ended_by fault step → IsRefusal status → ⊥
ended_refusal fault step status is refusal = refuses fault step (subst IsRefusal is refusal)

writes_by : (Same : Type 0) (command : Command) (old new : Seen) (s : State) (fault : StepFault) (step : ℕ) (begins : BeginsCommand old.host command.form command.name s)
    → step ≤ command.steps
    → StopsRunBy (StandFor new.disks new.host.images (drives_listed command.form begins.bytes)) fault command.trace s command.steps old.printed new.printed step
    → KeepsOthers old.host.images new.host.images old.disks new.disks (drives_listed command.form begins.bytes) → (step ≡ 0 → new.host.images ≡ old.host.images)
    → Writes Same command old new (ended_by fault step)
writes_by Same command old new s SinkFailed step begins within stops others early =
    record { start = s; begins = begins; within = within; stops = stops; others = others }
writes_by Same command old new s DriveFailed step begins within stops others early =
    inr (record { start = s; begins = begins; within = within; stops = stops; others = others; early = early })

pub writes_stopped : (Same : Type 0) (command : Command) (old new : Seen) (s : State) (fault : StepFault) (step : ℕ) (status : Status) → status ≡ ended_by fault step
    → (begins : BeginsCommand old.host command.form command.name s) → step ≤ command.steps
    → StopsRunBy (StandFor new.disks new.host.images (drives_listed command.form begins.bytes)) fault command.trace s command.steps old.printed new.printed step
    → KeepsOthers old.host.images new.host.images old.disks new.disks (drives_listed command.form begins.bytes) → (step ≡ 0 → new.host.images ≡ old.host.images)
    → Writes Same command old new status
writes_stopped Same command old new s fault step status is begins within stops others early =
    subst (λ (t : Status). Writes Same command old new t) (sym is) (writes_by Same command old new s fault step begins within stops others early)

no_write : (step said : ℕ) → DiskFault step ≡ WriteFault said → ⊥
no_write step said e = cc

fails_by : (old new : Seen) (fault : StepFault) (step : ℕ) → new.failed.files ≡ old.failed.files → new.failed.drives.names ≡ old.failed.drives.names
    → Causes fault (record { sink = old.printed.faults; drives = old.failed.drives.faults }) (record { sink = new.printed.faults; drives = new.failed.drives.faults })
    → Fails old new (ended_by fault step)
fails_by old new SinkFailed step files names causes = record {
  files = files;
  drives = λ i. record { faults = causes.1 i; names = names i };
  output = tt;
  write = λ said is. causes.0;
}
fails_by old new DriveFailed step files names causes = record { files = files; drives = tt; output = tt; write = λ said is. absurd (no_write step said is) }

pub fails_stopped : (old new : Seen) (fault : StepFault) (step : ℕ) (status : Status) → status ≡ ended_by fault step → new.failed.files ≡ old.failed.files
    → new.failed.drives.names ≡ old.failed.drives.names
    → Causes fault (record { sink = old.printed.faults; drives = old.failed.drives.faults }) (record { sink = new.printed.faults; drives = new.failed.drives.faults })
    → Fails old new status
fails_stopped old new fault step status is files names causes =
    subst (λ (t : Status). Fails old new t) (sym is) (fails_by old new fault step files names causes)
