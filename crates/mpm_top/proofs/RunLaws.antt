-- Laws of a run from its beginning to its end.
use Rattle.std.proofs.Common.{◌≡◌, ◌∙◌, ◌<◌, ◌-◌, ◌++◌, ℕ, Bool, List, [], ◌∷◌, length, Option, Result, Ok, Err, refl, sym, ap, subst, inl, inr, arith}
use Rattle.std.specs.Prelude.{OnOk, OnErr}
use Rattle.mpm_port.specs.Causes.{Rose, HasCause}
use Rattle.mpm_port.specs.Disks.{Disks}
use Rattle.mpm_mount.specs.Drives.{Drive}
use Rattle.mpm_render.specs.Shown.{KeptLines, Shows, EndsBetween}
use Rattle.mpm_render.specs.Outputs.{Output, rendered, closed}
use Rattle.mpm_drives.specs.Mounted.{NumberedDrive}
use Rattle.mpm_machine.specs.declared.machine.Machine.{Machine}
use Rattle.mpm_machine.specs.declared.machine.StepFault.{StepFault}
use Rattle.mpm_machine.specs.declared.machine.StepFault.TheVariants.{WriteFault as SinkFailed, DiskFault as DriveFailed}
use Rattle.mpm_machine.specs.Faults.{FailureCounts, HasFailed}
use Rattle.mpm_machine.specs.State.{State, StandsWithDrives}
use Rattle.mpm_machine.specs.Files.{FilesInService, StandsForFiles}
use Rattle.mpm_bdos.specs.Serving.{Kept as Filed}
use Rattle.mpm_machine.specs.Failing.{Left, HaveImages, StopsOn}
use Rattle.mpm_machine.specs.Settling.{carried}
use Rattle.mpm_machine.specs.AtEnd.{DriveCalls, StopsAtEnd}
use Rattle.mpm_machine.specs.After.{next, after, ShowsBefore, EndsInStep}
use Rattle.mpm_machine.proofs.NextLaws.{after_more}
use Rattle.mpm_system.specs.declared.system.System.{System}
use Rattle.mpm_top.specs.declared.words.Form.{Form}
use Rattle.mpm_top.specs.declared.status.Status.{Status}
use Rattle.mpm_top.specs.Beginnings.{Host, FailedSoFar, BeginsCommand}
use Rattle.mpm_top.specs.Runs.{Printed, drives_of, drives_left, StopsRunBy, ClosesText, ClosesAfter, Causes}
use Rattle.mpm_top.specs.Endings.{Ends, ended_by}

-- a machine that begins, and a renderer that shows nothing yet, stand for its beginning

abbrev pub first_state : System → FilesInService → State
first_state system files = record { system = system; outputs = []; files = files }

pub stands_first : (machine : Machine) (files : FilesInService) (kept : KeptLines) (written : List ℕ) (disks : Disks) → Shows kept written [] written
    → StandsForFiles machine.system.kernel.disk machine.bdos disks files → StandsWithDrives machine kept written disks (first_state machine.system files) written
stands_first machine files kept written disks shows stand = record { system = record { parts = refl; shown = shows }; files = stand }

-- no step was made
pub none_done : (steps : ℕ) (s : State) → steps ≡ 0 → after steps s ≡ s
unfolding after
none_done steps s none = ap (λ (n : ℕ). after n s) none

-- what is on the drives after a step, where the sink failed in it
stopped_drives : (s : State) (step : ℕ) → s.system.steps < step
    → drives_of (next (after (step - 1 - s.system.steps) s)) ≡ drives_of (after (step - s.system.steps) s)
stopped_drives s step later =
    ap drives_of (sym (after_more (step - 1 - s.system.steps) s)) ∙ ap (λ (n : ℕ). drives_of (after n s)) (omega (arith, later))

stops_next : (s : State) (drives : List (Option Drive)) → StopsOn SinkFailed s.system s.files drives → drives ≡ drives_of (next s)
unfolding next
stops_next s drives on = on

-- a run stops in a step, where the sink failed or a drive, and some drives are as they are then, of which something is so
pub stops_in_step : (Stand : List (Option Drive) → Type 0) (fault : StepFault) (trace trace' : Bool) (s : State) (steps : ℕ) (old new : Printed) (written : List ℕ) (step : ℕ) (drives : List (Option Drive))
    → (fault ≡ SinkFailed → new.text ≡ written) → trace ≡ trace' → EndsInStep fault trace' written old.text s steps step
    → ClosesAfter fault trace (after (step - 1 - s.system.steps) s) old new
    → StopsOn fault (after (step - 1 - s.system.steps) s).system (after (step - 1 - s.system.steps) s).files drives → Stand drives
    → StopsRunBy Stand fault trace s steps old new step
stops_in_step Stand SinkFailed trace trace' s steps old new written step drives same traces ends closes on stand =
    let P : List ℕ → Type 0 = λ w. EndsInStep SinkFailed trace w old.text s steps step in
    let Q : Bool → Type 0 = λ t. EndsInStep SinkFailed t written old.text s steps step in
    inl (subst P (sym (same refl)) (subst Q (sym traces) ends), subst Stand (stops_next (after (step - 1 - s.system.steps) s) drives on ∙ stopped_drives s step ends.later) stand)
stops_in_step Stand DriveFailed trace trace' s steps old new written step drives same traces ends closes on stand =
    inl (record { later = ends.later; within = ends.within; text = closes; left = record { drives = drives; fails = on; stand = stand } })

-- or at the end: as the sink failed, or a drive in a turn of the call in service, or as it was synced
pub stops_at_end : (Stand : List (Option Drive) → Type 0) (fault : StepFault) (trace : Bool) (s : State) (steps : ℕ) (old new : Printed) (left : Left) (kept : Filed) (before behind : DriveCalls)
    → (fault ≡ SinkFailed → new.text ≡ left.written) → left.kept.trace ≡ trace → ((t : State) → ShowsBefore fault left.kept left.written t old.text → ClosesAfter fault trace t old new)
    → ((drives : List (Option Drive)) → HaveImages left.disks left.mounted drives → Stand drives) → StopsAtEnd fault left kept before behind (after steps s) old.text
    → StopsRunBy Stand fault trace s steps old new steps
stops_at_end Stand SinkFailed trace s steps old new left kept before behind same traces closes stand stops =
    let P : List ℕ → Type 0 = λ w. EndsBetween w old.text (rendered trace (after steps s).outputs) (closed trace (carried (after steps s)).outputs) in
    let Q : Bool → Type 0 = λ t. EndsBetween left.written old.text (rendered t (after steps s).outputs) (closed t (carried (after steps s)).outputs) in
    inr (record { is = refl; text = subst P (sym (same refl)) (subst Q traces stops.0); stand = stand (drives_left (after steps s)) stops.1 })
stops_at_end Stand DriveFailed trace s steps old new left kept before behind same traces closes stand (inl turn) =
    inr (inl (record {
      is = refl;
      text = closes (after steps s) turn.shown;
      left = record { drives = turn.images.drives; fails = turn.images.are; stand = stand turn.images.drives turn.images.images };
    }))
stops_at_end Stand DriveFailed trace s steps old new left kept before behind same traces closes stand (inr sync) =
    inr (inr (record { is = refl; text = closes (carried (after steps s)) sync.shown; stand = stand (drives_left (after steps s)) sync.images }))

-- a drive failed: the unfinished lines are closed, or the sink fails too

closes_by : {A E : Type 0} (r : Result A E) (trace : Bool) (s : State) (old new : Printed) → HasCause old.faults new.faults r
    → OnOk r (new.text ≡ old.text ++ closed trace s.outputs) → OnErr r (EndsBetween new.text old.text (rendered trace s.outputs) (closed trace s.outputs)) → ClosesText trace s old new
closes_by (Ok x) trace s old new cause ok err = inl ok
closes_by (Err e) trace s old new cause ok err = inr (cause.failed, err)

pub closes_after : {A E : Type 0} (r : Result A E) (fault : StepFault) (kept : KeptLines) (s : State) (first written : List ℕ) (before : ℕ) (new : Printed)
    → ShowsBefore fault kept written s first → HasCause before new.faults r
    → ((os : List Output) (f : List ℕ) → Shows kept written os f → OnOk r (new.text ≡ f ++ closed kept.trace os))
    → ((os : List Output) (f : List ℕ) → Shows kept written os f → OnErr r (EndsBetween new.text f (rendered kept.trace os) (closed kept.trace os)))
    → ClosesAfter fault kept.trace s (record { text = first; faults = before }) new
closes_after r SinkFailed kept s first written before new shows cause ok err = tt
closes_after r DriveFailed kept s first written before new shows cause ok err =
    closes_by r kept.trace s (record { text = first; faults = before }) new cause (ok s.outputs first shows) (err s.outputs first shows)

pub closed_alike : (fault : StepFault) (trace trace' : Bool) (s : State) (first : List ℕ) (before before' : ℕ) (new : Printed) → trace ≡ trace' → (fault ≡ DriveFailed → before ≡ before')
    → ClosesAfter fault trace s (record { text = first; faults = before }) new → ClosesAfter fault trace' s (record { text = first; faults = before' }) new
closed_alike SinkFailed trace trace' s first before before' new traces counts closes = tt
closed_alike DriveFailed trace trace' s first before before' new traces counts closes =
    let P : ℕ → Type 0 = λ n. ClosesText trace s (record { text = first; faults = n }) new in
    subst (λ t. ClosesText t s (record { text = first; faults = before' }) new) traces (subst P (counts refl) closes)

pub sink_stays : (fault : StepFault) (old new : FailureCounts) → HasFailed fault old new → fault ≡ DriveFailed → new.sink ≡ old.sink
sink_stays SinkFailed old new failed is = absurd (cc)
sink_stays DriveFailed old new failed is = failed.1

-- which count rose

pub causes_stopped : (fault : StepFault) (old mid new : FailureCounts) → mid.drives ≡ old.drives → mid.sink ≡ old.sink
    → HasFailed fault mid new → Causes fault old new
causes_stopped SinkFailed old mid new drives sink failed =
    (subst (λ n. Rose n new.sink) sink failed.0, failed.1 ∙ drives)
causes_stopped DriveFailed old mid new drives sink failed = subst (λ n. Rose n new.drives) drives failed.0

pub causes_closed : (fault : StepFault) (old new : FailureCounts) (now : ℕ) → (fault ≡ SinkFailed → now ≡ new.sink) → Causes fault old new
    → Causes fault old (record { sink = now; drives = new.drives })
causes_closed SinkFailed old new now same causes = (subst (λ n. Rose old.sink n) (sym (same refl)) causes.0, causes.1)
causes_closed DriveFailed old new now same causes = causes

-- how a command ends whose run stopped, by the fault

some_drive : (on : List NumberedDrive) → (on ≡ [] → ⊥) → 0 < length on
some_drive [] none = absurd (none refl)
some_drive (d ∷ on) none = omega arith

ends_stopped : (disks : Disks) (host : Host) (form : Form) (name : List ℕ) (s : State) (old new : FailedSoFar) (fault : StepFault) (step sink sink' : ℕ) (begins : BeginsCommand host form name s)
    → (begins.on ≡ [] → fault ≡ SinkFailed) → Causes fault (record { sink = sink; drives = old.drives.faults }) (record { sink = sink'; drives = new.drives.faults })
    → new.drives.names ≡ old.drives.names → Ends disks host form name old new (ended_by fault step)
ends_stopped disks host form name s old new SinkFailed step sink sink' begins some causes names = inr (s, begins)
ends_stopped disks host form name s old new DriveFailed step sink sink' begins some causes names =
    inr (inr (record { start = s; begins = begins; some = some_drive begins.on (λ none. no_sink (some none)); rose = causes; names = names }))
  where
    no_sink : DriveFailed ≡ SinkFailed → ⊥
    no_sink e = cc

pub ends_by_fault : (disks : Disks) (host : Host) (form : Form) (name : List ℕ) (s : State) (old new : FailedSoFar) (fault : StepFault) (step sink sink' : ℕ) (status : Status)
    → status ≡ ended_by fault step → (begins : BeginsCommand host form name s) → (begins.on ≡ [] → fault ≡ SinkFailed)
    → Causes fault (record { sink = sink; drives = old.drives.faults }) (record { sink = sink'; drives = new.drives.faults })
    → new.drives.names ≡ old.drives.names → Ends disks host form name old new status
ends_by_fault disks host form name s old new fault step sink sink' status is begins some causes names =
    subst (λ (t : Status). Ends disks host form name old new t) (sym is) (ends_stopped disks host form name s old new fault step sink sink' begins some causes names)
