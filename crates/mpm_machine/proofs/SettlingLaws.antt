-- The end of a run: what was written and what the images stand for, where it came through and where it stopped.
use Rattle.std.proofs.Common.{◌≡◌, ◌∙◌, ℕ, suc, ◌+◌, ◌*◌, ◌<◌, ◌≤◌, Bool, List, [], ◌∷◌, ◌++◌, Option, Some, None, IsSome, Result, Ok, Err, inl, inr, refl, sym, ap, subst, arith}
use Rattle.std.specs.Prelude.{OnOk, IfErr, is_some, option_map}
use Rattle.mpm_base.proofs.CountLaws.{count_cons}
use Rattle.mpm_port.specs.Disks.{Disks}
use Rattle.mpm_port.specs.Texts.{Begins}
use Rattle.mpm_drives.specs.Images.{Images}
use Rattle.mpm_mount.specs.Directories.{Directory}
use Rattle.mpm_port.specs.declared.drives.Drives.{Ghosts}
use Rattle.mpm_port.specs.Frames.{SameDrives}
use Rattle.mpm_render.specs.Outputs.{Output, rendered, closed}
use Rattle.mpm_render.specs.Shown.{Shows, EndsBetween}
use Rattle.mpm_render.proofs.Grows.{begins_refl, begins_more, widened}
use Rattle.mpm_output.specs.Outside.{Outside, seen}
use Rattle.mpm_output.proofs.WritingLaws.{rendered_onward, wrote_nothing}
use Rattle.mpm_service.specs.Ahead.{turns_left}
use Rattle.mpm_service.specs.Disk.{DiskService, no_service, served_process}
use Rattle.mpm_service.specs.declared.service.Served.{Served}
use Rattle.mpm_refusals.specs.Filing.{Filing, Situation}
use Rattle.mpm_bdos.specs.Serving.{Kept, StandEach}
use Rattle.mpm_directories.specs.Places.{directory_at}
use Rattle.mpm_bdos.specs.Syncing.{mounted_count}
use Rattle.mpm_bdos.specs.Turns.{KeepsUnsynced, drive_served, drive_and_kind, images_of}
use Rattle.mpm_system.specs.declared.system.System.{System}
use Rattle.mpm_machine.specs.declared.machine.Machine.{Machine}
use Rattle.mpm_machine.specs.declared.machine.StepFault.{StepFault}
use Rattle.mpm_machine.specs.declared.machine.StepFault.TheVariants.{DiskFault, WriteFault}
use Rattle.mpm_machine.specs.State.{State}
use Rattle.mpm_machine.specs.Files.{FilesInService, Between, Within, StandsServed, StandsForFiles, filing_in}
use Rattle.mpm_machine.specs.Faults.{FailureCounts, HaveCause, EndsBy, OnDiskFault}
use Rattle.mpm_machine.specs.Mounting.{HasNoDrive, KeepsMounted}
use Rattle.mpm_machine.specs.Failing.{Left, FailsWithin, HaveImages, HaveImagesOf}
use Rattle.mpm_machine.specs.Settling.{at_end, carried_out, carried, HasCarried, left_of, StopsCarrying}
use Rattle.mpm_machine.specs.AtEnd.{EndsRun, StopsAtEnd, StopsSettling, DriveCalls, TurnsCall, SyncsTo}

-- the images stand for what is on the drives where no call is in service
between_stand : (served : Option Served) (kept : Kept) (disks : Disks) (filing : Filing) → StandsServed served kept disks (Between filing)
    → StandEach (images_of disks) kept.mounted filing.drives
between_stand None kept disks filing s = s.stand
between_stand (Some call) kept disks filing s = absurd s

end_stands : (files : FilesInService) (system : System) (served : Option Served) (kept : Kept) (disks : Disks) → StandsServed served kept disks (at_end files system).files
    → StandEach (images_of disks) kept.mounted (filing_in (at_end files system).files).drives
unfolding carried_out
end_stands (Between filing) system served kept disks s = between_stand served kept disks filing s
end_stands (Within call) system served kept disks s = between_stand served kept disks (filing_in (carried_out call system).files) s

-- after the end

pub carried_shows : (s : State) (o m : Outside) (old new : System) (kept : Kept) (disks : Disks) (first : List ℕ) → old ≡ s.system
    → HasCarried s.files o m old new kept disks → Shows o.kept o.written s.outputs first → Shows m.kept m.written (carried s).outputs first
unfolding carried
carried_shows s o m old new kept disks first same has shows =
    subst (λ (system : System). Shows m.kept m.written ((at_end s.files system).change.emitted ++ s.outputs) first) same (has.wrote.shown s.outputs first shows)

pub carried_system : (s : State) (o m : Outside) (old new : System) (kept : Kept) (disks : Disks) → old ≡ s.system → HasCarried s.files o m old new kept disks
    → new ≡ (carried s).system
unfolding carried
carried_system s o m old new kept disks same has = has.system ∙ ap (λ (system : System). (at_end s.files system).change.system) same

pub carried_files : (s : State) (o m : Outside) (old new : System) (kept : Kept) (disks now : Disks) → old ≡ s.system
    → HasCarried s.files o m old new kept disks → now ≡ disks → StandsForFiles new.kernel.disk kept now (carried s).files
unfolding carried
carried_files s o m old new kept disks now same has synced =
    subst (λ (d : Disks). StandsForFiles new.kernel.disk kept d (at_end s.files s.system).files) (sym synced)
    (subst (λ (system : System). StandsForFiles new.kernel.disk kept disks (at_end s.files system).files) same has.stands)

pub settled_stand : (s : State) (disk : DiskService) (kept : Kept) (disks : Disks) → StandsForFiles disk kept disks (carried s).files
    → StandEach (images_of disks) kept.mounted (filing_in (carried s).files).drives
unfolding carried
settled_stand s disk kept disks stands = end_stands s.files s.system disk.served kept disks stands.stands

-- all of it
pub ends_run : {A : Type 0} (r : Result A StepFault) (machine : Machine) (s : State) (o m : Outside) (old : System) (disks now : Disks) (trace trace' : Bool) (written first : List ℕ)
    → old ≡ s.system → HasCarried s.files o m old machine.system machine.bdos disks → now ≡ disks → trace' ≡ trace → OnOk r (written ≡ first ++ closed trace' (carried s).outputs)
    → OnOk r (EndsRun trace machine written now s first)
ends_run (Ok x) machine s o m old disks now trace trace' written first same has synced traces text = record {
  text = subst (λ (t : Bool). written ≡ first ++ closed t (carried s).outputs) traces text;
  system = carried_system s o m old machine.system machine.bdos disks same has;
  files = carried_files s o m old machine.system machine.bdos disks now same has synced;
}
ends_run (Err e) machine s o m old disks now trace trace' written first same has synced traces text = tt

pub carried_images : (s : State) (o m : Outside) (old new : System) (kept : Kept) (disks now : Disks) → old ≡ s.system
    → HasCarried s.files o m old new kept disks → now ≡ disks → HaveImages now kept.mounted (filing_in (carried s).files).drives
carried_images s o m old new kept disks now same has synced = record {
  directories = kept.mounted;
  labels = λ number. refl;
  stand = settled_stand s new.kernel.disk kept now (carried_files s o m old new kept disks now same has synced);
}

-- where it stopped as the call in service was carried

closed_more : (trace : Bool) (outputs : List Output) → Begins (rendered trace outputs) (closed trace outputs)
unfolding closed
closed_more trace outputs = begins_more (rendered trace outputs) _

ends_closed : (written first : List ℕ) (trace : Bool) (from to : List Output) → EndsBetween written first (rendered trace from) (rendered trace to)
    → EndsBetween written first (rendered trace from) (closed trace to)
ends_closed written first trace from to ends =
    widened written first (rendered trace from) (rendered trace from) (rendered trace to) (closed trace to) (begins_refl (rendered trace from)) (closed_more trace to) ends

ends_from : (written first : List ℕ) (trace : Bool) (more from : List Output) (to : List ℕ) → EndsBetween written first (rendered trace (more ++ from)) to
    → EndsBetween written first (rendered trace from) to
ends_from written first trace more from to ends =
    widened written first (rendered trace from) (rendered trace (more ++ from)) to to (rendered_onward trace more from) (begins_refl to) ends

abbrev left_at : Outside → Disks → List (Option Directory) → Left
left_at seen disks mounted = record { kept = seen.kept; written = seen.written; disks = disks; mounted = mounted }

pub stops_carrying : (fault : StepFault) (s : State) (o m : Outside) (old : System) (mounted : List (Option Directory)) (disks : Disks) (first : List ℕ) (kept : Kept) (before behind : DriveCalls)
    → old ≡ s.system → m.kept.trace ≡ o.kept.trace → Shows o.kept o.written s.outputs first → StopsCarrying fault s.files o m old mounted disks → TurnsCall old kept before behind
    → StopsAtEnd fault (left_at m disks mounted) kept before behind s first
unfolding carried
stops_carrying WriteFault s o m old mounted disks first kept before behind same trace shows stops calls =
    let P : System → Type 0 = λ system. EndsBetween m.written first (rendered o.kept.trace s.outputs) (closed o.kept.trace ((at_end s.files system).change.emitted ++ s.outputs)) in
    let Q : Bool → Type 0 = λ t. EndsBetween m.written first (rendered t s.outputs) (closed t (carried s).outputs) in
    let R : System → Type 0 = λ system. HaveImages disks mounted (filing_in (at_end s.files system).files).drives in (
      subst Q (sym trace) (subst P same (ends_closed m.written first o.kept.trace s.outputs ((at_end s.files old).change.emitted ++ s.outputs) (stops.0.part s.outputs first shows))),
      subst R same stops.1,
    )
stops_carrying DiskFault s o m old mounted disks first kept before behind same trace shows stops calls =
    inl (record {
      shown = subst (λ (seen : Outside). Shows seen.kept seen.written s.outputs first) (sym stops.0) shows;
      images = subst (λ (system : System). HaveImagesOf (FailsWithin (left_of s.files system.kernel.disk.served)) disks mounted) same stops.1;
      calls = subst (λ (system : System). TurnsCall system kept before behind) same calls;
    })

-- or as the drives were synced, or lines closed

pub stops_closing : (fault : StepFault) (s : State) (m n : Outside) (mounted : List (Option Directory)) (disks : Disks) (first : List ℕ) (kept : Kept) (before between now : DriveCalls)
    → TurnsCall s.system kept before between → SyncsTo fault mounted between now → n.kept.trace ≡ m.kept.trace
    → Shows m.kept m.written (carried s).outputs first → OnDiskFault fault (n ≡ m)
    → EndsBy fault n.written first (rendered m.kept.trace (carried s).outputs) (closed m.kept.trace (carried s).outputs)
    → HaveImages disks mounted (filing_in (carried s).files).drives → StopsAtEnd fault (left_at n disks mounted) kept before now s first
unfolding carried
stops_closing WriteFault s m n mounted disks first kept before between now turns syncs trace shows same ends images =
    let Q : Bool → Type 0 = λ t. EndsBetween n.written first (rendered t s.outputs) (closed t (carried s).outputs) in
    let emitted : List Output = (at_end s.files s.system).change.emitted in
    (subst Q (sym trace) (ends_from n.written first m.kept.trace emitted s.outputs (closed m.kept.trace (carried s).outputs) ends), images)
stops_closing DiskFault s m n mounted disks first kept before between now turns syncs trace shows same ends images =
    inr (record {
      shown = subst (λ (seen : Outside). Shows seen.kept seen.written (carried s).outputs first) (sym same) shows;
      images = images;
      calls = record { between = between; turns = turns; syncs = syncs };
    })

-- after the turns the drives were synced, or not all of them
pub syncs_after : {A : Type 0} (r : Result A StepFault) (kept : Kept) (mounted : List (Option Directory)) (before between now : DriveCalls) (system : System)
    → TurnsCall system kept before between → IfErr r (λ fault. SyncsTo fault mounted between now) → IfErr r (λ fault. StopsSettling fault mounted kept before now system)
syncs_after (Ok x) kept mounted before between now system turns syncs = tt
syncs_after (Err fault) kept mounted before between now system turns syncs = inr (record { between = between; turns = turns; syncs = syncs })

-- what is left of the drives

pub keeps_synced : (told told' told'' : Images) (x y z : Disks) (one other : List (Option Directory)) → KeepsMounted told told' x y one other → z ≡ y → told'' ≡ told'
    → KeepsMounted told told'' x z one other
keeps_synced told told' told'' x y z one other keeps same told_same =
    subst (λ (d : Disks). KeepsMounted told told'' x d one other) (sym same) (subst (λ (i : Images). KeepsMounted told i x y one other) (sym told_same) keeps)

pub same_still : {D : Type 0} (of : Ghosts D) (drives now : D) → now ≡ drives → SameDrives of drives now
same_still of drives now same = record { images = ap of.disks same; told_are = ap of.told same; failed = ap of.failed_names same }

some_label : (d : Directory) → Some (drive_and_kind d) ≡ None → ⊥
some_label d e = absurd (cc)

none_label : (d : Directory) → None ≡ Some (drive_and_kind d) → ⊥
none_label d e = absurd (cc)

abbrev is_there : Option Directory → Bool
is_there directory = is_some directory

pub same_count : (one other : List (Option Directory)) → ((number : ℕ) → option_map drive_and_kind (directory_at other number) ≡ option_map drive_and_kind (directory_at one number))
    → mounted_count other ≡ mounted_count one
same_count [] [] same = refl
same_count [] (None ∷ other) same = same_count [] other (λ number. same (suc number))
same_count [] (Some d ∷ other) same = absurd (some_label d (same 0))
same_count (None ∷ one) [] same = same_count one [] (λ number. same (suc number))
same_count (Some d ∷ one) [] same = absurd (none_label d (same 0))
same_count (None ∷ one) (None ∷ other) same = same_count one other (λ number. same (suc number))
same_count (None ∷ one) (Some d ∷ other) same = absurd (some_label d (same 0))
same_count (Some d ∷ one) (None ∷ other) same = absurd (none_label d (same 0))
same_count (Some d ∷ one) (Some e ∷ other) same =
    count_cons is_there (Some e) other ∙ ap (λ (n : ℕ). 1 + n) (same_count one other (λ number. same (suc number))) ∙ sym (count_cons is_there (Some d) one)

-- where no drive is mounted none fails as drives are synced
pub none_counted : (places : List (Option Directory)) → HasNoDrive places → mounted_count places ≡ 0
none_counted [] none = refl
none_counted (None ∷ places) none = none_counted places (λ number. none (suc number))
none_counted (Some d ∷ places) none = absurd (never (none 0))
  where
    never : Some d ≡ None → ⊥
    never e = cc

pub sink_alone : {A : Type 0} (r : Result A StepFault) (places : List (Option Directory)) → HasNoDrive places → IfErr r (λ fault. OnDiskFault fault (0 < mounted_count places))
    → IfErr r (λ fault. fault ≡ WriteFault)
sink_alone (Ok x) places none some = tt
sink_alone (Err WriteFault) places none some = refl
sink_alone (Err DiskFault) places none some = absurd (omega (arith, some, none_counted places none))

pub cause_behind : {A E : Type 0} (fault : E → StepFault) (old middle new : FailureCounts) (r : Result A E) → middle ≡ old → HaveCause fault middle new r → HaveCause fault old new r
cause_behind fault old middle new r same cause = subst (λ (k : FailureCounts). HaveCause fault k new r) same cause

-- a disk that has served nobody yet serves nobody
pub nobody_yet : (disk : DiskService) (turn_steps : ℕ) → disk ≡ no_service turn_steps → disk.served ≡ None
unfolding no_service
nobody_yet disk turn_steps is = ap (λ (d : DiskService). d.served) is

-- where no call is in service nothing is carried

nobody : (served : Option Served) → option_map (λ (call : Served). call.p) served ≡ None → served ≡ None
nobody None none = refl
nobody (Some call) none = absurd (cc)

pub nobody_served : (system : System) → served_process system.kernel.disk ≡ None → system.kernel.disk.served ≡ None
unfolding served_process
nobody_served system none = nobody system.kernel.disk.served none

pub somebody_served : (system : System) (p : ℕ) (A : Type 0) → served_process system.kernel.disk ≡ Some p → system.kernel.disk.served ≡ None → A
unfolding served_process
somebody_served system p A some none =
    let e : None ≡ Some p = ap (option_map (λ (call : Served). call.p)) (sym none) ∙ some in absurd (cc)

some_call : (served : Option Served) (p : ℕ) → option_map (λ (call : Served). call.p) served ≡ Some p → IsSome served
some_call None p some = absurd (cc)
some_call (Some call) p some = refl

pub is_served : (system : System) (p : ℕ) → served_process system.kernel.disk ≡ Some p → IsSome system.kernel.disk.served
unfolding served_process
is_served system p some = some_call system.kernel.disk.served p some

-- the turns that are left to the one in service call its drive
pub turns_call : (system : System) (p : ℕ) (kept : Kept) (before behind : DriveCalls) (turns : ℕ) → served_process system.kernel.disk ≡ Some p
    → KeepsUnsynced (drive_served kept.service) before.unsynced behind.unsynced → behind.calls ≤ before.calls + 20 * turns → turns ≡ turns_left system.kernel.disk
    → TurnsCall system kept before behind
turns_call system p kept before behind turns serves unsynced calls all = record {
  unsynced = unsynced;
  calls = omega (arith, calls, all);
  idle = λ none. somebody_served system p _ serves none;
}

none_within : (served : Option Served) (kept : Kept) (disks : Disks) (s : Situation) → served ≡ None → StandsServed served kept disks (Within s) → ⊥
none_within None kept disks s none stands = stands
none_within (Some call) kept disks s none stands = absurd (cc)

pub nothing_carried : (files : FilesInService) (o : Outside) (system : System) (kept : Kept) (disks : Disks) → served_process system.kernel.disk ≡ None
    → StandsForFiles system.kernel.disk kept disks files → HasCarried files o o system system kept disks
nothing_carried (Between filing) o system kept disks none stands = record { system = refl; wrote = wrote_nothing o; stands = stands }
nothing_carried (Within s) o system kept disks none stands =
    absurd (none_within system.kernel.disk.served kept disks s (nobody_served system none) stands.stands)

-- by the result of what came last

pub err_stops : {A : Type 0} (r : Result A StepFault) (s : State) (m n : Outside) (mounted : List (Option Directory)) (disks : Disks) (first : List ℕ) (kept : Kept) (before between now : DriveCalls)
    → TurnsCall s.system kept before between → IfErr r (λ fault. SyncsTo fault mounted between now) → n.kept.trace ≡ m.kept.trace
    → Shows m.kept m.written (carried s).outputs first → IfErr r (λ fault. OnDiskFault fault (n ≡ m))
    → IfErr r (λ fault. EndsBy fault n.written first (rendered m.kept.trace (carried s).outputs) (closed m.kept.trace (carried s).outputs))
    → HaveImages disks mounted (filing_in (carried s).files).drives → IfErr r (λ fault. StopsAtEnd fault (left_at n disks mounted) kept before now s first)
err_stops (Ok x) s m n mounted disks first kept before between now turns syncs trace shows same ends images = tt
err_stops (Err fault) s m n mounted disks first kept before between now turns syncs trace shows same ends images =
    stops_closing fault s m n mounted disks first kept before between now turns syncs trace shows same ends images

pub ok_so : {A E : Type 0} (r : Result A E) (P Q : Type 0) → (P → Q) → OnOk r P → OnOk r Q
ok_so (Ok x) P Q so p = so p
ok_so (Err e) P Q so p = tt
