-- What a step begins with in which no file call is made.
use Rattle.std.proofs.Common.{◌≡◌, ◌∙◌, ℕ, ◌+◌, ◌≤◌, Bool, false, List, [], Option, Some, None, Result, Ok, Err, is_some, length, refl, sym, ap, subst, arith}
use Rattle.std.proofs.lemmas.List.{append-nil}
use Rattle.mpm_script.specs.declared.event.Event.{Event}
use Rattle.mpm_render.specs.Shown.{KeptLines}
use Rattle.mpm_output.specs.Outside.{Outside, DeviceFaults, seen}
use Rattle.mpm_output.specs.Writing.{CameOut, Stopped}
use Rattle.mpm_port.specs.declared.Failed.{Failed}
use Rattle.mpm_port.specs.Disks.{Disks}
use Rattle.mpm_render.specs.Outputs.{Output}
use Rattle.mpm_directories.specs.Direct.{Directly}
use Rattle.mpm_bdos.specs.Serving.{Kept}
use Rattle.mpm_system.specs.declared.system.System.{System}
use Rattle.mpm_system.specs.Whole.{SystemChange, HasRoomForAll}
use Rattle.mpm_system.specs.Coming.{coming, counted}
use Rattle.mpm_machine.specs.declared.machine.StepFault.TheVariants.{WriteFault}
use Rattle.mpm_machine.specs.Acting.{Makes}
use Rattle.mpm_machine.specs.Faults.{FailureCounts, HaveCause, itself}
use Rattle.mpm_machine.specs.Files.{FilesInService, StandsWorked}
use Rattle.mpm_machine.specs.Finishing.{all_answered}
use Rattle.mpm_machine.specs.Step.{acted, interrupted_by, begun_by, then_also}
use Rattle.mpm_machine.specs.FileCalls.{file_caller}
use Rattle.mpm_machine.specs.Stepping.{begun_alone, begun_with, begun_as, is_instruction, nothing_told, files_begun_by, files_begun, before_disk}
use Rattle.mpm_machine.specs.After.{IsOfSome, StopsBy, HasBegunTo}
use Rattle.mpm_machine.proofs.MakingLaws.{makes_as, makes_after}
use Rattle.mpm_machine.proofs.TallyLaws.{begun_more}
use Rattle.mpm_machine.proofs.TurnLaws.{worked_on}
use Rattle.mpm_machine.proofs.KeepingLaws.{ServesSame}

-- where no event comes, what the running process does is what the step begins with
pub makes_acted : {S A : Type 0} {written : S → List ℕ} {faults : S → ℕ} {kept mid kept' : KeptLines} {sink there sink' : S} {left : System} {r : Result A Failed} (event : Option Event)
    (old afterwards : System) → is_some event ≡ false → afterwards ≡ (interrupted_by event old).system
    → CameOut (seen written faults kept sink) (seen written faults mid there) (interrupted_by event old).emitted
    → Makes written faults (acted afterwards) left mid there kept' sink' r → Makes written faults (begun_by event old) left kept sink kept' sink' r
makes_acted {written = written} {faults = faults} {mid = mid} {kept' = kept'} {there = there} {sink' = sink'} {left = left} {r = r} None old afterwards none is wrote makes =
    let P : System → Type 0 = λ s. Makes written faults (acted s) left mid there kept' sink' r in
    makes_as _ _ (ap (λ emitted. record (acted old) { emitted = emitted }) (append-nil (acted old).emitted)) (makes_after [] (acted old) wrote (subst P is makes))
makes_acted (Some event) old afterwards none is wrote makes = absurd (cc)

-- the definitions, where none is made

begun_is : (told : Directly) (old : System) → file_caller old ≡ None → begun_as told old ≡ then_also (begun_alone old) all_answered
unfolding begun_as
begun_is told old is = ap (λ caller. then_also (begun_with caller told old) all_answered) is

before_is : (old : System) (files : FilesInService) → file_caller old ≡ None → before_disk old files ≡ then_also (begun_alone old) all_answered
unfolding before_disk
before_is old files is = begun_is _ old is

files_stay : (old : System) (files : FilesInService) → file_caller old ≡ None → files_begun old files ≡ files
unfolding files_begun
files_stay old files is = ap (λ caller. files_begun_by caller old files) is

-- by what is on the drives

pub alone_begun_to : (files : FilesInService) (o n : Outside) (old new : System) (kept : Kept) (disks : Disks) → file_caller old ≡ None → ServesSame old new
    → new ≡ all_answered (begun_alone old).system → CameOut o n (begun_alone old).emitted → StandsWorked old.kernel.disk kept disks files → HasBegunTo files o n old new kept disks
alone_begun_to files o n old new kept disks none serves is wrote stands =
    let so = sym (before_is old files none) in
    record {
      system = is ∙ ap (λ (c : SystemChange). c.system) so;
      wrote = subst (λ (c : SystemChange). CameOut o n c.emitted) so wrote;
      stands = subst (StandsWorked new.kernel.disk kept disks) (sym (files_stay old files none)) (worked_on old.kernel.disk new.kernel.disk kept disks files serves.served serves.steps stands);
    }

-- whatever is answered of no call
pub alone_made : (old new : System) → file_caller old ≡ None → new ≡ all_answered (begun_alone old).system → IsOfSome (λ (told : Directly). (begun_as told old).system) new
alone_made old new none is = (nothing_told, is ∙ ap (λ (c : SystemChange). c.system) (sym (begun_is nothing_told old none)))

pub alone_instruction : (instruction : Bool) (old : System) → file_caller old ≡ None → instruction ≡ is_instruction None old → instruction ≡ is_instruction (file_caller old) old
alone_instruction instruction old none i = i ∙ ap (λ (o : Option ℕ). is_instruction o old) (sym none)

-- where the sink failed

pub alone_err : (files : FilesInService) (o n : Outside) (old : System) → file_caller old ≡ None → Stopped o n (begun_alone old).emitted → StopsBy WriteFault o n (before_disk old files).emitted
alone_err files o n old none stopped = subst (λ (c : SystemChange). Stopped o n c.emitted) (sym (before_is old files none)) stopped

pub alone_still : (old : System) (kept : Kept) (disks : Disks) (files : FilesInService) → file_caller old ≡ None → StandsWorked old.kernel.disk kept disks files
    → StandsWorked old.kernel.disk kept disks (files_begun old files)
alone_still old kept disks files none stands = subst (StandsWorked old.kernel.disk kept disks) (sym (files_stay old files none)) stands

pub alone_done : {A : Type 0} (a : A) (o n : Outside) (emitted : List Output) (drives : ℕ) → CameOut o n emitted
    → HaveCause itself (record { sink = o.faults.sink; drives = drives }) (record { sink = n.faults.sink; drives = drives }) (Ok a)
alone_done a o n emitted drives wrote = record { stays = ap (λ (f : DeviceFaults). let c : FailureCounts = record { sink = f.sink; drives = drives } in c) wrote.faults; failed = tt }

pub alone_failed : {A : Type 0} (o n : Outside) (emitted : List Output) (drives : ℕ) → Stopped o n emitted
    → HaveCause {A = A} itself (record { sink = o.faults.sink; drives = drives }) (record { sink = n.faults.sink; drives = drives }) (Err WriteFault)
alone_failed o n emitted drives stopped = record { stays = tt; failed = (stopped.rose, refl) }

-- there is room for the records of its answers

pub alone_room : (old begun new : System) → old.records ≡ [] → begun ≡ (begun_alone old).system → length new.records ≤ length begun.records + 65 → HasRoomForAll (length new.records + 1)
alone_room old begun new none is few =
    omega (arith, few, ap (λ (s : System). length s.records) is, (begun_more (coming (counted old)) (counted old)).few, ap length none)
