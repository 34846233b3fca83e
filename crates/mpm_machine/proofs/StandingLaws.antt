-- What a machine stands for after a step.
use Rattle.std.proofs.Common.{◌≡◌, ◌∙◌, ℕ, List, ◌++◌, Option, Some, None, option_map, ap, sym, subst, refl}
use Rattle.mpm_port.specs.Disks.{Disks}
use Rattle.mpm_service.specs.Disk.{DiskService}
use Rattle.mpm_service.specs.Ahead.{passed_on, passed_by}
use Rattle.mpm_service.specs.declared.service.Served.{Served}
use Rattle.mpm_render.specs.Outputs.{Output, rendered}
use Rattle.mpm_render.specs.Shown.{KeptLines, Shows}
use Rattle.mpm_output.specs.Outside.{Outside}
use Rattle.mpm_bdos.specs.Serving.{Kept}
use Rattle.mpm_system.specs.declared.system.System.{System}
use Rattle.mpm_machine.specs.declared.machine.Machine.{Machine}
use Rattle.mpm_machine.specs.declared.machine.StepFault.{StepFault}
use Rattle.mpm_machine.specs.declared.machine.StepFault.TheVariants.{DiskFault, WriteFault}
use Rattle.mpm_machine.specs.Files.{FilesInService, Between, Within, AreWithin, StandsServed, StandsForFiles}
use Rattle.mpm_machine.specs.State.{State, IsAt, StandsWithDrives}
use Rattle.mpm_machine.specs.Faults.{EndsBy}
use Rattle.mpm_machine.specs.Stepping.{stepped}
use Rattle.mpm_machine.specs.After.{next, HasSteppedTo, StopsBy, ShowsBefore}

-- so it is at the state's next, and stands for that

pub step_at : (old new : Machine) (disks disks' : Disks) (o n : Outside) (s : State)
    → ((files : FilesInService) → StandsForFiles old.system.kernel.disk old.bdos disks files → HasSteppedTo files o n old.system new.system new.bdos disks')
    → IsAt old disks s → IsAt new disks' (next s)
unfolding next
step_at old new disks disks' o n s has at =
    let P : System → Type 0 = λ system. HasSteppedTo s.files o n system new.system new.bdos disks' in
    let so : HasSteppedTo s.files o n s.system new.system new.bdos disks' = subst P at.system (has s.files at.files) in
    record { system = so.system; files = so.stands }

pub step_stands : (old new : Machine) (disks disks' : Disks) (o n : Outside) (s : State) (first : List ℕ)
    → ((files : FilesInService) → StandsForFiles old.system.kernel.disk old.bdos disks files → HasSteppedTo files o n old.system new.system new.bdos disks')
    → StandsWithDrives old o.kept o.written disks s first → StandsWithDrives new n.kept n.written disks' (next s) first
unfolding next
step_stands old new disks disks' o n s first has stands =
    let P : System → Type 0 = λ system. HasSteppedTo s.files o n system new.system new.bdos disks' in
    let so : HasSteppedTo s.files o n s.system new.system new.bdos disks' = subst P stands.system.parts (has s.files stands.files) in
    record { system = record { parts = so.system; shown = so.wrote.shown s.outputs first stands.system.shown }; files = so.stands }

stops_here : (fault : StepFault) (o n : Outside) (emitted outputs : List Output) (first : List ℕ) → StopsBy fault o n emitted → Shows o.kept o.written outputs first
    → EndsBy fault n.written first (rendered o.kept.trace outputs) (rendered o.kept.trace (emitted ++ outputs))
stops_here WriteFault o n emitted outputs first stops shows = stops.part outputs first shows
stops_here DiskFault o n emitted outputs first stops shows = ap (λ (x : Outside). x.written) stops ∙ shows.written_is

pub step_stops : (old : Machine) (disks : Disks) (fault : StepFault) (o n : Outside) (s : State) (first : List ℕ)
    → ((files : FilesInService) → StandsForFiles old.system.kernel.disk old.bdos disks files → StopsBy fault o n (stepped old.system files).change.emitted)
    → StandsWithDrives old o.kept o.written disks s first
    → EndsBy fault n.written first (rendered o.kept.trace s.outputs) (rendered o.kept.trace (next s).outputs)
unfolding next
step_stops old disks fault o n s first stops stands =
    let P : System → Type 0 = λ system. StopsBy fault o n (stepped system s.files).change.emitted in
    stops_here fault o n (stepped s.system s.files).change.emitted s.outputs first (subst P stands.system.parts (stops s.files stands.files)) stands.system.shown

shows_here : (fault : StepFault) (o n : Outside) (emitted : List Output) (s : State) (first : List ℕ) → StopsBy fault o n emitted → Shows o.kept o.written s.outputs first
    → ShowsBefore fault n.kept n.written s first
shows_here WriteFault o n emitted s first stops shows = tt
shows_here DiskFault o n emitted s first stops shows = subst (λ (x : Outside). Shows x.kept x.written s.outputs first) (sym stops) shows

pub step_shows : (old : Machine) (disks : Disks) (fault : StepFault) (o n : Outside) (s : State) (first : List ℕ)
    → ((files : FilesInService) → StandsForFiles old.system.kernel.disk old.bdos disks files → StopsBy fault o n (stepped old.system files).change.emitted)
    → StandsWithDrives old o.kept o.written disks s first → ShowsBefore fault n.kept n.written s first
step_shows old disks fault o n s first stops stands =
    shows_here fault o n (stepped old.system s.files).change.emitted s first (stops s.files stands.files) stands.system.shown

-- files are within a call as the disk serves one
pub within_by : (served : Option Served) (kept : Kept) (disks : Disks) (files : FilesInService) → StandsServed served kept disks files → AreWithin served files
within_by None kept disks (Between filing) stands = tt
within_by None kept disks (Within s) stands = absurd stands
within_by (Some call) kept disks (Between filing) stands = absurd stands
within_by (Some call) kept disks (Within s) stands = tt

pub stands_within : (disk : DiskService) (kept : Kept) (disks : Disks) (files : FilesInService) → StandsForFiles disk kept disks files → AreWithin disk.served files
stands_within disk kept disks files s = within_by disk.served kept disks files s.stands

-- steps of the disk that only pass leave what stands for them
served_on : (served : Option Served) (n : ℕ) (kept : Kept) (disks : Disks) (files : FilesInService) → StandsServed served kept disks files
    → StandsServed (option_map (passed_on n) served) kept disks files
served_on None n kept disks files stands = stands
served_on (Some call) n kept disks (Between filing) stands = absurd stands
served_on (Some call) n kept disks (Within s) stands =
    record { turns = stands.turns; left = stands.left; some = stands.some; whose = stands.whose; serves = stands.serves }

pub stands_passed : (n : ℕ) (disk : DiskService) (kept : Kept) (disks : Disks) (files : FilesInService) → StandsForFiles disk kept disks files
    → StandsForFiles (passed_by n disk) kept disks files
unfolding passed_by
stands_passed n disk kept disks files s = record { stands = served_on disk.served n kept disks files s.stands }

-- so steps of the system alone leave the rest

pub ran_at : (old new : Machine) (k : ℕ) (disks : Disks) (t s : State) → new.bdos ≡ old.bdos → new.system.kernel.disk ≡ passed_by k old.system.kernel.disk
    → (s.system ≡ old.system → AreWithin old.system.kernel.disk.served s.files → t ≡ record s { system = new.system }) → IsAt old disks s → IsAt new disks t
ran_at old new k disks t s same passed ran at =
    let is = ran (sym at.system) (stands_within old.system.kernel.disk old.bdos disks s.files at.files) in
    let behind = stands_passed k old.system.kernel.disk old.bdos disks s.files at.files in
    let Q : DiskService → Type 0 = λ disk. StandsForFiles disk new.bdos disks s.files in
    subst (IsAt new disks) (sym is) (record {
      system = refl;
      files = subst Q (sym passed) (subst (λ (b : Kept). StandsForFiles (passed_by k old.system.kernel.disk) b disks s.files) (sym same) behind);
    })

pub ran_on : (old new : Machine) (k : ℕ) (kept : KeptLines) (written : List ℕ) (disks : Disks) (t s : State) (first : List ℕ) → new.bdos ≡ old.bdos
    → new.system.kernel.disk ≡ passed_by k old.system.kernel.disk
    → (s.system ≡ old.system → AreWithin old.system.kernel.disk.served s.files → t ≡ record s { system = new.system })
    → StandsWithDrives old kept written disks s first → StandsWithDrives new kept written disks t first
ran_on old new k kept written disks t s first same passed ran stands =
    let is = ran (sym stands.system.parts) (stands_within old.system.kernel.disk old.bdos disks s.files stands.files) in
    let at = ran_at old new k disks t s same passed ran (record { system = stands.system.parts; files = stands.files }) in
    record {
      system = record { parts = at.system; shown = subst (λ (u : State). Shows kept written u.outputs first) (sym is) stands.system.shown };
      files = at.files;
    }
