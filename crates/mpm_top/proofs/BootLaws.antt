-- With what a machine file's bytes begin.
use Rattle.std.proofs.Common.{◌≡◌, ◌∙◌, ℕ, Bool, List, [], Option, Some, None, ◌∷◌, ap, sym, subst, refl, IsSome, IfSome, Result, Ok, Err, IfOk, option_map, option_and_then, inl, inr}
use Rattle.std.specs.Option.{option_map_or}
use Rattle.std.specs.Prelude.{MatchResult, IfErr}
use Rattle.mpm_script.specs.declared.event.Timed.{Timed}
use Rattle.mpm_machine_file.specs.declared.machine_file.MachineFile.{MachineFile}
use Rattle.mpm_machine_file.specs.MachineFiles.{machine_of_text}
use Rattle.mpm_system.specs.declared.system.System.{System}
use Rattle.std.specs.Global.{Box}
use Rattle.mpm_port.specs.Disks.{Disks}
use Rattle.mpm_machine.specs.declared.machine.Machine.{Machine}
use Rattle.mpm_system.specs.Opening.{opened, opening_system}
use Rattle.mpm_top.specs.declared.words.Form.{Form}
use Rattle.mpm_top.specs.declared.words.Form.TheVariants.{Program, Run}
use Rattle.mpm_top.specs.declared.status.Status.{Status}
use Rattle.mpm_top.specs.declared.status.Status.TheVariants.{Ran, Usage, MachineFault, ScriptFault, ImageFault, TooLong, ReadFault, DiskFault, WriteFault, OutOfMemory}
use Rattle.mpm_machine_file.specs.declared.lists.DriveSpec.{DriveSpec}
use Rattle.mpm_drives.specs.declared.error.BootError.{BootError}
use Rattle.mpm_drives.specs.declared.error.BootError.TheVariants.{Image, DiskFault as FailedToMount, OutOfMemory as NoMemory}
use Rattle.mpm_drives.specs.Images.{Images}
use Rattle.mpm_mount.specs.Directories.{Directory}
use Rattle.mpm_drives.specs.Mounted.{NumberedDrive, AreDrivesOf, placed}
use Rattle.mpm_bdos.specs.Serving.{Kept as Filed, nothing_kept}
use Rattle.mpm_directories.specs.Places.{in_places}
use Rattle.mpm_machine.specs.State.{State}
use Rattle.mpm_machine.specs.Files.{Between, StandsForFiles}
use Rattle.mpm_machine.specs.Booting.{IsBootedOn, IsOfProgram}
use Rattle.mpm_machine.specs.Mounting.{HasDrives, HasNoDrive, OpensOn, untouched}
use Rattle.mpm_machine.proofs.MountedLaws.{none_mounted, holds_nothing}
use Rattle.mpm_machine.proofs.SettlingLaws.{nobody_yet}
use Rattle.mpm_machine.proofs.DriveLaws.{nothing_mounted}
use Rattle.mpm_drives.specs.Stopping.{Failures, IsFaultless, StopsMounting, IsFirst, Stops}
use Rattle.mpm_top.proofs.StatusLaws.{always_disk, always_file}
use Rattle.mpm_top.specs.Beginnings.{Host, FailedSoFar, system_of, script_name, drives_listed, begun, input_of, Holds, Scripted, Starts, StartsOf, BeginsCommand, BeginsOf, IsAtStart}
use Rattle.mpm_top.specs.Runs.{KeepsUnmounted}
use Rattle.mpm_top.specs.Endings.{Unread, LacksScript, LacksDrive, Ends, EndsAfter, IsNoMachine, IsRefusal, IsEarly, status_of, UnlessDiskFault, UnlessReadFault}
use Rattle.mpm_port.specs.declared.drives.Drives.{Ghosts}
use Rattle.mpm_bdos.specs.Syncing.{AreMountedSynced}
use Rattle.mpm_top.specs.Parts.{IsReadyToRun}

pub no_system : (bytes : List ℕ) (events : List Timed) → machine_of_text bytes ≡ None → system_of Run bytes events ≡ None
unfolding system_of
no_system bytes events none = ap (option_map (λ file. opened file events)) none

pub no_script : (bytes : List ℕ) → machine_of_text bytes ≡ None → script_name Run bytes ≡ None
unfolding script_name
no_script bytes none = ap (option_and_then (λ (file : MachineFile). file.script)) none

pub script_of_file : (bytes : List ℕ) (file : MachineFile) → machine_of_text bytes ≡ Some file → script_name Run bytes ≡ file.script
unfolding script_name
script_of_file bytes file is = ap (option_and_then (λ (f : MachineFile). f.script)) is

pub system_of_file : (bytes : List ℕ) (events : List Timed) (file : MachineFile) → machine_of_text bytes ≡ Some file
    → system_of Run bytes events ≡ Some (opened file events)
unfolding system_of
system_of_file bytes events file is = ap (option_map (λ f. opened f events)) is

pub no_machine : (bytes : List ℕ) → machine_of_text bytes ≡ None → IsNoMachine Run (λ content. content ≡ bytes)
no_machine bytes none = record { bytes = bytes; contents_are = refl; none = no_system bytes [] none }

pub names_nothing : (bytes script : List ℕ) → machine_of_text bytes ≡ None → script_name Run bytes ≡ Some script → ⊥
names_nothing bytes script none named =
    let e : Some script ≡ None = sym named ∙ no_script bytes none in absurd (cc)

drives_of_file : (bytes : List ℕ) (file : MachineFile) → machine_of_text bytes ≡ Some file → drives_listed Run bytes ≡ file.drives
unfolding drives_listed
drives_of_file bytes file is = ap (λ (found : Option MachineFile). option_map_or (λ (f : MachineFile). f.drives) found []) is

pub begins_of_file : (host : Host) (bytes : List ℕ) (file : MachineFile) (events : List Timed) (system : System) (drives : List NumberedDrive)
    → machine_of_text bytes ≡ Some file → Scripted host.contents file.script events → system ≡ opened file events → AreDrivesOf host.images file.drives drives
    → BeginsOf host Run (λ content. content ≡ bytes) (begun system drives)
begins_of_file host bytes file events system drives is scripted was are = record {
  bytes = bytes;
  events = events;
  contents_are = refl;
  scripted = subst (λ (script : Option (List ℕ)). Scripted host.contents script events) (sym (script_of_file bytes file is)) scripted;
  is = system_of_file bytes events file is ∙ ap Some (sym was);
  on = drives;
  drives = subst (λ (specs : List DriveSpec). AreDrivesOf host.images specs drives) (sym (drives_of_file bytes file is)) are;
  files = refl;
  outputs = refl;
}

-- its machine, with its drives mounted
no_drive : (x : Disks) (images : Images) (specs : List DriveSpec) (drives : List NumberedDrive) (mounted : List (Option Directory)) → AreDrivesOf images specs drives
    → HasDrives x specs mounted → drives ≡ [] → HasNoDrive mounted
no_drive x images [] drives mounted are has none = λ number. has.others number tt
no_drive x images (spec ∷ specs) [] mounted are has none = absurd are
no_drive x images (spec ∷ specs) (drive ∷ drives) mounted are has none = absurd (cc)

pub starts_of_file : (host : Host) (bytes : List ℕ) (file : MachineFile) (events : List Timed) (system : System) (x : Disks) (kept : Filed)
    → machine_of_text bytes ≡ Some file → Scripted host.contents file.script events → system ≡ opened file events → OpensOn host.images file.drives system.kernel.disk kept x
    → HasDrives x file.drives kept.mounted → system.kernel.disk.served ≡ None → StartsOf host Run (λ content. content ≡ bytes) system kept x
unfolding begins_of_file
starts_of_file host bytes file events system x kept is scripted was opens listed idle = record {
  drives = opens.drives;
  begins = begins_of_file host bytes file events system opens.drives is scripted was opens.are;
  same = refl;
  files = opens.stand;
  listed = subst (λ specs. HasDrives x specs kept.mounted) (sym (drives_of_file bytes file is)) listed;
  bare = no_drive x host.images file.drives opens.drives kept.mounted opens.are listed;
  idle = idle;
}

-- the script that a machine file names wasn't read

by_status : (disks : Disks) (host : Host) (bytes name : List ℕ) (old new : FailedSoFar) (status : Status) → script_name Run bytes ≡ Some name
    → Unread host.contents name old.files new.files status → EndsAfter disks host Run (λ content. content ≡ bytes) old new status
by_status disks host bytes name old new Ran is unread = absurd unread
by_status disks host bytes name old new Usage is unread = absurd unread
by_status disks host bytes name old new MachineFault is unread = absurd unread
by_status disks host bytes name old new (ScriptFault line) is unread = record { bytes = bytes; contents_are = refl; script = name; named = is; unread = unread }
by_status disks host bytes name old new (ImageFault drive cause place) is unread = absurd unread
by_status disks host bytes name old new (TooLong what) is unread = record { bytes = bytes; contents_are = refl; script = name; named = is; unread = unread }
by_status disks host bytes name old new ReadFault is unread = record { bytes = bytes; contents_are = refl; script = name; named = is; unread = unread }
by_status disks host bytes name old new (DiskFault step) is unread = absurd unread
by_status disks host bytes name old new (WriteFault step) is unread = absurd unread
by_status disks host bytes name old new OutOfMemory is unread = unread

unread_after : (disks : Disks) (host : Host) (bytes : List ℕ) (script : Option (List ℕ)) (old new : FailedSoFar) (status : Status) → script_name Run bytes ≡ script
    → IsSome script → IfSome script (λ name. Unread host.contents name old.files new.files status) → EndsAfter disks host Run (λ content. content ≡ bytes) old new status
unread_after disks host bytes None old new status is some unread = absurd (cc)
unread_after disks host bytes (Some name) old new status is some unread = by_status disks host bytes name old new status is unread

pub ends_unread : (disks : Disks) (host : Host) (bytes : List ℕ) (file : MachineFile) (old new : FailedSoFar) (status : Status) → machine_of_text bytes ≡ Some file
    → IsSome file.script → IfSome file.script (λ name. Unread host.contents name old.files new.files status) → EndsAfter disks host Run (λ content. content ≡ bytes) old new status
ends_unread disks host bytes file old new status is some unread =
    unread_after disks host bytes file.script old new status (script_of_file bytes file is) some unread

-- its drives weren't mounted

lacks_drive : (disks : Disks) (host : Host) (bytes : List ℕ) (file : MachineFile) (events : List Timed) (old new : FailedSoFar) (error : BootError) → machine_of_text bytes ≡ Some file
    → Scripted host.contents file.script events → Stops disks host.images file.drives old.drives new.drives error
    → LacksDrive disks host Run (λ content. content ≡ bytes) old new error
lacks_drive disks host bytes file events old new error is scripted stops = record {
  bytes = bytes;
  events = events;
  system = opened file events;
  contents_are = refl;
  scripted = subst (λ (script : Option (List ℕ)). Scripted host.contents script events) (sym (script_of_file bytes file is)) scripted;
  is = system_of_file bytes events file is;
  stops = subst (λ (specs : List DriveSpec). Stops disks host.images specs old.drives new.drives error) (sym (drives_of_file bytes file is)) stops;
}

ends_by : (disks : Disks) (host : Host) (bytes : List ℕ) (file : MachineFile) (events : List Timed) (old new : FailedSoFar) (error : BootError) → machine_of_text bytes ≡ Some file
    → Scripted host.contents file.script events → Stops disks host.images file.drives old.drives new.drives error
    → EndsAfter disks host Run (λ content. content ≡ bytes) old new (status_of error)
ends_by disks host bytes file events old new (Image drive cause place) is scripted stops =
    lacks_drive disks host bytes file events old new (Image drive cause place) is scripted stops
ends_by disks host bytes file events old new FailedToMount is scripted stops = inl (refl, lacks_drive disks host bytes file events old new FailedToMount is scripted stops)
ends_by disks host bytes file events old new NoMemory is scripted stops = tt

pub ends_unmounted : (disks : Disks) (host : Host) (bytes : List ℕ) (file : MachineFile) (events : List Timed) (old new : FailedSoFar) (error : BootError) (status : Status)
    → status ≡ status_of error → machine_of_text bytes ≡ Some file → Scripted host.contents file.script events
    → Stops disks host.images file.drives old.drives new.drives error → EndsAfter disks host Run (λ content. content ≡ bytes) old new status
ends_unmounted disks host bytes file events old new error status same is scripted stops =
    subst (λ (s : Status). EndsAfter disks host Run (λ content. content ≡ bytes) old new s) (sym same) (ends_by disks host bytes file events old new error is scripted stops)

-- where an image has a fault, no drive failed
first_same : (disks : Disks) (images : Images) (specs : List DriveSpec) (old new : Failures) (drive cause place : ℕ)
    → IsFirst (IsFaultless disks images) (λ spec. StopsMounting disks images spec old new (Image drive cause place)) specs → new ≡ old
unfolding IsFirst
first_same disks images [] old new drive cause place first = absurd first
first_same disks images (spec ∷ specs) old new drive cause place (inl stops) = stops.2
first_same disks images (spec ∷ specs) old new drive cause place (inr later) = first_same disks images specs old new drive cause place later.1

no_disk_fault : (disks : Disks) (images : Images) (specs : List DriveSpec) (old new : Failures) (error : BootError) (P : Type 0) → Stops disks images specs old new error → (new ≡ old → P)
    → UnlessDiskFault (status_of error) P
no_disk_fault disks images specs old new (Image drive cause place) P stops p = p (first_same disks images specs old new drive cause place stops)
no_disk_fault disks images specs old new FailedToMount P stops p = tt
no_disk_fault disks images specs old new NoMemory P stops p = p stops

pub unless_disk : (disks : Disks) (images : Images) (specs : List DriveSpec) (old new : Failures) (error : BootError) (status : Status) (P : Type 0) → status ≡ status_of error
    → Stops disks images specs old new error → (new ≡ old → P) → UnlessDiskFault status P
unless_disk disks images specs old new error status P same stops p =
    subst (λ (s : Status). UnlessDiskFault s P) (sym same) (no_disk_fault disks images specs old new error P stops p)

-- a program's bytes name no script, and its machine is that of the file that holds them

pub program_names_nothing : (form : Form) (bytes script : List ℕ) → form ≡ Program → script_name form bytes ≡ Some script → ⊥
unfolding script_name
program_names_nothing Program bytes script is named = absurd (cc)
program_names_nothing Run bytes script is named = absurd (cc)

-- a file holds such bytes
pub starts_of_contents : (host : Host) (form : Form) (name bytes : List ℕ) (system : System) (kept : Filed) (disks : Disks) → Holds host.contents (input_of form) name bytes
    → StartsOf host form (λ content. content ≡ bytes) system kept disks → Starts host form name system kept disks
starts_of_contents host form name bytes system kept disks from_file starts = record {
  drives = starts.drives;
  begins = record {
    bytes = starts.begins.bytes;
    events = starts.begins.events;
    contents_are = subst (Holds host.contents (input_of form) name) (sym starts.begins.contents_are) from_file;
    scripted = starts.begins.scripted;
    is = starts.begins.is;
    on = starts.begins.on;
    drives = starts.begins.drives;
    files = starts.begins.files;
    outputs = starts.begins.outputs;
  };
  same = starts.same;
  files = starts.files;
  listed = starts.listed;
  bare = starts.bare;
  idle = starts.idle;
}

pub starts_with_contents : (host : Host) (form which : Form) (name bytes : List ℕ) (disks : Disks) (result : Result (Box Machine) Status) → form ≡ which
    → Holds host.contents (input_of form) name bytes
    → IfOk result (λ machine. StartsOf host which (λ content. content ≡ bytes) machine.value.system machine.value.bdos disks)
    → IfOk result (λ machine. Starts host form name machine.value.system machine.value.bdos disks)
starts_with_contents host form which name bytes disks (Err status) is from_file starts = tt
starts_with_contents host form which name bytes disks (Ok machine) is from_file starts =
    subst (λ (f : Form). Starts host f name machine.value.system machine.value.bdos disks) (sym is)
    (starts_of_contents host which name bytes machine.value.system machine.value.bdos disks (subst (λ (f : Form). Holds host.contents (input_of f) name bytes) is from_file) starts)

-- so it is of how it ends

begins_of_contents : (host : Host) (form : Form) (name bytes : List ℕ) (s : State) → Holds host.contents (input_of form) name bytes
    → BeginsOf host form (λ content. content ≡ bytes) s → BeginsCommand host form name s
begins_of_contents host form name bytes s from_file begins = record {
  bytes = begins.bytes;
  events = begins.events;
  contents_are = subst (Holds host.contents (input_of form) name) (sym begins.contents_are) from_file;
  scripted = begins.scripted;
  is = begins.is;
  on = begins.on;
  drives = begins.drives;
  files = begins.files;
  outputs = begins.outputs;
}

script_lacks : (host : Host) (form : Form) (name bytes : List ℕ) (old new : List (List ℕ)) (status : Status) → Holds host.contents (input_of form) name bytes
    → LacksScript host.contents form (λ content. content ≡ bytes) old new status → LacksScript host.contents form (Holds host.contents (input_of form) name) old new status
script_lacks host form name bytes old new status from_file lacks = record {
  bytes = lacks.bytes;
  contents_are = subst (Holds host.contents (input_of form) name) (sym lacks.contents_are) from_file;
  script = lacks.script;
  named = lacks.named;
  unread = lacks.unread;
}

drive_lacks : (disks : Disks) (host : Host) (form : Form) (name bytes : List ℕ) (old new : FailedSoFar) (error : BootError) → Holds host.contents (input_of form) name bytes
    → LacksDrive disks host form (λ content. content ≡ bytes) old new error → LacksDrive disks host form (Holds host.contents (input_of form) name) old new error
drive_lacks disks host form name bytes old new error from_file lacks = record {
  bytes = lacks.bytes;
  events = lacks.events;
  system = lacks.system;
  contents_are = subst (Holds host.contents (input_of form) name) (sym lacks.contents_are) from_file;
  scripted = lacks.scripted;
  is = lacks.is;
  stops = lacks.stops;
}

ends_after : (disks : Disks) (host : Host) (form : Form) (name bytes : List ℕ) (old new : FailedSoFar) (status : Status) → Holds host.contents (input_of form) name bytes
    → EndsAfter disks host form (λ content. content ≡ bytes) old new status → EndsAfter disks host form (Holds host.contents (input_of form) name) old new status
unfolding begins_of_contents
ends_after disks host form name bytes old new Ran from_file ends = (ends.0, begins_of_contents host form name bytes ends.0 from_file ends.1)
ends_after disks host form name bytes old new Usage from_file ends = ends
ends_after disks host form name bytes old new MachineFault from_file ends =
    record { bytes = ends.bytes; contents_are = subst (Holds host.contents (input_of form) name) (sym ends.contents_are) from_file; none = ends.none }
ends_after disks host form name bytes old new (ScriptFault line) from_file ends = script_lacks host form name bytes old.files new.files (ScriptFault line) from_file ends
ends_after disks host form name bytes old new (ImageFault drive cause place) from_file ends = drive_lacks disks host form name bytes old new (Image drive cause place) from_file ends
ends_after disks host form name bytes old new (TooLong what) from_file ends = script_lacks host form name bytes old.files new.files (TooLong what) from_file ends
ends_after disks host form name bytes old new ReadFault from_file ends = script_lacks host form name bytes old.files new.files ReadFault from_file ends
ends_after disks host form name bytes old new (DiskFault step) from_file (inl ends) = inl (ends.0, drive_lacks disks host form name bytes old new FailedToMount from_file ends.1)
ends_after disks host form name bytes old new (DiskFault step) from_file (inr loses) = inr (record {
  start = loses.start;
  begins = begins_of_contents host form name bytes loses.start from_file loses.begins;
  some = loses.some;
  rose = loses.rose;
  names = loses.names;
})
ends_after disks host form name bytes old new (WriteFault step) from_file ends = (ends.0, begins_of_contents host form name bytes ends.0 from_file ends.1)
ends_after disks host form name bytes old new OutOfMemory from_file ends = tt

pub ends_with_contents : (disks : Disks) (host : Host) (form which : Form) (name bytes : List ℕ) (old new : FailedSoFar) {M : Type 0} (result : Result M Status) → form ≡ which
    → Holds host.contents (input_of form) name bytes
    → IfErr result (λ status. EndsAfter disks host which (λ content. content ≡ bytes) old new status) → IfErr result (λ status. Ends disks host form name old new status)
ends_with_contents disks host form which name bytes old new (Ok machine) is from_file ends = tt
ends_with_contents disks host form which name bytes old new (Err status) is from_file ends =
    subst (λ (f : Form). Ends disks host f name old new status) (sym is)
    (inr (ends_after disks host which name bytes old new status (subst (λ (f : Form). Holds host.contents (input_of f) name bytes) is from_file) ends))

-- a program's machine has no drive
pub program_starts : (host : Host) (bytes : List ℕ) (disks : Disks) (system : System) (kept : Filed) → system ≡ opening_system bytes → kept ≡ nothing_kept (in_places [])
    → StandsForFiles system.kernel.disk kept disks (Between (untouched (placed []))) → system.kernel.disk.served ≡ None
    → StartsOf host Program (λ content. content ≡ bytes) system kept disks
unfolding system_of script_name drives_listed
program_starts host bytes disks system kept is none stand idle = record {
  drives = [];
  begins = record {
    bytes = bytes;
    events = [];
    contents_are = refl;
    scripted = refl;
    is = ap Some (sym is);
    on = [];
    drives = tt;
    files = refl;
    outputs = refl;
  };
  same = refl;
  files = stand;
  listed = nothing_mounted disks kept none;
  bare = λ nothing. subst (λ (k : Filed). HasNoDrive k.mounted) (sym none) none_mounted;
  idle = idle;
}

-- where no drive was called, that is so of each ending

-- what is so of a program's machine, whatever drives there are: it begins as the command does, between two steps, and has none of them

pub starts_of_program : (host : Host) (bytes : List ℕ) (disks : Disks) (result : Result (Box Machine) Status) → IfOk result (λ machine. IsOfProgram bytes machine.value)
    → IfOk result (λ machine. StartsOf host Program (λ content. content ≡ bytes) machine.value.system machine.value.bdos disks)
starts_of_program host bytes disks (Ok machine) is =
    program_starts host bytes disks machine.value.system machine.value.bdos is.opening is.bdos (is.files disks) (nobody_yet machine.value.system.kernel.disk 0 is.disk)
starts_of_program host bytes disks (Err status) is = tt

pub program_at_start : {D : Type 0} (disks : D → Disks) (drives : D) (bytes : List ℕ) (result : Result (Box Machine) Status)
    → IfOk result (λ machine. IsOfProgram bytes machine.value) → IfOk result (λ machine. IsAtStart disks machine.value drives)
program_at_start disks drives bytes (Ok machine) is = record {
  between = record {
    whole = is.whole;
    no_completions = is.no_completions;
    holds = holds_nothing disks machine.value.system.kernel 0 machine.value.bdos drives is.disk is.bdos;
  };
  start = is.start;
  idle = nobody_yet machine.value.system.kernel.disk 0 is.disk;
}
program_at_start disks drives bytes (Err status) is = tt

pub program_has_no_drive : (bytes : List ℕ) (result : Result (Box Machine) Status) → IfOk result (λ machine. IsOfProgram bytes machine.value)
    → IfOk result (λ machine. HasNoDrive machine.value.bdos.mounted)
program_has_no_drive bytes (Ok machine) is = subst (λ (k : Filed). HasNoDrive k.mounted) (sym is.bdos) none_mounted
program_has_no_drive bytes (Err status) is = tt

pub either_way : {M : Type 0} (result : Result M Status) (P : Type 0) → P → MatchResult result (λ _. P) (λ status. UnlessDiskFault status P)
either_way (Ok machine) P p = p
either_way (Err status) P p = always_disk status P p

pub either_file : {M : Type 0} (result : Result M Status) (P : Type 0) → P → MatchResult result (λ _. P) (λ status. UnlessReadFault status P)
either_file (Ok machine) P p = p
either_file (Err status) P p = always_file status P p

pub since_fetched : {M : Type 0} (result : Result M Status) (first between last : List (List ℕ)) → between ≡ first
    → MatchResult result (λ _. last ≡ between) (λ status. UnlessReadFault status (last ≡ between)) → MatchResult result (λ _. last ≡ first) (λ status. UnlessReadFault status (last ≡ first))
since_fetched result first between last same names =
    subst (λ (n : List (List ℕ)). MatchResult result (λ _. last ≡ n) (λ status. UnlessReadFault status (last ≡ n))) same names

pub memory_early : {M : Type 0} (result : Result M Status) → IfErr result (λ status. status ≡ OutOfMemory) → IfErr result (λ status. IsEarly status)
memory_early (Ok machine) memory = tt
memory_early (Err status) memory = subst IsEarly (sym memory) tt

pub ready_by : {D E : Type 0} (on : Ghosts D) (old new : D) (result : Result (Box Machine) E) → IfOk result (λ machine. IsAtStart on.disks machine.value new)
    → IfOk result (λ machine. KeepsUnmounted (on.disks old) (on.disks new) machine.value.bdos.mounted)
    → IfOk result (λ machine. AreMountedSynced (on.unsynced new) machine.value.bdos.mounted) → IfOk result (λ machine. IsReadyToRun on old new machine.value)
ready_by on old new (Ok machine) begins beside fresh = record { begins = begins; beside = beside; fresh = fresh }
ready_by on old new (Err error) begins beside fresh = tt

pub refusal_early : (status : Status) → IsRefusal status → IsEarly status
refusal_early Ran refusal = absurd refusal
refusal_early Usage refusal = tt
refusal_early MachineFault refusal = tt
refusal_early (ScriptFault line) refusal = tt
refusal_early (ImageFault drive cause place) refusal = tt
refusal_early (TooLong what) refusal = tt
refusal_early ReadFault refusal = tt
refusal_early (DiskFault step) refusal = absurd refusal
refusal_early (WriteFault step) refusal = absurd refusal
refusal_early OutOfMemory refusal = tt

-- what is so of the machine in a box is so of the one that is lent of it

pub starts_inside : {host : Host} {form : Form} {name : List ℕ} {disks : Disks} {lent machine : Machine} → lent ≡ machine → Starts host form name machine.system machine.bdos disks
    → Starts host form name lent.system lent.bdos disks
starts_inside {host = host} {form = form} {name = name} {disks = disks} same starts = subst (λ (m : Machine). Starts host form name m.system m.bdos disks) (sym same) starts

pub beside_inside : {one other : Disks} {lent machine : Machine} → lent ≡ machine → KeepsUnmounted one other machine.bdos.mounted → KeepsUnmounted one other lent.bdos.mounted
beside_inside {one = one} {other = other} same beside = subst (λ (m : Machine). KeepsUnmounted one other m.bdos.mounted) (sym same) beside

pub bare_inside : {lent machine : Machine} → lent ≡ machine → HasNoDrive machine.bdos.mounted → HasNoDrive lent.bdos.mounted
bare_inside same bare = subst (λ (m : Machine). HasNoDrive m.bdos.mounted) (sym same) bare

pub stands_inside : {D : Type 0} {disks : D → Disks} {images : Images} {owes : ℕ → Bool} {specs : List DriveSpec} {drives : D} {lent machine : Machine} → lent ≡ machine
    → IsBootedOn disks images owes specs machine drives → IsBootedOn disks images owes specs lent drives
stands_inside {disks = disks} {images = images} {owes = owes} {specs = specs} {drives = drives} same stands =
    subst (λ (m : Machine). IsBootedOn disks images owes specs m drives) (sym same) stands
