-- Where files are known, a command ends as they say.
use Rattle.std.proofs.Common.{◌≡◌, ◌∙◌, ℕ, ◌<◌, ◌≤◌, List, [], ◌∷◌, ◌++◌, Option, Some, None, IsSome, MatchOption, length, option_map, option_and_then, nat_lt, inl, inr, refl, sym, ap, subst, arith}
use Rattle.std.specs.Prelude.{⊤, IsSomeAnd, Result, Ok, Err}
use Rattle.std.proofs.lemmas.List.{length-append}
use Rattle.std.proofs.lemmas.Option.{same_Some}
use Rattle.std.proofs.lemmas.Bool.{cond-true, cond-false, lt-ltb, le-ltb}
use Rattle.mpm_script.specs.declared.event.Timed.{Timed}
use Rattle.mpm_script.specs.Scripts.{script_of}
use Rattle.mpm_machine_file.specs.MachineFiles.{machine_of_text}
use Rattle.mpm_system.specs.declared.system.System.{System}
use Rattle.mpm_system.specs.Opening.{opened}
use Rattle.mpm_top.specs.declared.words.Form.{Form}
use Rattle.mpm_top.specs.declared.words.Form.TheVariants.{Program, Run}
use Rattle.mpm_top.specs.declared.status.Input.TheVariants.{ScriptText}
use Rattle.mpm_top.specs.declared.status.Status.{Status}
use Rattle.mpm_top.specs.declared.status.Status.TheVariants.{Ran, Usage, MachineFault, ScriptFault, ImageFault, TooLong, ReadFault, DiskFault, WriteFault, OutOfMemory}
use Rattle.mpm_top.specs.declared.words.Asked.{Asked}
use Rattle.mpm_top.specs.Words.{Command, IsAsked}
use Rattle.mpm_port.specs.Causes.{Rose}
use Rattle.mpm_machine_file.specs.declared.lists.DriveSpec.{DriveSpec}
use Rattle.mpm_mount.specs.declared.errors.ImageFault.{ImageFault as FaultOfImage}
use Rattle.mpm_mount.specs.Drives.{Drive}
use Rattle.mpm_mount.specs.Images.{files_of}
use Rattle.mpm_drives.specs.declared.error.BootError.TheVariants.{Image, DiskFault as FailedToMount}
use Rattle.mpm_port.specs.Disks.{Disks, ToldImage, Untold, Missing, Bytes, Brings}
use Rattle.mpm_drives.specs.Images.{Images, HasFiles}
use Rattle.mpm_drives.specs.Mounted.{NumberedDrive, AreDrivesOf, number_of}
use Rattle.mpm_drives.specs.Stopping.{Failures, IsFaultless, StopsMounting, IsFirst}
use Rattle.mpm_machine.specs.State.{State}
use Rattle.mpm_top.specs.Beginnings.{Contents, Host, FailedSoFar, command_on, input_of, room_for, system_of, script_name, drives_listed, Holds, Scripted, BeginsCommand}
use Rattle.mpm_top.specs.Promises.{Seen, EndsKnown}
use Rattle.mpm_top.specs.Endings.{Unread, IsNoMachine, LacksScript, LacksDrive, Ends, EndsAs, ending_mounted, ending_attached, ending_drives, ending_read, ending_told, ending_scripted, ending_stood, ending_by_contents, ending}

-- a name that joins a list makes it longer
nothing_joins : (names : List (List ℕ)) (name : List ℕ) → names ≡ names ++ (name ∷ []) → ⊥
nothing_joins names name e = omega (arith, ap (λ (n : List (List ℕ)). length n) e, length-append names (name ∷ []))

-- what may be held of a known file is what it holds
known_contents : (told : Option (List ℕ)) (bytes file : List ℕ) → told ≡ Some file → MatchOption told ⊤ (λ f. bytes ≡ f) → bytes ≡ file
known_contents None bytes file e h = absurd (cc)
known_contents (Some other) bytes file e h = h ∙ (cc)

-- a file that fits ends by what it stands for
ending_fits : (host : Host) (form : Form) (name bytes : List ℕ) → host.contents name ≡ Some bytes → length bytes ≤ room_for (input_of form)
    → ending host form name ≡ ending_stood host.contents (ending_drives host.images (drives_listed form bytes)) (script_name form bytes) (system_of form bytes [])
unfolding ending
ending_fits host form name bytes told fits =
    ap (option_and_then (ending_by_contents host form)) told
    ∙ cond-false (nat_lt (room_for (input_of form)) (length bytes)) _ _ (le-ltb (room_for (input_of form)) (length bytes) fits)

ending_long : (host : Host) (form : Form) (name bytes : List ℕ) → host.contents name ≡ Some bytes → room_for (input_of form) < length bytes
    → ending host form name ≡ Some (TooLong (input_of form))
unfolding ending
ending_long host form name bytes told long =
    ap (option_and_then (ending_by_contents host form)) told
    ∙ cond-true (nat_lt (room_for (input_of form)) (length bytes)) _ _ (lt-ltb (room_for (input_of form)) (length bytes) long)

-- where a command begins, or its file names a script, its file stands for a system

stood : (contents : Contents) (drives : Option Status) (script : Option (List ℕ)) (found : Option System) → IsSome found
    → ending_stood contents drives script found ≡ ending_scripted contents drives script
stood contents drives script None some = absurd (cc)
stood contents drives script (Some system) some = refl

mapped_some : {A B : Type 0} (f g : A → B) (found : Option A) (b : B) → option_map f found ≡ Some b → IsSome (option_map g found)
mapped_some f g None b e = absurd (cc)
mapped_some f g (Some a) b e = refl

then_some : {A B C : Type 0} (f : A → Option B) (g : A → C) (found : Option A) (b : B) → option_and_then f found ≡ Some b → IsSome (option_map g found)
then_some f g None b e = absurd (cc)
then_some f g (Some a) b e = refl

begins_some : (form : Form) (bytes : List ℕ) (events other : List Timed) (system : System) → system_of form bytes events ≡ Some system
    → IsSome (system_of form bytes other)
unfolding system_of
begins_some Program bytes events other system e = refl
begins_some Run bytes events other system e = mapped_some (λ file. opened file events) (λ file. opened file other) (machine_of_text bytes) system e

names_some : (form : Form) (bytes script : List ℕ) (events : List Timed) → script_name form bytes ≡ Some script → IsSome (system_of form bytes events)
unfolding system_of script_name
names_some Program bytes script events e = absurd (cc)
names_some Run bytes script events e = then_some (λ file. file.script) (λ file. opened file events) (machine_of_text bytes) script e

-- how a known script ends

script_fits : (contents : Contents) (drives : Option Status) (script text : List ℕ) → contents script ≡ Some text → length text ≤ room_for ScriptText
    → ending_scripted contents drives (Some script) ≡ ending_read drives (script_of text)
script_fits contents drives script text told fits =
    ap (option_and_then (ending_told drives)) told
    ∙ cond-false (nat_lt (room_for ScriptText) (length text)) (Some (TooLong ScriptText)) (ending_read drives (script_of text)) (le-ltb (room_for ScriptText) (length text) fits)

script_long : (contents : Contents) (drives : Option Status) (script text : List ℕ) → contents script ≡ Some text → room_for ScriptText < length text
    → ending_scripted contents drives (Some script) ≡ Some (TooLong ScriptText)
script_long contents drives script text told long =
    ap (option_and_then (ending_told drives)) told
    ∙ cond-true (nat_lt (room_for ScriptText) (length text)) (Some (TooLong ScriptText)) (ending_read drives (script_of text)) (lt-ltb (room_for ScriptText) (length text) long)

some_given : {A : Type 0} (found : Option A) → IsSome found → (a : A) × (found ≡ Some a)
some_given None some = absurd (cc)
some_given (Some a) some = (a, refl)

was_some : {A B : Type 0} (found : Option A) (f : A → Option B) (b : B) → option_and_then f found ≡ Some b → IsSome found
was_some None f b e = absurd (cc)
was_some (Some a) f b e = refl

-- a script by which the ending is known is known
script_told : (contents : Contents) (drives : Option Status) (script : List ℕ) (status : Status) → ending_scripted contents drives (Some script) ≡ Some status
    → IsSome (contents script)
script_told contents drives script status e = was_some (contents script) (ending_told drives) status e

-- with events it ends by its drives
events_read : (contents : Contents) (drives : Option Status) (script : Option (List ℕ)) (events : List Timed) (status : Status) → Scripted contents script events
    → ending_scripted contents drives script ≡ Some status → drives ≡ Some status
events_read contents drives None events status from_file e = e
events_read contents drives (Some script) events status from_file e =
    let found = some_given (contents script) (script_told contents drives script status e) in
    let same : from_file.text ≡ found.0 = known_contents (contents script) from_file.text found.0 found.1 from_file.contents_are.told in
    let fits : length found.0 ≤ room_for ScriptText = subst (λ (t : List ℕ). length t ≤ room_for ScriptText) same from_file.contents_are.fits in
    let read : ending_read drives (script_of found.0) ≡ drives = ap (λ t. ending_read drives (script_of t)) (sym same) ∙ ap (ending_read drives) from_file.read in
    sym read ∙ sym (script_fits contents drives script found.0 found.1 fits) ∙ e

-- drives that stand for what their images stand for are no reason to end, and the first image with a fault is one

attached_run : (spec : DriveSpec) (image : ToldImage) (files : Drive) (rest : Option Status) (status : Status) → HasFiles image spec.kind files
    → ending_attached spec image rest ≡ Some status → rest ≡ Some status
attached_run spec Untold files rest status has e = absurd (cc)
attached_run spec Missing files rest status has e = absurd has.brought
attached_run spec (Bytes bytes) files rest status has e =
    sym (ap (λ (r : Result Drive FaultOfImage). ending_mounted spec r rest) (ap (λ b. files_of b spec.kind) (sym has.brought) ∙ has.stands)) ∙ e

drives_run : (images : Images) (specs : List DriveSpec) (drives : List NumberedDrive) (status : Status) → AreDrivesOf images specs drives
    → ending_drives images specs ≡ Some status → status ≡ Ran
unfolding ending_drives
drives_run images [] [] status are e = same_Some status Ran (sym e)
drives_run images [] (d ∷ drives) status are e = absurd are
drives_run images (spec ∷ specs) [] status are e = absurd are
drives_run images (spec ∷ specs) (d ∷ drives) status are e =
    drives_run images specs drives status are.1 (attached_run spec (images spec.image) d.files (ending_drives images specs) status are.0.files e)

faultless_run : (spec : DriveSpec) (told : ToldImage) (found : Option (List ℕ)) (rest : Option Status) (status : Status)
    → IsSomeAnd found (λ image. Brings told image × ((files : Drive) × (files_of image spec.kind ≡ Ok files))) → ending_attached spec told rest ≡ Some status → rest ≡ Some status
faultless_run spec told None rest status has e = absurd has
faultless_run spec told (Some image) rest status has e =
    attached_run spec told has.1.0 rest status (record { image = image; brought = has.0; stands = has.1.1 }) e

attached_fault : (spec : DriveSpec) (told : ToldImage) (found : Option (List ℕ)) (fault : FaultOfImage) (rest : Option Status) (status : Status)
    → IsSomeAnd found (λ image. Brings told image × (files_of image spec.kind ≡ Err fault)) → ending_attached spec told rest ≡ Some status
    → ImageFault (number_of spec) fault.cause fault.place ≡ status
attached_fault spec told None fault rest status has e = absurd has
attached_fault spec Untold (Some image) fault rest status has e = absurd (cc)
attached_fault spec Missing (Some image) fault rest status has e = absurd has.0
attached_fault spec (Bytes bytes) (Some image) fault rest status has e =
    same_Some (ImageFault (number_of spec) fault.cause fault.place) status
    (sym (ap (λ (r : Result Drive FaultOfImage). ending_mounted spec r rest) (ap (λ b. files_of b spec.kind) (sym has.0) ∙ has.1)) ∙ e)

first_fault_is : (disks : Disks) (images : Images) (specs : List DriveSpec) (old new : Failures) (drive cause place : ℕ) (status : Status)
    → IsFirst (IsFaultless disks images) (λ spec. StopsMounting disks images spec old new (Image drive cause place)) specs → ending_drives images specs ≡ Some status
    → ImageFault drive cause place ≡ status
unfolding ending_drives IsFirst
first_fault_is disks images [] old new drive cause place status first e = absurd first
first_fault_is disks images (spec ∷ specs) old new drive cause place status (inl stops) e =
    ap (λ (d : ℕ). ImageFault d cause place) stops.0
    ∙ attached_fault spec (images spec.image) (disks.image (number_of spec)) (record { cause = cause; place = place }) (ending_drives images specs) status stops.1 e
first_fault_is disks images (spec ∷ specs) old new drive cause place status (inr later) e =
    first_fault_is disks images specs old new drive cause place status later.1
    (faultless_run spec (images spec.image) (disks.image (number_of spec)) (ending_drives images specs) status later.0 e)

-- no drive stops it where nothing fails
first_never : (specs : List DriveSpec) (Before P : DriveSpec → Type 0) → ((spec : DriveSpec) → P spec → ⊥) → IsFirst Before P specs → ⊥
unfolding IsFirst
first_never [] Before P never first = absurd first
first_never (spec ∷ specs) Before P never (inl stops) = never spec stops
first_never (spec ∷ specs) Before P never (inr later) = first_never specs Before P never later.1

no_drive_stops : (disks : Disks) (images : Images) (spec : DriveSpec) (old new : Failures) → new.names ≡ old.names → (Rose old.faults new.faults → ⊥)
    → StopsMounting disks images spec old new FailedToMount → ⊥
no_drive_stops disks images spec old new same sound (inl joined) = nothing_joins old.names spec.image (sym same ∙ joined.0)
no_drive_stops disks images spec old new same sound (inr rose) = sound rose.1

-- what a script that wasn't read says
unread_says : (contents : Contents) (drives : Option Status) (script : List ℕ) (old new : List (List ℕ)) (status result : Status) → Unread contents script old new result
    → ending_scripted contents drives (Some script) ≡ Some status → new ≡ old → EndsAs status result
unread_says contents drives script old new status Ran unread e same = absurd unread
unread_says contents drives script old new status Usage unread e same = absurd unread
unread_says contents drives script old new status MachineFault unread e same = absurd unread
unread_says contents drives script old new status (ScriptFault line) unread e same =
    let found = some_given (contents script) (script_told contents drives script status e) in
    let is : unread.text ≡ found.0 = known_contents (contents script) unread.text found.0 found.1 unread.contents_are.told in
    let fits : length found.0 ≤ room_for ScriptText = subst (λ (t : List ℕ). length t ≤ room_for ScriptText) is unread.contents_are.fits in
    let read : ending_read drives (script_of found.0) ≡ Some (ScriptFault line) =
    ap (λ t. ending_read drives (script_of t)) (sym is) ∙ ap (ending_read drives) unread.bad in
    inl (same_Some (ScriptFault line) status (sym read ∙ sym (script_fits contents drives script found.0 found.1 fits) ∙ e))
unread_says contents drives script old new status (ImageFault drive cause place) unread e same = absurd unread
unread_says contents drives script old new status (TooLong what) unread e same =
    let found = some_given (contents script) (script_told contents drives script status e) in
    let long : room_for ScriptText < length found.0 = subst (λ (told : Option (List ℕ)). MatchOption told ⊤ (λ file. room_for ScriptText < length file)) found.1 unread.1 in
    inl (same_Some (TooLong what) status (ap (λ w. Some (TooLong w)) unread.0 ∙ sym (script_long contents drives script found.0 found.1 long) ∙ e))
unread_says contents drives script old new status ReadFault unread e same = absurd (nothing_joins old script (sym same ∙ unread))
unread_says contents drives script old new status (DiskFault step) unread e same = absurd unread
unread_says contents drives script old new status (WriteFault step) unread e same = absurd unread
unread_says contents drives script old new status OutOfMemory unread e same = inr refl

lacks_says : (host : Host) (form : Form) (name file : List ℕ) (old new : List (List ℕ)) (status result : Status)
    → LacksScript host.contents form (Holds host.contents (input_of form) name) old new result → host.contents name ≡ Some file
    → ending host form name ≡ Some status → new ≡ old → EndsAs status result
lacks_says host form name file old new status result lacks told e same =
    let is : lacks.bytes ≡ file = known_contents (host.contents name) lacks.bytes file told lacks.contents_are.told in
    let fits : length file ≤ room_for (input_of form) = subst (λ (b : List ℕ). length b ≤ room_for (input_of form)) is lacks.contents_are.fits in
    let named : script_name form file ≡ Some lacks.script = ap (script_name form) (sym is) ∙ lacks.named in
    let drives = ending_drives host.images (drives_listed form file) in
    let whole : ending host form name ≡ ending_scripted host.contents drives (Some lacks.script) =
    ending_fits host form name file told fits
    ∙ stood host.contents drives (script_name form file) (system_of form file []) (names_some form file lacks.script [] named)
    ∙ ap (ending_scripted host.contents drives) named in
    unread_says host.contents drives lacks.script old new status result lacks.unread (sym whole ∙ e) same

-- where its files are read, it ends by its drives
read_says : (host : Host) (form : Form) (name file bytes : List ℕ) (events : List Timed) (system : System) (status : Status)
    → Holds host.contents (input_of form) name bytes → Scripted host.contents (script_name form bytes) events → system_of form bytes events ≡ Some system
    → host.contents name ≡ Some file → ending host form name ≡ Some status → ending_drives host.images (drives_listed form bytes) ≡ Some status
read_says host form name file bytes events system status holds scripted stands told e =
    let is : bytes ≡ file = known_contents (host.contents name) bytes file told holds.told in
    let told_bytes : host.contents name ≡ Some bytes = told ∙ ap (λ (b : List ℕ). Some b) (sym is) in
    let drives = ending_drives host.images (drives_listed form bytes) in
    let some = begins_some form bytes events [] system stands in
    events_read host.contents drives (script_name form bytes) events status scripted
    (sym (ending_fits host form name bytes told_bytes holds.fits ∙ stood host.contents drives (script_name form bytes) (system_of form bytes []) some) ∙ e)

begins_says : (host : Host) (form : Form) (name file : List ℕ) (s : State) (status : Status) → BeginsCommand host form name s
    → host.contents name ≡ Some file → ending host form name ≡ Some status → status ≡ Ran
begins_says host form name file s status begins told e =
    drives_run host.images (drives_listed form begins.bytes) begins.on status begins.drives
    (read_says host form name file begins.bytes begins.events s.system status begins.contents_are begins.scripted begins.is told e)

image_says : (disks : Disks) (host : Host) (form : Form) (name file : List ℕ) (old new : FailedSoFar) (drive cause place : ℕ) (status : Status)
    → LacksDrive disks host form (Holds host.contents (input_of form) name) old new (Image drive cause place) → host.contents name ≡ Some file
    → ending host form name ≡ Some status → ImageFault drive cause place ≡ status
image_says disks host form name file old new drive cause place status lacks told e =
    first_fault_is disks host.images (drives_listed form lacks.bytes) old.drives new.drives drive cause place status lacks.stops
    (read_says host form name file lacks.bytes lacks.events lacks.system status lacks.contents_are lacks.scripted lacks.is told e)

no_machine_says : (host : Host) (form : Form) (name file : List ℕ) (status : Status) → IsNoMachine form (Holds host.contents (input_of form) name)
    → host.contents name ≡ Some file → ending host form name ≡ Some status → status ≡ MachineFault
no_machine_says host form name file status fails told e =
    let is : fails.bytes ≡ file = known_contents (host.contents name) fails.bytes file told fails.contents_are.told in
    let fits : length file ≤ room_for (input_of form) = subst (λ (b : List ℕ). length b ≤ room_for (input_of form)) is fails.contents_are.fits in
    let none : system_of form file [] ≡ None = ap (λ b. system_of form b []) (sym is) ∙ fails.none in
    let drives = ending_drives host.images (drives_listed form file) in
    same_Some status MachineFault
    (sym e ∙ ending_fits host form name file told fits ∙ ap (ending_stood host.contents drives (script_name form file)) none)

file_told : (host : Host) (form : Form) (name : List ℕ) (status : Status) → ending host form name ≡ Some status → IsSome (host.contents name)
unfolding ending
file_told host form name status e = was_some (host.contents name) (ending_by_contents host form) status e

-- an ending that has its reason is the one that files and images tell, where it is none by a device

told_ending : (disks : Disks) (host : Host) (form : Form) (name : List ℕ) (old new : FailedSoFar) (status result : Status)
    → Ends disks host form name old new result → ending host form name ≡ Some status → new.files ≡ old.files
    → ((step : ℕ) → result ≡ DiskFault step → EndsAs status result) → ((step : ℕ) → result ≡ WriteFault step → EndsAs status result) → EndsAs status result
told_ending disks host form name old new status Ran (inl nothing) e same disk write = absurd nothing
told_ending disks host form name old new status Ran (inr begun) e same disk write =
    let found = some_given (host.contents name) (file_told host form name status e) in
    inl (sym (begins_says host form name found.0 begun.0 status begun.1 found.1 e))
told_ending disks host form name old new status Usage (inl nothing) e same disk write = absurd nothing
told_ending disks host form name old new status Usage (inr nothing) e same disk write = absurd nothing
told_ending disks host form name old new status MachineFault (inl nothing) e same disk write = absurd nothing
told_ending disks host form name old new status MachineFault (inr fails) e same disk write =
    let found = some_given (host.contents name) (file_told host form name status e) in
    inl (sym (no_machine_says host form name found.0 status fails found.1 e))
told_ending disks host form name old new status (ScriptFault line) (inl nothing) e same disk write = absurd nothing
told_ending disks host form name old new status (ScriptFault line) (inr lacks) e same disk write =
    let found = some_given (host.contents name) (file_told host form name status e) in
    lacks_says host form name found.0 old.files new.files status (ScriptFault line) lacks found.1 e same
told_ending disks host form name old new status (ImageFault drive cause place) (inl nothing) e same disk write = absurd nothing
told_ending disks host form name old new status (ImageFault drive cause place) (inr lacks) e same disk write =
    let found = some_given (host.contents name) (file_told host form name status e) in
    inl (image_says disks host form name found.0 old new drive cause place status lacks found.1 e)
told_ending disks host form name old new status (TooLong what) (inl long) e same disk write =
    let found = some_given (host.contents name) (file_told host form name status e) in
    let beyond : room_for (input_of form) < length found.0 =
    subst (λ (told : Option (List ℕ)). MatchOption told ⊤ (λ file. room_for (input_of form) < length file)) found.1 long.1 in
    inl (same_Some (TooLong what) status (ap (λ w. Some (TooLong w)) long.0 ∙ sym (ending_long host form name found.0 found.1 beyond) ∙ e))
told_ending disks host form name old new status (TooLong what) (inr lacks) e same disk write =
    let found = some_given (host.contents name) (file_told host form name status e) in
    lacks_says host form name found.0 old.files new.files status (TooLong what) lacks found.1 e same
told_ending disks host form name old new status ReadFault (inl joined) e same disk write = absurd (nothing_joins old.files name (sym same ∙ joined))
told_ending disks host form name old new status ReadFault (inr lacks) e same disk write =
    let found = some_given (host.contents name) (file_told host form name status e) in
    lacks_says host form name found.0 old.files new.files status ReadFault lacks found.1 e same
told_ending disks host form name old new status (DiskFault step) ends e same disk write = disk step refl
told_ending disks host form name old new status (WriteFault step) ends e same disk write = write step refl
told_ending disks host form name old new status OutOfMemory ends e same disk write = inr refl

-- a drive failed at an ending by one

disk_failed : (disks : Disks) (host : Host) (form : Form) (name : List ℕ) (old new : FailedSoFar) (step : ℕ) → Ends disks host form name old new (DiskFault step)
    → new.drives.names ≡ old.drives.names → (Rose old.drives.faults new.drives.faults → ⊥) → ⊥
disk_failed disks host form name old new step (inl nothing) same sound = absurd nothing
disk_failed disks host form name old new step (inr (inl lacks)) same sound =
    first_never (drives_listed form lacks.1.bytes) _ _ (λ spec. no_drive_stops disks host.images spec old.drives new.drives same sound) lacks.1.stops
disk_failed disks host form name old new step (inr (inr loses)) same sound = sound loses.rose

no_disk_fault : (disks : Disks) (host : Host) (form : Form) (name : List ℕ) (old new : FailedSoFar) (result : Status) (step : ℕ) → Ends disks host form name old new result
    → result ≡ DiskFault step → new.drives.names ≡ old.drives.names → (Rose old.drives.faults new.drives.faults → ⊥) → ⊥
no_disk_fault disks host form name old new result step ends is same sound =
    disk_failed disks host form name old new step (subst (λ (s : Status). Ends disks host form name old new s) is ends) same sound

-- where an image is missing, it doesn't begin

zero_is : (step : ℕ) → step ≡ 0 → DiskFault step ≡ DiskFault 0
zero_is step is = ap (λ (n : ℕ). DiskFault n) is

missing_disk : (disks : Disks) (host : Host) (form : Form) (name : List ℕ) (old new : FailedSoFar) (step : ℕ) → Ends disks host form name old new (DiskFault step)
    → ending host form name ≡ Some (DiskFault 0) → DiskFault step ≡ DiskFault 0
missing_disk disks host form name old new step (inl nothing) e = absurd nothing
missing_disk disks host form name old new step (inr (inl lacks)) e = zero_is step lacks.0
missing_disk disks host form name old new step (inr (inr loses)) e =
    let found = some_given (host.contents name) (file_told host form name (DiskFault 0) e) in
    let none : DiskFault 0 ≡ Ran = begins_says host form name found.0 loses.start (DiskFault 0) loses.begins found.1 e in
    absurd (cc)

missing_write : (disks : Disks) (host : Host) (form : Form) (name : List ℕ) (old new : FailedSoFar) (step : ℕ) → Ends disks host form name old new (WriteFault step)
    → ending host form name ≡ Some (DiskFault 0) → ⊥
missing_write disks host form name old new step (inl nothing) e = absurd nothing
missing_write disks host form name old new step (inr begun) e =
    let found = some_given (host.contents name) (file_told host form name (DiskFault 0) e) in
    let none : DiskFault 0 ≡ Ran = begins_says host form name found.0 begun.0 (DiskFault 0) begun.1 found.1 e in
    absurd (cc)

missing_image : (disks : Disks) (host : Host) (form : Form) (name : List ℕ) (old new : FailedSoFar) (result : Status) → Ends disks host form name old new result
    → ending host form name ≡ Some (DiskFault 0) → new.files ≡ old.files → EndsAs (DiskFault 0) result
missing_image disks host form name old new result ends e same =
    let P : Status → Type 0 = λ s. Ends disks host form name old new s in
    told_ending disks host form name old new (DiskFault 0) result ends e same
    (λ step is. inl (is ∙ missing_disk disks host form name old new step (subst P is ends) e))
    (λ step is. absurd (missing_write disks host form name old new step (subst P is ends) e))

-- where files and images are known, so it ends

pub known_ending : (missing : List ℕ → Type 0) (command : Command) (old new : Seen) (result : Status) → Ends new.disks old.host command.form command.name old.failed new.failed result
    → ((step : ℕ) → result ≡ WriteFault step → Rose old.printed.faults new.printed.faults) → (missing command.name → EndsAs ReadFault result)
    → ((bytes script : List ℕ) → old.host.contents command.name ≡ Some bytes → length bytes ≤ room_for (input_of command.form)
    → script_name command.form bytes ≡ Some script → missing script → EndsAs ReadFault result)
    → EndsKnown missing command old new result
known_ending missing command old new result ends write file script = record {
  first = λ wanted is files names sound drive_sound.
      told_ending new.disks old.host command.form command.name old.failed new.failed wanted result ends is files
      (λ step disk. absurd (no_disk_fault new.disks old.host command.form command.name old.failed new.failed result step ends disk names drive_sound))
      (λ step wrote. absurd (sound (write step wrote)));
  file = file;
  script = script;
  image = λ is files. missing_image new.disks old.host command.form command.name old.failed new.failed result ends is files;
}

-- the command that is asked
pub asked_command : (found : Option Command) (name spelled : List ℕ) (asked : Asked) (command : Command) → IsAsked found spelled asked → name ≡ spelled
    → found ≡ Some command → command_on name asked ≡ command
asked_command found name spelled asked command is_asked is e =
    let same : Some (command_on spelled asked) ≡ Some command = sym is_asked.is ∙ e in
    ap (λ n. command_on n asked) is ∙ (cc)
