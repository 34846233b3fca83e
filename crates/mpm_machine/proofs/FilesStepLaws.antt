-- A step of the machine is what it begins with and the rest of it.
use Rattle.std.proofs.Common.{◌≡◌, ◌∙◌, Bool, ◌++◌, List, [], refl, sym, ap, subst}
use Rattle.mpm_port.specs.Disks.{Disks}
use Rattle.mpm_render.specs.Outputs.{Output}
use Rattle.mpm_output.specs.Outside.{Outside, TheSink}
use Rattle.mpm_output.specs.Writing.{CameOut, Stopped}
use Rattle.mpm_output.proofs.WritingLaws.{wrote_after, fails_before, fails_within, fails_same}
use Rattle.mpm_directories.specs.Direct.{Directly}
use Rattle.mpm_bdos.specs.Serving.{Kept}
use Rattle.mpm_system.specs.declared.system.System.{System}
use Rattle.mpm_system.specs.Whole.{SystemChange, silent}
use Rattle.mpm_machine.specs.declared.machine.StepFault.{StepFault}
use Rattle.mpm_machine.specs.declared.machine.StepFault.TheVariants.{DiskFault, WriteFault}
use Rattle.mpm_machine.specs.Files.{FilesInService, StandsForFiles, drives_in}
use Rattle.mpm_machine.specs.FileCalls.{file_caller}
use Rattle.mpm_machine.specs.Stepping.{Telling, begun_as, is_instruction, entered_after, ended_after, rest_of, step_with, nothing_told, told_first, files_begun, before_disk, telling_then, telling_of, files_rest, stepped}
use Rattle.mpm_machine.specs.After.{IsOfSome, HasSteppedTo, StopsBy, HasBegunTo, HasEndedTo}
use Rattle.mpm_machine.proofs.MadeLaws.{IsMade}
use Rattle.mpm_machine.proofs.RestLaws.{rest_emitted}

-- what a step begins with, and the rest of it, by what is known at the disk and for how many turns the next call enters
abbrev joined : Directly → Telling → Telling
joined at_gate rest = record { at_gate = at_gate; at_disk = rest.at_disk; turns = rest.turns }

-- the rest of it looks at no call that is made
rest_joined : (instruction : Bool) (at_gate : Directly) (telling : Telling) (begun : SystemChange) → rest_of instruction telling begun ≡ rest_of instruction (joined at_gate telling) begun
unfolding rest_of ended_after entered_after
rest_joined instruction at_gate telling begun = refl

step_is_rest : (told : Directly) (telling : Telling) (old : System)
    → step_with (joined told telling) old ≡ rest_of (is_instruction (file_caller old) old) (joined told telling) (begun_as told old)
unfolding step_with
step_is_rest told telling old = refl

silent_rest : (instruction : Bool) (telling : Telling) (begun : SystemChange) → (rest_of instruction telling (silent begun.system)).system ≡ (rest_of instruction telling begun).system
unfolding rest_of
silent_rest instruction telling begun = refl

-- the whole step, by its parts
whole_system : (instruction : Bool) (told : Directly) (telling : Telling) (old middle new : System) → instruction ≡ is_instruction (file_caller old) old
    → middle ≡ (begun_as told old).system → new ≡ (rest_of instruction telling (silent middle)).system → new ≡ (step_with (joined told telling) old).system
whole_system instruction told telling old middle new i is ends =
    ends
    ∙ ap (λ (s : System). (rest_of instruction telling (silent s)).system) is
    ∙ ap (λ (c : SystemChange). c.system) (rest_joined instruction told telling (silent (begun_as told old).system))
    ∙ ap (λ b. (rest_of b (joined told telling) (silent (begun_as told old).system)).system) i
    ∙ silent_rest (is_instruction (file_caller old) old) (joined told telling) (begun_as told old)
    ∙ ap (λ (c : SystemChange). c.system) (sym (step_is_rest told telling old))

whole_emitted : (instruction : Bool) (told : Directly) (telling : Telling) (old middle : System) → instruction ≡ is_instruction (file_caller old) old
    → middle ≡ (begun_as told old).system
    → (rest_of instruction telling (silent middle)).emitted ++ (begun_as told old).emitted ≡ (step_with (joined told telling) old).emitted
whole_emitted instruction told telling old middle i is =
    let first = begun_as told old in
    ap (λ (s : System). (rest_of instruction telling (silent s)).emitted ++ first.emitted) is
    ∙ ap (λ (c : SystemChange). c.emitted ++ first.emitted) (rest_joined instruction told telling (silent first.system))
    ∙ ap (λ b. (rest_of b (joined told telling) (silent first.system)).emitted ++ first.emitted) i
    ∙ sym (rest_emitted (is_instruction (file_caller old) old) (joined told telling) first)
    ∙ ap (λ (c : SystemChange). c.emitted) (sym (step_is_rest told telling old))

wrote_same : (o n : Outside) (a b : List Output) → a ≡ b → CameOut o n a → CameOut o n b
wrote_same o n a b is wrote = subst (CameOut o n) is wrote

-- what it begins with stopped

stops_before : (fault : StepFault) (o n : Outside) (a b : List Output) → StopsBy fault o n a → StopsBy fault o n (b ++ a)
stops_before WriteFault o n a b stops = fails_before TheSink o n a b stops
stops_before DiskFault o n a b stops = stops

stops_same : (fault : StepFault) (o n : Outside) (a b : List Output) → a ≡ b → StopsBy fault o n a → StopsBy fault o n b
stops_same fault o n a b is stops = subst (StopsBy fault o n) is stops

-- whatever its file calls came to
pub stepped_by : (instruction : Bool) (old middle new : System) → instruction ≡ is_instruction (file_caller old) old
    → IsOfSome (λ (told : Directly). (begun_as told old).system) middle
    → IsOfSome (λ (telling : Telling). (rest_of instruction telling (silent middle)).system) new → IsMade old new
stepped_by instruction old middle new i begun ended =
    (joined begun.0 ended.0, whole_system instruction begun.0 ended.0 old middle new i begun.1 ended.1)

-- by what is on the drives

telling_is : (old : System) (files : FilesInService)
    → joined (told_first old files) (telling_then nothing_told (before_disk old files).system (files_begun old files)) ≡ telling_of old files
unfolding telling_of telling_then
telling_is old files = refl

first_is : (old : System) (files : FilesInService) → before_disk old files ≡ begun_as (told_first old files) old
unfolding before_disk
first_is old files = refl

stepped_is : (old : System) (files : FilesInService) → (stepped old files).change ≡ step_with (telling_of old files) old
unfolding stepped
stepped_is old files = refl

stepped_files : (old : System) (files : FilesInService) → (stepped old files).files ≡ files_rest (before_disk old files).system (files_begun old files)
unfolding stepped
stepped_files old files = refl

-- the rest of a step is the one after what it begins with
rest_here : (old middle : System) (files : FilesInService) → middle ≡ (before_disk old files).system
    → telling_then nothing_told middle (files_begun old files) ≡ telling_then nothing_told (before_disk old files).system (files_begun old files)
rest_here old middle files is = ap (λ (s : System). telling_then nothing_told s (files_begun old files)) is

step_so : (old : System) (files : FilesInService)
    → step_with (joined (told_first old files) (telling_then nothing_told (before_disk old files).system (files_begun old files))) old ≡ (stepped old files).change
step_so old files = ap (λ (t : Telling). step_with t old) (telling_is old files) ∙ sym (stepped_is old files)

pub has_stepped_to : (instruction : Bool) (files : FilesInService) (o m n : Outside) (old middle new : System) (between kept : Kept) (disks : Disks)
    → instruction ≡ is_instruction (file_caller old) old → HasBegunTo files o m old middle between disks
    → HasEndedTo instruction (files_begun old files) m n middle new kept disks → HasSteppedTo files o n old new kept disks
has_stepped_to instruction files o m n old middle new between kept disks i begun ended =
    let told = told_first old files in
    let here = telling_then nothing_told middle (files_begun old files) in
    let there = telling_then nothing_told (before_disk old files).system (files_begun old files) in
    let same = rest_here old middle files begun.system in
    let is = begun.system ∙ ap (λ (c : SystemChange). c.system) (first_is old files) in
    let R : FilesInService → Type 0 = λ f. StandsForFiles new.kernel.disk kept disks f in
    record {
      system = whole_system instruction told here old middle new i is ended.system
          ∙ ap (λ (t : Telling). (step_with (joined told t) old).system) same ∙ ap (λ (c : SystemChange). c.system) (step_so old files);
      wrote = wrote_same o n _ (stepped old files).change.emitted
          (whole_emitted instruction told here old middle i is ∙ ap (λ (t : Telling). (step_with (joined told t) old).emitted) same ∙ ap (λ (c : SystemChange). c.emitted) (step_so old files))
          (wrote_after o m n (begun_as told old).emitted (rest_of instruction here (silent middle)).emitted
          (wrote_same o m _ (begun_as told old).emitted (ap (λ (c : SystemChange). c.emitted) (first_is old files)) begun.wrote) ended.wrote);
      stands = subst R (ap (λ (s : System). files_rest s (files_begun old files)) begun.system ∙ sym (stepped_files old files)) ended.stands;
    }

-- where what it begins with stopped, or the rest of it
pub begun_stops_by : (fault : StepFault) (files : FilesInService) (o n : Outside) (old : System) → StopsBy fault o n (before_disk old files).emitted
    → StopsBy fault o n (stepped old files).change.emitted
begun_stops_by fault files o n old stops =
    let told = told_first old files in
    let there = telling_then nothing_told (before_disk old files).system (files_begun old files) in
    let i = is_instruction (file_caller old) old in
    let is = ap (λ (c : SystemChange). c.system) (first_is old files) in
    stops_same fault o n _ (stepped old files).change.emitted
    (whole_emitted i told there old (before_disk old files).system refl is ∙ ap (λ (c : SystemChange). c.emitted) (step_so old files))
    (stops_before fault o n (begun_as told old).emitted (rest_of i there (silent (before_disk old files).system)).emitted
    (stops_same fault o n _ (begun_as told old).emitted (ap (λ (c : SystemChange). c.emitted) (first_is old files)) stops))

pub ended_stops_by : (instruction : Bool) (files : FilesInService) (o m n : Outside) (old middle : System) (between : Kept) (disks : Disks)
    → instruction ≡ is_instruction (file_caller old) old → HasBegunTo files o m old middle between disks
    → Stopped m n (rest_of instruction (telling_then nothing_told middle (files_begun old files)) (silent middle)).emitted
    → StopsBy WriteFault o n (stepped old files).change.emitted
ended_stops_by instruction files o m n old middle between disks i begun stopped =
    let told = told_first old files in
    let here = telling_then nothing_told middle (files_begun old files) in
    let is = begun.system ∙ ap (λ (c : SystemChange). c.system) (first_is old files) in
    fails_same TheSink o n _ (stepped old files).change.emitted
    (whole_emitted instruction told here old middle i is ∙ ap (λ (t : Telling). (step_with (joined told t) old).emitted) (rest_here old middle files begun.system)
    ∙ ap (λ (c : SystemChange). c.emitted) (step_so old files))
    (fails_within TheSink o m n (begun_as told old).emitted (rest_of instruction here (silent middle)).emitted []
    (wrote_same o m _ (begun_as told old).emitted (ap (λ (c : SystemChange). c.emitted) (first_is old files)) begun.wrote) stopped)

-- for which drives the images then stand

pub stepped_drives : (instruction : Bool) (files : FilesInService) (old middle : System) → instruction ≡ is_instruction (file_caller old) old → middle ≡ (before_disk old files).system
    → drives_in (rest_of instruction (telling_then nothing_told middle (files_begun old files)) (silent middle)).system.kernel.disk.served (files_rest middle (files_begun old files))
    ≡ drives_in (stepped old files).change.system.kernel.disk.served (stepped old files).files
stepped_drives instruction files old middle i is =
    let told = told_first old files in
    let here = telling_then nothing_told middle (files_begun old files) in
    let first = is ∙ ap (λ (c : SystemChange). c.system) (first_is old files) in
    let end : (rest_of instruction here (silent middle)).system ≡ (stepped old files).change.system =
    whole_system instruction told here old middle (rest_of instruction here (silent middle)).system i first refl
    ∙ ap (λ (t : Telling). (step_with (joined told t) old).system) (rest_here old middle files is) ∙ ap (λ (c : SystemChange). c.system) (step_so old files) in
    ap (λ (s : System). drives_in s.kernel.disk.served (files_rest middle (files_begun old files))) end
    ∙ ap (λ (f : FilesInService). drives_in (stepped old files).change.system.kernel.disk.served f) (ap (λ (s : System). files_rest s (files_begun old files)) is ∙ sym (stepped_files old files))
