-- A machine that is run prints its files, from its beginning on; each file of its drives has a text, of which that is a first part.
use Rattle.std.proofs.Common.{◌≡◌, ◌≢◌, ◌∙◌, ℕ, true, List, All, Option, Some, None, ◌+◌, ◌^◌, ◌<◌, ◌≤◌, length, inl, inr, refl, sym, ap, subst, arith}
use Rattle.std.specs.Prelude.{unwrap_or, slice_index_or}
use Rattle.std.specs.FinMap.{get-empty}
use Rattle.std.proofs.lemmas.Bool.{cases_eq}
use Rattle.std.proofs.lemmas.List.{get_or-set_other}
use Rattle.std.proofs.lemmas.Option.{none-some}
use Rattle.mpm_bdos.proofs.NextTurns.{job_drives, idle_drives}
use Rattle.mpm_bdos.specs.Ending.{IsSoundDrive}
use Rattle.mpm_bdos.specs.Jobs.{job_of}
use Rattle.mpm_bdos.specs.OpenToRead.{drive_or_blank}
use Rattle.mpm_bdos.specs.Outcomes.{drives_after}
use Rattle.mpm_bdos.specs.Serving.{Kept, Serves}
use Rattle.mpm_bdos.specs.Turns.{images_of}
use Rattle.mpm_directories.specs.Places.{directory_at}
use Rattle.mpm_files.specs.Serving.{units_done}
use Rattle.mpm_jobs.specs.declared.jobs.Job.{Job}
use Rattle.mpm_machine_file.specs.MachineFiles.{IsMachine}
use Rattle.mpm_machine_file.specs.declared.machine_file.MachineFile.{MachineFile}
use Rattle.mpm_mount.proofs.InSlots.{extent_of_image}
use Rattle.mpm_mount.proofs.LookedUp.{kind_of}
use Rattle.mpm_mount.specs.Directories.{Directory}
use Rattle.mpm_mount.specs.Drives.{FileName, Drive, IsOfImage, entry_cmp, visible_of}
use Rattle.mpm_opens.proofs.OneItem.{none_at_first}
use Rattle.mpm_port.specs.Disks.{Disks}
use Rattle.mpm_refusals.specs.Asking.{StandsWhere}
use Rattle.mpm_refusals.specs.Filing.{Situation}
use Rattle.mpm_refusals.specs.Subjects.{blank_drive, drive_at, drive_number, file_of}
use Rattle.mpm_script.specs.Events.{IsTimed}
use Rattle.mpm_script.specs.declared.event.Timed.{Timed}
use Rattle.mpm_service.specs.Disk.{DiskService, no_service}
use Rattle.mpm_service.specs.declared.service.Served.{Served}
use Rattle.mpm_spool.specs.Spoolers.{after as after_answers}
use Rattle.mpm_system.proofs.PlacedLaws.{booted_is_bare}
use Rattle.mpm_system.proofs.SizeLaws.{memory_new}
use Rattle.mpm_system.specs.Opening.{booted, opened, with_residents}
use Rattle.mpm_machine.proofs.AfterLaws.{residents_begun, opened_whole, opened_handed}
use Rattle.mpm_machine.proofs.LockLaws.{locks_at_first}
use Rattle.mpm_machine.proofs.SlotLaws.{has_residents}
use Rattle.mpm_machine.proofs.SpoolingAfter.{prints_at_first, printing_after, file_last}
use Rattle.mpm_machine.proofs.TextLaws.{printed_size, file_has_text, same_text}
use Rattle.mpm_machine.proofs.TurnedText.{shown_as_printed}
use Rattle.mpm_machine.specs.After.{after}
use Rattle.mpm_machine.specs.Files.{FilesInService, Between, Within, filing_in, drives_in, StandsServed, StandsForFiles}
use Rattle.mpm_machine.specs.Mounting.{untouched}
use Rattle.mpm_spool.specs.Printed.{printed_in, has_file}
use Rattle.mpm_machine.specs.PrintedText.{seen_on, HasPrintedOf}
use Rattle.mpm_machine.specs.Printing.{HasText, key_of_spool_item, seen_in, at_beginning, IsPrinting}
use Rattle.mpm_machine.specs.State.{State, IsAt}
use Rattle.mpm_machine.specs.declared.machine.Machine.{Machine}

-- from the beginning on

opened_disk : (file : MachineFile) (events : List Timed) → IsMachine file → All IsTimed events → (opened file events).kernel.disk ≡ no_service file.disk_turn
unfolding opened with_residents booted
opened_disk file events is script = (residents_begun file events is script).disk

pub prints_from_start : (file : MachineFile) (events : List Timed) (drives : List (Option Drive)) (n : ℕ) → IsMachine file → All IsTimed events → file.spool ≡ true
    → IsPrinting (file.consoles + 1) (after n (at_beginning (untouched drives) (opened file events)))
prints_from_start file events drives n is script asked =
    let bare = booted_is_bare file events is.some_console is.consoles is.printers (omega (arith, is.segments)) script (memory_new file.segments is.some_segment is.segments is.each_segment) in
    let whole = opened_whole file events is script in
    let has = has_residents file events (booted file events) (opened file events) refl bare.whole refl in
    printing_after (file.consoles + 1) n (at_beginning (untouched drives) (opened file events)) whole
    (prints_at_first file.consoles file.spool file.sched (opened file events) file.disk_turn has whole (opened_handed file events is script) (opened_disk file events is script) asked
    (untouched drives) (locks_at_first drives) (none_at_first (file.consoles + 1)))

-- where images stand for the drives, between two calls or within one, a file has a text

sound_by : (number : ℕ) (image : List ℕ) (directory : Option Directory) (drive : Option Drive) → StandsWhere number image directory drive → IsSoundDrive (unwrap_or drive blank_drive)
sound_by number image directory None stands = record {
  each = λ file number extent is. absurd (none-some extent (sym (get-empty entry_cmp (record { user = file.user; name = file.name; number = number })) ∙ is));
}
sound_by number image None (Some drive) stands = absurd stands
sound_by number image (Some d) (Some drive) stands = record {
  each = λ file number extent is. subst (λ kind. IsOfImage kind (record { user = file.user; name = file.name; number = number }) extent) (sym (kind_of image d drive stands.stands))
      (extent_of_image image d drive (record { user = file.user; name = file.name; number = number }) extent stands.stands is);
}

-- within a call: its own drive is so, and each other one still is the image's
other_drive : (s : Situation) (turns number : ℕ) → number ≢ drive_number s → slice_index_or (drives_after s turns) number None ≡ slice_index_or s.filing.drives number None
other_drive s turns number other = by_job (job_of s) refl
  where
    by_job : (job : Option Job) → job_of s ≡ job → slice_index_or (drives_after s turns) number None ≡ slice_index_or s.filing.drives number None
    by_job None is = ap (λ (drives : List (Option Drive)). slice_index_or drives number None) (idle_drives s turns is)
    by_job (Some job) is =
        let now = Some (units_done (drive_at s) job turns) in
        ap (λ (drives : List (Option Drive)). slice_index_or drives number None) (job_drives s job turns is)
        ∙ get_or-set_other s.filing.drives (drive_number s) number now None other

sound_within : (images : ℕ → List ℕ) (kept : Kept) (s : Situation) (turns number : ℕ) → Serves images kept s turns → IsSoundDrive (drive_or_blank s.filing number)
unfolding drive_at
sound_within images kept s turns number serves = elim (cases_eq number (drive_number s)) [
  | inl same ↦ subst (λ (n : ℕ). IsSoundDrive (drive_or_blank s.filing n)) (sym same) serves.sound
  | inr other ↦
      sound_by number (images number) (directory_at kept.mounted number) (slice_index_or s.filing.drives number None)
      (subst (StandsWhere number (images number) (directory_at kept.mounted number)) (other_drive s turns number other) (serves.stand.each number))
]

standing_sound : (served : Option Served) (kept : Kept) (disks : Disks) (files : FilesInService) (number : ℕ) → StandsServed served kept disks files
    → IsSoundDrive (drive_or_blank (filing_in files) number)
standing_sound None kept disks (Between filing) number stands =
    sound_by number (images_of disks number) (directory_at kept.mounted number) (slice_index_or filing.drives number None) (stands.stand.each number)
standing_sound None kept disks (Within s) number stands = absurd stands
standing_sound (Some call) kept disks (Between filing) number stands = absurd stands
standing_sound (Some call) kept disks (Within s) number stands = sound_within (images_of disks) kept s stands.turns number stands.serves

-- it has at most 32 MiB
pub standing_text : (disk : DiskService) (kept : Kept) (disks : Disks) (files : FilesInService) (number : ℕ) (file : FileName) → StandsForFiles disk kept disks files
    → (text : List ℕ) × HasText (visible_of (drive_or_blank (filing_in files) number) file) text × (length text ≤ 2 ^ 25)
standing_text disk kept disks files number file stands =
    file_has_text (drive_or_blank (filing_in files) number) file (standing_sound disk.served kept disks files number stands.stands)

-- and what the spooler has printed is of its file's, in each state that a machine and its drives are at
pub prints_standing_text : (q : ℕ) (s : State) (p : IsPrinting q s) (machine : Machine) (disks : Disks) → IsAt machine disks s
    → has_file (after_answers p.spooling.answers).row ≡ true → (text : List ℕ) × HasPrintedOf p.spooling.answers s text
prints_standing_text q s p machine disks at has =
    let answers = p.spooling.answers in
    let key = key_of_spool_item (after_answers answers).item in
    let found = standing_text machine.system.kernel.disk machine.bdos disks s.files key.drive (file_of key) at.files in
    let text = found.0 in
    let begins = p.prints.begins has text found.1 in
    let few : length text < 2 ^ 64 = omega (arith, found.2) in
    let few_printed : length (printed_in answers) < 2 ^ 64 = omega (arith, printed_size answers text begins, found.2) in (
      text,
      record {
        has = found.1;
        shown = same_text (seen_in (filing_in s.files) key) (seen_on (drives_in s.system.kernel.disk.served s.files) key) text (λ n. shown_as_printed q s p n has) found.1;
        short = found.2;
        begins = begins;
        count = p.prints.count has text found.1 few;
        whole = λ closing all. p.prints.whole closing all text found.1;
        last = λ has_it. file_last q s p text found.1 has_it few_printed;
      },
    )
