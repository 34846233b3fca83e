-- Calls on drives, which name none: nothing is done on a drive, and no file is found.
use Rattle.std.proofs.Common.{◌≡◌, ◌∙◌, ℕ, Bool, true, false, List, [], Option, Some, None, sym, refl, ap}
use Rattle.std.specs.Prelude.{replicate}
use Rattle.std.proofs.lemmas.Bool.{true≢false, false≢true}
use Rattle.mpm_mount.specs.Drives.{FileName, Drive}
use Rattle.mpm_fcb.specs.declared.block.ControlBlock.{ControlBlock}
use Rattle.mpm_file_functions.specs.declared.functions.FileFunction.{FileFunction}
use Rattle.mpm_file_functions.specs.declared.functions.FileFunction.TheVariants.{ResetDisks, OpenFile, CloseFile, SearchFirst, SearchNext, DeleteFile, ReadSequential, WriteSequential, MakeFile, RenameFile, ProtectDisk, SetAttributes, ReadRandom, WriteRandom, FileSize, ResetDrives, AccessDrives, FreeDrives, TestAndWrite, LockRecord, UnlockRecord, FreeSpace, FlushBuffers, SetLabel, LabelData, ReadXfcb, WriteXfcb}
use Rattle.mpm_file_entries.specs.declared.granting.Granted.{Granted}
use Rattle.mpm_file_functions.specs.declared.refusals.Refusal.{Refusal}
use Rattle.mpm_refusals.specs.Filing.{LastSearch, Situation, block}
use Rattle.mpm_refusals.specs.Subjects.{last_search, drive_by, drive_named, drive_number, mounted, found_by}
use Rattle.mpm_marks.specs.Busy.{names, are_busy}
use Rattle.mpm_refusals.specs.Refusals.{refusal_of}
use Rattle.mpm_bdos.specs.Jobs.{Turned, job_by, turned}
use Rattle.mpm_bdos.specs.Changes.{deleted_by, opens_by}
use Rattle.mpm_marks.specs.Driving.{marks_by, protected_by, freed_by}
use Rattle.mpm_file_entries.specs.Granting.{value_by, block_by}
use Rattle.mpm_bdos.specs.Replies.{bytes_by}
use Rattle.mpm_refusals.specs.Asking.{unnamed_refusal, unmounted_refusal}
use Rattle.mpm_bdos.specs.Replying.{is_on_drives}
use Rattle.mpm_refusals.proofs.UnmountedLaws.{unmounted_so}

-- what one comes to
pub record StaysOn (s : Situation) (t : Turned) (f : FileFunction) : Type 0 where
  pub job : job_by s f ≡ None
  pub value : (drive : Drive) (g : Granted) → value_by drive g f ≡ 0
  pub block : (drive : Drive) (g : Granted) → block_by drive g f ≡ g.block
  pub bytes : (drive : Drive) (records : List (List ℕ)) (entry : Option (FileName × ℕ)) → bytes_by drive records entry f ≡ []
  pub found : (drive : Drive) (user : ℕ) (b : ControlBlock) (search : Option LastSearch) → found_by drive user b search f ≡ None
  pub opens : opens_by s t f ≡ freed_by s.filing.opens s.caller.process s.call.word f
  pub deleted : deleted_by s f ≡ replicate 64 None

pub stays_on : (s : Situation) (t : Turned) (f : FileFunction) → is_on_drives f ≡ true → StaysOn s t f
unfolding job_by value_by block_by bytes_by found_by names opens_by deleted_by
stays_on s t ResetDisks on = record { job = refl; value = λ drive g. refl; block = λ drive g. refl; bytes = λ drive records entry. refl; found = λ drive user b search. refl; opens = refl; deleted = refl }
stays_on s t OpenFile on = absurd (false≢true on)
stays_on s t CloseFile on = absurd (false≢true on)
stays_on s t SearchFirst on = absurd (false≢true on)
stays_on s t SearchNext on = absurd (false≢true on)
stays_on s t DeleteFile on = absurd (false≢true on)
stays_on s t ReadSequential on = absurd (false≢true on)
stays_on s t WriteSequential on = absurd (false≢true on)
stays_on s t MakeFile on = absurd (false≢true on)
stays_on s t RenameFile on = absurd (false≢true on)
stays_on s t ProtectDisk on = record { job = refl; value = λ drive g. refl; block = λ drive g. refl; bytes = λ drive records entry. refl; found = λ drive user b search. refl; opens = refl; deleted = refl }
stays_on s t SetAttributes on = absurd (false≢true on)
stays_on s t ReadRandom on = absurd (false≢true on)
stays_on s t WriteRandom on = absurd (false≢true on)
stays_on s t FileSize on = absurd (false≢true on)
stays_on s t ResetDrives on = record { job = refl; value = λ drive g. refl; block = λ drive g. refl; bytes = λ drive records entry. refl; found = λ drive user b search. refl; opens = refl; deleted = refl }
stays_on s t AccessDrives on = record { job = refl; value = λ drive g. refl; block = λ drive g. refl; bytes = λ drive records entry. refl; found = λ drive user b search. refl; opens = refl; deleted = refl }
stays_on s t FreeDrives on = record { job = refl; value = λ drive g. refl; block = λ drive g. refl; bytes = λ drive records entry. refl; found = λ drive user b search. refl; opens = refl; deleted = refl }
stays_on s t TestAndWrite on = absurd (false≢true on)
stays_on s t LockRecord on = absurd (false≢true on)
stays_on s t UnlockRecord on = absurd (false≢true on)
stays_on s t FreeSpace on = absurd (false≢true on)
stays_on s t FlushBuffers on = record { job = refl; value = λ drive g. refl; block = λ drive g. refl; bytes = λ drive records entry. refl; found = λ drive user b search. refl; opens = refl; deleted = refl }
stays_on s t SetLabel on = absurd (false≢true on)
stays_on s t LabelData on = absurd (false≢true on)
stays_on s t ReadXfcb on = absurd (false≢true on)
stays_on s t WriteXfcb on = absurd (false≢true on)

pub none_deleted : (s : Situation) (f : FileFunction) → is_on_drives f ≡ true → deleted_by s f ≡ replicate 64 None
none_deleted s f on = (stays_on s (turned s 0) f on).deleted

-- every other keeps marks and protection
pub record KeepsDrives (f : FileFunction) : Type 0 where
  pub protected : (protected : List Bool) (mounted : Bool) (own mask : ℕ) → protected_by protected mounted own mask f ≡ protected
  pub marks : (marks : List ℕ) (p mask : ℕ) → marks_by marks p mask f ≡ marks

pub keeps_drives : (f : FileFunction) → is_on_drives f ≡ false → KeepsDrives f
unfolding marks_by
keeps_drives ResetDisks off = absurd (true≢false off)
keeps_drives OpenFile off = record { protected = λ protected mounted own mask. refl; marks = λ marks p mask. refl }
keeps_drives CloseFile off = record { protected = λ protected mounted own mask. refl; marks = λ marks p mask. refl }
keeps_drives SearchFirst off = record { protected = λ protected mounted own mask. refl; marks = λ marks p mask. refl }
keeps_drives SearchNext off = record { protected = λ protected mounted own mask. refl; marks = λ marks p mask. refl }
keeps_drives DeleteFile off = record { protected = λ protected mounted own mask. refl; marks = λ marks p mask. refl }
keeps_drives ReadSequential off = record { protected = λ protected mounted own mask. refl; marks = λ marks p mask. refl }
keeps_drives WriteSequential off = record { protected = λ protected mounted own mask. refl; marks = λ marks p mask. refl }
keeps_drives MakeFile off = record { protected = λ protected mounted own mask. refl; marks = λ marks p mask. refl }
keeps_drives RenameFile off = record { protected = λ protected mounted own mask. refl; marks = λ marks p mask. refl }
keeps_drives ProtectDisk off = absurd (true≢false off)
keeps_drives SetAttributes off = record { protected = λ protected mounted own mask. refl; marks = λ marks p mask. refl }
keeps_drives ReadRandom off = record { protected = λ protected mounted own mask. refl; marks = λ marks p mask. refl }
keeps_drives WriteRandom off = record { protected = λ protected mounted own mask. refl; marks = λ marks p mask. refl }
keeps_drives FileSize off = record { protected = λ protected mounted own mask. refl; marks = λ marks p mask. refl }
keeps_drives ResetDrives off = absurd (true≢false off)
keeps_drives AccessDrives off = absurd (true≢false off)
keeps_drives FreeDrives off = absurd (true≢false off)
keeps_drives TestAndWrite off = record { protected = λ protected mounted own mask. refl; marks = λ marks p mask. refl }
keeps_drives LockRecord off = record { protected = λ protected mounted own mask. refl; marks = λ marks p mask. refl }
keeps_drives UnlockRecord off = record { protected = λ protected mounted own mask. refl; marks = λ marks p mask. refl }
keeps_drives FreeSpace off = record { protected = λ protected mounted own mask. refl; marks = λ marks p mask. refl }
keeps_drives FlushBuffers off = absurd (true≢false off)
keeps_drives SetLabel off = record { protected = λ protected mounted own mask. refl; marks = λ marks p mask. refl }
keeps_drives LabelData off = record { protected = λ protected mounted own mask. refl; marks = λ marks p mask. refl }
keeps_drives ReadXfcb off = record { protected = λ protected mounted own mask. refl; marks = λ marks p mask. refl }
keeps_drives WriteXfcb off = record { protected = λ protected mounted own mask. refl; marks = λ marks p mask. refl }

-- a call that isn't refused, and whose drive isn't mounted, names none
pub no_drive : (s : Situation) (named : Option ℕ) (refusal : Option Refusal) → unmounted_refusal named refusal ≡ None → named ≡ None
no_drive s None refusal e = refl
no_drive s (Some drive) refusal e = absurd (cc)

on_drives : (s : Situation) (busy : Bool) (f : FileFunction) → drive_by (last_search s) s.caller.drive s.call.word (block s) f ≡ None → unnamed_refusal busy f ≡ None → is_on_drives f ≡ true
unfolding drive_by
on_drives s busy ResetDisks named none = refl
on_drives s busy OpenFile named none = absurd (cc)
on_drives s busy CloseFile named none = absurd (cc)
on_drives s busy SearchFirst named none = absurd (cc)
on_drives s busy SearchNext named none = absurd (cc)
on_drives s busy DeleteFile named none = absurd (cc)
on_drives s busy ReadSequential named none = absurd (cc)
on_drives s busy WriteSequential named none = absurd (cc)
on_drives s busy MakeFile named none = absurd (cc)
on_drives s busy RenameFile named none = absurd (cc)
on_drives s busy ProtectDisk named none = refl
on_drives s busy SetAttributes named none = absurd (cc)
on_drives s busy ReadRandom named none = absurd (cc)
on_drives s busy WriteRandom named none = absurd (cc)
on_drives s busy FileSize named none = absurd (cc)
on_drives s busy ResetDrives named none = refl
on_drives s busy AccessDrives named none = refl
on_drives s busy FreeDrives named none = refl
on_drives s busy TestAndWrite named none = absurd (cc)
on_drives s busy LockRecord named none = absurd (cc)
on_drives s busy UnlockRecord named none = absurd (cc)
on_drives s busy FreeSpace named none = absurd (cc)
on_drives s busy FlushBuffers named none = refl
on_drives s busy SetLabel named none = absurd (cc)
on_drives s busy LabelData named none = absurd (cc)
on_drives s busy ReadXfcb named none = absurd (cc)
on_drives s busy WriteXfcb named none = absurd (cc)

pub unmounted_on_drives : (s : Situation) → mounted s.filing (drive_number s) ≡ None → refusal_of s ≡ None → is_on_drives s.function ≡ true
unmounted_on_drives s nowhere none =
    let busy : Bool = are_busy s.filing.opens s.filing.marks s.caller.process s.function s.caller.drive s.call.word in
    let granted : unmounted_refusal (drive_named s) (unnamed_refusal busy s.function) ≡ None = sym (unmounted_so s nowhere) ∙ none in
    let named : drive_named s ≡ None = no_drive s (drive_named s) (unnamed_refusal busy s.function) granted in
    on_drives s busy s.function named (sym (ap (λ drive. unmounted_refusal drive (unnamed_refusal busy s.function)) named) ∙ granted)
