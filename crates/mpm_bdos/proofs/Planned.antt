-- Jobs as they are made of what was looked up are those of the call.
use Rattle.std.proofs.Common.{◌≡◌, ◌≢◌, ◌∙◌, ℕ, ◌*◌, ◌&&◌, not, Bool, true, cond, List, Option, Some, None, take, sym, refl, ap}
use Rattle.std.specs.Prelude.{unwrap_or}
use Rattle.std.specs.FinMap.{get}
use Rattle.mpm_base.specs.Calls.{eight_at}
use Rattle.mpm_dirent.specs.Names.{plain}
use Rattle.mpm_mount.specs.Drives.{FileName, Protection, Drive}
use Rattle.mpm_mount.specs.Directories.{Directory}
use Rattle.mpm_guard.specs.Passwords.{has_bit}
use Rattle.mpm_opens.specs.declared.kinds.FileKey.{FileKey}
use Rattle.mpm_fcb.specs.declared.block.ControlBlock.{ControlBlock}
use Rattle.mpm_fcb.specs.Names.{new_name_of}
use Rattle.mpm_jobs.specs.declared.jobs.JobKind.TheVariants as kinds
use Rattle.mpm_jobs.specs.declared.jobs.Job.{Job}
use Rattle.mpm_file_functions.specs.declared.functions.FileFunction.{FileFunction}
use Rattle.mpm_file_functions.specs.declared.functions.FileFunction.TheVariants.{ResetDisks, OpenFile, CloseFile, SearchFirst, SearchNext, DeleteFile, ReadSequential, WriteSequential, MakeFile, RenameFile, ProtectDisk, SetAttributes, ReadRandom, WriteRandom, FileSize, ResetDrives, AccessDrives, FreeDrives, TestAndWrite, LockRecord, UnlockRecord, FreeSpace, FlushBuffers, SetLabel, LabelData, ReadXfcb, WriteXfcb}
use Rattle.mpm_bdos.specs.declared.planning.About.{About}
use Rattle.mpm_refusals.specs.Filing.{Situation, block}
use Rattle.mpm_mount.specs.Looking.{data_byte}
use Rattle.mpm_refusals.specs.Subjects.{drive_at, subject, subject_key, first_record, has_written}
use Rattle.mpm_locks.specs.Locks.{is_locked_off, count_until}
use Rattle.mpm_jobs.specs.Jobs.{job_for, stamp_where, with_records, with_stamp, with_bytes, with_one, with_new_name, testing_bytes, where_some}
use Rattle.mpm_file_entries.specs.Protections.{with_protection, no_protection, kept_by_label, label_put, xfcb_put}
use Rattle.mpm_bdos.specs.Jobs.{is_tested_off, is_cut_at, free_count, reading_job, writing_job, testing_job, labelling_job, guarding_job, job_by}
use Rattle.mpm_file_entries.specs.Granting.{is_moving}
use Rattle.mpm_bdos.specs.Planning.{IsAbout, stamp_on, written, tested, made}
use Rattle.mpm_bdos.proofs.NamedFiles.{subject_name}

pub making_so : (makes asks : Bool) (xfcb wanted : Protection) (job : Job) → makes ≡ asks → xfcb ≡ wanted
    → cond makes (with_one (with_protection xfcb job)) job ≡ cond asks (with_one (with_protection wanted job)) job
making_so makes asks xfcb wanted job e f = λ i. cond (e i) (with_one (with_protection (f i) job)) job

pub written_so : (drive : Drive) (count counted : ℕ) (stamp : Option (List ℕ)) (name bytes moment : List ℕ) (about : About) → count ≡ counted → stamp ≡ stamp_on drive moment about
    → where_some count (with_bytes (take (128 * count) bytes) (with_stamp stamp (with_records about.first count (job_for kinds.Write about.file.user name))))
    ≡ written drive counted name bytes moment about
written_so drive count counted stamp name bytes moment about e f =
    λ i. where_some (e i) (with_bytes (take (128 * (e i)) bytes) (with_stamp (f i) (with_records about.first (e i) (job_for kinds.Write about.file.user name))))

pub tested_so : (drive : Drive) (count counted records : ℕ) (stamp : Option (List ℕ)) (name bytes moment : List ℕ) (about : About) → count ≡ counted → stamp ≡ stamp_on drive moment about
    → where_some count (with_bytes (testing_bytes bytes records count) (with_stamp stamp (with_records about.first count (job_for kinds.TestWrite about.file.user name))))
    ≡ tested drive counted records name bytes moment about
tested_so drive count counted records stamp name bytes moment about e f =
    λ i. where_some (e i) (with_bytes (testing_bytes bytes records (e i)) (with_stamp (f i) (with_records about.first (e i) (job_for kinds.TestWrite about.file.user name))))

-- what was looked up of a call
pub record IsFound (s : Situation) (about : About) (b : ControlBlock) : Type 0 where
  pub file : about.file ≡ subject_key s
  pub first : is_moving s.function ≡ true → about.first ≡ first_record s
  pub has_written : about.has_written ≡ has_written s
  pub block : b ≡ block s

pub is_found : (image : List ℕ) (d : Directory) (about : About) (s : Situation) (b : ControlBlock) → IsAbout image d about s → b ≡ block s → IsFound s about b
is_found image d about s b is same = record { file = is.file; first = is.first; has_written = is.has_written; block = same }

user_is : (s : Situation) (about : About) (b : ControlBlock) → IsFound s about b → about.file.user ≡ (subject s).user
user_is s about b found = ap (λ (key : FileKey). key.user) found.file

name_is : (s : Situation) (about : About) (b : ControlBlock) → IsFound s about b → b.name ≡ (block s).name
name_is s about b found = ap (λ (c : ControlBlock). c.name) found.block

-- by the function
pub opening_is : (s : Situation) (about : About) (b : ControlBlock) → IsFound s about b
    → Some (with_stamp (stamp_where (has_bit 0x40 (data_byte (drive_at s))) s.moment) (job_for kinds.Nothing about.file.user b.name)) ≡ job_by s OpenFile
unfolding job_by
opening_is s about b found =
    let user = user_is s about b found in
    let name = name_is s about b found in
    λ i. Some (with_stamp (stamp_where (has_bit 0x40 (data_byte (drive_at s))) s.moment) (job_for kinds.Nothing (user i) (name i)))

pub deleting_is : (s : Situation) (about : About) (b : ControlBlock) → IsFound s about b → Some (job_for kinds.Delete about.file.user b.name) ≡ job_by s DeleteFile
unfolding job_by
deleting_is s about b found =
    let user = user_is s about b found in
    let name = name_is s about b found in
    λ i. Some (job_for kinds.Delete (user i) (name i))

pub setting_is : (s : Situation) (about : About) (b : ControlBlock) → IsFound s about b → Some (job_for kinds.Attributes about.file.user b.name) ≡ job_by s SetAttributes
unfolding job_by
setting_is s about b found =
    let user = user_is s about b found in
    let name = name_is s about b found in
    λ i. Some (job_for kinds.Attributes (user i) (name i))

reading_is : (s : Situation) (about : About) (b : ControlBlock) → IsFound s about b → is_moving s.function ≡ true
    → with_records about.first s.caller.multi (job_for kinds.Read about.file.user b.name) ≡ reading_job s
reading_is s about b found has =
    let user = user_is s about b found in
    let name = name_is s about b found in
    let first = found.first has in
    λ i. with_records (first i) s.caller.multi (job_for kinds.Read (user i) (name i))

pub sequential_reading_is : (s : Situation) (about : About) (b : ControlBlock) → IsFound s about b → s.function ≡ ReadSequential
    → Some (with_records about.first s.caller.multi (job_for kinds.Read about.file.user b.name)) ≡ job_by s ReadSequential
unfolding job_by
sequential_reading_is s about b found is = ap Some (reading_is s about b found (ap is_moving is))

pub random_reading_is : (s : Situation) (about : About) (b : ControlBlock) → IsFound s about b → s.function ≡ ReadRandom
    → Some (with_records about.first s.caller.multi (job_for kinds.Read about.file.user b.name)) ≡ job_by s ReadRandom
unfolding job_by
random_reading_is s about b found is = ap Some (reading_is s about b found (ap is_moving is))

pub renaming_is : (s : Situation) (about : About) (b : ControlBlock) → IsFound s about b
    → Some (with_new_name (new_name_of b) (job_for kinds.Rename about.file.user b.name)) ≡ job_by s RenameFile
unfolding job_by
renaming_is s about b found =
    let user = user_is s about b found in
    let same = found.block in
    λ i. Some (with_new_name (new_name_of (same i)) (job_for kinds.Rename (user i) ((same i).name)))

labelling_of : (s : Situation) (about : About) (b : ControlBlock) → IsFound s about b
    → with_protection (label_put b.ex (eight_at s.call 8) (kept_by_label (drive_at s).label)) (with_new_name b.name (job_for kinds.Label about.file.user b.name)) ≡ labelling_job s
labelling_of s about b found =
    let user = user_is s about b found in
    let same = found.block in
    λ i. with_protection (label_put ((same i).ex) (eight_at s.call 8) (kept_by_label (drive_at s).label)) (with_new_name ((same i).name) (job_for kinds.Label (user i) ((same i).name)))

pub labelling_is : (s : Situation) (about : About) (b : ControlBlock) → IsFound s about b
    → Some (with_protection (label_put b.ex (eight_at s.call 8) (kept_by_label (drive_at s).label)) (with_new_name b.name (job_for kinds.Label about.file.user b.name))) ≡ job_by s SetLabel
unfolding job_by
labelling_is s about b found = ap Some (labelling_of s about b found)

guarded_is : (s : Situation) (about : About) (b : ControlBlock) → IsFound s about b → ◌≡◌ {A = FileName} (record { user = about.file.user; name = plain b.name }) (subject s)
guarded_is s about b found =
    let user = user_is s about b found in
    let name : plain b.name ≡ (subject s).name = ap plain (name_is s about b found) ∙ sym (subject_name s) in
    λ i. record { user = user i; name = name i }

guarding_of : (s : Situation) (about : About) (b : ControlBlock) → IsFound s about b
    → with_protection (xfcb_put b.ex (eight_at s.call 8) (unwrap_or (get (drive_at s).xfcbs (record { user = about.file.user; name = plain b.name })) no_protection)) (job_for kinds.Xfcb about.file.user b.name)
    ≡ guarding_job s
guarding_of s about b found =
    let user = user_is s about b found in
    let same = found.block in
    let file = guarded_is s about b found in
    λ i. with_protection (xfcb_put ((same i).ex) (eight_at s.call 8) (unwrap_or (get (drive_at s).xfcbs (file i)) no_protection)) (job_for kinds.Xfcb (user i) ((same i).name))

pub guarding_is : (s : Situation) (about : About) (b : ControlBlock) → IsFound s about b
    → Some (with_protection (xfcb_put b.ex (eight_at s.call 8) (unwrap_or (get (drive_at s).xfcbs (record { user = about.file.user; name = plain b.name })) no_protection)) (job_for kinds.Xfcb about.file.user b.name))
    ≡ job_by s WriteXfcb
unfolding job_by
guarding_is s about b found = ap Some (guarding_of s about b found)

making_of : (s : Situation) (about : About) (b : ControlBlock) → IsFound s about b → made (drive_at s) about.file.user b s.call s.moment ≡ made (drive_at s) (subject s).user (block s) s.call s.moment
making_of s about b found =
    let user = user_is s about b found in
    let same = found.block in
    λ i. made (drive_at s) (user i) (same i) s.call s.moment

pub making_is : (s : Situation) (about : About) (b : ControlBlock) → IsFound s about b → Some (made (drive_at s) about.file.user b s.call s.moment) ≡ job_by s MakeFile
unfolding job_by
making_is s about b found = ap Some (making_of s about b found)

-- records that are written, and tested
written_of : (s : Situation) (about : About) (b : ControlBlock) → IsFound s about b → is_moving s.function ≡ true
    → free_count s ≡ count_until (is_locked_off s.filing.opens s.caller.process (subject_key s)) (first_record s) s.caller.multi
    → written (drive_at s) (count_until (is_locked_off s.filing.opens s.caller.process about.file) about.first s.caller.multi) b.name s.call.bytes s.moment about
    ≡ where_some (free_count s) (writing_job s (free_count s))
written_of s about b found has free =
    let user = user_is s about b found in
    let name = name_is s about b found in
    let file = found.file in
    let first = found.first has in
    let by = found.has_written in
    let counted : count_until (is_locked_off s.filing.opens s.caller.process about.file) about.first s.caller.multi ≡ free_count s =
    (λ i. count_until (is_locked_off s.filing.opens s.caller.process (file i)) (first i) s.caller.multi) ∙ sym free in
    λ i. where_some (counted i) (with_bytes (take (128 * (counted i)) s.call.bytes)
    (with_stamp (stamp_where (has_bit 0x20 (data_byte (drive_at s)) && not (by i)) s.moment) (with_records (first i) (counted i) (job_for kinds.Write (user i) (name i)))))

pub sequential_writing_is : (s : Situation) (about : About) (b : ControlBlock) → IsFound s about b → s.function ≡ WriteSequential
    → written (drive_at s) (count_until (is_locked_off s.filing.opens s.caller.process about.file) about.first s.caller.multi) b.name s.call.bytes s.moment about ≡ job_by s WriteSequential
unfolding job_by free_count
sequential_writing_is s about b found is = written_of s about b found (ap is_moving is) (ap (λ f. count_until (is_cut_at s f) (first_record s) s.caller.multi) is)

pub random_writing_is : (s : Situation) (about : About) (b : ControlBlock) → IsFound s about b → s.function ≡ WriteRandom
    → written (drive_at s) (count_until (is_locked_off s.filing.opens s.caller.process about.file) about.first s.caller.multi) b.name s.call.bytes s.moment about ≡ job_by s WriteRandom
unfolding job_by free_count
random_writing_is s about b found is = written_of s about b found (ap is_moving is) (ap (λ f. count_until (is_cut_at s f) (first_record s) s.caller.multi) is)

tested_of : (s : Situation) (about : About) (b : ControlBlock) → IsFound s about b → is_moving s.function ≡ true
    → free_count s ≡ count_until (is_tested_off (drive_at s) s.filing.opens s.caller.process (subject_key s)) (first_record s) s.caller.multi
    → tested (drive_at s) (count_until (is_tested_off (drive_at s) s.filing.opens s.caller.process about.file) about.first s.caller.multi) s.caller.multi b.name s.call.bytes s.moment about
    ≡ where_some (free_count s) (testing_job s (free_count s))
tested_of s about b found has free =
    let user = user_is s about b found in
    let name = name_is s about b found in
    let file = found.file in
    let first = found.first has in
    let by = found.has_written in
    let counted : count_until (is_tested_off (drive_at s) s.filing.opens s.caller.process about.file) about.first s.caller.multi ≡ free_count s =
    (λ i. count_until (is_tested_off (drive_at s) s.filing.opens s.caller.process (file i)) (first i) s.caller.multi) ∙ sym free in
    λ i. where_some (counted i) (with_bytes (testing_bytes s.call.bytes s.caller.multi (counted i))
    (with_stamp (stamp_where (has_bit 0x20 (data_byte (drive_at s)) && not (by i)) s.moment) (with_records (first i) (counted i) (job_for kinds.TestWrite (user i) (name i)))))

pub testing_is : (s : Situation) (about : About) (b : ControlBlock) → IsFound s about b → s.function ≡ TestAndWrite
    → tested (drive_at s) (count_until (is_tested_off (drive_at s) s.filing.opens s.caller.process about.file) about.first s.caller.multi) s.caller.multi b.name s.call.bytes s.moment about
    ≡ job_by s TestAndWrite
unfolding job_by free_count
testing_is s about b found is = tested_of s about b found (ap is_moving is) (ap (λ f. count_until (is_cut_at s f) (first_record s) s.caller.multi) is)

-- the others have none
pub record HasNone (function : FileFunction) : Type 0 where
  pub opens : function ≢ OpenFile
  pub deletes : function ≢ DeleteFile
  pub reads : function ≢ ReadSequential
  pub writes : function ≢ WriteSequential
  pub makes : function ≢ MakeFile
  pub renames : function ≢ RenameFile
  pub sets : function ≢ SetAttributes
  pub reads_random : function ≢ ReadRandom
  pub writes_random : function ≢ WriteRandom
  pub tests : function ≢ TestAndWrite
  pub labels : function ≢ SetLabel
  pub guards : function ≢ WriteXfcb

pub no_job : (s : Situation) (function : FileFunction) → HasNone function → None ≡ job_by s function
unfolding job_by
no_job s OpenFile none = absurd (none.opens refl)
no_job s DeleteFile none = absurd (none.deletes refl)
no_job s ReadSequential none = absurd (none.reads refl)
no_job s WriteSequential none = absurd (none.writes refl)
no_job s MakeFile none = absurd (none.makes refl)
no_job s RenameFile none = absurd (none.renames refl)
no_job s SetAttributes none = absurd (none.sets refl)
no_job s ReadRandom none = absurd (none.reads_random refl)
no_job s WriteRandom none = absurd (none.writes_random refl)
no_job s TestAndWrite none = absurd (none.tests refl)
no_job s SetLabel none = absurd (none.labels refl)
no_job s WriteXfcb none = absurd (none.guards refl)
no_job s ResetDisks none = refl
no_job s CloseFile none = refl
no_job s SearchFirst none = refl
no_job s SearchNext none = refl
no_job s ProtectDisk none = refl
no_job s FileSize none = refl
no_job s ResetDrives none = refl
no_job s AccessDrives none = refl
no_job s FreeDrives none = refl
no_job s LockRecord none = refl
no_job s UnlockRecord none = refl
no_job s FreeSpace none = refl
no_job s FlushBuffers none = refl
no_job s LabelData none = refl
no_job s ReadXfcb none = refl
