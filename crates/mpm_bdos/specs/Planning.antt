-- A call with what was looked up of it, of which its job is made: the same as the rules in Jobs.antt, which look it up themselves.
use Rattle.std.specs.Prelude.{◌≡◌, ℕ, ◌*◌, ◌&&◌, not, Bool, true, List, take, Option, option_map, unwrap_or, if◌then◌else◌}
use Rattle.std.specs.FinMap.{get}
use Rattle.mpm_dirent.specs.Names.{plain}
use Rattle.mpm_base.specs.Calls.{Taken, byte_in, eight_at}
use Rattle.mpm_mount.specs.Drives.{Drive}
use Rattle.mpm_mount.specs.Directories.{Directory, Stands}
use Rattle.mpm_guard.specs.Passwords.{has_bit}
use Rattle.mpm_jobs.specs.declared.jobs.Job.{Job}
use Rattle.mpm_jobs.specs.declared.jobs.JobKind.TheVariants as kinds
use Rattle.mpm_bdos.specs.declared.planning.About.{About}
use Rattle.mpm_fcb.specs.declared.block.ControlBlock.{ControlBlock}
use Rattle.mpm_fcb.specs.Names.{has_f6}
use Rattle.mpm_refusals.specs.Filing.{LastSearch, Situation}
use Rattle.mpm_mount.specs.Looking.{data_byte}
use Rattle.mpm_refusals.specs.Subjects.{drive_at, subject_key, first_record, has_written}
use Rattle.mpm_refusals.specs.Refusals.{makes_xfcb}
use Rattle.mpm_file_entries.specs.Protections.{given_xfcb, label_put, no_protection, with_first_stamp, with_protection, xfcb_put}
use Rattle.mpm_bdos.specs.Jobs.{job_by}
use Rattle.mpm_jobs.specs.Jobs.{job_for, stamp_where, with_records, with_stamp, with_bytes, testing_bytes, where_some, with_new_name, with_one}
use Rattle.mpm_file_entries.specs.Granting.{is_moving}

-- the job that writes so many records, or tests and writes them, on a drive
abbrev pub stamp_on : Drive → List ℕ → About → Option (List ℕ)
stamp_on drive moment about = stamp_where (has_bit 0x20 (data_byte drive) && not about.has_written) moment

abbrev pub written : Drive → ℕ → List ℕ → List ℕ → List ℕ → About → Option Job
written drive count name bytes moment about =
    where_some count
    (with_bytes (take (128 * count) bytes)
    (with_stamp (stamp_on drive moment about) (with_records about.first count (job_for kinds.Write about.file.user name))))

abbrev pub tested : Drive → ℕ → ℕ → List ℕ → List ℕ → List ℕ → About → Option Job
tested drive count records name bytes moment about =
    where_some count
    (with_bytes (testing_bytes bytes records count)
    (with_stamp (stamp_on drive moment about) (with_records about.first count (job_for kinds.TestWrite about.file.user name))))

-- the job that opens a file on a drive: its first stamp, where the label asks for it
abbrev pub opened : Drive → ℕ → List ℕ → List ℕ → Job
opened drive user name moment = with_stamp (stamp_where (has_bit 0x40 (data_byte drive)) moment) (job_for kinds.Nothing user name)

-- those that put the label, and the XFCB of a file
abbrev pub labelled : Drive → ℕ → ControlBlock → Taken → Job
labelled drive user block call =
    with_protection (label_put block.ex (eight_at call 8) (unwrap_or (option_map (λ label. label.protection) drive.label) no_protection))
    (with_new_name block.name (job_for kinds.Label user block.name))

abbrev pub guarded : Drive → ℕ → ControlBlock → Taken → Job
guarded drive user block call =
    with_protection (xfcb_put block.ex (eight_at call 8) (unwrap_or (get drive.xfcbs (record { user = user; name = plain block.name })) no_protection))
    (job_for kinds.Xfcb user block.name)

-- the job that makes a file on a drive, with an XFCB where one is made
abbrev pub made : Drive → ℕ → ControlBlock → Taken → List ℕ → Job
made drive user block call moment =
    if makes_xfcb (data_byte drive) block
    then with_one (with_protection (with_first_stamp (has_bit 0x10 (data_byte drive)) moment (given_xfcb (has_f6 block) (byte_in call 8) (eight_at call 0))) (job_for kinds.Make user block.name))
    else (job_for kinds.Make user block.name)

-- its file, the first of its records, where it has any, and whether a record was written by way of its open file; and its drive is
-- the one for which an image and a directory stand
pub record IsAbout (image : List ℕ) (d : Directory) (about : About) (s : Situation) : Type 0 where
  pub stands : Stands image d (drive_at s)
  pub file : about.file ≡ subject_key s
  pub first : is_moving s.function ≡ true → about.first ≡ first_record s
  pub has_written : about.has_written ≡ has_written s

-- that is the job of each call of which this was looked up, whatever else is kept
abbrev pub IsJobOf : Directory → About → (List (Option Drive) → List Bool → List ℕ → List (Option LastSearch) → Situation) → Option Job → Type 0
IsJobOf d about call job =
    (image : List ℕ) (drives : List (Option Drive)) (protected : List Bool) (marks : List ℕ) (searches : List (Option LastSearch))
    → IsAbout image d about (call drives protected marks searches) → job ≡ job_by (call drives protected marks searches) (call drives protected marks searches).function
