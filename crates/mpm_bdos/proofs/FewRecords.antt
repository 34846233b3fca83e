-- That a job has few records: one that is known by the drive that a directory stands for, one that moves none, and one that writes.
use Rattle.std.proofs.Common.{◌≡◌, ℕ, ◌==◌, Bool, List, Option, Some, None, IfSome, refl, sym, subst, arith}
use Rattle.std.specs.Prelude.{if◌then◌else◌}
use Rattle.mpm_base.proofs.Choices.{either}
use Rattle.mpm_blocks.specs.Sectors.{sectors_of}
use Rattle.mpm_mount.specs.Drives.{Protection, Drive}
use Rattle.mpm_mount.specs.Directories.{Directory, Stands, IsDirectory}
use Rattle.mpm_mount.specs.Images.{drive_of}
use Rattle.mpm_mount.specs.Standing.{OnItsDrive}
use Rattle.mpm_mount.proofs.ImageWith.{each_back, image_with, has_entries}
use Rattle.mpm_jobs.specs.declared.jobs.JobKind.TheVariants as kinds
use Rattle.mpm_jobs.specs.declared.jobs.Job.{Job}
use Rattle.mpm_jobs.specs.Jobs.{job_for, where_some, with_one}
use Rattle.mpm_file_entries.specs.Protections.{with_protection}
use Rattle.mpm_files.specs.Finding.{HasFewRecords}

-- each directory stands with some image: that which has its entries
record StandsSomewhere (d : Directory) : Type 0 where
  pub image : List ℕ
  pub drive : Drive
  pub stands : Stands image d drive

stands_somewhere : (d : Directory) → IsDirectory d.kind d.entries → StandsSomewhere d
stands_somewhere d is =
    let image : List ℕ = image_with d.kind d.entries in
    let has = has_entries d.kind d.entries is.full (each_back d.kind d.entries is.full is.proper is.whole) in
    record {
      image = image;
      drive = drive_of (sectors_of image d.kind) d.kind d.entries;
      stands = record { size = has.size; entries = has.entries_are; faultless = is.faultless; drive = refl };
    }

-- so what is known of a job on its drive is so
pub few_on_its_drive : (d : Directory) (made : Drive → Job) (job : Job) → IsDirectory d.kind d.entries → OnItsDrive d (λ drive. job ≡ made drive) → ((drive : Drive) → HasFewRecords (made drive))
    → HasFewRecords job
few_on_its_drive d made job is on few =
    let there = stands_somewhere d is in
    subst HasFewRecords (sym (on there.image there.drive there.stands)) (few there.drive)

-- a job that moves no records
pub without_records : (job : Job) → job.first ≡ 0 → job.count ≡ 0 → HasFewRecords job
without_records job first count = record { first = omega (arith, first); count = omega (arith, count) }

-- a making, which has one where it makes an XFCB
pub few_made : (makes : Bool) (xfcb : Protection) (user : ℕ) (name : List ℕ) (job : Job)
    → job ≡ (if makes then with_one (with_protection xfcb (job_for kinds.Make user name)) else (job_for kinds.Make user name)) → HasFewRecords job
few_made makes xfcb user name job is =
    subst HasFewRecords (sym is)
    (either HasFewRecords makes (with_one (with_protection xfcb (job_for kinds.Make user name))) (job_for kinds.Make user name)
    (λ one. record { first = omega arith; count = omega arith }) (λ none. without_records (job_for kinds.Make user name) refl refl))

-- a job that there is where it has a record
pub few_where_some : (count : ℕ) (made : Job) (job : Option Job) → job ≡ where_some count made → HasFewRecords made → IfSome job HasFewRecords
few_where_some count made job is few =
    subst (λ (one : Option Job). IfSome one HasFewRecords) (sym is)
    (either (λ (one : Option Job). IfSome one HasFewRecords) (count == 0) None (Some made) (λ none. tt) (λ some. few))
