-- What comes next of a record that is written, by the directory in memory.
use Rattle.std.specs.Prelude.{ℕ, ◌+◌, ◌&&◌, not, Bool, is_some, if◌then◌else◌}
use Rattle.mpm_mount.specs.Directories.{Directory}
use Rattle.mpm_files.specs.declared.moving.Step.{Step}
use Rattle.mpm_files.specs.declared.moving.Step.TheVariants.{Entry, Block, Record}
use Rattle.mpm_files.specs.declared.work.Work.{Work}
use Rattle.mpm_files.specs.Plans.{clears_blocks, file_of_job}
use Rattle.mpm_files.specs.Counting.{lacks_entry, lacks_block}

-- what comes next of a record that is written
abbrev pub step_by : Bool → Bool → Step
step_by entry block = if entry then Entry else (if block then Block else Record)

abbrev pub record_next : Work → ℕ
record_next work = work.job.first + work.moved

abbrev pub step_of : Directory → Work → ℕ → Step
step_of d work n = step_by (lacks_entry d (file_of_job work.job) n) (clears_blocks d.kind && (lacks_block d (file_of_job work.job) n && not (is_some work.cleared)))
