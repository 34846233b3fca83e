-- What a file call in a step has come to, and what those leave who end in it.
use Rattle.std.specs.Prelude.{◌≡◌, ℕ, Bool, Option, if◌then◌else◌}
use Rattle.mpm_port.specs.Disks.{Disks}
use Rattle.mpm_base.specs.Calls.{Answer}
use Rattle.mpm_file_functions.specs.declared.refusals.Extended.{Extended}
use Rattle.mpm_refusals.specs.Filing.{Filing}
use Rattle.mpm_bdos.specs.Outcomes.{FileOutcome, left_by, without_search}
use Rattle.mpm_bdos.specs.Serving.{Kept}
use Rattle.mpm_machine.specs.Files.{StandsBetween}

-- a call has come to its outcome, but for what becomes of its caller
pub record IsOutcome (disks : Disks) (outcome : FileOutcome) (kept : Kept) (answer : Answer) (extended : Option Extended) : Type 0 where
  pub answer_is : answer ≡ outcome.answer
  pub extended_is : extended ≡ outcome.extended
  pub files : StandsBetween kept disks outcome.filing

-- a process that is gone has left its open files and marks, and its search
abbrev pub left_if : Bool → ℕ → Filing → Filing
left_if gone p filing = if gone then without_search (left_by filing p) p else filing
