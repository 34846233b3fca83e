-- What a file call comes to. (MP/M II Programmer's Guide, "BDOS Function Calls", "BDOS Error Handling".)
use Rattle.std.specs.Prelude.{ℕ, List, Option, Some, None, slice_set}
use Rattle.mpm_base.specs.Calls.{Answer, answering}
use Rattle.mpm_opens.specs.Kinds.{is_any}
use Rattle.mpm_opens.specs.Opens.{given_back}
use Rattle.mpm_file_functions.specs.declared.functions.FileFunction.{FileFunction}
use Rattle.mpm_file_functions.specs.declared.functions.FileFunction.TheVariants.{ResetDisks}
use Rattle.mpm_file_functions.specs.declared.refusals.Refusal.{Refusal}
use Rattle.mpm_file_functions.specs.declared.refusals.Extended.{Extended}
use Rattle.mpm_file_functions.specs.Refusals.{answered, refused_value, refused_extended}
use Rattle.mpm_mount.specs.Drives.{Drive}
use Rattle.mpm_marks.specs.Marks.{left_marks}
use Rattle.mpm_refusals.specs.Filing.{Filing, Situation}
use Rattle.mpm_refusals.specs.Subjects.{drive_number}
use Rattle.mpm_refusals.specs.Refusals.{refusal_of}
use Rattle.mpm_bdos.specs.Jobs.{Turned, job_of, call_turns, turned}
use Rattle.mpm_bdos.specs.Changes.{drives_by, filing_after}
use Rattle.mpm_bdos.specs.Replies.{answer_after}
use Rattle.mpm_directories.specs.Direct.{CallerChange, Stays, Resets}

-- all that a call changes, its reply, and its extended error
pub record FileOutcome : Type 0 where
  pub filing : Filing
  pub caller : CallerChange
  pub answer : Answer
  pub extended : Option Extended

-- 13 resets the caller in any case
abbrev pub caller_by : FileFunction → CallerChange
caller_by ResetDisks = Resets
caller_by function = Stays

abbrev pub refused_outcome : Situation → Refusal → FileOutcome
refused_outcome s refusal = record {
  filing = s.filing;
  caller = caller_by s.function;
  answer = answering (refused_value (answered refusal));
  extended = refused_extended (drive_number s) (answered refusal);
}

abbrev pub granted_outcome : Situation → Turned → FileOutcome
granted_outcome s t = record { filing = filing_after s t; caller = caller_by s.function; answer = answer_after s t; extended = None }

-- by what was refused as it began, and else by what its turns have come to
abbrev pub outcome_by : Situation → Turned → Option Refusal → FileOutcome
outcome_by s t None = granted_outcome s t
outcome_by s t (Some refusal) = refused_outcome s refusal

unfoldable pub file_call : Situation → FileOutcome
file_call s = outcome_by s (turned s (call_turns s)) (refusal_of s)

-- the drives while it is in service, with so many turns ended
unfoldable pub drives_after : Situation → ℕ → List (Option Drive)
drives_after s turns = drives_by s (turned s turns).drive (job_of s)

-- a process that ended leaves its open files, locks and marks
unfoldable pub left_by : Filing → ℕ → Filing
left_by filing p = record filing { opens = given_back filing.opens p is_any; marks = left_marks filing.marks p }

-- and its last search
unfoldable pub without_search : Filing → ℕ → Filing
without_search filing p = record filing { searches = slice_set filing.searches p None }
