-- What a call in service comes to after its turns. (MP/M II Programmer's Guide, "BDOS Function Calls", "BDOS Error Handling".)
use Rattle.std.specs.Prelude.{◌≡◌, ℕ, Bool, false, List, [], Option, Some, IsSome}
use Rattle.mpm_base.specs.Calls.{Answer}
use Rattle.mpm_mount.specs.Directories.{Directory}
use Rattle.mpm_opens.specs.Opens.{OpenFiles}
use Rattle.mpm_file_functions.specs.declared.refusals.Extended.{Extended}
use Rattle.mpm_file_functions.specs.declared.refusals.Refusal.{Refusal}
use Rattle.mpm_bdos.specs.declared.replying.Served.{Served}
use Rattle.mpm_directories.specs.Places.{directory_at}
use Rattle.mpm_refusals.specs.Filing.{LastSearch, Situation, HaveUsers}
use Rattle.mpm_refusals.specs.Subjects.{found}
use Rattle.mpm_bdos.specs.Jobs.{call_turns, turned}
use Rattle.mpm_bdos.specs.Changes.{protected_then, opens_by, search_of_call}
use Rattle.mpm_refusals.specs.Searches.{searches_by}
use Rattle.mpm_marks.specs.Driving.{marks_by}
use Rattle.mpm_bdos.specs.Replies.{answer_after}
use Rattle.mpm_bdos.specs.Outcomes.{file_call}
use Rattle.mpm_bdos.specs.Serving.{InService, IsCaller, Kept, StandEach, Serves, filing_of}
use Rattle.mpm_bdos.specs.Replying.{is_on_drives}

-- all that is kept but for what is cached, with a call in service
abbrev pub serving : List (Option Directory) → List Bool → OpenFiles → List ℕ → List (Option LastSearch) → InService → Kept
serving mounted protected opens marks searches service = record {
  mounted = mounted;
  cached = [];
  protected = protected;
  opens = opens;
  marks = marks;
  searches = searches;
  service = Some service;
}

-- a call that isn't refused has come to this, besides what its turns have made of its drive
pub record IsFinished (s : Situation) (answer : Answer) (protected : List Bool) (opens : OpenFiles) (marks : List ℕ) (searches : List (Option LastSearch)) : Type 0 where
  pub answer_is : answer ≡ answer_after s (turned s (call_turns s))
  pub protected_are : protected ≡ protected_then s
  pub opens_are : opens ≡ opens_by s (turned s (call_turns s)) s.function
  pub marks_are : marks ≡ marks_by s.filing.marks s.caller.process s.call.word s.function
  pub searches_are : searches ≡ searches_by s.filing.searches s.caller.process (search_of_call s) (found s)

-- a call has come to its outcome, for which the images stand
pub record ComesTo (images : ℕ → List ℕ) (s : Situation) (kept : Kept) (answer : Answer) (extended : Option Extended) : Type 0 where
  pub answer_is : answer ≡ (file_call s).answer
  pub extended_is : extended ≡ (file_call s).extended
  pub filing_is : filing_of kept (file_call s).filing.drives ≡ (file_call s).filing
  pub stand : StandEach images kept.mounted (file_call s).filing.drives

-- the call in service comes to its outcome after its turns, for whatever images it is served
abbrev pub ComesToAfterTurns : Kept → Kept → Answer → Option Extended → Type 0
ComesToAfterTurns old new answer extended =
    (images : ℕ → List ℕ) (s : Situation) → Serves images old s (call_turns s) → ComesTo images s new answer extended

-- a call that isn't refused may be answered by what is kept of it: its drive is mounted, unless it is one on drives
pub record MayReplyGranted (mounted : List (Option Directory)) (opens : OpenFiles) (served : Served) : Type 0 where
  pub caller : IsCaller served.file_call.caller
  pub users : HaveUsers opens
  pub drive : is_on_drives served.file_call.function ≡ false → IsSome (directory_at mounted served.drive)

-- a call in service, of what its reply is made of, its moment and its refusal
abbrev pub service_of : Served → List ℕ → Option Refusal → InService
service_of served moment refusal = record {
  caller = served.file_call.caller;
  function = served.file_call.function;
  drive = served.drive;
  call = served.file_call.call.now;
  moment = moment;
  refusal = refusal;
  work = served.work.now;
  deleted = served.deleted.now;
}
