-- Function 20 on one record answers 0 with the record, as the file's drive shows it, where that is visible, and 1 with nothing where it isn't.
use Rattle.std.proofs.Common.{◌≡◌, ◌∙◌, ℕ, ◌+◌, ◌/◌, false, not, if◌then◌else◌, List, [], ◌∷◌, ◌++◌, Option, Some, None, length, take, refl, sym, ap}
use Rattle.std.specs.Prelude.{is_some, option_and_then, max, nat_lt, sum_by}
use Rattle.std.specs.List.{flat_map}
use Rattle.std.proofs.lemmas.List.{append-nil}
use Rattle.std.proofs.lemmas.Bool.{false≢true}
use Rattle.mpm_mount.specs.Drives.{FileName, Drive, PhysicalExtent, extent_at, visible_in, visible_of}
use Rattle.mpm_mount.specs.Files.{where_there}
use Rattle.mpm_mount.specs.Records.{read_error}
use Rattle.mpm_fcb.specs.declared.block.ControlBlock.{ControlBlock}
use Rattle.mpm_fcb.specs.Blocks.{bytes_of}
use Rattle.mpm_fcb.specs.Positions.{at_position, extent_of}
use Rattle.mpm_directories.specs.Direct.{where_changed}
use Rattle.mpm_file_functions.specs.declared.ends.Ended.{Ended}
use Rattle.mpm_file_functions.specs.declared.errors.RecordError.{RecordError}
use Rattle.mpm_file_functions.specs.declared.errors.RecordError.TheVariants.{UnwrittenExtent, UnwrittenData}
use Rattle.mpm_file_functions.specs.declared.functions.FileFunction.TheVariants.{ReadSequential}
use Rattle.mpm_file_functions.specs.Ends.{coded, end_by, does_stay}
use Rattle.mpm_file_entries.specs.Telling.{record_count}
use Rattle.mpm_file_entries.specs.Granting.{value_by, block_by, position_by}
use Rattle.mpm_files.specs.Units.{ReadsRecord, last_of, stages, applied, all_applied}
use Rattle.mpm_files.specs.Plans.{CallPlan, file_of_job, plan_of, reading, unless_failing, behind, only}
use Rattle.mpm_files.specs.Serving.{records_moved, all_read}
use Rattle.mpm_refusals.specs.Filing.{Situation, block}
use Rattle.mpm_refusals.specs.Subjects.{drive_at, first_record, found}
use Rattle.mpm_refusals.specs.Refusals.{refusal_of}
use Rattle.mpm_bdos.specs.Jobs.{Turned, turned, turned_by, turns_by, call_turns, job_of, job_by, reading_job, unless_refused}
use Rattle.mpm_bdos.specs.Replies.{bytes_by, ended_for, end_after, granted_of, is_cut_by, answer_after}
use Rattle.mpm_bdos.specs.Outcomes.{file_call, outcome_by, granted_outcome}

-- what a plan comes to with all its turns
abbrev turns_for : CallPlan → ℕ
turns_for plan = max 1 (length plan.units)

abbrev done_of : Drive → CallPlan → Turned
done_of drive plan = record {
  drive = all_applied drive (take (turns_for plan) plan.units);
  moved = sum_by records_moved (take (turns_for plan) plan.units);
  error = if nat_lt (turns_for plan) (turns_for plan) then None else plan.error;
  records = all_read drive (take (turns_for plan) plan.units);
}

-- that of one record, by whether it is seen; one that isn't ends the call by one of two errors
abbrev lacking : Option PhysicalExtent → RecordError
lacking None = UnwrittenExtent
lacking (Some entry) = UnwrittenData

abbrev one_by : Drive → Option PhysicalExtent → Option (List ℕ) → Turned
one_by drive e (Some bytes) = record { drive = drive; moved = 1; error = None; records = bytes ∷ [] }
one_by drive e None = record { drive = drive; moved = 0; error = Some (lacking e); records = [] }

abbrev error_by : Option PhysicalExtent → Option (List ℕ) → Option RecordError
error_by e (Some bytes) = None
error_by e None = Some (lacking e)

abbrev two_tests : Option PhysicalExtent → Option (List ℕ) → Option RecordError
two_tests e o = if not (is_some e) then Some UnwrittenExtent else (if not (is_some o) then Some UnwrittenData else None)

tested : (drive : Drive) (n : ℕ) (e : Option PhysicalExtent) (o : Option (List ℕ)) → option_and_then (visible_in drive.kind n) e ≡ o → two_tests e o ≡ error_by e o
tested drive n None None seen = refl
tested drive n None (Some bytes) seen = absurd (false≢true (ap is_some seen))
tested drive n (Some entry) None seen = refl
tested drive n (Some entry) (Some bytes) seen = refl

seen_in : (drive : Drive) (file : FileName) (n : ℕ) (e : Option PhysicalExtent) (o : Option (List ℕ)) → extent_at drive file (n / 128) ≡ e → visible_of drive file n ≡ o
    → option_and_then (visible_in drive.kind n) e ≡ o
unfolding visible_of
seen_in drive file n e o there is = sym (ap (option_and_then (visible_in drive.kind n)) there) ∙ is

error_is : (drive : Drive) (file : FileName) (n : ℕ) (e : Option PhysicalExtent) (o : Option (List ℕ)) → extent_at drive file (n / 128) ≡ e → visible_of drive file n ≡ o
    → read_error drive file n ≡ error_by e o
error_is drive file n e o there is =
    ap (λ x. two_tests x (visible_of drive file n)) there ∙ ap (two_tests e) is ∙ tested drive n e o (seen_in drive file n e o there is)

by_seen : (drive : Drive) (file : FileName) (n : ℕ) (e : Option PhysicalExtent) (o : Option (List ℕ)) → visible_of drive file n ≡ o
    → done_of drive (unless_failing (error_by e o) (behind (ReadsRecord file n ∷ []) (only []))) ≡ one_by drive e o
unfolding all_applied applied stages last_of all_read
by_seen drive file n e (Some bytes) is =
    ap (λ (v : Option (List ℕ)). record { drive = drive; moved = 1; error = None; records = where_there v (λ read. read ∷ []) ++ [] }) is
by_seen drive file n e None is = refl

one_done : (drive : Drive) (file : FileName) (n : ℕ) (e : Option PhysicalExtent) (o : Option (List ℕ)) → extent_at drive file (n / 128) ≡ e → visible_of drive file n ≡ o
    → done_of drive (reading drive file n 1) ≡ one_by drive e o
unfolding reading
one_done drive file n e o there is =
    ap (λ error. done_of drive (unless_failing error (behind (ReadsRecord file n ∷ []) (only [])))) (error_is drive file n e o there is) ∙ by_seen drive file n e o is

-- what the call's turns have come to
its_job : (s : Situation) → s.function ≡ ReadSequential → refusal_of s ≡ None → job_of s ≡ Some (reading_job s)
unfolding job_of job_by
its_job s function none = ap (λ refusal. unless_refused refusal (job_by s s.function)) none ∙ ap (job_by s) function

its_turns : (s : Situation) (e : Option PhysicalExtent) (o : Option (List ℕ)) → s.function ≡ ReadSequential → s.caller.multi ≡ 1 → refusal_of s ≡ None
    → extent_at (drive_at s) (file_of_job (reading_job s)) (first_record s / 128) ≡ e → visible_of (drive_at s) (file_of_job (reading_job s)) (first_record s) ≡ o
    → turned s (call_turns s) ≡ one_by (drive_at s) e o
unfolding turned call_turns plan_of
its_turns s e o function multi none there is =
    ap (λ job. turned_by (drive_at s) (turns_by (drive_at s) job) job) (its_job s function none)
    ∙ ap (λ count. done_of (drive_at s) (reading (drive_at s) (file_of_job (reading_job s)) (first_record s) count)) multi
    ∙ one_done (drive_at s) (file_of_job (reading_job s)) (first_record s) e o there is

-- the reply: its value, its bytes, and the block, which goes on by the record
abbrev value_of : Option (List ℕ) → ℕ
value_of (Some bytes) = 0
value_of None = 1

abbrev bytes_seen : Option (List ℕ) → List ℕ
bytes_seen (Some bytes) = bytes
bytes_seen None = []

abbrev block_at : Situation → ℕ → ControlBlock
block_at s n = at_position (block s) n (record_count (drive_at s) (file_of_job (reading_job s)) (extent_of n))

abbrev block_after : Situation → Option (List ℕ) → ControlBlock
block_after s (Some bytes) = block_at s (first_record s + 1)
block_after s None = block s

ended_is : (s : Situation) (t : Turned) → s.function ≡ ReadSequential → (granted_of s t).ended ≡ record { moved = t.moved; end = end_by t.error false }
unfolding granted_of end_after
ended_is s t function =
    ap (ended_for s t) function ∙ ap (λ function. record { moved = t.moved; end = end_by t.error (is_cut_by s function) }) function

coded_one : (drive : Drive) (e : Option PhysicalExtent) (o : Option (List ℕ)) → coded ReadSequential (one_by drive e o).moved (end_by (one_by drive e o).error false) ≡ value_of o
coded_one drive e (Some bytes) = refl
coded_one drive None None = refl
coded_one drive (Some entry) None = refl

bytes_one : (drive : Drive) (e : Option PhysicalExtent) (o : Option (List ℕ)) → flat_map (λ bytes. bytes) (one_by drive e o).records ≡ bytes_seen o
bytes_one drive e (Some bytes) = append-nil bytes
bytes_one drive e None = refl

abbrev moved_by : Situation → Drive → Ended → ℕ → ControlBlock
moved_by s drive ended n =
    if does_stay ended.moved ended.end then block s else (at_position (block s) n (record_count drive (file_of_job (reading_job s)) (extent_of n)))

block_one : (s : Situation) (e : Option PhysicalExtent) (o : Option (List ℕ))
    → moved_by s (one_by (drive_at s) e o).drive (record { moved = (one_by (drive_at s) e o).moved; end = end_by (one_by (drive_at s) e o).error false })
    (first_record s + (one_by (drive_at s) e o).moved)
    ≡ block_after s o
block_one s e (Some bytes) = refl
block_one s e None = refl

pub record ReadsOne (s : Situation) (o : Option (List ℕ)) : Type 0 where
  pub value : (file_call s).answer.hl ≡ value_of o
  pub bytes : (file_call s).answer.bytes ≡ bytes_seen o
  pub block : (file_call s).answer.fcb ≡ where_changed s.call.fcb (bytes_of (block_after s o))

its_block : (s : Situation) (t : Turned) → s.function ≡ ReadSequential
    → block_by t.drive (granted_of s t) s.function ≡ moved_by s t.drive (record { moved = t.moved; end = end_by t.error false }) (first_record s + t.moved)
unfolding granted_of block_by
its_block s t function =
    ap (block_by t.drive (granted_of s t)) function
    ∙ ap (λ ended. moved_by s t.drive ended (position_by s.function (first_record s) ended.moved)) (ended_is s t function)
    ∙ ap (λ f. moved_by s t.drive (record { moved = t.moved; end = end_by t.error false }) (position_by f (first_record s) t.moved)) function

pub reads_one : (s : Situation) (o : Option (List ℕ)) → s.function ≡ ReadSequential → s.caller.multi ≡ 1 → refusal_of s ≡ None
    → visible_of (drive_at s) (file_of_job (reading_job s)) (first_record s) ≡ o → ReadsOne s o
unfolding file_call answer_after value_by bytes_by granted_of
reads_one s o function multi none is =
    let e = extent_at (drive_at s) (file_of_job (reading_job s)) (first_record s / 128) in
    let t : Turned = one_by (drive_at s) e o in
    let call : file_call s ≡ granted_outcome s t =
    ap (outcome_by s (turned s (call_turns s))) none ∙ ap (granted_outcome s) (its_turns s e o function multi none refl is) in record {
      value =
          ap (λ outcome. outcome.answer.hl) call ∙ ap (value_by t.drive (granted_of s t)) function
          ∙ ap (λ (ended : Ended). coded ReadSequential ended.moved ended.end) (ended_is s t function) ∙ coded_one (drive_at s) e o;
      bytes = ap (λ outcome. outcome.answer.bytes) call ∙ ap (bytes_by t.drive t.records (found s)) function ∙ bytes_one (drive_at s) e o;
      block =
          ap (λ outcome. outcome.answer.fcb) call ∙ ap (λ b. where_changed s.call.fcb (bytes_of b)) (its_block s t function ∙ block_one s e o);
    }
