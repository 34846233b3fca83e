-- A call on a mounted drive is answered as its turns have come to.
use Rattle.std.proofs.Common.{◌≡◌, ◌∙◌, ℕ, List, Option, Some, sym, ap, subst}
use Rattle.std.specs.Prelude.{option_map}
use Rattle.mpm_base.specs.Calls.{Answer}
use Rattle.mpm_mount.specs.Drives.{FileName, Drive}
use Rattle.mpm_mount.specs.Directories.{Directory, Stands}
use Rattle.mpm_opens.specs.declared.kinds.FileKey.{FileKey}
use Rattle.mpm_opens.specs.Opens.{OpenFiles, AreOpen}
use Rattle.mpm_files.specs.declared.work.Work.{Work}
use Rattle.mpm_file_functions.specs.declared.ends.Ended.{Ended}
use Rattle.mpm_file_entries.specs.declared.granting.Granted.{Granted}
use Rattle.mpm_refusals.specs.declared.finding.FoundEntry.{FoundEntry}
use Rattle.mpm_refusals.specs.Filing.{Situation}
use Rattle.mpm_refusals.specs.Subjects.{found}
use Rattle.mpm_bdos.specs.Jobs.{call_turns, turned}
use Rattle.mpm_bdos.specs.Changes.{opens_by}
use Rattle.mpm_file_functions.specs.Ends.{done_by}
use Rattle.mpm_file_entries.specs.Granting.{value_by, FewDone, IsPlaced}
use Rattle.mpm_bdos.specs.Replies.{answer_by, granted_of, answer_after}
use Rattle.mpm_refusals.specs.Asking.{asked_of, found_as}
use Rattle.mpm_bdos.specs.Ending.{moved_by, ended, HasRead}
use Rattle.mpm_bdos.specs.Leaving.{left_first, granted_by, opens_left, IsGranted, IsInFile}
use Rattle.mpm_bdos.specs.Replying.{IsAnswering}
use Rattle.mpm_bdos.proofs.AnsweredLaws.{granted_same, opens_same}
use Rattle.mpm_bdos.proofs.ToldLaws.{ends_so, few_granted, placed, in_file, has_read}

moved_so : (s : Situation) (image : List ℕ) (d : Directory) (work : Option Work) (deleted : List (Option FileKey)) → IsAnswering s image d work deleted → moved_by work ≡ (turned s (call_turns s)).moved
unfolding ended
moved_so s image d work deleted answering = ap (λ (e : Ended). e.moved) (ends_so s image (Some d) work answering.served)

granted_so : (s : Situation) (image : List ℕ) (d : Directory) (work : Option Work) (deleted : List (Option FileKey)) → IsAnswering s image d work deleted
    → granted_by (turned s (call_turns s)).drive (left_first s.filing.opens (asked_of s) work deleted) (asked_of s) work ≡ granted_of s (turned s (call_turns s))
granted_so s image d work deleted answering =
    granted_same s (moved_by work) deleted work answering.served.none (ends_so s image (Some d) work answering.served)

may_answer : (s : Situation) (image : List ℕ) (d : Directory) (work : Option Work) (deleted : List (Option FileKey)) → IsAnswering s image d work deleted
    → IsGranted (turned s (call_turns s)).drive s.filing.opens (asked_of s) work deleted (turned s (call_turns s)).records
may_answer s image d work deleted answering =
    let same = granted_so s image d work deleted answering in
    let t = turned s (call_turns s) in
    record {
      in_file = λ f. in_file s image (Some d) work answering.served f;
      few = subst (λ (g : Granted). FewDone s.caller.multi g.ended) (sym same) (few_granted s image (Some d) work answering.served);
      placed = λ moves. subst IsPlaced (sym same) (placed s image (Some d) work answering.served moves);
      read = λ reads.
          subst (λ (g : Granted). HasRead (done_by s.caller.multi (value_by t.drive g s.function)) work t.records) (sym same) (has_read s image (Some d) work t.drive answering.served reads);
    }

pub answered_so : (s : Situation) (image : List ℕ) (d : Directory) (work : Option Work) (deleted : List (Option FileKey)) (entries : Option FoundEntry) (answer : Answer) → IsAnswering s image d work deleted
    → option_map (found_as d.kind) entries ≡ found s
    → ((drive : Drive) (records : List (List ℕ)) (entry : Option (FileName × ℕ)) → Stands image d drive → IsGranted drive s.filing.opens (asked_of s) work deleted records
    → option_map (found_as d.kind) entries ≡ entry
    → answer ≡ answer_by drive (granted_by drive (left_first s.filing.opens (asked_of s) work deleted) (asked_of s) work) records entry s.call.fcb s.call.dma)
    → answer ≡ answer_after s (turned s (call_turns s))
unfolding answer_after
answered_so s image d work deleted entries answer answering finds clause =
    let t = turned s (call_turns s) in
    clause t.drive t.records (found s) answering.stands (may_answer s image d work deleted answering) finds
    ∙ ap (λ g. answer_by t.drive g t.records (found s) s.call.fcb s.call.dma) (granted_so s image d work deleted answering)

pub opens_so : (s : Situation) (image : List ℕ) (d : Directory) (work : Option Work) (deleted : List (Option FileKey)) (opens : OpenFiles) → IsAnswering s image d work deleted → AreOpen s.filing.opens
    → ((drive : Drive) → Stands image d drive → IsInFile (asked_of s) → opens ≡ opens_left drive s.filing.opens (asked_of s) work deleted)
    → opens ≡ opens_by s (turned s (call_turns s)) s.function
opens_so s image d work deleted opens answering sound clause =
    clause (turned s (call_turns s)).drive answering.stands (λ f. in_file s image (Some d) work answering.served f)
    ∙ opens_same s (moved_by work) deleted answering.served.none sound (moved_so s image d work deleted answering) answering.deleted_is answering.names
