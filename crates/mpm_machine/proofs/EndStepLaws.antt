-- The rest of a step as the code makes it: the disk's step, the ends that are due with the records, what is given back, and who runs.
use Rattle.std.proofs.Common.{◌≡◌, ◌∙◌, ◌++◌, ◌<◌, ℕ, Bool, true, false, List, [], Option, Some, None, IfSome, is_some, refl, sym, ap, subst}
use Rattle.std.proofs.lemmas.List.{append-nil}
use Rattle.mpm_port.specs.Disks.{Disks}
use Rattle.mpm_dispatcher.specs.Dispatch.{picked}
use Rattle.mpm_mount.specs.Drives.{Drive}
use Rattle.mpm_service.specs.Disk.{served_process, turned, turn_answer, begun, HasBegun}
use Rattle.mpm_service.specs.declared.service.Served.{Served}
use Rattle.mpm_service.specs.declared.service.Turn.{Turn}
use Rattle.mpm_service.specs.declared.service.Turn.TheVariants.{Idle, Passing, Work, Starts}
use Rattle.mpm_kernel.specs.Kernel.{IsSoundKernel, dispatched as with_dispatcher}
use Rattle.mpm_output.specs.Writing.{CameOut, Stopped}
use Rattle.mpm_output.proofs.WritingLaws.{wrote_after, fails_before, fails_within}
use Rattle.mpm_output.specs.Outside.{Outside, TheSink}
use Rattle.mpm_render.specs.Outputs.{Output}
use Rattle.mpm_directories.specs.Direct.{Directly}
use Rattle.mpm_bdos.specs.Serving.{Kept, InService, filing_of}
use Rattle.mpm_directories.specs.Places.{directory_at}
use Rattle.mpm_bdos.specs.Turns.{has_work}
use Rattle.mpm_system.specs.declared.system.System.{System}
use Rattle.mpm_system.specs.Whole.{IsWhole, NoCompletions, silent}
use Rattle.mpm_system.specs.Written.{records_out}
use Rattle.mpm_system.proofs.WrittenLaws.{recorded_after}
use Rattle.mpm_machine.specs.Files.{FilesInService, StandsServed, StandsForFiles, all_left, given_back}
use Rattle.mpm_machine.specs.Due.{NobodyDue, with_ends}
use Rattle.mpm_machine.specs.Mounting.{HasNoDrive}
use Rattle.mpm_machine.specs.Holding.{OwnsService, AreFiled}
use Rattle.mpm_machine.specs.DiskStep.{step_passed, over_after, served_by, disk_served, all_paid, entered_by, entered_unless, call_entered}
use Rattle.mpm_machine.specs.Stepping.{Telling, nothing_told, told_within, paid_after, entered_after, ended_after, rest_of, telling_then, files_then, files_rest}
use Rattle.mpm_machine.specs.After.{IsOfSome, HasServedTo, HasEndedTo, EndKeeps}
use Rattle.mpm_machine.proofs.WholeStepLaws.{whole_with_ends}
use Rattle.mpm_machine.proofs.KeepingLaws.{ServesSame, ends_serve}
use Rattle.mpm_machine.proofs.RestLaws.{whole_rest, none_entered_after, no_completions_rest, nobody_due_rest}
use Rattle.mpm_machine.proofs.FileStepLaws.{rest_steps}
use Rattle.mpm_machine.proofs.CallsLaws.{SystemKeepsCalls, calls_same, calls_then, calls_with_ends}
use Rattle.mpm_machine.proofs.HoldingLaws.{filed_still, own_still}
use Rattle.mpm_machine.proofs.ServeLaws.{over_serves, none_behind}
use Rattle.mpm_machine.proofs.EnterLaws.{paid_kernel, pays}
use Rattle.mpm_machine.proofs.CarryingLaws.{keeps_by}

-- what comes after the disk's step
abbrev ended_by : Bool → System → System
ended_by instruction served =
    let paid = all_paid (records_out (with_ends served)).system in record paid { kernel = with_dispatcher (picked instruction) paid.kernel }

rest_is : (instruction : Bool) (telling : Telling) (old : System) → (rest_of instruction telling (silent old)).system ≡ ended_by instruction (entered_after telling old)
unfolding rest_of ended_after all_paid
rest_is instruction telling old = refl

rest_says : (instruction : Bool) (telling : Telling) (old : System)
    → (rest_of instruction telling (silent old)).emitted ≡ (records_out (with_ends (entered_after telling old))).emitted ++ (disk_served telling.at_disk old).emitted
unfolding rest_of ended_after all_paid
rest_says instruction telling old =
    let records = (with_ends (entered_after telling old)).records in
    let said = (disk_served telling.at_disk old).emitted in
    recorded_after records (said ++ []) ∙ ap (λ (more : List Output). (records_out (with_ends (entered_after telling old))).emitted ++ more) (append-nil said)

-- so the rest of a step was done
rest_done : (instruction : Bool) (telling : Telling) (o m n : Outside) (old served new : System) → served ≡ entered_after telling old
    → CameOut o m (disk_served telling.at_disk old).emitted → CameOut m n (records_out (with_ends served)).emitted → new ≡ ended_by instruction served
    → (new ≡ (rest_of instruction telling (silent old)).system) × CameOut o n (rest_of instruction telling (silent old)).emitted
rest_done instruction telling o m n old served new is first last ends =
    let behind = (records_out (with_ends (entered_after telling old))).emitted in
    let said = (disk_served telling.at_disk old).emitted in (
      ends ∙ ap (ended_by instruction) is ∙ sym (rest_is instruction telling old),
      subst (λ (emitted : List Output). CameOut o n emitted) (sym (rest_says instruction telling old))
          (wrote_after o m n said behind first (subst (λ (system : System). CameOut m n (records_out (with_ends system)).emitted) is last)),
    )

ended_so : (instruction : Bool) (served ended paid new : System) → ended ≡ (records_out (with_ends served)).system → paid ≡ all_paid ended
    → new ≡ record paid { kernel = with_dispatcher (picked instruction) paid.kernel } → new ≡ ended_by instruction served
ended_so instruction served ended paid new ends pays picks =
    picks ∙ ap (λ (system : System). record system { kernel = with_dispatcher (picked instruction) system.kernel }) (pays ∙ ap all_paid ends)

-- whatever its file calls came to
abbrev pub IsServedFrom : System → System → Type 0
IsServedFrom old new = IsOfSome (λ (telling : Telling). entered_after telling old) new

abbrev pub IsEndedFrom : Bool → System → System → Type 0
IsEndedFrom instruction old new = IsOfSome (λ (telling : Telling). (rest_of instruction telling (silent old)).system) new

pub ended_made : (instruction : Bool) (old served ended paid new : System) → IsServedFrom old served → ended ≡ (records_out (with_ends served)).system → paid ≡ all_paid ended
    → new ≡ record paid { kernel = with_dispatcher (picked instruction) paid.kernel } → IsEndedFrom instruction old new
ended_made instruction old served ended paid new made ends pays picks =
    (made.0, ended_so instruction served ended paid new ends pays picks ∙ ap (ended_by instruction) made.1 ∙ sym (rest_is instruction made.0 old))

-- by what is on the drives

served_so : (files : FilesInService) (o m : Outside) (old served : System) (kept : Kept) (disks : Disks) → HasServedTo files o m old served kept disks
    → served ≡ entered_after (telling_then nothing_told old files) old
unfolding telling_then entered_after
served_so files o m old served kept disks has = has.system

said_so : (files : FilesInService) (o m : Outside) (old served : System) (kept : Kept) (disks : Disks) → HasServedTo files o m old served kept disks
    → CameOut o m (disk_served (telling_then nothing_told old files).at_disk old).emitted
unfolding telling_then
said_so files o m old served kept disks has = has.wrote

ends_stand : (served ended : System) (kept : Kept) (disks : Disks) (files : FilesInService) → ended ≡ (records_out (with_ends served)).system → StandsForFiles served.kernel.disk kept disks files
    → StandsForFiles ended.kernel.disk kept disks files
ends_stand served ended kept disks files is stands = record {
  stands = subst (λ (call : Option Served). StandsServed call kept disks files)
      (sym (ap (λ (system : System). system.kernel.disk.served) is ∙ (ends_serve served).served)) stands.stands;
}

pub has_ended_to : (instruction : Bool) (files : FilesInService) (o m n : Outside) (old served ended paid new : System) (kept kept' : Kept) (disks : Disks)
    → HasServedTo files o m old served kept disks → ended ≡ (records_out (with_ends served)).system → CameOut m n (records_out (with_ends served)).emitted → paid ≡ all_paid ended
    → new ≡ record paid { kernel = with_dispatcher (picked instruction) paid.kernel }
    → kept' ≡ record kept { opens = kept'.opens; marks = kept'.marks; searches = kept'.searches }
    → (is_some ended.kernel.disk.served ≡ true → kept' ≡ kept)
    → (ended.kernel.disk.served ≡ None → (drives : List (Option Drive)) → filing_of kept' drives ≡ all_left ended.owed (filing_of kept drives))
    → HasEndedTo instruction files o n old new kept' disks
unfolding files_rest ended_after
has_ended_to instruction files o m n old served ended paid new kept kept' disks has ends wrote pays_so picks rest same left =
    let telling = telling_then nothing_told old files in
    let is = served_so files o m old served kept disks has in
    let done = rest_done instruction telling o m n old served new is (said_so files o m old served kept disks has) wrote (ended_so instruction served ended paid new ends pays_so picks) in
    let behind : StandsForFiles (all_paid ended).kernel.disk kept' disks (given_back ended.owed (files_then old files)) =
    pays ended kept kept' disks (files_then old files) (ends_stand served ended kept disks (files_then old files) ends has.stands) rest same left in
    let owed : ended.owed ≡ (with_ends (entered_after telling old)).owed =
    ap (λ (system : System). system.owed) ends ∙ ap (λ (system : System). (with_ends system).owed) is in
    let disk : new.kernel.disk ≡ (all_paid ended).kernel.disk =
    ap (λ (system : System). system.kernel.disk) picks ∙ ap (λ (system : System). system.kernel.disk) pays_so in
    record {
      system = done.0;
      wrote = done.1;
      stands = subst (λ d. StandsForFiles d kept' disks (given_back (with_ends (entered_after telling old)).owed (files_then old files))) (sym disk)
          (subst (λ o. StandsForFiles (all_paid ended).kernel.disk kept' disks (given_back o (files_then old files))) owed behind);
    }

-- so who is at the disk keeps a call that it serves, and the one in service is the same, and his own

calls_ended_by : (instruction : Bool) (served : System) → IsWhole served → SystemKeepsCalls served (ended_by instruction served)
unfolding all_paid
calls_ended_by instruction served w =
    calls_then served.kernel (with_ends served).kernel _ (calls_with_ends served w) (calls_same (with_ends served).kernel (ended_by instruction served).kernel refl refl)

serves_ended_by : (instruction : Bool) (served : System) → ServesSame served (ended_by instruction served)
unfolding all_paid
serves_ended_by instruction served = ends_serve served

pub record EndsServed (instruction : Bool) (served new : System) : Type 0 where
  pub calls : SystemKeepsCalls served new
  pub serves : ServesSame served new

pub ends_served : (instruction : Bool) (served ended paid new : System) → IsWhole served → ended ≡ (records_out (with_ends served)).system → paid ≡ all_paid ended
    → new ≡ record paid { kernel = with_dispatcher (picked instruction) paid.kernel } → EndsServed instruction served new
ends_served instruction served ended paid new w ends pays picks =
    subst (EndsServed instruction served) (sym (ended_so instruction served ended paid new ends pays picks))
    (record { calls = calls_ended_by instruction served w; serves = serves_ended_by instruction served })

pub ended_begun : (instruction : Bool) (served new : System) → EndsServed instruction served new → HasBegun served.kernel.disk → HasBegun new.kernel.disk
ended_begun instruction served new so begun = subst (λ (o : Option Served). IfSome o (λ (call : Served). 0 < call.left)) (sym so.serves.served) begun

pub ended_filed : (instruction : Bool) (served new : System) → EndsServed instruction served new → AreFiled served.kernel → AreFiled new.kernel
ended_filed instruction served new so filed = filed_still served.kernel new.kernel so.calls filed

pub ended_own : (instruction : Bool) (served new : System) (kept kept' : Kept) → EndsServed instruction served new
    → kept' ≡ record kept { opens = kept'.opens; marks = kept'.marks; searches = kept'.searches } → OwnsService served.kernel kept.service → OwnsService new.kernel kept'.service
ended_own instruction served new kept kept' so rest own =
    subst (λ (service : Option InService). OwnsService new.kernel service) (sym (ap (λ (k : Kept). k.service) rest)) (own_still served.kernel new.kernel kept.service so.calls so.serves.served own)

pub ended_sound : (served ended paid : System) → IsWhole served → ended ≡ (records_out (with_ends served)).system → paid ≡ all_paid ended → IsSoundKernel paid.kernel
ended_sound served ended paid w ends pays =
    subst IsSoundKernel (sym (paid_kernel ended paid pays ∙ ap (λ (system : System). system.kernel) ends)) (whole_with_ends served w).sound

-- turns have as many steps as before

steps_behind : (turn : Turn) (told : Directly) (system : System) → ((p : ℕ) → turn ≡ Work p true → system.kernel.disk.served ≡ None)
    → (over_after turn told system).system.kernel.disk.turn_steps ≡ system.kernel.disk.turn_steps
steps_behind Idle told system none = refl
steps_behind Passing told system none = refl
steps_behind (Starts p) told system none = refl
steps_behind (Work p true) told system none = (over_serves told p system (none p refl)).steps
steps_behind (Work p false) told system none = refl

steps_served_by : (p : Option ℕ) (told : Directly) (system : System) → (served_by p told system).system.kernel.disk.turn_steps ≡ system.kernel.disk.turn_steps
unfolding turned
steps_served_by None told system = refl
steps_served_by (Some p) told system = steps_behind (turn_answer system.kernel.disk) told (step_passed system) (λ q last. none_behind system.kernel.disk q last)

steps_entered_by : (turn : Turn) (turns : ℕ) (system : System) → (entered_by turn turns system).kernel.disk.turn_steps ≡ system.kernel.disk.turn_steps
unfolding begun
steps_entered_by Idle turns system = refl
steps_entered_by Passing turns system = refl
steps_entered_by (Work p last) turns system = refl
steps_entered_by (Starts p) turns system = refl

steps_entered_unless : (served : Option ℕ) (turns : ℕ) (system : System) → (entered_unless served turns system).kernel.disk.turn_steps ≡ system.kernel.disk.turn_steps
unfolding turned
steps_entered_unless (Some p) turns system = refl
steps_entered_unless None turns system = steps_entered_by (turn_answer system.kernel.disk) turns (step_passed system)

steps_entered_after : (telling : Telling) (system : System) → (entered_after telling system).kernel.disk.turn_steps ≡ system.kernel.disk.turn_steps
unfolding entered_after call_entered disk_served all_paid
steps_entered_after telling system =
    steps_entered_unless (served_process (paid_after telling.at_disk system).kernel.disk) telling.turns (paid_after telling.at_disk system)
    ∙ steps_served_by (served_process system.kernel.disk) telling.at_disk system

pub ended_turn_steps : (instruction : Bool) (old served new : System) → EndsServed instruction served new → IsServedFrom old served
    → new.kernel.disk.turn_steps ≡ old.kernel.disk.turn_steps
ended_turn_steps instruction old served new so made =
    so.serves.steps ∙ ap (λ (system : System). system.kernel.disk.turn_steps) made.1 ∙ steps_entered_after made.0 old

-- the sink failed: in the disk's step, or after it

served_stops : (instruction : Bool) (telling : Telling) (o n : Outside) (old : System) → Stopped o n (disk_served telling.at_disk old).emitted
    → Stopped o n (rest_of instruction telling (silent old)).emitted
served_stops instruction telling o n old stopped =
    subst (λ (emitted : List Output). Stopped o n emitted) (sym (rest_says instruction telling old))
    (fails_before TheSink o n (disk_served telling.at_disk old).emitted (records_out (with_ends (entered_after telling old))).emitted stopped)

ends_stop : (instruction : Bool) (telling : Telling) (o m n : Outside) (old served : System) → served ≡ entered_after telling old → CameOut o m (disk_served telling.at_disk old).emitted
    → Stopped m n (records_out (with_ends served)).emitted → Stopped o n (rest_of instruction telling (silent old)).emitted
ends_stop instruction telling o m n old served is first stopped =
    let behind = (records_out (with_ends (entered_after telling old))).emitted in
    subst (λ (emitted : List Output). Stopped o n emitted) (sym (rest_says instruction telling old))
    (fails_within TheSink o m n (disk_served telling.at_disk old).emitted behind [] first (subst (λ (system : System). Stopped m n (records_out (with_ends system)).emitted) is stopped))

pub serving_stopped : (instruction : Bool) (files : FilesInService) (o n : Outside) (old : System) → Stopped o n (disk_served (told_within files old) old).emitted
    → Stopped o n (rest_of instruction (telling_then nothing_told old files) (silent old)).emitted
unfolding telling_then
serving_stopped instruction files o n old stopped = served_stops instruction (telling_then nothing_told old files) o n old stopped

pub ending_stopped : (instruction : Bool) (files : FilesInService) (o m n : Outside) (old served : System) (kept : Kept) (disks : Disks) → HasServedTo files o m old served kept disks
    → Stopped m n (records_out (with_ends served)).emitted → Stopped o n (rest_of instruction (telling_then nothing_told old files) (silent old)).emitted
ending_stopped instruction files o m n old served kept disks has stopped =
    ends_stop instruction (telling_then nothing_told old files) o m n old served (served_so files o m old served kept disks has) (said_so files o m old served kept disks has) stopped

-- what is so of the system after the disk's step, and after the rest of a step

pub served_nobody : (old new : System) → old.kernel.dispatcher.completed ≡ [] → IsServedFrom old new → new.kernel.dispatcher.completed ≡ []
served_nobody old new none made = ap (λ (system : System). system.kernel.dispatcher.completed) made.1 ∙ none_entered_after made.0 old none

pub ended_whole : (instruction : Bool) (old new : System) → IsWhole old → IsEndedFrom instruction old new → IsWhole new
ended_whole instruction old new w made = subst IsWhole (sym made.1) (whole_rest instruction made.0 (silent old) w)

pub ended_nobody_due : (instruction : Bool) (old new : System) → IsWhole old → IsEndedFrom instruction old new → NobodyDue new.kernel
ended_nobody_due instruction old new w made =
    subst (λ (system : System). NobodyDue system.kernel) (sym made.1) (nobody_due_rest instruction made.0 (silent old) w)

pub ended_no_completions : (instruction : Bool) (old new : System) → old.kernel.dispatcher.completed ≡ [] → IsEndedFrom instruction old new → NoCompletions new
ended_no_completions instruction old new none made = subst NoCompletions (sym made.1) (no_completions_rest instruction made.0 (silent old) none)

pub ended_steps : (instruction : Bool) (old new : System) → IsEndedFrom instruction old new → new.steps ≡ old.steps
ended_steps instruction old new made = subst (λ (system : System). system.steps ≡ old.steps) (sym made.1) (rest_steps instruction made.0 (silent old))

-- what is kept of directories and of what is cached stays, through one part after the other

pub keeps_then : (old middle new : Kept) → EndKeeps old middle → EndKeeps middle new → EndKeeps old new
keeps_then old middle new first second =
    keeps_by old new (ap (λ (k : Kept). k.mounted) second ∙ ap (λ (k : Kept). k.mounted) first) (ap (λ (k : Kept). k.cached) second ∙ ap (λ (k : Kept). k.cached) first)

pub keeps_entered : (old new : Kept) → new ≡ record old { service = new.service } → EndKeeps old new
keeps_entered old new is = keeps_by old new (ap (λ (k : Kept). k.mounted) is) (ap (λ (k : Kept). k.cached) is)

pub keeps_none : (old new : Kept) → EndKeeps old new → HasNoDrive old.mounted → HasNoDrive new.mounted
keeps_none old new keeps none = λ number. ap (λ (k : Kept). directory_at k.mounted number) keeps ∙ none number

-- and so does it that no call in service has work
pub workless_paid : (old new : Kept) → new ≡ record old { opens = new.opens; marks = new.marks; searches = new.searches } → has_work old.service ≡ false → has_work new.service ≡ false
workless_paid old new is less = ap (λ (k : Kept). has_work k.service) is ∙ less
