-- A file call that a process has made is done at once, or waits for the disk: what becomes of the system, of files, and of what is
-- written; and where it stopped.
use Rattle.std.proofs.Common.{◌≡◌, ◌∙◌, ℕ, ◌+◌, ◌*◌, ◌<◌, ◌≤◌, ◌==◌, ◌&&◌, Bool, true, false, if◌then◌else◌, List, Option, Some, None, IfSome, Result, Ok, Err, OnOk, IfErr, refl, sym, ap, subst, arith}
use Rattle.std.specs.Prelude.{is_some, is_none, option_map}
use Rattle.std.proofs.lemmas.Bool.{false≢true, or_parts}
use Rattle.std.proofs.lemmas.Bool.Decides.{nat_tests}
use Rattle.std.proofs.lemmas.Result.{on_ok_weaker}
use Rattle.mpm_base.specs.Calls.{Answer}
use Rattle.mpm_port.specs.Disks.{Disks}
use Rattle.mpm_procs.specs.Table.{call_of}
use Rattle.mpm_service.specs.Disk.{is_last_step}
use Rattle.mpm_service.specs.declared.service.Served.{Served}
use Rattle.mpm_dispatcher.specs.Dispatch.{IsReady}
use Rattle.mpm_kernel.specs.Kernel.{Kernel, IsSoundKernel}
use Rattle.mpm_kernel.specs.Disk.{waiting_for_disk}
use Rattle.mpm_mount.specs.Directories.{Directory}
use Rattle.mpm_render.specs.Outputs.{Output}
use Rattle.mpm_output.specs.Outside.{DeviceFaults, Outside}
use Rattle.mpm_output.specs.Writing.{CameOut, Stopped}
use Rattle.mpm_output.proofs.WritingLaws.{wrote_nothing}
use Rattle.mpm_file_functions.specs.declared.functions.FileFunction.{FileFunction}
use Rattle.mpm_file_functions.specs.declared.refusals.Extended.{Extended}
use Rattle.mpm_directories.specs.Direct.{Directly}
use Rattle.mpm_refusals.specs.Filing.{Filing, Situation}
use Rattle.mpm_file_functions.specs.Functions.{function_of}
use Rattle.mpm_bdos.specs.Serving.{Kept, InService, Serves}
use Rattle.mpm_directories.specs.Places.{directory_at}
use Rattle.mpm_bdos.specs.Turns.{FitsDrives, has_work, drive_and_kind, images_of}
use Rattle.mpm_bdos.proofs.ServedLaws.{none_before}
use Rattle.mpm_system.specs.declared.system.System.{System}
use Rattle.mpm_system.specs.Whole.{SystemChange, silent}
use Rattle.mpm_machine.specs.declared.machine.StepFault.{StepFault}
use Rattle.mpm_machine.specs.declared.machine.StepFault.TheVariants.{DiskFault, WriteFault}
use Rattle.mpm_machine.specs.Faults.{FailureCounts, HasFailed, HaveCause, itself, OnDiskFault, OnWriteFault}
use Rattle.mpm_machine.specs.Files.{FilesInService, Between, Within, one_more, StandsBetween, StandsWorkedBy, StandsWorked}
use Rattle.mpm_machine.specs.Filed.{IsOutcome}
use Rattle.mpm_machine.specs.FileCalls.{outcome_in, told_of, concluded}
use Rattle.mpm_machine.specs.DiskStep.{is_done_at_once, with_kernel, file_called, done_at_once, files_called, told_at_gate}
use Rattle.mpm_machine.specs.Holding.{IsOwnCall, HoldsKept}
use Rattle.mpm_machine.specs.Failing.{HaveImagesOf, FailsWithin, working_if, turns_done}
use Rattle.mpm_machine.specs.After.{IsOfSome, StopsBy, HasCalled}
use Rattle.mpm_machine.specs.Stepping.{nothing_told}
use Rattle.mpm_machine.proofs.KeepingLaws.{ready_unserved, concluded_serves}
use Rattle.mpm_machine.proofs.TurnLaws.{worked_on}
use Rattle.mpm_machine.proofs.BegunLaws.{waiting_serves}

-- it is done at once, or waits
once_is : (told : Directly) (p : ℕ) (system : System) → is_done_at_once p system ≡ true → file_called told p system ≡ concluded told p system
unfolding file_called
once_is told p system done = ap (λ b. if b then concluded told p system else silent (with_kernel (waiting_for_disk p) system)) done

waits_is : (told : Directly) (p : ℕ) (system : System) → is_done_at_once p system ≡ false → file_called told p system ≡ silent (with_kernel (waiting_for_disk p) system)
unfolding file_called
waits_is told p system waits = ap (λ b. if b then concluded told p system else silent (with_kernel (waiting_for_disk p) system)) waits

files_once : (p : ℕ) (system : System) (files : FilesInService) → is_done_at_once p system ≡ true → files_called p system files ≡ done_at_once p system files
unfolding files_called
files_once p system files done = ap (λ b. if b then done_at_once p system files else files) done

files_wait : (p : ℕ) (system : System) (files : FilesInService) → is_done_at_once p system ≡ false → files_called p system files ≡ files
unfolding files_called
files_wait p system files waits = ap (λ b. if b then done_at_once p system files else files) waits

-- it waits only where turns have steps

some_steps : (n : ℕ) → (n == 0) ≡ false → 0 < n
some_steps n some = grind (arith, nat_tests, some)

pub waits_steps : (p : ℕ) (system : System) → is_done_at_once p system ≡ false → 0 < system.kernel.disk.turn_steps
waits_steps p system waits =
    some_steps system.kernel.disk.turn_steps
    ((or_parts (is_none (function_of (call_of system.kernel.dispatcher.procs p).function)) (system.kernel.disk.turn_steps == 0) waits).1)

-- where it waits, nothing is said, and files stay

waits_called : (told : Directly) (p : ℕ) (o : Outside) (old new : System) → is_done_at_once p old ≡ false → new ≡ with_kernel (waiting_for_disk p) old
    → HasCalled told p o o old new
waits_called told p o old new waits is =
    let so = sym (waits_is told p old waits) in
    record { system = is ∙ ap (λ (c : SystemChange). c.system) so; wrote = subst (λ (c : SystemChange). CameOut o o c.emitted) so (wrote_nothing o) }

waits_stands : (p : ℕ) (old new : System) (kept : Kept) (disks : Disks) (files : FilesInService) → is_done_at_once p old ≡ false → new ≡ with_kernel (waiting_for_disk p) old
    → StandsWorked old.kernel.disk kept disks files → StandsWorked new.kernel.disk kept disks (files_called p old files)
waits_stands p old new kept disks files waits is stands =
    let serves = waiting_serves p old.kernel in
    subst (StandsWorked new.kernel.disk kept disks) (sym (files_wait p old files waits))
    (worked_on old.kernel.disk new.kernel.disk kept disks files
    (ap (λ (s : System). s.kernel.disk.served) is ∙ serves.served) (ap (λ (s : System). s.kernel.disk.turn_steps) is ∙ serves.steps) stands)

pub waits_ok : (p : ℕ) (o : Outside) (old new : System) (kept : Kept) (disks : Disks) (files : FilesInService) → is_done_at_once p old ≡ false
    → new ≡ with_kernel (waiting_for_disk p) old → StandsWorked old.kernel.disk kept disks files
    → HasCalled (told_at_gate p old files) p o o old new × StandsWorked new.kernel.disk kept disks (files_called p old files)
waits_ok p o old new kept disks files waits is stands =
    (waits_called (told_at_gate p old files) p o old new waits is, waits_stands p old new kept disks files waits is stands)

-- what one comes to that is done at once: where a call is in service, one that no disk serves, which leaves files

record Comes (p : ℕ) (old : System) (served : Option Served) (kept : Kept) (disks : Disks) (files : FilesInService) (reply : Answer) (extended : Option Extended) : Type 0 where
  pub told : told_at_gate p old files ≡ told_of (call_of old.kernel.dispatcher.procs p) reply extended
  pub stands : StandsWorkedBy old.kernel.disk.turn_steps served kept disks (done_at_once p old files)

told_so : (p : ℕ) (old : System) (files : FilesInService) (filing : Filing) (reply : Answer) (extended : Option Extended)
    → told_at_gate p old files
    ≡ told_of (call_of old.kernel.dispatcher.procs p) (outcome_in filing p old).answer (outcome_in filing p old).extended
    → reply ≡ (outcome_in filing p old).answer → extended ≡ (outcome_in filing p old).extended
    → told_at_gate p old files ≡ told_of (call_of old.kernel.dispatcher.procs p) reply extended
told_so p old files filing reply extended is answer error =
    let call = call_of old.kernel.dispatcher.procs p in
    is ∙ ap (λ (a : Answer). told_of call a (outcome_in filing p old).extended) (sym answer) ∙ ap (λ (e : Option Extended). told_of call reply e) (sym error)

-- the clauses of the call's work
pub record IsCalled (p : ℕ) (old : System) (kept kept' : Kept) (disks disks' : Disks) (reply : Answer) (extended : Option Extended) : Type 0 where
  pub ok : (filing : Filing) → StandsBetween kept disks filing → IsOutcome disks' (outcome_in filing p old) kept' reply extended
  pub within : (images : ℕ → List ℕ) (s : Situation) (j : ℕ) → function_of (call_of old.kernel.dispatcher.procs p).function ≡ None → Serves images kept s j
      → (reply ≡ (outcome_in s.filing p old).answer) × (extended ≡ (outcome_in s.filing p old).extended)
  pub direct : function_of (call_of old.kernel.dispatcher.procs p).function ≡ None → (kept' ≡ kept) × (disks' ≡ disks)

comes_by : (p : ℕ) (old : System) (served : Option Served) (kept kept' : Kept) (disks disks' : Disks) (files : FilesInService) (reply : Answer) (extended : Option Extended)
    → (is_some served ≡ true → function_of (call_of old.kernel.dispatcher.procs p).function ≡ None)
    → IsCalled p old kept kept' disks disks' reply extended → StandsWorkedBy old.kernel.disk.turn_steps served kept disks files
    → Comes p old served kept' disks' files reply extended
comes_by p old None kept kept' disks disks' (Between filing) reply extended apart c stands =
    let so = c.ok filing stands in
    record { told = told_so p old (Between filing) filing reply extended refl so.answer_is so.extended_is; stands = so.files }
comes_by p old None kept kept' disks disks' (Within s) reply extended apart c stands = absurd stands
comes_by p old (Some call) kept kept' disks disks' (Between filing) reply extended apart c stands = absurd stands
comes_by p old (Some call) kept kept' disks disks' (Within s) reply extended apart c stands =
    let none = apart refl in
    let so = c.within (images_of disks) s (one_more (is_last_step old.kernel.disk.turn_steps call) stands.turns) none stands.serves in
    let same = c.direct none in
    let steps = old.kernel.disk.turn_steps in
    record {
      told = told_so p old (Within s) s.filing reply extended refl so.0 so.1;
      stands = subst (λ (k : Kept). StandsWorkedBy steps (Some call) k disks' (Within s)) (sym same.0)
          (subst (λ (d : Disks). StandsWorkedBy steps (Some call) kept d (Within s)) (sym same.1) stands);
    }

comes : (p : ℕ) (old : System) (kept kept' : Kept) (disks disks' : Disks) (files : FilesInService) (reply : Answer) (extended : Option Extended)
    → (is_some old.kernel.disk.served ≡ true → function_of (call_of old.kernel.dispatcher.procs p).function ≡ None)
    → IsCalled p old kept kept' disks disks' reply extended → StandsWorked old.kernel.disk kept disks files
    → Comes p old old.kernel.disk.served kept' disks' files reply extended
comes p old kept kept' disks disks' files reply extended apart c stands =
    comes_by p old old.kernel.disk.served kept kept' disks disks' files reply extended apart c stands.stands

once_stands : (p : ℕ) (old : System) (kept : Kept) (disks : Disks) (files : FilesInService) (reply : Answer) (extended : Option Extended) → is_done_at_once p old ≡ true
    → Comes p old old.kernel.disk.served kept disks files reply extended → StandsWorked old.kernel.disk kept disks (files_called p old files)
once_stands p old kept disks files reply extended done c =
    subst (StandsWorked old.kernel.disk kept disks) (sym (files_once p old files done)) (record { stands = c.stands })

called_so : (told : Directly) (p : ℕ) (o n : Outside) (old new : System) → is_done_at_once p old ≡ true → new ≡ (concluded told p old).system
    → CameOut o n (concluded told p old).emitted → HasCalled told p o n old new
called_so told p o n old new done is wrote =
    let so = sym (once_is told p old done) in
    record { system = is ∙ ap (λ (c : SystemChange). c.system) so; wrote = subst (λ (c : SystemChange). CameOut o n c.emitted) so wrote }

pub once_ok : {A E : Type 0} (r : Result A E) (p : ℕ) (o n : Outside) (old new : System) (kept kept' : Kept) (disks disks' : Disks) (files : FilesInService) (reply : Answer) (extended : Option Extended)
    → IsSoundKernel old.kernel → IsReady old.kernel.dispatcher p → is_done_at_once p old ≡ true
    → (is_some old.kernel.disk.served ≡ true → function_of (call_of old.kernel.dispatcher.procs p).function ≡ None)
    → IsCalled p old kept kept' disks disks' reply extended
    → OnOk r (new ≡ (concluded (told_of (call_of old.kernel.dispatcher.procs p) reply extended) p old).system)
    → OnOk r (CameOut o n (concluded (told_of (call_of old.kernel.dispatcher.procs p) reply extended) p old).emitted)
    → StandsWorked old.kernel.disk kept disks files
    → OnOk r (HasCalled (told_at_gate p old files) p o n old new × StandsWorked new.kernel.disk kept' disks' (files_called p old files))
once_ok (Err e) p o n old new kept kept' disks disks' files reply extended s is_ready done apart c is wrote stands = tt
once_ok (Ok a) p o n old new kept kept' disks disks' files reply extended s is_ready done apart c is wrote stands =
    let told = told_of (call_of old.kernel.dispatcher.procs p) reply extended in
    let came = comes p old kept kept' disks disks' files reply extended apart c stands in
    let serves = concluded_serves told p old (ready_unserved old p s is_ready) in (
      subst (λ (t : Directly). HasCalled t p o n old new) (sym came.told) (called_so told p o n old new done is wrote),
      worked_on old.kernel.disk new.kernel.disk kept' disks' (files_called p old files)
          (ap (λ (x : System). x.kernel.disk.served) is ∙ serves.served) (ap (λ (x : System). x.kernel.disk.turn_steps) is ∙ serves.steps)
          (once_stands p old kept' disks' files reply extended done came),
    )

-- whatever it comes to
pub waits_made : (p : ℕ) (old new : System) → is_done_at_once p old ≡ false → new ≡ with_kernel (waiting_for_disk p) old
    → IsOfSome (λ (told : Directly). (file_called told p old).system) new
waits_made p old new waits is = (nothing_told, is ∙ ap (λ (c : SystemChange). c.system) (sym (waits_is nothing_told p old waits)))

pub once_made : {A E : Type 0} (r : Result A E) (told : Directly) (p : ℕ) (old new : System) → is_done_at_once p old ≡ true
    → OnOk r (new ≡ (concluded told p old).system) → OnOk r (IsOfSome (λ (told : Directly). (file_called told p old).system) new)
once_made r told p old new done =
    on_ok_weaker r (λ (is : new ≡ (concluded told p old).system). (told, is ∙ ap (λ (c : SystemChange). c.system) (sym (once_is told p old done))))

-- the sink failed in its answer

abbrev pub SinkFailed : {A : Type 0} → Result A StepFault → Outside → Outside → List Output → Type 0
SinkFailed r o n emitted = IfErr r (λ fault. (fault ≡ WriteFault) × Stopped o n emitted)

makes_none : (fault : StepFault) (told : Directly) (p : ℕ) (o n : Outside) (old : System) → is_done_at_once p old ≡ true → fault ≡ WriteFault
    → Stopped o n (concluded told p old).emitted → StopsBy fault o n (file_called told p old).emitted
makes_none fault told p o n old done is stopped =
    subst (λ (f : StepFault). StopsBy f o n (file_called told p old).emitted) (sym is)
    (subst (λ (c : SystemChange). Stopped o n c.emitted) (sym (once_is told p old done)) stopped)

pub once_err : {A : Type 0} (r : Result A StepFault) (p : ℕ) (o n : Outside) (old : System) (kept kept' : Kept) (disks disks' : Disks) (files : FilesInService) (reply : Answer) (extended : Option Extended)
    → is_done_at_once p old ≡ true
    → (is_some old.kernel.disk.served ≡ true → function_of (call_of old.kernel.dispatcher.procs p).function ≡ None)
    → IsCalled p old kept kept' disks disks' reply extended
    → SinkFailed r o n (concluded (told_of (call_of old.kernel.dispatcher.procs p) reply extended) p old).emitted
    → StandsWorked old.kernel.disk kept disks files
    → IfErr r (λ fault. StopsBy fault o n (file_called (told_at_gate p old files) p old).emitted)
once_err (Ok a) p o n old kept kept' disks disks' files reply extended done apart c failed stands = tt
once_err (Err fault) p o n old kept kept' disks disks' files reply extended done apart c failed stands =
    let told = told_of (call_of old.kernel.dispatcher.procs p) reply extended in
    subst (λ (t : Directly). StopsBy fault o n (file_called t p old).emitted) (sym (comes p old kept kept' disks disks' files reply extended apart c stands).told)
    (makes_none fault told p o n old done failed.0 failed.1)

on_write : (fault : StepFault) (P : Type 0) → P → OnWriteFault fault P
on_write WriteFault P p = p
on_write DiskFault P p = tt

pub once_still : {A : Type 0} (r : Result A StepFault) (p : ℕ) (old : System) (kept kept' : Kept) (disks disks' : Disks) (files : FilesInService) (reply : Answer) (extended : Option Extended)
    → is_done_at_once p old ≡ true
    → (is_some old.kernel.disk.served ≡ true → function_of (call_of old.kernel.dispatcher.procs p).function ≡ None)
    → IsCalled p old kept kept' disks disks' reply extended → StandsWorked old.kernel.disk kept disks files
    → IfErr r (λ fault. OnWriteFault fault (StandsWorked old.kernel.disk kept' disks' (files_called p old files)))
once_still (Ok a) p old kept kept' disks disks' files reply extended done apart c stands = tt
once_still (Err fault) p old kept kept' disks disks' files reply extended done apart c stands =
    on_write fault _ (once_stands p old kept' disks' files reply extended done (comes p old kept kept' disks disks' files reply extended apart c stands))

pub no_disk_fault : (fault : StepFault) (P : Type 0) → fault ≡ WriteFault → OnDiskFault fault P
no_disk_fault WriteFault P is = tt
no_disk_fault DiskFault P is = absurd (cc)

pub once_images : {A : Type 0} (r : Result A StepFault) (P : Type 0) (o n : Outside) (emitted : List Output) → SinkFailed r o n emitted → IfErr r (λ fault. OnDiskFault fault P)
once_images (Ok a) P o n emitted failed = tt
once_images (Err fault) P o n emitted failed = no_disk_fault fault P failed.0

pub once_fault : {A : Type 0} (r : Result A StepFault) (o n : Outside) (emitted : List Output) → SinkFailed r o n emitted → IfErr r (λ fault. fault ≡ WriteFault)
once_fault (Ok a) o n emitted failed = tt
once_fault (Err fault) o n emitted failed = failed.0

-- whether records are asked for stays, and what failed is the sink

pub once_trace : {A : Type 0} (r : Result A StepFault) (o n : Outside) (emitted : List Output) → OnOk r (CameOut o n emitted) → SinkFailed r o n emitted → n.kept.trace ≡ o.kept.trace
once_trace (Ok a) o n emitted wrote failed = wrote.trace
once_trace (Err fault) o n emitted wrote failed = failed.1.trace

pub once_cause : {A : Type 0} (r : Result A StepFault) (o n : Outside) (emitted : List Output) (before behind : ℕ) → behind ≡ before → OnOk r (CameOut o n emitted) → SinkFailed r o n emitted
    → HaveCause itself (record { sink = o.faults.sink; drives = before }) (record { sink = n.faults.sink; drives = behind }) r
once_cause (Ok a) o n emitted before behind same wrote failed = record {
  stays = ap (λ (d : ℕ). let c : FailureCounts = record { sink = n.faults.sink; drives = d } in c) same
      ∙ ap (λ (f : DeviceFaults). let c : FailureCounts = record { sink = f.sink; drives = before } in c) wrote.faults;
  failed = tt;
}
once_cause (Err fault) o n emitted before behind same wrote failed = record {
  stays = tt;
  failed = subst (λ (f : StepFault). HasFailed f (record { sink = o.faults.sink; drives = before }) (record { sink = n.faults.sink; drives = behind })) (sym failed.0)
      (failed.1.rose, same);
}

-- a drive failed in it

between_by : (turn_steps : ℕ) (served : Option Served) (kept : Kept) (disks : Disks) (filing : Filing) → StandsWorkedBy turn_steps served kept disks (Between filing)
    → StandsBetween kept disks filing
between_by turn_steps None kept disks filing stands = stands
between_by turn_steps (Some call) kept disks filing stands = absurd stands

pub between : (system : System) (kept : Kept) (disks : Disks) (filing : Filing) → StandsWorked system.kernel.disk kept disks (Between filing) → StandsBetween kept disks filing
between system kept disks filing stands = between_by system.kernel.disk.turn_steps system.kernel.disk.served kept disks filing stands.stands

pub fails_images : (p : ℕ) (old : System) (disks : Disks) (filing : Filing) (mounted : List (Option Directory)) → is_done_at_once p old ≡ true
    → HaveImagesOf (FailsWithin (working_if true filing p old)) disks mounted → HaveImagesOf (FailsWithin (working_if (is_done_at_once p old) filing p old)) disks mounted
fails_images p old disks filing mounted done have = subst (λ b. HaveImagesOf (FailsWithin (working_if b filing p old)) disks mounted) (sym done) have

pub once_calls : (p : ℕ) (old : System) (filing : Filing) (before behind : ℕ) → is_done_at_once p old ≡ true → behind ≤ before + 20 * turns_done (working_if true filing p old)
    → behind ≤ before + 20 * turns_done (working_if (is_done_at_once p old) filing p old)
once_calls p old filing before behind done bound = subst (λ b. behind ≤ before + 20 * turns_done (working_if b filing p old)) (sym done) bound

-- a call that the disk serves isn't done at once where one is in service, nor where none is asked to be

and_none : (found : Option FileFunction) (b : Bool) → (is_some found && b) ≡ false → b ≡ true → found ≡ None
and_none None b off on = refl
and_none (Some function) true off on = absurd (false≢true (sym off))
and_none (Some function) false off on = absurd (false≢true on)

pub served_directly : (p : ℕ) (old : System) → (is_some (function_of (call_of old.kernel.dispatcher.procs p).function) && is_done_at_once p old) ≡ false
    → is_done_at_once p old ≡ true → function_of (call_of old.kernel.dispatcher.procs p).function ≡ None
served_directly p old off done = and_none (function_of (call_of old.kernel.dispatcher.procs p).function) (is_done_at_once p old) off done

-- what holds of drives and of what is kept does so after its work

own_filed : (served : Option Served) (kernel : Kernel) (old new : Option InService) → (is_some served ≡ true → new ≡ old)
    → IfSome served (λ (call : Served). IsOwnCall kernel.dispatcher.procs call.p old) → IfSome served (λ (call : Served). IsOwnCall kernel.dispatcher.procs call.p new)
own_filed None kernel old new same own = tt
own_filed (Some call) kernel old new same own = subst (IsOwnCall kernel.dispatcher.procs call.p) (sym (same refl)) own

workless_by : (found : Option FileFunction) (old new : Kept) → (found ≡ None → new ≡ old) → (is_some found ≡ true → new.service ≡ None) → has_work old.service ≡ false
    → has_work new.service ≡ false
workless_by None old new direct idle none = ap (λ (k : Kept). has_work k.service) (direct refl) ∙ none
workless_by (Some function) old new direct idle none = ap has_work (idle refl)

pub holds_filed : {D : Type 0} (disks : D → Disks) (kernel : Kernel) (found : Option FileFunction) (old new : Kept) (before behind : D)
    → HoldsKept disks kernel old before → (is_some kernel.disk.served ≡ true → found ≡ None)
    → (found ≡ None → new ≡ old) → (is_some found ≡ true → new.service ≡ None)
    → ((number : ℕ) → option_map drive_and_kind (directory_at new.mounted number) ≡ option_map drive_and_kind (directory_at old.mounted number))
    → FitsDrives disks new.mounted new.cached behind → HoldsKept disks kernel new behind
holds_filed disks kernel found old new before behind holds apart direct idle labels fits = record {
  filed = holds.filed;
  own = own_filed kernel.disk.served kernel old.service new.service (λ some. ap (λ (k : Kept). k.service) (direct (apart some))) holds.own;
  begun = holds.begun;
  fits = fits;
  workless = λ none.
      workless_by found old new direct idle
      (holds.workless (λ number. none_before (directory_at old.mounted number) (directory_at new.mounted number) (labels number) (none number)));
}
