-- What a step begins with in which a process makes a file call: the call is made, it is done at once or waits, and the held calls that
-- this completed are answered.
use Rattle.std.proofs.Common.{◌≡◌, ◌∙◌, ℕ, ◌+◌, ◌*◌, ◌≤◌, ◌&&◌, true, false, List, [], Option, Some, None, refl, sym, ap, subst, arith}
use Rattle.std.specs.Prelude.{is_some, ⊤}
use Rattle.std.proofs.lemmas.Option.{MatchOption-at_some}
use Rattle.mpm_port.specs.Disks.{Disks}
use Rattle.mpm_procs.specs.Table.{Lives, process_in, call_of}
use Rattle.mpm_service.specs.declared.service.Served.{Served}
use Rattle.mpm_dispatcher.specs.Dispatch.{IsReady}
use Rattle.mpm_mount.specs.Directories.{Directory}
use Rattle.mpm_residents.specs.declared.native.Native.{Native}
use Rattle.mpm_residents.specs.Natives.{native_in}
use Rattle.mpm_output.specs.Outside.{Outside}
use Rattle.mpm_output.specs.Writing.{CameOut}
use Rattle.mpm_directories.specs.Direct.{Directly}
use Rattle.mpm_refusals.specs.Filing.{Filing, Situation}
use Rattle.mpm_file_functions.specs.Functions.{function_of}
use Rattle.mpm_bdos.specs.Serving.{Kept}
use Rattle.mpm_system.specs.declared.system.System.{System}
use Rattle.mpm_system.specs.Whole.{SystemChange, IsWhole}
use Rattle.mpm_system.specs.Taking.{keeping}
use Rattle.mpm_system.specs.Answering.{popped}
use Rattle.mpm_system.specs.Residents.{asked_by}
use Rattle.mpm_system.specs.Coming.{counted}
use Rattle.mpm_system.specs.FileCalling.{made_by, call_made}
use Rattle.mpm_machine.specs.declared.machine.StepFault.{StepFault}
use Rattle.mpm_machine.specs.declared.machine.StepFault.TheVariants.{DiskFault, WriteFault}
use Rattle.mpm_machine.specs.Faults.{OnDiskFault, OnWriteFault}
use Rattle.mpm_machine.specs.Files.{FilesInService, Between, Within, StandsWorkedBy, StandsWorked}
use Rattle.mpm_machine.specs.Holding.{AreFiled}
use Rattle.mpm_machine.specs.Finishing.{all_answered}
use Rattle.mpm_machine.specs.Step.{then_also}
use Rattle.mpm_machine.specs.FileCalls.{file_caller}
use Rattle.mpm_machine.specs.DiskStep.{is_done_at_once, file_called, files_called, told_at_gate}
use Rattle.mpm_machine.specs.Stepping.{begun_with, begun_as, told_first_by, told_first, files_begun_by, files_begun, before_disk}
use Rattle.mpm_machine.specs.Failing.{HaveImagesOf, FailsWithin, working_if, working_by, working_in, turns_done, works_at_once}
use Rattle.mpm_machine.specs.After.{IsOfSome, StopsBy, HasCalled, HasBegunTo}
use Rattle.mpm_machine.proofs.FileLaws.{Made, makes}
use Rattle.mpm_machine.proofs.DiskStepLaws.{whole_file_called}
use Rattle.mpm_machine.proofs.FiledLaws.{caller_lives, caller_ready}
use Rattle.mpm_machine.proofs.KeepingLaws.{ServesSame, same_then}
use Rattle.mpm_machine.proofs.TurnLaws.{worked_on}
use Rattle.mpm_machine.proofs.AtGateLaws.{no_disk_fault}
use Rattle.mpm_machine.proofs.BegunLaws.{made_serves, called_serves, filed_called, keeps_answered}

-- who makes it lives, and is ready
pub lives_to_call : (p : ℕ) (system : System) → IsWhole system → file_caller system ≡ Some p → Lives system.kernel.dispatcher.procs p
lives_to_call p system w is = MatchOption-at_some ⊤ (λ q. Lives system.kernel.dispatcher.procs q) p is (caller_lives system w)

pub ready_to_call : (p : ℕ) (system : System) → IsWhole system → file_caller system ≡ Some p → IsReady system.kernel.dispatcher p
ready_to_call p system w is = MatchOption-at_some ⊤ (λ q. IsReady system.kernel.dispatcher q) p is (caller_ready system w)

pub made_so : (p : ℕ) (old made : System) → IsWhole old → file_caller old ≡ Some p → made ≡ call_made p old → Made p old made
made_so p old made w caller is = subst (Made p old) (sym is) (makes p old w (lives_to_call p old w caller))

-- nobody is left to be answered by it
same_completed : (seg : Option ℕ) (native : Option Native) (p : ℕ) (system : System) → native_in system.residents p ≡ native
    → (made_by seg p system).kernel.dispatcher.completed ≡ system.kernel.dispatcher.completed
unfolding keeping popped
same_completed (Some seg) native p system here = refl
same_completed None None p system here = ap (λ o. (asked_by o p system).kernel.dispatcher.completed) here
same_completed None (Some native) p system here = ap (λ o. (asked_by o p system).kernel.dispatcher.completed) here

pub made_completed : (p : ℕ) (old made : System) → old.kernel.dispatcher.completed ≡ [] → made ≡ call_made p old → made.kernel.dispatcher.completed ≡ []
unfolding call_made
made_completed p old made none is =
    ap (λ (s : System). s.kernel.dispatcher.completed) is ∙ same_completed (process_in old.kernel.dispatcher.procs p).seg _ p (counted old) refl ∙ none

-- the definitions, where it makes one

begun_is : (told : Directly) (p : ℕ) (old : System) → file_caller old ≡ Some p → begun_as told old ≡ then_also (file_called told p (call_made p old)) all_answered
unfolding begun_as
begun_is told p old is = ap (λ caller. then_also (begun_with caller told old) all_answered) is

told_is_first : (p : ℕ) (old : System) (files : FilesInService) → file_caller old ≡ Some p → told_first old files ≡ told_at_gate p (call_made p old) files
unfolding told_first
told_is_first p old files is = ap (λ caller. told_first_by caller old files) is

files_are_begun : (p : ℕ) (old made : System) (files : FilesInService) → file_caller old ≡ Some p → made ≡ call_made p old → files_begun old files ≡ files_called p made files
unfolding files_begun
files_are_begun p old made files caller is = ap (λ o. files_begun_by o old files) caller ∙ ap (λ (s : System). files_called p s files) (sym is)

begun_here : (told : Directly) (p : ℕ) (old made : System) → file_caller old ≡ Some p → made ≡ call_made p old
    → begun_as told old ≡ then_also (file_called told p made) all_answered
begun_here told p old made caller is = begun_is told p old caller ∙ ap (λ (s : System). then_also (file_called told p s) all_answered) (sym is)

before_here : (p : ℕ) (old made : System) (files : FilesInService) → file_caller old ≡ Some p → made ≡ call_made p old
    → before_disk old files ≡ then_also (file_called (told_at_gate p made files) p made) all_answered
unfolding before_disk
before_here p old made files caller is =
    ap (λ (t : Directly). begun_as t old) (told_is_first p old files caller ∙ ap (λ (s : System). told_at_gate p s files) (sym is))
    ∙ begun_here (told_at_gate p made files) p old made caller is

-- it is done at once, or waits, by something that it comes to
abbrev pub IsCalledFrom : ℕ → System → System → Type 0
IsCalledFrom p made called = IsOfSome (λ (told : Directly). (file_called told p made).system) called

-- the disk serves the same call, and the system stays whole

pub gate_stands : (p : ℕ) (old made : System) (kept : Kept) (disks : Disks) (files : FilesInService) → made ≡ call_made p old → StandsWorked old.kernel.disk kept disks files
    → StandsWorked made.kernel.disk kept disks files
gate_stands p old made kept disks files is stands =
    subst (λ (s : System). StandsWorked s.kernel.disk kept disks files) (sym is)
    (worked_on old.kernel.disk (call_made p old).kernel.disk kept disks files (made_serves p old).served (made_serves p old).steps stands)

pub gate_whole : (p : ℕ) (old made called : System) → Made p old made → IsReady old.kernel.dispatcher p → IsCalledFrom p made called → IsWhole called
gate_whole p old made called m is_ready has =
    subst IsWhole (sym has.1) (whole_file_called has.0 p made m.whole m.lives (m.ready is_ready))

answered_serves : (p : ℕ) (old made called new : System) → Made p old made → IsReady old.kernel.dispatcher p → AreFiled made.kernel
    → IsCalledFrom p made called → new ≡ all_answered called → ServesSame called new
answered_serves p old made called new m is_ready filed has is =
    let behind : AreFiled called.kernel =
    subst (λ (s : System). AreFiled s.kernel) (sym has.1) (filed_called has.0 p made m.whole m.lives filed) in
    subst (ServesSame called) (sym is) (keeps_answered called (gate_whole p old made called m is_ready has) behind).serves

pub gate_serves : (p : ℕ) (old made called new : System) → made ≡ call_made p old → Made p old made → IsReady old.kernel.dispatcher p → AreFiled made.kernel
    → IsCalledFrom p made called → new ≡ all_answered called → ServesSame old new
gate_serves p old made called new is m is_ready filed has was =
    let first : ServesSame old made = subst (ServesSame old) (sym is) (made_serves p old) in
    let second : ServesSame made called = subst (ServesSame made) (sym has.1) (called_serves has.0 p made m.whole.sound (m.ready is_ready)) in
    same_then old.kernel.disk made.kernel.disk new.kernel.disk first
    (same_then made.kernel.disk called.kernel.disk new.kernel.disk second (answered_serves p old made called new m is_ready filed has was))

-- by what is on the drives

pub gate_begun_to : (p : ℕ) (files : FilesInService) (o n : Outside) (old made called new : System) (kept : Kept) (disks : Disks) → file_caller old ≡ Some p → made ≡ call_made p old
    → Made p old made → IsReady old.kernel.dispatcher p → AreFiled made.kernel → IsCalledFrom p made called → new ≡ all_answered called
    → HasCalled (told_at_gate p made files) p o n made called × StandsWorked called.kernel.disk kept disks (files_called p made files)
    → HasBegunTo files o n old new kept disks
gate_begun_to p files o n old made called new kept disks caller is m is_ready filed has was both =
    let so = sym (before_here p old made files caller is) in
    let serves = answered_serves p old made called new m is_ready filed has was in
    record {
      system = was ∙ ap all_answered both.0.system ∙ ap (λ (c : SystemChange). c.system) so;
      wrote = subst (λ (c : SystemChange). CameOut o n c.emitted) so both.0.wrote;
      stands = subst (StandsWorked new.kernel.disk kept disks) (sym (files_are_begun p old made files caller is))
          (worked_on called.kernel.disk new.kernel.disk kept disks (files_called p made files) serves.served serves.steps both.1);
    }

-- whatever the call comes to
pub gate_made : (p : ℕ) (old made called new : System) → file_caller old ≡ Some p → made ≡ call_made p old → IsCalledFrom p made called → new ≡ all_answered called
    → IsOfSome (λ (told : Directly). (begun_as told old).system) new
gate_made p old made called new caller is has was =
    (has.0, was ∙ ap all_answered has.1 ∙ ap (λ (c : SystemChange). c.system) (sym (begun_here has.0 p old made caller is)))

-- where it stopped

pub gate_err : (fault : StepFault) (p : ℕ) (files : FilesInService) (o n : Outside) (old made : System) → file_caller old ≡ Some p → made ≡ call_made p old
    → StopsBy fault o n (file_called (told_at_gate p made files) p made).emitted → StopsBy fault o n (before_disk old files).emitted
gate_err fault p files o n old made caller is stops = subst (λ (c : SystemChange). StopsBy fault o n c.emitted) (sym (before_here p old made files caller is)) stops

pub gate_still : (fault : StepFault) (p : ℕ) (old made : System) (kept : Kept) (disks : Disks) (files : FilesInService) → file_caller old ≡ Some p → made ≡ call_made p old
    → OnWriteFault fault (StandsWorked made.kernel.disk kept disks (files_called p made files)) → OnWriteFault fault (StandsWorked old.kernel.disk kept disks (files_begun old files))
gate_still DiskFault p old made kept disks files caller is stands = tt
gate_still WriteFault p old made kept disks files caller is stands =
    let serves : ServesSame old made = subst (ServesSame old) (sym is) (made_serves p old) in
    subst (StandsWorked old.kernel.disk kept disks) (sym (files_are_begun p old made files caller is))
    (worked_on made.kernel.disk old.kernel.disk kept disks (files_called p made files) (sym serves.served) (sym serves.steps) stands)

-- where a call is in service, no drive fails, and none is called

pub gate_apart : (p : ℕ) (old made : System) → made ≡ call_made p old → is_some old.kernel.disk.served ≡ true → is_some made.kernel.disk.served ≡ true
gate_apart p old made is some =
    ap (λ (s : System). is_some s.kernel.disk.served) is ∙ ap (λ (o : Option Served). is_some o) (made_serves p old).served ∙ some

working_here : (p : ℕ) (old made : System) (filing : Filing) → file_caller old ≡ Some p → made ≡ call_made p old
    → working_in old (Between filing) ≡ working_if (is_done_at_once p made) filing p made
unfolding working_in
working_here p old made filing caller is =
    ap (λ (o : Option ℕ). working_by o filing old) caller ∙ ap (λ (s : System). working_if (is_done_at_once p s) filing p s) (sym is)

in_service : (turn_steps : ℕ) (served : Option Served) (kept : Kept) (disks : Disks) (s : Situation) → StandsWorkedBy turn_steps served kept disks (Within s)
    → is_some served ≡ true
in_service turn_steps None kept disks s stands = absurd stands
in_service turn_steps (Some call) kept disks s stands = refl

pub gate_images : (fault : StepFault) (p : ℕ) (old made : System) (kept : Kept) (disks disks' : Disks) (mounted : List (Option Directory)) (files : FilesInService)
    → file_caller old ≡ Some p → made ≡ call_made p old → StandsWorked old.kernel.disk kept disks files
    → ((filing : Filing) → StandsWorked made.kernel.disk kept disks (Between filing)
    → OnDiskFault fault (HaveImagesOf (FailsWithin (working_if (is_done_at_once p made) filing p made)) disks' mounted))
    → (is_some made.kernel.disk.served ≡ true → fault ≡ WriteFault) → OnDiskFault fault (HaveImagesOf (FailsWithin (working_in old files)) disks' mounted)
gate_images fault p old made kept disks disks' mounted (Between filing) caller is stands images apart =
    subst (λ w. OnDiskFault fault (HaveImagesOf (FailsWithin w) disks' mounted)) (sym (working_here p old made filing caller is))
    (images filing (gate_stands p old made kept disks (Between filing) is stands))
gate_images fault p old made kept disks disks' mounted (Within s) caller is stands images apart =
    no_disk_fault fault _ (apart (gate_apart p old made is (in_service old.kernel.disk.turn_steps old.kernel.disk.served kept disks s stands.stands)))

pub gate_calls : (p : ℕ) (old made : System) (kept : Kept) (disks : Disks) (files : FilesInService) (before behind : ℕ) → file_caller old ≡ Some p → made ≡ call_made p old
    → StandsWorked old.kernel.disk kept disks files
    → ((filing : Filing) → StandsWorked made.kernel.disk kept disks (Between filing) → behind ≤ before + 20 * turns_done (working_if (is_done_at_once p made) filing p made))
    → (is_some made.kernel.disk.served ≡ true → behind ≡ before) → behind ≤ before + 20 * turns_done (working_in old files)
gate_calls p old made kept disks (Between filing) before behind caller is stands calls apart =
    subst (λ w. behind ≤ before + 20 * turns_done w) (sym (working_here p old made filing caller is)) (calls filing (gate_stands p old made kept disks (Between filing) is stands))
gate_calls p old made kept disks (Within s) before behind caller is stands calls apart =
    let same = apart (gate_apart p old made is (in_service old.kernel.disk.turn_steps old.kernel.disk.served kept disks s stands.stands)) in omega (arith, same)

pub gate_idle : (p : ℕ) (old made : System) → file_caller old ≡ Some p → made ≡ call_made p old → works_at_once (file_caller old) old ≡ false
    → (is_some (function_of (call_of made.kernel.dispatcher.procs p).function) && is_done_at_once p made) ≡ false
gate_idle p old made caller is off =
    ap (λ (s : System). is_some (function_of (call_of s.kernel.dispatcher.procs p).function) && is_done_at_once p s) is
    ∙ sym (ap (λ (o : Option ℕ). works_at_once o old) caller) ∙ off
