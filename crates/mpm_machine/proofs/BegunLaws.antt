-- What holds of drives, of what is kept of file calls and of those at the disk holds after what a step begins with, and the disk serves
-- the same call, in turns of as many steps.
use Rattle.std.proofs.Common.{◌≡◌, ◌∙◌, ℕ, ◌+◌, ◌<◌, Bool, true, false, if◌then◌else◌, Option, Some, None, IfSome, is_some, refl, sym, ap, subst, arith, eqb-true}
use Rattle.std.proofs.lemmas.Bool.{false≢true, false_from_ne_true}
use Rattle.mpm_base.specs.declared.functions.TheConstants.{CHAIN_TO_PROGRAM}
use Rattle.mpm_base.proofs.Choices.{either}
use Rattle.mpm_port.specs.Disks.{Disks}
use Rattle.mpm_procs.specs.Table.{Lives, process_in, call_of}
use Rattle.mpm_script.specs.declared.event.Event.{Event}
use Rattle.mpm_service.specs.Disk.{DiskService, entered}
use Rattle.mpm_service.specs.Places.{at_disk, is_call_of}
use Rattle.mpm_service.specs.declared.service.Served.{Served}
use Rattle.mpm_dispatcher.specs.Dispatch.{IsReady}
use Rattle.mpm_kernel.specs.Kernel.{Kernel, IsSoundKernel}
use Rattle.mpm_kernel.specs.Disk.{waiting_for_disk}
use Rattle.mpm_residents.specs.declared.native.Native.{Native}
use Rattle.mpm_residents.specs.Natives.{native_in}
use Rattle.mpm_directories.specs.Direct.{Directly}
use Rattle.mpm_file_functions.specs.Functions.{function_of}
use Rattle.mpm_bdos.specs.Serving.{Kept}
use Rattle.mpm_system.specs.declared.system.System.{System}
use Rattle.mpm_system.specs.Whole.{SystemChange, IsWhole}
use Rattle.mpm_system.specs.Sending.{chains}
use Rattle.mpm_system.specs.Taking.{keeping}
use Rattle.mpm_system.specs.Answering.{popped}
use Rattle.mpm_system.specs.Residents.{asked_by}
use Rattle.mpm_system.specs.Coming.{coming, counted}
use Rattle.mpm_system.specs.FileCalling.{made_by, call_made}
use Rattle.mpm_machine.specs.Holding.{AreFiled, HoldsKept}
use Rattle.mpm_machine.specs.Finishing.{completion_dequeued, command_let_in, all_answered}
use Rattle.mpm_machine.specs.Step.{begun_by}
use Rattle.mpm_machine.specs.FileCalls.{file_caller, concluded}
use Rattle.mpm_machine.specs.DiskStep.{is_done_at_once, file_called}
use Rattle.mpm_machine.specs.Stepping.{begun_alone, begun_with, begun_as}
use Rattle.mpm_machine.proofs.WholeStepLaws.{whole_counted, coming_may, whole_after_begun}
use Rattle.mpm_machine.proofs.FileLaws.{makes}
use Rattle.mpm_machine.proofs.DiskStepLaws.{whole_file_called}
use Rattle.mpm_machine.proofs.FiledLaws.{caller_lives, caller_ready}
use Rattle.mpm_machine.proofs.KeepingLaws.{KeepsService, ServesSame, same_service, same_then, ready_unserved, concluded_serves, event_serves, acted_serves, completion_serves}
use Rattle.mpm_machine.proofs.CallsLaws.{SystemKeepsCalls, calls_then, calls_concluded}
use Rattle.mpm_machine.proofs.CallsActedLaws.{calls_begun_by, calls_made, calls_let_in, calls_all_answered}
use Rattle.mpm_machine.proofs.HoldingLaws.{filed_still, own_still, filed_waiting}

-- the disk serves the same call, and who is at it keeps his
pub record KeepsDisk (old new : System) : Type 0 where
  pub calls : SystemKeepsCalls old new
  pub serves : ServesSame old new

keeps_then : (old middle new : System) → KeepsDisk old middle → KeepsDisk middle new → KeepsDisk old new
keeps_then old middle new first second = record {
  calls = calls_then old.kernel middle.kernel new.kernel first.calls second.calls;
  serves = same_then old.kernel.disk middle.kernel.disk new.kernel.disk first.serves second.serves;
}

pub holds_kept : {D : Type 0} (disks : D → Disks) (old new : System) (kept : Kept) (drives : D) → KeepsDisk old new
    → HoldsKept disks old.kernel kept drives → HoldsKept disks new.kernel kept drives
holds_kept disks old new kept drives keeps h = record {
  filed = filed_still old.kernel new.kernel keeps.calls h.filed;
  own = own_still old.kernel new.kernel kept.service keeps.calls keeps.serves.served h.own;
  begun = subst (λ (o : Option Served). IfSome o (λ (call : Served). 0 < call.left)) (sym keeps.serves.served) h.begun;
  fits = h.fits;
  workless = h.workless;
}

-- who chained isn't served, as he keeps a call that the disk doesn't serve

at_service : (disk : DiskService) (p : ℕ) → is_call_of p disk.served ≡ true → 0 < at_disk disk p
unfolding at_disk
at_service disk p is = some_there _ (is_call_of p disk.served) is where
  some_there : (a b : Bool) → b ≡ true → 0 < ((if a then 1 else 0) + (if b then 1 else 0))
  some_there true true is = omega arith
  some_there false true is = omega arith
  some_there a false is = absurd (false≢true is)

not_chained : (number : ℕ) → number ≡ CHAIN_TO_PROGRAM → is_some (function_of number) ≡ true → ⊥
unfolding function_of
not_chained number is some = false≢true (sym (ap (λ n. is_some (function_of n)) is) ∙ some)

chained_unserved : (p : ℕ) (kernel : Kernel) → AreFiled kernel → chains p kernel ≡ true → is_call_of p kernel.disk.served ≡ false
chained_unserved p kernel filed is =
    false_from_ne_true (is_call_of p kernel.disk.served)
    (λ served.
    not_chained (call_of kernel.dispatcher.procs p).function (eqb-true (call_of kernel.dispatcher.procs p).function CHAIN_TO_PROGRAM is)
    (filed p (at_service kernel.disk p served)))

-- the held calls that were completed are answered
pub keeps_answered : (system : System) → IsWhole system → AreFiled system.kernel → KeepsDisk system (all_answered system)
keeps_answered system w filed = record {
  calls = calls_all_answered system w;
  serves = completion_serves system (λ p is.
      let first = command_let_in p (completion_dequeued system) in
      chained_unserved p first.kernel (filed_still system.kernel first.kernel (calls_let_in p system w) filed) is);
}

-- no file call is made

begun_serves : (event : Option Event) (system : System) → IsSoundKernel system.kernel → ServesSame system (begun_by event system).system
begun_serves None system s = acted_serves system s
begun_serves (Some event) system s = event_serves event system

keeps_begun : (system : System) → IsWhole system → KeepsDisk system (begun_alone system).system
keeps_begun system w =
    let begun = counted system in
    let whole = whole_counted system w in
    record { calls = calls_begun_by (coming begun) begun (coming_may begun whole) whole; serves = begun_serves (coming begun) begun whole.sound }

pub keeps_alone : (system new : System) → IsWhole system → AreFiled system.kernel → new ≡ all_answered (begun_alone system).system → KeepsDisk system new
keeps_alone system new w filed is =
    let begun = (begun_alone system).system in
    let first = keeps_begun system w in
    let whole = whole_after_begun (counted system) begun (whole_counted system w) refl in
    subst (KeepsDisk system) (sym is)
    (keeps_then system begun _ first (keeps_answered begun whole (filed_still system.kernel begun.kernel first.calls filed)))

-- one is made

made_disk : (seg : Option ℕ) (native : Option Native) (p : ℕ) (system : System) → native_in system.residents p ≡ native
    → (made_by seg p system).kernel.disk ≡ system.kernel.disk
unfolding keeping popped
made_disk (Some seg) native p system here = refl
made_disk None None p system here = ap (λ o. (asked_by o p system).kernel.disk) here
made_disk None (Some native) p system here = ap (λ o. (asked_by o p system).kernel.disk) here

pub made_serves : (p : ℕ) (system : System) → ServesSame system (call_made p system)
unfolding call_made
made_serves p system = same_service system.kernel.disk _ (made_disk (process_in system.kernel.dispatcher.procs p).seg _ p (counted system) refl)

pub keeps_made : (p : ℕ) (system made : System) → IsSoundKernel system.kernel → IsReady system.kernel.dispatcher p → made ≡ call_made p system → KeepsDisk system made
keeps_made p system made s is_ready is =
    subst (KeepsDisk system) (sym is) (record { calls = calls_made p system s is_ready; serves = made_serves p system })

-- it is done at once, or waits

keeps_concluded : (told : Directly) (p : ℕ) (system : System) → IsWhole system → Lives system.kernel.dispatcher.procs p → IsReady system.kernel.dispatcher p
    → KeepsDisk system (concluded told p system).system
keeps_concluded told p system w h is_ready =
    record { calls = calls_concluded told p system w h; serves = concluded_serves told p system (ready_unserved system p w.sound is_ready) }

pub waiting_serves : (p : ℕ) (kernel : Kernel) → KeepsService kernel.disk (waiting_for_disk p kernel).disk
unfolding waiting_for_disk entered
waiting_serves p kernel = record { served = refl; steps = refl }

holds_waiting : {D : Type 0} (disks : D → Disks) (p : ℕ) (system : System) (kept : Kept) (drives : D) → is_done_at_once p system ≡ false
    → HoldsKept disks system.kernel kept drives → HoldsKept disks (waiting_for_disk p system.kernel) kept drives
unfolding waiting_for_disk entered
holds_waiting disks p system kept drives waits h = record {
  filed = filed_waiting p system waits h.filed;
  own = h.own;
  begun = h.begun;
  fits = h.fits;
  workless = h.workless;
}

pub filed_called : (told : Directly) (p : ℕ) (system : System) → IsWhole system → Lives system.kernel.dispatcher.procs p → AreFiled system.kernel
    → AreFiled (file_called told p system).system.kernel
unfolding file_called
filed_called told p system w h filed =
    either (λ (c : SystemChange). AreFiled c.system.kernel) (is_done_at_once p system) _ _
    (λ _. filed_still system.kernel (concluded told p system).system.kernel (calls_concluded told p system w h) filed)
    (λ waits. filed_waiting p system waits filed)

pub called_serves : (told : Directly) (p : ℕ) (system : System) → IsSoundKernel system.kernel → IsReady system.kernel.dispatcher p → ServesSame system (file_called told p system).system
unfolding file_called
called_serves told p system s is_ready =
    either (λ (c : SystemChange). ServesSame system c.system) (is_done_at_once p system) _ _
    (λ _. concluded_serves told p system (ready_unserved system p s is_ready)) (λ _. waiting_serves p system.kernel)

pub holds_called : {D : Type 0} (disks : D → Disks) (told : Directly) (p : ℕ) (system : System) (kept : Kept) (drives : D) → IsWhole system
    → Lives system.kernel.dispatcher.procs p → IsReady system.kernel.dispatcher p → HoldsKept disks system.kernel kept drives
    → HoldsKept disks (file_called told p system).system.kernel kept drives
unfolding file_called
holds_called disks told p system kept drives w h is_ready holds =
    either (λ (c : SystemChange). HoldsKept disks c.system.kernel kept drives) (is_done_at_once p system) _ _
    (λ _. holds_kept disks system (concluded told p system).system kept drives (keeps_concluded told p system w h is_ready) holds)
    (λ waits. holds_waiting disks p system kept drives waits holds)

-- and then the held calls that this completed are answered
pub holds_answered : {D : Type 0} (disks : D → Disks) (told : Directly) (p : ℕ) (made called new : System) (kept : Kept) (drives : D) → IsWhole made
    → Lives made.kernel.dispatcher.procs p → IsReady made.kernel.dispatcher p → IsWhole called → called ≡ (file_called told p made).system → new ≡ all_answered called
    → HoldsKept disks made.kernel kept drives → HoldsKept disks new.kernel kept drives
holds_answered disks told p made called new kept drives w h is_ready whole is was holds =
    let behind : HoldsKept disks called.kernel kept drives =
    subst (λ (s : System). HoldsKept disks s.kernel kept drives) (sym is) (holds_called disks told p made kept drives w h is_ready holds) in
    subst (λ (s : System). HoldsKept disks s.kernel kept drives) (sym was)
    (holds_kept disks called (all_answered called) kept drives (keeps_answered called whole behind.filed) behind)

-- whatever it begins with, the disk serves the same call

with_serves : (caller : Option ℕ) (told : Directly) (system : System) → IsWhole system → AreFiled system.kernel → IfSome caller (λ p. Lives system.kernel.dispatcher.procs p)
    → IfSome caller (λ p. IsReady system.kernel.dispatcher p) → ServesSame system (all_answered (begun_with caller told system).system)
with_serves None told system w filed h is_ready = (keeps_alone system _ w filed refl).serves
with_serves (Some p) told system w filed h is_ready =
    let made = call_made p system in
    let makes_call = makes p system w h in
    let keeps = keeps_made p system made w.sound is_ready refl in
    let ready_then = makes_call.ready is_ready in
    let called = (file_called told p made).system in
    let filed_then = filed_called told p made makes_call.whole makes_call.lives (filed_still system.kernel made.kernel keeps.calls filed) in
    same_then system.kernel.disk made.kernel.disk _ keeps.serves
    (same_then made.kernel.disk called.kernel.disk _ (called_serves told p made makes_call.whole.sound ready_then)
    (keeps_answered called (whole_file_called told p made makes_call.whole makes_call.lives ready_then) filed_then).serves)

pub begun_as_serves : (told : Directly) (system : System) → IsWhole system → AreFiled system.kernel → ServesSame system (begun_as told system).system
unfolding begun_as
begun_as_serves told system w filed = with_serves (file_caller system) told system w filed (caller_lives system w) (caller_ready system w)
