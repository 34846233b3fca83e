-- What another resident does leaves a resident's slot: its calls, and what the interpreter hands over.
use Rattle.std.proofs.Common.{ℕ, [], ◌≡◌, ◌≢◌, ◌∙◌, ◌<◌, true, List, ◌∷◌, zero, suc, length, Option, Some, None, refl, sym, ap, arith}
use Rattle.std.specs.Prelude.{slice_get, slice_set}
use Rattle.std.proofs.lemmas.Bool.{false≢true, and_parts}
use Rattle.std.proofs.lemmas.Bool.Decides.{nat_tests}
use Rattle.mpm_base.proofs.Choices.{either}
use Rattle.mpm_base.specs.Calls.{Taken, Answer, answering}
use Rattle.mpm_base.specs.declared.call.Outcome.{Outcome as Ended_how}
use Rattle.mpm_base.specs.declared.call.Outcome.TheVariants.{Done, Held, Retry, Ended}
use Rattle.mpm_dispatcher.specs.Dispatch.{IsReady, admitted}
use Rattle.mpm_kernel.proofs.AwaitingEnds.{awaits_gave, awaits_in_slot}
use Rattle.mpm_kernel.proofs.Beside.{StaysBeside, beside_same, beside_both}
use Rattle.mpm_kernel.proofs.GivingLaws.{procs_gave}
use Rattle.mpm_kernel.proofs.SoundLaws.{sound_admitted}
use Rattle.mpm_kernel.specs.Awaiting.{AwaitsIn}
use Rattle.mpm_kernel.specs.Called.{low_parameter}
use Rattle.mpm_kernel.specs.Consoling.{given}
use Rattle.mpm_kernel.specs.Kernel.{Kernel, dispatched as with_dispatcher}
use Rattle.mpm_procs.proofs.MapLaws.{free_is_dead, lives_added_other, process_added_other, call_added_other, free_below, lives_added}
use Rattle.mpm_procs.specs.Table.{lives, Lives, call_of, lowest_free, added}
use Rattle.mpm_procs.specs.declared.process.NewProcess.{NewProcess}
use Rattle.mpm_procs.specs.declared.process.Process.{Process}
use Rattle.mpm_residents.specs.Natives.{native_in, native_call, native_act, answer_taken, native_took}
use Rattle.mpm_residents.specs.declared.cli.act.Act.{Act}
use Rattle.mpm_residents.specs.declared.cli.act.Act.TheVariants.{Ask, PlaceBytes, MoveCode, BeginProcess, GiveConsole}
use Rattle.mpm_residents.specs.declared.native.Native.{Native}
use Rattle.mpm_system.proofs.PlacedLaws.{given_disk}
use Rattle.mpm_system.proofs.WholeLaws.{keeps_asked}
use Rattle.mpm_system.specs.Calling.{asking}
use Rattle.mpm_system.specs.Loading.{is_console, may_live, begins, begun_for, handed_over, handed_answer}
use Rattle.mpm_system.specs.Residents.{taking, handing_step, telling_step, tells, text_told}
use Rattle.mpm_system.specs.Saying.{said_by}
use Rattle.mpm_system.specs.Whole.{IsWhole, silent}
use Rattle.mpm_system.specs.declared.system.System.{System}
use Rattle.mpm_machine.proofs.ActedLaws.{whole_to_all}
use Rattle.mpm_machine.proofs.KeepingLaws.{begun_for_disk}
use Rattle.mpm_machine.proofs.PrinterCalls.{KeepsPrinter, prints_same, prints_both}
use Rattle.mpm_machine.proofs.PrinterEnds.{prints_gave, prints_in_slot}
use Rattle.mpm_machine.proofs.SparedParts.{Spares, spares_then, spares_on, spares_same, spares_itself, spares_kernel, spares_with, spares_spoke, spares_ended, spares_asking, spares_to_all, disk_place}
use Rattle.mpm_machine.proofs.SparedActs.{SaysOwn, says_to_all, spares_said, spares_echoed, spares_after}
use Rattle.mpm_machine.specs.Residing.{calling_step, native_outcome, native_step, resided}
use Rattle.mpm_machine.specs.Serving.{served_to_all}

-- another resident takes an answer

set_other : (natives : List Native) (p q : ℕ) (native : Native) → q ≢ p → slice_get (slice_set natives p native) q ≡ slice_get natives q
set_other [] p q native other = refl
set_other (first ∷ others) zero zero native other = absurd (other refl)
set_other (first ∷ others) zero (suc q) native other = refl
set_other (first ∷ others) (suc p) zero native other = refl
set_other (first ∷ others) (suc p) (suc q) native other = set_other others p q native (λ is. other (ap suc is))

pub taken_other : (o : Option Native) (reply : Answer) (p q : ℕ) (natives : List Native) → q ≢ p → native_in (answer_taken o reply p natives) q ≡ native_in natives q
taken_other None reply p q natives other = refl
taken_other (Some native) reply p q natives other = set_other natives p q (native_took native reply) other

pub spares_taking : (q : ℕ) (reply : Answer) (p : ℕ) (system : System) → q ≢ p → Spares q system (silent (taking reply p system))
spares_taking q reply p system other =
    let itself = spares_itself q system in
    record {
      beside = itself.beside;
      printer = itself.printer;
      resident = taken_other (native_in system.residents p) reply p q system.residents other;
      place = refl;
      pays = λ x. x;
      awaits = λ k x. x;
      nothing = itself.nothing;
    }

-- its call

spares_native : (q : ℕ) (outcome : Ended_how) (reply : Answer) (call : Taken) (p : ℕ) (system : System) → IsWhole system → Lives system.kernel.dispatcher.procs p → q ≢ p
    → (outcome ≡ Done → SaysOwn call p system) → Spares q system (native_outcome outcome reply call p system)
spares_native q Done reply call p system w h other says =
    let spoke = said_by call call.bytes p system in
    spares_on q system spoke _ (spares_said q call call.bytes p system other (says refl)) (spares_taking q reply p spoke.system other)
spares_native q Ended reply call p system w h other says = spares_ended q p system w h other
spares_native q Held reply call p system w h other says = spares_itself q system
spares_native q Retry reply call p system w h other says = spares_itself q system

pub spares_text : (q : ℕ) (call : Taken) (system : System) → Spares q system (text_told call system)
spares_text q call system =
    either (Spares q system) (is_console (low_parameter call) system.kernel) _ (silent system) (λ _. spares_spoke q (low_parameter call) _ system) (λ _. spares_itself q system)

spares_asks : (q : ℕ) (call : Taken) (p : ℕ) (system : System) → call_of system.kernel.dispatcher.procs p ≡ call → IsWhole system → Lives system.kernel.dispatcher.procs p
    → IsReady system.kernel.dispatcher p → q ≢ p → Spares q system (native_step Ask call p system)
unfolding calling_step telling_step
spares_asks q call p system keeps w h ready other =
    let result = served_to_all call p system in
    let done = whole_to_all call p system keeps w h ready in
    let told = text_told call system in
    either (Spares q system) (tells (native_in system.residents p) call) _ _
    (λ _. spares_on q system told _ (spares_text q call system) (spares_taking q (answering 0) p told.system other))
    (λ _. spares_echoed q call p system result.system (native_outcome result.outcome result.reply call p result.system)
    (spares_after q system result.system _ (spares_to_all q call p system w h ready other)
    (spares_native q result.outcome result.reply call p result.system done.whole done.lives other (says_to_all call p system keeps w h))))

-- what the interpreter hands over

spares_given : (q console p : ℕ) (system : System) → IsWhole system → Spares q system (silent (handed_over (GiveConsole console) [] p system))
spares_given q console p system w =
    let gave = given console (Some p) None system.kernel in
    either (λ (k : Kernel). Spares q system (silent (record system { kernel = k }))) (is_console console system.kernel) gave system.kernel
    (λ there.
    spares_kernel q system gave (beside_same q system.kernel.dispatcher.procs gave.dispatcher.procs (procs_gave console (Some p) None system.kernel))
    (prints_gave q console (Some p) None system.kernel) (disk_place q system.kernel gave (given_disk console (Some p) None system.kernel))
    (λ k x. awaits_gave k q console (Some p) None system.kernel w.sound (grind (arith, nat_tests, there)) tt x))
    (λ _. spares_itself q system)

beside_begun : (q : ℕ) (slot : Option ℕ) (p : ℕ) (new : NewProcess) (kernel : Kernel) → lowest_free kernel.dispatcher.procs ≡ slot → Lives kernel.dispatcher.procs q
    → StaysBeside q kernel.dispatcher.procs (begun_for p new slot kernel).dispatcher.procs
beside_begun q None p new kernel free h = beside_same q kernel.dispatcher.procs kernel.dispatcher.procs refl
beside_begun q (Some r) p new kernel free h =
    let procs = kernel.dispatcher.procs in
    let apart : q ≢ r = λ is. false≢true (sym (free_is_dead procs r free) ∙ ap (lives procs) (sym is) ∙ h) in
    let same = process_added_other procs r q new apart in
    beside_both q procs (added procs r new) (begun_for p new (Some r) kernel).dispatcher.procs
    (record {
      living = lives_added_other procs r q new apart;
      seg = ap (λ (x : Process). x.seg) same;
      due = ap (λ (x : Process). x.abort_due) same;
      function = ap (λ (x : Taken). x.function) (call_added_other procs r q new apart);
      answers = λ _. ap (λ (x : Process). x.error_mode) same;
      multi = λ _. ap (λ (x : Process). x.multi) same;
    })
    (beside_same q (added procs r new) _ (procs_gave new.console (Some p) (Some r) (with_dispatcher (admitted r new) kernel)))

prints_begun : (q : ℕ) (slot : Option ℕ) (p : ℕ) (new : NewProcess) (kernel : Kernel) → lowest_free kernel.dispatcher.procs ≡ slot → Lives kernel.dispatcher.procs q
    → KeepsPrinter q kernel (begun_for p new slot kernel)
prints_begun q None p new kernel free h = prints_same q kernel kernel refl refl
prints_begun q (Some r) p new kernel free h =
    let procs = kernel.dispatcher.procs in
    let apart : q ≢ r = λ is. false≢true (sym (free_is_dead procs r free) ∙ ap (lives procs) (sym is) ∙ h) in
    let begun = with_dispatcher (admitted r new) kernel in
    prints_both q kernel begun _ (prints_in_slot q (Some r) new kernel (process_added_other procs r q new apart) (call_added_other procs r q new apart)) (prints_gave q new.console (Some p) (Some r) begun)

awaits_begun : (q : ℕ) (slot : Option ℕ) (k p : ℕ) (new : NewProcess) (system : System) → IsWhole system → new.console < length system.kernel.units.consoles
    → lowest_free system.kernel.dispatcher.procs ≡ slot → AwaitsIn k q system.kernel → AwaitsIn k q (begun_for p new slot system.kernel)
awaits_begun q None k p new system w below free a = a
awaits_begun q (Some r) k p new system w below free a =
    let begun = with_dispatcher (admitted r new) system.kernel in
    awaits_gave k q new.console (Some p) (Some r) begun (sound_admitted system.kernel r new w.sound free below) below
    (lives_added system.kernel.dispatcher.procs r new (free_below system.kernel.dispatcher.procs r free))
    (awaits_in_slot k q system.kernel new (Some r) w.sound free a)

spares_beginning : (q seg : ℕ) (new : NewProcess) (p : ℕ) (system : System) → IsWhole system → Lives system.kernel.dispatcher.procs q → Spares q system (silent (handed_over (BeginProcess seg new) [] p system))
spares_beginning q seg new p system w h =
    let here = record new { seg = Some seg } in
    let slot = lowest_free system.kernel.dispatcher.procs in
    either (λ (s : System). Spares q system (silent s)) (begins seg new system) _ system
    (λ may.
    let parts = and_parts (is_console new.console system.kernel) _ (and_parts (may_live system.memory seg) _ may).1 in
    let there : is_console new.console system.kernel ≡ true = parts.0 in
    spares_with q system _ refl (beside_begun q slot p here system.kernel refl h) (prints_begun q slot p here system.kernel refl h)
    (disk_place q system.kernel (begun_for p here slot system.kernel) (begun_for_disk p here slot system.kernel)) (λ x. x)
    (λ k x. awaits_begun q slot k p here system w (grind (arith, nat_tests, there)) refl x))
    (λ _. spares_itself q system)

spares_handed : (q : ℕ) (act : Act) (bytes : List ℕ) (p : ℕ) (system : System) → IsWhole system → Lives system.kernel.dispatcher.procs q → Spares q system (silent (handed_over act bytes p system))
spares_handed q Ask bytes p system w h = spares_itself q system
spares_handed q (PlaceBytes seg address count) bytes p system w h = spares_same q system _ refl refl refl refl refl refl (λ x. x)
spares_handed q (MoveCode seg address count page) bytes p system w h = spares_same q system _ refl refl refl refl refl refl (λ x. x)
spares_handed q (BeginProcess seg new) bytes p system w h = spares_beginning q seg new p system w h
spares_handed q (GiveConsole console) bytes p system w h = spares_given q console p system w

spares_handing : (q : ℕ) (act : Act) (call : Taken) (p : ℕ) (system : System) → IsWhole system → Lives system.kernel.dispatcher.procs q → q ≢ p
    → Spares q system (silent (handing_step act call p system))
unfolding handing_step
spares_handing q act call p system w h other =
    let handed = handed_over act call.bytes p system in
    spares_then q system handed _ (spares_handed q act call.bytes p system w h) (spares_taking q (handed_answer act system) p handed other)

spares_by_act : (q : ℕ) (act : Act) (call : Taken) (p : ℕ) (system : System) → call_of system.kernel.dispatcher.procs p ≡ call → IsWhole system → Lives system.kernel.dispatcher.procs p
    → IsReady system.kernel.dispatcher p → q ≢ p → Lives system.kernel.dispatcher.procs q → Spares q system (native_step act call p system)
spares_by_act q Ask call p system keeps w h ready other living = spares_asks q call p system keeps w h ready other
spares_by_act q (PlaceBytes seg address count) call p system keeps w h ready other living = spares_handing q (PlaceBytes seg address count) call p system w living other
spares_by_act q (MoveCode seg address count page) call p system keeps w h ready other living = spares_handing q (MoveCode seg address count page) call p system w living other
spares_by_act q (BeginProcess seg new) call p system keeps w h ready other living = spares_handing q (BeginProcess seg new) call p system w living other
spares_by_act q (GiveConsole console) call p system keeps w h ready other living = spares_handing q (GiveConsole console) call p system w living other

pub spares_resided : (q : ℕ) (native : Option Native) (p : ℕ) (system : System) → IsWhole system → Lives system.kernel.dispatcher.procs p → IsReady system.kernel.dispatcher p
    → q ≢ p → Lives system.kernel.dispatcher.procs q → Spares q system (resided native p system)
spares_resided q None p system w h ready other living = spares_itself q system
spares_resided q (Some native) p system w h ready other living =
    let call = native_call native in
    let kept = keeps_asked p call system w h in
    let first = spares_asking q p call system other in
    spares_after q system (asking p call system) _ first
    (spares_by_act q (native_act native) call p (asking p call system) kept.call kept.whole kept.lives (kept.ready ready) other (first.beside.living ∙ living))
