-- File calls: a system stays whole through the parts of the step in which one is made, and what is said in them.
use Rattle.std.proofs.Common.{◌≡◌, ◌∙◌, ℕ, Bool, true, false, not, ◌==◌, Option, Some, None, length, arith, refl, sym, ap, subst}
use Rattle.std.specs.Prelude.{is_some, is_none}
use Rattle.std.proofs.lemmas.Bool.{false≢true}
use Rattle.mpm_base.proofs.Choices.{either}
use Rattle.mpm_base.specs.Calls.{Answer}
use Rattle.mpm_procs.specs.Table.{Lives, process_in, call_of}
use Rattle.mpm_procs.specs.declared.process.Process.{Process}
use Rattle.mpm_procs.proofs.MapLaws.{lives_below, process_changed}
use Rattle.mpm_banks.specs.Memory.{byte_at}
use Rattle.mpm_gate.specs.Replies.{returned}
use Rattle.mpm_dispatcher.specs.Dispatch.{IsReady}
use Rattle.mpm_kernel.specs.Kernel.{with_changed}
use Rattle.mpm_residents.specs.declared.native.Native.{Native}
use Rattle.mpm_residents.specs.Natives.{native_call, native_in}
use Rattle.mpm_output.specs.Outside.{Outside, Device}
use Rattle.mpm_output.specs.Writing.{CameOut, DeviceFails}
use Rattle.mpm_output.specs.Texts.{error_text}
use Rattle.mpm_file_functions.specs.declared.refusals.Extended.{Extended}
use Rattle.mpm_directories.specs.Direct.{CallerChange, Stays, Selects, Resets, Directly}
use Rattle.mpm_system.specs.declared.system.System.{System}
use Rattle.mpm_system.specs.Whole.{SystemChange, IsWhole, HasRoom, speaking}
use Rattle.mpm_system.specs.Taking.{asked, keeping}
use Rattle.mpm_system.specs.Answering.{popped}
use Rattle.mpm_system.specs.Residents.{asked_by}
use Rattle.mpm_system.specs.Coming.{counted}
use Rattle.mpm_system.specs.FileCalling.{made_by, call_made, first_dma, with_caller, reply_by, file_replied, error_told}
use Rattle.mpm_system.proofs.WholeLaws.{StaysWhole, whole_residents, keeps_call, keeps_asked, whole_changed}
use Rattle.mpm_machine.specs.FileCalls.{answered_or_ended, told_then, error_met, answered_by, concluded}
use Rattle.mpm_machine.proofs.WholeLaws.{whole_speaking, whole_ended, whole_popped, whole_replied}
use Rattle.mpm_machine.proofs.WholeStepLaws.{whole_counted}

-- the call is made
pub record Made (p : ℕ) (old new : System) : Type 0 where
  pub whole : IsWhole new
  pub lives : Lives new.kernel.dispatcher.procs p
  pub ready : IsReady old.kernel.dispatcher p → IsReady new.kernel.dispatcher p
  pub home : (process_in new.kernel.dispatcher.procs p).seg ≡ (process_in old.kernel.dispatcher.procs p).seg

home_popped : (p seg : ℕ) (system : System) → IsWhole system → Lives system.kernel.dispatcher.procs p
    → (process_in (popped p seg system).kernel.dispatcher.procs p).seg ≡ (process_in system.kernel.dispatcher.procs p).seg
unfolding popped
home_popped p seg system w h =
    let procs = system.kernel.dispatcher.procs in
    let process = record (process_in procs p) { regs = returned (byte_at system.memory seg) (process_in procs p).regs } in
    ap (λ (q : Process). q.seg) (process_changed procs p process (omega (arith, w.sound.slots.processes, lives_below procs p w.sound.slots h)))

ready_popped : (p seg : ℕ) (system : System) → IsReady system.kernel.dispatcher p → IsReady (popped p seg system).kernel.dispatcher p
unfolding popped
ready_popped p seg system is_ready = is_ready

made_at : (seg : Option ℕ) (native : Option Native) (p : ℕ) (system : System) → IsWhole system → Lives system.kernel.dispatcher.procs p
    → native_in system.residents p ≡ native → Made p system (made_by seg p system)
made_at (Some seg) native p system w h here =
    let kept = keeps_call p (asked p seg system) system w h in
    let behind = whole_popped p seg (keeping p (asked p seg system) system) kept.whole kept.lives in
    record { whole = behind.whole; lives = behind.lives; ready = λ is_ready. ready_popped p seg (keeping p (asked p seg system) system) (kept.ready is_ready); home = home_popped p seg (keeping p (asked p seg system) system) kept.whole kept.lives ∙ kept.home }
made_at None None p system w h here = subst (λ o. Made p system (asked_by o p system)) (sym here) (record { whole = w; lives = h; ready = λ is_ready. is_ready; home = refl })
made_at None (Some native) p system w h here =
    let kept = keeps_asked p (native_call native) system w h in
    subst (λ o. Made p system (asked_by o p system)) (sym here) (record { whole = kept.whole; lives = kept.lives; ready = kept.ready; home = kept.home })

pub makes : (p : ℕ) (system : System) → IsWhole system → Lives system.kernel.dispatcher.procs p → Made p system (call_made p system)
unfolding call_made
makes p system w h =
    let made = made_at (process_in system.kernel.dispatcher.procs p).seg _ p (counted system) (whole_counted system w) h refl in
    record { whole = made.whole; lives = made.lives; ready = made.ready; home = made.home }

-- its caller changes, where it isn't refused by an extended error

pub granted_is : (granted : Bool) (error : Option Extended) → is_some error ≡ not granted → granted ≡ is_none error
granted_is true None e = refl
granted_is true (Some error) e = absurd (false≢true (sym e))
granted_is false None e = absurd (false≢true e)
granted_is false (Some error) e = refl

whole_placed : (p drive dma : ℕ) (system : System) → IsWhole system → Lives system.kernel.dispatcher.procs p
    → StaysWhole p system (record system { kernel = with_changed system.kernel p (record (process_in system.kernel.dispatcher.procs p) { drive = drive; dma = dma }) })
whole_placed p drive dma system w h =
    whole_changed p (record (process_in system.kernel.dispatcher.procs p) { drive = drive; dma = dma }) system w h refl refl refl refl refl refl

pub whole_caller : (change : CallerChange) (p : ℕ) (system : System) → IsWhole system → Lives system.kernel.dispatcher.procs p
    → StaysWhole p system (with_caller change p system)
unfolding with_caller
whole_caller Stays p system w h = record { whole = w; lives = h; call = refl }
whole_caller (Selects drive) p system w h = whole_placed p drive (process_in system.kernel.dispatcher.procs p).dma system w h
whole_caller Resets p system w h = whole_placed p 0 (first_dma system.memory (process_in system.kernel.dispatcher.procs p).seg) system w h

pub caller_stays : (change : CallerChange) (p : ℕ) (old new : System) → IsWhole old → Lives old.kernel.dispatcher.procs p → new ≡ with_caller change p old
    → StaysWhole p old new
caller_stays change p old new w h is = subst (StaysWhole p old) (sym is) (whole_caller change p old w h)

pub room_changed : (change : CallerChange) (p : ℕ) (old new : System) → HasRoom old → new ≡ with_caller change p old → HasRoom new
unfolding with_caller
room_changed Stays p old new room is = omega (arith, room, ap (λ (s : System). length s.records) is)
room_changed (Selects drive) p old new room is = omega (arith, room, ap (λ (s : System). length s.records) is)
room_changed Resets p old new room is = omega (arith, room, ap (λ (s : System). length s.records) is)

-- it is answered

whole_reply_by : (seg : Option ℕ) (reply : Answer) (p : ℕ) (system : System) → IsWhole system → Lives system.kernel.dispatcher.procs p
    → IsWhole (reply_by seg reply p system)
whole_reply_by (Some seg) reply p system w h = (whole_replied reply (call_of system.kernel.dispatcher.procs p) p seg system w h).whole
whole_reply_by None reply p system w h = whole_residents system _ w

whole_file_replied : (reply : Answer) (p : ℕ) (system : System) → IsWhole system → Lives system.kernel.dispatcher.procs p
    → IsWhole (file_replied reply p system)
unfolding file_replied
whole_file_replied reply p system w h = whole_reply_by (process_in system.kernel.dispatcher.procs p).seg reply p system w h

-- or its extended error is displayed

pub whole_told : (error : Extended) (p : ℕ) (system : System) → IsWhole system → Lives system.kernel.dispatcher.procs p
    → StaysWhole p system (error_told error p system).system
unfolding error_told
whole_told error p system w h =
    whole_speaking (process_in system.kernel.dispatcher.procs p).console p (error_text error.code error.drive) system w h

pub told_stays : (error : Extended) (p : ℕ) (old told : System) → IsWhole old → Lives old.kernel.dispatcher.procs p → told ≡ (error_told error p old).system
    → StaysWhole p old told
told_stays error p old told w h is = subst (StaysWhole p old) (sym is) (whole_told error p old w h)

pub room_told : (error : Extended) (p : ℕ) (old told : System) → HasRoom old → told ≡ (error_told error p old).system → HasRoom told
unfolding error_told speaking
room_told error p old told room is = omega (arith, room, ap (λ (s : System). length s.records) is)

whole_told_then : (answers : Bool) (error : Extended) (reply : Answer) (p : ℕ) (system : System) → IsWhole system → Lives system.kernel.dispatcher.procs p
    → IsWhole (told_then answers error reply p system).system
unfolding told_then
whole_told_then answers error reply p system w h =
    let told = whole_told error p system w h in
    either IsWhole answers _ _ (λ _. whole_file_replied reply p (error_told error p system).system told.whole told.lives)
    (λ _. whole_ended p (error_told error p system).system told.whole told.lives)

whole_met : (error : Extended) (reply : Answer) (p : ℕ) (system : System) → IsWhole system → Lives system.kernel.dispatcher.procs p
    → IsWhole (error_met error reply p system).system
unfolding error_met
whole_met error reply p system w h =
    let mode = (process_in system.kernel.dispatcher.procs p).error_mode in
    either (λ (c : SystemChange). IsWhole c.system) (mode == 255) _ _ (λ _. whole_file_replied reply p system w h)
    (λ _. whole_told_then (mode == 254) error reply p system w h)

whole_answered_by : (error : Option Extended) (reply : Answer) (p : ℕ) (system : System) → IsWhole system → Lives system.kernel.dispatcher.procs p
    → IsWhole (answered_by error reply p system).system
whole_answered_by None reply p system w h = whole_file_replied reply p system w h
whole_answered_by (Some error) reply p system w h = whole_met error reply p system w h

pub whole_concluded : (told : Directly) (p : ℕ) (system : System) → IsWhole system → Lives system.kernel.dispatcher.procs p
    → IsWhole (concluded told p system).system
unfolding concluded
whole_concluded told p system w h =
    let changed = whole_caller told.caller p system w h in
    whole_answered_by told.extended told.answer p (with_caller told.caller p system) changed.whole changed.lives

-- what is said: where a part fails, and what comes after it

pub told_fails : (device : Device) (answers : Bool) (error : Extended) (reply : Answer) (p : ℕ) (system : System) (o n : Outside)
    → DeviceFails device o n (error_told error p system).emitted → DeviceFails device o n (told_then answers error reply p system).emitted
unfolding told_then
told_fails device answers error reply p system o n failed = failed

pub wrote_told : (answers : Bool) (error : Extended) (reply : Answer) (p : ℕ) (system : System) (o n : Outside)
    → CameOut o n (error_told error p system).emitted → CameOut o n (told_then answers error reply p system).emitted
unfolding told_then
wrote_told answers error reply p system o n wrote = wrote

pub told_system : (answers : Bool) (error : Extended) (reply : Answer) (p : ℕ) (system told new : System) → told ≡ (error_told error p system).system
    → new ≡ answered_or_ended answers reply p told → new ≡ (told_then answers error reply p system).system
unfolding told_then
told_system answers error reply p system told new is was = was ∙ ap (answered_or_ended answers reply p) is
