-- The step of a resident: its process keeps what it fills in, which is done, and what its outcome brings about follows.
use Rattle.std.proofs.Common.{◌≡◌, ◌∙◌, ℕ, ◌==◌, Bool, true, false, if◌then◌else◌, List, ◌∷◌, [], Option, Some, None, is_some, refl, sym, ap, subst, IfSome, eqb-true}
use Rattle.std.proofs.lemmas.Bool.{false≢true}
use Rattle.mpm_base.proofs.Choices.{either}
use Rattle.mpm_base.specs.Calls.{Taken, Answer}
use Rattle.mpm_base.specs.declared.call.Outcome.{Outcome}
use Rattle.mpm_base.specs.declared.call.Outcome.TheVariants.{Done, Held, Retry, Ended}
use Rattle.mpm_base.specs.declared.functions.TheConstants.{ABSOLUTE_MEMORY_REQUEST, RELOCATABLE_MEMORY_REQUEST, MEMORY_FREE, SEND_CLI_COMMAND, CONSOLE_OUTPUT, PRINT_STRING}
use Rattle.mpm_procs.specs.Table.{Lives, process_in, call_of}
use Rattle.mpm_dispatcher.specs.Dispatch.{IsReady}
use Rattle.mpm_kernel.specs.Columns.{column_of, expanded, tab_text}
use Rattle.mpm_kernel.specs.Called.{low_parameter}
use Rattle.mpm_kernel.specs.ConsoleInput.{writes}
use Rattle.mpm_residents.specs.declared.cli.act.Act.{Act}
use Rattle.mpm_residents.specs.Natives.{native_act, native_call, native_in}
use Rattle.mpm_residents.specs.declared.native.Native.{Native}
use Rattle.mpm_base.specs.declared.unit.Unit.TheVariants.{Printer}
use Rattle.mpm_render.specs.Outputs.{said}
use Rattle.mpm_system.specs.declared.system.System.{System}
use Rattle.mpm_system.specs.Whole.{SystemChange, IsWhole, silent, speaking}
use Rattle.mpm_system.specs.Calling.{Served}
use Rattle.mpm_system.specs.Segments.{reserving, releasing}
use Rattle.mpm_system.specs.Saying.{call_text, printed, said_by}
use Rattle.mpm_system.specs.Residents.{asked_by, taking}
use Rattle.mpm_system.proofs.WholeLaws.{Keeps, keeps_asked}
use Rattle.mpm_machine.specs.Serving.{served_to_all, after_echo}
use Rattle.mpm_machine.specs.Residing.{native_outcome, calling_step, native_step, resided}
use Rattle.mpm_machine.proofs.WholeLaws.{StaysServed}
use Rattle.mpm_machine.proofs.ActedLaws.{whole_to_all}

-- its process keeps what the resident fills in, and the step is what comes of that
pub record Resides (p : ℕ) (act : Act) (old asked : System) : Type 0 where
  pub whole : IsWhole asked
  pub lives : Lives asked.kernel.dispatcher.procs p
  pub ready : IsReady old.kernel.dispatcher p → IsReady asked.kernel.dispatcher p
  pub has : is_some (native_in asked.residents p) ≡ true
  pub change : native_step act (call_of asked.kernel.dispatcher.procs p) p asked ≡ resided (native_in old.residents p) p old

resides_by : (o : Option Native) (p : ℕ) (act : Act) (old asked : System) → IsWhole old → Lives old.kernel.dispatcher.procs p → native_in old.residents p ≡ o
    → is_some o ≡ true → asked ≡ asked_by o p old → IfSome o (λ native. act ≡ native_act native) → Resides p act old asked
resides_by None p act old asked w h here has is acts = absurd (false≢true has)
resides_by (Some native) p act old asked w h here has is acts =
    let call = native_call native in
    let kept : Keeps p call old asked = subst (λ s. Keeps p call old s) (sym is) (keeps_asked p call old w h) in
    record {
      whole = kept.whole;
      lives = kept.lives;
      ready = kept.ready;
      has = ap (λ (s : System). is_some (native_in s.residents p)) is ∙ ap (λ (o : Option Native). is_some o) here;
      change = ap (λ c. native_step act c p asked) kept.call
          ∙ ap (λ a. native_step a call p asked) acts
          ∙ ap (native_step (native_act native) call p) is
          ∙ sym (ap (λ o. resided o p old) here);
    }

pub resides : (p : ℕ) (act : Act) (old asked : System) → IsWhole old → Lives old.kernel.dispatcher.procs p → is_some (native_in old.residents p) ≡ true
    → asked ≡ asked_by (native_in old.residents p) p old → IfSome (native_in old.residents p) (λ native. act ≡ native_act native) → Resides p act old asked
resides p act old asked w h has is acts = resides_by (native_in old.residents p) p act old asked w h refl has is acts

-- where no resident acts in a slot, nothing happens
pub nobody_resides : (p : ℕ) (system : System) → is_some (native_in system.residents p) ≡ false → resided (native_in system.residents p) p system ≡ silent system
nobody_resides p system none = nobody_by (native_in system.residents p) none where
  nobody_by : (o : Option Native) → is_some o ≡ false → resided o p system ≡ silent system
  nobody_by None none = refl
  nobody_by (Some native) none = absurd (false≢true (sym none))

-- what a call of a resident brings about goes by its function, its parameter and its text

text_by : (b : Bool) (call : Taken) (column : ℕ) (bytes other : List ℕ) → (call.function == PRINT_STRING) ≡ b → (call.function ≡ PRINT_STRING → other ≡ bytes)
    → call_text call column other ≡ call_text call column bytes
unfolding call_text
text_by true call column bytes other e same = ap (call_text call column) (same (eqb-true call.function PRINT_STRING e))
text_by false call column bytes other e same =
    let chosen : Bool → List ℕ → List ℕ = λ b string. if call.function == CONSOLE_OUTPUT then tab_text column (low_parameter call)
    else (if b then expanded column string else (if writes call then low_parameter call ∷ [] else [])) in
    ap (λ b. chosen b other) e ∙ sym (ap (λ b. chosen b bytes) e)

said_alike : (call : Taken) (bytes other : List ℕ) (p : ℕ) (system : System) → (call.function ≡ PRINT_STRING → other ≡ bytes)
    → said_by call other p system ≡ said_by call bytes p system
unfolding said_by
said_alike call bytes other p system same =
    let process = process_in system.kernel.dispatcher.procs p in
    ap (λ text. record (speaking process.console text system) {
      emitted = said (Printer process.printer) (printed call system.kernel) (speaking process.console text system).emitted;
    })
    (text_by (call.function == PRINT_STRING) call (column_of system.kernel process.console) bytes other refl same)

said_by_head : (one other : Taken) (string : List ℕ) (p : ℕ) (system : System)
    → said_by other string p system ≡ said_by (record one { function = other.function; word = other.word }) string p system
unfolding said_by call_text writes
said_by_head one other string p system = refl

same_said : (one other : Taken) (p : ℕ) (system : System) → other.function ≡ one.function → other.word ≡ one.word → (one.function ≡ PRINT_STRING → other.bytes ≡ one.bytes)
    → said_by other other.bytes p system ≡ said_by one one.bytes p system
same_said one other p system function word text =
    said_by_head one other other.bytes p system
    ∙ ap (λ (f : ℕ). said_by (record one { function = f; word = other.word }) other.bytes p system) function
    ∙ ap (λ (w : ℕ). said_by (record one { word = w }) other.bytes p system) word
    ∙ said_alike one one.bytes other.bytes p system text

same_native : (outcome : Outcome) (reply : Answer) (one other : Taken) (p : ℕ) (system : System) → other.function ≡ one.function → other.word ≡ one.word
    → (one.function ≡ PRINT_STRING → other.bytes ≡ one.bytes) → native_outcome outcome reply other p system ≡ native_outcome outcome reply one p system
same_native Done reply one other p system function word text =
    ap (λ (spoke : SystemChange). record spoke { system = taking reply p spoke.system }) (same_said one other p system function word text)
same_native Ended reply one other p system function word text = refl
same_native Held reply one other p system function word text = refl
same_native Retry reply one other p system function word text = refl

-- no call changes the residents
pub residents_stay : (call : Taken) (p : ℕ) (system : System) → (served_to_all call p system).system.residents ≡ system.residents
unfolding served_to_all reserving releasing
residents_stay call p system =
    let f = call.function in
    let P : Served → Type 0 = λ s. s.system.residents ≡ system.residents in
    either P (f == ABSOLUTE_MEMORY_REQUEST) _ _ (λ _. refl)
    (λ _. either P (f == RELOCATABLE_MEMORY_REQUEST) _ _ (λ _. refl)
    (λ _. either P (f == MEMORY_FREE) _ _ (λ _. refl) (λ _. either P (f == SEND_CLI_COMMAND) _ _ (λ _. refl) (λ _. refl))))

-- its call is served
pub record Concludes (p : ℕ) (old done : System) (outcome : Outcome) (reply : Answer) : Type 0 where
  pub whole : IsWhole done
  pub lives : Lives done.kernel.dispatcher.procs p
  pub has : is_some (native_in done.residents p) ≡ true
  pub change : after_echo (call_of done.kernel.dispatcher.procs p) p done (native_outcome outcome reply (call_of done.kernel.dispatcher.procs p) p done)
      ≡ calling_step (call_of old.kernel.dispatcher.procs p) p old

pub concludes : (p : ℕ) (old done : System) (outcome : Outcome) (reply : Answer) → IsWhole old → Lives old.kernel.dispatcher.procs p → IsReady old.kernel.dispatcher p
    → is_some (native_in old.residents p) ≡ true → done ≡ (served_to_all (call_of old.kernel.dispatcher.procs p) p old).system
    → outcome ≡ (served_to_all (call_of old.kernel.dispatcher.procs p) p old).outcome → reply ≡ (served_to_all (call_of old.kernel.dispatcher.procs p) p old).reply
    → Concludes p old done outcome reply
unfolding calling_step
concludes p old done outcome reply w h ready has system how what =
    let call = call_of old.kernel.dispatcher.procs p in
    let kept = call_of done.kernel.dispatcher.procs p in
    let result = served_to_all call p old in
    let here : StaysServed p old done = subst (λ s. StaysServed p old s) (sym system) (whole_to_all call p old refl w h ready) in
    record {
      whole = here.whole;
      lives = here.lives;
      has = ap (λ (s : System). is_some (native_in s.residents p)) system
          ∙ ap (λ (residents : List Native). is_some (native_in residents p)) (residents_stay call p old) ∙ has;
      change = ap (after_echo kept p done) (same_native outcome reply call kept p done here.function here.word here.text)
          ∙ ap (λ (f : ℕ). after_echo (record call { function = f }) p done (native_outcome outcome reply call p done)) here.function
          ∙ ap (λ o. after_echo call p done (native_outcome o reply call p done)) how
          ∙ ap (λ r. after_echo call p done (native_outcome result.outcome r call p done)) what
          ∙ ap (λ s. after_echo call p s (native_outcome result.outcome result.reply call p s)) system;
    }

-- what is said changes no resident
pub said_has : (call : Taken) (string : List ℕ) (p : ℕ) (old said : System) → is_some (native_in old.residents p) ≡ true
    → said ≡ (said_by call string p old).system → is_some (native_in said.residents p) ≡ true
unfolding said_by speaking
said_has call string p old said has is = ap (λ (s : System). is_some (native_in s.residents p)) is ∙ has
