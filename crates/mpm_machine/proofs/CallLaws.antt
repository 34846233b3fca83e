-- A call that is done: its text, its reply and its record, one after another.
use Rattle.std.proofs.Common.{◌≡◌, ◌∙◌, ℕ, length, arith, refl, sym, ap, subst}
use Rattle.mpm_base.specs.Calls.{Taken, Answer}
use Rattle.mpm_base.specs.declared.call.Outcome.{Outcome}
use Rattle.mpm_base.specs.declared.call.Outcome.TheVariants.{Done, Held, Retry, Ended}
use Rattle.mpm_banks.specs.Memory.{byte_at}
use Rattle.mpm_procs.specs.Table.{Lives, process_in, call_of}
use Rattle.mpm_dispatcher.specs.Dispatch.{IsReady}
use Rattle.mpm_kernel.specs.ConsoleInput.{writes}
use Rattle.mpm_output.specs.Outside.{Outside, Device}
use Rattle.mpm_output.specs.Writing.{CameOut, DeviceFails}
use Rattle.mpm_system.specs.declared.system.System.{System}
use Rattle.mpm_system.specs.Whole.{IsWhole, HasRoom, speaking}
use Rattle.mpm_system.specs.Calling.{Served}
use Rattle.mpm_system.specs.Taking.{asked, keeping, IsTaken}
use Rattle.mpm_system.specs.Saying.{call_text, string_of, said_by}
use Rattle.mpm_system.specs.Answering.{popped, replied, completion, recorded, answering_call}
use Rattle.mpm_system.proofs.WholeLaws.{Keeps, keeps_call}
use Rattle.mpm_machine.specs.Serving.{served, after_echo, with_entry, reply_at_entry, fulfilling, completing, outcome_of, gate_step}
use Rattle.mpm_machine.proofs.WholeLaws.{StaysServed, whole_said, whole_popped}
use Rattle.mpm_machine.proofs.ActedLaws.{whole_served}
use Rattle.mpm_machine.proofs.TallyLaws.{Tally, keeping_tally, served_tally}
use Rattle.mpm_machine.proofs.TakenLaws.{call_is_taken}

-- the system after the text and the return address, as it is reached
pub record Popped (p seg : ℕ) (old afterwards : System) : Type 0 where
  pub whole : IsWhole afterwards
  pub lives : Lives afterwards.kernel.dispatcher.procs p
  pub call : call_of afterwards.kernel.dispatcher.procs p ≡ call_of old.kernel.dispatcher.procs p
  pub is : afterwards ≡ popped p seg (said_by (call_of old.kernel.dispatcher.procs p) (string_of (call_of old.kernel.dispatcher.procs p) seg old.memory) p old).system

pub lives_said : (p seg : ℕ) (old said : System) → IsWhole old → Lives old.kernel.dispatcher.procs p
    → said ≡ (said_by (call_of old.kernel.dispatcher.procs p) (string_of (call_of old.kernel.dispatcher.procs p) seg old.memory) p old).system → Lives said.kernel.dispatcher.procs p
lives_said p seg old said w h is =
    let P : System → Type 0 = λ system. Lives system.kernel.dispatcher.procs p in
    subst P (sym is) (whole_said (call_of old.kernel.dispatcher.procs p) (string_of (call_of old.kernel.dispatcher.procs p) seg old.memory) p old w h).lives

pub room_popped : (p seg : ℕ) (old said afterwards : System) → HasRoom old
    → said ≡ (said_by (call_of old.kernel.dispatcher.procs p) (string_of (call_of old.kernel.dispatcher.procs p) seg old.memory) p old).system → afterwards ≡ popped p seg said
    → HasRoom afterwards
unfolding said_by speaking popped
room_popped p seg old said afterwards room is was =
    omega (arith, room, ap (λ (s : System). length s.records) is, ap (λ (s : System). length s.records) was)

pub popped_after : (p seg : ℕ) (old said afterwards : System) → IsWhole old → Lives old.kernel.dispatcher.procs p
    → said ≡ (said_by (call_of old.kernel.dispatcher.procs p) (string_of (call_of old.kernel.dispatcher.procs p) seg old.memory) p old).system → afterwards ≡ popped p seg said → Popped p seg old afterwards
popped_after p seg old said afterwards w h is was =
    let spoke = (said_by (call_of old.kernel.dispatcher.procs p) (string_of (call_of old.kernel.dispatcher.procs p) seg old.memory) p old).system in
    let text = whole_said (call_of old.kernel.dispatcher.procs p) (string_of (call_of old.kernel.dispatcher.procs p) seg old.memory) p old w h in
    let taken = whole_popped p seg spoke text.whole text.lives in
    let whole : afterwards ≡ popped p seg spoke = was ∙ ap (popped p seg) is in
    let P : System → Type 0 = λ system. Lives system.kernel.dispatcher.procs p in
    record {
      whole = subst IsWhole (sym whole) taken.whole;
      lives = subst P (sym whole) taken.lives;
      call = ap (λ (s : System). call_of s.kernel.dispatcher.procs p) whole ∙ taken.call ∙ text.call;
      is = whole;
    }

-- the reply and the record that follow are those of the call
answers_call : (reply : Answer) (p seg : ℕ) (old afterwards : System) → Popped p seg old afterwards
    → fulfilling reply (call_of afterwards.kernel.dispatcher.procs p) p seg afterwards
    ≡ fulfilling reply (call_of old.kernel.dispatcher.procs p) p seg (popped p seg (said_by (call_of old.kernel.dispatcher.procs p) (string_of (call_of old.kernel.dispatcher.procs p) seg old.memory) p old).system)
answers_call reply p seg old afterwards so =
    ap (λ call. fulfilling reply call p seg afterwards) so.call ∙ ap (fulfilling reply (call_of old.kernel.dispatcher.procs p) p seg) so.is

pub completed_system : (reply : Answer) (p seg : ℕ) (old afterwards new : System) → Popped p seg old afterwards
    → new ≡ fulfilling reply (call_of afterwards.kernel.dispatcher.procs p) p seg afterwards
    → new ≡ (completing reply (call_of old.kernel.dispatcher.procs p) p seg old).system
unfolding completing
completed_system reply p seg old afterwards new so is = is ∙ answers_call reply p seg old afterwards so

pub wrote_text : (o n : Outside) (reply : Answer) (p seg : ℕ) (old : System)
    → CameOut o n (said_by (call_of old.kernel.dispatcher.procs p) (string_of (call_of old.kernel.dispatcher.procs p) seg old.memory) p old).emitted
    → CameOut o n (completing reply (call_of old.kernel.dispatcher.procs p) p seg old).emitted
unfolding completing
wrote_text o n reply p seg old wrote = wrote

-- a failure in the text
pub text_fails : (device : Device) (o n : Outside) (reply : Answer) (p seg : ℕ) (old : System)
    → DeviceFails device o n (said_by (call_of old.kernel.dispatcher.procs p) (string_of (call_of old.kernel.dispatcher.procs p) seg old.memory) p old).emitted
    → DeviceFails device o n (completing reply (call_of old.kernel.dispatcher.procs p) p seg old).emitted
unfolding completing
text_fails device o n reply p seg old failed = failed

-- the gate step of a call: it is taken, done, and what its outcome brings about follows

pub kept_after : (p seg : ℕ) (old kept : System) → IsWhole old → Lives old.kernel.dispatcher.procs p → kept ≡ keeping p (asked p seg old) old
    → Keeps p (asked p seg old) old kept
kept_after p seg old kept w h is =
    let P : System → Type 0 = λ system. Keeps p (asked p seg old) old system in
    subst P (sym is) (keeps_call p (asked p seg old) old w h)

pub kept_is_taken : (p seg : ℕ) (old kept : System) → IsWhole old → Lives old.kernel.dispatcher.procs p → Keeps p (asked p seg old) old kept
    → IsTaken (call_of kept.kernel.dispatcher.procs p)
unfolding asked
kept_is_taken p seg old kept w h kept_call =
    let process = process_in old.kernel.dispatcher.procs p in
    let P : Taken → Type 0 = λ call. IsTaken call in
    subst P (sym kept_call.call) (call_is_taken process.regs (byte_at old.memory seg) process.dma process.multi (w.sound.fit p h).few)

-- what a call brings about goes by its function and its parameter alone

brings_about : (outcome : Outcome) (reply : Answer) (one other : Taken) (p seg : ℕ) (system : System)
    → outcome_of outcome reply other p seg system ≡ outcome_of outcome reply (record one { function = other.function; word = other.word }) p seg system
unfolding completing said_by call_text writes fulfilling answering_call recorded replied completion with_entry reply_at_entry
brings_about Done reply one other p seg system = refl
brings_about Ended reply one other p seg system = refl
brings_about Held reply one other p seg system = refl
brings_about Retry reply one other p seg system = refl

same_outcome : (outcome : Outcome) (reply : Answer) (one other : Taken) (p seg : ℕ) (system : System) → other.function ≡ one.function → other.word ≡ one.word
    → after_echo other p system (outcome_of outcome reply other p seg system) ≡ after_echo one p system (outcome_of outcome reply one p seg system)
same_outcome outcome reply one other p seg system function word =
    ap (after_echo other p system) (brings_about outcome reply one other p seg system)
    ∙ ap (λ (f : ℕ). after_echo (record one { function = f }) p system (outcome_of outcome reply (record one { function = f; word = other.word }) p seg system)) function
    ∙ ap (λ (w : ℕ). after_echo one p system (outcome_of outcome reply (record one { word = w }) p seg system)) word

pub record Concludes (p seg : ℕ) (old done : System) (outcome : Outcome) (reply : Answer) : Type 0 where
  pub room : HasRoom old → HasRoom done
  pub whole : IsWhole done
  pub lives : Lives done.kernel.dispatcher.procs p
  pub change : after_echo (call_of done.kernel.dispatcher.procs p) p done (outcome_of outcome reply (call_of done.kernel.dispatcher.procs p) p seg done) ≡ gate_step p seg old

pub done_after : (p seg : ℕ) (old kept done : System) (outcome : Outcome) (reply : Answer) → IsReady old.kernel.dispatcher p → kept ≡ keeping p (asked p seg old) old
    → Keeps p (asked p seg old) old kept
    → done ≡ (served (call_of kept.kernel.dispatcher.procs p) p kept).system → outcome ≡ (served (call_of kept.kernel.dispatcher.procs p) p kept).outcome
    → reply ≡ (served (call_of kept.kernel.dispatcher.procs p) p kept).reply → Concludes p seg old done outcome reply
unfolding gate_step
done_after p seg old kept done outcome reply ready is k system how what =
    let call = asked p seg old in
    let result = served call p (keeping p call old) in
    let same : served (call_of kept.kernel.dispatcher.procs p) p kept ≡ result =
    ap (λ c. served c p kept) k.call ∙ ap (served call p) is in
    let stays = whole_served (call_of kept.kernel.dispatcher.procs p) p kept refl k.whole k.lives (k.ready ready) in
    let P : System → Type 0 = λ s. StaysServed p kept s in
    let here : StaysServed p kept done = subst P (sym system) stays in
    record {
      whole = here.whole;
      lives = here.lives;
      room = λ room. omega (arith, room, ap (λ (s : System). length s.records) (system ∙ ap (λ (r : Served). r.system) same), ap (λ (t : Tally). length t.records) (served_tally call p (keeping p call old)), ap (λ (t : Tally). length t.records) (keeping_tally p call old));
      change = same_outcome outcome reply call (call_of done.kernel.dispatcher.procs p) p seg done
          (here.function ∙ ap (λ (c : Taken). c.function) k.call) (here.word ∙ ap (λ (c : Taken). c.word) k.call)
          ∙ ap (λ o. after_echo call p done (outcome_of o reply call p seg done)) (how ∙ ap (λ (r : Served). r.outcome) same)
          ∙ ap (λ r. after_echo call p done (outcome_of result.outcome r call p seg done)) (what ∙ ap (λ (r : Served). r.reply) same)
          ∙ ap (λ s. after_echo call p s (outcome_of result.outcome result.reply call p seg s)) (system ∙ ap (λ (r : Served). r.system) same);
    }
