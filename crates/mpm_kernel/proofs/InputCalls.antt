-- What stays so after the calls that read from a console and write to it.
use Rattle.std.proofs.Common.{◌≡◌, ◌∙◌, ℕ, ◌<◌, Bool, true, false, ◌&&◌, ◌==◌, [], List, length, Option, Some, None, refl, sym, ap, subst, arith}
use Rattle.std.proofs.lemmas.Bool.{ne_eqb}
use Rattle.mpm_base.specs.Calls.{Taken}
use Rattle.mpm_base.proofs.CountLaws.{one_if_false, at_most_one}
use Rattle.mpm_base.specs.declared.functions.TheConstants.{CONSOLE_INPUT, RAW_CONSOLE_INPUT, DIRECT_CONSOLE_IO, READ_CONSOLE_BUFFER, GET_CONSOLE_STATUS}
use Rattle.mpm_procs.specs.Table.{Lives, process_in}
use Rattle.mpm_procs.specs.declared.process.Process.{Process}
use Rattle.mpm_procs.proofs.MapLaws.{lives_changed}
use Rattle.mpm_consoles.specs.Console.{is_owner, with_raw, awaited_for, awaiting, without_first}
use Rattle.mpm_consoles.specs.Consoles.{Consoles, console_at, owns}
use Rattle.mpm_consoles.specs.Handling.{may_attach, raw_set, first_taken, gate_wait_begun}
use Rattle.mpm_consoles.specs.declared.modes.TheConstants.{POLL_KEY, TELL_STATUS, AWAIT_KEY}
use Rattle.mpm_base.specs.declared.unit.Unit.TheVariants.{Console as ConsoleUnit}
use Rattle.mpm_consoles.proofs.SoundLaws.{sound_raw, sound_take, sound_wait}
use Rattle.mpm_line_input.specs.Echoes.{key_echo}
use Rattle.mpm_line_input.specs.Lines.{is_full, ends, line_end}
use Rattle.mpm_dispatcher.specs.Dispatch.{ready}
use Rattle.mpm_kernel.specs.Kernel.{Kernel, IsSoundKernel, CompletedLive, IsConsole, with_changed}
use Rattle.mpm_kernel.specs.Columns.{column_of, spoke}
use Rattle.mpm_kernel.specs.Called.{Called, low_parameter}
use Rattle.mpm_kernel.specs.Consoling.{attaching, awaited, echoed}
use Rattle.mpm_kernel.specs.ConsoleInput.{is_cooked, is_raw, writes, raw_if, key_taken, next_key, shown_key, read_key, polled_key, direct, line_of, greatest, line_done, key_joined, line_with, line_by, line_read, console_served, unless_stopped, console_called}
use Rattle.mpm_kernel.proofs.UnitWaits.{is_at_gate, waits_console}
use Rattle.mpm_consoles.proofs.PlaceLaws.{owner_is, gate_waits_console}
use Rattle.mpm_kernel.proofs.UnitLaws.{has_own_console}
use Rattle.mpm_kernel.proofs.InputLaws.{has_attached, owns_attached, has_raw, owns_raw}
use Rattle.mpm_kernel.proofs.Soundness.{sound_process, sound_units, sound_console, sound_spoke, sound_noted, units_console, listed_once}
use Rattle.mpm_kernel.proofs.UnitCalls.{WaitsAt, stays_retried, quiet_attached, waits_attached}
use Rattle.mpm_kernel.proofs.Staying.{StaysSound, Calls, nobody, called_if, same}

-- a process that calls, and owns its console
record Serves (p console : ℕ) (kernel : Kernel) : Type 0 where
  pub calls : Calls p kernel
  pub has : IsConsole kernel console
  pub owner : owns kernel.units p (ConsoleUnit console) ≡ true

-- the owner waits at its gate
waits_at_gate : (p console : ℕ) (key : Bool) (kernel : Kernel) → Serves p console kernel → WaitsAt kernel p (gate_wait_begun kernel.units console key)
unfolding gate_wait_begun awaiting
waits_at_gate p console key kernel v =
    let s = v.calls.sound in
    let now = awaiting (awaited_for key) (console_at kernel.units console) in
    let is = owner_is (console_at kernel.units console).owner p v.owner in
    record {
      are = units_console kernel console now s v.has refl (sound_wait kernel.units p console key s.units v.has v.owner);
      once = omega (arith, gate_waits_console kernel.units console now p v.has, waits_console kernel.units console now p, at_most_one (is_at_gate p now), listed_once kernel p ready s v.calls.ready);
      others = λ q other.
          let not_its : is_at_gate q now ≡ false = ap (λ o. is_owner o q && true) is ∙ ap (λ b. b && true) (ne_eqb p q (λ e. other (sym e))) in
          omega (arith, gate_waits_console kernel.units console now q v.has, waits_console kernel.units console now q, one_if_false (is_at_gate q now) not_its);
    }

stays_awaited : (p console : ℕ) (key : Bool) (kernel : Kernel) → Serves p console kernel → StaysSound p (awaited p console key kernel)
unfolding awaited
stays_awaited p console key kernel v = stays_retried p _ kernel v.calls (waits_at_gate p console key kernel v)

-- the console changes, but neither its owner nor who waits
serves_console : (p console : ℕ) (now : Consoles) (kernel : Kernel) → Serves p console kernel → IsSoundKernel (record kernel { units = now })
    → console < length now.consoles → owns now p (ConsoleUnit console) ≡ true → Serves p console (record kernel { units = now })
serves_console p console now kernel v sound has owner = record {
  calls = record { sound = sound; lives = v.calls.lives; ready = v.calls.ready; none = v.calls.none };
  has = has;
  owner = owner;
}

sound_raw_if : (b raw : Bool) (console : ℕ) (kernel : Kernel) → IsSoundKernel kernel → IsConsole kernel console → IsSoundKernel (raw_if b console raw kernel)
unfolding raw_set with_raw
sound_raw_if true raw console kernel s has =
    sound_console kernel console (with_raw raw (console_at kernel.units console)) s has refl refl (sound_raw kernel.units console raw s.units has)
sound_raw_if false raw console kernel s has = s

serves_raw : (b raw : Bool) (p console : ℕ) (kernel : Kernel) → Serves p console kernel → Serves p console (raw_if b console raw kernel)
serves_raw b raw p console kernel v =
    serves_console p console _ kernel v (sound_raw_if b raw console kernel v.calls.sound v.has) (has_raw kernel b raw console console v.has)
    (owns_raw kernel b raw p console (ConsoleUnit console) v.has v.owner)

sound_taken : (console : ℕ) (kernel : Kernel) → IsSoundKernel kernel → IsConsole kernel console → IsSoundKernel (key_taken console kernel)
unfolding first_taken without_first
sound_taken console kernel s has = sound_console kernel console (without_first (console_at kernel.units console)) s has refl refl (sound_take kernel.units console s.units has)

-- what is so of a kernel after a part of a call
record Stays (p : ℕ) (kernel : Kernel) : Type 0 where
  pub sound : IsSoundKernel kernel
  pub lives : Lives kernel.dispatcher.procs p
  pub none : kernel.dispatcher.completed ≡ []

stays_of : (p : ℕ) (kernel : Kernel) → Stays p kernel → (called : Called) → called.kernel ≡ kernel → StaysSound p called
stays_of p kernel t called is =
    let P : Kernel → Type 0 = λ k. IsSoundKernel k × (Lives k.dispatcher.procs p × CompletedLive k) in
    let all : P called.kernel = subst P (sym is) (t.sound, (t.lives, nobody kernel t.none)) in
    record { sound = all.0; lives = all.1.0; completed = all.1.1 }

taken : (p console : ℕ) (kernel : Kernel) → Serves p console kernel → Stays p (key_taken console kernel)
taken p console kernel v = record { sound = sound_taken console kernel v.calls.sound v.has; lives = v.calls.lives; none = v.calls.none }

stays_echoed : (p console : ℕ) (bytes : List ℕ) (kernel : Kernel) → Stays p kernel → Stays p (echoed console bytes kernel)
unfolding echoed spoke
stays_echoed p console bytes kernel t = record {
  sound = sound_noted (spoke kernel console bytes) bytes kernel.aborted (sound_spoke kernel console bytes t.sound);
  lives = t.lives;
  none = t.none;
}

-- a key is read
stays_shown : (o : Option ℕ) (p console : ℕ) (kernel : Kernel) → Serves p console kernel → StaysSound p (shown_key o p console kernel)
unfolding shown_key
stays_shown None p console kernel v = stays_awaited p console true kernel v
stays_shown (Some key) p console kernel v =
    let afterwards = key_taken console kernel in
    stays_of p _ (stays_echoed p console (key_echo key (column_of afterwards console)) afterwards (taken p console kernel v)) _ refl

stays_read_key : (o : Option ℕ) (p console : ℕ) (kernel : Kernel) → Serves p console kernel → StaysSound p (read_key o p console kernel)
unfolding read_key
stays_read_key None p console kernel v = stays_awaited p console true kernel v
stays_read_key (Some key) p console kernel v = stays_of p _ (taken p console kernel v) _ refl

stays_polled_key : (o : Option ℕ) (p console : ℕ) (kernel : Kernel) → Serves p console kernel → StaysSound p (polled_key o console kernel)
unfolding polled_key
stays_polled_key None p console kernel v = same p 0 kernel v.calls
stays_polled_key (Some key) p console kernel v = stays_of p _ (taken p console kernel v) _ refl

stays_direct : (call : Taken) (p console : ℕ) (kernel : Kernel) → Serves p console kernel → StaysSound p (direct call p console kernel)
unfolding direct
stays_direct call p console kernel v =
    called_if p (low_parameter call == POLL_KEY) _ _ (λ _. stays_polled_key _ p console kernel v)
    (λ _. called_if p (low_parameter call == TELL_STATUS) _ _ (λ _. same p _ kernel v.calls)
    (λ _. called_if p (low_parameter call == AWAIT_KEY) _ _ (λ _. stays_read_key _ p console kernel v)
    (λ _. same p 0 kernel v.calls)))

-- a line is read
changed : (p : ℕ) (kernel : Kernel) (process : Process) → Stays p kernel → IsSoundKernel (with_changed kernel p process) → Stays p (with_changed kernel p process)
changed p kernel process t sound = record {
  sound = sound;
  lives = lives_changed kernel.dispatcher.procs p p process ∙ t.lives;
  none = t.none;
}

stays_line_done : (call : Taken) (p : ℕ) (kernel : Kernel) → Stays p kernel → StaysSound p (line_done call p kernel)
unfolding line_done
stays_line_done call p kernel t = stays_of p _ (changed p kernel _ t (sound_process kernel p _ t.sound t.lives refl refl refl refl)) _ refl

joined : (call : Taken) (p console key : ℕ) (kernel : Kernel) → Stays p kernel → Stays p (key_joined call p console key kernel)
unfolding key_joined
joined call p console key kernel t =
    stays_echoed p console _ _ (changed p kernel _ t (sound_process kernel p _ t.sound t.lives refl refl refl refl))

stays_line_with : (key : ℕ) (call : Taken) (p console : ℕ) (kernel : Kernel) → Stays p kernel → StaysSound p (line_with key call p console kernel)
unfolding line_with
stays_line_with key call p console kernel t =
    let afterwards = key_joined call p console key kernel in
    called_if p (ends (line_of (process_in kernel.dispatcher.procs p)) (greatest call) key) _ _
    (λ _. stays_line_done call p afterwards (joined call p console key kernel t))
    (λ _. stays_of p afterwards (joined call p console key kernel t) _ refl)

stays_line_by : (o : Option ℕ) (call : Taken) (p console : ℕ) (kernel : Kernel) → Serves p console kernel → StaysSound p (line_by o call p console kernel)
stays_line_by None call p console kernel v = stays_awaited p console true kernel v
stays_line_by (Some key) call p console kernel v = stays_line_with key call p console (key_taken console kernel) (taken p console kernel v)

stays_line_read : (call : Taken) (p console : ℕ) (kernel : Kernel) → Serves p console kernel → StaysSound p (line_read call p console kernel)
unfolding line_read
stays_line_read call p console kernel v =
    called_if p (is_full (process_in kernel.dispatcher.procs p).line_length (greatest call)) _ _
    (λ _. stays_line_done call p _ (stays_echoed p console line_end kernel (record { sound = v.calls.sound; lives = v.calls.lives; none = v.calls.none })))
    (λ _. stays_line_by (next_key console kernel) call p console kernel v)

-- the calls together
stays_console_served : (call : Taken) (p console : ℕ) (kernel : Kernel) → Serves p console kernel → StaysSound p (console_served call p console kernel)
unfolding console_served
stays_console_served call p console kernel v =
    let f = call.function in
    called_if p (f == CONSOLE_INPUT) _ _ (λ _. stays_shown _ p console kernel v)
    (λ _. called_if p (f == RAW_CONSOLE_INPUT) _ _ (λ _. stays_read_key _ p console kernel v)
    (λ _. called_if p (f == DIRECT_CONSOLE_IO) _ _ (λ _. stays_direct call p console kernel v)
    (λ _. called_if p (f == READ_CONSOLE_BUFFER) _ _ (λ _. stays_line_read call p console kernel v)
    (λ _. called_if p (f == GET_CONSOLE_STATUS) _ _ (λ _. same p _ kernel v.calls)
    (λ _. same p 0 kernel v.calls)))))

stays_unless_stopped : (call : Taken) (p console : ℕ) (kernel : Kernel) → Serves p console kernel → StaysSound p (unless_stopped call p console kernel)
unfolding unless_stopped
stays_unless_stopped call p console kernel v =
    called_if p (writes call && (console_at kernel.units console).stopped) _ _
    (λ _. stays_awaited p console false kernel v)
    (λ _. stays_console_served call p console _ (serves_raw (is_raw call.function) true p console kernel v))

pub stays_console_called : (call : Taken) (p : ℕ) (kernel : Kernel) → Calls p kernel → StaysSound p (console_called call p kernel)
unfolding console_called
stays_console_called call p kernel c =
    let console = (process_in kernel.dispatcher.procs p).console in
    let unit = ConsoleUnit console in
    let has = has_own_console kernel p c.sound c.lives in
    called_if p (may_attach kernel.units p unit) _ _
    (λ may.
    let quiet = quiet_attached kernel p unit true c has may in
    stays_unless_stopped call p console _ (serves_raw (is_cooked call.function) false p console (attaching p unit true kernel) (record {
      calls = record { sound = sound_units kernel _ c.sound quiet.are quiet.fewer; lives = c.lives; ready = c.ready; none = c.none };
      has = has_attached kernel p console unit true has;
      owner = owns_attached kernel p unit true has may;
    })))
    (λ may. stays_retried p _ kernel c (waits_attached kernel p unit c has may))
