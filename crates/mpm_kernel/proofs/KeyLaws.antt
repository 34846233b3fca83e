-- A key that comes to a console.
use Rattle.std.proofs.Common.{◌≡◌, ◌∙◌, ℕ, ◌+◌, ◌<◌, Bool, true, false, if◌then◌else◌, inl, length, Option, Some, None, refl, sym, ap, subst, arith}
use Rattle.std.specs.Prelude.{is_some, nat_lt}
use Rattle.std.proofs.lemmas.Bool.Decides.{nat_tests}
use Rattle.std.proofs.lemmas.Bool.{false≢true, and_from}
use Rattle.mpm_base.proofs.CountLaws.{one_if, one_if_true}
use Rattle.std.proofs.lemmas.List.{length-set}
use Rattle.mpm_base.proofs.Choices.{either}
use Rattle.mpm_consoles.specs.Console.{Console, is_owner, passed_to, is_for, woken, awakened, has_room, with_key, typed, resumed, with_output_stopped}
use Rattle.mpm_consoles.specs.declared.console.Awaited.{Awaited}
use Rattle.mpm_consoles.specs.declared.console.Awaited.TheVariants.{Key, Output}
use Rattle.mpm_consoles.specs.declared.keys.KeyDone.{KeyDone}
use Rattle.mpm_consoles.specs.declared.keys.KeyDone.TheVariants.{Stored, Dropped, Wakes, Aborts, Passes, Nothing}
use Rattle.mpm_consoles.proofs.ConsoleLaws.{owner_key, woken_key}
use Rattle.mpm_consoles.proofs.FateLaws.{cooked}
use Rattle.mpm_consoles.proofs.SoundLaws.{sound_typed, sound_resumed, sound_stop}
use Rattle.mpm_consoles.specs.Consoles.{Consoles, console_at, HasConsole, with_console, first_waiter, waits, gate_waits, AreSoundConsoles}
use Rattle.mpm_consoles.specs.Handling.{given, unlisted, pass_to, passed, passed_by_key, subject, abort_answer, pass_answer, wake_answer, typed_answer, key_by, answer_by, keyed, key_answer}
use Rattle.mpm_consoles.specs.Keys.{control_of}
use Rattle.mpm_consoles.specs.declared.keys.Control.{Control}
use Rattle.mpm_consoles.specs.declared.keys.Control.TheVariants.{Stop, Resume, Abort, Detach}
use Rattle.mpm_base.specs.declared.unit.Unit.TheVariants.{Console as ConsoleUnit}
use Rattle.mpm_procs.specs.Table.{Lives}
use Rattle.mpm_kernel.specs.Kernel.{Kernel, waits_of, IsConsole, IsSoundKernel, dispatched}
use Rattle.mpm_kernel.specs.Columns.{spoke}
use Rattle.mpm_dispatcher.specs.Dispatch.{lists_ready, made_ready}
use Rattle.mpm_kernel.specs.Consoling.{if_it, abort_text, echoed, key_done, is_of_resident, key_came}
use Rattle.mpm_consoles.proofs.PlaceLaws.{gate_waits_unlisted}
use Rattle.mpm_kernel.proofs.UnitWaits.{is_at_gate, gates_kept, gates_fewer, waits_console, owner_kept, is_own}
use Rattle.mpm_kernel.proofs.UnitCounts.{many_passed}
use Rattle.mpm_kernel.proofs.Soundness.{sound_console, sound_spoke, sound_noted, sound_ready}
use Rattle.mpm_kernel.proofs.Staying.{SameProcesses}
use Rattle.mpm_kernel.proofs.Passing.{HavePassed, passed_on, sound_passed}
use Rattle.mpm_kernel.proofs.UnitCalls.{sound_made}

-- there are as many consoles as before
consoles_after_pass : (o : Option ℕ) (t : Consoles) (n : ℕ) → length (passed_by_key o t n).consoles ≡ length t.consoles
consoles_after_pass None t n = refl
consoles_after_pass (Some p) t n = (many_passed t (ConsoleUnit n)).consoles

consoles_with : (t : Consoles) (n : ℕ) (console : Console) → length (with_console t n console).consoles ≡ length t.consoles
consoles_with t n console = length-set t.consoles n console

consoles_by : (control : Option Control) (t : Consoles) (n byte : ℕ) (resident : Bool) → length (key_by control t n byte resident).consoles ≡ length t.consoles
consoles_by None t n byte resident = consoles_with t n _
consoles_by (Some Stop) t n byte resident = consoles_with t n _
consoles_by (Some Resume) t n byte resident = consoles_with t n _
consoles_by (Some Abort) t n byte resident = refl
consoles_by (Some Detach) t n byte resident = consoles_after_pass (subject resident (console_at t n).owner) t n

pub consoles_after_key : (t : Consoles) (n byte : ℕ) (resident : Bool) → length (keyed t n byte resident).consoles ≡ length t.consoles
unfolding keyed
consoles_after_key t n byte resident = consoles_by (control_of (console_at t n).raw byte) t n byte resident

pub has_after_key : (t new : Consoles) (n byte : ℕ) (resident : Bool) → new ≡ keyed t n byte resident → n < length t.consoles → n < length new.consoles
has_after_key t new n byte resident is has = omega (arith, ap (λ (u : Consoles). length u.consoles) is, consoles_after_key t n byte resident, has)

some_awaits : (a : Option Awaited) (what : Awaited) → is_for a what ≡ true → is_some a ≡ true
some_awaits None what is = absurd (false≢true is)
some_awaits (Some x) what is = refl

at_its_gate : (h : ℕ) (what : Awaited) (console : Console) → console.owner ≡ Some h → is_for console.awaits what ≡ true → is_at_gate h console ≡ true
at_its_gate h what console owner is = and_from _ _ (is_own console.owner h owner) (some_awaits console.awaits what is)

-- a key that wakes the owner of a console, or stores, or is lost
woken_if : (b : Bool) (t : Consoles) (n : ℕ) (what : Awaited) (console : Console) → AreSoundConsoles t → HasConsole t n → console.owner ≡ (console_at t n).owner
    → console.awaits ≡ (console_at t n).awaits → is_for console.awaits what ≡ b
    → AreSoundConsoles (with_console t n (if b then record console { awaits = None } else console))
    → HavePassed t (with_console t n (if b then record console { awaits = None } else console)) (if b then console.owner else None)
woken_if true t n what console sound has owner awaits is now =
    let off = record console { awaits = None } in
    record {
      sound = now;
      consoles = length-set t.consoles n off;
      printers = refl;
      owners = λ other p own. inl (sym (ap (λ o. is_owner o p) (owner_kept t n off other has owner)) ∙ own);
      waiters = λ q. omega (arith, waits_console t n off q);
      at_gates = λ q. omega (arith, gates_fewer t n off q has refl);
      first = λ h first.
          let there : is_at_gate h (console_at t n) ≡ true =
          at_its_gate h what (console_at t n) (sym owner ∙ first) (ap (λ a. is_for a what) (sym awaits) ∙ is) in
          omega (arith, waits_console t n off h, gates_fewer t n off h has refl, one_if_true (is_at_gate h (console_at t n)) there);
    }
woken_if false t n what console sound has owner awaits is now = record {
  sound = now;
  consoles = length-set t.consoles n console;
  printers = refl;
  owners = λ other p own. inl (sym (ap (λ o. is_owner o p) (owner_kept t n console other has owner)) ∙ own);
  waiters = λ q. omega (arith, waits_console t n console q);
  at_gates = λ q. omega (arith, gates_kept t n console q has owner awaits);
  first = λ h first. absurd (cc);
}

woken_sound : (t : Consoles) (n : ℕ) (what : Awaited) (console : Console) → AreSoundConsoles t → HasConsole t n → console.owner ≡ (console_at t n).owner
    → console.awaits ≡ (console_at t n).awaits → AreSoundConsoles (with_console t n (awakened what console))
    → HavePassed t (with_console t n (awakened what console)) (woken what console)
unfolding awakened woken
woken_sound t n what console sound has owner awaits now = woken_if (is_for console.awaits what) t n what console sound has owner awaits refl now

-- the processes that a key makes ready, and the units after it

-- a key that passes nothing on
awaits_key : (byte : ℕ) (console : Console) → (with_key byte console).awaits ≡ console.awaits
unfolding with_key
awaits_key byte console = either (λ (c : Console). c.awaits ≡ console.awaits) (has_room console) _ _ (λ _. refl) (λ _. refl)

typed_passed : (t : Consoles) (n byte : ℕ) → AreSoundConsoles t → HasConsole t n
    → HavePassed t (with_console t n (typed byte (console_at t n))) (woken Key (with_key byte (console_at t n)))
unfolding typed
typed_passed t n byte sound has =
    woken_sound t n Key (with_key byte (console_at t n)) sound has (owner_key byte (console_at t n)) (awaits_key byte (console_at t n)) (sound_typed t n byte sound has)

resumed_passed : (t : Consoles) (n : ℕ) → AreSoundConsoles t → HasConsole t n
    → HavePassed t (with_console t n (resumed (console_at t n))) (woken Output (record (console_at t n) { stopped = false }))
unfolding resumed
resumed_passed t n sound has =
    woken_sound t n Output (record (console_at t n) { stopped = false }) sound has refl refl (sound_resumed t n sound has)

woken_output : (console : Console) → woken Output (record console { stopped = false }) ≡ woken Output console
unfolding woken
woken_output console = refl

resumed_as : (t : Consoles) (n : ℕ) → AreSoundConsoles t → HasConsole t n → HavePassed t (with_console t n (resumed (console_at t n))) (woken Output (console_at t n))
resumed_as t n sound has =
    subst (λ (o : Option ℕ). HavePassed t (with_console t n (resumed (console_at t n))) o) (woken_output (console_at t n)) (resumed_passed t n sound has)

-- who is woken, by the answer
sound_wakes : (other : KeyDone) (heir : Option ℕ) (n : ℕ) (waited : Bool) (kernel : Kernel) (units : Consoles) → ((k : Kernel) → key_done other n waited k ≡ k)
    → IsSoundKernel kernel → HavePassed kernel.units units heir → IsSoundKernel (key_done (wake_answer other heir) n waited (record kernel { units = units }))
unfolding key_done lists_ready
sound_wakes other None n waited kernel units nothing s are =
    subst IsSoundKernel (sym (nothing (record kernel { units = units }))) (sound_made None kernel units (sound_passed kernel units None s are))
sound_wakes other (Some h) n waited kernel units nothing s are = sound_made (Some h) kernel units (sound_passed kernel units (Some h) s are)

not_passing : (b : Bool) (n : ℕ) (waited : Bool) (k : Kernel) → key_done (if b then Stored else Dropped) n waited k ≡ k
unfolding key_done
not_passing true n waited k = refl
not_passing false n waited k = refl

nothing_passing : (n : ℕ) (waited : Bool) (k : Kernel) → key_done Nothing n waited k ≡ k
unfolding key_done
nothing_passing n waited k = refl

-- ^C
sound_abort : (o : Option ℕ) (n : ℕ) (waited : Bool) (kernel : Kernel) → IsSoundKernel kernel → IsSoundKernel (key_done (abort_answer o) n waited kernel)
unfolding key_done echoed spoke
sound_abort None n waited kernel s = s
sound_abort (Some p) n waited kernel s = sound_noted (spoke kernel n abort_text) abort_text (Some p) (sound_spoke kernel n abort_text s)

-- ^D
owner_at_gate : (t : Consoles) (n p : ℕ) → (console_at t n).owner ≡ Some p → is_some (console_at t n).awaits ≡ true → is_at_gate p (console_at t n) ≡ true
owner_at_gate t n p owner waits = and_from _ _ (is_own (console_at t n).owner p owner) waits

gates_passed_to : (o : Option ℕ) (t : Consoles) (n q : ℕ) → HasConsole t n
    → gate_waits (pass_to o t (ConsoleUnit n)) q + one_if (is_at_gate q (console_at t n)) ≡ gate_waits t q
unfolding given passed_to unlisted
gates_passed_to None t n q has = gates_fewer t n (passed_to None (console_at t n)) q has refl
gates_passed_to (Some h) t n q has =
    omega (arith, gates_fewer (unlisted t h) n (passed_to (Some h) (console_at t n)) q has refl, gate_waits_unlisted t h q)

gates_passed : (t : Consoles) (n q : ℕ) → HasConsole t n → gate_waits (passed t (ConsoleUnit n)) q + one_if (is_at_gate q (console_at t n)) ≡ gate_waits t q
unfolding passed
gates_passed t n q has = gates_passed_to (first_waiter t (ConsoleUnit n)) t n q has

-- a process is ready, if it is at all
owner_if : (b : Bool) (kernel : Kernel) (p : ℕ) → IsSoundKernel kernel → Lives kernel.dispatcher.procs p → (b ≡ true → waits_of kernel p ≡ 0) → IsSoundKernel (dispatched (made_ready (if_it b p)) kernel)
unfolding lists_ready
owner_if true kernel p s h none = sound_ready kernel p s h (none refl)
owner_if false kernel p s h none = s

-- the old owner is ready again, if it waited at its gate
sound_old_owner : (waited : Bool) (n p : ℕ) (kernel : Kernel) → IsSoundKernel kernel → IsConsole kernel n → (console_at kernel.units n).owner ≡ Some p
    → is_some (console_at kernel.units n).awaits ≡ waited
    → IsSoundKernel (dispatched (made_ready (if_it waited p)) (dispatched (made_ready (first_waiter kernel.units (ConsoleUnit n))) (record kernel { units = passed kernel.units (ConsoleUnit n) })))
unfolding lists_ready
sound_old_owner waited n p kernel s has owner is =
    let t = kernel.units in
    let units = passed t (ConsoleUnit n) in
    let heir = first_waiter t (ConsoleUnit n) in
    let are = passed_on t (ConsoleUnit n) s.units has in
    let first = sound_made heir kernel units (sound_passed kernel units heir s are) in
    owner_if waited (dispatched (made_ready heir) (record kernel { units = units })) p first
    (s.owners (ConsoleUnit n) p has (is_own (console_at t n).owner p owner))
    (λ waits.
    omega (arith, s.once p, are.waiters p, gates_passed t n p has, one_if_true (is_at_gate p (console_at t n)) (owner_at_gate t n p owner (is ∙ waits))))

sound_pass : (o : Option ℕ) (n : ℕ) (kernel : Kernel) → IsSoundKernel kernel → IsConsole kernel n → ((p : ℕ) → o ≡ Some p → (console_at kernel.units n).owner ≡ Some p)
    → IsSoundKernel (key_done (pass_answer o kernel.units n) n (is_some (console_at kernel.units n).awaits) (record kernel { units = passed_by_key o kernel.units n }))
unfolding key_done
sound_pass None n kernel s has owner = s
sound_pass (Some p) n kernel s has owner = sound_old_owner (is_some (console_at kernel.units n).awaits) n p kernel s has (owner p refl) refl

subject_owner : (resident : Bool) (owner : Option ℕ) (p : ℕ) → subject resident owner ≡ Some p → owner ≡ Some p
subject_owner true owner p is = absurd (cc)
subject_owner false owner p is = is

sound_stopped : (n : ℕ) (kernel : Kernel) → IsSoundKernel kernel → IsConsole kernel n → (console_at kernel.units n).raw ≡ false
    → IsSoundKernel (record kernel { units = with_console kernel.units n (with_output_stopped (console_at kernel.units n)) })
unfolding with_output_stopped
sound_stopped n kernel s has cooked = sound_console kernel n _ s has refl refl (sound_stop kernel.units n s.units has cooked)

sound_by : (control : Option Control) (n byte : ℕ) (resident : Bool) (kernel : Kernel) → IsSoundKernel kernel → IsConsole kernel n
    → control_of (console_at kernel.units n).raw byte ≡ control
    → IsSoundKernel (key_done (answer_by control kernel.units n resident) n (is_some (console_at kernel.units n).awaits) (record kernel { units = key_by control kernel.units n byte resident }))
unfolding typed_answer
sound_by None n byte resident kernel s has is =
    let console = console_at kernel.units n in
    let waited = is_some console.awaits in
    let P : Option ℕ → Type 0 = λ o. IsSoundKernel (key_done (wake_answer (if has_room console then Stored else Dropped) o) n waited (record kernel { units = with_console kernel.units n (typed byte console) })) in
    subst P (woken_key Key byte console)
    (sound_wakes (if has_room console then Stored else Dropped) (woken Key (with_key byte console)) n waited kernel _ (λ k. not_passing (has_room console) n waited k) s (typed_passed kernel.units n byte s.units has))
sound_by (Some Stop) n byte resident kernel s has is =
    subst IsSoundKernel (sym (nothing_passing n (is_some (console_at kernel.units n).awaits) (record kernel { units = with_console kernel.units n (with_output_stopped (console_at kernel.units n)) })))
    (sound_stopped n kernel s has (cooked (console_at kernel.units n).raw byte Stop is))
sound_by (Some Resume) n byte resident kernel s has is =
    sound_wakes Nothing (woken Output (console_at kernel.units n)) n _ kernel _ (λ k. nothing_passing n _ k) s (resumed_as kernel.units n s.units has)
sound_by (Some Abort) n byte resident kernel s has is = sound_abort (subject resident (console_at kernel.units n).owner) n _ kernel s
sound_by (Some Detach) n byte resident kernel s has is =
    sound_pass (subject resident (console_at kernel.units n).owner) n kernel s has (λ p e. subject_owner resident (console_at kernel.units n).owner p e)

pub sound_key_came : (console byte : ℕ) (kernel : Kernel) → IsSoundKernel kernel → IsSoundKernel (key_came console byte kernel)
unfolding key_came keyed key_answer
sound_key_came console byte kernel s =
    either IsSoundKernel (nat_lt console (length kernel.units.consoles)) _ _
    (λ fits. sound_by (control_of (console_at kernel.units console).raw byte) console byte (is_of_resident kernel.dispatcher.procs (console_at kernel.units console).owner) kernel s
    (grind (arith, nat_tests, fits)) refl)
    (λ _. s)

-- a key changes no process, and completes no call
leaves_done : (key : KeyDone) (console : ℕ) (waited : Bool) (kernel : Kernel) → SameProcesses kernel (key_done key console waited kernel)
unfolding key_done echoed spoke
leaves_done Stored console waited kernel = record { procs = refl; completed = refl }
leaves_done Dropped console waited kernel = record { procs = refl; completed = refl }
leaves_done Nothing console waited kernel = record { procs = refl; completed = refl }
leaves_done (Wakes p) console waited kernel = record { procs = refl; completed = refl }
leaves_done (Aborts p) console waited kernel = record { procs = refl; completed = refl }
leaves_done (Passes from to) console waited kernel = record { procs = refl; completed = refl }

leaves_key : (console byte : ℕ) (kernel : Kernel) → SameProcesses kernel (key_came console byte kernel)
unfolding key_came
leaves_key console byte kernel =
    either (SameProcesses kernel) (nat_lt console (length kernel.units.consoles)) _ _
    (λ _. let l = leaves_done (key_answer kernel.units console byte (is_of_resident kernel.dispatcher.procs (console_at kernel.units console).owner)) console _ _ in record { procs = l.procs; completed = l.completed })
    (λ _. record { procs = refl; completed = refl })

pub procs_key_came : (console byte : ℕ) (kernel : Kernel) → (key_came console byte kernel).dispatcher.procs ≡ kernel.dispatcher.procs
procs_key_came console byte kernel = (leaves_key console byte kernel).procs

pub completed_key_came : (console byte : ℕ) (kernel : Kernel) → (key_came console byte kernel).dispatcher.completed ≡ kernel.dispatcher.completed
completed_key_came console byte kernel = (leaves_key console byte kernel).completed
