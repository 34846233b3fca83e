-- What leaves the command line interpreter acting in slot 0, where its process lives as before: another kernel, a call that it keeps, and
-- an answer.
use Rattle.std.proofs.Common.{ℕ, [], ◌≡◌, ◌≢◌, ◌∙◌, zero, suc, true, false, List, ◌∷◌, length, Option, Some, None, refl, sym, ap, arith, eqb-true}
use Rattle.std.specs.Prelude.{slice_get, slice_set, is_none}
use Rattle.std.proofs.lemmas.Bool.{false≢true}
use Rattle.std.proofs.lemmas.Option.{none-some}
use Rattle.mpm_base.specs.Calls.{Taken, Answer}
use Rattle.mpm_base.specs.declared.functions.TheConstants.{CHAIN_TO_PROGRAM}
use Rattle.mpm_residents.proofs.StandingLaws.{stands_took, consoles_took}
use Rattle.mpm_residents.specs.Interpreters.{took}
use Rattle.mpm_kernel.proofs.Beside.{StaysBeside}
use Rattle.mpm_kernel.specs.Kernel.{is_resident}
use Rattle.mpm_procs.proofs.MapLaws.{lives_below, call_changed, process_after, lives_after}
use Rattle.mpm_procs.specs.Table.{process_in, call_of}
use Rattle.mpm_procs.specs.declared.process.Process.{Process}
use Rattle.mpm_residents.specs.Natives.{native_in, native_took, answer_taken, interprets, interprets_if_there}
use Rattle.mpm_residents.specs.declared.native.Native.{Native}
use Rattle.mpm_residents.specs.declared.native.Native.TheVariants.{Tmp, Cli, Spool, Sched}
use Rattle.mpm_system.specs.Calling.{asking}
use Rattle.mpm_system.specs.Sending.{chains}
use Rattle.mpm_system.specs.Whole.{IsWhole}
use Rattle.mpm_system.specs.declared.system.System.{System}
use Rattle.mpm_machine.specs.Interpreting.{sets_or_chains, IsActing}

-- what leaves slot 0, the consoles and the residents as they are, leaves it
unfoldable pub acts_with : (old new : System) → new.residents ≡ old.residents → StaysBeside 0 old.kernel.dispatcher.procs new.kernel.dispatcher.procs
    → length new.kernel.units.consoles ≡ length old.kernel.units.consoles → IsActing old → IsActing new
acts_with old new residents beside count a = record {
  cli = a.cli;
  acts = ap (λ (r : List Native). native_in r 0) residents ∙ a.acts;
  alone = λ p acts. a.alone p (ap (λ (r : List Native). interprets_if_there (native_in r p)) (sym residents) ∙ acts);
  lives = beside.living ∙ a.lives;
  resides = beside.seg ∙ a.resides;
  answers = beside.answers (λ is. false≢true (sym a.calls ∙ ap sets_or_chains is)) ∙ a.answers;
  goes_on = beside.due ∙ a.goes_on;
  calls = ap sets_or_chains beside.function ∙ a.calls;
  stands = a.stands;
  consoles = a.consoles ∙ sym count;
}

-- whoever lives in a segment is another one

pub another : (p seg : ℕ) (system : System) → IsActing system → (process_in system.kernel.dispatcher.procs p).seg ≡ Some seg → 0 ≢ p
another p seg system a home =
    λ is. none-some seg (sym a.resides ∙ ap (λ n. (process_in system.kernel.dispatcher.procs n).seg) is ∙ home)

pub not_resident : (p : ℕ) (system : System) → IsActing system → is_resident system.kernel.dispatcher.procs p ≡ false → 0 ≢ p
not_resident p system a e = λ is. false≢true (sym e ∙ ap (is_resident system.kernel.dispatcher.procs) (sym is) ∙ ap is_none a.resides)

pub not_chaining : (p : ℕ) (system : System) → IsActing system → chains p system.kernel ≡ true → 0 ≢ p
not_chaining p system a e = λ is.
    let chain : (call_of system.kernel.dispatcher.procs 0).function ≡ CHAIN_TO_PROGRAM =
    ap (λ n. (call_of system.kernel.dispatcher.procs n).function) is ∙ eqb-true (call_of system.kernel.dispatcher.procs p).function CHAIN_TO_PROGRAM e in
    false≢true (sym a.calls ∙ ap sets_or_chains chain)

-- slot 0 keeps a call that neither sets the error mode nor chains

unfoldable pub own_call : (call : Taken) (system : System) → IsWhole system → sets_or_chains call.function ≡ false → IsActing system → IsActing (asking 0 call system)
own_call call system w mild a =
    let procs = system.kernel.dispatcher.procs in
    let below = lives_below procs 0 w.sound.slots a.lives in
    record {
      cli = a.cli;
      acts = a.acts;
      alone = a.alone;
      lives = lives_after procs 0 0 call ∙ a.lives;
      resides = ap (λ (x : Process). x.seg) (process_after procs 0 0 call) ∙ a.resides;
      answers = ap (λ (x : Process). x.error_mode) (process_after procs 0 0 call) ∙ a.answers;
      goes_on = ap (λ (x : Process). x.abort_due) (process_after procs 0 0 call) ∙ a.goes_on;
      calls = ap (λ (x : Taken). sets_or_chains x.function) (call_changed procs 0 call (omega (arith, w.sound.slots.calls, below))) ∙ mild;
      stands = a.stands;
      consoles = a.consoles;
    }

-- residents take answers

pub taken_first : (residents : List Native) (native : Native) (reply : Answer) → slice_get residents 0 ≡ Some native
    → slice_get (answer_taken (native_in residents 0) reply 0 residents) 0 ≡ Some (native_took native reply)
taken_first [] native reply is = absurd (cc)
taken_first (first ∷ others) native reply is = ap (λ (o : Option Native). option_took o reply) is where
  option_took : Option Native → Answer → Option Native
  option_took None reply = None
  option_took (Some native) reply = Some (native_took native reply)

same_kind : (native : Native) (reply : Answer) → interprets (native_took native reply) ≡ interprets native
same_kind (Tmp tmp) reply = refl
same_kind (Cli cli) reply = refl
same_kind (Spool spool) reply = refl
same_kind (Sched sched) reply = refl

kinds_stay : (residents : List Native) (q : ℕ) (native : Native) (reply : Answer) (p : ℕ) → slice_get residents q ≡ Some native
    → interprets_if_there (slice_get (slice_set residents q (native_took native reply)) p) ≡ interprets_if_there (slice_get residents p)
kinds_stay [] q native reply p is = absurd (cc)
kinds_stay (first ∷ others) zero native reply zero is = same_kind native reply ∙ sym (ap interprets_if_there is)
kinds_stay (first ∷ others) zero native reply (suc p) is = refl
kinds_stay (first ∷ others) (suc q) native reply zero is = refl
kinds_stay (first ∷ others) (suc q) native reply (suc p) is = kinds_stay others q native reply p is

pub kinds_taken : (o : Option Native) (residents : List Native) (q : ℕ) (reply : Answer) (p : ℕ) → slice_get residents q ≡ o
    → interprets_if_there (slice_get (answer_taken o reply q residents) p) ≡ interprets_if_there (slice_get residents p)
kinds_taken None residents q reply p is = refl
kinds_taken (Some native) residents q reply p is = kinds_stay residents q native reply p is

first_of : (residents : List Native) (q : ℕ) (native : Native) → slice_get (slice_set residents (suc q) native) 0 ≡ slice_get residents 0
first_of [] q native = refl
first_of (first ∷ others) q native = refl

pub first_stays : (o : Option Native) (residents : List Native) (q : ℕ) (reply : Answer) → native_in (answer_taken o reply (suc q) residents) 0 ≡ native_in residents 0
first_stays None residents q reply = refl
first_stays (Some native) residents q reply = first_of residents q (native_took native reply)

-- the interpreter itself, and then another
unfoldable pub acts_took : (system : System) (reply : Answer) (a : IsActing system) → IsActing (record system { residents = answer_taken (native_in system.residents 0) reply 0 system.residents })
acts_took system reply a = record {
  cli = took a.cli reply;
  acts = taken_first system.residents (Cli a.cli) reply a.acts;
  alone = λ p acts. a.alone p (sym (kinds_taken (native_in system.residents 0) system.residents 0 reply p refl) ∙ acts);
  lives = a.lives;
  resides = a.resides;
  answers = a.answers;
  goes_on = a.goes_on;
  calls = a.calls;
  stands = stands_took a.cli reply a.stands;
  consoles = consoles_took a.cli reply ∙ a.consoles;
}

unfoldable pub acts_another_took : (system : System) (reply : Answer) (q : ℕ) (a : IsActing system)
    → IsActing (record system { residents = answer_taken (native_in system.residents (suc q)) reply (suc q) system.residents })
acts_another_took system reply q a = record {
  cli = a.cli;
  acts = first_stays (native_in system.residents (suc q)) system.residents q reply ∙ a.acts;
  alone = λ p acts. a.alone p (sym (kinds_taken (native_in system.residents (suc q)) system.residents (suc q) reply p refl) ∙ acts);
  lives = a.lives;
  resides = a.resides;
  answers = a.answers;
  goes_on = a.goes_on;
  calls = a.calls;
  stands = a.stands;
  consoles = a.consoles;
}
