-- A process whose core is saved after some steps of a command, and which then runs on alone: what a row of such steps asks of its first system is
-- so in each state that a command comes to.
use Rattle.std.proofs.Common.{◌≡◌, ◌∙◌, ℕ, zero, suc, ◌<◌, ◌≤◌, Bool, true, false, List, [], All, Option, Some, None, length, refl, sym, subst}
use Rattle.std.specs.Prelude.{option_map}
use Rattle.std.proofs.lemmas.List.Elements.{All-nil}
use Rattle.std.proofs.lemmas.Option.{same_Some}
use Rattle.mpm_script.specs.declared.event.Timed.{Timed}
use Rattle.mpm_script.specs.Events.{IsTimed}
use Rattle.mpm_script.proofs.OrderLaws.{script_is}
use Rattle.mpm_machine_file.specs.declared.machine_file.MachineFile.{MachineFile}
use Rattle.mpm_machine_file.specs.MachineFiles.{IsMachine, machine_of_text}
use Rattle.mpm_machine_file.proofs.MachineLaws.{text_limits}
use Rattle.mpm_system.specs.declared.system.System.{System}
use Rattle.mpm_system.specs.Whole.{IsWhole, NoCompletions}
use Rattle.mpm_system.specs.Opening.{booted, opened, opening_system, schedule_number, begun_by_interpreter, with_interpreting, with_terminals, with_spooler, with_scheduler}
use Rattle.mpm_machine.specs.State.{State}
use Rattle.mpm_machine.specs.After.{after}
use Rattle.mpm_machine.specs.Due.{NobodyDue}
use Rattle.mpm_machine.specs.Stepping.{telling_of}
use Rattle.mpm_machine.proofs.AfterLaws.{opening_whole, opening_handed, opened_whole, opened_handed}
use Rattle.mpm_machine.proofs.NextLaws.{next_is, whole_after, handed_after}
use Rattle.mpm_machine.proofs.NobodyDueLaws.{none_aborted_due}
use Rattle.mpm_machine.proofs.StepWithLaws.{nobody_due_with}
use Rattle.mpm_core.specs.Alone.{IsAlone, RunsAlone}
use Rattle.mpm_core.proofs.StateRuns.{states_run}
use Rattle.mpm_top.specs.Beginnings.{Contents, Host, BeginsCommand, Scripted}
use Rattle.mpm_top.specs.declared.words.Form.{Form}
use Rattle.mpm_top.specs.declared.words.Form.TheVariants.{Program, Run}

-- a system is whole, nobody is left to be answered, and nobody's end is due
record IsAtRest (system : System) : Type 0 where
  whole : IsWhole system
  no_completions : NoCompletions system
  due : NobodyDue system.kernel

-- where a machine begins no end is put off

off_terminals : (count : ℕ) (system : System) → (with_terminals count system).abort_deferred ≡ system.abort_deferred
unfolding with_terminals Rattle.mpm_system.specs.Opening.with_resident
off_terminals zero system = refl
off_terminals (suc n) system = off_terminals n system

off_spooler : (spool : Bool) (system : System) → (with_spooler spool system).abort_deferred ≡ system.abort_deferred
unfolding with_spooler Rattle.mpm_system.specs.Opening.with_resident
off_spooler true system = refl
off_spooler false system = refl

off_scheduler : (sched : Bool) (queue : ℕ) (system : System) → (with_scheduler sched queue system).abort_deferred ≡ system.abort_deferred
unfolding with_scheduler Rattle.mpm_system.specs.Opening.with_resident
off_scheduler true queue system = refl
off_scheduler false queue system = refl

opened_off : (file : MachineFile) (events : List Timed) → (opened file events).abort_deferred ≡ false
unfolding opened booted begun_by_interpreter Rattle.mpm_system.specs.Opening.with_residents Rattle.mpm_system.specs.Opening.begun_residents
opened_off file events =
    let first = with_interpreting file.consoles (begun_by_interpreter (booted file events)) in
    let terminals = with_terminals file.consoles first in
    off_scheduler file.sched (schedule_number file.spool) (with_spooler file.spool terminals) ∙ off_spooler file.spool terminals ∙ off_terminals file.consoles first

opening_off : (program : List ℕ) → (opening_system program).abort_deferred ≡ false
unfolding opening_system booted Rattle.mpm_system.specs.Opening.with_placed
opening_off program = refl

file_rests : (file : MachineFile) (events : List Timed) → IsMachine file → All IsTimed events → IsAtRest (opened file events)
file_rests file events is script =
    let whole = opened_whole file events is script in
    record { whole = whole; no_completions = opened_handed file events is script; due = none_aborted_due (opened file events).kernel (whole.settled (opened_off file events)) }

program_rests : (program : List ℕ) → length program ≤ 48512 → IsAtRest (opening_system program)
program_rests program few =
    let whole = opening_whole program few in
    record { whole = whole; no_completions = opening_handed program few; due = none_aborted_due (opening_system program).kernel (whole.settled (opening_off program)) }

-- a command begins so, and comes to such states

events_read : (contents : Contents) (script : Option (List ℕ)) (events : List Timed) → Scripted contents script events → All IsTimed events
events_read contents None events none = subst (All IsTimed) (sym none) (All-nil IsTimed)
events_read contents (Some script) events h = (script_is h.text events h.read).each

of_some : (o : Option MachineFile) (begins : MachineFile → System) (system : System) → option_map begins o ≡ Some system → (file : MachineFile) × (o ≡ Some file) × (begins file ≡ system)
of_some None begins system is = absurd (cc)
of_some (Some file) begins system is = (file, refl, same_Some (begins file) system is)

begins_at_rest : (host : Host) (form : Form) (name : List ℕ) (s : State) → BeginsCommand host form name s → IsAtRest s.system
unfolding Rattle.mpm_top.specs.Beginnings.system_of
begins_at_rest host Program name s b = subst IsAtRest (same_Some (opening_system b.bytes) s.system b.is) (program_rests b.bytes b.contents_are.fits)
begins_at_rest host Run name s b =
    let read = of_some (machine_of_text b.bytes) (λ file. opened file b.events) s.system b.is in
    subst IsAtRest read.2 (file_rests read.0 b.events (text_limits b.bytes read.0 read.1) (events_read host.contents _ b.events b.scripted))

rests_after : (n : ℕ) (s : State) → IsAtRest s.system → IsAtRest (after n s).system
unfolding after
rests_after zero s r = r
rests_after (suc n) s r =
    let here = after n s in
    record {
      whole = whole_after (suc n) s r.whole;
      no_completions = handed_after (suc n) s r.no_completions;
      due = subst (λ (system : System). NobodyDue system.kernel) (sym (next_is here)) (nobody_due_with (telling_of here.system here.files) here.system (rests_after n s r).whole);
    }

-- so the states after those steps are such a row, where each of the next steps is an instruction of one process alone
pub saved_runs_alone : (host : Host) (form : Form) (name : List ℕ) (s : State) (n m p seg : ℕ) → BeginsCommand host form name s
    → ((k : ℕ) → k < m → IsAlone p seg (after k (after n s)).system) → RunsAlone m p seg (λ k. (after k (after n s)).system)
saved_runs_alone host form name s n m p seg begins each =
    let rest = rests_after n s (begins_at_rest host form name s begins) in
    states_run m p seg (after n s) rest.whole rest.no_completions rest.due each
