-- Who has which slot as a machine begins to run: the command line interpreter the lowest, after it a terminal message processor for each
-- console, by number, and then the spooler and the scheduler, where the machine has them.
use Rattle.std.specs.Prelude.{◌≡◌, ℕ, ◌+◌, ◌<◌, Bool, true, false, Some, None, codes, length}
use Rattle.mpm_base.specs.Counts.{one_if}
use Rattle.mpm_base.specs.declared.number.Name8.{Name8}
use Rattle.mpm_dispatcher.specs.Dispatch.{IsReady}
use Rattle.mpm_procs.specs.Table.{Lives, process_in, call_of}
use Rattle.mpm_procs.specs.declared.process.Process.{Process}
use Rattle.mpm_residents.specs.Terminals.{opening}
use Rattle.mpm_residents.specs.declared.native.Native.{Native}
use Rattle.mpm_residents.specs.declared.native.Native.TheVariants.{Tmp, Cli, Spool, Sched}
use Rattle.mpm_residents.specs.Interpreters.{opening as opening_interpreter}
use Rattle.mpm_residents.specs.Natives.{native_in}
use Rattle.mpm_sched.specs.Schedulers.{opening as opening_scheduler}
use Rattle.mpm_spool.specs.Spoolers.{opening as opening_spooler}
use Rattle.mpm_system.specs.declared.system.System.{System}
use Rattle.mpm_system.specs.Opening.{terminal_name, spooler_name, scheduler_name, schedule_number, resident_queues, OnlyHas}

-- slot 0 has the process of the command line interpreter, which is at its opening and ready; it lives in no segment, takes extended
-- errors as answers, no end of it is put off, and it has called nothing yet
pub record HasInterpreter (consoles : ℕ) (system : System) : Type 0 where
  pub lives : Lives system.kernel.dispatcher.procs 0
  pub name : (process_in system.kernel.dispatcher.procs 0).name ≡ record { 0 = codes "cli     " }
  pub ready : IsReady system.kernel.dispatcher 0
  pub resides : (process_in system.kernel.dispatcher.procs 0).seg ≡ None
  pub answers : (process_in system.kernel.dispatcher.procs 0).error_mode ≡ 255
  pub goes_on : (process_in system.kernel.dispatcher.procs 0).abort_due ≡ false
  pub calls : (call_of system.kernel.dispatcher.procs 0).function ≡ 0
  pub resident : native_in system.residents 0 ≡ Some (Cli (opening_interpreter consoles))

-- what a process has set, by which its calls on printers and files go: the number of its printer, its drive, its user and its multi-sector
-- count. A resident begins with printer 0, drive A, user 0 and a count of one record
pub record Settings : Type 0 where
  pub printer : ℕ
  pub drive : ℕ
  pub user : ℕ
  pub multi : ℕ

abbrev pub settings_of : Process → Settings
settings_of process = record { printer = process.printer; drive = process.drive; user = process.user; multi = process.multi }

abbrev pub first_settings : Settings
first_settings = record { printer = 0; drive = 0; user = 0; multi = 1 }

-- a slot has the process of a name, in which a resident acts; it lives in no segment, takes extended errors as answers, no end of it is put
-- off, it has set nothing, and it has called nothing yet
pub record HasResident (p : ℕ) (named : Name8) (native : Native) (system : System) : Type 0 where
  pub lives : Lives system.kernel.dispatcher.procs p
  pub name : (process_in system.kernel.dispatcher.procs p).name ≡ named
  pub resides : (process_in system.kernel.dispatcher.procs p).seg ≡ None
  pub answers : (process_in system.kernel.dispatcher.procs p).error_mode ≡ 255
  pub goes_on : (process_in system.kernel.dispatcher.procs p).abort_due ≡ false
  pub set : settings_of (process_in system.kernel.dispatcher.procs p) ≡ first_settings
  pub calls : (call_of system.kernel.dispatcher.procs p).function ≡ 0
  pub resident : native_in system.residents p ≡ Some native

-- the slot after the number of a console has the process of its terminal message processor, which is at its opening
abbrev pub HasTerminal : ℕ → System → Type 0
HasTerminal console system = HasResident (console + 1) (terminal_name console) (Tmp (opening console)) system

-- the interpreter, a terminal message processor for each of so many consoles, the spooler in the slot after theirs and the scheduler in the
-- next one, where there are these, and no other resident. The system's queues are the only ones
pub record HasResidents (consoles : ℕ) (spool sched : Bool) (system : System) : Type 0 where
  pub interpreter : HasInterpreter consoles system
  pub terminals : (console : ℕ) → console < consoles → HasTerminal console system
  pub spooler : spool ≡ true → HasResident (consoles + 1) spooler_name (Spool opening_spooler) system
  pub scheduler : sched ≡ true → HasResident (consoles + 1 + one_if spool) scheduler_name (Sched (opening_scheduler (schedule_number spool))) system
  pub only : length system.residents ≡ consoles + 1 + one_if spool + one_if sched
  pub queues : OnlyHas (resident_queues spool sched) system.kernel
