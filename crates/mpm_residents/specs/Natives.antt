-- The processes of the system, each by its own table, and those that act by slot. (MP/M II System Guide, "Resident System
-- Processes"; User's Guide, "Command Line Interpreter", "Terminal Message Processor".)
use Rattle.std.specs.Prelude.{ℕ, Bool, true, false, List, Option, Some, None, slice_get, slice_set}
use Rattle.mpm_base.specs.Calls.{Taken, Answer}
use Rattle.mpm_residents.specs.Interpreters.{next_act, next_call as interpreters_call, took as interpreter_took, IsAct}
use Rattle.mpm_residents.specs.declared.cli.act.Act.{Act}
use Rattle.mpm_residents.specs.declared.cli.act.Act.TheVariants.{Ask}
use Rattle.mpm_residents.specs.Terminals.{next_call, took}
use Rattle.mpm_residents.specs.declared.native.Native.{Native}
use Rattle.mpm_residents.specs.declared.native.Native.TheVariants.{Tmp, Cli, Spool, Sched}
use Rattle.mpm_sched.specs.Schedulers.{next_call as schedulers_call, took as scheduler_took}
use Rattle.mpm_spool.specs.Spoolers.{next_call as spoolers_call, took as spooler_took}

-- the call that it makes next, or the bytes that it hands over
abbrev pub native_call : Native → Taken
native_call (Tmp tmp) = next_call tmp
native_call (Cli cli) = interpreters_call cli
native_call (Spool spool) = spoolers_call spool
native_call (Sched sched) = schedulers_call sched

-- what it does next: all but an interpreter always make a call
abbrev pub native_act : Native → Act
native_act (Tmp tmp) = Ask
native_act (Cli cli) = next_act cli
native_act (Spool spool) = Ask
native_act (Sched sched) = Ask

-- the bounds of what an interpreter hands over
abbrev pub IsNativeAct : Native → Act → Type 0
IsNativeAct (Tmp tmp) act = Unit {0}
IsNativeAct (Cli cli) act = IsAct cli.consoles act
IsNativeAct (Spool spool) act = Unit {0}
IsNativeAct (Sched sched) act = Unit {0}

-- it after the answer to that
abbrev pub native_took : Native → Answer → Native
native_took (Tmp tmp) reply = Tmp (took tmp reply)
native_took (Cli cli) reply = Cli (interpreter_took cli reply)
native_took (Spool spool) reply = Spool (spooler_took spool reply)
native_took (Sched sched) reply = Sched (scheduler_took sched reply)

-- the resident of a slot, if one acts there: they have the lowest slots
abbrev pub native_in : List Native → ℕ → Option Native
native_in natives p = slice_get natives p

-- whether it is the command line interpreter
abbrev pub interprets : Native → Bool
interprets (Tmp tmp) = false
interprets (Cli cli) = true
interprets (Spool spool) = false
interprets (Sched sched) = false

-- whether that acts in a slot
abbrev pub interprets_if_there : Option Native → Bool
interprets_if_there None = false
interprets_if_there (Some native) = interprets native

-- the residents once the one of a slot took an answer
abbrev pub answer_taken : Option Native → Answer → ℕ → List Native → List Native
answer_taken None reply p natives = natives
answer_taken (Some native) reply p natives = slice_set natives p (native_took native reply)
