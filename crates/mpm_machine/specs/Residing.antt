-- Residents: processes of the system that run no instructions. In its step each makes one call, whose bytes it has itself, or, as
-- the command line interpreter does, hands something over, and goes on by the answer; its calls read and write no memory. (MP/M
-- II System Guide, "Resident System Processes"; User's Guide, "Terminal Message Processor", "Command Line Interpreter".)
use Rattle.std.specs.Prelude.{ℕ, if◌then◌else◌, Option, Some, None, ◌≡◌, true, is_some}
use Rattle.mpm_base.specs.Calls.{Taken, Answer}
use Rattle.mpm_base.specs.declared.call.Outcome.{Outcome}
use Rattle.mpm_base.specs.declared.call.Outcome.TheVariants.{Done, Held, Retry, Ended}
use Rattle.mpm_residents.specs.declared.cli.act.Act.{Act}
use Rattle.mpm_residents.specs.declared.cli.act.Act.TheVariants.{Ask}
use Rattle.mpm_residents.specs.Natives.{native_call, native_act, native_in}
use Rattle.mpm_residents.specs.declared.native.Native.{Native}
use Rattle.mpm_system.specs.declared.system.System.{System}
use Rattle.mpm_system.specs.Whole.{SystemChange, silent}
use Rattle.mpm_system.specs.Calling.{asking}
use Rattle.mpm_system.specs.Saying.{said_by}
use Rattle.mpm_system.specs.Residents.{taking, tells, telling_step, handing_step}
use Rattle.mpm_machine.specs.Ending.{ended}
use Rattle.mpm_machine.specs.Serving.{served_to_all, after_echo}
use Rattle.mpm_system.specs.Sending.{IsReadyWithin}

-- what its call brings about: one that is done writes its text, whose string is the call's bytes, and the resident takes the
-- answer
abbrev pub native_outcome : Outcome → Answer → Taken → ℕ → System → SystemChange
native_outcome Done reply call p system =
    let spoke = said_by call call.bytes p system in
    record spoke { system = taking reply p spoke.system }
native_outcome Ended reply call p system = silent (ended p system)
native_outcome Held reply call p system = silent system
native_outcome Retry reply call p system = silent system

-- the step of a resident that makes a call
unfoldable pub calling_step : Taken → ℕ → System → SystemChange
calling_step call p system =
    let done = served_to_all call p system in
    after_echo call p done.system (native_outcome done.outcome done.reply call p done.system)

-- what a resident does in its step, whose process keeps what it filled in
abbrev pub native_step : Act → Taken → ℕ → System → SystemChange
native_step Ask call p system = if tells (native_in system.residents p) call then telling_step call p system else calling_step call p system
native_step act call p system = silent (handing_step act call p system)

-- a process without a segment takes its step as the resident of its slot, if one acts there
abbrev pub resided : Option Native → ℕ → System → SystemChange
resided None p system = silent system
resided (Some native) p system = native_step (native_act native) (native_call native) p (asking p (native_call native) system)

-- the process that acts is a resident's
pub record MayReside (p : ℕ) (system : System) : Type 0 where
  pub acts : IsReadyWithin p system
  pub has : is_some (native_in system.residents p) ≡ true
