-- Held calls that are completed, by another process's call or by an event: their replies are placed, in order. (MP/M II
-- Programmer's Guide, "Function 132: Flag Wait", "Function 141: Delay", "Function 131: Poll", "Function 151: Call Resident
-- System Procedure", "Function 150: Send CLI Command", "Function 47: Chain to Program".)
use Rattle.std.specs.Prelude.{ℕ, List, [], ◌∷◌, Option, Some, None, if◌then◌else◌, ◌≡◌, IfSome, IfNone}
use Rattle.mpm_procs.specs.Table.{process_in, call_of, Lives}
use Rattle.mpm_dispatcher.specs.Dispatch.{first_completed}
use Rattle.mpm_kernel.specs.Events.{handed_out}
use Rattle.mpm_kernel.specs.Waiting.{completion_reply}
use Rattle.mpm_system.specs.declared.system.System.{System}
use Rattle.mpm_system.specs.Sending.{chains, let_in}
use Rattle.mpm_system.specs.Residents.{taking}
use Rattle.mpm_machine.specs.Ending.{ended}
use Rattle.mpm_machine.specs.Serving.{fulfilling}
use Rattle.mpm_base.specs.Calls.{Answer}
use Rattle.mpm_system.specs.Whole.{IsWhole}
use Rattle.mpm_machine.specs.Acting.{MayAnswer}

-- the held call of a process is completed: it is fulfilled in its segment, and a resident, which has none, takes the answer
abbrev pub finished : Option ℕ → ℕ → System → System
finished None p system = taking (completion_reply system.kernel p) p system
finished (Some seg) p system = fulfilling (completion_reply system.kernel p) (call_of system.kernel.dispatcher.procs p) p seg system

-- the next process is handed out
abbrev pub completion_dequeued : System → System
completion_dequeued system = record system { kernel = handed_out system.kernel }

-- the held calls of processes, in order
unfoldable pub finishing : List ℕ → System → System
finishing [] system = system
finishing (p ∷ ps) system = finishing ps (finished (process_in system.kernel.dispatcher.procs p).seg p (completion_dequeued system))

-- all that were completed
abbrev pub all_finished : System → System
all_finished system = finishing system.kernel.dispatcher.completed system

-- a command that was held goes in
abbrev pub command_let_in : ℕ → System → System
command_let_in p system = record system { kernel = let_in p system.kernel }

-- the held call of a process is completed, or, where it chained, the process ends, without an answer
abbrev pub finished_or_ended : ℕ → System → System
finished_or_ended p system =
    if chains p system.kernel then ended p system else finished (process_in system.kernel.dispatcher.procs p).seg p system

-- all that were completed by what a step begins with: the first, which lets a command in where it sent one, and the others. A command
-- that is held waits to write to its queue (law `held_writer` of mpm_kernel). No event completes it there, and no other process that ends
-- or leaves its procedure (laws `event_leaves_writer`, `end_leaves_writer`, `return_leaves_writer`). A call does, and completes no other
-- (law `completes_one`)
unfoldable pub answered_from : Option ℕ → System → System
answered_from None system = system
answered_from (Some p) system = all_finished (finished_or_ended p (command_let_in p (completion_dequeued system)))

abbrev pub all_answered : System → System
all_answered system = answered_from (first_completed system.kernel.dispatcher.completed) system

-- the next process whose held call was completed is handed out, if there is one, with its reply
pub record HandsOut (old new : System) (answer : Answer) (result : Option ℕ) : Type 0 where
  pub process : result ≡ first_completed old.kernel.dispatcher.completed
  pub system : new ≡ completion_dequeued old
  pub whole : IsWhole new
  pub nothing : IfNone result (new ≡ old)
  pub lives : IfSome result (λ p. Lives new.kernel.dispatcher.procs p)
  pub reply : IfSome result (λ p. answer ≡ completion_reply new.kernel p)

-- so it may be answered, with that reply
pub record MayFinish (p : ℕ) (answer : Answer) (system : System) : Type 0 where
  pub answers : MayAnswer p system
  pub reply : answer ≡ completion_reply system.kernel p
