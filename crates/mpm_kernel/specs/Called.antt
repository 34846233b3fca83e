-- What a call tells, and what becomes of it.
use Rattle.std.specs.Prelude.{◌≡◌, ℕ, ◌%◌, List, [], ◌∷◌, if◌then◌else◌}
use Rattle.std.specs.List.{flat_map}
use Rattle.mpm_base.specs.Lists.{is_among}
use Rattle.mpm_base.specs.Calls.{Taken, Answer, answering}
use Rattle.mpm_base.specs.declared.call.TheConstants.{FAILURE_CODE}
use Rattle.mpm_base.specs.declared.call.Outcome.{Outcome}
use Rattle.mpm_base.specs.declared.call.Outcome.TheVariants.{Done, Held}
use Rattle.mpm_procs.specs.declared.process.Process.{Process}
use Rattle.mpm_kernel.specs.Kernel.{Kernel, dispatched}
use Rattle.mpm_dispatcher.specs.Dispatch.{at_rest}

-- what becomes of the kernel and of the call, and the reply
pub record Called : Type 0 where
  pub kernel : Kernel
  pub outcome : Outcome
  pub reply : Answer

-- a call yields the kernel as it is then, the outcome, and the answer
pub record Yields (called : Called) (after : Kernel) (result : Outcome) (answer : Answer) : Type 0 where
  pub kernel : after ≡ called.kernel
  pub outcome : result ≡ called.outcome
  pub reply : answer ≡ called.reply

-- the call is done and answers a value
abbrev pub valued : ℕ → Kernel → Called
valued value kernel = record { kernel = kernel; outcome = Done; reply = answering value }

-- the call is done and answers nothing, which is 0
abbrev pub done : Kernel → Called
done kernel = valued 0 kernel

-- the parameter's low byte, which came in E
abbrev pub low_parameter : Taken → ℕ
low_parameter call = call.word % 256

-- an answer that refuses
abbrev pub failure_code : ℕ
failure_code = FAILURE_CODE

-- the call is held: its process runs no more, and is answered once the call is completed
abbrev pub blocked : ℕ → Kernel → Called
blocked p kernel = record { kernel = dispatched (at_rest p) kernel; outcome = Held; reply = answering 0 }

-- a row: some functions, and what the call of each does, by the call, the process that makes it, and what that process is
pub record CallRow : Type 0 where
  pub functions : List ℕ
  pub does : Taken → ℕ → Process → Kernel → Called

abbrev pub row : List ℕ → (Taken → ℕ → Process → Kernel → Called) → CallRow
row functions does = record { functions = functions; does = does }

-- the functions of some rows
abbrev pub functions_of : List CallRow → List ℕ
functions_of rows = flat_map (λ (row : CallRow). row.functions) rows

-- what rows make of a call: the first that names its function does it; a function that stands in none answers FFFFh
abbrev pub done_by : List CallRow → Taken → ℕ → Process → Kernel → Called
done_by [] call p process kernel = valued 65535 kernel
done_by (row ∷ rows) call p process kernel =
    if is_among call.function row.functions then row.does call p process kernel else (done_by rows call p process kernel)
