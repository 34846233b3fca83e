-- When the turns of a call end, counted from its entry into service.
use Rattle.std.specs.Prelude.{◌≡◌, ℕ, zero, suc, ◌+◌, ◌*◌, ◌<◌, ◌==◌, Option, Some, None, option_map, option_and_then, if◌then◌else◌}
use Rattle.mpm_service.specs.declared.service.Served.{Served}
use Rattle.mpm_service.specs.declared.service.Turn.{Turn}
use Rattle.mpm_service.specs.declared.service.Turn.TheVariants.{Passing, Work}
use Rattle.mpm_service.specs.Disk.{after_step, step_answer}

-- a call after so many steps of the disk, whoever comes to wait or leaves meanwhile
unfoldable pub after_steps : ℕ → ℕ → Served → Option Served
after_steps turn_steps zero call = Some call
after_steps turn_steps (suc n) call = option_and_then (after_step turn_steps) (after_steps turn_steps n call)

-- what the step after them answers
abbrev pub answer_after : ℕ → ℕ → Served → Option Turn
answer_after turn_steps n call = option_map (step_answer turn_steps) (after_steps turn_steps n call)

-- a call that enters service for t turns of k steps has work done exactly in its steps k, 2k, .. tk, the last time in step tk, and after
-- that it is served no more. Turns and the steps of one are counted from 0
pub record TakesTurns (turn_steps turns : ℕ) (call : Served) : Type 0 where
  pub answers : (turn step : ℕ) → turn < turns → step < turn_steps
      → answer_after turn_steps (turn_steps * turn + step) call ≡ Some (if step + 1 == turn_steps then Work call.p (turn + 1 == turns) else Passing)
  pub ends : after_steps turn_steps (turn_steps * turns) call ≡ None
