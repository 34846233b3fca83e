-- Worked examples of the scheduler's table. Of two entries of one day, for 14:31 and 14:30, the second is sent first.
use Rattle.std.proofs.Common.{◌≡◌, ◌∷◌, [], false, replicate, refl, ℕ}
use Rattle.std.specs.Prelude.{⊤}
use Rattle.mpm_base.specs.Calls.{Answer, answering, asking}
use Rattle.mpm_sched.specs.Schedules.{SchedulerState, Accepted, first_of, waiting, next_call, took, opening, after, sends}
use Rattle.mpm_sched.specs.declared.entry.SchedEntry.{SchedEntry}
use Rattle.mpm_sched.specs.declared.table.Row.{Row}
use Rattle.mpm_sched.specs.declared.table.Row.TheVariants.{AskTime, Send}

unfoldable pub scheduling : ⊤
unfolding first_of waiting next_call took opening after sends
scheduling = tt

abbrev command : ℕ → ℕ → SchedEntry
command minute letter = record { date = 790; hour = 14; minute = minute; console = 0; length = 1; command = letter ∷ replicate 127 0 }

abbrev waiting_for : ℕ → ℕ → Accepted
waiting_for minute letter = record { entry = command minute letter; is_sent = false }

abbrev two : Row → ℕ → SchedulerState
two row clock = record { row = row; accepted = waiting_for 31 65 ∷ waiting_for 30 66 ∷ []; clock = clock }

-- 14:31 of day 790
abbrev read_at : Answer
read_at = record (answering 0) { bytes = 0x16 ∷ 3 ∷ 0x14 ∷ 0x31 ∷ 0 ∷ [] }

pub is_read : took (two AskTime 0) read_at ≡ two Send 1138471
unfolding scheduling
is_read = refl

pub later_is_first : next_call 3 (two Send 1138471) ≡ asking 150 0 (0 ∷ 0 ∷ 66 ∷ [])
unfolding scheduling
later_is_first = refl

pub then_earlier : next_call 3 (took (two Send 1138471) (answering 0)) ≡ asking 150 0 (0 ∷ 0 ∷ 65 ∷ [])
unfolding scheduling
then_earlier = refl

-- whatever the answer is, each is sent once
pub then_waits : next_call 3 (took (took (two Send 1138471) (answering 0)) (answering 255)) ≡ asking 141 1 []
unfolding scheduling
then_waits = refl
