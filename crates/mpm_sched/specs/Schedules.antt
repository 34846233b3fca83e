-- The scheduler: the entries that it accepted, in order of arrival, the call that it makes in each row of its table, and where it goes by
-- the answer. (MP/M II User's Guide, "SCHED"; Programmer's Guide, "Function 138: Conditional Read Queue", "Function 155: Get Date and
-- Time", "Function 150: Send CLI Command", "Function 141: Delay".)
use Rattle.std.specs.Prelude.{◌≡◌, ◌<◌, ℕ, ◌+◌, ◌*◌, Bool, true, false, not, ◌==◌, ◌&&◌, ◌||◌, nat_lt, nat_le, if◌then◌else◌, List, [], ◌∷◌, ◌++◌, length, take, find, count_by, slice_index_or, slice_set, codes, Option, Some, None, ⊤}
use Rattle.std.specs.List.{range_with_len, list_all}
use Rattle.mpm_base.specs.Lists.{zeros, in_width, is_among}
use Rattle.mpm_base.specs.Calls.{Taken, Answer, asking}
use Rattle.mpm_base.specs.declared.functions.TheConstants.{CONDITIONAL_READ_QUEUE, GET_DATE_TIME_AND_SECOND, SEND_CLI_COMMAND, DELAY}
use Rattle.mpm_clock.specs.PackedDecimal.{unpacked}
use Rattle.mpm_sched.specs.Entries.{entry_of}
use Rattle.mpm_sched.specs.declared.entry.SchedEntry.{SchedEntry}
use Rattle.mpm_sched.specs.declared.table.Row.{Row}
use Rattle.mpm_sched.specs.declared.table.Row.TheVariants.{Receive, AskTime, Send, Wait}

-- a moment in minutes
abbrev pub moment : ℕ → ℕ → ℕ → ℕ
moment date hour minute = 1440 * date + 60 * hour + minute

abbrev pub time_of : SchedEntry → ℕ
time_of entry = moment entry.date entry.hour entry.minute

-- an entry that was accepted, and whether it was sent
pub record Accepted : Type 0 where
  pub entry : SchedEntry
  pub is_sent : Bool

abbrev pub no_entry : SchedEntry
no_entry = record { date = 0; hour = 0; minute = 0; console = 0; length = 0; command = zeros 128 }

abbrev pub nothing : Accepted
nothing = record { entry = no_entry; is_sent = true }

-- the one that arrived at a place, counted from 0, whether it waits to be sent, and its time
abbrev pub entry_at : List Accepted → ℕ → SchedEntry
entry_at accepted i = (slice_index_or accepted i nothing).entry

abbrev pub waits : List Accepted → ℕ → Bool
waits accepted i = not (slice_index_or accepted i nothing).is_sent

abbrev pub time_at : List Accepted → ℕ → ℕ
time_at accepted i = time_of (entry_at accepted i)

-- one is sent before another by its time, and of one time by its arrival
abbrev pub comes_before : List Accepted → ℕ → ℕ → Bool
comes_before accepted i j = nat_lt (time_at accepted i) (time_at accepted j) || (time_at accepted i == time_at accepted j && nat_le i j)

-- the first: it waits, and comes before all others that wait
abbrev pub places : List Accepted → List ℕ
places accepted = range_with_len 0 (length accepted)

abbrev pub is_first : List Accepted → ℕ → Bool
is_first accepted i = waits accepted i && list_all (λ j. not (waits accepted j) || comes_before accepted i j) (places accepted)

unfoldable pub first_of : List Accepted → Option ℕ
first_of accepted = find (is_first accepted) (places accepted)

-- how many wait
unfoldable pub waiting : List Accepted → ℕ
waiting accepted = count_by (λ (a : Accepted). not a.is_sent) accepted

-- one that was sent
abbrev pub sent_at : List Accepted → ℕ → List Accepted
sent_at accepted i = slice_set accepted i (record { entry = entry_at accepted i; is_sent = true })

-- the scheduler: its row, what it accepted, and the moment at which it read the clock last
pub record SchedulerState : Type 0 where
  pub row : Row
  pub accepted : List Accepted
  pub clock : ℕ

-- where 32 wait, it takes no more
abbrev pub most : ℕ
most = 32

abbrev pub row_to_receive : List Accepted → Row
row_to_receive accepted = if nat_lt (waiting accepted) most then Receive else AskTime

-- where the first is due at a moment, it is sent
abbrev pub is_due : List Accepted → ℕ → Option ℕ → Bool
is_due accepted clock None = false
is_due accepted clock (Some i) = nat_le (time_at accepted i) clock

abbrev pub row_to_send : List Accepted → ℕ → Row
row_to_send accepted clock = if is_due accepted clock (first_of accepted) then Send else Wait

unfoldable pub opening : SchedulerState
opening = record { row = Receive; accepted = []; clock = 0 }

-- the user queue control block of its queue, of a number: the pointer is one more
abbrev pub queue_block : ℕ → List ℕ
queue_block queue = (queue + 1) ∷ 0 ∷ 0 ∷ 0 ∷ codes "SCHED   "

-- what is sent: user 0 and drive A in one byte, the console, and the command
abbrev pub command_of : SchedEntry → List ℕ
command_of entry = 0 ∷ entry.console ∷ take entry.length entry.command

abbrev pub first_command : List Accepted → Option ℕ → List ℕ
first_command accepted None = command_of no_entry
first_command accepted (Some i) = command_of (entry_at accepted i)

-- the call of each row
abbrev pub call_at : Row → ℕ → SchedulerState → Taken
call_at Receive queue d = asking CONDITIONAL_READ_QUEUE 0 (queue_block queue)
call_at AskTime queue d = asking GET_DATE_TIME_AND_SECOND 0 []
call_at Send queue d = asking SEND_CLI_COMMAND 0 (first_command d.accepted (first_of d.accepted))
call_at Wait queue d = asking DELAY 1 []

unfoldable pub next_call : ℕ → SchedulerState → Taken
next_call queue d = call_at d.row queue d

-- a message that is an entry is accepted, and another dropped
abbrev pub with_entry : Option SchedEntry → SchedulerState → SchedulerState
with_entry None d = d
with_entry (Some entry) d =
    let more = d.accepted ++ record { entry = entry; is_sent = false } ∷ [] in record d { row = row_to_receive more; accepted = more }

-- the moment that is read: the date, and hour and minute in packed decimal
abbrev pub byte_read : Answer → ℕ → ℕ
byte_read reply place = slice_index_or reply.bytes place 0

abbrev pub moment_read : Answer → ℕ
moment_read reply = moment (byte_read reply 0 + 256 * byte_read reply 1) (unpacked (byte_read reply 2)) (unpacked (byte_read reply 3))

-- the first is sent, whatever the answer
abbrev pub first_sent : Option ℕ → List Accepted → List Accepted
first_sent None accepted = accepted
first_sent (Some i) accepted = sent_at accepted i

abbrev pub took_at : Row → SchedulerState → Answer → SchedulerState
took_at Receive d reply = if reply.hl == 0 then with_entry (entry_of (in_width 128 reply.bytes)) d else record d { row = AskTime }
took_at AskTime d reply = record d { row = row_to_send d.accepted (moment_read reply); clock = moment_read reply }
took_at Send d reply =
    let rest = first_sent (first_of d.accepted) d.accepted in record d { row = row_to_send rest d.clock; accepted = rest }
took_at Wait d reply = record d { row = row_to_receive d.accepted }

unfoldable pub took : SchedulerState → Answer → SchedulerState
took d reply = took_at d.row d reply

-- after some answers, the last one first
unfoldable pub after : List Answer → SchedulerState
after [] = opening
after (reply ∷ earlier) = took (after earlier) reply

-- the places of the entries that it asked to be sent, the last one first: in its row it asks for the first
abbrev pub asked_to_send : Row → Option ℕ → List ℕ
asked_to_send Send (Some i) = i ∷ []
asked_to_send Send None = []
asked_to_send Receive o = []
asked_to_send AskTime o = []
asked_to_send Wait o = []

unfoldable pub sends : List Answer → List ℕ
sends [] = []
sends (reply ∷ earlier) = asked_to_send (after earlier).row (first_of (after earlier).accepted) ++ sends earlier

-- no number twice
abbrev pub AreDifferent : List ℕ → Type 0
AreDifferent [] = ⊤
AreDifferent (i ∷ is) = (is_among i is ≡ false) × AreDifferent is

-- in its row something waits that is due by the moment at which it read the clock last, and it is the first; where it waits nothing is due
pub record IsTimely (d : SchedulerState) : Type 0 where
  pub sends : d.row ≡ Send → is_due d.accepted d.clock (first_of d.accepted) ≡ true
  pub rests : d.row ≡ Wait → (i : ℕ) → i < length d.accepted → waits d.accepted i ≡ true → d.clock < time_at d.accepted i

-- over any answers each entry is asked to be sent once at most, and is sent exactly if it was asked; it is timely in each row
pub record SendsInOrder (replies : List Answer) : Type 0 where
  pub once : AreDifferent (sends replies)
  pub sent : (i : ℕ) → i < length (after replies).accepted → is_among i (sends replies) ≡ not (waits (after replies).accepted i)
  pub timely : IsTimely (after replies)
