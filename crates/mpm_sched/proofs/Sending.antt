-- Over any answers the scheduler asks each entry to be sent once, the first one first, and none is due as it waits.
use Rattle.std.proofs.Common.{◌≡◌, ◌≢◌, ◌∙◌, ℕ, zero, suc, ◌<◌, ◌≤◌, ◌==◌, ◌||◌, not, Bool, true, false, List, [], ◌∷◌, ◌++◌, length, Option, Some, None, inl, inr, refl, sym, ap, arith, if◌then◌else◌}
use Rattle.std.specs.Prelude.{nat_lt, nat_le, slice_index_or, slice_set}
use Rattle.std.proofs.lemmas.Bool.{false≢true, cases_eq}
use Rattle.std.proofs.lemmas.Bool.Decides.{nat_tests}
use Rattle.std.proofs.lemmas.List.{length-set, length-append}
use Rattle.mpm_base.proofs.Choices.{either}
use Rattle.mpm_base.specs.Calls.{Answer}
use Rattle.mpm_base.specs.Lists.{in_width, is_among}
use Rattle.mpm_sched.specs.Entries.{entry_of}
use Rattle.mpm_sched.specs.Schedules.{Accepted, nothing, waits, time_at, first_of, waiting, most, sent_at, SchedulerState, row_to_receive, is_due, row_to_send, opening, with_entry, moment_read, first_sent, took_at, took, after, asked_to_send, sends, AreDifferent, IsTimely, SendsInOrder}
use Rattle.mpm_sched.specs.declared.entry.SchedEntry.{SchedEntry}
use Rattle.mpm_sched.specs.declared.table.Row.{Row}
use Rattle.mpm_sched.specs.declared.table.Row.TheVariants.{Receive, AskTime, Send, Wait}
use Rattle.mpm_sched.proofs.Firsts.{first_is_there, first_waits, first_is_least, none_waits}
use Rattle.mpm_sched.proofs.Places.{same_is, other_is}

-- by the rows that come next

idle_row : (a : List Accepted) (row : Row) → (Receive ≢ row) → (AskTime ≢ row) → row_to_receive a ≢ row
idle_row a row one other = either (λ (r : Row). r ≢ row) (nat_lt (waiting a) most) Receive AskTime (λ _. one) (λ _. other)

receives_no_send : (a : List Accepted) → row_to_receive a ≢ Send
receives_no_send a = idle_row a Send (λ e. absurd (cc)) (λ e. absurd (cc))

receives_no_wait : (a : List Accepted) → row_to_receive a ≢ Wait
receives_no_wait a = idle_row a Wait (λ e. absurd (cc)) (λ e. absurd (cc))

timely_receiving : (a : List Accepted) (clock : ℕ) → IsTimely (record { row = row_to_receive a; accepted = a; clock = clock })
timely_receiving a clock = record { sends = λ e. absurd (receives_no_send a e); rests = λ e. absurd (receives_no_wait a e) }

is_later : (clock time : ℕ) → nat_le time clock ≡ false → clock < time
is_later clock time e = grind (arith, nat_tests, e)

none_due : (a : List Accepted) (clock : ℕ) (o : Option ℕ) → first_of a ≡ o → is_due a clock o ≡ false → (i : ℕ) → i < length a → waits a i ≡ true → clock < time_at a i
none_due a clock None e later i there w = absurd (false≢true (sym (none_waits a i e there) ∙ w))
none_due a clock (Some first) e later i there w = omega (arith, first_is_least a first i e there w, is_later clock (time_at a first) later)

timely_sending : (a : List Accepted) (clock : ℕ) (b : Bool) → is_due a clock (first_of a) ≡ b → IsTimely (record { row = if b then Send else Wait; accepted = a; clock = clock })
timely_sending a clock true e = record { sends = λ _. e; rests = λ r. absurd (cc) }
timely_sending a clock false e = record { sends = λ r. absurd (cc); rests = λ _ i there w. none_due a clock (first_of a) refl e i there w }

-- what is so after any answers, with the places that were asked to be sent
record IsSound (d : SchedulerState) (past : List ℕ) : Type 0 where
  once : AreDifferent past
  sent : (i : ℕ) → i < length d.accepted → is_among i past ≡ not (waits d.accepted i)
  below : (i : ℕ) → is_among i past ≡ true → i < length d.accepted
  timely : IsTimely d

with_row : (d : SchedulerState) (past : List ℕ) (row : Row) (clock : ℕ) → IsSound d past → IsTimely (record { row = row; accepted = d.accepted; clock = clock }) → IsSound (record { row = row; accepted = d.accepted; clock = clock }) past
with_row d past row clock s timely = record { once = s.once; sent = s.sent; below = s.below; timely = timely }

-- an entry more

new_last : (a : List Accepted) (entry : SchedEntry) (i : ℕ) → i ≡ length a → waits (a ++ record { entry = entry; is_sent = false } ∷ []) i ≡ true
new_last [] entry zero e = refl
new_last [] entry (suc i) e = absurd (omega (arith, e))
new_last (x ∷ a) entry zero e = absurd (omega (arith, e))
new_last (x ∷ a) entry (suc i) e = new_last a entry i (omega (arith, e))

old_stays : (a : List Accepted) (entry : SchedEntry) (i : ℕ) → i < length a → waits (a ++ record { entry = entry; is_sent = false } ∷ []) i ≡ waits a i
old_stays [] entry i h = absurd (omega (arith, h))
old_stays (x ∷ a) entry zero h = refl
old_stays (x ∷ a) entry (suc i) h = old_stays a entry i (omega (arith, h))

not_among : (d : SchedulerState) (past : List ℕ) (i : ℕ) (b : Bool) → is_among i past ≡ b → IsSound d past → length d.accepted ≤ i → is_among i past ≡ false
not_among d past i true e s out = absurd (omega (arith, out, s.below i e))
not_among d past i false e s out = e

sound_entry : (o : Option SchedEntry) (d : SchedulerState) (past : List ℕ) → IsSound d past → IsSound (with_entry o d) past
sound_entry None d past s = s
sound_entry (Some entry) d past s =
    let more = d.accepted ++ record { entry = entry; is_sent = false } ∷ [] in
    let size = length-append d.accepted (record { entry = entry; is_sent = false } ∷ []) in
    record {
      once = s.once;
      sent = λ i there. elim (cases_eq i (length d.accepted)) [
        | inl last ↦ not_among d past i (is_among i past) refl s (omega (arith, last)) ∙ sym (ap not (new_last d.accepted entry i last))
        | inr other ↦
            let within : i < length d.accepted = omega (arith, size, there, other) in
            s.sent i within ∙ sym (ap not (old_stays d.accepted entry i within))
      ];
      below = λ i e. omega (arith, size, s.below i e);
      timely = timely_receiving more d.clock;
    }

-- one that is sent

pub sent_itself : (a : List Accepted) (i : ℕ) (e : SchedEntry) → i < length a → waits (slice_set a i (record { entry = e; is_sent = true })) i ≡ false
sent_itself [] i e h = absurd (omega (arith, h))
sent_itself (x ∷ a) zero e h = refl
sent_itself (x ∷ a) (suc i) e h = sent_itself a i e (omega (arith, h))

pub others_stay : (a : List Accepted) (i j : ℕ) (e : SchedEntry) → i ≢ j → waits (slice_set a i (record { entry = e; is_sent = true })) j ≡ waits a j
others_stay [] i j e h = refl
others_stay (x ∷ a) zero zero e h = absurd (h refl)
others_stay (x ∷ a) zero (suc j) e h = refl
others_stay (x ∷ a) (suc i) zero e h = refl
others_stay (x ∷ a) (suc i) (suc j) e h = others_stay a i j e (λ same. h (ap suc same))

sound_send : (o : Option ℕ) (d : SchedulerState) (past : List ℕ) → first_of d.accepted ≡ o → IsSound d past
    → IsSound (record { row = row_to_send (first_sent o d.accepted) d.clock; accepted = first_sent o d.accepted; clock = d.clock }) (asked_to_send Send o ++ past)
sound_send None d past e s = with_row d past (row_to_send d.accepted d.clock) d.clock s (timely_sending d.accepted d.clock (is_due d.accepted d.clock (first_of d.accepted)) refl)
sound_send (Some i) d past e s =
    let rest = sent_at d.accepted i in
    let there = first_is_there d.accepted i e in
    let size = length-set d.accepted i (record { entry = (slice_index_or d.accepted i nothing).entry; is_sent = true }) in
    record {
      once = (s.sent i there ∙ ap not (first_waits d.accepted i e), s.once);
      sent = λ j within. elim (cases_eq j i) [
        | inl same ↦
            ap (λ n. (n == i) || is_among n past) same ∙ ap (λ b. b || is_among i past) (same_is i)
            ∙ sym (ap not (ap (waits rest) same ∙ sent_itself d.accepted i _ there))
        | inr other ↦
            ap (λ b. b || is_among j past) (other_is j i other) ∙ s.sent j (omega (arith, within, size))
            ∙ sym (ap not (others_stay d.accepted i j _ (λ same. other (sym same))))
      ];
      below = λ j e'. elim (cases_eq j i) [
        | inl same ↦ omega (arith, same, there, size)
        | inr other ↦ omega (arith, size, s.below j (sym (ap (λ b. b || is_among j past) (other_is j i other)) ∙ e'))
      ];
      timely = timely_sending rest d.clock (is_due rest d.clock (first_of rest)) refl;
    }

-- by each row

sound_at : (row : Row) (d : SchedulerState) (past : List ℕ) (reply : Answer) → d.row ≡ row → IsSound d past → IsSound (took_at row d reply) (asked_to_send row (first_of d.accepted) ++ past)
sound_at Receive d past reply e s =
    either (λ (t : SchedulerState). IsSound t past) (reply.hl == 0) (with_entry (entry_of (in_width 128 reply.bytes)) d) (record d { row = AskTime })
    (λ _. sound_entry (entry_of (in_width 128 reply.bytes)) d past s)
    (λ _. with_row d past AskTime d.clock s (record { sends = λ r. absurd (cc); rests = λ r. absurd (cc) }))
sound_at AskTime d past reply e s =
    let clock = moment_read reply in
    with_row d past (row_to_send d.accepted clock) clock s (timely_sending d.accepted clock (is_due d.accepted clock (first_of d.accepted)) refl)
sound_at Send d past reply e s = sound_send (first_of d.accepted) d past refl s
sound_at Wait d past reply e s = with_row d past (row_to_receive d.accepted) d.clock s (timely_receiving d.accepted d.clock)

sound_after : (replies : List Answer) → IsSound (after replies) (sends replies)
unfolding after sends took opening
sound_after [] = record { once = tt; sent = λ i there. absurd (omega (arith, there)); below = λ i e. absurd (false≢true e); timely = record { sends = λ r. absurd (cc); rests = λ r. absurd (cc) } }
sound_after (reply ∷ earlier) = sound_at (after earlier).row (after earlier) (sends earlier) reply refl (sound_after earlier)

pub sends_in_order : (replies : List Answer) → SendsInOrder replies
sends_in_order replies = let s = sound_after replies in record { once = s.once; sent = s.sent; timely = s.timely }
