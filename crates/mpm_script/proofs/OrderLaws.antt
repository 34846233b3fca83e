-- The events that are read may be, and stand in order.
use Rattle.std.proofs.Common.{◌≡◌, ℕ, zero, suc, ◌+◌, ◌<◌, ◌≤◌, true, List, [], ◌∷◌, ◌++◌, length, map, get_or, Option, Some, None, Result, Ok, refl, subst, arith}
use Rattle.std.specs.Prelude.{nat_le, fold, bytes_eq, codes}
use Rattle.std.specs.List.{AllByRecursion}
use Rattle.std.specs.List.Sorted.{IsNonDecreasing}
use Rattle.std.specs.Str.Lines.{lines}
use Rattle.std.proofs.lemmas.Bool.Decides.{nat_tests}
use Rattle.std.proofs.lemmas.Option.{same_Some, none-some, cond_some}
use Rattle.std.proofs.lemmas.List.Elements.{All-from_recursion}
use Rattle.mpm_script.specs.declared.line.TheConstants.{GREATEST_STEP}
use Rattle.mpm_script.specs.declared.event.Event.{Event}
use Rattle.mpm_script.specs.declared.event.Event.TheVariants.{Tick, Key, Ready, Int}
use Rattle.mpm_script.specs.declared.event.Timed.{Timed}
use Rattle.mpm_script.specs.Numbers.{◌>>=◌, number_of}
use Rattle.mpm_script.specs.Keys.{typed_of}
use Rattle.mpm_script.specs.Events.{word, behind, typed_events, byte_of, ready_event, flag_event, event_of, events_of, at_step, step_of, is_skipped, line_of, IsEvent, IsTimed}
use Rattle.mpm_script.specs.Scripts.{last_step, unless_bad, lines_from, script_of, IsScript}
use Rattle.mpm_script.proofs.Finds.{bind_some, map_some, either_some}
use Rattle.mpm_script.proofs.DecimalLaws.{number_limit}

-- the step after some events, of which there may be none
abbrev pub step_after : ℕ → List Timed → ℕ
step_after before events = fold (λ _ timed. timed.step) before events

-- no event before the one in front of it
abbrev pub DoFollow : ℕ → List Timed → Type 0
DoFollow before [] = Unit {0}
DoFollow before (timed ∷ rest) = (before ≤ timed.step) × DoFollow timed.step rest

follow_append : (before : ℕ) (first second : List Timed) → DoFollow before first → DoFollow (step_after before first) second → DoFollow before (first ++ second)
follow_append before [] second one other = other
follow_append before (timed ∷ rest) second one other = (one.0, follow_append timed.step rest second one.1 other)

each_append : (P : Timed → Type 0) (first second : List Timed) → AllByRecursion P first → AllByRecursion P second → AllByRecursion P (first ++ second)
each_append P [] second one other = other
each_append P (timed ∷ rest) second one other = (one.0, each_append P rest second one.1 other)

follow_at_step : (before step : ℕ) (events : List Event) → before ≤ step → DoFollow before (at_step step events)
follow_at_step before step [] h = tt
follow_at_step before step (event ∷ rest) h = (h, follow_at_step step step rest (omega arith))

each_at_step : (step : ℕ) (events : List Event) → step ≤ GREATEST_STEP → AllByRecursion IsEvent events → AllByRecursion IsTimed (at_step step events)
each_at_step step [] h each = tt
each_at_step step (event ∷ rest) h each = (record { step = h; event = each.0 }, each_at_step step rest h each.1)

-- the events of a line may be
each_key : (console : ℕ) (keys : List ℕ) → console ≤ 7 → AllByRecursion IsEvent (map (λ byte. Key console byte) keys)
each_key console [] h = tt
each_key console (key ∷ rest) h = (omega arith, each_key console rest h)

typed_may_be : (text : List ℕ) (events : List Event) → typed_events text ≡ Some events → AllByRecursion IsEvent events
unfolding typed_events
typed_may_be text events e =
    let console = bind_some (number_of 7 (word text)) _ events e in
    let keys = bind_some (typed_of (behind text)) _ events console.2 in
    subst (AllByRecursion IsEvent) (same_Some _ events keys.2) (each_key console.0 keys.0 (number_limit 7 (word text) console.0 console.1))

ready_may_be : (text : List ℕ) (event : Event) → ready_event text ≡ Some event → IsEvent event
unfolding ready_event
ready_may_be text event e =
    let device = bind_some (number_of 15 (word text)) _ event e in
    let byte = bind_some (byte_of (behind text)) _ event device.2 in
    let few = number_limit 15 (word text) device.0 device.1 in
    subst IsEvent (same_Some (Ready device.0 byte.0) event byte.2) (below_next device.0 15 few)
  where
    below_next : (n greatest : ℕ) → n ≤ greatest → n < suc greatest
    below_next n greatest h = omega arith

flag_may_be : (text : List ℕ) (event : Event) → flag_event text ≡ Some event → IsEvent event
unfolding flag_event
flag_may_be text event e =
    let flag = bind_some (number_of 31 text) _ event e in
    let made = cond_some (nat_le 4 flag.0) (Int flag.0) event flag.2 in
    subst IsEvent made.1 (from_test 4 flag.0 made.0, number_limit 31 text flag.0 flag.1)
  where
    from_test : (least n : ℕ) → nat_le least n ≡ true → least ≤ n
    from_test least n h = grind (arith, nat_tests)

event_may_be : (text : List ℕ) (event : Event) → event_of text ≡ Some event → IsEvent event
unfolding event_of
event_may_be text event e =
    either_some (bytes_eq text (codes "tick")) _ _ event e (λ is_tick. subst IsEvent (same_Some Tick event is_tick) tt) (λ other.
    either_some (bytes_eq (word text) (codes "ready")) _ _ event other (ready_may_be (behind text) event) (λ another.
    either_some (bytes_eq (word text) (codes "int")) _ _ event another (flag_may_be (behind text) event) (λ nothing. absurd (none-some event nothing))))

events_may_be : (text : List ℕ) (events : List Event) → events_of text ≡ Some events → AllByRecursion IsEvent events
unfolding events_of
events_may_be text events e =
    either_some (bytes_eq (word text) (codes "key")) _ _ events e (typed_may_be (behind text) events) (λ other.
    one_event (map_some (λ event. event ∷ []) (event_of text) events other))
  where
    one_event : (event : Event) × (event_of text ≡ Some event) × (Some (event ∷ []) ≡ Some events) → AllByRecursion IsEvent events
    one_event found = subst (AllByRecursion IsEvent) (same_Some _ events found.2) (event_may_be text found.0 found.1, tt)

-- what a line adds after a step
pub record Continues (before : ℕ) (events : List Timed) : Type 0 where
  pub each : AllByRecursion IsTimed events
  pub order : DoFollow before events

line_made : (before : ℕ) (line : List ℕ) (events : List Timed) → (step_of before (word line) >>= (λ step. events_of (behind line) >>= (λ found. Some (at_step step found)))) ≡ Some events → Continues before events
line_made before line events e =
    let step = bind_some (step_of before (word line)) _ events e in
    let found = bind_some (events_of (behind line)) _ events step.2 in
    let number = bind_some (number_of GREATEST_STEP (word line)) _ step.0 step.1 in
    let made = cond_some (nat_le before number.0) number.0 step.0 number.2 in
    let limit = number_limit GREATEST_STEP (word line) number.0 number.1 in
    at_made number.0 step.0 found.0 made.0 made.1 limit (events_may_be (behind line) found.0 found.1) (same_Some _ events found.2)
  where
    at_made : (number step : ℕ) (found : List Event) → nat_le before number ≡ true → number ≡ step → number ≤ GREATEST_STEP → AllByRecursion IsEvent found → at_step step found ≡ events → Continues before events
    at_made number step found least same limit may_be e =
        let high : step ≤ GREATEST_STEP = omega arith in
        let low : before ≤ step = grind (arith, nat_tests) in
        subst (Continues before) e (record { each = each_at_step step found high may_be; order = follow_at_step before step found low })

pub line_continues : (before : ℕ) (line : List ℕ) (events : List Timed) → line_of before line ≡ Some events → Continues before events
unfolding line_of
line_continues before line events e =
    either_some (is_skipped line) _ _ events e (λ skipped. subst (Continues before) (same_Some [] events skipped) (record { each = tt; order = tt })) (line_made before line events)

unless_good : (number : ℕ) (found : Option (List Timed)) (more : List Timed → Result (List Timed) ℕ) (events : List Timed) → unless_bad number found more ≡ Ok events
    → (new : List Timed) × (found ≡ Some new) × (more new ≡ Ok events)
unless_good number None more events e = absurd cc
unless_good number (Some new) more events e = (new, refl, e)

lines_continue : (number : ℕ) (so_far : List Timed) (texts : List (List ℕ)) (events : List Timed) → Continues 0 so_far → lines_from number so_far texts ≡ Ok events → Continues 0 events
unfolding lines_from
lines_continue number so_far [] events front e = let same : so_far ≡ events = cc in subst (Continues 0) same front
lines_continue number so_far (line ∷ rest) events front e =
    let found = unless_good number (line_of (last_step so_far) line) (λ more. lines_from (number + 1) (so_far ++ more) rest) events e in
    let line_more = line_continues (last_step so_far) line found.0 found.1 in
    let joined : Continues 0 (so_far ++ found.0) = record {
      each = each_append IsTimed so_far found.0 front.each line_more.each;
      order = follow_append 0 so_far found.0 front.order line_more.order;
    } in
    lines_continue (number + 1) (so_far ++ found.0) rest events joined found.2

abbrev steps_of : List Timed → List ℕ
steps_of events = map (λ timed. timed.step) events

above_each : (before : ℕ) (events : List Timed) → DoFollow before events → (j d : ℕ) → j < length (steps_of events) → before ≤ get_or (steps_of events) j d
above_each before [] follow j d within = absurd (omega arith)
above_each before (timed ∷ rest) follow zero d within = follow.0
above_each before (timed ∷ rest) follow (suc j) d within = let above = above_each timed.step rest follow.1 j d (omega arith) in omega (arith, follow.0, above)

increase_from_follow : (before : ℕ) (events : List Timed) → DoFollow before events → IsNonDecreasing (steps_of events)
increase_from_follow before [] follow i j d order within = absurd (omega arith)
increase_from_follow before (timed ∷ rest) follow zero zero d order within = omega arith
increase_from_follow before (timed ∷ rest) follow zero (suc j) d order within = above_each timed.step rest follow.1 j d (omega arith)
increase_from_follow before (timed ∷ rest) follow (suc i) zero d order within = absurd (omega arith)
increase_from_follow before (timed ∷ rest) follow (suc i) (suc j) d order within = increase_from_follow timed.step rest follow.1 i j d (omega arith) (omega arith)

-- what a text is read as is a script
pub script_is : (text : List ℕ) (events : List Timed) → script_of text ≡ Ok events → IsScript events
unfolding script_of
script_is text events e =
    let all = lines_continue 1 [] (lines text) events (record { each = tt; order = tt }) e in
    record { each = All-from_recursion IsTimed events all.each; order = increase_from_follow 0 events all.order }
