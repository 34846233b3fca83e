-- The calls of a memory device, of which those at listed numbers fail.
use Rattle.std.specs.Prelude.{ℕ, ◌+◌, ◌-◌, ◌^◌, ◌==◌, min, Bool, List, [], ◌∷◌, ◌++◌}
use Rattle.std.specs.List.{list_any}

-- how many calls there were, and the numbers of those that are to fail, counted from 1
pub record Calls : Type 0 where
  pub done : ℕ
  pub failing : List ℕ

-- the count of one more, which stands still at its last value
abbrev pub one_more : ℕ → ℕ
one_more count = min (count + 1) (2 ^ 64 - 1)

-- the number of the next call is listed
abbrev pub next_is_listed : Calls → Bool
next_is_listed calls = list_any (λ call. call == one_more calls.done) calls.failing

-- after one more call
abbrev pub after_call : Calls → Calls
after_call calls = record calls { done = one_more calls.done }

-- one more number is listed
abbrev pub listing : Calls → ℕ → Calls
listing calls call = record calls { failing = calls.failing ++ (call ∷ []) }
