-- The sink over memory: a text that grows in a fixed room.
use Rattle.std.specs.Prelude.{◌≡◌, ℕ, ◌+◌, Bool, false, IsTrue, ◌||◌, nat_lt, if◌then◌else◌, List, [], ◌++◌, length}
use Rattle.mpm_port.specs.Calls.{Calls, one_more, next_is_listed, after_call, listing}

-- what was written, the bytes that there is room for in all, the calls, and the count of faults
pub record MemoryText : Type 0 where
  pub text : List ℕ
  pub room : ℕ
  pub calls : Calls
  pub faults : ℕ

-- nothing was written
abbrev pub empty_text : ℕ → MemoryText
empty_text room = record { text = []; room = room; calls = record { done = 0; failing = [] }; faults = 0 }

-- the next put of these bytes fails: its number is listed, or they exceed the room
unfoldable pub put_fails : MemoryText → List ℕ → Bool
put_fails sink bytes = next_is_listed sink.calls || nat_lt sink.room (length sink.text + length bytes)

-- after a put: all the bytes follow the text, or none where it failed
unfoldable pub after_put : MemoryText → List ℕ → MemoryText
after_put sink bytes = if put_fails sink bytes
    then record sink { calls = after_call sink.calls; faults = one_more sink.faults }
    else record sink { calls = after_call sink.calls; text = sink.text ++ bytes }

-- a put of these bytes took them, or dropped them, where it fails
abbrev pub HasTaken : MemoryText → List ℕ → MemoryText → Type 0
HasTaken old bytes new = (put_fails old bytes ≡ false) × (new ≡ after_put old bytes)

abbrev pub HasDropped : MemoryText → List ℕ → MemoryText → Type 0
HasDropped old bytes new = IsTrue (put_fails old bytes) × (new ≡ after_put old bytes)

-- one more number is listed
abbrev pub listing_put : MemoryText → ℕ → MemoryText
listing_put sink call = record sink { calls = listing sink.calls call }
