-- The outputs of a run, and the text that they are rendered to. Outputs are a list, newest first: what stands
-- before a position is the list after it.
use Rattle.std.specs.Prelude.{ℕ, ◌%◌, Bool, List, [], ◌∷◌, ◌++◌, ◌==◌, take, reverse, length, flat_map, if◌then◌else◌}
use Rattle.mpm_base.specs.declared.unit.Unit.{Unit}
use Rattle.mpm_base.specs.Units.{place_of}
use Rattle.mpm_render.specs.Lines.{places, cut_line, text_with}
use Rattle.mpm_render.specs.Completions.{Completion, trace_line}

-- a byte to a console or a printer, or the record of a completed call
pub data Output : Type 0 where
  Said : Unit → ℕ → Output
  Completed : Completion → Output

-- the bytes in order, to one unit
unfoldable pub said : Unit → List ℕ → List Output → List Output
said unit [] outputs = outputs
said unit (byte ∷ bytes) outputs = said unit bytes (Said unit byte ∷ outputs)

-- the bytes of a place since its last LF, newest first
unfoldable pub since_end : ℕ → List Output → List ℕ
since_end place [] = []
since_end place (Said unit byte ∷ before) =
    if place_of unit == place then (if byte == 10 then [] else (byte ∷ since_end place before))
    else (since_end place before)
since_end place (Completed call ∷ before) = since_end place before

-- the bytes of a place that no line has written yet: each 200 bytes without an LF are a line
unfoldable pub pending : ℕ → List Output → List ℕ
pending place outputs =
    let bytes = since_end place outputs in reverse (take (length bytes % 200) bytes)

-- what the record of a completed call writes: its line, where records are asked for
abbrev pub record_text : Bool → Completion → List ℕ
record_text trace call = if trace then trace_line call else []

-- what an output writes, after those before it
unfoldable pub text_at : Bool → Output → List Output → List ℕ
text_at trace (Said unit byte) before = text_with (place_of unit) byte (pending (place_of unit) before)
text_at trace (Completed call) before = record_text trace call

-- the text of the outputs, with or without the records
unfoldable pub rendered : Bool → List Output → List ℕ
rendered trace [] = []
rendered trace (output ∷ before) = rendered trace before ++ text_at trace output before

-- a line that is closed at the end, where it isn't empty
unfoldable pub closing : ℕ → List ℕ → List ℕ
closing place [] = []
closing place (byte ∷ bytes) = cut_line place (byte ∷ bytes)

-- the text of the outputs with the unfinished lines closed
unfoldable pub closed : Bool → List Output → List ℕ
closed trace outputs = rendered trace outputs ++ flat_map (λ place. closing place (pending place outputs)) places
