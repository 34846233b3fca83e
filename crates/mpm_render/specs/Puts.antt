-- The puts of a sink that write lines, by what a put leaves of it.
use Rattle.std.specs.Prelude.{◌≡◌, ◌≢◌, ℕ, ◌<◌, ◌≤◌, List, [], ◌∷◌, ◌++◌, length, take, map, slice_index_or, Result, OnOk, OnErr}
use Rattle.mpm_port.specs.Causes.{HasCause}
use Rattle.mpm_port.specs.Texts.{AppendsPart}
use Rattle.mpm_port.specs.declared.sink.Sink.{Ghosts}
use Rattle.mpm_base.specs.declared.unit.Unit.{Unit}
use Rattle.mpm_base.specs.Units.{place_of}
use Rattle.mpm_render.specs.Lines.{places, text_with}
use Rattle.mpm_render.specs.Completions.{Completion}
use Rattle.mpm_render.specs.Outputs.{Output, closing, record_text, rendered}
use Rattle.mpm_render.specs.Shown.{KeptLines, Shows, EndsBetween, line_of}

-- a text by one put; where there is no text, nothing is put
unfoldable pub PutsLine : {S : Type 0} → (S → List ℕ → S → Type 0) → List ℕ → S → S → Type 0
PutsLine took [] old new = new ≡ old
PutsLine took (byte ∷ text) old new = took old (byte ∷ text) new

-- what a call leaves of its sink that writes a text by one put, and nothing where there is no text: a failed one has written a part
pub record WritesText {S A E : Type 0} (of : Ghosts S) (text : List ℕ) (old new : S) (result : Result A E) : Type 0 where
  pub ok : OnOk result (of.written new ≡ of.written old ++ text)
  pub err : OnErr result (AppendsPart (of.written old) text (of.written new))
  pub some : OnErr result (0 < length text)
  pub puts : OnOk result (PutsLine of.took text old new)
  pub drops : OnErr result (of.dropped old text new)
  pub cause : HasCause (of.faults old) (of.faults new) result

-- whatever outputs stood there, this one stands after them; where writing failed it stopped between the texts before and after it
pub record ShowsOutput {S A E : Type 0} (of : Ghosts S) (output : Output) (kept kept' : KeptLines) (old new : S) (result : Result A E) : Type 0 where
  pub ok : (os : List Output) (first : List ℕ) → Shows kept (of.written old) os first
      → OnOk result (Shows kept' (of.written new) (output ∷ os) first)
  pub err : (os : List Output) (first : List ℕ) → Shows kept (of.written old) os first
      → OnErr result (EndsBetween (of.written new) first (rendered kept.trace os) (rendered kept.trace (output ∷ os)))

-- the texts that aren't empty in order, each by one put
unfoldable pub PutsEach : {S : Type 0} → (S → List ℕ → S → Type 0) → List (List ℕ) → S → S → Type 0
PutsEach took [] old new = new ≡ old
PutsEach took (text ∷ texts) old new = (middle : _) × PutsLine took text old middle × PutsEach took texts middle new

-- the texts before one of the texts were put so, and the put of that one failed
pub record StopsAtText {S : Type 0} (took dropped : S → List ℕ → S → Type 0) (texts : List (List ℕ)) (old new : S) : Type 0 where
  pub number : ℕ
  pub inside : number < length texts
  pub middle : S
  pub before : PutsEach took (take number texts) old middle
  pub some : slice_index_or texts number [] ≢ []
  pub failed : dropped middle (slice_index_or texts number []) new

-- what a byte to a console or a printer writes, after the unfinished line that is kept of it
abbrev pub text_put : Unit → ℕ → KeptLines → List ℕ
text_put unit byte kept = text_with (place_of unit) byte (line_of kept (place_of unit))

-- what the record of a completed call writes
abbrev pub text_traced : Completion → KeptLines → List ℕ
text_traced call kept = record_text kept.trace call

-- what closing writes of each place, in order
abbrev pub texts_closed : KeptLines → List (List ℕ)
texts_closed kept = map (λ place. closing place (line_of kept place)) places

-- closing stopped at the line of a place, whose put failed: the lines before it are empty, and all others as they were
pub record StopsClosing {S : Type 0} (took dropped : S → List ℕ → S → Type 0) (kept kept' : KeptLines) (old new : S) : Type 0 where
  pub stops : StopsAtText took dropped (texts_closed kept) old new
  pub empty : (place : ℕ) → place < stops.number → line_of kept' place ≡ []
  pub others : (place : ℕ) → stops.number ≤ place → line_of kept' place ≡ line_of kept place
