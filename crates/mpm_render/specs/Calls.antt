-- What each call of a line, of a renderer and of a text leaves.
use Rattle.std.specs.Prelude.{◌≡◌, ℕ, ◌<◌, List, [], ◌++◌, Bool, length, Result, OnOk, OnErr}
use Rattle.mpm_port.specs.Causes.{HasCause}
use Rattle.mpm_port.specs.declared.sink.Sink.{Ghosts}
use Rattle.mpm_base.specs.declared.unit.Unit.{Unit}
use Rattle.mpm_render.specs.Completions.{Completion}
use Rattle.mpm_render.specs.Outputs.{Output, Said, Completed, rendered, closed}
use Rattle.mpm_render.specs.Shown.{KeptLines, Shows, EndsBetween, line_of}
use Rattle.mpm_render.specs.Puts.{WritesText, ShowsOutput, PutsEach, StopsClosing, text_put, text_traced, texts_closed}

-- an unfinished line becomes another one as a text is written; where writing failed it stays as it was
pub record WritesLine {S A E : Type 0} (of : Ghosts S) (written after : List ℕ) (before now : List ℕ) (old new : S) (result : Result A E) : Type 0 where
  pub text : WritesText of written old new result
  pub line : OnOk result (now ≡ after)
  pub kept : OnErr result (now ≡ before)

-- a text is another one, which isn't empty
pub record IsSomeText (meant now : List ℕ) : Type 0 where
  pub text : now ≡ meant
  pub size : 0 < length now

-- a renderer has no unfinished line, whatever its sink was given before, and traces where that was asked
pub record BeginsEmpty (asked : Bool) (kept : KeptLines) : Type 0 where
  pub fresh : (written : List ℕ) → Shows kept written [] written
  pub trace : kept.trace ≡ asked

-- a byte goes to a console or a printer: the output is shown, and its text is written by one put, if there is any
pub record TakesByte {S A E : Type 0} (of : Ghosts S) (stream : Unit) (byte : ℕ) (kept kept' : KeptLines) (old new : S) (result : Result A E) : Type 0 where
  pub shown : ShowsOutput of (Said stream byte) kept kept' old new result
  pub text : WritesText of (text_put stream byte kept) old new result
  pub lines : OnErr result (kept' ≡ kept)
  pub trace : kept'.trace ≡ kept.trace

-- the record of a completed call is shown, and its text is written by one put, if there is any; the lines stay
pub record RecordsCall {S A E : Type 0} (of : Ghosts S) (call : Completion) (kept kept' : KeptLines) (old new : S) (result : Result A E) : Type 0 where
  pub shown : ShowsOutput of (Completed call) kept kept' old new result
  pub text : WritesText of (text_traced call kept) old new result
  pub lines : kept' ≡ kept

-- the unfinished lines are written in order: after all of them every line is empty and the sink was given the closed
-- text of the outputs; where a put failed writing stopped at its line
pub record ClosesLines {S A E : Type 0} (of : Ghosts S) (kept kept' : KeptLines) (old new : S) (result : Result A E) : Type 0 where
  pub ok : (os : List Output) (first : List ℕ) → Shows kept (of.written old) os first
      → OnOk result (of.written new ≡ first ++ closed kept.trace os)
  pub err : (os : List Output) (first : List ℕ) → Shows kept (of.written old) os first
      → OnErr result (EndsBetween (of.written new) first (rendered kept.trace os) (closed kept.trace os))
  pub puts : OnOk result (PutsEach of.took (texts_closed kept) old new)
  pub stops : OnErr result (StopsClosing of.took of.dropped kept kept' old new)
  pub cause : HasCause (of.faults old) (of.faults new) result
  pub empty : OnOk result ((place : ℕ) → place < 12 → line_of kept' place ≡ [])
  pub trace : kept'.trace ≡ kept.trace
