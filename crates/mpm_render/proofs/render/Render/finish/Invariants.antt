use Rattle.std.proofs.Common.{◌≡◌, ℕ, ◌<◌, ◌≤◌, ◌++◌, [], take}
use Rattle.mpm_render.specs.Shown.{line_of}
use Rattle.mpm_render.specs.Puts.{PutsEach, texts_closed}
use Rattle.mpm_render.proofs.Closings.{closings}
use Rattle.mpm_render.proofs.render.Render.finish.Given as goal

abbrev pub invariant-loop-place : goal.invariant-loop-place
invariant-loop-place g l = record {
  written : g.S.Sink.written l.sink ≡ g.S.Sink.written l.fn.sink ++ closings (line_of l.fn.self) l.place;
  puts : PutsEach g.S.Sink.took (take l.place (texts_closed l.fn.self)) l.fn.sink l.sink;
  faults : g.S.Sink.faults l.sink ≡ g.S.Sink.faults l.fn.sink;
  trace : l.self-inside.trace ≡ l.fn.self.trace;
  below : (place : ℕ) → place < l.place → line_of (record { lines = l.self-inside.lines; trace = l.self-inside.trace }) place ≡ [];
  above : (place : ℕ) → l.place ≤ place → line_of (record { lines = l.self-inside.lines; trace = l.self-inside.trace }) place ≡ line_of l.fn.self place;
}
