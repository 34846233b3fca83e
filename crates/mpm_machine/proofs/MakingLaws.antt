-- Laws of what a part of a step makes: nothing is said, the same change by another name, outputs that come before it, and a failure that is
-- passed on.
use Rattle.std.proofs.Common.{◌≡◌, ℕ, List, ◌++◌, Result, Ok, Err, sym, ap, subst}
use Rattle.std.specs.Prelude.{IsErr}
use Rattle.mpm_port.specs.declared.Failed.{Failed}
use Rattle.mpm_render.specs.Outputs.{Output}
use Rattle.mpm_render.specs.Shown.{KeptLines}
use Rattle.mpm_output.specs.Outside.{by_sink, seen}
use Rattle.mpm_output.specs.Writing.{CameOut, Stopped}
use Rattle.mpm_output.proofs.WritingLaws.{emits_after, passes_on}
use Rattle.mpm_system.specs.declared.system.System.{System}
use Rattle.mpm_system.specs.Whole.{SystemChange, silent}
use Rattle.mpm_system.proofs.ChangeLaws.{emits_silent}
use Rattle.mpm_machine.specs.Acting.{Makes}

pub makes_silent : {S A : Type 0} (written : S → List ℕ) (faults : S → ℕ) (kept : KeptLines) (sink : S) (x : A) (change : SystemChange) (left : System) → change ≡ silent left
    → Makes written faults change left kept sink kept sink (Ok x)
makes_silent written faults kept sink x change left is =
    record { system = sym (ap (λ (c : SystemChange). c.system) is); wrote = emits_silent by_sink x change left (seen written faults kept sink) is }

pub makes_as : {S A : Type 0} {written : S → List ℕ} {faults : S → ℕ} {kept kept' : KeptLines} {sink sink' : S} {left : System} {r : Result A Failed} (one other : SystemChange) → one ≡ other
    → Makes written faults one left kept sink kept' sink' r → Makes written faults other left kept sink kept' sink' r
makes_as {written = written} {faults = faults} {kept = kept} {kept' = kept'} {sink = sink} {sink' = sink'} {left = left} {r = r} one other same makes =
    let P : SystemChange → Type 0 = λ change. Makes written faults change left kept sink kept' sink' r in subst P same makes

-- outputs came before the change
pub makes_after : {S A : Type 0} {written : S → List ℕ} {faults : S → ℕ} {kept mid kept' : KeptLines} {sink there sink' : S} {left : System} {r : Result A Failed} (first : List Output) (change : SystemChange)
    → CameOut (seen written faults kept sink) (seen written faults mid there) first → Makes written faults change left mid there kept' sink' r
    → Makes written faults (record change { emitted = change.emitted ++ first }) left kept sink kept' sink' r
makes_after {written = written} {faults = faults} {kept = kept} {mid = mid} {kept' = kept'} {sink = sink} {there = there} {sink' = sink'} {r = r} first change came makes = record {
  system = makes.system;
  wrote = emits_after by_sink (seen written faults kept sink) (seen written faults mid there) (seen written faults kept' sink') first change.emitted r came makes.wrote;
}

-- a call that only passes on that the sink failed
pub makes_none : {S A : Type 0} (written : S → List ℕ) (faults : S → ℕ) (kept kept' : KeptLines) (sink sink' : S) (change : SystemChange) (left : System) (r : Result A Failed) → IsErr r
    → Stopped (seen written faults kept sink) (seen written faults kept' sink') change.emitted → Makes written faults change left kept sink kept' sink' r
makes_none written faults kept kept' sink sink' change left (Ok x) is stopped = absurd (cc)
makes_none written faults kept kept' sink sink' change left (Err e) is stopped =
    record { system = tt; wrote = passes_on (Err e) (seen written faults kept sink) (seen written faults kept' sink') change.emitted is stopped }
