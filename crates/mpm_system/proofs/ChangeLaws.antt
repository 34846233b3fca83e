-- Laws of changes: nothing is said, and the same change by another name.
use Rattle.std.proofs.Common.{◌≡◌, [], Result, Ok, ap, sym}
use Rattle.mpm_output.specs.Outside.{Outside, Device}
use Rattle.mpm_output.specs.Writing.{Emits}
use Rattle.mpm_output.proofs.WritingLaws.{emits_nothing, emits_same}
use Rattle.mpm_system.specs.declared.system.System.{System}
use Rattle.mpm_system.specs.Whole.{SystemChange, silent}

pub emits_silent : {A E : Type 0} (device : E → Device) (x : A) (change : SystemChange) (system : System) (o : Outside) → change ≡ silent system
    → Emits device o o change.emitted (Ok x)
emits_silent device x change system o is = emits_same device o o [] _ _ (ap (λ (c : SystemChange). c.emitted) (sym is)) (emits_nothing device o x)

pub emits_as : {A E : Type 0} (device : E → Device) (o n : Outside) (one other : SystemChange) (r : Result A E) → one ≡ other → Emits device o n one.emitted r
    → Emits device o n other.emitted r
emits_as device o n one other r same emits = emits_same device o n one.emitted other.emitted r (ap (λ (c : SystemChange). c.emitted) same) emits
