use Rattle.std.proofs.Common.{◌≡◌, ◌∙◌, ℕ, Bool, true, false, nat_eq, Option, Some, refl, ap}
use Rattle.std.specs.Bool.{OnTrue}
use Rattle.std.proofs.lemmas.Bool.{eqb-true}
use Rattle.mpm_port.specs.Disks.{Disks, size_of}
use Rattle.mpm_port.specs.MemoryDisks.{disks_of}
use Rattle.mpm_fault_trials.proofs.ways.is_floppy.Goals as goal

-- a number that passes the test of another is that one
on_size : (test : Bool) (bytes : ℕ) (found : Option ℕ) → nat_eq bytes 256256 ≡ test → found ≡ Some bytes → OnTrue test (found ≡ Some 256256)
on_size true bytes found same is = is ∙ ap (λ n. Some n) (eqb-true bytes 256256 same)
on_size false bytes found same is = tt

pub returns-in-Ok : goal.returns-in-Ok
returns-in-Ok c =
    on_size (nat_eq c.in-Ok.bytes 256256) c.in-Ok.bytes (size_of (disks_of c.size.new.self) 0) refl
    (ap (λ (disks : Disks). size_of disks 0) c.size.ensures.answers.disks ∙ c.in-Ok.ensures.answers.size)
