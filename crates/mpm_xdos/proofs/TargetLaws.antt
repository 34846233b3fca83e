-- Who is aborted lives.
use Rattle.std.proofs.Common.{◌≡◌, ℕ, Bool, true, false, Option, Some, None, ◌&&◌, if◌then◌else◌}
use Rattle.std.proofs.lemmas.Bool.{and_parts}
use Rattle.std.specs.Prelude.{is_some}
use Rattle.mpm_procs.specs.Table.{Table, lives, Lives, process_in, call_of}
use Rattle.mpm_queues.proofs.Finding.{lowest_passes}
use Rattle.mpm_xdos.specs.Aborting.{is_described, described, unless_resident, target}

same_slot : (b : Bool) (slot q : ℕ) → (if b then Some slot else None) ≡ Some q → slot ≡ q
same_slot true slot q e = cc
same_slot false slot q e = absurd (cc)

named_is : (procs : Table) (named : Option ℕ) (q : ℕ) → unless_resident procs named ≡ Some q → named ≡ Some q
named_is procs None q e = absurd (cc)
named_is procs (Some slot) q e =
    let same = same_slot (is_some (process_in procs slot).seg) slot q e in
    cc

pub target_lives : (procs : Table) (p q : ℕ) → target procs p ≡ Some q → Lives procs q
unfolding target
target_lives procs p q e =
    let call = call_of procs p in
    let named = named_is procs (described call procs) q e in
    (and_parts (lives procs q) (is_described call procs q) (lowest_passes (λ slot. lives procs slot && is_described call procs slot) q named).0).0
