use Rattle.std.proofs.Common.{rules, IsSome, sym, subst, arith}
use Rattle.std.proofs.lemmas.Grind.{common_steps}
use Rattle.mpm_port.specs.Disks.{Disks, size_of}
use Rattle.mpm_port.specs.MemoryDisks.{disks_of}
use Rattle.mpm_turn_scenes.proofs.turns.left_now.Goals as goal

pub returns-in-Ok : goal.returns-in-Ok
returns-in-Ok c =
    let some : IsSome (size_of (disks_of c.has_size-2.new.drives) 0) = first_of (search rules, grind (arith, common_steps)) in
    record { attached = subst (λ (d : Disks). IsSome (size_of d 0)) (sym c.mount.ensures.same.drives.images) some }

pub returns-in-Err : goal.returns-in-Err
returns-in-Err c =
    let some : IsSome (size_of (disks_of c.has_size-2.new.drives) 0) = first_of (search rules, grind (arith, common_steps)) in
    record { attached = subst (λ (d : Disks). IsSome (size_of d 0)) (sym c.mount.ensures.same.drives.images) some }
