use Rattle.std.proofs.Common.{IsSome, ℕ, Option, sym, subst}
use Rattle.mpm_port.specs.Disks.{Disks, size_of}
use Rattle.mpm_port.specs.MemoryDisks.{disks_of}
use Rattle.mpm_turn_scenes.specs.Standing.{IsDiskOfFiles}
use Rattle.mpm_turn_scenes.proofs.TurnLaws.{mounted}
use Rattle.mpm_turn_scenes.proofs.turns.done.Goals as goal

pub all_done-requires : goal.all_done-requires
all_done-requires g c =
    let disks = disks_of c.has_size.new.drives in
    subst (λ (now : Disks). IsDiskOfFiles now c.in-Ok.mounted c.in_ok-cache.cache) (sym c.in-Ok.ensures.same.drives.images)
    (mounted disks c.in-Ok.mounted c.in_ok-cache.cache 0 c.args.scene.now.kind c.in-Ok.ensures.drive c.in-Ok.ensures.kind c.in-Ok.ensures.size c.in-Ok.ensures.ok
    (c.in_ok-cache.ensures.coherent disks) (c.in_ok-cache.ensures.apart disks 0))

pub returns : goal.returns
returns g c =
    let some : IsSome (size_of (disks_of c.has_size.new.drives) 0) = subst (λ (o : Option ℕ). IsSome o) (sym c.has_size.ensures.same) c.requires.attached in
    subst (λ (d : Disks). IsSome (size_of d 0)) (sym c.mount.ensures.same.drives.images) some
