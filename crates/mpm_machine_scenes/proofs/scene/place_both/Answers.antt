use Rattle.std.proofs.Common.{◌-◌, length, sym, subst, arith}
use Rattle.mpm_system.specs.declared.system.System.{System}
use Rattle.mpm_system.specs.Opening.{MayPlace}
use Rattle.mpm_system.proofs.PlacedLaws.{may_place_again}
use Rattle.mpm_machine_scenes.proofs.scene.place_both.Goals as goal

pub place-p-requires : goal.place-p-requires
place-p-requires c = c.requires.free 0 (length c.args.first.now) c.if-not-has_room.ensures.there c.if-not-has_room.ensures.room

pub place-q-requires : goal.place-q-requires
place-q-requires c =
    let last = length c.as_slice.result.now - 1 in
    let size = length c.args.second.now in
    subst (λ (system : System). MayPlace system last 0 size) (sym c.place-p.ensures.system)
    (may_place_again c.args.machine.now.system c.place-p.result 0 _ 200 0 _ last 0 size
    (c.requires.free 0 (length c.args.first.now) c.if-not-has_room.ensures.there c.if-not-has_room.ensures.room)
    c.place-p.ensures.slot (λ same. omega (arith, same, c.if-last-eq0.false))
    (c.requires.free last size c.if-not-has_room-2.ensures.there c.if-not-has_room-2.ensures.room))
