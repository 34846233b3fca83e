use Rattle.std.proofs.Common.{◌≤◌, length, arith}
use Rattle.mpm_mount.specs.Files.{file_in}
use Rattle.mpm_turn_scenes.proofs.SuitLaws.{not_there}
use Rattle.mpm_turn_scenes.proofs.suiting.is_missing.Goals as goal

pub returns : goal.returns
returns c =
    let d = c.args.mounted.now in
    let all : length d.entries ≤ c.loop-slot.slot = omega (arith, c.loop-slot-test.false, c.loop-slot.auto.slot-end, c.slots-slot-end.ensures.size) in
    λ image drive stands. not_there image d drive (file_in c.args.user c.args.name.now) c.loop-slot.slot all c.loop-slot.invariant stands
