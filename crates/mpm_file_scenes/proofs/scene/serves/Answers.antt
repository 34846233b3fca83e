use Rattle.std.proofs.Common.{◌≡◌, ◌∙◌, sym, subst, arith}
use Rattle.mpm_file_scenes.specs.Standing.{IsWithinCall}
use Rattle.mpm_file_scenes.proofs.CallLaws.{entered}
use Rattle.mpm_file_scenes.proofs.scene.serves.Goals as goal

pub takes_turns-requires : goal.takes_turns-requires
takes_turns-requires g c =
    let turns : c.start.result ≡ c.args.turns = omega (arith, c.if-start-turns.false) in
    let file = sym c.is_file_call.ensures ∙ c.if-not-is_file_call.false in
    subst (IsWithinCall g.D.Drives.disks c.start.new.self c.args.drives.now 0) turns (entered g.D.Drives.disks _ _ _ _ _ _ _ _ c.requires file c.start.ensures)
