use Rattle.std.proofs.Common.{rules, ◌≡◌, true, sym, arith}
use Rattle.mpm_mount.specs.Faults as faults
use Rattle.mpm_mount.proofs.UsedBlocks.{some_found}
use Rattle.mpm_mount.proofs.blocks.has_outside.Goals as goal

pub returns-then-is_outside : goal.returns-then-is_outside
returns-then-is_outside c =
    let here : faults.is_outside c.args.kind c.args.file.now c.loop-place.place ≡ true = search rules in
    sym (some_found c.args.kind (faults.is_outside c.args.kind c.args.file.now) c.loop-place.place (omega arith) here)
