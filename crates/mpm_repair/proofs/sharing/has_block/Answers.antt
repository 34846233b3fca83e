use Rattle.std.proofs.Common.{rules, ◌≡◌, ◌==◌, true, sym, arith}
use Rattle.mpm_mount.specs.Faults.{block_at}
use Rattle.mpm_repair.proofs.Shared.{has_found}
use Rattle.mpm_repair.proofs.sharing.has_block.Goals as goal

pub returns-then-file-place : goal.returns-then-file-place
returns-then-file-place c =
    let here : (block_at c.args.file.now c.loop-place.place == c.args.block) ≡ true = search rules in
    sym (has_found c.args.file.now c.args.count c.loop-place.place c.args.block (omega arith) here)
