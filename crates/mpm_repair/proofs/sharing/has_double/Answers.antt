use Rattle.std.proofs.Common.{rules, ◌≡◌, ◌==◌, ◌&&◌, not, true, sym, arith}
use Rattle.mpm_mount.specs.Faults.{block_at, has_at}
use Rattle.mpm_mount.proofs.UsedBlocks.{some_found}
use Rattle.mpm_repair.proofs.sharing.has_double.Goals as goal

pub returns-then-has_block : goal.returns-then-has_block
returns-then-has_block c =
    let here : (not (block_at c.args.file.now c.loop-place.place == 0) && has_at c.args.file.now c.loop-place.place (block_at c.args.file.now c.loop-place.place)) ≡ true = search rules in
    sym (some_found c.args.kind (λ i. not (block_at c.args.file.now i == 0) && has_at c.args.file.now i (block_at c.args.file.now i)) c.loop-place.place (omega arith) here)
