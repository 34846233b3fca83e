use Rattle.std.proofs.Common.{get_or, arith}
use Rattle.std.specs.Prelude.{bit_xor}
use Rattle.std.proofs.lemmas.List.{get_or_default}
use Rattle.std.proofs.lemmas.List.Edits.{map_over_more}
use Rattle.mpm_guard.proofs.encoding.xor_each.Goals as goal

pub loop-byte-preserved : goal.loop-byte-preserved
loop-byte-preserved c =
    let ys = c.loop-byte.bytes in
    let i = c.loop-byte.byte-index in
    let x = get_or ys i 0 in
    map_over_more (λ byte. bit_xor byte c.args.with) c.args.bytes.now ys i x (omega arith) c.loop-byte.invariant (get_or_default ys i 0 x (omega arith))
