use Rattle.std.proofs.Common.{◌≡◌, ◌++◌, ◌<◌, take, arith}
use Rattle.std.proofs.lemmas.Grind.{common_steps}
use Rattle.mpm_host.proofs.Known.{part_taken, first_taken}
use Rattle.mpm_host.proofs.reading.append_first.Goals as goal

pub returns-in_default : goal.returns-in_default
returns-in_default g c = part_taken _ _ _ _ _ _ c.loop.invariant

-- where there was no memory the vector stays as it was
pub returns-then-is_err : goal.returns-then-is_err
returns-then-is_err g c =
    let stays : c.extend_from_slice.new.self.items ≡ c.loop.out.items = grind (arith, common_steps, c.extend_from_slice.ensures.items, c.is_err.ensures.value, c.if-is_err.true) in
    rw stays (part_taken _ _ _ _ _ _ c.loop.invariant)

pub returns-then-taken-count : goal.returns-then-taken-count
returns-then-taken-count g c =
    let room : c.loop.room < c.in-Ok.count = omega (arith, c.min-taken.ensures, c.if-taken-count.true) in
    let grows : c.extend_from_slice.new.self.items ≡ c.loop.out.items ++ take c.loop.room c.read_some.new.piece = grind (arith, common_steps, c.extend_from_slice.ensures.items, c.is_err.ensures.value, c.if-is_err.false, c.min-taken.ensures, room) in
    rw grows (first_taken _ _ _ _ _ _ _ _ _ c.loop.invariant c.in-Ok.ensures.bytes.0 (omega (arith, c.in-Ok.ensures.bound)) room)

pub returns : goal.returns
returns g c = part_taken _ _ _ _ _ _ c.loop.invariant
