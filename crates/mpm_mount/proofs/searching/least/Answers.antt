use Rattle.std.proofs.Common.{rules, ◌≡◌, ◌<◌, length, get_or, arith}
use Rattle.std.proofs.lemmas.Grind.{common_steps}
use Rattle.mpm_dirent.specs.declared.kinds.Entry.TheVariants.{Free}
use Rattle.mpm_mount.specs.Searching.{lesser}
use Rattle.mpm_mount.proofs.Sought.{next_more}
use Rattle.mpm_mount.proofs.searching.least.Goals as goal

pub loop-slot-preserved : goal.loop-slot-preserved
loop-slot-preserved c =
    let within : c.loop-slot.slot < length c.args.entries.now = omega arith in
    let is : c.lesser-found.result ≡ lesser c.args.kind c.args.search.now c.loop-slot.found c.loop-slot.slot (get_or c.args.entries.now c.loop-slot.slot Free) =
    first_of (search rules, grind (arith, common_steps)) in
    next_more c.args.kind c.args.search.now c.args.entries.now c.loop-slot.slot c.loop-slot.found c.lesser-found.result c.loop-slot.invariant within is
