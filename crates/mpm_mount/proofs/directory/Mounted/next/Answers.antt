use Rattle.std.proofs.Common.{subst}
use Rattle.mpm_mount.specs.Directories.{Directory}
use Rattle.mpm_mount.specs.Searching.{IsNext, search_of}
use Rattle.mpm_mount.proofs.Sought.{as_searched}
use Rattle.mpm_mount.proofs.directory.Mounted.next.Goals as goal

pub returns : goal.returns
returns c =
    let kind = c.self.inside.kind in
    subst (λ (d : Directory). IsNext d.kind (search_of d.kind c.args.user c.args.pattern.now c.args.last) d.entries c.least.result) c.self.view_is
    (as_searched kind c.new-search.result (search_of kind c.args.user c.args.pattern.now c.args.last) c.as_slice.result.now c.self.inside.entries.items c.least.result
    c.new-search.ensures c.as_slice.ensures.value c.least.ensures)
