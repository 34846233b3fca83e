use Rattle.std.proofs.Common.{◌≡◌, ◌∙◌, ℕ, List, Some, None, cond, sym, ap, subst}
use Rattle.std.specs.Prelude.{bytes_eq}
use Rattle.mpm_dirent.specs.Names.{plain}
use Rattle.mpm_mount.specs.Drives.{FileName, Drive, extents_of}
use Rattle.mpm_mount.specs.Directories.{Stands}
use Rattle.mpm_mount.specs.Searching.{search_of, IsNext}
use Rattle.mpm_mount.specs.Attributes.{first_entry}
use Rattle.mpm_mount.specs.Lowest.{entry_where}
use Rattle.mpm_mount.proofs.Lowest.{entry_behind, entry_first, lowest_step, no_lower, lowest_attributes, entry_found}
use Rattle.mpm_mount.proofs.SearchSteps.{fewer_left}
use Rattle.mpm_mount.proofs.lookups.lowest_entry.Goals as goal

pub loop-found-init : goal.loop-found-init
loop-found-init c = λ image files stands. entry_first files (record { user = c.args.user; name = plain c.args.name.now }) c.args.mounted.now.kind

pub returns-then-eq : goal.returns-then-eq
returns-then-eq c =
    let d = c.args.mounted.now in
    let file : FileName = record { user = c.args.user; name = plain c.args.name.now } in
    let next = subst (IsNext d.kind (search_of d.kind c.args.user c.args.name.now c.loop-found.last) d.entries) c.in-Some.is c.next.ensures in
    let same = ap (bytes_eq c.in-Some.found.name) (sym c.plain_name-sought.ensures) ∙ sym c.eq.ensures ∙ c.if-eq.true in
    let first : (image : List ℕ) (files : Drive) → Stands image d files → first_entry (extents_of files file) ≡ entry_where image d (Some c.in-Some.found) = λ image files stands.
    c.loop-found.invariant image files stands
    ∙ lowest_step image d files c.args.user c.args.name.now c.loop-found.last c.in-Some.found stands c.told-name next
    ∙ ap (λ b. cond b (entry_where image d (Some c.in-Some.found)) (entry_behind files file d.kind (Some c.in-Some.found))) same in
    record {
      lowest = first;
      attributes = λ image files stands. lowest_attributes image d (extents_of files file) (Some c.in-Some.found) (first image files stands);
      within = next.within;
      found = entry_found d c.args.user c.args.name.now c.loop-found.last c.in-Some.found next same;
    }

pub loop-found-smaller : goal.loop-found-smaller
loop-found-smaller c =
    let d = c.args.mounted.now in
    fewer_left d.kind c.args.user c.args.name.now c.loop-found.last c.in-Some.found d.entries
    (subst (IsNext d.kind (search_of d.kind c.args.user c.args.name.now c.loop-found.last) d.entries) c.in-Some.is c.next.ensures)

pub loop-found-preserved : goal.loop-found-preserved
loop-found-preserved c = λ image files stands.
    let d = c.args.mounted.now in
    c.loop-found.invariant image files stands
    ∙ lowest_step image d files c.args.user c.args.name.now c.loop-found.last c.in-Some.found stands c.told-name
    (subst (IsNext d.kind (search_of d.kind c.args.user c.args.name.now c.loop-found.last) d.entries) c.in-Some.is c.next.ensures)
    ∙ ap (λ b. cond b (entry_where image d (Some c.in-Some.found)) (entry_behind files (record { user = c.args.user; name = plain c.args.name.now }) d.kind (Some c.in-Some.found)))
    (ap (bytes_eq c.in-Some.found.name) (sym c.plain_name-sought.ensures) ∙ sym c.eq.ensures ∙ c.if-eq.false)

pub returns : goal.returns
returns c =
    let d = c.args.mounted.now in
    let file : FileName = record { user = c.args.user; name = plain c.args.name.now } in
    let next = subst (IsNext d.kind (search_of d.kind c.args.user c.args.name.now c.loop-found.last) d.entries) c.in_default.is c.next.ensures in
    let first : (image : List ℕ) (files : Drive) → Stands image d files → first_entry (extents_of files file) ≡ entry_where image d None = λ image files stands.
    c.loop-found.invariant image files stands ∙ no_lower image d files c.args.user c.args.name.now c.loop-found.last stands c.told-name next in
    record {
      lowest = first;
      attributes = λ image files stands. lowest_attributes image d (extents_of files file) None (first image files stands);
      within = tt;
      found = tt;
    }
