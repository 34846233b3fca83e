use Rattle.std.proofs.Common.{◌∙◌, Some, cond, sym, ap, subst, arith}
use Rattle.std.specs.Prelude.{bytes_eq}
use Rattle.mpm_dirent.specs.Names.{plain}
use Rattle.mpm_mount.specs.Directories.{entry_in}
use Rattle.mpm_mount.specs.Searching.{search_of, IsNext}
use Rattle.mpm_mount.proofs.SearchSteps.{fewer_left}
use Rattle.mpm_file_entries.specs.Sizes.{size_at}
use Rattle.mpm_file_entries.proofs.SizeLaws.{size_behind, size_begins, size_step, size_ends}
use Rattle.mpm_file_entries.proofs.sizes.size.Goals as goal

pub loop-found-init : goal.loop-found-init
loop-found-init c = record {
  rest = λ image drive stands. size_begins drive (record { user = c.args.user; name = plain c.args.name.now }) c.args.mounted.now.kind;
  small = omega arith;
}

pub size_after-size-requires : goal.size_after-size-requires
size_after-size-requires c =
    let least = subst (IsNext c.args.mounted.now.kind (search_of c.args.mounted.now.kind c.args.user c.args.name.now c.loop-found.last) c.args.mounted.now.entries) c.in-Some.is c.next.ensures in
    record { slot = omega (arith, least.within, c.recall_directory.ensures.full); small = c.loop-found.invariant.small }

pub loop-found-smaller : goal.loop-found-smaller
loop-found-smaller c =
    let d = c.args.mounted.now in
    fewer_left d.kind c.args.user c.args.name.now c.loop-found.last c.in-Some.found d.entries
    (subst (IsNext d.kind (search_of d.kind c.args.user c.args.name.now c.loop-found.last) d.entries) c.in-Some.is c.next.ensures)

pub loop-found-preserved : goal.loop-found-preserved
loop-found-preserved c = record {
  rest = λ image drive stands.
      let d = c.args.mounted.now in
      c.loop-found.invariant.rest image drive stands
      ∙ size_step image d drive c.args.user c.args.name.now c.loop-found.last c.in-Some.found c.loop-found.size stands c.told-name
      (subst (IsNext d.kind (search_of d.kind c.args.user c.args.name.now c.loop-found.last) d.entries) c.in-Some.is c.next.ensures)
      ∙ ap (size_behind drive (record { user = c.args.user; name = plain c.args.name.now }) d.kind (Some c.in-Some.found))
      (ap (λ n. cond (bytes_eq c.in-Some.found.name n) (size_at (entry_in d c.in-Some.found.slot)) c.loop-found.size) (sym c.plain_name-sought.ensures) ∙ sym c.size_after-size.ensures.value);
  small = c.size_after-size.ensures.small;
}

pub returns : goal.returns
returns c = record {
  value = λ image drive stands.
      let d = c.args.mounted.now in
      sym (c.loop-found.invariant.rest image drive stands
      ∙ size_ends image d drive c.args.user c.args.name.now c.loop-found.last c.loop-found.size stands c.told-name
      (subst (IsNext d.kind (search_of d.kind c.args.user c.args.name.now c.loop-found.last) d.entries) c.in_default.is c.next.ensures));
  small = c.loop-found.invariant.small;
}
