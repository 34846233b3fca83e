use Rattle.std.proofs.Common.{◌<◌, ◌≤◌, slice_index_or, length, sym, subst, ◌∙◌, arith}
use Rattle.mpm_base.specs.declared.kind.Kind.{Kind}
use Rattle.mpm_blocks.specs.Geometries.{last_block}
use Rattle.mpm_mount.proofs.UsedBlocks.{within_at, frees_none, frees_more}
use Rattle.mpm_mount.proofs.blocks.free_all.Goals as goal

pub loop-place-init : goal.loop-place-init
loop-place-init c = frees_none c.args.file.now c.args.blocks.now

pub free_one-requires : goal.free_one-requires
free_one-requires c =
    let bound : slice_index_or c.args.file.now.blocks c.loop-place.place 0 ≤ last_block c.args.kind =
    within_at c.args.kind c.args.file.now c.loop-place.place c.requires.inside (omega arith) in
    subst (λ (k : Kind). slice_index_or c.args.file.now.blocks c.loop-place.place 0 ≤ last_block k) (sym (c.loop-place.invariant.kind ∙ c.requires.of_kind)) bound

pub loop-place-preserved : goal.loop-place-preserved
loop-place-preserved c =
    let bound : slice_index_or c.args.file.now.blocks c.loop-place.place 0 ≤ last_block c.args.kind =
    within_at c.args.kind c.args.file.now c.loop-place.place c.requires.inside (omega arith) in
    let inside : slice_index_or c.args.file.now.blocks c.loop-place.place 0 < length c.args.blocks.now.used = omega (arith, c.requires.size) in
    frees_more c.args.file.now c.loop-place.place c.args.blocks.now c.loop-place.blocks _ c.loop-place.invariant inside c.free_one.ensures
