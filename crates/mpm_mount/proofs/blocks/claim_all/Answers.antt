use Rattle.std.proofs.Common.{◌<◌, ◌≤◌, slice_index_or, length, refl, sym, subst, ◌∙◌, arith}
use Rattle.mpm_base.specs.declared.kind.Kind.{Kind}
use Rattle.mpm_blocks.specs.Geometries.{last_block}
use Rattle.mpm_mount.specs.Using.{clashes}
use Rattle.mpm_mount.proofs.UsedBlocks.{within_at, claims_none, claims_more, answer_here, answer_more, answer_all}
use Rattle.mpm_mount.proofs.blocks.claim_all.Goals as goal

pub loop-place-init : goal.loop-place-init
loop-place-init c = record { claims = claims_none c.args.file.now c.args.blocks.now; answer = refl }

pub claim_one-are_free-requires : goal.claim_one-are_free-requires
claim_one-are_free-requires c =
    let bound : slice_index_or c.args.file.now.blocks c.loop-place.place 0 ≤ last_block c.args.kind =
    within_at c.args.kind c.args.file.now c.loop-place.place c.requires.inside (omega arith) in
    subst (λ (k : Kind). slice_index_or c.args.file.now.blocks c.loop-place.place 0 ≤ last_block k)
    (sym (c.loop-place.invariant.claims.kind ∙ c.requires.of_kind)) bound

pub loop-place-preserved : goal.loop-place-preserved
loop-place-preserved c =
    let bound : slice_index_or c.args.file.now.blocks c.loop-place.place 0 ≤ last_block c.args.kind =
    within_at c.args.kind c.args.file.now c.loop-place.place c.requires.inside (omega arith) in
    let inside : slice_index_or c.args.file.now.blocks c.loop-place.place 0 < length c.args.blocks.now.used = omega (arith, c.requires.size) in
    record {
      claims = claims_more c.args.file.now c.loop-place.place c.args.blocks.now c.loop-place.blocks _ c.loop-place.invariant.claims inside c.claim_one-are_free.ensures.after;
      answer = answer_more (clashes c.args.blocks.now c.args.file.now) c.loop-place.place c.loop-place.are_free c.claim_one-are_free.result _ c.loop-place.invariant.answer
          (c.claim_one-are_free.ensures.answer ∙ answer_here c.args.file.now c.loop-place.place c.args.blocks.now c.loop-place.blocks c.loop-place.invariant.claims) refl;
    }

pub returns-clause-answer : goal.returns-clause-answer
returns-clause-answer c =
    answer_all c.args.kind (clashes c.args.blocks.now c.args.file.now) c.loop-place.place c.loop-place.are_free (omega arith) c.loop-place.invariant.answer
