use Rattle.std.proofs.Common.{rules, ◌≡◌, ◌<◌, length, slice_index_or, refl, sym, subst, ◌∙◌, arith}
use Rattle.std.proofs.lemmas.Grind.{common_steps}
use Rattle.mpm_dirent.specs.declared.kinds.Entry.{Entry}
use Rattle.mpm_dirent.specs.declared.kinds.Entry.TheVariants.{Free}
use Rattle.mpm_mount.specs.Using.{IsInsideBlocks, Frees}
use Rattle.mpm_mount.proofs.UsedBy.{size_used}
use Rattle.mpm_mount.proofs.Still.{still_faultless}
use Rattle.mpm_mount.proofs.Replaced.{kept_used, kept_exchanged, old_inside, new_inside}
use Rattle.mpm_mount.proofs.directory.replace.Goals as goal

pub free_blocks-requires : goal.free_blocks-requires
free_blocks-requires c =
    let old : c.index.result.now ≡ slice_index_or c.args.entries.now.items c.args.slot Free = first_of (search rules, grind (arith, common_steps)) in
    let within : c.args.slot < length c.args.entries.now.items = omega (arith, c.requires.kept.full, c.requires.may.slot_is) in
    record {
      of_kind = c.requires.kept.of_kind;
      size = size_used c.args.kind c.args.entries.now.items c.args.blocks.now (kept_used c.args.kind c.args.entries.now.items c.args.blocks.now c.requires.kept);
      inside = subst (λ (e : Entry). IsInsideBlocks c.args.kind e) (sym old) (old_inside c.args.kind c.args.entries.now.items c.args.slot c.requires.kept.faultless within);
    }

pub claim_blocks-requires : goal.claim_blocks-requires
claim_blocks-requires c =
    let within : c.args.slot < length c.args.entries.now.items = omega (arith, c.requires.kept.full, c.requires.may.slot_is) in
    record {
      of_kind = c.free_blocks.ensures.kind ∙ c.requires.kept.of_kind;
      size = c.free_blocks.ensures.size
          ∙ size_used c.args.kind c.args.entries.now.items c.args.blocks.now (kept_used c.args.kind c.args.entries.now.items c.args.blocks.now c.requires.kept);
      inside = new_inside c.args.kind c.args.entries.now.items c.args.slot c.args.entry
          (still_faultless c.args.kind c.args.entries.now.items c.args.slot c.args.entry c.requires.kept.faultless within c.requires.may.faultless) within;
    }

pub returns-clause-kept : goal.returns-clause-kept
returns-clause-kept c =
    let old : c.index.result.now ≡ slice_index_or c.args.entries.now.items c.args.slot Free = first_of (search rules, grind (arith, common_steps)) in
    let within : c.args.slot < length c.args.entries.now.items = omega (arith, c.requires.kept.full, c.requires.may.slot_is) in
    kept_exchanged c.args.kind c.args.entries.now.items _ c.args.slot c.args.entry c.args.blocks.now c.free_blocks.new.blocks c.claim_blocks.new.blocks
    c.requires.kept within c.requires.may.proper c.requires.whole
    (still_faultless c.args.kind c.args.entries.now.items c.args.slot c.args.entry c.requires.kept.faultless within c.requires.may.faultless)
    (subst (λ (e : Entry). Frees c.args.kind e c.args.blocks.now c.free_blocks.new.blocks) old c.free_blocks.ensures) c.claim_blocks.ensures refl
