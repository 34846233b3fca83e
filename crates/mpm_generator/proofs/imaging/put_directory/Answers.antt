use Rattle.std.proofs.Common.{◌≡◌, ◌∙◌, ◌+◌, ap, subst, codes, OnOk}
use Rattle.mpm_generator.specs.Sizes.{filled_to, blocks_for}
use Rattle.mpm_generator.specs.Images.{entry_for, directory_of}
use Rattle.mpm_generator.proofs.Places.{three_parts}
use Rattle.mpm_generator.proofs.imaging.put_directory.Goals as goal

pub returns : goal.returns
unfolding directory_of
returns c =
    let first = c.blocks-second_block.ensures.blocks in
    let second = c.blocks-2.ensures.blocks in
    record {
      bytes = subst (λ entries. OnOk c.fill_to.result (c.fill_to.new.bytes.items ≡ filled_to 16384 229 entries))
          (three_parts _ _ _ _ _ _ _ _ _ _ c.requires.empty
          c.in_ok-extend_from_slice.ensures.items
          c.in_ok-extend_from_slice-2.ensures.items
          c.in_ok-extend_from_slice-3.ensures.items
          c.entry.ensures.entry
          (c.entry-2.ensures.entry ∙ ap (λ n. entry_for (codes "G1      COM") (8 + n) c.args.second) first)
          (c.entry-3.ensures.entry
          ∙ ap (λ n. entry_for (codes "DATA    DAT") ((8 + n) + c.blocks-2.result) 4096) first
          ∙ ap (λ n. entry_for (codes "DATA    DAT") ((8 + blocks_for c.args.first) + n) 4096) second))
          c.fill_to.ensures.bytes;
      size = c.fill_to.ensures.size;
    }
