use Rattle.std.proofs.Common.{◌∙◌, ap, arith, true, slice_index}
use Rattle.std.proofs.lemmas.List.FromFn.{get_or-map-range_with_len}
use Rattle.mpm_dirent.specs.Entries.{bytes_of}
use Rattle.mpm_dirent.specs.declared.kinds.Entry.TheVariants.{File}
use Rattle.mpm_generator.specs.Sizes.{records_for}
use Rattle.mpm_generator.specs.Images.{number_at, numbers_from as numbers_said, entry_for}
use Rattle.mpm_generator.proofs.Places.{none_behind}
use Rattle.mpm_generator.proofs.imaging.entry.Goals as goal

pub write_entry-requires : goal.write_entry-requires
write_entry-requires c =
    let count = c.blocks-2.result in (
      omega arith,
      λ place below high.
          ap (λ numbers. slice_index numbers place) c.numbers_from.ensures
          ∙ get_or-map-range_with_len (number_at c.args.first count) 0 16 place place 0 below (omega arith)
          ∙ none_behind c.args.first count place (omega (arith, c.blocks-2.ensures.few)),
    )

pub returns-clause-entry : goal.returns-clause-entry
unfolding entry_for
returns-clause-entry c =
    c.write_entry.ensures.bytes
    ∙ ap (λ numbers. bytes_of (File (record { user = 0; name = c.args.name.now; ex = 0; s1 = 0; s2 = 0; rc = records_for c.args.count; blocks = numbers })) true)
    (c.numbers_from.ensures ∙ ap (numbers_said c.args.first) c.blocks-2.ensures.blocks)
