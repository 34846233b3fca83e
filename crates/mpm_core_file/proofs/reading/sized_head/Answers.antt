use Rattle.std.proofs.Common.{◌∙◌, ◌++◌, drop, sym, ap, arith}
use Rattle.mpm_core_file.specs.declared.head.Head.{Head}
use Rattle.mpm_core_file.specs.CoreFiles.{head_bytes, size_of}
use Rattle.mpm_core_file.proofs.ReadLaws.{head_stands, right_size}
use Rattle.mpm_core_file.proofs.HeadLaws.{begins}
use Rattle.mpm_core_file.proofs.reading.sized_head.Goals as goal

pub bounds-text-18 : goal.bounds-text-18
bounds-text-18 c = omega (arith, (head_stands c.args.text.now c.requires).long)

pub head_of-requires : goal.head_of-requires
head_of-requires c = head_stands c.args.text.now c.requires

pub returns : goal.returns
returns c =
    let text = c.args.text.now in
    let size = c.if-text-size.false ∙ c.size-size.ensures in
    record {
      none = right_size text size;
      says = c.head_of.ensures.says;
      is_head = c.head_of.ensures.is_head;
      bytes = begins text c.requires (head_stands text c.requires).long (λ k. (c.type_inv.text k).fits)
          ∙ ap (λ (head : Head). head_bytes head ++ drop 51 text) (sym c.head_of.ensures.says);
      size = size ∙ ap (λ (head : Head). size_of head.spec.pages) (sym c.head_of.ensures.says);
    }
