use Rattle.std.proofs.Common.{◌∙◌, refl, sym, subst}
use Rattle.mpm_core_file.specs.CoreFiles.{IsCore}
use Rattle.mpm_core_file.proofs.HeadLaws.{only_core}
use Rattle.mpm_core.proofs.SavedLaws.{read_is, is_read}
use Rattle.mpm_core.proofs.saved.Core.read.Goals as goal

pub fill-requires : goal.fill-requires
fill-requires c =
    is_read c.args.text.now c.in-Ok.head c.segment_in.result.now c.common_in.result.now c.in-Ok.ensures.is_head c.in-Ok.ensures.size c.segment_in.ensures c.common_in.ensures

pub returns : goal.returns
returns c =
    let file = read_is c.args.text.now c.in-Ok.head c.segment_in.result.now c.common_in.result.now c.fill.new.self c.in-Ok.ensures.bytes c.segment_in.ensures c.common_in.ensures c.fill.ensures in
    let is = subst IsCore (sym c.fill.ensures)
    (is_read c.args.text.now c.in-Ok.head c.segment_in.result.now c.common_in.result.now c.in-Ok.ensures.is_head c.in-Ok.ensures.size c.segment_in.ensures c.common_in.ensures) in
    record {
      reads = record { file = file; is = is; none = c.in-Ok.ensures.none };
      again = λ core holds same. (refl, only_core c.fill.new.self core is holds (sym file ∙ same));
    }
