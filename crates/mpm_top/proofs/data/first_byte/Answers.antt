use Rattle.std.proofs.Common.{◌∙◌, sym, ap, rules, arith}
use Rattle.std.proofs.lemmas.Grind.{common_steps}
use Rattle.std.specs.Prelude.{slice_index_or}
use Rattle.mpm_top.specs.Data.{first_of as first_said}
use Rattle.mpm_top.proofs.data.first_byte.Goals as goal

pub returns-in-Some : goal.returns-in-Some
returns-in-Some c = record {
  byte = λ image files here stands. ap (λ bytes. slice_index_or bytes 0 0) (c.sector_at-bytes.ensures.bytes image here) ∙ ap first_said (sym (c.in-Some.ensures.record image files stands));
  read = first_of (search rules, grind (arith, common_steps));
}

pub returns-in-None : goal.returns-in-None
returns-in-None c = record {
  byte = λ image files here stands. ap first_said (sym (c.in-None.ensures.record image files stands));
  read = first_of (search rules, grind (arith, common_steps));
}
