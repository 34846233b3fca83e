use Rattle.std.proofs.Common.{◌∙◌, ℕ, List, ap, subst}
use Rattle.std.specs.Char.{encode_utf8}
use Rattle.std.specs.Fmt.{HasWritten}
use Rattle.mpm_top.proofs.Letters.{letter_byte}
use Rattle.mpm_top.proofs.message.LetterDisplay.fmt.Goals as goal

pub returns-clause-writes : goal.returns-clause-writes
returns-clause-writes g c plain ok =
    let P : List ℕ → Type 0 = λ t. HasWritten {W = g.row.W.Denot} g.W.Write.write_str_gives c.args.f.now t c.write.new.self in
    subst P (ap encode_utf8 c.from-letter.ensures ∙ letter_byte c.args.self.now.0) (c.write.ensures.writes plain ok)
