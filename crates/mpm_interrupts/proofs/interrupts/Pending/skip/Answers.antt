use Rattle.std.specs.Prelude.{drop}
use Rattle.std.proofs.Common.{◌∙◌, sym, ap}
use Rattle.std.proofs.lemmas.List.{drop-drop}
use Rattle.mpm_interrupts.proofs.interrupts.Pending.skip.Goals as goal

pub returns-then-self-len : goal.returns-then-self-len
returns-then-self-len c = sym (drop-drop 1 c.self.inside.place c.self.inside.script) ∙ ap (drop 1) c.self.view_is
