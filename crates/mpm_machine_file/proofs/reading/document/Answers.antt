use Rattle.std.proofs.Common.{sym, ◌∙◌}
use Rattle.std.proofs.lemmas.Bool.{false≢true}
use Rattle.mpm_machine_file.proofs.LimitLaws.{is_document, no_document}
use Rattle.mpm_machine_file.proofs.reading.document.Goals as goal

pub returns-in-Ok : goal.returns-in-Ok
returns-in-Ok c = is_document _ _ c.in-Ok.ensures.ok.0 c.in-Ok.ensures.ok.1

pub returns-in-Err-2 : goal.returns-in-Err-2
returns-in-Err-2 c = no_document _ (c.in-Err.ensures.refused (λ memory. false≢true (sym c.if-is_memory.false ∙ c.is_memory.ensures.1 memory)))
