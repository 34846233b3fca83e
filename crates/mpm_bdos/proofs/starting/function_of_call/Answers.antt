use Rattle.std.proofs.Common.{◌∙◌, is_some, sym, ap}
use Rattle.std.proofs.lemmas.Bool.{true≢false}
use Rattle.mpm_base.specs.Calls.{Taken}
use Rattle.mpm_file_functions.specs.Functions.{function_of}
use Rattle.mpm_bdos.proofs.starting.function_of_call.Goals as goal

pub unreachable-requires : goal.unreachable-requires
unreachable-requires c =
    absurd (true≢false (sym c.requires ∙ ap (λ (call : Taken). is_some (function_of call.function)) (sym c.call.view_is) ∙ ap is_some (sym c.of.ensures ∙ c.in-None.is)))

pub returns : goal.returns
returns c = ap (λ (call : Taken). function_of call.function) (sym c.call.view_is) ∙ sym c.of.ensures ∙ c.in-Some.is
