use Rattle.std.proofs.Common.{◌∙◌, sym, ap}
use Rattle.std.specs.Option.{option_or}
use Rattle.std.specs.Prelude.{find}
use Rattle.mpm_refusals.specs.Asking.{asks, each_asked}
use Rattle.mpm_refusals.proofs.refusing.refusal_asked.Goals as goal

pub returns-in-Some : goal.returns-in-Some
returns-in-Some c = λ image drive stands.
    let a = c.args.asked.now in
    ap (λ r. option_or r (each_asked drive c.args.opens.now a))
    (sym c.in-Some.is ∙ c.first_refusal.ensures image drive stands ∙ ap (find (asks drive c.args.opens.now c.args.marks.now a)) c.refusals_of.ensures)

pub returns-in-None : goal.returns-in-None
returns-in-None c = λ image drive stands.
    let a = c.args.asked.now in
    c.each_refusal.ensures image drive stands
    ∙ ap (λ r. option_or r (each_asked drive c.args.opens.now a))
    (sym c.in-None.is ∙ c.first_refusal.ensures image drive stands ∙ ap (find (asks drive c.args.opens.now c.args.marks.now a)) c.refusals_of.ensures)
