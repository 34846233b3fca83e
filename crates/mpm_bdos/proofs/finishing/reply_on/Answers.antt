use Rattle.std.proofs.Common.{◌∙◌, is_some, sym, ap, subst}
use Rattle.std.specs.Option.{option_copied}
use Rattle.std.proofs.lemmas.Bool.{true≢false}
use Rattle.std.proofs.lemmas.Option.{same_Some}
use Rattle.mpm_refusals.specs.Asking.{called}
use Rattle.mpm_bdos.specs.Replying.{IsAnswering}
use Rattle.mpm_bdos.proofs.finishing.reply_on.Goals as goal

pub unreachable-requires : goal.unreachable-requires
unreachable-requires c = absurd (true≢false (sym c.requires.drive ∙ ap (λ mounted. is_some (option_copied mounted)) c.in-None.is))

pub returns-clause-replied : goal.returns-clause-replied
returns-clause-replied c = λ image d drives marks moment there answering.
    let s = called drives c.args.protected.now c.args.opens.now marks c.args.searches.now c.args.served.now.file_call.caller c.args.served.now.file_call.function c.args.served.now.file_call.call.now moment in
    let same = same_Some d c.in-Some.mounted.now (sym there ∙ ap option_copied c.in-Some.is) in
    c.reply_mounted.ensures.replied image drives marks moment
    (subst (λ one. IsAnswering s image one c.args.served.now.work.now c.args.served.now.deleted.now) same answering)
