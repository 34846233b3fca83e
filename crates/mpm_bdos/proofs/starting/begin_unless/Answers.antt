use Rattle.std.proofs.Common.{◌∙◌, None, sym, subst}
use Rattle.std.specs.Option.{option_copied}
use Rattle.mpm_refusals.specs.Asking.{called, StandsForDirectory}
use Rattle.mpm_bdos.specs.Starting.{BeginsJob}
use Rattle.mpm_refusals.proofs.UnmountedLaws.{is_there, is_not_there}
use Rattle.mpm_bdos.proofs.Started.{refused_begins, unmounted_begins, nothing_refuses}
use Rattle.mpm_bdos.proofs.starting.begin_unless.Goals as goal

pub returns-then-is_some : goal.returns-then-is_some
returns-then-is_some c = λ image drives marks stands is.
    let s = called drives c.args.protected.now c.args.opens.now marks c.args.searches.now c.args.file_call.now.caller c.args.file_call.now.function c.args.file_call.now.call.now c.args.file_call.now.moment in
    refused_begins image (option_copied c.args.mounted) s c.args.refusal is (sym c.is_some.ensures ∙ c.if-is_some.true)

pub returns-in-Some : goal.returns-in-Some
returns-in-Some c = λ image drives marks stands is.
    let s = called drives c.args.protected.now c.args.opens.now marks c.args.searches.now c.args.file_call.now.caller c.args.file_call.now.function c.args.file_call.now.call.now c.args.file_call.now.moment in
    let there = is_there s image c.in-Some.mounted.now (subst (λ m. StandsForDirectory image (option_copied m) s) c.in-Some.is stands) in
    subst (λ m. BeginsJob image (option_copied m) s c.begin_call.new.work) (sym c.in-Some.is)
    (c.begin_call.ensures image drives marks there.stands (nothing_refuses s c.args.refusal is (sym c.is_some.ensures ∙ c.if-is_some.false)))

pub returns-in-None : goal.returns-in-None
returns-in-None c = λ image drives marks stands is.
    let s = called drives c.args.protected.now c.args.opens.now marks c.args.searches.now c.args.file_call.now.caller c.args.file_call.now.function c.args.file_call.now.call.now c.args.file_call.now.moment in
    let nowhere = is_not_there s image (subst (λ m. StandsForDirectory image (option_copied m) s) c.in-None.is stands) in
    subst (λ m. BeginsJob image (option_copied m) s None) (sym c.in-None.is)
    (unmounted_begins image s (nothing_refuses s c.args.refusal is (sym c.is_some.ensures ∙ c.if-is_some.false)) nowhere)
