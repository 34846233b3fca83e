use Rattle.std.proofs.Common.{◌∙◌, sym, subst}
use Rattle.std.specs.Option.{option_copied}
use Rattle.mpm_refusals.specs.Asking.{called, StandsForDirectory}
use Rattle.mpm_refusals.proofs.UnmountedLaws.{is_there, is_not_there, unmounted_so}
use Rattle.mpm_refusals.proofs.refusing.refusal_of.Goals as goal

pub returns-in-Some : goal.returns-in-Some
returns-in-Some c = λ image drives moment stands.
    let s = called drives c.args.protected.now c.args.opens.now c.args.marks.now c.args.searches.now c.args.file_call.now.caller c.args.file_call.now.function c.args.file_call.now.call.now moment in
    let h = is_there s image c.in-Some.mounted.now (subst (λ m. StandsForDirectory image (option_copied m) s) c.in-Some.is stands) in
    c.mounted_refusal.ensures image drives moment h.stands h.there

pub returns-in-None : goal.returns-in-None
returns-in-None c = λ image drives moment stands.
    let s = called drives c.args.protected.now c.args.opens.now c.args.marks.now c.args.searches.now c.args.file_call.now.caller c.args.file_call.now.function c.args.file_call.now.call.now moment in
    c.unmounted_refusal.ensures ∙ sym (unmounted_so s (is_not_there s image (subst (λ m. StandsForDirectory image (option_copied m) s) c.in-None.is stands)))
