use Rattle.std.proofs.Common.{◌∙◌, ap}
use Rattle.mpm_refusals.specs.Subjects.{drive_at}
use Rattle.mpm_refusals.specs.Asking.{called, refused_asked}
use Rattle.mpm_refusals.proofs.AskedLaws.{asked_refusal}
use Rattle.mpm_refusals.proofs.refusing.mounted_refusal.Goals as goal

pub returns : goal.returns
returns c = λ image drives moment stands there.
    let s = called drives c.args.protected.now c.args.opens.now c.args.marks.now c.args.searches.now c.args.file_call.now.caller c.args.file_call.now.function c.args.file_call.now.call.now moment in
    c.refusal_asked.ensures image (drive_at s) stands
    ∙ ap (refused_asked (drive_at s) c.args.opens.now c.args.marks.now) (c.ask-asked.ensures.asked image drives c.args.marks.now moment stands)
    ∙ asked_refusal s there
