use Rattle.std.proofs.Common.{◌∙◌, ap}
use Rattle.mpm_refusals.specs.Subjects.{drive_at, number_by}
use Rattle.mpm_refusals.specs.Asking.{called}
use Rattle.mpm_bdos.proofs.Suited.{IsCall}
use Rattle.mpm_bdos.proofs.Started.{is_call, about_so, begins}
use Rattle.mpm_bdos.proofs.starting.begin_call.Goals as goal

pub returns : goal.returns
returns c = λ image drives marks stands none.
    let caller = c.args.file_call.now.caller in
    let s = called drives c.args.protected.now c.args.opens.now marks c.args.searches.now caller c.args.file_call.now.function c.args.file_call.now.call.now c.args.file_call.now.moment in
    let d = c.args.mounted.now in
    let asked = c.ask-asked.ensures.asked image drives marks c.args.file_call.now.moment stands in
    let call : IsCall s = is_call s c.requires.caller c.requires.users c.block_of_call-block.ensures.size c.block_of_call-block.result c.block_of_call-block.ensures.block c.about_of-about.ensures.low in
    let about = about_so image d s c.about_of-about.result c.block_of_call-block.result c.ask-asked.result.drive c.ask-asked.result.owner c.item_number-number.result call stands none
    c.about_of-about.ensures.value c.block_of_call-block.ensures.block (ap (λ a. a.drive) asked) (ap (λ a. a.owner) asked)
    (c.item_number-number.ensures ∙ (λ i. number_by (c.word.ensures i) (c.block_of_call-block.ensures.block i) c.args.file_call.now.function))
    in
    begins image d s c.job_by-job.result c.begin.new.work call none (c.job_by-job.ensures.job image drives c.args.protected.now marks c.args.searches.now about) (c.begin.ensures image (drive_at s) stands)
