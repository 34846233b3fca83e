use Rattle.std.proofs.Common.{◌∙◌, is_some, refl, sym, ap}
use Rattle.std.specs.Option.{option_copied}
use Rattle.mpm_bdos.specs.Serving.{InService}
use Rattle.mpm_bdos.specs.Finishing.{serving}
use Rattle.mpm_bdos.proofs.UserLaws.{users_driven}
use Rattle.mpm_bdos.proofs.FinishLaws.{granted_on_drives, granted_named}
use Rattle.mpm_bdos.proofs.finishing.reply_granted.Goals as goal

pub reply_on-requires-clause-drive : goal.reply_on-requires-clause-drive
reply_on-requires-clause-drive c = ap is_some c.get.ensures ∙ c.requires.drive (sym c.is_on_drives.ensures ∙ c.if-is_on_drives.false)

pub returns-then-is_on_drives-clause-users : goal.returns-then-is_on_drives-clause-users
returns-then-is_on_drives-clause-users c =
    users_driven c.args.opens.now c.reply_on_drives.new.opens c.args.served.now.file_call.caller.process c.args.served.now.file_call.call.now.word c.args.served.now.file_call.function c.reply_on_drives.ensures.opens c.requires.users

pub returns-else-is_on_drives-clause-users : goal.returns-else-is_on_drives-clause-users
returns-else-is_on_drives-clause-users c = c.reply_on.ensures.users c.requires.users

pub returns-then-is_on_drives-clause-finished : goal.returns-then-is_on_drives-clause-finished
returns-then-is_on_drives-clause-finished c = λ images s moment refusal serves none.
    let service : InService = record { caller = c.args.served.now.file_call.caller; function = c.args.served.now.file_call.function; drive = c.args.served.now.drive; call = c.args.served.now.file_call.call.now; moment = moment; refusal = refusal; work = c.args.served.now.work.now; deleted = c.args.served.now.deleted.now } in
    granted_on_drives images (serving c.args.mounted.now c.args.protected.now c.args.opens.now c.args.marks.now c.args.searches.now service) service s c.has.result c.reply_on_drives.new.reply c.reply_on_drives.new.protected c.reply_on_drives.new.opens c.reply_on_drives.new.marks
    refl serves none (sym c.is_on_drives.ensures ∙ c.if-is_on_drives.true) c.recall_position.ensures.size c.has.ensures.value
    c.reply_on_drives.ensures.reply c.reply_on_drives.ensures.protected c.reply_on_drives.ensures.opens c.reply_on_drives.ensures.marks

pub returns-else-is_on_drives-clause-finished : goal.returns-else-is_on_drives-clause-finished
returns-else-is_on_drives-clause-finished c = λ images s moment refusal serves none.
    let service : InService = record { caller = c.args.served.now.file_call.caller; function = c.args.served.now.file_call.function; drive = c.args.served.now.drive; call = c.args.served.now.file_call.call.now; moment = moment; refusal = refusal; work = c.args.served.now.work.now; deleted = c.args.served.now.deleted.now } in
    granted_named images (serving c.args.mounted.now c.args.protected.now c.args.opens.now c.args.marks.now c.args.searches.now service) service s (option_copied c.get.result) c.reply_on.new.reply c.reply_on.new.opens c.reply_on.new.searches
    refl serves none (sym c.is_on_drives.ensures ∙ c.if-is_on_drives.false) c.requires.caller c.requires.users c.recall_position.ensures.size c.recall_position.ensures.low
    c.get.ensures (λ image d there answering. c.reply_on.ensures.replied image d s.filing.drives c.args.marks.now moment there answering)
