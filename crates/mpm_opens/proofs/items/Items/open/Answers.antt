use Rattle.std.proofs.Common.{◌∙◌, sym}
use Rattle.mpm_opens.proofs.OpeningLaws.{number_is_live, may_open_again, has_room}
use Rattle.mpm_opens.proofs.items.Items.open.Goals as goal

pub open_again-requires-clause-live : goal.open_again-requires-clause-live
open_again-requires-clause-live c = number_is_live c.args.self.now c.args.p c.args.file c.in-Some.number (sym c.number_of.ensures ∙ c.in-Some.is)

pub open_again-requires-clause-few : goal.open_again-requires-clause-few
open_again-requires-clause-few c =
    may_open_again c.args.self.now c.args.p c.args.file c.args.mode c.in-Some.number c.requires (sym c.number_of.ensures ∙ c.in-Some.is)

pub first_free-number-requires : goal.first_free-number-requires
first_free-number-requires c = has_room c.args.self.now c.args.p c.args.file c.args.mode c.requires
