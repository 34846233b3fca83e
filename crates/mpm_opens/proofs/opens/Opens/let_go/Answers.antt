use Rattle.mpm_opens.specs.Kinds.{is_among}
use Rattle.mpm_opens.proofs.OpenLaws.{open_given_back}
use Rattle.mpm_opens.proofs.opens.Opens.let_go.Goals as goal

pub invariant_of-self : goal.invariant_of-self
invariant_of-self c =
    rw (c.give_back.ensures, c.give_back-2.ensures)
    (open_given_back c.self.inside.items c.self.inside.locks c.args.p (is_among c.args.files.now) c.self.invariant)
