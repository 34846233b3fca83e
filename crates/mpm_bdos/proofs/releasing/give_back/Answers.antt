use Rattle.std.proofs.Common.{◌∙◌, sym, ap}
use Rattle.mpm_opens.specs.Opens.{given_back}
use Rattle.mpm_bdos.specs.Changes.{is_at}
use Rattle.mpm_bdos.proofs.DeletedFiles.{nowhere_given}
use Rattle.mpm_bdos.proofs.releasing.give_back.Goals as goal

pub returns-in-None : goal.returns-in-None
returns-in-None c =
    nowhere_given c.args.opens.now c.args.p ∙ ap (λ file. given_back c.args.opens.now c.args.p (is_at file)) (sym c.in-None.is)
