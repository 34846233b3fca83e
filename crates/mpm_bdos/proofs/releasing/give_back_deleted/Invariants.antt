use Rattle.std.proofs.Common.{◌≡◌, take}
use Rattle.mpm_opens.specs.Opens.{given_back}
use Rattle.mpm_bdos.specs.Changes.{is_among}
use Rattle.mpm_bdos.proofs.releasing.give_back_deleted.Given as goal

abbrev pub invariant-loop-number : goal.invariant-loop-number
invariant-loop-number l = l.opens ≡ given_back l.initial.opens l.p (is_among (take l.number l.deleted))
