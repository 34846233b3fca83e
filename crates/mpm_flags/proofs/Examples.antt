-- Worked examples, by computation.
use Rattle.std.proofs.Common.{◌≡◌, refl}
use Rattle.mpm_flags.specs.declared.flags.Flag.TheVariants.{Clear}
use Rattle.mpm_flags.specs.declared.flags.FlagWait.TheVariants.{Underrun}
use Rattle.mpm_flags.specs.declared.flags.FlagSet.TheVariants.{Set as IsSet, Woke, Overrun}
use Rattle.mpm_flags.specs.States.{waited_for, wait_answer, after_set, set_answer}

-- a flag is set, and then set again
pub set_once : set_answer Clear ≡ IsSet
set_once = refl

pub set_twice : set_answer (after_set Clear) ≡ Overrun
set_twice = refl

-- of two processes that wait the second is answered that, and the first waits on
pub second_waits : wait_answer 4 (waited_for 3 Clear) ≡ Underrun
second_waits = refl

pub first_waits_on : after_set (waited_for 4 (waited_for 3 Clear)) ≡ Clear
first_waits_on = refl

pub first_is_woken : set_answer (waited_for 4 (waited_for 3 Clear)) ≡ Woke 3
first_is_woken = refl
