-- What a part of a step leaves and answers.
use Rattle.std.specs.Prelude.{◌≡◌}
use Rattle.mpm_system.specs.declared.system.System.{System}

pub record LeavesSystem {A : Type 0} (left : System) (known : A) (new : System) (result : A) : Type 0 where
  pub system : new ≡ left
  pub value : result ≡ known
