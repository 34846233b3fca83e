-- What a sink over a writer of the host is seen to be, and what it sends.
use Rattle.std.specs.Prelude.{◌≡◌, ℕ, List, ◌++◌, Option}
use Rattle.std.specs.Io.KnownBytes.{Appends}
use Rattle.mpm_port.specs.Texts.{Begins}

-- the writer, all bytes that it took, and the count of faults
pub record Sent (W : Type 0) : Type 0 where
  pub output : W
  pub text : List ℕ
  pub faults : ℕ

-- the writer took the bytes: where it is known what it holds, it holds them after what it held
pub record Sends {W : Type 0} (contents : W → Option (List ℕ)) (bytes : List ℕ) (old new : Sent W) : Type 0 where
  pub text : new.text ≡ old.text ++ bytes
  pub taken : Appends (contents old.output) (contents new.output) bytes

-- or some first part of them
pub record SendsPart {W : Type 0} (contents : W → Option (List ℕ)) (bytes : List ℕ) (old new : Sent W) : Type 0 where
  pub part : List ℕ
  pub begins : Begins part bytes
  pub sends : Sends contents part old new
