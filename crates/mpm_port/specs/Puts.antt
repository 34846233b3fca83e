-- What a put leaves and answers, by what is seen of a sink: what a put took or dropped, all that was written, and the count of faults.
use Rattle.std.specs.Prelude.{◌≡◌, ◌++◌, ℕ, List, Result, OnOk, OnErr}
use Rattle.mpm_port.specs.Causes.{HasCause}
use Rattle.mpm_port.specs.Texts.{AppendsPart}

-- the bytes are written after what was, or some first part of them after an error
pub record AnswersPut {S A E : Type 0} (Took Dropped : S → List ℕ → S → Type 0) (text_of : S → List ℕ) (faults_of : S → ℕ) (bytes : List ℕ) (old new : S) (result : Result A E) : Type 0 where
  pub took : OnOk result (Took old bytes new)
  pub dropped : OnErr result (Dropped old bytes new)
  pub cause : HasCause (faults_of old) (faults_of new) result
  pub ok : OnOk result (text_of new ≡ text_of old ++ bytes)
  pub err : OnErr result (AppendsPart (text_of old) bytes (text_of new))
