-- What is so of each file call: how it is refused, and what that leaves.
use Rattle.std.proofs.Common.{◌≡◌, Some, ap}
use Rattle.mpm_file_functions.specs.declared.refusals.Refusal.{Refusal}
use Rattle.mpm_refusals.specs.Filing.{Situation}
use Rattle.mpm_refusals.specs.Refusals.{refusal_of}
use Rattle.mpm_bdos.specs.Jobs.{turned, call_turns}
use Rattle.mpm_bdos.specs.Outcomes.{file_call, outcome_by}

-- a call that is refused changes nothing but, where it is a reset, the caller's drive and DMA address
pub refused_keeps : (s : Situation) (refusal : Refusal) → refusal_of s ≡ Some refusal → (file_call s).filing ≡ s.filing
unfolding file_call
refused_keeps s refusal is = ap (λ r. (outcome_by s (turned s (call_turns s)) r).filing) is
