use Rattle.std.proofs.Common.{◌≡◌, ◌∙◌, false, None, [], ◌∷◌, refl, sym, ap, subst, arith}
use Rattle.mpm_banks.specs.Memory.{Memory}
use Rattle.mpm_banks.specs.MemoryLaws.{same_segments_both}
use Rattle.mpm_banks.specs.Allocations.{new_memory}
use Rattle.mpm_banks.specs.Gates.{last_page}
use Rattle.mpm_gate.specs.Gates.{IsHome, gate_in}
use Rattle.mpm_gate.proofs.GateLaws.{home_stays, page_stays}
use Rattle.mpm_processor.proofs.instruction.tests.memory_with.Goals as goal

abbrev begun : Memory
begun = new_memory (record { base = 64; pages = 4 } ∷ [])

home_begun : IsHome begun 0
unfolding new_memory
home_begun = record { exists = omega arith; pages = omega arith; end = omega arith }

page_begun : last_page begun 0 ≡ 67
unfolding new_memory
page_begun = refl

no_gate : gate_in false 67 16384 ≡ None
unfolding gate_in
no_gate = refl

pub returns-clause-home : goal.returns-clause-home
returns-clause-home c =
    home_stays _ _ 0 (same_segments_both _ _ _ c.place.ensures c.place-2.ensures) (subst (λ memory. IsHome memory 0) (sym c.in_ok-banks.ensures) home_begun)

pub returns-clause-gate : goal.returns-clause-gate
returns-clause-gate c =
    let page = page_stays _ _ 0 (same_segments_both _ _ _ c.place.ensures c.place-2.ensures) ∙ ap (λ memory. last_page memory 0) c.in_ok-banks.ensures ∙ page_begun in
    ap (λ n. gate_in false n 16384) page ∙ no_gate
