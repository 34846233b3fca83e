use Rattle.std.proofs.Common.{◌≡◌, not, position, ap, subst, ◌∙◌}
use Rattle.std.specs.Prelude.{◌↔◌, IsNone}
use Rattle.mpm_procs.specs.Table.{Table, lowest_free, living}
use Rattle.mpm_procs.proofs.CountLaws.{free_in, full_exactly}
use Rattle.mpm_procs.proofs.procs.Procs.lowest_free.Goals as goal

pub returns-clause-below : goal.returns-clause-below
unfolding lowest_free
returns-clause-below c = free_in _ _ c.self.invariant.slots (c.first_free.ensures ∙ ap (position not) c.as_slice.ensures.value)

pub returns-clause-full : goal.returns-clause-full
unfolding lowest_free
returns-clause-full c =
    subst (λ (table : Table). IsNone c.first_free.result ↔ (living table ≡ 32)) c.self.view_is
    (full_exactly _ _ c.self.invariant.slots (c.first_free.ensures ∙ ap (position not) c.as_slice.ensures.value))
