use Rattle.mpm_host.proofs.Known.{Taken}
use Rattle.mpm_host.proofs.reading.append_first.Given as goal

abbrev pub invariant-loop : goal.invariant-loop
invariant-loop g l =
    Taken (g.R.Read.remaining l.initial.file) (g.R.Read.remaining l.file) l.initial.out.items l.out.items l.room l.limit
