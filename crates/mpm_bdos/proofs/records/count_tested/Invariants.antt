use Rattle.mpm_bdos.specs.Jobs as spec
use Rattle.mpm_bdos.proofs.Counting.{TestsTo}
use Rattle.mpm_bdos.proofs.records.count_tested.Given as goal

abbrev pub invariant-loop-k : goal.invariant-loop-k
invariant-loop-k l = TestsTo l.mounted (λ drive. spec.is_tested_off drive l.opens l.p l.file) l.first l.count l.k
