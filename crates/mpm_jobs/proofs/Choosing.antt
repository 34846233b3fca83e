-- A job on some records, and none where there are none.
use Rattle.std.proofs.Common.{◌≡◌, ◌≢◌, ℕ, ◌==◌, true, false, cond, Some, None, ap, arith}
use Rattle.std.proofs.lemmas.Bool.Decides.{nat_tests}
use Rattle.mpm_jobs.specs.declared.jobs.Job.{Job}
use Rattle.mpm_jobs.specs.Jobs.{where_some}

-- so many records, or none
pub none_of : (count : ℕ) (job : Job) → count ≡ 0 → None ≡ where_some count job
none_of count job e = ap (λ b. cond b None (Some job)) (is_zero count e)
  where
    is_zero : (n : ℕ) → n ≡ 0 → true ≡ (n == 0)
    is_zero n e = grind (arith, nat_tests)

pub some_of : (count : ℕ) (job : Job) → count ≢ 0 → Some job ≡ where_some count job
some_of count job e = ap (λ b. cond b None (Some job)) (not_zero count e)
  where
    not_zero : (n : ℕ) → n ≢ 0 → false ≡ (n == 0)
    not_zero n e = grind (arith, nat_tests)
