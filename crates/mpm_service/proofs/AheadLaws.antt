-- Steps that only pass, one after another.
use Rattle.std.proofs.Common.{◌≡◌, ◌∙◌, ℕ, zero, suc, ◌+◌, ◌<◌, Option, Some, option_map, ap, sym, arith}
use Rattle.mpm_service.specs.declared.service.Served.{Served}
use Rattle.mpm_service.specs.Disk.{DiskService, turned}
use Rattle.mpm_service.specs.Ahead.{turned_by, passed_by, passed_on}
use Rattle.mpm_service.proofs.TurnLaws.{passes}

-- a service with a call in service of whose turn so many steps have passed
abbrev serving : DiskService → Served → DiskService
serving service call = record service { served = Some call }

one_passes : (service : DiskService) (call : Served) (n : ℕ) → call.passed + n + 1 < service.turn_steps
    → turned (serving service (passed_on n call)) ≡ serving service (passed_on (n + 1) call)
unfolding turned
one_passes service call n below =
    ap (λ (o : Option Served). record service { served = o }) (passes service.turn_steps call.p call.left (call.passed + n) below)
    ∙ ap (λ (k : ℕ). serving service (record call { passed = k })) (omega arith)

n_pass : (service : DiskService) (call : Served) (n : ℕ) → call.passed + n < service.turn_steps
    → turned_by n (serving service call) ≡ serving service (passed_on n call)
unfolding turned_by
n_pass service call zero below = ap (λ (k : ℕ). serving service (record call { passed = k })) (omega arith)
n_pass service call (suc n) below =
    ap turned (n_pass service call n (omega (arith, below)))
    ∙ one_passes service call n (omega (arith, below))
    ∙ ap (λ (k : ℕ). serving service (passed_on k call)) (omega arith)

-- steps that only pass leave all but how many of the turn have passed
pub many_pass : (service : DiskService) (call : Served) (n : ℕ) → service.served ≡ Some call → call.passed + n < service.turn_steps
    → turned_by n service ≡ passed_by n service
unfolding passed_by
many_pass service call n is below =
    ap (λ (o : Option Served). turned_by n (record service { served = o })) is
    ∙ n_pass service call n below
    ∙ ap (λ (o : Option Served). record service { served = option_map (passed_on n) o }) (sym is)
