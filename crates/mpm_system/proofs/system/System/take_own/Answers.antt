use Rattle.std.proofs.Common.{rules, ◌≡◌, ℕ, true, subst}
use Rattle.mpm_procs.specs.Table.{process_in}
use Rattle.mpm_procs.proofs.MapLaws.{lives_changed}
use Rattle.mpm_system.specs.Taking.{keeping}
use Rattle.mpm_system.specs.OwnCalls.{is_own}
use Rattle.mpm_system.proofs.OwnCallLaws.{keeps_own}
use Rattle.mpm_system.proofs.system.System.take_own.Goals as goal

pub returns : goal.returns
unfolding keeping
returns c seg =
    let old = c.args.self.now in
    let own : is_own (process_in old.kernel.dispatcher.procs c.args.p).regs.c ≡ true =
    subst (λ (function : ℕ). is_own function ≡ true) c.requires.function c.requires.own in
    keeps_own c.args.p seg old _ own (search (rules, lives_changed))
