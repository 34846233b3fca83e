use Rattle.std.proofs.Common.{◌≡◌, sym, ap, subst, arith}
use Rattle.std.proofs.lemmas.Result.{on_ok_weaker}
use Rattle.mpm_procs.specs.Table.{call_of}
use Rattle.mpm_kernel.specs.Kernel.{Kernel}
use Rattle.mpm_output.specs.Outside.{by_sink}
use Rattle.mpm_system.specs.Whole.{SystemChange}
use Rattle.mpm_system.proofs.ChangeLaws.{emits_silent, emits_as}
use Rattle.mpm_system.proofs.SayingLaws.{told_there, told_nowhere}
use Rattle.mpm_system.proofs.system.System.put_text.Goals as goal

pub returns-then-console-consoles : goal.returns-then-console-consoles
returns-then-console-consoles g c =
    let call = call_of c.args.self.now.kernel.dispatcher.procs c.args.p in
    let told = told_there call c.console_told-console.result c.args.self.now c.console_told-console.ensures (omega (arith, c.if-console-consoles.true, c.consoles.ensures)) in
    let P : SystemChange → Type 0 = λ change. record c.args.self.now { kernel = c.write_kept.new.kernel } ≡ change.system in
    record {
      system = on_ok_weaker c.write_kept.result (λ kernel. subst P (sym told) (ap (λ (k : Kernel). record c.args.self.now { kernel = k }) kernel)) c.write_kept.ensures.kernel;
      wrote = emits_as by_sink _ _ _ _ _ (sym told) c.write_kept.ensures.wrote;
    }

pub returns : goal.returns
returns g c =
    let call = call_of c.args.self.now.kernel.dispatcher.procs c.args.p in
    let nothing = told_nowhere call c.console_told-console.result c.args.self.now c.console_told-console.ensures (omega (arith, c.if-console-consoles.false, c.consoles.ensures)) in
    record {
      system = sym (ap (λ (change : SystemChange). change.system) nothing);
      wrote = emits_silent by_sink _ _ _ _ nothing;
    }
