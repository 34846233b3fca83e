use Rattle.std.proofs.Common.{◌≡◌, ◌∙◌, sym, ap, refl, subst, arith}
use Rattle.std.proofs.lemmas.Result.{on_ok_weaker}
use Rattle.mpm_base.specs.Calls.{Taken}
use Rattle.mpm_base.specs.declared.functions.TheConstants.{PRINT_STRING}
use Rattle.mpm_procs.specs.Table.{process_in, call_of}
use Rattle.mpm_procs.specs.declared.process.Process.{Process}
use Rattle.mpm_kernel.specs.Kernel.{Kernel}
use Rattle.mpm_output.specs.Outside.{by_sink}
use Rattle.mpm_system.specs.Whole.{SystemChange}
use Rattle.mpm_system.proofs.ChangeLaws.{emits_as}
use Rattle.mpm_system.proofs.SayingLaws.{string_said}
use Rattle.mpm_system.proofs.system.System.speak_kept.Goals as goal

pub returns-then-kept_call-eq-PRINT_STRING : goal.returns-then-kept_call-eq-PRINT_STRING
returns-then-kept_call-eq-PRINT_STRING g c =
    let call = call_of c.args.self.now.kernel.dispatcher.procs c.args.p in
    let string = call.bytes in
    let is : call.function ≡ PRINT_STRING = sym (ap (λ (x : Taken). x.function) (c.behind-self.view_is ∙ c.kept_call.ensures)) ∙ omega (arith, c.if-kept_call-eq-PRINT_STRING.true) in
    let at : (process_in c.args.self.now.kernel.dispatcher.procs c.args.p).console ≡ c.living.result.now.console = sym (ap (λ (x : Process). x.console) c.living.ensures) in
    let said = string_said call string _ c.args.p c.args.self.now _ is (refl) at in
    let P : SystemChange → Type 0 = λ change. record c.args.self.now { kernel = c.write_kept.new.kernel } ≡ change.system in
    record {
      system = on_ok_weaker c.write_kept.result (λ kernel. subst P (sym said) (ap (λ (k : Kernel). record c.args.self.now { kernel = k }) kernel)) c.write_kept.ensures.kernel;
      wrote = emits_as by_sink _ _ _ _ _ (sym said) c.write_kept.ensures.wrote;
    }

pub returns : goal.returns
returns g c = c.speak_byte.ensures _
