use Rattle.std.proofs.Common.{◌≡◌, ◌∙◌, sym, ap, subst, arith}
use Rattle.std.proofs.lemmas.Result.{on_ok_weaker}
use Rattle.mpm_base.specs.Calls.{Taken}
use Rattle.mpm_base.specs.declared.functions.TheConstants.{PRINT_STRING}
use Rattle.mpm_banks.specs.Memory.{byte_at}
use Rattle.mpm_gate.specs.Texts.{text_from}
use Rattle.mpm_gate.specs.declared.take.TextEnd.TheVariants.{Dollar}
use Rattle.mpm_procs.specs.Table.{process_in, call_of}
use Rattle.mpm_procs.specs.declared.process.Process.{Process}
use Rattle.mpm_kernel.specs.Kernel.{Kernel}
use Rattle.mpm_output.specs.Outside.{by_sink}
use Rattle.mpm_system.specs.Whole.{SystemChange}
use Rattle.mpm_system.specs.Saying.{string_of}
use Rattle.mpm_system.proofs.ChangeLaws.{emits_as}
use Rattle.mpm_system.proofs.SayingLaws.{string_said}
use Rattle.mpm_system.proofs.system.System.speak_some.Goals as goal

pub returns-then-call-eq-PRINT_STRING : goal.returns-then-call-eq-PRINT_STRING
returns-then-call-eq-PRINT_STRING g c =
    let call = call_of c.args.self.now.kernel.dispatcher.procs c.args.p in
    let string = string_of call c.args.seg c.args.self.now.memory in
    let is : call.function ≡ PRINT_STRING = sym (ap (λ (x : Taken). x.function) (c.call.view_is ∙ c.kept_call-call.ensures)) ∙ omega (arith, c.if-call-eq-PRINT_STRING.true) in
    let at : (process_in c.args.self.now.kernel.dispatcher.procs c.args.p).console ≡ c.living.result.now.console = sym (ap (λ (x : Process). x.console) c.living.ensures) in
    let said = string_said call string _ c.args.p c.args.self.now _ is (ap (λ (x : Taken). text_from Dollar (byte_at c.args.self.now.memory c.args.seg) x.word 65536) (sym (c.call.view_is ∙ c.kept_call-call.ensures))) at in
    let P : SystemChange → Type 0 = λ change. record c.args.self.now { kernel = c.write_string.new.kernel } ≡ change.system in
    record {
      system = on_ok_weaker c.write_string.result (λ kernel. subst P (sym said) (ap (λ (k : Kernel). record c.args.self.now { kernel = k }) kernel)) c.write_string.ensures.kernel;
      wrote = emits_as by_sink _ _ _ _ _ (sym said) c.write_string.ensures.wrote;
    }

pub returns : goal.returns
returns g c = c.speak_byte.ensures _
