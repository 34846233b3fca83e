use Rattle.std.proofs.Common.{◌≡◌, ◌∙◌, sym, ap, arith}
use Rattle.mpm_base.specs.Calls.{Taken}
use Rattle.mpm_procs.specs.Table.{call_of}
use Rattle.mpm_output.specs.Outside.{by_sink}
use Rattle.mpm_system.specs.Whole.{SystemChange}
use Rattle.mpm_system.specs.Saying.{string_of}
use Rattle.mpm_system.proofs.ChangeLaws.{emits_silent}
use Rattle.mpm_system.proofs.SayingLaws.{says_nothing}
use Rattle.mpm_system.proofs.system.System.speak.Goals as goal

pub returns-then-call-gt-READ_CONSOLE_BUFFER : goal.returns-then-call-gt-READ_CONSOLE_BUFFER
returns-then-call-gt-READ_CONSOLE_BUFFER g c =
    let call = call_of c.args.self.now.kernel.dispatcher.procs c.args.p in
    let view : c.call.inside.function ≡ call.function = ap (λ (x : Taken). x.function) (c.call.view_is ∙ c.kept_call-call.ensures) in
    let nothing = says_nothing call (string_of call c.args.seg c.args.self.now.memory) c.args.p c.args.self.now (record {
      two = λ e. omega (arith, view, c.if-call-gt-READ_CONSOLE_BUFFER.true, e);
      four = λ e. omega (arith, view, c.if-call-gt-READ_CONSOLE_BUFFER.true, e);
      nine = λ e. omega (arith, view, c.if-call-gt-READ_CONSOLE_BUFFER.true, e);
      prints = λ e. absurd (omega (arith, view, c.if-call-gt-READ_CONSOLE_BUFFER.true, e));
      direct = λ e. absurd (omega (arith, view, c.if-call-gt-READ_CONSOLE_BUFFER.true, e));
    }) in
    record {
      system = sym (ap (λ (change : SystemChange). change.system) nothing);
      wrote = emits_silent by_sink _ _ _ _ nothing;
    }
