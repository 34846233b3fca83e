use Rattle.std.proofs.Common.{◌≡◌, ◌∙◌, ℕ, List, sym, ap, arith}
use Rattle.mpm_base.specs.Calls.{Taken}
use Rattle.mpm_procs.specs.Table.{call_of}
use Rattle.mpm_output.specs.Outside.{by_sink}
use Rattle.mpm_system.specs.Whole.{SystemChange}
use Rattle.mpm_system.proofs.ChangeLaws.{emits_silent}
use Rattle.mpm_system.proofs.SayingLaws.{says_nothing}
use Rattle.mpm_system.proofs.system.System.speak_byte.Goals as goal

pub returns-then-call-gt-DIRECT_CONSOLE_IO : goal.returns-then-call-gt-DIRECT_CONSOLE_IO
returns-then-call-gt-DIRECT_CONSOLE_IO g c =
    let call = call_of c.args.self.now.kernel.dispatcher.procs c.args.p in
    let view : c.call.inside.function ≡ call.function = ap (λ (x : Taken). x.function) (c.call.view_is ∙ c.kept_call-call.ensures) in
    let nothing = λ (string : List ℕ). says_nothing call string c.args.p c.args.self.now (record {
      two = λ e. omega (arith, view, c.if-call-gt-DIRECT_CONSOLE_IO.true, e);
      four = λ e. omega (arith, view, c.if-call-gt-DIRECT_CONSOLE_IO.true, e);
      nine = c.requires.byte;
      prints = λ e. absurd (omega (arith, view, c.if-call-gt-DIRECT_CONSOLE_IO.true, e));
      direct = λ e. absurd (omega (arith, view, c.if-call-gt-DIRECT_CONSOLE_IO.true, e));
    }) in
    λ string. record {
      system = sym (ap (λ (change : SystemChange). change.system) (nothing string));
      wrote = emits_silent by_sink _ _ _ _ (nothing string);
    }
