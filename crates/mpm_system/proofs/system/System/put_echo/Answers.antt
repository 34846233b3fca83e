use Rattle.std.proofs.Common.{◌≡◌, ◌∙◌, ap, false, arith}
use Rattle.std.proofs.lemmas.Bool.Decides.{nat_tests}
use Rattle.mpm_base.specs.Calls.{Taken}
use Rattle.mpm_procs.specs.Table.{process_in, call_of}
use Rattle.mpm_consoles.specs.Modes.{does_echo}
use Rattle.mpm_system.proofs.SayingLaws.{echoes_nothing}
use Rattle.mpm_system.proofs.system.System.put_echo.Goals as goal

pub returns-then-call-gt-READ_CONSOLE_BUFFER : goal.returns-then-call-gt-READ_CONSOLE_BUFFER
returns-then-call-gt-READ_CONSOLE_BUFFER g c =
    let call = call_of c.args.self.now.kernel.dispatcher.procs c.args.p in
    let view : c.call.inside.function ≡ call.function = ap (λ (x : Taken). x.function) (c.call.view_is ∙ c.kept_call-call.ensures) in
    let none : does_echo call.function ≡ false = grind (arith, nat_tests, view, c.if-call-gt-READ_CONSOLE_BUFFER.true) in
    record {
      wrote = record {
        ok = echoes_nothing (process_in c.args.self.now.kernel.dispatcher.procs c.args.p).console _ call c.args.self.now.kernel none;
        err = tt;
      };
    }
