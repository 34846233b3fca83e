use Rattle.std.proofs.Common.{◌≡◌, ◌∙◌, ap, sym, rules, false}
use Rattle.mpm_base.specs.Calls.{Taken}
use Rattle.mpm_procs.specs.Table.{process_in, call_of}
use Rattle.mpm_consoles.specs.Modes.{does_echo}
use Rattle.mpm_system.proofs.SayingLaws.{echoes_nothing}
use Rattle.mpm_system.proofs.system.System.put_some_echo.Goals as goal

pub returns-then-not-echoes : goal.returns-then-not-echoes
returns-then-not-echoes g c =
    let call = call_of c.args.self.now.kernel.dispatcher.procs c.args.p in
    let is : c.behind-self.inside.function ≡ call.function = ap (λ (x : Taken). x.function) (c.behind-self.view_is ∙ c.kept_call.ensures) in
    let none : does_echo c.behind-self.inside.function ≡ false = search rules in
    record {
      wrote = record {
        ok = echoes_nothing (process_in c.args.self.now.kernel.dispatcher.procs c.args.p).console _ call c.args.self.now.kernel (ap does_echo (sym is) ∙ none);
        err = tt;
      };
    }
