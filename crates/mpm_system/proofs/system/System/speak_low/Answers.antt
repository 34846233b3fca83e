use Rattle.std.proofs.Common.{◌≡◌, ◌∙◌, ◌%◌, ℕ, List, sym, ap, subst, refl, arith}
use Rattle.std.proofs.lemmas.Bool.Decides.{nat_tests}
use Rattle.mpm_base.specs.Calls.{Taken}
use Rattle.mpm_procs.specs.Table.{process_in, call_of}
use Rattle.mpm_procs.specs.declared.process.Process.{Process}
use Rattle.mpm_kernel.specs.Kernel.{Kernel}
use Rattle.mpm_output.specs.Outside.{by_sink}
use Rattle.mpm_output.proofs.WritingLaws.{emits_one}
use Rattle.mpm_base.proofs.Results.{on_ok}
use Rattle.mpm_system.specs.Whole.{SystemChange}
use Rattle.mpm_system.proofs.ChangeLaws.{emits_silent, emits_as}
use Rattle.mpm_system.proofs.SayingLaws.{tab_said, byte_said, directly_said, byte_printed, says_nothing}
use Rattle.mpm_system.proofs.system.System.speak_low.Goals as goal

pub returns-in-2 : goal.returns-in-2
returns-in-2 g c =
    let call = call_of c.args.self.now.kernel.dispatcher.procs c.args.p in
    let view : c.call.inside.function ≡ call.function = ap (λ (x : Taken). x.function) (c.call.view_is ∙ c.kept_call-call.ensures) in
    let what : call.word % 256 ≡ c.call.inside.word % 256 = sym (ap (λ (x : Taken). x.word % 256) (c.call.view_is ∙ c.kept_call-call.ensures)) in
    let at : (process_in c.args.self.now.kernel.dispatcher.procs c.args.p).console ≡ c.living-process.result.now.console = sym (ap (λ (x : Process). x.console) c.living-process.ensures) in
    let said = λ (string : List ℕ). tab_said call string c.args.p c.args.self.now _ _ (sym view ∙ c.in-2.is) at what in
    let P : SystemChange → Type 0 = λ change. record c.args.self.now { kernel = c.write_tabbed.new.kernel } ≡ change.system in
    λ string. record {
      system = on_ok c.write_tabbed.result (subst P (sym (said string)) (ap (λ (k : Kernel). record c.args.self.now { kernel = k }) c.write_tabbed.ensures.kernel));
      wrote = emits_as by_sink _ _ _ _ _ (sym (said string)) c.write_tabbed.ensures.wrote;
    }

pub returns-in-4 : goal.returns-in-4
returns-in-4 g c =
    let call = call_of c.args.self.now.kernel.dispatcher.procs c.args.p in
    let view : c.call.inside.function ≡ call.function = ap (λ (x : Taken). x.function) (c.call.view_is ∙ c.kept_call-call.ensures) in
    let what : call.word % 256 ≡ c.call.inside.word % 256 = sym (ap (λ (x : Taken). x.word % 256) (c.call.view_is ∙ c.kept_call-call.ensures)) in
    let at : (process_in c.args.self.now.kernel.dispatcher.procs c.args.p).console ≡ c.living-process.result.now.console = sym (ap (λ (x : Process). x.console) c.living-process.ensures) in
    let said = λ (string : List ℕ). byte_said call string c.args.p c.args.self.now _ _ (sym view ∙ c.in-4.is) at what in
    let P : SystemChange → Type 0 = λ change. record c.args.self.now { kernel = c.write_bytes.new.kernel } ≡ change.system in
    λ string. record {
      system = on_ok c.write_bytes.result (subst P (sym (said string)) (ap (λ (k : Kernel). record c.args.self.now { kernel = k }) c.write_bytes.ensures.kernel));
      wrote = emits_as by_sink _ _ _ _ _ (sym (said string)) c.write_bytes.ensures.wrote;
    }

pub returns-in-6 : goal.returns-in-6
returns-in-6 g c =
    let call = call_of c.args.self.now.kernel.dispatcher.procs c.args.p in
    let view : c.call.inside.function ≡ call.function = ap (λ (x : Taken). x.function) (c.call.view_is ∙ c.kept_call-call.ensures) in
    let what : call.word % 256 ≡ c.call.inside.word % 256 = sym (ap (λ (x : Taken). x.word % 256) (c.call.view_is ∙ c.kept_call-call.ensures)) in
    let at : (process_in c.args.self.now.kernel.dispatcher.procs c.args.p).console ≡ c.living-process.result.now.console = sym (ap (λ (x : Process). x.console) c.living-process.ensures) in
    let said = λ (string : List ℕ). directly_said call string c.args.p c.args.self.now _ _ (sym view ∙ c.in-6.is) (omega (arith, c.if-byte-lt-AWAIT_KEY.true)) at what in
    let P : SystemChange → Type 0 = λ change. record c.args.self.now { kernel = c.write_bytes-in-6.new.kernel } ≡ change.system in
    λ string. record {
      system = on_ok c.write_bytes-in-6.result (subst P (sym (said string)) (ap (λ (k : Kernel). record c.args.self.now { kernel = k }) c.write_bytes-in-6.ensures.kernel));
      wrote = emits_as by_sink _ _ _ _ _ (sym (said string)) c.write_bytes-in-6.ensures.wrote;
    }

pub returns-in_default : goal.returns-in_default
returns-in_default g c =
    let call = call_of c.args.self.now.kernel.dispatcher.procs c.args.p in
    let view : c.call.inside.function ≡ call.function = ap (λ (x : Taken). x.function) (c.call.view_is ∙ c.kept_call-call.ensures) in
    let nothing = λ (string : List ℕ). says_nothing call string c.args.p c.args.self.now (record {
      two = λ e. omega (arith, view, c.in-5.is, e);
      four = λ e. omega (arith, view, c.in-5.is, e);
      nine = c.requires.byte;
      prints = λ e. omega (arith, c.printers.ensures, c.if-printers-gt0.false);
      direct = λ e. absurd (omega (arith, view, c.in-5.is, e));
    }) in
    λ string. record {
      system = sym (ap (λ (change : SystemChange). change.system) (nothing string));
      wrote = emits_silent by_sink _ _ _ _ (nothing string);
    }

pub returns-in_default-2 : goal.returns-in_default-2
returns-in_default-2 g c =
    let call = call_of c.args.self.now.kernel.dispatcher.procs c.args.p in
    let view : c.call.inside.function ≡ call.function = ap (λ (x : Taken). x.function) (c.call.view_is ∙ c.kept_call-call.ensures) in
    let what : call.word % 256 ≡ c.call.inside.word % 256 = sym (ap (λ (x : Taken). x.word % 256) (c.call.view_is ∙ c.kept_call-call.ensures)) in
    let nothing = λ (string : List ℕ). says_nothing call string c.args.p c.args.self.now (record {
      two = λ e. omega (arith, view, c.in-6.is, e);
      four = λ e. omega (arith, view, c.in-6.is, e);
      nine = c.requires.byte;
      prints = λ e. absurd (omega (arith, view, c.in-6.is, e));
      direct = λ e. omega (arith, what, c.if-byte-lt-AWAIT_KEY.false);
    }) in
    λ string. record {
      system = sym (ap (λ (change : SystemChange). change.system) (nothing string));
      wrote = emits_silent by_sink _ _ _ _ (nothing string);
    }

pub returns-in_default-3 : goal.returns-in_default-3
returns-in_default-3 g c =
    let call = call_of c.args.self.now.kernel.dispatcher.procs c.args.p in
    let view : c.call.inside.function ≡ call.function = ap (λ (x : Taken). x.function) (c.call.view_is ∙ c.kept_call-call.ensures) in
    let nothing = λ (string : List ℕ). says_nothing call string c.args.p c.args.self.now (record {
      two = λ e. grind (arith, nat_tests, view, c.in_default, e);
      four = λ e. grind (arith, nat_tests, view, c.in_default, e);
      nine = c.requires.byte;
      prints = λ e. absurd (grind (arith, nat_tests, view, c.in_default, e));
      direct = λ e. absurd (grind (arith, nat_tests, view, c.in_default, e));
    }) in
    λ string. record {
      system = sym (ap (λ (change : SystemChange). change.system) (nothing string));
      wrote = emits_silent by_sink _ _ _ _ (nothing string);
    }

pub returns-in-5 : goal.returns-in-5
returns-in-5 g c =
    let call = call_of c.args.self.now.kernel.dispatcher.procs c.args.p in
    let view : c.call.inside.function ≡ call.function = ap (λ (x : Taken). x.function) (c.call.view_is ∙ c.kept_call-call.ensures) in
    let what : call.word % 256 ≡ c.call.inside.word % 256 = sym (ap (λ (x : Taken). x.word % 256) (c.call.view_is ∙ c.kept_call-call.ensures)) in
    let at : (process_in c.args.self.now.kernel.dispatcher.procs c.args.p).printer ≡ c.living-process.result.now.printer = sym (ap (λ (x : Process). x.printer) c.living-process.ensures) in
    let said = λ (string : List ℕ). byte_printed call string c.args.p c.args.self.now _ _ (sym view ∙ c.in-5.is) (omega (arith, c.printers.ensures, c.if-printers-gt0.true)) at what in
    let P : SystemChange → Type 0 = λ change. c.args.self.now ≡ change.system in
    λ string. record {
      system = on_ok c.put.result (subst P (sym (said string)) refl);
      wrote = emits_as by_sink _ _ _ _ _ (sym (said string))
          (emits_one c.put.result _ _ _ c.put.ensures.text.cause c.put.ensures.trace c.put.ensures.shown.ok c.put.ensures.shown.err);
    }
