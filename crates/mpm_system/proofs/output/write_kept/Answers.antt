use Rattle.std.proofs.Common.{rules, ◌≡◌, ◌∙◌, ℕ, ◌+◌, ◌≤◌, List, [], ◌∷◌, ◌++◌, take, drop, get_or, length, sym, ap, subst, arith, append_assoc}
use Rattle.std.proofs.lemmas.List.{take_more, take-append-drop}
use Rattle.mpm_base.specs.Calls.{Taken}
use Rattle.mpm_procs.specs.Table.{call_of}
use Rattle.mpm_kernel.specs.Kernel.{Kernel, IsConsole}
use Rattle.mpm_kernel.proofs.SpokeLaws.{has_spoke}
use Rattle.mpm_output.specs.Outside.{seen}
use Rattle.mpm_output.proofs.WritingLaws.{passes_on}
use Rattle.mpm_system.proofs.StringLaws.{WrittenTo, written_nothing, written_more, stopped_string}
use Rattle.mpm_system.proofs.TextLaws.{lives_after_text, call_after_text}
use Rattle.mpm_system.proofs.output.write_kept.Goals as goal

pub loop-place-init : goal.loop-place-init
loop-place-init g c = record { written = written_nothing c.args.console _ _ }

pub kept_call-requires-in-loop-place : goal.kept_call-requires-in-loop-place
kept_call-requires-in-loop-place g c =
    lives_after_text c.args.kernel.now c.loop-place.kernel c.args.console c.args.p _ c.requires.lives c.loop-place.invariant.written.kernel_is

pub write_tabbed-requires : goal.write_tabbed-requires
write_tabbed-requires g c =
    let P : Kernel → Type 0 = λ kernel. IsConsole kernel c.args.console in
    record {
      console = c.requires.console.console;
      exists = subst P (sym c.loop-place.invariant.written.kernel_is) (has_spoke c.args.kernel.now c.args.console _ c.requires.console.exists);
    }

pub returns-in_err-write_tabbed : goal.returns-in_err-write_tabbed
returns-in_err-write_tabbed g c =
    let bytes = (call_of c.args.kernel.now.dispatcher.procs c.args.p).bytes in
    let k = c.loop-place.place in
    let byte = get_or bytes k 0 in
    let same = call_after_text c.args.kernel.now c.loop-place.kernel c.args.console c.args.p _ c.loop-place.invariant.written.kernel_is in
    let here : c.byte-byte.result ≡ byte =
    c.byte-byte.ensures ∙ ap (λ (call : Taken). get_or call.bytes k 0) (c.kept_call-in-loop-place.ensures ∙ same) in
    let below : k + 1 ≤ length bytes = omega (arith, c.loop-place-test.true, ap (λ (l : List ℕ). length l) (c.taken-place-end.ensures ∙ ap (λ (call : Taken). call.bytes) c.kept_call.ensures)) in
    let more : take (k + 1) bytes ≡ take k bytes ++ (byte ∷ []) = take_more bytes k 0 (omega (arith, below)) in
    let whole : bytes ≡ take k bytes ++ (c.byte-byte.result ∷ drop (k + 1) bytes) =
    sym (take-append-drop (k + 1) bytes) ∙ (ap (λ t. t ++ drop (k + 1) bytes) more ∙ append_assoc (take k bytes) (byte ∷ []) (drop (k + 1) bytes))
    ∙ ap (λ b. take k bytes ++ (b ∷ drop (k + 1) bytes)) (sym here) in
    record {
      kernel = search rules;
      wrote = passes_on _ _ _ _ c.from_residual.ensures.0
          (stopped_string c.args.console c.byte-byte.result c.args.kernel.now c.loop-place.kernel _ _ _ (take k bytes) (drop (k + 1) bytes) bytes whole
          c.requires.console.exists c.loop-place.invariant.written c.in_err-write_tabbed.ensures.wrote.err);
    }

pub loop-place-preserved : goal.loop-place-preserved
loop-place-preserved g c =
    let bytes = (call_of c.args.kernel.now.dispatcher.procs c.args.p).bytes in
    let k = c.loop-place.place in
    let byte = get_or bytes k 0 in
    let same = call_after_text c.args.kernel.now c.loop-place.kernel c.args.console c.args.p _ c.loop-place.invariant.written.kernel_is in
    let here : c.byte-byte.result ≡ byte =
    c.byte-byte.ensures ∙ ap (λ (call : Taken). get_or call.bytes k 0) (c.kept_call-in-loop-place.ensures ∙ same) in
    let below : k + 1 ≤ length bytes = omega (arith, c.loop-place-test.true, ap (λ (l : List ℕ). length l) (c.taken-place-end.ensures ∙ ap (λ (call : Taken). call.bytes) c.kept_call.ensures)) in
    let more : take (k + 1) bytes ≡ take k bytes ++ (c.byte-byte.result ∷ []) = take_more bytes k 0 (omega (arith, below)) ∙ ap (λ b. take k bytes ++ (b ∷ [])) (sym here) in
    let W : List ℕ → Type 0 = λ text. WrittenTo c.args.console c.args.kernel.now c.write_tabbed.new.kernel
    (seen g.S.Sink.written g.S.Sink.faults c.args.render.now c.args.sink.now)
    (seen g.S.Sink.written g.S.Sink.faults c.write_tabbed.new.render c.write_tabbed.new.sink) text in
    record {
      written = subst W (sym more)
          (written_more c.args.console c.byte-byte.result c.args.kernel.now c.loop-place.kernel _ _ _ _ (take k bytes) c.requires.console.exists
          c.loop-place.invariant.written c.in_ok-write_tabbed.ensures.kernel c.in_ok-write_tabbed.ensures.wrote.ok);
    }
