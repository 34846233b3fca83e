use Rattle.std.proofs.Common.{rules, ◌≡◌, ◌∙◌, ℕ, ◌+◌, ◌-◌, true, false, List, [], ◌∷◌, ◌++◌, ap, sym, subst, arith}
use Rattle.std.proofs.lemmas.Bool.Decides.{nat_tests}
use Rattle.z80_regs.specs.Words.{onward}
use Rattle.mpm_banks.specs.Memory.{byte_at}
use Rattle.mpm_gate.specs.Bytes.{bytes_from}
use Rattle.mpm_gate.specs.Texts.{text_from, ends}
use Rattle.mpm_gate.specs.declared.take.TextEnd.TheVariants.{Dollar}
use Rattle.mpm_gate.proofs.BytesLaws.{bytes_none, bytes_more}
use Rattle.mpm_gate.proofs.TextLaws.{text_none, text_more, text_stops}
use Rattle.mpm_kernel.specs.Kernel.{Kernel, IsConsole}
use Rattle.mpm_kernel.proofs.SpokeLaws.{has_spoke}
use Rattle.mpm_kernel.specs.Columns.{spoke, expanded, column_of}
use Rattle.mpm_output.specs.Outside.{seen}
use Rattle.mpm_output.specs.Writing.{spoken, CameOut}
use Rattle.mpm_output.proofs.WritingLaws.{passes_on}
use Rattle.mpm_system.proofs.StringLaws.{WrittenTo, written_nothing, written_more, stopped_string, string_goes_on}
use Rattle.mpm_system.proofs.output.write_string.Goals as goal

pub loop-offset-init : goal.loop-offset-init
loop-offset-init g c =
    let memory = byte_at c.args.banks.now c.args.seg in
    let here = seen g.S.Sink.written g.S.Sink.faults c.args.render.now c.args.sink.now in
    let W : List ℕ → Type 0 = λ part. WrittenTo c.args.console c.args.kernel.now c.args.kernel.now here here part in
    record {
      goes_on = text_none Dollar memory c.args.address;
      written = subst W (sym (bytes_none memory c.args.address)) (written_nothing c.args.console _ _);
    }

pub write_tabbed-requires : goal.write_tabbed-requires
write_tabbed-requires g c =
    let P : Kernel → Type 0 = λ kernel. IsConsole kernel c.args.console in
    record {
      console = c.requires.console;
      exists = subst P (sym c.loop-offset.invariant.written.kernel_is) (has_spoke c.args.kernel.now c.args.console _ c.requires.exists);
    }

pub loop-offset-preserved : goal.loop-offset-preserved
loop-offset-preserved g c =
    let memory = byte_at c.args.banks.now c.args.seg in
    let k = c.loop-offset.offset in
    let byte = c.byte-byte.result in
    let part = bytes_from memory c.args.address k in
    let here : byte ≡ memory (onward c.args.address k) = c.byte-byte.ensures ∙ ap memory (omega arith) in
    let goes : ends Dollar byte ≡ false = grind (arith, nat_tests, c.if-byte-eq36.false) in
    let more : bytes_from memory c.args.address (k + 1) ≡ part ++ (byte ∷ []) =
    bytes_more memory c.args.address k ∙ ap (λ b. part ++ (b ∷ [])) (sym here) in
    let W : List ℕ → Type 0 = λ text. WrittenTo c.args.console c.args.kernel.now c.write_tabbed.new.kernel
    (seen g.S.Sink.written g.S.Sink.faults c.args.render.now c.args.sink.now)
    (seen g.S.Sink.written g.S.Sink.faults c.write_tabbed.new.render c.write_tabbed.new.sink) text in
    record {
      goes_on = text_more Dollar memory c.args.address k byte c.loop-offset.invariant.goes_on here goes;
      written = subst W (sym more)
          (written_more c.args.console byte c.args.kernel.now c.loop-offset.kernel _ _ _ _ part c.requires.exists c.loop-offset.invariant.written
          c.in_ok-write_tabbed.ensures.kernel c.in_ok-write_tabbed.ensures.wrote.ok);
    }

pub returns-in_err-write_tabbed : goal.returns-in_err-write_tabbed
returns-in_err-write_tabbed g c =
    let memory = byte_at c.args.banks.now c.args.seg in
    let k = c.loop-offset.offset in
    let byte = c.byte-byte.result in
    let part = bytes_from memory c.args.address k in
    let here : byte ≡ memory (onward c.args.address k) = c.byte-byte.ensures ∙ ap memory (omega arith) in
    let goes : ends Dollar byte ≡ false = grind (arith, nat_tests, c.if-byte-eq36.false) in
    record {
      kernel = search rules;
      wrote = passes_on _ _ _ _ c.from_residual.ensures.0
          (stopped_string c.args.console byte c.args.kernel.now c.loop-offset.kernel _ _ _ part
          (text_from Dollar memory (onward c.args.address (k + 1)) (65535 - k)) (text_from Dollar memory c.args.address 65536)
          (string_goes_on memory c.args.address k byte c.loop-offset.invariant.goes_on here goes (omega arith))
          c.requires.exists c.loop-offset.invariant.written c.in_err-write_tabbed.ensures.wrote.err);
    }

pub returns-then-byte-eq36 : goal.returns-then-byte-eq36
returns-then-byte-eq36 g c =
    let memory = byte_at c.args.banks.now c.args.seg in
    let k = c.loop-offset.offset in
    let byte = c.byte-byte.result in
    let here : byte ≡ memory (onward c.args.address k) = c.byte-byte.ensures ∙ ap memory (omega arith) in
    let stops : ends Dollar byte ≡ true = grind (arith, nat_tests, c.if-byte-eq36.true) in
    let whole = text_stops Dollar memory c.args.address k 65536 byte c.loop-offset.invariant.goes_on (omega arith) here stops in
    let P : List ℕ → Type 0 = λ text. CameOut (seen g.S.Sink.written g.S.Sink.faults c.args.render.now c.args.sink.now)
    (seen g.S.Sink.written g.S.Sink.faults c.loop-offset.render c.loop-offset.sink)
    (spoken c.args.console (expanded (column_of c.args.kernel.now c.args.console) text)) in
    record {
      kernel = c.loop-offset.invariant.written.kernel_is
          ∙ ap (λ text. spoke c.args.kernel.now c.args.console (expanded (column_of c.args.kernel.now c.args.console) text)) (sym whole);
      wrote = record { ok = subst P (sym whole) c.loop-offset.invariant.written.wrote; err = tt };
    }
