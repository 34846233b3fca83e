use Rattle.std.proofs.Common.{◌≡◌, ◌+◌, ◌∙◌, ◌++◌, ◌∷◌, [], take, drop, get_or, sym, ap, arith, append_assoc}
use Rattle.std.proofs.lemmas.List.{take_more, take-append-drop}
use Rattle.mpm_output.proofs.WritingLaws.{spoke_nothing, spoke_more, stopped_more, emits_one, emits_byte, passes_on}
use Rattle.mpm_output.proofs.console.put_bytes.Goals as goal

pub loop-byte-init : goal.loop-byte-init
loop-byte-init g c = record { wrote = spoke_nothing c.args.console _ }

pub loop-byte-preserved : goal.loop-byte-preserved
loop-byte-preserved g c =
    let i = c.loop-byte.byte-index in
    let bytes = c.args.bytes.now in
    let byte = get_or bytes i 0 in
    let more : take (i + 1) bytes ≡ take i bytes ++ (byte ∷ []) = take_more bytes i 0 (omega arith) in
    let put = emits_byte _ c.args.console byte _ _
    (emits_one _ _ _ _ c.in_ok-put.ensures.text.cause c.in_ok-put.ensures.trace c.in_ok-put.ensures.shown.ok c.in_ok-put.ensures.shown.err) in
    record { wrote = spoke_more c.args.console _ _ _ (take i bytes) (byte ∷ []) _ more c.loop-byte.invariant.wrote put.ok }

pub returns-in_err-put : goal.returns-in_err-put
returns-in_err-put g c =
    let i = c.loop-byte.byte-index in
    let bytes = c.args.bytes.now in
    let byte = get_or bytes i 0 in
    let more : take (i + 1) bytes ≡ take i bytes ++ (byte ∷ []) = take_more bytes i 0 (omega arith) in
    let whole : bytes ≡ take i bytes ++ ((byte ∷ []) ++ drop (i + 1) bytes) =
    sym (take-append-drop (i + 1) bytes) ∙ (ap (λ t. t ++ drop (i + 1) bytes) more ∙ append_assoc (take i bytes) (byte ∷ []) (drop (i + 1) bytes)) in
    let put = emits_byte _ c.args.console byte _ _
    (emits_one _ _ _ _ c.in_err-put.ensures.text.cause c.in_err-put.ensures.trace c.in_err-put.ensures.shown.ok c.in_err-put.ensures.shown.err) in
    record {
      wrote = passes_on _ _ _ _ c.from_residual.ensures.0
          (stopped_more c.args.console _ _ _ (take i bytes) (byte ∷ []) (drop (i + 1) bytes) bytes whole c.loop-byte.invariant.wrote put.err);
    }
