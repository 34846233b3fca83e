use Rattle.std.proofs.Common.{◌≡◌, ◌+◌, ◌∙◌, ◌++◌, ◌∷◌, [], take, get_or, sym, ap, subst, arith}
use Rattle.std.proofs.lemmas.List.{take_more}
use Rattle.mpm_kernel.specs.Kernel.{Kernel, IsConsole}
use Rattle.mpm_kernel.specs.Columns.{spoke}
use Rattle.mpm_kernel.proofs.SpokeLaws.{spoke_none, spoke_both, has_spoke, wrote_itself}
use Rattle.mpm_system.proofs.output.move_column.Goals as goal

pub loop-byte-init : goal.loop-byte-init
loop-byte-init c = sym (spoke_none c.args.kernel.now c.args.console)

pub write-itself-requires : goal.write-itself-requires
write-itself-requires c =
    let P : Kernel → Type 0 = λ kernel. IsConsole kernel c.args.console in
    subst P (sym c.loop-byte.invariant) (has_spoke c.args.kernel.now c.args.console _ c.requires.exists)

pub loop-byte-preserved : goal.loop-byte-preserved
loop-byte-preserved c =
    let i = c.loop-byte.byte-index in
    let bytes = c.args.bytes.now in
    let byte = get_or bytes i 0 in
    let more : take (i + 1) bytes ≡ take i bytes ++ (byte ∷ []) = take_more bytes i 0 (omega arith) in
    c.write-itself.ensures.kernel
    ∙ wrote_itself c.loop-byte.kernel c.args.console byte
    ∙ ap (λ k. spoke k c.args.console (byte ∷ [])) c.loop-byte.invariant
    ∙ spoke_both c.args.kernel.now c.args.console (take i bytes) (byte ∷ []) c.requires.exists
    ∙ ap (spoke c.args.kernel.now c.args.console) (sym more)
