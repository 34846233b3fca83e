use Rattle.std.proofs.Common.{◌≡◌, ◌+◌, ◌∙◌, ◌++◌, ◌∷◌, [], take, get_or, sym, ap, subst, arith}
use Rattle.std.proofs.lemmas.List.{take_more}
use Rattle.mpm_kernel.specs.Kernel.{Kernel, IsConsole}
use Rattle.mpm_kernel.specs.Columns.{spoke}
use Rattle.mpm_kernel.proofs.SpokeLaws.{spoke_none, spoke_both, wrote_itself, has_spoke}
use Rattle.mpm_kernel.proofs.kernel.Kernel.speak.Goals as goal

pub loop-byte-init : goal.loop-byte-init
loop-byte-init c = sym (spoke_none c.args.self.now c.args.console)

pub write-itself-requires : goal.write-itself-requires
write-itself-requires c =
    let P : Kernel → Type 0 = λ k. IsConsole k c.args.console in
    subst P (sym c.loop-byte.invariant) (has_spoke c.args.self.now c.args.console (take c.loop-byte.byte-index c.args.bytes.now) c.requires)

pub loop-byte-preserved : goal.loop-byte-preserved
loop-byte-preserved c =
    let i = c.loop-byte.byte-index in
    let bytes = c.args.bytes.now in
    let byte = get_or bytes i 0 in
    let more : take (i + 1) bytes ≡ take i bytes ++ (byte ∷ []) = take_more bytes i 0 (omega arith) in
    c.write-itself.ensures.kernel
    ∙ wrote_itself c.loop-byte.self c.args.console byte
    ∙ ap (λ k. spoke k c.args.console (byte ∷ [])) c.loop-byte.invariant
    ∙ spoke_both c.args.self.now c.args.console (take i bytes) (byte ∷ []) c.requires
    ∙ ap (spoke c.args.self.now c.args.console) (sym more)
