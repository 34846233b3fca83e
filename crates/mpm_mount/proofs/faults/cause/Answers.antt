use Rattle.std.proofs.Common.{refl}
use Rattle.mpm_dirent.specs.declared.kinds.Entry.TheVariants.{Free, Xfcb, Label, Kept}
use Rattle.mpm_mount.proofs.UsedBy.{used_past}
use Rattle.mpm_mount.proofs.faults.cause.Goals as goal

pub returns-in-Label-clause-used : goal.returns-in-Label-clause-used
returns-in-Label-clause-used c = λ _. used_past c.args.kind c.args.earlier.now c.args.entry.now (Label c.in-Label.label) c.args.blocks.now c.in-Label.is (λ block. refl) c.requires

pub returns-in-Xfcb-clause-used : goal.returns-in-Xfcb-clause-used
returns-in-Xfcb-clause-used c = λ _. used_past c.args.kind c.args.earlier.now c.args.entry.now (Xfcb c.in-Xfcb.xfcb) c.args.blocks.now c.in-Xfcb.is (λ block. refl) c.requires

pub returns-in-Free-clause-used : goal.returns-in-Free-clause-used
returns-in-Free-clause-used c = λ _. used_past c.args.kind c.args.earlier.now c.args.entry.now Free c.args.blocks.now c.in-Free.is (λ block. refl) c.requires

pub returns-in-Kept-clause-used : goal.returns-in-Kept-clause-used
returns-in-Kept-clause-used c = λ _. used_past c.args.kind c.args.earlier.now c.args.entry.now (Kept c.in-Kept.bytes) c.args.blocks.now c.in-Kept.is (λ block. refl) c.requires
