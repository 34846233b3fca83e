use Rattle.std.proofs.Common.{rules, ◌≡◌, true, false, nat_lt, ◌∙◌, arith}
use Rattle.std.proofs.lemmas.Bool.Decides.{nat_tests}
use Rattle.mpm_dirent.specs.declared.kinds.Entry.TheVariants.{File}
use Rattle.mpm_mount.specs.Faults as spec
use Rattle.mpm_mount.proofs.UsedBlocks.{flipped, kept_flip}
use Rattle.mpm_mount.proofs.UsedBy.{size_used, used_behind, cause_taken, cause_later}
use Rattle.mpm_mount.proofs.faults.file_cause.Goals as goal

pub claim_all-requires : goal.claim_all-requires
claim_all-requires c = record {
  of_kind = c.requires.of_kind;
  size = size_used c.args.kind c.args.earlier.now c.args.blocks.now c.requires;
  inside = search rules;
}

pub returns-then-not-claim_all-clause-cause : goal.returns-then-not-claim_all-clause-cause
returns-then-not-claim_all-clause-cause c =
    let few : nat_lt 128 c.args.file.now.rc ≡ false = grind (arith, nat_tests) in
    let inside : spec.some_place c.args.kind (spec.is_outside c.args.kind c.args.file.now) ≡ false = search rules in
    let off : c.claim_all.result ≡ false = search rules in
    cause_taken c.args.kind c.args.earlier.now c.args.file.now c.args.blocks.now c.requires few inside (flipped c.claim_all.result _ c.claim_all.ensures.answer off)

pub returns-clause-cause : goal.returns-clause-cause
returns-clause-cause c =
    let few : nat_lt 128 c.args.file.now.rc ≡ false = grind (arith, nat_tests) in
    let inside : spec.some_place c.args.kind (spec.is_outside c.args.kind c.args.file.now) ≡ false = search rules in
    let on : c.claim_all.result ≡ true = search rules in
    c.name_cause.ensures
    ∙ cause_later c.args.kind c.args.earlier.now c.args.file.now c.args.blocks.now c.requires few inside (kept_flip c.claim_all.result _ c.claim_all.ensures.answer on)

pub returns-clause-used : goal.returns-clause-used
returns-clause-used c = λ _. used_behind c.args.kind c.args.earlier.now (File c.args.file.now) c.args.blocks.now _ c.requires c.claim_all.ensures.claims
