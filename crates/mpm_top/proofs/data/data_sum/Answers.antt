use Rattle.std.proofs.Common.{◌∙◌, sym, ap, subst}
use Rattle.std.specs.Prelude.{IfSome}
use Rattle.std.specs.Option.{option_copied}
use Rattle.mpm_mount.specs.Directories.{Stands}
use Rattle.mpm_top.proofs.DataLaws.{kind_there, none_there, summed_on}
use Rattle.mpm_top.proofs.data.data_sum.Goals as goal

pub sum_of-requires-clause-kind : goal.sum_of-requires-clause-kind
sum_of-requires-clause-kind c = kind_there _ c.in-Some.mounted.now (sym (ap option_copied c.in-Some.is) ∙ c.directory.ensures) c.requires.drive

pub unreachable-requires : goal.unreachable-requires
unreachable-requires c = none_there _ (sym (ap option_copied c.in-None.is) ∙ c.directory.ensures) c.requires.drive

pub returns : goal.returns
returns c on has =
    let there = sym c.directory.ensures ∙ ap option_copied c.in-Some.is in
    c.sum_of.ensures has.image has.files has.attached (subst (λ directory. IfSome directory (λ d. Stands has.image d has.files)) there has.stands)
    ∙ summed_on on has.files has.here
