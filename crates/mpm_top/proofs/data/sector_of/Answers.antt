use Rattle.std.proofs.Common.{◌∙◌, ◌<◌, ℕ, Option, sym, ap, subst}
use Rattle.std.specs.Prelude.{IfSome, option_map}
use Rattle.std.proofs.lemmas.Bool.{false≢true}
use Rattle.mpm_port.specs.Disks.{sector_of}
use Rattle.mpm_top.proofs.DataLaws.{visible_found, visible_missing, file_found, within_disk}
use Rattle.mpm_top.proofs.data.sector_of.Goals as goal

pub returns-in-File-clause-record : goal.returns-in-File-clause-record
returns-in-File-clause-record c image files stands =
    visible_found image c.args.mounted.now files c.args.place c.in-Some.slot c.in-File.file c.requires.kind c.requires.place stands (sym c.extent.ensures ∙ c.in-Some.is)
    (sym c.entry.ensures.entry ∙ c.in-File.is)
    ∙ ap (option_map (sector_of image)) (sym c.sector_in.ensures)

pub returns-in-File-clause-within : goal.returns-in-File-clause-within
returns-in-File-clause-within c =
    subst (λ (found : Option ℕ). IfSome found (λ sector. sector < 32768)) (sym c.sector_in.ensures)
    (within_disk c.args.mounted.now c.args.place c.in-Some.slot c.in-File.file c.requires.kind c.requires.place c.recall_directory.ensures.full c.recall_directory.ensures.faultless
    (sym c.extent.ensures ∙ c.in-Some.is) (sym c.entry.ensures.entry ∙ c.in-File.is))

pub returns-in-Free-clause-record : goal.returns-in-Free-clause-record
returns-in-Free-clause-record c image files stands =
    absurd (false≢true (file_found image c.args.mounted.now files c.in-Some.slot _ stands (sym c.extent.ensures ∙ c.in-Some.is) (sym c.entry.ensures.entry ∙ c.in-Free.is)))

pub returns-in-Xfcb-clause-record : goal.returns-in-Xfcb-clause-record
returns-in-Xfcb-clause-record c image files stands =
    absurd (false≢true (file_found image c.args.mounted.now files c.in-Some.slot _ stands (sym c.extent.ensures ∙ c.in-Some.is) (sym c.entry.ensures.entry ∙ c.in-Xfcb.is)))

pub returns-in-Label-clause-record : goal.returns-in-Label-clause-record
returns-in-Label-clause-record c image files stands =
    absurd (false≢true (file_found image c.args.mounted.now files c.in-Some.slot _ stands (sym c.extent.ensures ∙ c.in-Some.is) (sym c.entry.ensures.entry ∙ c.in-Label.is)))

pub returns-in-Kept-clause-record : goal.returns-in-Kept-clause-record
returns-in-Kept-clause-record c image files stands =
    absurd (false≢true (file_found image c.args.mounted.now files c.in-Some.slot _ stands (sym c.extent.ensures ∙ c.in-Some.is) (sym c.entry.ensures.entry ∙ c.in-Kept.is)))

pub returns-in-None-clause-record : goal.returns-in-None-clause-record
returns-in-None-clause-record c image files stands =
    visible_missing image c.args.mounted.now files c.args.place c.requires.kind c.requires.place stands (sym c.extent.ensures ∙ c.in-None.is)
