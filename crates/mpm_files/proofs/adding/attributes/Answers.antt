use Rattle.std.proofs.Common.{◌∙◌, ap, arith}
use Rattle.mpm_mount.specs.Drives.{extents_of}
use Rattle.mpm_mount.specs.Attributes.{attributes_where}
use Rattle.mpm_mount.specs.Files.{is_file}
use Rattle.mpm_files.specs.Plans.{file_of_job}
use Rattle.mpm_files.proofs.Placing.{lowest_attributes, no_attributes}
use Rattle.mpm_files.proofs.adding.attributes.Goals as goal

pub file_at-requires : goal.file_at-requires
file_at-requires c = record { within = omega (arith, c.in-Some.ensures.within, c.recall_directory.ensures.full); was = ap is_file c.in-Some.ensures.found.there }

pub returns-in-Some : goal.returns-in-Some
returns-in-Some c = λ image files stands.
    lowest_attributes c.args.mounted.now (extents_of files (file_of_job c.args.job.now)) c.in-Some.found.slot c.file_at.result
    (c.lowest_entry.ensures.attributes image files stands ∙ ap (attributes_where c.args.mounted.now) c.in-Some.is)
    c.file_at.ensures.entry

pub returns-in-None : goal.returns-in-None
returns-in-None c = λ image files stands.
    no_attributes (extents_of files (file_of_job c.args.job.now)) (c.lowest_entry.ensures.attributes image files stands ∙ ap (attributes_where c.args.mounted.now) c.in-None.is)
