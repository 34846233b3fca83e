use Rattle.std.proofs.Common.{◌≡◌, ◌∙◌, true, sym, subst}
use Rattle.mpm_dirent.specs.declared.kinds.Entry.{Entry}
use Rattle.mpm_mount.specs.Files.{is_file}
use Rattle.mpm_files.specs.Plans.{file_of_job}
use Rattle.mpm_files.proofs.FoundEntries.{file_found}
use Rattle.mpm_files.proofs.records.lacks_block.Goals as goal

pub block_number-requires : goal.block_number-requires
block_number-requires c =
    subst (λ (entry : Entry). is_file entry ≡ true) (sym c.entry.ensures.entry)
    (file_found c.args.mounted.now (file_of_job c.args.job.now) c.args.n c.in-Some.slot c.recall_directory.ensures.full (sym c.slot_of.ensures ∙ c.in-Some.is)).was
