use Rattle.std.proofs.Common.{ap, ◌∙◌}
use Rattle.mpm_mount.specs.Files.{is_file}
use Rattle.mpm_files.proofs.FoundEntries.{is_other}
use Rattle.mpm_files.proofs.lookups.file_at.Goals as goal

pub unreachable-requires : goal.unreachable-requires
unreachable-requires c = is_other _ (ap is_file c.entry.ensures.entry ∙ c.requires.was) c.in_default.not-File
