use Rattle.mpm_files.proofs.FoundEntries.{is_other}
use Rattle.mpm_files.proofs.records.block_number.Goals as goal

pub unreachable-requires : goal.unreachable-requires
unreachable-requires c = is_other _ c.requires c.in_default.not-File
