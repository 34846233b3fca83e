use Rattle.std.proofs.Common.{sym}
use Rattle.mpm_repair.proofs.Shared.{only_files_share}
use Rattle.mpm_repair.proofs.sharing.shares_block.Goals as goal

pub returns-in_default : goal.returns-in_default
returns-in_default c = sym (only_files_share c.args.kind c.args.file.now c.args.entry.now c.in_default.not-File)
