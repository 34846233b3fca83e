use Rattle.std.proofs.Common.{◌∙◌}
use Rattle.mpm_dirent.specs.Names.{plain}
use Rattle.mpm_mount.proofs.FreeEntries.{free_entries_same}
use Rattle.mpm_refusals.proofs.Rooms.{full_so}
use Rattle.mpm_refusals.proofs.room.is_directory_full.Goals as goal

pub returns : goal.returns
returns c = λ image drive stands.
    full_so drive (record { user = c.args.user; name = plain c.args.block.now.name }) c.args.block.now c.args.function c.free_entries.result c.entries_needed.result
    (c.free_entries.ensures ∙ free_entries_same image c.args.mounted.now drive stands) (c.entries_needed.ensures image drive stands)
