use Rattle.mpm_dirent.specs.Names.{plain}
use Rattle.mpm_file_entries.proofs.Told.{told_stands}
use Rattle.mpm_file_entries.proofs.telling.found_bytes.Goals as goal

pub returns : goal.returns
returns c = λ image drive stands.
    told_stands image c.args.mounted.now drive (record { user = c.args.user; name = plain c.args.name.now }) c.args.extent c.told_in.result stands c.told_in.ensures
