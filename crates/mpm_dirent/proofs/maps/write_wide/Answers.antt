use Rattle.std.proofs.Common.{◌∙◌}
use Rattle.mpm_dirent.specs.Entries.{map_of}
use Rattle.mpm_dirent.proofs.Numbers.{words_written}
use Rattle.mpm_dirent.proofs.maps.write_wide.Goals as goal

pub returns : goal.returns
unfolding map_of
returns c = c.write_u16_into.ensures ∙ words_written 8 c.args.blocks.now c.fits-blocks
