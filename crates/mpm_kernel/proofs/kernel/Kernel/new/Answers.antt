use Rattle.std.proofs.Common.{rules}
use Rattle.mpm_kernel.specs.Kernel.{new_kernel}
use Rattle.mpm_kernel.proofs.EnsuredLaws.{sound_if_new}
use Rattle.mpm_kernel.proofs.kernel.Kernel.new.Goals as goal

pub returns : goal.returns
unfolding new_kernel
returns c = record {
  kernel = search rules;
  sound = sound_if_new _ c.args.consoles c.args.printers c.args.now c.requires.some c.requires.few c.requires.printers (search rules);
}
