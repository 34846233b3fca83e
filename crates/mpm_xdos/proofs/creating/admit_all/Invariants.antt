use Rattle.std.proofs.Common.{◌≡◌, length, take}
use Rattle.mpm_kernel.specs.Kernel.{IsSoundKernel}
use Rattle.mpm_xdos.specs.Creating.{children_of, all_admitted}
use Rattle.mpm_xdos.proofs.creating.admit_all.Given as goal

abbrev pub invariant-loop-number : goal.invariant-loop-number
invariant-loop-number l = record {
  kernel : l.kernel ≡ all_admitted (take l.number (children_of l.parent l.base l.descriptors)) l.initial.kernel;
  sound : IsSoundKernel l.kernel;
  consoles : length l.kernel.units.consoles ≡ length l.initial.kernel.units.consoles;
}
