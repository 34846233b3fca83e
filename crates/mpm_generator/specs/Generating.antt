-- What is generated of a seed.
use Rattle.std.specs.Prelude.{◌≡◌}
use Rattle.mpm_port.specs.MemoryDisks.{MemoryDisks}
use Rattle.mpm_generator.specs.Machines.{machine as machine_said, script as script_said}
use Rattle.mpm_generator.specs.declared.making.Generated.{Generated}

-- the machine, what is typed at its consoles, and drives with these images
pub record IsMachineWith (disks : MemoryDisks) (generated : Generated) : Type 0 where
  pub machine : generated.machine ≡ machine_said
  pub script : generated.script ≡ script_said
  pub drives : generated.drives ≡ disks
