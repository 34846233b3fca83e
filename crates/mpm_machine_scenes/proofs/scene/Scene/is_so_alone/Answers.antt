use Rattle.std.proofs.Common.{sym, subst}
use Rattle.mpm_machine.specs.Parts.{IsBetweenSteps}
use Rattle.mpm_port.specs.MemoryDisks.{disks_of}
use Rattle.mpm_machine.proofs.MountedLaws.{holds_nothing}
use Rattle.mpm_machine.specs.declared.machine.Machine.{Machine}
use Rattle.mpm_machine_scenes.proofs.scene.Scene.is_so_alone.Goals as goal

pub is_seen-requires-clause-between : goal.is_seen-requires-clause-between
is_seen-requires-clause-between c =
    let program = c.in-Ok.ensures.program in
    subst (λ (m : Machine). IsBetweenSteps disks_of m c.new-drives.result) (sym c.deref_mut.ensures.value) (record {
      whole = program.whole;
      no_completions = program.no_completions;
      holds = holds_nothing disks_of c.in-Ok.machine.value.system.kernel 0 c.in-Ok.machine.value.bdos c.new-drives.result program.disk program.bdos;
    })
