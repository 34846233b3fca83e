use Rattle.std.proofs.Common.{◌∙◌, ap, arith}
use Rattle.mpm_banks.specs.Allocations.{new_memory}
use Rattle.mpm_kernel.specs.Kernel.{Kernel, new_kernel}
use Rattle.mpm_kernel.specs.Disk.{in_turns}
use Rattle.mpm_system.proofs.SizeLaws.{memory_new}
use Rattle.mpm_system.proofs.PlacedLaws.{booted_is, booted_bare}
use Rattle.mpm_system.proofs.system.System.bare.Goals as goal

pub returns : goal.returns
returns c =
    let is = booted_is c.args.file.now c.args.script c.new-3.result c.set_disk_turn.new.self c.in_ok-memory.memory c.in_ok-residents.residents c.new-4.result c.new-5.result c.new-3.ensures.interrupts
    (c.set_disk_turn.ensures.kernel ∙ ap (in_turns c.args.file.now.disk_turn) (c.in_ok-kernel.ensures.kernel ∙ ap (new_kernel c.args.file.now.consoles c.args.file.now.printers) c.moment_of.ensures))
    (c.in_ok-memory.ensures ∙ ap new_memory c.as_slice.ensures) c.in_ok-residents.ensures c.new-4.ensures c.new-5.ensures in
    record {
      booted = is;
      bare = booted_bare c.args.file.now c.args.script _ c.requires.some_console c.requires.consoles c.requires.printers (omega (arith, c.requires.segments)) c.new-3.ensures.script
          (memory_new c.args.file.now.segments c.requires.some_segment c.requires.segments c.requires.each_segment) is;
      disk = ap (λ (k : Kernel). k.disk) c.set_disk_turn.ensures.kernel;
    }
