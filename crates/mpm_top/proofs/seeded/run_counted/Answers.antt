use Rattle.std.proofs.Common.{◌≡◌, ◌∙◌, ◌++◌, Bool, subst, arith}
use Rattle.mpm_port.specs.MemoryDisks.{disks_of}
use Rattle.mpm_render.specs.Outputs.{closed}
use Rattle.mpm_machine.specs.After.{after}
use Rattle.mpm_machine.specs.Settling.{carried}
use Rattle.mpm_machine.proofs.SettlingLaws.{settled_stand}
use Rattle.mpm_top.specs.Beginnings.{begun}
use Rattle.mpm_top.specs.Runs.{drives_left}
use Rattle.mpm_top.proofs.RunLaws.{stands_first}
use Rattle.mpm_top.proofs.DataLaws.{has_drive_a}
use Rattle.mpm_top.proofs.SeedLaws.{none_failed}
use Rattle.mpm_top.proofs.seeded.run_counted.Goals as goal

pub run-requires : goal.run-requires
run-requires g c =
    let begins = c.requires.begins in
    record { most = omega (arith, c.requires.limit, begins.start); between = begins.between }

pub unreachable-requires : goal.unreachable-requires
unreachable-requires g c = none_failed c.in-Err.field-0.fault c.in-Err.ensures.ends.cause.failed

pub unreachable-requires-in-Err-settle : goal.unreachable-requires-in-Err-settle
unreachable-requires-in-Err-settle g c = none_failed c.in-Err-settle.field-0 c.in-Err-settle.ensures.ends.cause.failed

pub returns : goal.returns
returns g c = record {
  text = λ on stand. let first = c.args.counts.now in
      let s = begun c.args.machine.now.system on in
      let stands = stands_first c.args.machine.now s.files c.new-render.result first (disks_of c.args.drives.now) (c.new-render.ensures.fresh first) stand in
      let there = after c.args.steps s in
      let traces = c.in-Ok.ensures.ends.trace ∙ c.new-render.ensures.trace in
      let P : Bool → Type 0 = λ trace. c.settle.new.sink ≡ c.args.counts.now ++ closed trace (carried there).outputs in
      subst P traces (c.in-Ok-settle.ensures.ok there first (c.in-Ok.ensures.ok s first stands)).text;
  files = λ on stand. let first = c.args.counts.now in
      let s = begun c.args.machine.now.system on in
      let disks = disks_of c.settle.new.drives in
      let stands = stands_first c.args.machine.now s.files c.new-render.result first (disks_of c.args.drives.now) (c.new-render.ensures.fresh first) stand in
      let there = after c.args.steps s in
      has_drive_a disks c.settle.new.self.bdos.mounted (drives_left there)
      (c.in-Ok-settle.ensures.keeps.labels 0 ∙ c.in-Ok.ensures.drives.keeps.labels 0 ∙ c.requires.drive)
      (settled_stand there c.settle.new.self.system.kernel.disk c.settle.new.self.bdos disks (c.in-Ok-settle.ensures.ok there first (c.in-Ok.ensures.ok s first stands)).files);
  drive = c.in-Ok-settle.ensures.keeps.labels 0 ∙ c.in-Ok.ensures.drives.keeps.labels 0 ∙ c.requires.drive;
  sizes = λ number. c.in-Ok-settle.ensures.keeps.beside.sizes number ∙ c.in-Ok.ensures.drives.keeps.beside.sizes number;
}
