use Rattle.std.proofs.Common.{◌∙◌, ap, sym, subst, length}
use Rattle.mpm_service.specs.Disk.{no_service}
use Rattle.mpm_machine_file.specs.declared.machine_file.MachineFile.{MachineFile}
use Rattle.mpm_bdos.specs.Serving.{nothing_kept}
use Rattle.mpm_directories.specs.Places.{in_places}
use Rattle.mpm_system.specs.declared.system.System.{System}
use Rattle.mpm_system.specs.Opening.{MayPlace}
use Rattle.mpm_system.proofs.PlacedLaws.{booted_program, may_place_program, opening_is}
use Rattle.mpm_machine.specs.declared.machine.Machine.{Machine}
use Rattle.mpm_machine.proofs.SettlingLaws.{nobody_yet}
use Rattle.mpm_machine.proofs.FirstFiles.{opens_on_none}
use Rattle.mpm_machine.proofs.machine.Machine.boot_program.Goals as goal

pub place-p-requires : goal.place-p-requires
place-p-requires c =
    let P : System → Type 0 = λ system. MayPlace system 0 0 (length c.args.program.now) in
    let is = booted_program c.in-Ok.file c.empty.result c.in-Ok-bare.machine.value.system c.in-Ok-bare.ensures.booted c.in-Ok.ensures c.empty.ensures in
    subst P (sym (ap (λ (m : Machine). m.system) c.deref_mut.ensures.value ∙ is)) (may_place_program (length c.args.program.now) c.requires)

pub returns : goal.returns
returns c = record {
  program = let boots = ap (λ (m : Machine). m.system) c.deref_mut.ensures.value ∙ booted_program c.in-Ok.file c.empty.result c.in-Ok-bare.machine.value.system c.in-Ok-bare.ensures.booted c.in-Ok.ensures c.empty.ensures in
      let idle = c.place-p.ensures.disk ∙ ap (λ (m : Machine). m.system.kernel.disk) c.deref_mut.ensures.value ∙ c.in-Ok-bare.ensures.disk ∙ ap (λ (file : MachineFile). no_service file.disk_turn) c.in-Ok.ensures in
      let nothing = c.place-p.ensures.bdos ∙ ap (λ (m : Machine). m.bdos) c.deref_mut.ensures.value ∙ c.in-Ok-bare.ensures.bdos ∙ ap (λ items. nothing_kept (in_places items)) c.new.ensures.items in
      record {
        opening = opening_is c.args.program.now c.place-p.result c.place-p.new.self.system c.deref_mut.result.now.system boots c.place-p.ensures.slot c.place-p.ensures.system;
        start = c.place-p.ensures.bare.start;
        whole = c.place-p.ensures.bare.whole;
        no_completions = c.place-p.ensures.bare.no_completions;
        disk = idle;
        bdos = nothing;
        files = λ disks. opens_on_none disks c.place-p.new.self.system.kernel.disk c.place-p.new.self.bdos nothing (nobody_yet c.place-p.new.self.system.kernel.disk 0 idle);
      };
  memory = tt;
}
