use Rattle.std.proofs.Common.{◌∙◌, ℕ, ◌<◌, ◌≤◌, ◌+◌, ◌*◌, List, length, get_or, sym, ap, subst, arith}
use Rattle.mpm_script.specs.declared.event.Timed.{Timed}
use Rattle.mpm_machine_file.specs.declared.machine_file.MachineFile.{MachineFile}
use Rattle.mpm_machine_file.specs.MachineFiles.{IsMachine}
use Rattle.mpm_port.specs.MemoryDisks.{disks_of}
use Rattle.mpm_system.specs.declared.system.System.{System}
use Rattle.mpm_machine.specs.Holding.{HoldsDrives}
use Rattle.mpm_machine.proofs.MountedLaws.{holds_again}
use Rattle.mpm_system.specs.Opening.{booted, IsBare, MayPlace}
use Rattle.mpm_system.proofs.PlacedLaws.{may_place_booted}
use Rattle.mpm_machine.specs.declared.machine.Machine.{Machine}
use Rattle.mpm_machine_scenes.proofs.scene.Scene.is_so_in.Goals as goal
use Rattle.mpm_machine.specs.Parts.{IsBetweenSteps}

-- a program can be placed into each segment that has room for it
may_place : (file : MachineFile) (events : List Timed) (seg size : ℕ) → IsMachine file → IsBare (booted file events) → seg < length file.segments
    → size + 640 ≤ 256 * (get_or file.segments seg (record { base = 0; pages = 0 })).pages → MayPlace (booted file events) seg 0 size
unfolding booted
may_place file events seg size limits bare there room =
    may_place_booted file events seg 0 size limits.some_console limits.consoles limits.printers (omega (arith, limits.segments)) bare.whole.script
    limits.each_segment there limits.some_console room

pub place_both-placed-requires-clause-free : goal.place_both-placed-requires-clause-free
place_both-placed-requires-clause-free c =
    λ seg size there room. subst (λ (system : System). MayPlace system seg 0 size) (sym (ap (λ (m : Machine). m.system) c.deref_mut.ensures.value ∙ c.in-Ok.ensures.booted))
    (may_place c.args.file.now c.in_ok-script.script seg size c.requires (subst IsBare c.in-Ok.ensures.booted c.in-Ok.ensures.bare) there room)

-- it is between steps, whether programs were placed or not
pub is_seen-requires-clause-between : goal.is_seen-requires-clause-between
is_seen-requires-clause-between c =
    let kernel = c.place_both-placed.new.machine.system.kernel in
    let lent = c.deref_mut.result.now in
    let is = c.deref_mut.ensures.value in
    let idle = c.place_both-placed.ensures.disk ∙ ap (λ (m : Machine). m.system.kernel.disk) is ∙ c.in-Ok.ensures.disk in
    let held = subst (λ (m : Machine). HoldsDrives disks_of m.system.kernel m.bdos c.boot_bare.new.drives) (sym is) c.in-Ok.ensures.stands.holds in
    let placed = subst (λ kept. HoldsDrives disks_of kernel kept c.boot_bare.new.drives) (sym c.place_both-placed.ensures.bdos)
    (holds_again disks_of lent.system.kernel kernel c.args.file.now.disk_turn lent.bdos c.boot_bare.new.drives c.place_both-placed.ensures.disk idle held) in
    let bare = c.place_both-placed.ensures.bare in
    subst (λ (m : Machine). IsBetweenSteps disks_of m c.boot_bare.new.drives) (sym c.deref_mut-in-Ok.ensures.value)
    (record { whole = bare.whole; no_completions = bare.no_completions; holds = placed })
