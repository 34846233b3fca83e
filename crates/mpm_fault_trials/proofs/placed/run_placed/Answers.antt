use Rattle.std.proofs.Common.{◌∙◌, ℕ, ◌<◌, ◌≤◌, ◌+◌, ◌*◌, List, length, get_or, sym, ap, subst, arith}
use Rattle.mpm_script.specs.declared.event.Timed.{Timed}
use Rattle.mpm_machine_file.specs.declared.machine_file.MachineFile.{MachineFile}
use Rattle.mpm_machine_file.specs.MachineFiles.{IsMachine}
use Rattle.mpm_port.specs.MemoryDisks.{disks_of}
use Rattle.mpm_system.specs.declared.system.System.{System}
use Rattle.mpm_machine.specs.Holding.{HoldsDrives}
use Rattle.mpm_machine.proofs.MountedLaws.{holds_again}
use Rattle.mpm_system.specs.Opening.{booted, IsBare, MayPlace}
use Rattle.mpm_system.proofs.PlacedLaws.{may_place_booted}
use Rattle.mpm_machine.specs.declared.machine.Machine.{Machine}
use Rattle.mpm_fault_trials.proofs.placed.run_placed.Goals as goal
use Rattle.mpm_machine.specs.Parts.{IsBetweenSteps}

-- a program can be placed into the first segment, if that has room
may_place : (file : MachineFile) (events : List Timed) (size : ℕ) → IsMachine file → IsBare (booted file events) → 0 < length file.segments
    → size + 640 ≤ 256 * (get_or file.segments 0 (record { base = 0; pages = 0 })).pages → MayPlace (booted file events) 0 0 size
unfolding booted
may_place file events size limits bare there room =
    may_place_booted file events 0 0 size limits.some_console limits.consoles limits.printers (omega (arith, limits.segments)) bare.whole.script
    limits.each_segment there limits.some_console room

pub is_placed-placed-requires-clause-free : goal.is_placed-placed-requires-clause-free
is_placed-placed-requires-clause-free c =
    λ size there room. subst (λ (system : System). MayPlace system 0 0 size) (sym (ap (λ (m : Machine). m.system) c.deref_mut.ensures.value ∙ c.in-Ok.ensures.booted))
    (may_place c.args.file.now c.empty-script.result size c.requires.file (subst IsBare c.in-Ok.ensures.booted c.in-Ok.ensures.bare) there room)

-- it is between steps, whether the program was placed or not
pub run-status-requires-clause-between : goal.run-status-requires-clause-between
run-status-requires-clause-between c =
    let kernel = c.is_placed-placed.new.machine.system.kernel in
    let lent = c.deref_mut.result.now in
    let is = c.deref_mut.ensures.value in
    let idle = c.is_placed-placed.ensures.disk ∙ ap (λ (m : Machine). m.system.kernel.disk) is ∙ c.in-Ok.ensures.disk in
    let held = subst (λ (m : Machine). HoldsDrives disks_of m.system.kernel m.bdos c.boot_bare.new.drives) (sym is) c.in-Ok.ensures.stands.holds in
    let placed = subst (λ kept. HoldsDrives disks_of kernel kept c.boot_bare.new.drives) (sym c.is_placed-placed.ensures.bdos)
    (holds_again disks_of lent.system.kernel kernel c.args.file.now.disk_turn lent.bdos c.boot_bare.new.drives c.is_placed-placed.ensures.disk idle held) in
    let bare = c.is_placed-placed.ensures.bare in
    subst (λ (m : Machine). IsBetweenSteps disks_of m c.boot_bare.new.drives) (sym c.deref_mut-in-Ok.ensures.value)
    (record { whole = bare.whole; no_completions = bare.no_completions; holds = placed })
