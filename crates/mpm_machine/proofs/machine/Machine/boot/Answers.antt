use Rattle.std.proofs.Common.{◌∙◌, sym, ap, subst}
use Rattle.mpm_bdos.specs.Serving.{Kept}
use Rattle.mpm_bdos.specs.Syncing.{AreMountedSynced}
use Rattle.mpm_system.proofs.OpeningLaws.{boots, opened_here}
use Rattle.mpm_system.specs.Opening.{IsBare}
use Rattle.mpm_machine.specs.declared.machine.Machine.{Machine}
use Rattle.mpm_machine.specs.Holding.{HoldsDrives}
use Rattle.mpm_machine.specs.Booting.{IsBootedOn}
use Rattle.mpm_machine.specs.Mounting.{HasMounted, HasDrives}
use Rattle.mpm_machine.proofs.MountedLaws.{holds_again}
use Rattle.mpm_machine.proofs.FirstFiles.{opens_again}
use Rattle.mpm_machine.proofs.SlotLaws.{has_residents, interprets_opened}
use Rattle.mpm_machine.proofs.SpoolingAfter.{spools_at_first, prints_at_first}
use Rattle.mpm_machine.proofs.machine.Machine.boot.Goals as goal
use Rattle.mpm_machine.proofs.SchedulingLaws.{schedules_at_first}

pub begin_residents-requires : goal.begin_residents-requires
begin_residents-requires g c =
    let bare = subst (λ (m : Machine). IsBare m.system) (sym c.deref_mut.ensures.value) c.in-Ok.ensures.bare in
    let so = boots c.args.file.now c.args.script c.deref_mut.result.now.system (ap (λ (m : Machine). m.system) c.deref_mut.ensures.value ∙ c.in-Ok.ensures.booted) in
    record {
      whole = bare.whole;
      no_completions = bare.no_completions;
      consoles = so.consoles;
      queues = so.queues;
      nobody = so.nobody;
    }

pub returns-clause-opening : goal.returns-clause-opening
returns-clause-opening g c =
    opened_here c.args.file.now c.args.script c.deref_mut.result.now.system c.begin_residents.new.self.system (ap (λ (m : Machine). m.system) c.deref_mut.ensures.value ∙ c.in-Ok.ensures.booted) c.begin_residents.ensures.system

pub returns-clause-start : goal.returns-clause-start
returns-clause-start g c =
    let bare = subst (λ (m : Machine). IsBare m.system) (sym c.deref_mut.ensures.value) c.in-Ok.ensures.bare in
    c.begin_residents.ensures.steps ∙ bare.start

pub returns-clause-residents : goal.returns-clause-residents
returns-clause-residents g c =
    let bare = subst (λ (m : Machine). IsBare m.system) (sym c.deref_mut.ensures.value) c.in-Ok.ensures.bare in
    has_residents c.args.file.now c.args.script c.deref_mut.result.now.system c.begin_residents.new.self.system (ap (λ (m : Machine). m.system) c.deref_mut.ensures.value ∙ c.in-Ok.ensures.booted) bare.whole
    (opened_here c.args.file.now c.args.script c.deref_mut.result.now.system c.begin_residents.new.self.system (ap (λ (m : Machine). m.system) c.deref_mut.ensures.value ∙ c.in-Ok.ensures.booted) c.begin_residents.ensures.system)

pub returns-clause-interprets : goal.returns-clause-interprets
returns-clause-interprets g c =
    let bare = subst (λ (m : Machine). IsBare m.system) (sym c.deref_mut.ensures.value) c.in-Ok.ensures.bare in
    interprets_opened c.args.file.now c.args.script c.deref_mut.result.now.system c.begin_residents.new.self.system c.args.file.now.disk_turn c.requires (ap (λ (m : Machine). m.system) c.deref_mut.ensures.value ∙ c.in-Ok.ensures.booted) bare.whole
    (opened_here c.args.file.now c.args.script c.deref_mut.result.now.system c.begin_residents.new.self.system (ap (λ (m : Machine). m.system) c.deref_mut.ensures.value ∙ c.in-Ok.ensures.booted) c.begin_residents.ensures.system)
    c.begin_residents.ensures.whole c.begin_residents.ensures.no_completions (c.begin_residents.ensures.disk ∙ ap (λ (m : Machine). m.system.kernel.disk) c.deref_mut.ensures.value ∙ c.in-Ok.ensures.disk)

pub returns-clause-spools : goal.returns-clause-spools
returns-clause-spools g c =
    let bare = subst (λ (m : Machine). IsBare m.system) (sym c.deref_mut.ensures.value) c.in-Ok.ensures.bare in
    let file = c.args.file.now in
    spools_at_first file.consoles file.spool file.sched c.begin_residents.new.self.system file.disk_turn
    (has_residents file c.args.script c.deref_mut.result.now.system c.begin_residents.new.self.system (ap (λ (m : Machine). m.system) c.deref_mut.ensures.value ∙ c.in-Ok.ensures.booted) bare.whole
    (opened_here file c.args.script c.deref_mut.result.now.system c.begin_residents.new.self.system (ap (λ (m : Machine). m.system) c.deref_mut.ensures.value ∙ c.in-Ok.ensures.booted) c.begin_residents.ensures.system))
    c.begin_residents.ensures.whole c.begin_residents.ensures.no_completions (c.begin_residents.ensures.disk ∙ ap (λ (m : Machine). m.system.kernel.disk) c.deref_mut.ensures.value ∙ c.in-Ok.ensures.disk)

pub returns-clause-prints : goal.returns-clause-prints
returns-clause-prints g c =
    let bare = subst (λ (m : Machine). IsBare m.system) (sym c.deref_mut.ensures.value) c.in-Ok.ensures.bare in
    let file = c.args.file.now in
    prints_at_first file.consoles file.spool file.sched c.begin_residents.new.self.system file.disk_turn
    (has_residents file c.args.script c.deref_mut.result.now.system c.begin_residents.new.self.system (ap (λ (m : Machine). m.system) c.deref_mut.ensures.value ∙ c.in-Ok.ensures.booted) bare.whole
    (opened_here file c.args.script c.deref_mut.result.now.system c.begin_residents.new.self.system (ap (λ (m : Machine). m.system) c.deref_mut.ensures.value ∙ c.in-Ok.ensures.booted) c.begin_residents.ensures.system))
    c.begin_residents.ensures.whole c.begin_residents.ensures.no_completions (c.begin_residents.ensures.disk ∙ ap (λ (m : Machine). m.system.kernel.disk) c.deref_mut.ensures.value ∙ c.in-Ok.ensures.disk)

pub returns-clause-schedules : goal.returns-clause-schedules
returns-clause-schedules g c =
    let bare = subst (λ (m : Machine). IsBare m.system) (sym c.deref_mut.ensures.value) c.in-Ok.ensures.bare in
    let file = c.args.file.now in
    schedules_at_first file.consoles file.spool file.sched c.begin_residents.new.self.system
    (has_residents file c.args.script c.deref_mut.result.now.system c.begin_residents.new.self.system (ap (λ (m : Machine). m.system) c.deref_mut.ensures.value ∙ c.in-Ok.ensures.booted) bare.whole
    (opened_here file c.args.script c.deref_mut.result.now.system c.begin_residents.new.self.system (ap (λ (m : Machine). m.system) c.deref_mut.ensures.value ∙ c.in-Ok.ensures.booted) c.begin_residents.ensures.system))

pub returns-clause-disk : goal.returns-clause-disk
returns-clause-disk g c = c.begin_residents.ensures.disk ∙ ap (λ (m : Machine). m.system.kernel.disk) c.deref_mut.ensures.value ∙ c.in-Ok.ensures.disk

pub returns-clause-stands : goal.returns-clause-stands
returns-clause-stands g c =
    let stands = subst (λ (m : Machine). IsBootedOn g.D.Drives.disks (g.D.Drives.told c.args.drives.now) (g.D.Drives.unsynced c.boot_bare.new.drives) c.args.file.now.drives m c.boot_bare.new.drives)
    (sym c.deref_mut.ensures.value) c.in-Ok.ensures.stands in
    let disks = g.D.Drives.disks c.boot_bare.new.drives in
    let images = g.D.Drives.told c.args.drives.now in
    let specs = c.args.file.now.drives in
    let same = sym c.begin_residents.ensures.bdos in
    record {
      mounted = subst (HasMounted disks images specs) same stands.mounted;
      each = subst (λ (k : Kept). HasDrives disks specs k.mounted) same stands.each;
      files = opens_again images specs c.deref_mut.result.now.system.kernel.disk c.begin_residents.new.self.system.kernel.disk c.deref_mut.result.now.bdos c.begin_residents.new.self.bdos disks c.begin_residents.ensures.disk
          c.begin_residents.ensures.bdos stands.files;
      holds = subst (λ (k : Kept). HoldsDrives g.D.Drives.disks c.begin_residents.new.self.system.kernel k c.boot_bare.new.drives) same
          (holds_again g.D.Drives.disks c.deref_mut.result.now.system.kernel c.begin_residents.new.self.system.kernel c.args.file.now.disk_turn c.deref_mut.result.now.bdos c.boot_bare.new.drives
          c.begin_residents.ensures.disk (c.begin_residents.ensures.disk ∙ ap (λ (m : Machine). m.system.kernel.disk) c.deref_mut.ensures.value ∙ c.in-Ok.ensures.disk) stands.holds);
      fresh = subst (λ (k : Kept). AreMountedSynced (g.D.Drives.unsynced c.boot_bare.new.drives) k.mounted) same stands.fresh;
    }

pub returns-clause-leaves : goal.returns-clause-leaves
returns-clause-leaves g c =
    let left = c.in-Ok.ensures.leaves in
    record { count = left.count; names = left.names; err = tt; told = left.told; beside = left.beside; asks = left.asks; none = left.none }
