use Rattle.std.proofs.Common.{rules, length, ◌≡◌, ◌∙◌, ◌+◌, ◌++◌, ◌∷◌, [], List, take, drop, sym, ap, subst, arith}
use Rattle.std.proofs.lemmas.Grind.{common_steps}
use Rattle.std.proofs.lemmas.List.Elements.{recursion_from_All}
use Rattle.mpm_machine_file.specs.declared.lists.DriveSpec.{DriveSpec}
use Rattle.mpm_machine_file.specs.MachineFiles.{IsDrive}
use Rattle.mpm_mount.specs.Directories.{Directory}
use Rattle.mpm_drives.specs.Images.{Images}
use Rattle.mpm_drives.specs.Mounted.{number_of, IsMountedAs, AreMounted, AreSynced}
use Rattle.mpm_drives.proofs.Mounting.{beside_more, others_differ, mounted_kept, mounted_more, stops_from, stops_at, failures_same, taken_more, parted, stays, synced_more, asks_more}
use Rattle.mpm_drives.proofs.mounted.MountedDrives.mount.Goals as goal

pub returns-in-Err : goal.returns-in-Err
returns-in-Err g c =
    let i = c.loop-spec.spec-index in
    let specs = c.args.specs.now in
    let spec = c.spec-item.result in
    let x = g.D.Drives.disks c.mount_drive.new.drives in
    let images = g.D.Drives.told c.args.drives.now in
    let parts = parted specs i spec (omega arith) c.spec-item.is in
    let apart = others_differ specs (take i specs) spec (drop (i + 1) specs) parts (recursion_from_All IsDrive specs c.requires.each) c.requires.apart in
    record {
      mounted = tt;
      count = tt;
      names = tt;
      err = stops_at x images specs (take i specs) c.loop-spec.items.items spec (drop (i + 1) specs) _ _ c.in-Err.error parts
          (mounted_kept (number_of spec) _ x images (take i specs) c.loop-spec.items.items c.in-Err.ensures.only apart c.loop-spec.invariant.mounted)
          (stops_from x (g.D.Drives.told c.loop-spec.drives) (g.D.Drives.told c.args.drives.now) spec _ _ _ c.in-Err.error c.loop-spec.invariant.told
          (failures_same _ _ _ _ c.loop-spec.invariant.count c.loop-spec.invariant.names) c.in-Err.ensures.err);
      told = c.in-Err.ensures.told ∙ c.loop-spec.invariant.told;
      beside = beside_more specs (take i specs) spec (drop (i + 1) specs) _ _ x parts c.loop-spec.invariant.beside c.in-Err.ensures.only;
      fresh = tt;
      asks = asks_more specs (take i specs) spec (drop (i + 1) specs) _ _ _ parts c.loop-spec.invariant.asks c.in-Err.ensures.asks c.in-Err.ensures.unsynced;
      none = λ nothing.
          let empty : length specs ≡ 0 = ap (λ (xs : List DriveSpec). length xs) nothing in
          absurd (omega (arith, empty));
    }

pub loop-spec-preserved : goal.loop-spec-preserved
loop-spec-preserved g c =
    let i = c.loop-spec.spec-index in
    let specs = c.args.specs.now in
    let spec = c.spec-item.result in
    let items = c.loop-spec.items.items in
    let x = g.D.Drives.disks c.mount_drive.new.drives in
    let before_it = g.D.Drives.unsynced c.loop-spec.drives in
    let now = g.D.Drives.unsynced c.mount_drive.new.drives in
    let images = g.D.Drives.told c.args.drives.now in
    let parts = parted specs i spec (omega arith) c.spec-item.is in
    let apart = others_differ specs (take i specs) spec (drop (i + 1) specs) parts (recursion_from_All IsDrive specs c.requires.each) c.requires.apart in
    let before = mounted_kept (number_of spec) _ x images (take i specs) items c.in-Ok.ensures.only apart c.loop-spec.invariant.mounted in
    let here = subst (λ (t : Images). IsMountedAs x t spec c.in-Ok.mounted) c.loop-spec.invariant.told c.in-Ok.ensures.mounted in
    let pushed : c.push.new.self.items ≡ items ++ (c.in-Ok.mounted ∷ []) = first_of (search rules, grind (arith, common_steps)) in
    let P : List DriveSpec → Type 0 = λ front. AreMounted x images front c.push.new.self.items in
    let Q : List Directory → Type 0 = λ ds. AreMounted x images (take i specs ++ (spec ∷ [])) ds in
    record {
      beside = beside_more specs (take i specs) spec (drop (i + 1) specs) _ _ x parts c.loop-spec.invariant.beside c.in-Ok.ensures.only;
      mounted = subst P (sym (taken_more specs i spec (omega arith) c.spec-item.is)) (subst Q (sym pushed) (mounted_more x images (take i specs) items spec c.in-Ok.mounted before here));
      fresh = subst (AreSynced now) (sym pushed)
          (synced_more items c.in-Ok.mounted before_it now c.loop-spec.invariant.fresh (stays before_it now (number_of spec) c.in-Ok.ensures.fresh c.in-Ok.ensures.unsynced)
          (ap now c.in-Ok.ensures.mounted.number ∙ c.in-Ok.ensures.fresh));
      asks = asks_more specs (take i specs) spec (drop (i + 1) specs) _ _ _ parts c.loop-spec.invariant.asks c.in-Ok.ensures.asks c.in-Ok.ensures.unsynced;
      none = λ nothing. absurd (omega (arith, nothing));
      count = c.in-Ok.ensures.count ∙ c.loop-spec.invariant.count;
      names = c.in-Ok.ensures.names ∙ c.loop-spec.invariant.names;
      told = c.in-Ok.ensures.told ∙ c.loop-spec.invariant.told;
    }
