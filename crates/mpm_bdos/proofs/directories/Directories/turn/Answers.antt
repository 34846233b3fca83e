use Rattle.std.proofs.Common.{◌≡◌, suc, ◌<◌, List, Option, None, Some, IfSome, length, sym, ap, subst, ◌∙◌, arith}
use Rattle.std.specs.Prelude.{OnOk, OnErr, option_map, slice_set}
use Rattle.std.proofs.lemmas.List.{get_or-set_other, get_or_default}
use Rattle.std.proofs.lemmas.Grind.{get_or-set_at}
use Rattle.mpm_files.specs.Turning.{IsNextCached}
use Rattle.mpm_mount.specs.Directories.{Directory}
use Rattle.mpm_directories.specs.Places.{directory_at}
use Rattle.mpm_bdos.specs.Turns.{FitsDrives, IsWorking, IsContainedAt, KeepsImages, KeepsToldOf, KeepsUnsynced, StaysBeside, drive_and_kind}
use Rattle.mpm_bdos.specs.Asking.{HasTurnAt}
use Rattle.mpm_bdos.proofs.AskingLaws.{place_within, may_turn_at}
use Rattle.mpm_bdos.proofs.Fitting.{fits_after, in_place_after, labels_stay, images_after, stays_after, told_after, unsynced_after}
use Rattle.mpm_bdos.proofs.TurnedAt.{left_names}
use Rattle.mpm_bdos.proofs.directories.Directories.turn.Goals as goal

pub index_mut-requires : goal.index_mut-requires
index_mut-requires g c =
    let within = place_within (g.D.Drives.disks c.args.drives.now) c.self.inside.places.items c.args.self.now c.from-place.result c.args.number c.args.work.now c.self.view_is c.from-place.ensures c.requires.left in
    grind (arith)

pub turn_at-requires : goal.turn_at-requires
turn_at-requires g c =
    let disks = g.D.Drives.disks c.args.drives.now in
    let mounted = c.self.inside.places.items in
    let number = c.from-place.result in
    let within : number < length mounted =
    place_within disks mounted c.args.self.now number c.args.number c.args.work.now c.self.view_is c.from-place.ensures c.requires.left in
    let its : directory_at mounted number ≡ c.index_mut.result.now = get_or_default mounted number None _ within ∙ sym c.index_mut.ensures.value in
    let here : directory_at c.args.self.now c.args.number ≡ c.index_mut.result.now = (λ i. directory_at (sym c.self.view_is i) (sym c.from-place.ensures i)) ∙ its in
    may_turn_at g.D.Drives.disks mounted number c.index_mut.result.now c.args.cache.now c.args.work.now c.args.drives.now c.self.invariant its
    (subst (λ (m : List (Option Directory)). FitsDrives g.D.Drives.disks m c.args.cache.now c.args.drives.now) (sym c.self.view_is) c.requires.fits)
    (subst (λ (d : Option Directory). HasTurnAt disks d c.args.work.now) here c.requires.left)

pub invariant_of-self : goal.invariant_of-self
invariant_of-self g c =
    let did = c.turn_at.ensures in
    let mounted = c.self.inside.places.items in
    let number = c.from-place.result in
    let within : number < length mounted =
    place_within (g.D.Drives.disks c.args.drives.now) mounted c.args.self.now number c.args.number c.args.work.now c.self.view_is c.from-place.ensures c.requires.left in
    let its : directory_at mounted number ≡ c.index_mut.result.now = get_or_default mounted number None _ within ∙ sym c.index_mut.ensures.value in
    in_place_after mounted number c.turn_at.new.place c.self.invariant (did.same ∙ ap (option_map drive_and_kind) (sym its)) did.directory

pub returns : goal.returns
returns g c =
    let did = c.turn_at.ensures in
    let result = c.turn_at.result in
    let work = c.args.work.now in
    let mounted = c.self.inside.places.items in
    let number = c.from-place.result in
    let old = c.index_mut.result.now in
    let new = c.turn_at.new.place in
    let disks = g.D.Drives.disks c.args.drives.now in
    let disks' = g.D.Drives.disks c.turn_at.new.drives in
    let within : number < length mounted =
    place_within (g.D.Drives.disks c.args.drives.now) mounted c.args.self.now number c.args.number work c.self.view_is c.from-place.ensures c.requires.left in
    let its : directory_at mounted number ≡ old = get_or_default mounted number None _ within ∙ sym c.index_mut.ensures.value in
    let here : directory_at c.args.self.now c.args.number ≡ old =
    ap (λ m. directory_at m c.args.number) (sym c.self.view_is) ∙ ap (directory_at mounted) (sym c.from-place.ensures) ∙ its in
    let there : directory_at (slice_set mounted number new) c.args.number ≡ new = get_or-set_at mounted number c.args.number new None (sym c.from-place.ensures) within in
    let fits : FitsDrives g.D.Drives.disks mounted c.args.cache.now c.args.drives.now =
    subst (λ m. FitsDrives g.D.Drives.disks m c.args.cache.now c.args.drives.now) (sym c.self.view_is) c.requires.fits in
    record {
      ok = λ before job j suits working h.
          subst (λ d. OnOk result (IsWorking disks' d before job (suc j) c.turn_at.new.work)) (sym there)
          (did.ok before job j suits (subst (λ d. IsWorking disks d before job j work) here working) h);
      err = λ before job j suits working h.
          subst (λ d. OnErr result (IsContainedAt disks' d before job j)) (sym here)
          (did.err before job j suits (subst (λ d. IsWorking disks d before job j work) here working) h);
      progress = λ before job j working. did.progress before job j (subst (λ d. IsWorking disks d before job j work) here working);
      left = record {
        places = λ other apart.
            get_or-set_other mounted number other new None (λ same. apart (ap Some (sym c.from-place.ensures ∙ sym same))) ∙ ap (λ m. directory_at m other) c.self.view_is;
        labels = λ other.
            labels_stay mounted number other new (did.same ∙ ap (option_map drive_and_kind) (sym its)) ∙ ap (λ m. option_map drive_and_kind (directory_at m other)) c.self.view_is;
        fits = fits_after g.D.Drives.disks g.D.Drives.told g.D.Drives.failed_names g.D.Drives.unsynced mounted number old new
            c.args.cache.now c.turn_at.new.cache c.args.drives.now c.turn_at.new.drives c.self.invariant its did.same did.leaves fits;
        images = subst (λ n. KeepsImages (Some n) c.args.self.now disks disks') c.from-place.ensures
            (subst (λ m. KeepsImages (Some number) m disks disks') c.self.view_is
            (images_after g.D.Drives.disks g.D.Drives.told g.D.Drives.failed_names g.D.Drives.unsynced mounted number old
            c.args.cache.now c.turn_at.new.cache c.args.drives.now c.turn_at.new.drives c.self.invariant its did.leaves fits));
        beside = subst (λ m. StaysBeside m disks disks') c.self.view_is
            (stays_after g.D.Drives.disks g.D.Drives.told g.D.Drives.failed_names g.D.Drives.unsynced mounted number old
            c.args.cache.now c.turn_at.new.cache c.args.drives.now c.turn_at.new.drives c.self.invariant its did.leaves);
        told_are = subst (λ m. KeepsToldOf m disks (g.D.Drives.told c.args.drives.now) (g.D.Drives.told c.turn_at.new.drives)) c.self.view_is
            (told_after g.D.Drives.disks g.D.Drives.told g.D.Drives.failed_names g.D.Drives.unsynced mounted number old
            c.args.cache.now c.turn_at.new.cache c.args.drives.now c.turn_at.new.drives c.self.invariant its did.leaves);
        names = left_names g.D.Drives.disks g.D.Drives.told g.D.Drives.failed_names g.D.Drives.unsynced old c.args.cache.now c.turn_at.new.cache c.args.drives.now c.turn_at.new.drives did.leaves;
        kept_unsynced = subst (λ n. KeepsUnsynced (Some n) (g.D.Drives.unsynced c.args.drives.now) (g.D.Drives.unsynced c.turn_at.new.drives)) c.from-place.ensures
            (unsynced_after g.D.Drives.disks g.D.Drives.told g.D.Drives.failed_names g.D.Drives.unsynced mounted number old
            c.args.cache.now c.turn_at.new.cache c.args.drives.now c.turn_at.new.drives c.self.invariant its did.leaves);
      };
      takes = record {
        calls = did.takes.calls;
        one_call = did.takes.one_call;
        unsynced = did.takes.unsynced;
        no_call = λ next. did.takes.no_call (next.0, subst (λ d. IfSome d (λ one. IsNextCached c.args.cache.now one work)) here next.1);
      };
      cause = did.cause;
    }
