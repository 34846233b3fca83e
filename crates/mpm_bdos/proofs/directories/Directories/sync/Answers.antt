use Rattle.std.proofs.Common.{◌≡◌, ◌∙◌, ◌+◌, ◌<◌, get_or, length, ap, subst, arith}
use Rattle.mpm_port.proofs.FrameLaws.{same_over}
use Rattle.mpm_files.proofs.Causing.{cause_behind}
use Rattle.mpm_directories.specs.Places.{AreInPlace}
use Rattle.mpm_bdos.specs.Syncing.{StopsAtDrive, mounted_count}
use Rattle.mpm_bdos.proofs.SyncLaws.{item_synced, steps_more, none_more, some_mounted, away, behind_place, stopped_there, fewer_mounted}
use Rattle.mpm_bdos.proofs.directories.Directories.sync.Goals as goal

pub loop-place-preserved : goal.loop-place-preserved
loop-place-preserved g c =
    let mounted = c.args.self.now in
    let k = c.loop-place.place-index in
    let place = c.place-item.result in
    let unsynced = g.D.Drives.unsynced in
    let list_is : c.as_slice-place-items.result.now ≡ mounted = c.as_slice-place-items.ensures.value ∙ c.self.view_is in
    let placed : AreInPlace mounted = subst AreInPlace c.self.view_is c.self.invariant in
    let is : place ≡ get_or mounted k place = c.place-item.is ∙ ap (λ items. get_or items k place) list_is in
    let within : k < length mounted = omega (arith, c.loop-place-test.true, ap length list_is) in
    record {
      count = c.in_default.ensures.cause.stays ∙ c.loop-place.invariant.count;
      same = same_over g.D.Drives c.args.drives.now c.loop-place.drives c.sync_place.new.drives c.loop-place.invariant.same c.sync_place.ensures.same;
      none = none_more mounted k place c.args.drives.now c.loop-place.drives c.sync_place.new.drives within is c.loop-place.invariant.none c.sync_place.ensures.none;
      calls = steps_more mounted k place c.args.steps.now c.loop-place.steps c.sync_place.new.steps within is c.loop-place.invariant.calls c.sync_place.ensures.calls;
      synced = item_synced mounted k place (unsynced c.loop-place.drives) (unsynced c.sync_place.new.drives) placed within is c.loop-place.invariant.synced c.sync_place.ensures.stay c.in_default.ensures.synced;
      stay = λ number was. c.sync_place.ensures.stay number (c.loop-place.invariant.stay number was);
      beside = λ number free. c.sync_place.ensures.beside number (away mounted k number place placed within is free) ∙ c.loop-place.invariant.beside number free;
      rest = λ number behind. c.sync_place.ensures.beside number (behind_place mounted k number place placed within is (omega (arith, behind))) ∙ c.loop-place.invariant.rest number (omega (arith, behind));
    }

-- the drive of a place failed

pub returns-in-Err : goal.returns-in-Err
returns-in-Err g c =
    let mounted = c.args.self.now in
    let k = c.loop-place.place-index in
    let place = c.place-item.result in
    let unsynced = g.D.Drives.unsynced in
    let list_is : c.as_slice-place-items.result.now ≡ mounted = c.as_slice-place-items.ensures.value ∙ c.self.view_is in
    let placed : AreInPlace mounted = subst AreInPlace c.self.view_is c.self.invariant in
    let is : place ≡ get_or mounted k place = c.place-item.is ∙ ap (λ items. get_or items k place) list_is in
    let within : k < length mounted = omega (arith, c.loop-place-test.true, ap length list_is) in
    let some : 0 < mounted_count mounted = some_mounted mounted k place within is c.in-Err.ensures.some in
    let stops : StopsAtDrive mounted (unsynced c.args.drives.now) (unsynced c.sync_place.new.drives) c.args.steps.now c.sync_place.new.steps =
    stopped_there mounted k place (unsynced c.args.drives.now) (unsynced c.loop-place.drives) (unsynced c.sync_place.new.drives) c.args.steps.now c.loop-place.steps c.sync_place.new.steps
    placed within is c.in-Err.ensures.some c.loop-place.invariant.synced c.sync_place.ensures.stay c.in-Err.ensures.failed c.sync_place.ensures.beside c.loop-place.invariant.rest
    c.loop-place.invariant.calls c.sync_place.ensures.calls in
    record {
      cause = cause_behind _ _ _ _ c.loop-place.invariant.count c.in-Err.ensures.cause;
      same = same_over g.D.Drives c.args.drives.now c.loop-place.drives c.sync_place.new.drives c.loop-place.invariant.same c.sync_place.ensures.same;
      calls = fewer_mounted mounted (stops.drive + 1) c.args.steps.now c.sync_place.new.steps stops.calls;
      all = tt;
      some = some;
      none = λ none. absurd (omega (arith, some, none));
      synced = tt;
      stay = λ number was. c.sync_place.ensures.stay number (c.loop-place.invariant.stay number was);
      stops = stops;
      beside = λ number free. c.sync_place.ensures.beside number (away mounted k number place placed within is free) ∙ c.loop-place.invariant.beside number free;
    }
