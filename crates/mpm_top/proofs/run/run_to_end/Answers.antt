use Rattle.std.proofs.Common.{◌≡◌, ◌∙◌, ◌++◌, ◌-◌, Bool, refl, sym, ap, subst, arith}
use Rattle.mpm_render.specs.Outputs.{closed}
use Rattle.mpm_machine.specs.Faults.{FailureCounts, counts}
use Rattle.mpm_machine.specs.State.{State}
use Rattle.mpm_machine.specs.After.{after}
use Rattle.mpm_machine.specs.Failing.{leaving}
use Rattle.mpm_machine.specs.Settling.{carried}
use Rattle.mpm_machine.specs.AtEnd.{drive_calls}
use Rattle.mpm_system.specs.declared.system.System.{System}
use Rattle.mpm_machine.proofs.SettlingLaws.{settled_stand}
use Rattle.mpm_machine.proofs.DriveLaws.{keeps_both}
use Rattle.mpm_top.specs.Beginnings.{begun}
use Rattle.mpm_top.specs.Runs.{printed, drives_left, StandFor}
use Rattle.mpm_top.proofs.RunLaws.{first_state, stands_first, none_done, stops_in_step, stops_at_end, closed_alike, sink_stays, causes_stopped, causes_closed}
use Rattle.mpm_top.proofs.Naming.{stand_behind, others_behind}
use Rattle.mpm_top.proofs.Syncing.{synced_before, attached_still}
use Rattle.mpm_top.proofs.run.run_to_end.Goals as goal

pub run-requires : goal.run-requires
run-requires g c =
    let begins = c.requires.begins in
    record { most = omega (arith, c.requires.limit, begins.start); between = begins.between }

-- the run stopped

pub returns-in-Err : goal.returns-in-Err
returns-in-Err g c = record {
  runs = λ specs on has stand. tt;
  stops = λ specs on has stand.
      let first = g.S.Sink.written c.args.sink.now in
      let s = begun c.args.machine.now.system on in
      let stands = stands_first c.args.machine.now s.files c.new-render.result first (g.D.Drives.disks c.args.drives.now) (c.new-render.ensures.fresh first) stand in
      let fault = c.in-Err.error.fault in
      let step = c.in-Err.error.step in
      let there = after (step - 1 - s.system.steps) s in
      let left = c.in-Err.ensures.stops s first stands in
      let new = printed g.S.Sink.written g.S.Sink.faults c.close.new.sink in
      stops_in_step (StandFor (g.D.Drives.disks c.run.new.drives) (g.D.Drives.told c.run.new.drives) specs) fault c.args.asked.trace c.new-render.result.trace s c.args.asked.steps
      (printed g.S.Sink.written g.S.Sink.faults c.args.sink.now) new (g.S.Sink.written c.run.new.sink) step left.images.drives (λ is. ap g.S.Sink.written (c.close.ensures.left is)) (sym c.new-render.ensures.trace)
      left.text
      (closed_alike fault c.run.new.render.trace c.args.asked.trace there first (g.S.Sink.faults c.run.new.sink) (g.S.Sink.faults c.args.sink.now) new
      (c.in-Err.ensures.ends.trace ∙ c.new-render.ensures.trace)
      (sink_stays fault (counts g.S.Sink.faults g.D.Drives.faults c.args.sink.now c.args.drives.now) (counts g.S.Sink.faults g.D.Drives.faults c.run.new.sink c.run.new.drives) c.in-Err.ensures.ends.cause.failed)
      (c.close.ensures.closes there first left.shown))
      left.images.are
      (stand_behind _ _ _ _ c.args.machine.now.bdos.mounted c.run.new.self.bdos.mounted specs left.images.drives (g.met.D.Drives.agrees c.run.new.drives) has c.in-Err.ensures.drives.keeps left.images.images);
  looked = λ on stand. tt;
  leaves =
      let drives = c.in-Err.ensures.drives in
      record {
        others = λ specs has. others_behind _ _ _ _ c.args.machine.now.bdos.mounted c.run.new.self.bdos.mounted specs has drives.keeps;
        attached = λ number. (drives.keeps.beside.names number, drives.keeps.beside.sizes number);
        names = drives.names;
        none = λ none. (c.in-Err.ensures.none none).1;
      };
  synced = tt;
  stopped =
      let first = g.S.Sink.written c.args.sink.now in
      let holds = c.requires.begins.between.holds in
      let stands = stands_first c.args.machine.now holds.files c.new-render.result first (g.D.Drives.disks c.args.drives.now) (c.new-render.ensures.fresh first) holds.stands in
      let ends = (c.in-Err.ensures.stops (first_state c.args.machine.now.system holds.files) first stands).text in
      record {
        within = omega (arith, ends.within, c.requires.begins.start);
        early = λ zero. absurd (omega (arith, zero, ends.later));
        sink = λ none. (c.in-Err.ensures.none none).0;
      };
  cause =
      let old = counts g.S.Sink.faults g.D.Drives.faults c.args.sink.now c.args.drives.now in
      let new = counts g.S.Sink.faults g.D.Drives.faults c.run.new.sink c.run.new.drives in
      causes_closed c.in-Err.error.fault old new (g.S.Sink.faults c.close.new.sink) (λ is. ap g.S.Sink.faults (c.close.ensures.left is))
      (causes_stopped c.in-Err.error.fault old old new refl refl c.in-Err.ensures.ends.cause.failed);
}

-- all is done

pub returns-in-Ok-settle : goal.returns-in-Ok-settle
returns-in-Ok-settle g c = record {
  runs = λ specs on has stand.
      let first = g.S.Sink.written c.args.sink.now in
      let s = begun c.args.machine.now.system on in
      let stands = stands_first c.args.machine.now s.files c.new-render.result first (g.D.Drives.disks c.args.drives.now) (c.new-render.ensures.fresh first) stand in
      let there = after c.args.asked.steps s in
      let ran = c.in-Ok.ensures.ok s first stands in
      let ended = c.in-Ok-settle.ensures.ok there first ran in
      let last = c.settle.new.self.bdos.mounted in
      record {
        text = subst (λ (t : Bool). g.S.Sink.written c.settle.new.sink ≡ first ++ closed t (carried there).outputs) (c.in-Ok.ensures.ends.trace ∙ c.new-render.ensures.trace)
            ended.text;
        stand = stand_behind _ _ _ _ c.args.machine.now.bdos.mounted last specs (drives_left there) (g.met.D.Drives.agrees c.settle.new.drives) has
            (keeps_both _ _ _ _ _ _ c.args.machine.now.bdos.mounted c.run.new.self.bdos.mounted last c.in-Ok.ensures.drives.keeps c.in-Ok-settle.ensures.keeps)
            (record {
              directories = last;
              labels = λ number. refl;
              stand = settled_stand there c.settle.new.self.system.kernel.disk c.settle.new.self.bdos (g.D.Drives.disks c.settle.new.drives) ended.files;
            });
      };
  stops = λ specs on has stand. tt;
  looked = λ on stand.
      let first = g.S.Sink.written c.args.sink.now in
      let s = begun c.args.machine.now.system on in
      let stands = stands_first c.args.machine.now s.files c.new-render.result first (g.D.Drives.disks c.args.drives.now) (c.new-render.ensures.fresh first) stand in
      let Saw : System → Type 0 = λ system. g.V.Look.saw c.args.look.now system c.look.new.self in
      subst Saw (c.in-Ok.ensures.ok s first stands).system.parts c.look.ensures;
  leaves =
      let drives = c.in-Ok.ensures.drives in
      let ended = c.in-Ok-settle.ensures in
      record {
        others = λ specs has.
            others_behind _ _ _ _ c.args.machine.now.bdos.mounted c.settle.new.self.bdos.mounted specs has
            (keeps_both _ _ _ _ _ _ c.args.machine.now.bdos.mounted c.run.new.self.bdos.mounted c.settle.new.self.bdos.mounted drives.keeps ended.keeps);
        attached = λ number. attached_still _ _ _ _ _ number drives.keeps.beside ended.keeps.beside;
        names = ended.names ∙ drives.names;
        none = λ none. let ran = c.in-Ok.ensures.none none in (ended.none ran.2).1 ∙ ran.1;
      };
  synced =
      synced_before (g.D.Drives.unsynced c.settle.new.drives) c.args.machine.now.bdos.mounted c.settle.new.self.bdos.mounted
      (λ number. c.in-Ok-settle.ensures.keeps.labels number ∙ c.in-Ok.ensures.drives.keeps.labels number) c.in-Ok-settle.ensures.synced.syncs.synced;
  stopped = tt;
  cause = c.in-Ok-settle.ensures.ends.cause.stays ∙ c.in-Ok.ensures.ends.cause.stays;
}

-- it stopped at its end

pub returns : goal.returns
returns g c = record {
  runs = λ specs on has stand. tt;
  stops = λ specs on has stand.
      let first = g.S.Sink.written c.args.sink.now in
      let s = begun c.args.machine.now.system on in
      let stands = stands_first c.args.machine.now s.files c.new-render.result first (g.D.Drives.disks c.args.drives.now) (c.new-render.ensures.fresh first) stand in
      let there = after c.args.asked.steps s in
      let fault = c.in-Err-settle.fault in
      let traces = c.in-Err-settle.ensures.ends.trace ∙ c.in-Ok.ensures.ends.trace ∙ c.new-render.ensures.trace in
      let last = c.settle.new.self.bdos.mounted in
      let new = printed g.S.Sink.written g.S.Sink.faults c.close-in-Err-settle.new.sink in
      let old = counts g.S.Sink.faults g.D.Drives.faults c.args.sink.now c.args.drives.now in
      let mid = counts g.S.Sink.faults g.D.Drives.faults c.run.new.sink c.run.new.drives in
      let stays : mid.sink ≡ old.sink = ap (λ (k : FailureCounts). k.sink) c.in-Ok.ensures.ends.cause.stays in
      stops_at_end (StandFor (g.D.Drives.disks c.settle.new.drives) (g.D.Drives.told c.settle.new.drives) specs) fault c.args.asked.trace s c.args.asked.steps
      (printed g.S.Sink.written g.S.Sink.faults c.args.sink.now) new
      (leaving g.S.Sink.written g.D.Drives.disks c.settle.new.render c.settle.new.sink c.settle.new.drives last) c.run.new.self.bdos
      (drive_calls g.D.Drives.unsynced c.run.new.drives c.run.new.calls) (drive_calls g.D.Drives.unsynced c.settle.new.drives c.settle.new.calls)
      (λ is. ap g.S.Sink.written (c.close-in-Err-settle.ensures.left is)) traces
      (λ t shows. closed_alike fault c.settle.new.render.trace c.args.asked.trace t first (g.S.Sink.faults c.settle.new.sink) (g.S.Sink.faults c.args.sink.now) new traces
      (λ is. sink_stays fault mid (counts g.S.Sink.faults g.D.Drives.faults c.settle.new.sink c.settle.new.drives) c.in-Err-settle.ensures.ends.cause.failed is ∙ stays)
      (c.close-in-Err-settle.ensures.closes t first shows))
      (λ drives images. stand_behind _ _ _ _ c.args.machine.now.bdos.mounted last specs drives (g.met.D.Drives.agrees c.settle.new.drives) has
      (keeps_both _ _ _ _ _ _ c.args.machine.now.bdos.mounted c.run.new.self.bdos.mounted last c.in-Ok.ensures.drives.keeps c.in-Err-settle.ensures.keeps) images)
      (c.in-Err-settle.ensures.stops there first (c.in-Ok.ensures.ok s first stands));
  looked = λ on stand. tt;
  leaves =
      let drives = c.in-Ok.ensures.drives in
      let ended = c.in-Err-settle.ensures in
      record {
        others = λ specs has.
            others_behind _ _ _ _ c.args.machine.now.bdos.mounted c.settle.new.self.bdos.mounted specs has
            (keeps_both _ _ _ _ _ _ c.args.machine.now.bdos.mounted c.run.new.self.bdos.mounted c.settle.new.self.bdos.mounted drives.keeps ended.keeps);
        attached = λ number. attached_still _ _ _ _ _ number drives.keeps.beside ended.keeps.beside;
        names = ended.names ∙ drives.names;
        none = λ none. let ran = c.in-Ok.ensures.none none in (ended.none ran.2).1 ∙ ran.1;
      };
  synced = tt;
  stopped =
      let first = g.S.Sink.written c.args.sink.now in
      let holds = c.requires.begins.between.holds in
      let s = first_state c.args.machine.now.system holds.files in
      let stands = stands_first c.args.machine.now s.files c.new-render.result first (g.D.Drives.disks c.args.drives.now) (c.new-render.ensures.fresh first) holds.stands in
      let ran = c.in-Ok.ensures.ok s first stands in
      record {
        within = omega arith;
        early = λ zero.
            let still = ran.system.parts ∙ ap (λ (t : State). t.system) (none_done c.args.asked.steps s zero) in
            (c.in-Err-settle.ensures.idle (ap (λ (system : System). system.kernel.disk.served) still ∙ c.requires.begins.idle)).told_are ∙ ap g.D.Drives.told (c.in-Ok.ensures.still zero);
        sink = λ none. (c.in-Err-settle.ensures.none (c.in-Ok.ensures.none none).2).0;
      };
  cause =
      let old = counts g.S.Sink.faults g.D.Drives.faults c.args.sink.now c.args.drives.now in
      let mid = counts g.S.Sink.faults g.D.Drives.faults c.run.new.sink c.run.new.drives in
      let new = counts g.S.Sink.faults g.D.Drives.faults c.settle.new.sink c.settle.new.drives in
      causes_closed c.in-Err-settle.fault old new (g.S.Sink.faults c.close-in-Err-settle.new.sink) (λ is. ap g.S.Sink.faults (c.close-in-Err-settle.ensures.left is))
      (causes_stopped c.in-Err-settle.fault old mid new (ap (λ (k : FailureCounts). k.drives) c.in-Ok.ensures.ends.cause.stays) (ap (λ (k : FailureCounts). k.sink) c.in-Ok.ensures.ends.cause.stays)
      c.in-Err-settle.ensures.ends.cause.failed);
}
