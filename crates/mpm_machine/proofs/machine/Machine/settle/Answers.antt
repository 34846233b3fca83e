use Rattle.std.proofs.Common.{◌∙◌, inl, subst, arith}
use Rattle.mpm_port.specs.Frames.{SameDrives}
use Rattle.mpm_output.specs.Outside.{seen}
use Rattle.mpm_base.proofs.Results.{on_ok}
use Rattle.mpm_machine.specs.Faults.{itself}
use Rattle.mpm_system.specs.declared.system.System.{System}
use Rattle.mpm_machine.specs.Settling.{carried}
use Rattle.mpm_machine.specs.AtEnd.{drive_calls, TurnsCall}
use Rattle.mpm_machine.proofs.SettlingLaws.{carried_shows, ends_run, carried_images, stops_carrying, err_stops, syncs_after, keeps_synced, same_still, same_count, none_counted, sink_alone, cause_behind, ok_so}
use Rattle.mpm_machine.proofs.machine.Machine.settle.Goals as goal

pub carry-requires : goal.carry-requires
carry-requires g c = record { between = c.requires.between }

pub close-requires : goal.close-requires
close-requires g c = c.in-Ok.ensures.fits

pub returns-in-Ok-clause-ok : goal.returns-in-Ok-clause-ok
returns-in-Ok-clause-ok g c s first stands =
    let has = c.in-Ok.ensures.ok s.files stands.files in
    ends_run c.close.result c.carry.new.self s _ _ _ _ _ c.args.render.now.trace c.carry.new.render.trace _ first stands.system.parts has c.close.ensures.drives.images c.in-Ok.ensures.ends.trace
    (c.close.ensures.ok (carried s).outputs first (carried_shows s _ _ _ _ _ _ first stands.system.parts has stands.system.shown))

pub returns-in-Ok-clause-whole : goal.returns-in-Ok-clause-whole
returns-in-Ok-clause-whole g c = on_ok c.close.result c.in-Ok.ensures.whole

pub returns-in-Ok-clause-stops : goal.returns-in-Ok-clause-stops
returns-in-Ok-clause-stops g c s first stands =
    let m = seen g.S.Sink.written g.S.Sink.faults c.carry.new.render c.carry.new.sink in
    let n = seen g.S.Sink.written g.S.Sink.faults c.close.new.render c.close.new.sink in
    let has = c.in-Ok.ensures.ok s.files stands.files in
    let shows = carried_shows s _ m _ _ _ _ first stands.system.parts has stands.system.shown in
    let before = drive_calls g.D.Drives.unsynced c.args.drives.now c.args.calls.now in
    let between = drive_calls g.D.Drives.unsynced c.carry.new.drives c.carry.new.calls in
    err_stops c.close.result s m n c.carry.new.self.bdos.mounted (g.D.Drives.disks c.close.new.drives) first c.args.self.now.bdos before between _
    (subst (λ (system : System). TurnsCall system c.args.self.now.bdos before between) stands.system.parts c.in-Ok.ensures.called) c.close.ensures.syncs c.close.ensures.ends.trace shows
    c.close.ensures.unwritten
    (c.close.ensures.err (carried s).outputs first shows)
    (carried_images s _ m _ _ _ _ _ stands.system.parts has c.close.ensures.drives.images)

pub returns-in-Ok-clause-ends : goal.returns-in-Ok-clause-ends
returns-in-Ok-clause-ends g c = record {
  trace = c.close.ensures.ends.trace ∙ c.in-Ok.ensures.ends.trace;
  cause = cause_behind itself _ _ _ c.close.result c.in-Ok.ensures.ends.cause.stays c.close.ensures.ends.cause;
}

pub returns-in-Ok-clause-keeps : goal.returns-in-Ok-clause-keeps
returns-in-Ok-clause-keeps g c = keeps_synced _ _ _ _ _ _ _ _ c.in-Ok.ensures.uses.drives.keeps c.close.ensures.drives.images c.close.ensures.drives.told_are

pub returns-in-Ok-clause-idle : goal.returns-in-Ok-clause-idle
returns-in-Ok-clause-idle g c none =
    subst (λ d. SameDrives g.D.Drives d c.close.new.drives) (c.in-Ok.ensures.idle none) c.close.ensures.drives

pub returns-in-Ok-clause-names : goal.returns-in-Ok-clause-names
returns-in-Ok-clause-names g c = c.close.ensures.drives.failed ∙ c.in-Ok.ensures.uses.drives.names

pub returns-in-Ok-clause-none : goal.returns-in-Ok-clause-none
returns-in-Ok-clause-none g c none = (
  sink_alone c.close.result c.carry.new.self.bdos.mounted (c.in-Ok.ensures.uses.none none).bare c.close.ensures.some,
  c.close.ensures.none (none_counted c.carry.new.self.bdos.mounted (c.in-Ok.ensures.uses.none none).bare) ∙ (c.in-Ok.ensures.uses.none none).drives,
)

pub returns-in-Ok-clause-synced : goal.returns-in-Ok-clause-synced
returns-in-Ok-clause-synced g c =
    ok_so c.close.result _ _ (λ syncs. record { between = drive_calls g.D.Drives.unsynced c.carry.new.drives c.carry.new.calls; turns = c.in-Ok.ensures.called; syncs = syncs }) c.close.ensures.synced

pub returns-in-Ok-clause-syncs : goal.returns-in-Ok-clause-syncs
returns-in-Ok-clause-syncs g c =
    syncs_after c.close.result c.args.self.now.bdos c.carry.new.self.bdos.mounted _ (drive_calls g.D.Drives.unsynced c.carry.new.drives c.carry.new.calls) _ c.args.self.now.system
    c.in-Ok.ensures.called c.close.ensures.syncs

pub returns-in-Ok-clause-calls : goal.returns-in-Ok-clause-calls
returns-in-Ok-clause-calls g c =
    omega (arith, c.in-Ok.ensures.called.calls, c.close.ensures.calls, same_count c.args.self.now.bdos.mounted c.carry.new.self.bdos.mounted c.in-Ok.ensures.uses.drives.keeps.labels)

-- or it stopped

pub returns-in-Err-clause-stops : goal.returns-in-Err-clause-stops
returns-in-Err-clause-stops g c s first stands =
    stops_carrying c.in-Err.fault s _ _ _ _ _ first _ _ _ stands.system.parts c.in-Err.ensures.ends.trace stands.system.shown (c.in-Err.ensures.err s.files stands.files) c.in-Err.ensures.called

pub returns-in-Err-clause-syncs : goal.returns-in-Err-clause-syncs
returns-in-Err-clause-syncs g c = inl (c.in-Err.ensures.serves, c.in-Err.ensures.called)

pub returns-in-Err-clause-calls : goal.returns-in-Err-clause-calls
returns-in-Err-clause-calls g c = omega (arith, c.in-Err.ensures.called.calls)

pub returns-in-Err-clause-idle : goal.returns-in-Err-clause-idle
returns-in-Err-clause-idle g c none = same_still g.D.Drives c.args.drives.now c.carry.new.drives (c.in-Err.ensures.idle none)

pub returns-in-Err-clause-ok : goal.returns-in-Err-clause-ok
returns-in-Err-clause-ok g c s first stands = tt

pub returns-in-Err-clause-whole : goal.returns-in-Err-clause-whole
returns-in-Err-clause-whole g c = tt

pub returns-in-Err-clause-ends : goal.returns-in-Err-clause-ends
returns-in-Err-clause-ends g c = c.in-Err.ensures.ends

pub returns-in-Err-clause-keeps : goal.returns-in-Err-clause-keeps
returns-in-Err-clause-keeps g c = c.in-Err.ensures.uses.drives.keeps

pub returns-in-Err-clause-synced : goal.returns-in-Err-clause-synced
returns-in-Err-clause-synced g c = tt

pub returns-in-Err-clause-names : goal.returns-in-Err-clause-names
returns-in-Err-clause-names g c = c.in-Err.ensures.uses.drives.names

pub returns-in-Err-clause-none : goal.returns-in-Err-clause-none
returns-in-Err-clause-none g c bare = let none = c.in-Err.ensures.uses.none bare in (none.sink, none.drives)
