use Rattle.std.proofs.Common.{◌∙◌, None, Some, refl, sym, ap, subst}
use Rattle.z80_ext.specs.declared.stepped.Stepped.TheVariants.{Ran}
use Rattle.mpm_processor.specs.Moving.{View, view_of}
use Rattle.mpm_processor.proofs.MovingLaws.{same_view}
use Rattle.mpm_replay.specs.declared.stopping.Why.TheVariants.{Illegal}
use Rattle.mpm_replay.specs.Replays.{stopped_by, held_at, AdvancesView}
use Rattle.mpm_replay.proofs.ReplayLaws.{holds, ran_on, ran_none}
use Rattle.mpm_replay.proofs.replaying.advance.Goals as goal

pub returns-in-Stops : goal.returns-in-Stops
returns-in-Stops c =
    let old : View = view_of c.args.spec c.args.regs.now c.args.segment.now c.args.common.now c.args.devices.now in
    let now : View = view_of c.args.spec c.args.regs.now c.find_next.new.segment c.find_next.new.common c.find_next.new.devices in
    holds c.args.inside old now (stopped_by c.find_next.result) c.in-Stops.why c.find_next.ensures.stops
    (same_view c.args.spec c.args.regs.now c.args.segment.now c.args.common.now c.args.devices.now _ _ _ c.find_next.ensures.segment c.find_next.ensures.common c.find_next.ensures.devices)
    (ap stopped_by c.in-Stops.is)

pub returns-in-Ran : goal.returns-in-Ran
returns-in-Ran c =
    let now : View = view_of c.args.spec c.args.regs.now c.find_next.new.segment c.find_next.new.common c.find_next.new.devices in
    let new : View = view_of c.args.spec c.execute.new.regs c.execute.new.segment c.execute.new.common c.execute.new.devices in
    let stays = same_view c.args.spec c.args.regs.now c.args.segment.now c.args.common.now c.args.devices.now _ _ _ c.find_next.ensures.segment c.find_next.ensures.common c.find_next.ensures.devices in
    subst (λ (v : View). AdvancesView c.args.inside v new None) stays
    (ran_on c.args.inside now new c.execute.result (ap (held_at c.args.inside) stays ∙ sym c.find_next.ensures.stops ∙ ap stopped_by c.in-Steps.is)
    c.execute.ensures c.in-Ran.is)

pub returns-in-Loads : goal.returns-in-Loads
returns-in-Loads c =
    let now : View = view_of c.args.spec c.args.regs.now c.find_next.new.segment c.find_next.new.common c.find_next.new.devices in
    let new : View = view_of c.args.spec c.execute_load.new.regs c.execute_load.new.segment c.execute_load.new.common c.execute_load.new.devices in
    let stays = same_view c.args.spec c.args.regs.now c.args.segment.now c.args.common.now c.args.devices.now _ _ _ c.find_next.ensures.segment c.find_next.ensures.common c.find_next.ensures.devices in
    subst (λ (v : View). AdvancesView c.args.inside v new None) stays
    (ran_on c.args.inside now new Ran (ap (held_at c.args.inside) stays ∙ sym c.find_next.ensures.stops ∙ ap stopped_by c.in-Loads.is)
    c.execute_load.ensures refl)

pub returns-in-Illegal : goal.returns-in-Illegal
returns-in-Illegal c =
    let now : View = view_of c.args.spec c.args.regs.now c.find_next.new.segment c.find_next.new.common c.find_next.new.devices in
    let new : View = view_of c.args.spec c.execute.new.regs c.execute.new.segment c.execute.new.common c.execute.new.devices in
    let stays = same_view c.args.spec c.args.regs.now c.args.segment.now c.args.common.now c.args.devices.now _ _ _ c.find_next.ensures.segment c.find_next.ensures.common c.find_next.ensures.devices in
    subst (λ (v : View). AdvancesView c.args.inside v new (Some Illegal)) stays
    (ran_none c.args.inside now new c.execute.result (ap (held_at c.args.inside) stays ∙ sym c.find_next.ensures.stops ∙ ap stopped_by c.in-Steps.is)
    c.execute.ensures c.in-Illegal.is)
