use Rattle.std.proofs.Common.{◌∙◌, ap, sym}
use Rattle.mpm_base.proofs.Options.{none_there}
use Rattle.z80_regs.specs.declared.regs.Regs.{Regs}
use Rattle.z80_ext.proofs.Begun.{unbegun_runs}
use Rattle.mpm_banks.specs.Memory.{byte_at}
use Rattle.mpm_banks.specs.Ports.{port_byte}
use Rattle.mpm_processor.specs.Moving.{View, view_of}
use Rattle.mpm_processor.proofs.MovingLaws.{moves_to, same_view}
use Rattle.mpm_processor.proofs.PlainLaws.{begun_view, plain_none, plain_more}
use Rattle.mpm_processor.proofs.instruction.execute_plain.Goals as goal

pub loop-done-init : goal.loop-done-init
loop-done-init c = record { moved = plain_none c.args.inside _; runs = c.if-regs.false }

pub loop-done-preserved : goal.loop-done-preserved
loop-done-preserved c =
    let before : View = view_of c.args.spec c.loop-done.regs c.loop-done.segment c.loop-done.common c.loop-done.devices in
    let now : View = view_of c.args.spec c.loop-done.regs c.fetch.new.segment c.fetch.new.common c.fetch.new.devices in
    let new : View = view_of c.args.spec c.execute_unbegun.new.regs c.execute_unbegun.new.segment c.execute_unbegun.new.common c.execute_unbegun.new.devices in
    let fetched = same_view c.args.spec c.loop-done.regs c.loop-done.segment c.loop-done.common c.loop-done.devices _ _ _ c.fetch.ensures.segment c.fetch.ensures.common c.fetch.ensures.devices in
    let left = c.in-None-execute_unbegun.ensures in
    record {
      moved = plain_more c.args.inside c.loop-done.done _ now new
          (moves_to c.args.inside c.loop-done.done 0 _ (begun_view c.loop-done.done before) (begun_view c.loop-done.done now) c.loop-done.invariant.moved (ap (begun_view c.loop-done.done) fetched))
          (none_there _ (sym c.in-Some.ensures.gate)) c.loop-done.invariant.runs (sym left.plain) left.registers left.memory left.devices;
      runs = ap (λ (r : Regs). r.halted) left.registers
          ∙ unbegun_runs c.loop-done.regs (byte_at now.memory 0) (port_byte now.devices) (sym left.plain) ∙ c.loop-done.invariant.runs;
    }
