use Rattle.std.proofs.Common.{ℕ, Option, sym, subst}
use Rattle.z80_ext.specs.Steps.{IsFetched}
use Rattle.mpm_banks.specs.Memory.{byte_at}
use Rattle.mpm_processor.specs.Moving.{View, view_of, IsPaused}
use Rattle.mpm_processor.proofs.MovingLaws.{same_view}
use Rattle.mpm_processor.proofs.PlainLaws.{paused_halted}
use Rattle.mpm_processor.proofs.instruction.pause_in_halt.Goals as goal

pub returns : goal.returns
returns c = λ most some.
    let view : View = view_of c.args.spec c.args.regs.now c.args.segment.now c.args.common.now c.args.devices.now in
    let new : View = view_of c.args.spec c.args.regs.now c.fetch-here.new.segment c.fetch-here.new.common c.fetch-here.new.devices in
    let same = same_view c.args.spec c.args.regs.now c.args.segment.now c.args.common.now c.args.devices.now _ _ _ c.fetch-here.ensures.segment c.fetch-here.ensures.common c.fetch-here.ensures.devices in
    let P : Option ℕ → Type 0 = λ opcode. IsPaused c.args.inside most view new (record { done = 0; opcode = opcode }) in
    subst P (sym c.opcode_of.ensures)
    (paused_halted (IsFetched (byte_at view.memory 0) view.regs.pc) (λ fetched. fetched.opcode) c.args.inside most c.fetch-here.result view new (λ fetched is. is.opcode) some same c.requires.halted c.fetch-here.ensures.fetched c.fetch-here.ensures.gate)
