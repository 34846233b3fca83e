use Rattle.std.proofs.Common.{◌≡◌, None, Some, refl, sym, ap, subst, ◌∙◌}
use Rattle.z80_regs.specs.Words.{onward}
use Rattle.z80_regs.specs.Outcome.{StepOutcome, LeavesBus}
use Rattle.z80_decode.specs.PageOpcodes.{indexed_bit_form_of}
use Rattle.z80_exec.specs.Flow.{relative}
use Rattle.z80_exec.specs.Performing.{behind}
use Rattle.z80_ext.specs.Index.{index_word}
use Rattle.z80_ext.proofs.Next.{bits_plain, bits_done}
use Rattle.z80_ext.proofs.index.step_index_bits.Goals as goal

pub returns-in-None : goal.returns-in-None
returns-in-None g c =
    let byte = g.B.Bus.byte c.args.bus.now (onward c.args.regs.now.pc 3) in
    let is : indexed_bit_form_of byte ≡ None = ap indexed_bit_form_of (sym c.fourth_byte.ensures) ∙ sym c.indexed_bit_form.ensures ∙ c.in-None.is in
    record { plain = bits_plain c.args.index c.args.displacement byte None is; registers = tt; bus = tt; registers_stay = refl; bus_stays = refl }

pub returns-in-Some : goal.returns-in-Some
returns-in-Some g c =
    let regs = c.args.regs.now in
    let memory = g.B.Bus.byte c.args.bus.now in
    let byte = memory (onward regs.pc 3) in
    let form = c.in-Some.form in
    let address = c.address_at.result in
    let is : indexed_bit_form_of byte ≡ Some form = ap indexed_bit_form_of (sym c.fourth_byte.ensures) ∙ sym c.indexed_bit_form.ensures ∙ c.in-Some.is in
    let at : address ≡ relative (index_word c.args.index (behind 4 regs)) c.args.displacement = c.address_at.ensures in
    let does = bits_done c.args.index form c.args.displacement byte address regs memory (g.B.Bus.port_byte c.args.bus.now) is at in
    record {
      plain = bits_plain c.args.index c.args.displacement byte (Some form) is;
      registers = c.act_on_memory.ensures.registers ∙ ap (λ (outcome : StepOutcome). outcome.registers) does;
      bus = subst (λ (outcome : StepOutcome). LeavesBus g.B.Bus.wrote g.B.Bus.took outcome.actions c.args.bus.now c.act_on_memory.new.bus) does c.act_on_memory.ensures.bus;
      registers_stay = tt;
      bus_stays = tt;
    }
