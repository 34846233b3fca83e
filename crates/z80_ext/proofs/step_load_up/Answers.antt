use Rattle.std.proofs.Common.{◌∙◌, true, Option, ap, sym, subst}
use Rattle.std.specs.Prelude.{is_some}
use Rattle.z80_regs.specs.Outcome.{StepOutcome, LeavesBus}
use Rattle.z80_regs.specs.declared.regs.Regs.{Regs}
use Rattle.z80_decode.specs.declared.page_forms.Direction.TheVariants.{Up}
use Rattle.z80_ext.specs.Block.{block_loaded}
use Rattle.z80_ext.specs.Instruction.{registers_after, actions_of}
use Rattle.z80_ext.proofs.LoadUp.{load_up_is}
use Rattle.z80_ext.proofs.step_load_up.Goals as goal

pub returns-clause-listed : goal.returns-clause-listed
returns-clause-listed g c = ap is_some (load_up_is _ _ _ c.requires)

pub returns-clause-registers : goal.returns-clause-registers
returns-clause-registers g c =
    let does = load_up_is c.args.regs.now (g.B.Bus.byte c.args.bus.now) (g.B.Bus.port_byte c.args.bus.now) c.requires in
    c.load_block.ensures.registers
    ∙ ap (λ (regs : Regs). (block_loaded Up true regs (g.B.Bus.byte c.args.bus.now)).registers) c.begin_behind.ensures
    ∙ ap (λ outcome. registers_after outcome c.args.regs.now) (sym does)

pub returns-clause-bus : goal.returns-clause-bus
returns-clause-bus g c =
    let does = load_up_is c.args.regs.now (g.B.Bus.byte c.args.bus.now) (g.B.Bus.port_byte c.args.bus.now) c.requires in
    let P : Option StepOutcome → Type 0 = λ outcome. LeavesBus g.B.Bus.wrote g.B.Bus.took (actions_of outcome) c.args.bus.now c.load_block.new.bus in
    let Q : Regs → Type 0 = λ regs. LeavesBus g.B.Bus.wrote g.B.Bus.took (block_loaded Up true regs (g.B.Bus.byte c.args.bus.now)).actions c.args.bus.now c.load_block.new.bus in
    subst P (sym does) (subst Q c.begin_behind.ensures c.load_block.ensures.bus)
