use Rattle.std.proofs.Common.{◌∙◌, Bool, Some, ap, sym, subst}
use Rattle.z80_regs.specs.Words.{onward}
use Rattle.z80_regs.specs.Outcome.{StepOutcome}
use Rattle.z80_decode.specs.Opcodes.{form_of}
use Rattle.z80_exec.specs.Leaving.{LeavesWhere}
use Rattle.z80_exec.specs.Performing.{is_plain, next_with}
use Rattle.z80_ext.specs.Instruction.{unbegun}
use Rattle.z80_ext.proofs.Next.{main_plain, main_does}
use Rattle.z80_ext.proofs.act.Goals as goal

pub returns-in-Some : goal.returns-in-Some
returns-in-Some g c =
    let regs = c.args.regs.now in
    let memory = g.B.Bus.byte c.args.bus.now in
    let ports = g.B.Bus.port_byte c.args.bus.now in
    let form = c.in-Some.form in
    let fetched = c.args.fetched in
    let known = ap form_of (sym c.requires.opcode) ∙ sym c.main_form.ensures ∙ c.in-Some.is in
    let does = main_does form regs memory ports known
    ∙ ap (λ byte. next_with form byte (memory (onward regs.pc 1)) (memory (onward regs.pc 2)) regs memory ports) (sym c.requires.opcode)
    ∙ ap (λ byte. next_with form fetched.opcode byte (memory (onward regs.pc 2)) regs memory ports) (sym c.requires.first)
    ∙ ap (λ byte. next_with form fetched.opcode fetched.first byte regs memory ports) (sym c.requires.second) in
    let P : Bool → StepOutcome → Type 0 = λ acts outcome. LeavesWhere g.B.Bus acts outcome c.plain_next.result regs c.plain_next.new.regs c.args.bus.now c.plain_next.new.bus in
    subst (λ acts. P acts (unbegun regs memory ports)) (sym (main_plain form regs memory known))
    (subst (P (is_plain (Some form))) (sym does) c.plain_next.ensures)
