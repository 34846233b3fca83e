-- Which instructions read a port: IN A,(n), IN r,(C), INI, IND, INIR and INDR. (UM0080, "Input and Output Group".)
use Rattle.std.specs.Prelude.{ℕ, Bool, true, false, Option, Some, None}
use Rattle.z80_decode.specs.declared.instr.Instr.{Instr}
use Rattle.z80_decode.specs.declared.instr.Page.{Page}
use Rattle.z80_decode.specs.declared.instr.Page.TheVariants.{Main, Ed}
use Rattle.z80_decode.specs.declared.forms.Form.{Form}
use Rattle.z80_decode.specs.declared.forms.Form.TheVariants as main
use Rattle.z80_decode.specs.declared.page_forms.ExtendedForm.{ExtendedForm}
use Rattle.z80_decode.specs.declared.page_forms.ExtendedForm.TheVariants as extended
use Rattle.z80_decode.specs.declared.page_forms.Transfer.TheVariants as transfer
use Rattle.z80_decode.specs.Opcodes.{form_of}
use Rattle.z80_decode.specs.PageOpcodes.{extended_form_of}

abbrev pub reads_main : Option Form → Bool
reads_main (Some main.Input) = true
reads_main other = false

abbrev pub reads_extended : Option ExtendedForm → Bool
reads_extended (Some (extended.Input operand)) = true
reads_extended (Some (extended.Block transfer.Input direction repeats)) = true
reads_extended other = false

-- of a page
abbrev pub reads_on : Page → ℕ → Bool
reads_on Main opcode = reads_main (form_of opcode)
reads_on Ed opcode = reads_extended (extended_form_of opcode)
reads_on other opcode = false

abbrev pub reads_port : Instr → Bool
reads_port instr = reads_on instr.page instr.opcode

-- of what stands there, where something does; in a HALT what is at PC doesn't count
abbrev pub reads_of : Option Instr → Bool
reads_of None = false
reads_of (Some instr) = reads_port instr

abbrev pub reads_unless : Bool → Option Instr → Bool
reads_unless true instr = false
reads_unless false instr = reads_of instr
