-- An instruction that reads no port does the same whatever the ports read.
use Rattle.std.proofs.Common.{◌≡◌, ℕ, Bool, true, false, Option, Some, None, if◌then◌else◌, refl, ap, sym}
use Rattle.std.proofs.lemmas.Bool.{false≢true}
use Rattle.z80_regs.specs.Outcome.{StepOutcome}
use Rattle.z80_regs.specs.declared.regs.Regs.{Regs}
use Rattle.z80_decode.specs.declared.instr.Instr.{Instr}
use Rattle.z80_decode.specs.declared.instr.Page.{Page}
use Rattle.z80_decode.specs.declared.instr.Page.TheVariants.{Main, Cb, Ed, Ix, Iy, IxCb, IyCb}
use Rattle.z80_decode.specs.declared.forms.Form.{Form}
use Rattle.z80_decode.specs.declared.forms.Form.TheVariants.{Nop, ExchangeAf, DecrementJump, JumpRelative, JumpRelativeIf, LoadPair, AddPair, StoreAAt, LoadAFrom, StoreHl, LoadHl, StoreA, LoadA, IncrementPair, DecrementPair, Increment, Decrement, LoadNumber, Rotate, DecimalAdjust, Complement, SetCarry, ComplementCarry, Load, Halt, Calculate, CalculateNumber, ReturnIf, Pop, Return, Exchange, JumpHl, LoadSpHl, JumpIf, Jump, Output, Input, ExchangeStack, ExchangeDe, DisableInterrupts, EnableInterrupts, CallIf, Push, Call, Restart}
use Rattle.z80_decode.specs.declared.page_forms.ExtendedForm.{ExtendedForm}
use Rattle.z80_decode.specs.declared.page_forms.ExtendedForm.TheVariants as extended
use Rattle.z80_decode.specs.declared.page_forms.Transfer.TheVariants as transfer
use Rattle.z80_decode.specs.Opcodes.{form_of}
use Rattle.z80_decode.specs.PageOpcodes.{extended_form_of}
use Rattle.z80_decode.specs.Decoding.{instr_of}
use Rattle.z80_exec.specs.Performing.{performed, outcome_by, main_outcome}
use Rattle.z80_ext.specs.Extended.{extended_performed, extended_by, extended_outcome}
use Rattle.z80_ext.specs.Instruction.{begun, four_from, page_outcome, outcome_of, instruction}
use Rattle.mpm_replay.specs.Ports.{reads_main, reads_extended, reads_on, reads_of, reads_unless}

abbrev Same : (Instr → Regs → (ℕ → ℕ) → (ℕ → ℕ) → StepOutcome) → Type 0
Same does = (instr : Instr) (regs : Regs) (memory ports other : ℕ → ℕ) → does instr regs memory ports ≡ does instr regs memory other

main_same : (form : Form) → reads_main (Some form) ≡ false → Same (performed form)
unfolding performed
main_same Nop none = λ instr regs memory ports other. refl
main_same ExchangeAf none = λ instr regs memory ports other. refl
main_same DecrementJump none = λ instr regs memory ports other. refl
main_same JumpRelative none = λ instr regs memory ports other. refl
main_same (JumpRelativeIf a) none = λ instr regs memory ports other. refl
main_same (LoadPair a) none = λ instr regs memory ports other. refl
main_same (AddPair a) none = λ instr regs memory ports other. refl
main_same (StoreAAt a) none = λ instr regs memory ports other. refl
main_same (LoadAFrom a) none = λ instr regs memory ports other. refl
main_same StoreHl none = λ instr regs memory ports other. refl
main_same LoadHl none = λ instr regs memory ports other. refl
main_same StoreA none = λ instr regs memory ports other. refl
main_same LoadA none = λ instr regs memory ports other. refl
main_same (IncrementPair a) none = λ instr regs memory ports other. refl
main_same (DecrementPair a) none = λ instr regs memory ports other. refl
main_same (Increment a) none = λ instr regs memory ports other. refl
main_same (Decrement a) none = λ instr regs memory ports other. refl
main_same (LoadNumber a) none = λ instr regs memory ports other. refl
main_same (Rotate a) none = λ instr regs memory ports other. refl
main_same DecimalAdjust none = λ instr regs memory ports other. refl
main_same Complement none = λ instr regs memory ports other. refl
main_same SetCarry none = λ instr regs memory ports other. refl
main_same ComplementCarry none = λ instr regs memory ports other. refl
main_same (Load a b) none = λ instr regs memory ports other. refl
main_same Halt none = λ instr regs memory ports other. refl
main_same (Calculate a b) none = λ instr regs memory ports other. refl
main_same (CalculateNumber a) none = λ instr regs memory ports other. refl
main_same (ReturnIf a) none = λ instr regs memory ports other. refl
main_same (Pop a) none = λ instr regs memory ports other. refl
main_same Return none = λ instr regs memory ports other. refl
main_same Exchange none = λ instr regs memory ports other. refl
main_same JumpHl none = λ instr regs memory ports other. refl
main_same LoadSpHl none = λ instr regs memory ports other. refl
main_same (JumpIf a) none = λ instr regs memory ports other. refl
main_same Jump none = λ instr regs memory ports other. refl
main_same Output none = λ instr regs memory ports other. refl
main_same Input none = absurd (false≢true (sym none))
main_same ExchangeStack none = λ instr regs memory ports other. refl
main_same ExchangeDe none = λ instr regs memory ports other. refl
main_same DisableInterrupts none = λ instr regs memory ports other. refl
main_same EnableInterrupts none = λ instr regs memory ports other. refl
main_same (CallIf a) none = λ instr regs memory ports other. refl
main_same (Push a) none = λ instr regs memory ports other. refl
main_same Call none = λ instr regs memory ports other. refl
main_same (Restart a) none = λ instr regs memory ports other. refl

extended_same : (form : ExtendedForm) → reads_extended (Some form) ≡ false → Same (extended_performed form)
unfolding extended_performed
extended_same (extended.Input a) none = absurd (false≢true (sym none))
extended_same (extended.Output a) none = λ instr regs memory ports other. refl
extended_same (extended.SubtractPair a) none = λ instr regs memory ports other. refl
extended_same (extended.AddPair a) none = λ instr regs memory ports other. refl
extended_same (extended.StorePair a) none = λ instr regs memory ports other. refl
extended_same (extended.LoadPair a) none = λ instr regs memory ports other. refl
extended_same extended.Negate none = λ instr regs memory ports other. refl
extended_same extended.ReturnNonmaskable none = λ instr regs memory ports other. refl
extended_same extended.ReturnInterrupt none = λ instr regs memory ports other. refl
extended_same (extended.Mode a) none = λ instr regs memory ports other. refl
extended_same extended.StoreI none = λ instr regs memory ports other. refl
extended_same extended.StoreR none = λ instr regs memory ports other. refl
extended_same extended.LoadI none = λ instr regs memory ports other. refl
extended_same extended.LoadR none = λ instr regs memory ports other. refl
extended_same extended.RotateRight none = λ instr regs memory ports other. refl
extended_same extended.RotateLeft none = λ instr regs memory ports other. refl
extended_same (extended.Block transfer.Load a b) none = λ instr regs memory ports other. refl
extended_same (extended.Block transfer.Compare a b) none = λ instr regs memory ports other. refl
extended_same (extended.Block transfer.Input a b) none = absurd (false≢true (sym none))
extended_same (extended.Block transfer.Output a b) none = λ instr regs memory ports other. refl

by_main : (form : Option Form) → reads_main form ≡ false → Same (outcome_by form)
by_main None none = λ instr regs memory ports other. refl
by_main (Some form) none = λ instr regs memory ports other. main_same form none instr _ memory ports other

by_extended : (form : Option ExtendedForm) → reads_extended form ≡ false → Same (extended_by form)
by_extended None none = λ instr regs memory ports other. refl
by_extended (Some form) none = λ instr regs memory ports other. extended_same form none instr _ memory ports other

-- on each page
page_same : (page : Page) (instr : Instr) (regs : Regs) (memory ports other : ℕ → ℕ) → reads_on page instr.opcode ≡ false
    → page_outcome page instr regs memory ports ≡ page_outcome page instr regs memory other
unfolding main_outcome extended_outcome
page_same Main instr regs memory ports other none = by_main (form_of instr.opcode) none instr regs memory ports other
page_same Cb instr regs memory ports other none = refl
page_same Ed instr regs memory ports other none = by_extended (extended_form_of instr.opcode) none instr regs memory ports other
page_same Ix instr regs memory ports other none = refl
page_same Iy instr regs memory ports other none = refl
page_same IxCb instr regs memory ports other none = refl
page_same IyCb instr regs memory ports other none = refl

instr_same : (instr : Option Instr) (regs : Regs) (memory ports other : ℕ → ℕ) → reads_of instr ≡ false → outcome_of instr regs memory ports ≡ outcome_of instr regs memory other
instr_same None regs memory ports other none = refl
instr_same (Some instr) regs memory ports other none = ap Some (page_same instr.page instr (begun regs) memory ports other none)

by_halt : (halted : Bool) (instr : Option Instr) (rest : Option StepOutcome) (regs : Regs) (memory ports other : ℕ → ℕ) → reads_unless halted instr ≡ false
    → (if halted then rest else (outcome_of instr regs memory ports)) ≡ (if halted then rest else (outcome_of instr regs memory other))
by_halt true instr rest regs memory ports other none = refl
by_halt false instr rest regs memory ports other none = instr_same instr regs memory ports other none

-- so it is at PC
pub same_ports : (regs : Regs) (memory ports other : ℕ → ℕ) → reads_unless regs.halted (instr_of (four_from memory regs.pc)) ≡ false
    → instruction regs memory ports ≡ instruction regs memory other
unfolding instruction
same_ports regs memory ports other none = by_halt regs.halted (instr_of (four_from memory regs.pc)) _ regs memory ports other none
