-- Instructions that begin one after another, and plain ones whose beginnings are put off to the last of them.
use Rattle.std.proofs.Common.{◌≡◌, ◌∙◌, ℕ, ◌+◌, ◌*◌, ◌/◌, ◌%◌, ◌==◌, ◌&&◌, true, false, Option, None, Some, if◌then◌else◌, refl, sym, ap, arith}
use Rattle.std.proofs.lemmas.Bool.{eqb-true, false_from_ne_true}
use Rattle.z80_regs.specs.Words.{refreshed}
use Rattle.z80_regs.specs.Outcome.{StepOutcome}
use Rattle.z80_regs.specs.declared.regs.Regs.{Regs}
use Rattle.z80_decode.specs.declared.instr.Instr.{Instr}
use Rattle.z80_decode.specs.Decoding.{instr_of}
use Rattle.z80_exec.specs.Operands.{quiet}
use Rattle.z80_exec.proofs.Beside.{outcome_beside}
use Rattle.z80_ext.specs.Instruction.{refreshed_times, risen, begun, begun_times, is_plain_instr, is_plain_at, four_from, outcome_of, instruction, unbegun_of, unbegun}
use Rattle.z80_ext.proofs.Beside.{plain_beside}

no_zero : (n : ℕ) → (n ≡ 0 → ⊥) → (n == 0) ≡ false
no_zero n other = false_from_ne_true (n == 0) (λ same. other (eqb-true n 0 same))

-- none begins, and some, as code computes them
pub begun_none : (n : ℕ) (regs : Regs) → n ≡ 0 → begun_times n regs ≡ regs
begun_none n regs none =
    let stays : refreshed_times 0 regs.r ≡ regs.r = omega arith in
    ap (λ k. begun_times k regs) none ∙ ap (λ x. record regs { r = x }) stays

pub begun_some : (n : ℕ) (regs : Regs) → (n ≡ 0 → ⊥)
    → (record regs { r = regs.r / 128 * 128 + (regs.r % 128 + n % 128) % 128; shadow = false }) ≡ begun_times n regs
begun_some n regs other =
    let rises : regs.r / 128 * 128 + (regs.r % 128 + n % 128) % 128 ≡ refreshed_times n regs.r = omega arith in
    ap (λ x. record regs { r = x; shadow = false }) rises
    ∙ ap (λ b. record regs { r = refreshed_times n regs.r; shadow = b && regs.shadow }) (sym (no_zero n other))

-- one more
begun_more : (n : ℕ) (regs : Regs) → begun_times (n + 1) regs ≡ begun (begun_times n regs)
begun_more n regs =
    let rises : refreshed_times (n + 1) regs.r ≡ refreshed (refreshed_times n regs.r) = omega arith in
    ap (λ x. record regs { r = x; shadow = (n + 1 == 0) && regs.shadow }) rises
    ∙ ap (λ b. record regs { r = refreshed (refreshed_times n regs.r); shadow = b && regs.shadow }) (no_zero (n + 1) (λ e. absurd (omega (arith, e))))

-- what a plain instruction leaves of R, the shadow and HALT
stays : (regs : Regs) (memory ports : ℕ → ℕ) → is_plain_at regs memory ≡ true
    → unbegun regs memory ports ≡ outcome_beside regs.r regs.shadow regs.halted (unbegun regs memory ports)
stays regs memory ports plain =
    plain_beside (instr_of (four_from memory regs.pc)) regs.r regs.shadow regs.halted regs memory ports plain

pub unbegun_runs : (regs : Regs) (memory ports : ℕ → ℕ) → is_plain_at regs memory ≡ true
    → (unbegun regs memory ports).registers.halted ≡ regs.halted
unbegun_runs regs memory ports plain = ap (λ (o : StepOutcome). o.registers.halted) (stays regs memory ports plain)

-- other beginnings before it are other beginnings after it
begins_behind : (n : ℕ) (regs : Regs) (memory ports : ℕ → ℕ) → is_plain_at regs memory ≡ true
    → unbegun_of (instr_of (four_from memory regs.pc)) (begun_times n regs) memory ports
    ≡ record (unbegun regs memory ports) { registers = begun_times n (unbegun regs memory ports).registers }
begins_behind n regs memory ports plain =
    let left : StepOutcome = unbegun regs memory ports in
    let same = stays regs memory ports plain in
    plain_beside (instr_of (four_from memory regs.pc)) (refreshed_times n regs.r) ((n == 0) && regs.shadow) regs.halted regs memory ports plain
    ∙ ap (λ x. outcome_beside (refreshed_times n x) ((n == 0) && regs.shadow) regs.halted left) (sym (ap (λ (o : StepOutcome). o.registers.r) same))
    ∙ ap (λ s. outcome_beside (refreshed_times n left.registers.r) ((n == 0) && s) regs.halted left) (sym (ap (λ (o : StepOutcome). o.registers.shadow) same))
    ∙ ap (λ h. outcome_beside (refreshed_times n left.registers.r) ((n == 0) && left.registers.shadow) h left) (sym (ap (λ (o : StepOutcome). o.registers.halted) same))

begins : (instr : Option Instr) (regs : Regs) (memory ports : ℕ → ℕ) → is_plain_instr instr ≡ true
    → outcome_of instr regs memory ports ≡ Some (unbegun_of instr (begun regs) memory ports)
begins None regs memory ports plain = absurd (cc)
begins (Some instr) regs memory ports plain = refl

-- a plain instruction after n others, of all of which the beginnings are put off
pub unbegun_is : (n : ℕ) (regs : Regs) (memory ports : ℕ → ℕ) → regs.halted ≡ false → is_plain_at regs memory ≡ true
    → instruction (begun_times n regs) memory ports
    ≡ Some (record (unbegun regs memory ports) { registers = begun_times (n + 1) (unbegun regs memory ports).registers })
unfolding instruction
unbegun_is n regs memory ports runs plain =
    let now : Regs = begun_times n regs in
    let here : Option Instr = instr_of (four_from memory regs.pc) in
    ap (λ halted. if halted then Some (quiet (risen now)) else (outcome_of here now memory ports)) runs
    ∙ begins here now memory ports plain
    ∙ ap (λ r. Some (unbegun_of here r memory ports)) (sym (begun_more n regs))
    ∙ ap Some (begins_behind (n + 1) regs memory ports plain)

-- one by itself
pub unbegun_once : (regs : Regs) (memory ports : ℕ → ℕ) → regs.halted ≡ false → is_plain_at regs memory ≡ true
    → instruction regs memory ports
    ≡ Some (record (unbegun regs memory ports) { registers = begun_times 1 (unbegun regs memory ports).registers })
unbegun_once regs memory ports runs plain =
    ap (λ r. instruction r memory ports) (sym (begun_none 0 regs refl)) ∙ unbegun_is 0 regs memory ports runs plain
