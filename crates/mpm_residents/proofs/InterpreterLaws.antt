-- Where the code of a program lies, and where the interpreter comes to from a refusal, whatever is answered.
use Rattle.std.proofs.Common.{◌≡◌, ℕ, ◌+◌, ◌*◌, ◌<◌, ◌≤◌, ap, arith}
use Rattle.std.proofs.Math.Nat.{mod-eq_of_lt}
use Rattle.mpm_base.specs.Calls.{Answer}
use Rattle.mpm_base.specs.declared.functions.TheConstants.{PRINT_STRING}
use Rattle.mpm_base.specs.declared.segment.SegmentSpec.{SegmentSpec}
use Rattle.mpm_loader.specs.Plans.{FitsIn}
use Rattle.mpm_loader.specs.declared.plan.Plan.{Plan}
use Rattle.mpm_residents.specs.Messages.{message_of}
use Rattle.mpm_residents.specs.Interpreters.{Interpreter, asking, code_address, last_page, next_call, took, took_at}
use Rattle.mpm_residents.specs.declared.cli.table.Message.{Message}
use Rattle.mpm_residents.specs.declared.cli.table.Row.{Row}
use Rattle.mpm_residents.specs.declared.cli.table.Row.TheVariants.{ReadCommand, Free, Close, Begin}

-- in a segment of the pages that were asked for, which ends below common memory, code follows the base page, at its
-- place, and ends before the last page
pub code_stands_at : (spec : SegmentSpec) (plan : Plan) (asked place : ℕ) → FitsIn plan asked → asked ≤ spec.pages → spec.base + spec.pages ≤ 192 → place < plan.length → code_address spec place ≡ 256 * spec.base + 256 + place
code_stands_at spec plan asked place fits enough below within =
    let small : 256 * spec.base + 256 + place < 65536 = omega (arith, fits.before_last) in
    mod-eq_of_lt small

pub code_ends_before : (spec : SegmentSpec) (plan : Plan) (asked place count : ℕ) → FitsIn plan asked → asked ≤ spec.pages → spec.base + spec.pages ≤ 192 → 0 < count → place + count ≤ plan.length → code_address spec place + count ≤ 256 * last_page spec
code_ends_before spec plan asked place count fits enough below some within =
    omega (arith, fits.before_last, code_stands_at spec plan asked place fits enough below (omega arith))

-- where the segment is freed, the file is closed, the text is written, the console is given back and the next command is read
pub told_after_freeing : (cli : Interpreter) (message : Message) (freed closed : Answer) → cli.row ≡ Free message → next_call (took (took cli freed) closed) ≡ asking PRINT_STRING cli.console (message_of message)
unfolding took next_call
told_after_freeing cli message freed closed is = ap (λ (row : Row). next_call (took (took_at row cli freed) closed)) is

pub reads_after_freeing : (cli : Interpreter) (message : Message) (freed closed told given : Answer) → cli.row ≡ Free message → (took (took (took (took cli freed) closed) told) given).row ≡ ReadCommand
unfolding took
reads_after_freeing cli message freed closed told given is = ap (λ (row : Row). (took (took (took (took_at row cli freed) closed) told) given).row) is

-- where all bytes were had, the file is closed, the base page is placed, and the process begins
pub begins_after_closing : (cli : Interpreter) (closed placed : Answer) → cli.row ≡ Close → (took (took cli closed) placed).row ≡ Begin
unfolding took
begins_after_closing cli closed placed is = ap (λ (row : Row). (took (took_at row cli closed) placed).row) is
