use Rattle.std.proofs.Common.{◌≡◌, ◌∙◌, ◌+◌, ◌<◌, length, sym, ap, arith}
use Rattle.std.specs.Str.Lines.{lines}
use Rattle.std.proofs.lemmas.Grind.{common_steps}
use Rattle.std.proofs.lemmas.Bool.Decides.{nat_tests}
use Rattle.mpm_script.specs.Scripts.{lines_from}
use Rattle.mpm_script.proofs.LineLaws.{from_bad, from_good, from_end}
use Rattle.mpm_script.proofs.reading.events.Goals as goal

pub returns-in-Err-Bad : goal.returns-in-Err-Bad
returns-in-Err-Bad c =
    let some : 0 < length c.loop-rest.rest.now = grind (arith, nat_tests, common_steps) in
    let bad = rw (c.in-Err-Bad.field-0-is, c.first_line.ensures) at c.in-Err-Bad.ensures in
    c.loop-rest.invariant.read ∙ from_bad c.loop-rest.line c.loop-rest.events.items c.loop-rest.rest.now some bad

pub loop-rest-preserved : goal.loop-rest-preserved
loop-rest-preserved c =
    let some : 0 < length c.loop-rest.rest.now = grind (arith, nat_tests, common_steps) in
    let good = rw c.first_line.ensures at c.in-Ok.ensures in
    let shorter = c.after-rest.ensures.size some in
    record {
      read = c.loop-rest.invariant.read
          ∙ (from_good c.loop-rest.line c.loop-rest.events.items c.add_line.new.events.items c.loop-rest.rest.now some good
          ∙ ap (λ text. lines_from (c.loop-rest.line + 1) c.add_line.new.events.items (lines text)) (sym c.after-rest.ensures.rest));
      count = omega (arith, shorter, c.loop-rest.invariant.count);
    }

pub returns : goal.returns
returns c =
    let none : length c.loop-rest.rest.now ≡ 0 = grind (arith, nat_tests, common_steps) in
    c.loop-rest.invariant.read ∙ from_end c.loop-rest.line c.loop-rest.events.items c.loop-rest.rest.now none
