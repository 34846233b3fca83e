use Rattle.std.proofs.Common.{◌≡◌, ◌∙◌, ◌+◌, ◌<◌, ◌==◌, [], ◌∷◌, ◌++◌, None, Some, length, sym, subst, ap, arith}
use Rattle.std.specs.List.{position_or_len, before_first, after_first}
use Rattle.std.proofs.lemmas.Grind.{common_steps}
use Rattle.std.proofs.lemmas.Bool.Decides.{nat_tests}
use Rattle.mpm_fault_lines.specs.Lists.{slot_of_line, parts_of}
use Rattle.mpm_fault_lines.proofs.ListLaws.{AreRead, slots_from, unless_bad, slots_are, from_unended, from_line, from_end, read_more}
use Rattle.mpm_fault_lines.proofs.reading.read_slots.Goals as goal

pub loop-rest-init : goal.loop-rest-init
loop-rest-init c = record {
  read = record { earlier = []; same = slots_are c.args.last c.args.text.now; marks_are = c.new-slots.ensures };
  count = omega arith;
}

pub returns-then-place_of-rest : goal.returns-then-place_of-rest
returns-then-place_of-rest c =
    let some : 0 < length c.loop-rest.rest.now = grind (arith, nat_tests, common_steps) in
    let behind : position_or_len (λ byte. byte == 10) c.loop-rest.rest.now ≡ length c.loop-rest.rest.now = grind (arith, nat_tests, common_steps) in
    c.loop-rest.invariant.read.same ∙ from_unended c.args.last c.loop-rest.line c.loop-rest.invariant.read.earlier c.loop-rest.rest.now some behind

pub returns-in-None : goal.returns-in-None
returns-in-None c =
    let within : position_or_len (λ byte. byte == 10) c.loop-rest.rest.now < length c.loop-rest.rest.now = grind (arith, nat_tests, common_steps) in
    let none : slot_of_line c.args.last (before_first (λ byte. byte == 10) c.loop-rest.rest.now) ≡ None = ap (slot_of_line c.args.last) (sym c.before-in-loop-rest.ensures) ∙ sym c.in-None.ensures.slot in
    c.loop-rest.invariant.read.same ∙ from_line c.args.last c.loop-rest.line c.loop-rest.invariant.read.earlier c.loop-rest.rest.now within
    ∙ ap (unless_bad c.loop-rest.line (λ slot. slots_from c.args.last (c.loop-rest.line + 1) (c.loop-rest.invariant.read.earlier ++ (slot ∷ [])) (parts_of (after_first (λ byte. byte == 10) c.loop-rest.rest.now)))) none

pub loop-rest-preserved : goal.loop-rest-preserved
loop-rest-preserved c =
    let within : position_or_len (λ byte. byte == 10) c.loop-rest.rest.now < length c.loop-rest.rest.now = grind (arith, nat_tests, common_steps) in
    let is : slot_of_line c.args.last (before_first (λ byte. byte == 10) c.loop-rest.rest.now) ≡ Some c.in-Some.slot = ap (slot_of_line c.args.last) (sym c.before-in-loop-rest.ensures) ∙ sym c.in-Some.ensures.slot in
    let small : c.in-Some.slot < 512 = omega (arith, c.in-Some.ensures.limit, c.requires.last) in
    let read = read_more c.args.last c.loop-rest.line c.in-Some.slot c.args.text.now c.loop-rest.rest.now c.after-rest.result.now c.loop-rest.slots c.loop-rest.invariant.read within is small c.after-rest.ensures.rest in
    let shorter = c.after-rest.ensures.size (omega (arith, within)) in
    record {
      read = subst (λ marks. AreRead c.args.last c.args.text.now (c.loop-rest.line + 1) c.after-rest.result.now marks) (sym c.add.ensures) read;
      count = omega (arith, shorter, c.loop-rest.invariant.count);
    }

pub returns : goal.returns
returns c =
    let none : length c.loop-rest.rest.now ≡ 0 = grind (arith, nat_tests, common_steps) in
    (c.loop-rest.invariant.read.earlier, c.loop-rest.invariant.read.same ∙ from_end c.args.last c.loop-rest.line c.loop-rest.invariant.read.earlier c.loop-rest.rest.now none, c.loop-rest.invariant.read.marks_are)
