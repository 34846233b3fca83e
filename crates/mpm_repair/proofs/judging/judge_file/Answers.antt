use Rattle.std.proofs.Common.{rules, ◌≡◌, ◌∙◌, ◌||◌, true, false, nat_lt, None, Some, sym, arith}
use Rattle.std.specs.Prelude.{position}
use Rattle.std.proofs.lemmas.Bool.Decides.{nat_tests}
use Rattle.mpm_mount.specs.Faults.{is_outside, is_named, name_of, some_place}
use Rattle.mpm_repair.specs.FaultLists.{shared_in}
use Rattle.mpm_repair.proofs.Judged.{many_records, block_outside, block_shared, number_taken, extent_far, file_sound}
use Rattle.mpm_repair.proofs.judging.judge_file.Goals as goal

pub returns-then-file-gt128 : goal.returns-then-file-gt128
returns-then-file-gt128 c =
    let many : nat_lt 128 c.args.file.now.rc ≡ true = grind (arith, nat_tests) in
    c.fault.ensures ∙ sym (many_records c.args.kind c.args.earlier.now c.args.slot c.args.file.now many)

pub returns-then-has_outside : goal.returns-then-has_outside
returns-then-has_outside c =
    let few : nat_lt 128 c.args.file.now.rc ≡ false = grind (arith, nat_tests) in
    let outside : some_place c.args.kind (is_outside c.args.kind c.args.file.now) ≡ true = search rules in
    c.fault-then-has_outside.ensures ∙ sym (block_outside c.args.kind c.args.earlier.now c.args.slot c.args.file.now few outside)

pub returns-in-Some : goal.returns-in-Some
returns-in-Some c =
    let few : nat_lt 128 c.args.file.now.rc ≡ false = grind (arith, nat_tests) in
    let inside : some_place c.args.kind (is_outside c.args.kind c.args.file.now) ≡ false = search rules in
    let shared : shared_in c.args.kind c.args.earlier.now c.args.slot c.args.file.now ≡ Some c.in-Some.other = search rules in
    c.clash.ensures ∙ sym (block_shared c.args.kind c.args.earlier.now c.args.slot c.in-Some.other c.args.file.now few inside shared)

pub returns-in-Some-named_slot : goal.returns-in-Some-named_slot
returns-in-Some-named_slot c =
    let few : nat_lt 128 c.args.file.now.rc ≡ false = grind (arith, nat_tests) in
    let inside : some_place c.args.kind (is_outside c.args.kind c.args.file.now) ≡ false = search rules in
    let none : shared_in c.args.kind c.args.earlier.now c.args.slot c.args.file.now ≡ None = search rules in
    let at : position (is_named c.args.kind (name_of c.args.kind c.args.file.now)) c.args.earlier.now ≡ Some c.in-Some-named_slot.other = search rules in
    c.clash-in-Some-named_slot.ensures ∙ sym (number_taken c.args.kind c.args.earlier.now c.args.slot c.in-Some-named_slot.other c.args.file.now few inside none at)

pub returns-then-is_far : goal.returns-then-is_far
returns-then-is_far c =
    let few : nat_lt 128 c.args.file.now.rc ≡ false = grind (arith, nat_tests) in
    let inside : some_place c.args.kind (is_outside c.args.kind c.args.file.now) ≡ false = search rules in
    let none : shared_in c.args.kind c.args.earlier.now c.args.slot c.args.file.now ≡ None = search rules in
    let at : position (is_named c.args.kind (name_of c.args.kind c.args.file.now)) c.args.earlier.now ≡ None = search rules in
    let far : (nat_lt 63 c.args.file.now.s2 || nat_lt 31 c.args.file.now.ex) ≡ true = search rules in
    c.fault-then-is_far.ensures ∙ sym (extent_far c.args.kind c.args.earlier.now c.args.slot c.args.file.now few inside none at far)

pub returns-else-is_far : goal.returns-else-is_far
returns-else-is_far c =
    let few : nat_lt 128 c.args.file.now.rc ≡ false = grind (arith, nat_tests) in
    let inside : some_place c.args.kind (is_outside c.args.kind c.args.file.now) ≡ false = search rules in
    let none : shared_in c.args.kind c.args.earlier.now c.args.slot c.args.file.now ≡ None = search rules in
    let at : position (is_named c.args.kind (name_of c.args.kind c.args.file.now)) c.args.earlier.now ≡ None = search rules in
    let near : (nat_lt 63 c.args.file.now.s2 || nat_lt 31 c.args.file.now.ex) ≡ false = search rules in
    sym (file_sound c.args.kind c.args.earlier.now c.args.slot c.args.file.now few inside none at near)
