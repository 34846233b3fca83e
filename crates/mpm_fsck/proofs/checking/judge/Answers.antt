use Rattle.std.proofs.Common.{◌≡◌, [], length, sym, subst, ◌∙◌, arith}
use Rattle.std.proofs.lemmas.Grind.{common_steps}
use Rattle.std.proofs.lemmas.Bool.Decides.{nat_tests}
use Rattle.mpm_mount.specs.Mounting.{FillDirectory}
use Rattle.mpm_repair.specs.FaultLists.{fault_list}
use Rattle.mpm_fsck.proofs.Found.{no_items, all_stay_listed, sound_finds}
use Rattle.mpm_fsck.proofs.checking.judge.Goals as goal

-- nothing is listed: all entries stay

pub sound-requires : goal.sound-requires
sound-requires c =
    let empty : length c.in_ok-faults.faults.items ≡ 0 = grind (arith, nat_tests, common_steps) in
    let none : fault_list c.args.kind c.args.entries.items ≡ [] = sym c.in_ok-faults.ensures.lists.list ∙ no_items c.in_ok-faults.faults.items empty in
    subst (FillDirectory c.args.kind) (sym (c.in_ok-faults.ensures.lists.stay ∙ all_stay_listed c.args.kind c.args.entries.items none)) c.requires

pub returns-then-is_empty : goal.returns-then-is_empty
returns-then-is_empty c =
    let empty : length c.in_ok-faults.faults.items ≡ 0 = grind (arith, nat_tests, common_steps) in
    let none : fault_list c.args.kind c.args.entries.items ≡ [] = sym c.in_ok-faults.ensures.lists.list ∙ no_items c.in_ok-faults.faults.items empty in
    sound_finds c.args.kind c.args.entries.items c.list_faults.new.entries.items c.sound.result none
    (c.in_ok-faults.ensures.lists.stay ∙ all_stay_listed c.args.kind c.args.entries.items none) c.sound.ensures
