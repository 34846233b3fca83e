use Rattle.std.proofs.Common.{rules, ◌≡◌, arith}
use Rattle.std.proofs.lemmas.Grind.{common_steps}
use Rattle.mpm_fsck.specs.Requests.{Check, request_of}
use Rattle.mpm_fsck.proofs.OwnList.{check_takes}
use Rattle.mpm_fsck.proofs.fsck.fsck_words.Goals as goal

pub returns-in-Some-clause-own_list : goal.returns-in-Some-clause-own_list
unfolding request_of
returns-in-Some-clause-own_list g c request asked =
    let is : Check c.in-Some.kind c.as_str-in-len3-3.result.now ≡ request = first_of (search rules, grind (arith, common_steps)) in
    check_takes (g.F.Files.contents c.args.files.now) (g.D.Drives.told c.args.drives.now) c.in-Some.kind c.as_str-in-len3-3.result.now request c.check.result is
