use Rattle.std.proofs.Common.{rules, arith}
use Rattle.std.proofs.lemmas.Grind.{common_steps}
use Rattle.mpm_fsck.specs.Endings.{TakesOwnList}
use Rattle.mpm_fsck.specs.Outside.{drives_seen, seen}
use Rattle.mpm_fsck.proofs.Mended.{unopened_applies, listed_applies, applies_request, fails_listed}
use Rattle.mpm_fsck.proofs.OwnList.{own_unrefused}
use Rattle.mpm_fsck.proofs.mending.apply.Goals as goal

-- the image isn't opened

pub returns-in-Err : goal.returns-in-Err
unfolding TakesOwnList
returns-in-Err g c =
    let old = seen g.F.Files g.D.Drives g.S.Sink c.args.files.now c.args.drives.now c.args.sink.now in
    let new = seen g.F.Files g.D.Drives g.S.Sink c.args.files.now c.open.new.drives c.args.sink.now in
    let applies = unopened_applies (g.F.Files.missing c.args.files.now) c.args.kind c.args.name.now c.args.list.now old new c.in-Err.status c.in-Err.ensures in
    record {
      applies = applies;
      own_list = λ image known size is. own_unrefused (g.F.Files.missing c.args.files.now) c.args.kind c.args.name.now c.args.list.now image old new c.in-Err.status applies known size is;
      fails = first_of (search rules, grind (arith, common_steps));
      nothing = first_of (search rules, grind (arith, common_steps));
      files = first_of (search rules, grind (arith, common_steps));
      usage = applies_request (g.F.Files.missing c.args.files.now) c.args.kind c.args.name.now c.args.list.now old new c.in-Err.status applies;
    }

-- its list is read and applied, or not

pub returns-in-Ok : goal.returns-in-Ok
unfolding TakesOwnList
returns-in-Ok g c =
    let opened = c.in-Ok.ensures in
    let old = seen g.F.Files g.D.Drives g.S.Sink c.args.files.now c.args.drives.now c.args.sink.now in
    let new = seen g.F.Files g.D.Drives g.S.Sink c.apply_list.new.files c.apply_list.new.drives c.apply_list.new.sink in
    let mid = drives_seen g.D.Drives c.open.new.drives in
    let applies = listed_applies (g.F.Files.missing c.args.files.now) c.args.kind c.args.name.now c.args.list.now old new mid c.apply_list.result opened
    (c.apply_list.ensures.ends opened.checked.image opened.checked.attached.here) in
    record {
      applies = applies;
      own_list = λ image known size is. own_unrefused (g.F.Files.missing c.args.files.now) c.args.kind c.args.name.now c.args.list.now image old new c.apply_list.result applies known size is;
      fails = fails_listed old new mid c.apply_list.result opened.fails c.apply_list.ensures.fails;
      nothing = c.apply_list.ensures.nothing;
      files = c.apply_list.ensures.files;
      usage = applies_request (g.F.Files.missing c.args.files.now) c.args.kind c.args.name.now c.args.list.now old new c.apply_list.result applies;
    }
