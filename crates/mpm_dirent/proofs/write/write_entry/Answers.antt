use Rattle.std.proofs.Common.{◌+◌, ◌∷◌, ◌++◌, refl, ap, ◌∙◌}
use Rattle.mpm_dirent.specs.declared.kinds.Entry.TheVariants.{Free, File, Xfcb, Label, Kept}
use Rattle.mpm_dirent.specs.Entries.{bytes_of}
use Rattle.mpm_dirent.proofs.Back.{written_back}
use Rattle.mpm_dirent.proofs.write.write_entry.Goals as goal

pub returns-in-Free-clause-back : goal.returns-in-Free-clause-back
unfolding bytes_of
returns-in-Free-clause-back c = written_back _ c.args.entry.now Free c.args.wide c.in-Free.is refl tt c.requires

pub returns-in-File-clause-back : goal.returns-in-File-clause-back
unfolding bytes_of
returns-in-File-clause-back c =
    let f = c.in-File.file in
    written_back _ c.args.entry.now (File f) c.args.wide c.in-File.is
    (c.joined.ensures.bytes ∙ ap (λ rest. f.user ∷ (f.name ++ (f.ex ∷ f.s1 ∷ f.s2 ∷ f.rc ∷ rest))) c.write_map.ensures.map)
    (c.joined.ensures.name, c.write_map.ensures.size) c.requires

pub returns-in-Xfcb-clause-back : goal.returns-in-Xfcb-clause-back
unfolding bytes_of
returns-in-Xfcb-clause-back c =
    let x = c.in-Xfcb.xfcb in
    let s = c.stamped.ensures in
    written_back _ c.args.entry.now (Xfcb x) c.args.wide c.in-Xfcb.is
    (c.joined-in-Xfcb.ensures.bytes ∙ ap (λ rest. (16 + x.user) ∷ (x.name ++ (x.mode ∷ x.decode ∷ 0 ∷ 0 ∷ rest))) s.bytes)
    (c.joined-in-Xfcb.ensures.name, s.password, s.first, s.second) c.requires

pub returns-in-Label-clause-back : goal.returns-in-Label-clause-back
unfolding bytes_of
returns-in-Label-clause-back c =
    let l = c.in-Label.label in
    let s = c.stamped-in-Label.ensures in
    written_back _ c.args.entry.now (Label l) c.args.wide c.in-Label.is
    (c.joined-in-Label.ensures.bytes ∙ ap (λ rest. 32 ∷ (l.name ++ (l.mode ∷ l.decode ∷ 0 ∷ 0 ∷ rest))) s.bytes)
    (c.joined-in-Label.ensures.name, s.password, s.first, s.second) c.requires

pub returns-in-Kept-clause-back : goal.returns-in-Kept-clause-back
unfolding bytes_of
returns-in-Kept-clause-back c = written_back _ c.args.entry.now (Kept c.in-Kept.bytes) c.args.wide c.in-Kept.is refl tt c.requires
