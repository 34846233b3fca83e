use Rattle.std.proofs.Common.{◌≡◌, ◌∙◌, ◌*◌, ◌-◌, ◌++◌, ap, subst, length, replicate, OnOk}
use Rattle.mpm_generator.proofs.Places.{put_behind}
use Rattle.mpm_generator.proofs.imaging.put_file.Goals as goal

pub returns-clause-image : goal.returns-clause-image
returns-clause-image c =
    subst (λ bytes. OnOk c.append.result (c.append.new.bytes.items ≡ bytes))
    (ap (λ bytes. bytes ++ replicate (2048 * c.from-size.result - length c.args.file.now) 0) c.in_ok-extend_from_slice.ensures.items
    ∙ put_behind c.args.image.now.items c.args.file.now _ (c.from-size.ensures ∙ c.blocks-2.ensures.blocks))
    c.append.ensures
