use Rattle.mpm_file_scenes.proofs.FloppyLaws.{before_calls}
use Rattle.mpm_file_scenes.proofs.scene.goes_on.Goals as goal

pub first_stop-requires : goal.first_stop-requires
first_stop-requires g c =
    let made = c.in_ok-bdos in
    before_calls _ c.attached_places.new.drives _ made.bdos made.ensures.kept c.in_ok-places.ensures.two c.in_ok-places.ensures.floppies made.ensures.coherent made.ensures.apart
