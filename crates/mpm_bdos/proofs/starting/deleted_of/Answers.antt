use Rattle.std.proofs.Common.{◌∙◌, ap, sym, subst}
use Rattle.std.specs.Option.{option_copied}
use Rattle.mpm_bdos.specs.Changes.{deleted_by}
use Rattle.mpm_refusals.specs.Asking.{StandsForDirectory}
use Rattle.mpm_refusals.proofs.UnmountedLaws.{is_there, is_not_there}
use Rattle.mpm_bdos.proofs.OnDrives.{unmounted_on_drives, none_deleted}
use Rattle.mpm_bdos.proofs.starting.deleted_of.Goals as goal

pub returns-in-Some : goal.returns-in-Some
returns-in-Some c = λ image s stands none opens caller drive block function.
    let there = is_there s image c.in-Some.mounted.now (subst (λ m. StandsForDirectory image (option_copied m) s) c.in-Some.is stands) in
    c.deleted_on.ensures image s there.stands opens (λ i. (caller i).process)
    (λ i. record { user = (caller i).user; drive = drive i; pattern = (block i).name })
    ∙ ap (deleted_by s) function

pub returns-in-None : goal.returns-in-None
returns-in-None c = λ image s stands none opens caller drive block function.
    let nowhere = is_not_there s image (subst (λ m. StandsForDirectory image (option_copied m) s) c.in-None.is stands) in
    sym (none_deleted s s.function (unmounted_on_drives s nowhere none))
