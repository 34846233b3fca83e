use Rattle.std.proofs.Common.{rules, ◌≡◌, ◌∷◌, [], sym, ap, ◌∙◌, subst, arith, IsSome}
use Rattle.std.proofs.lemmas.Grind.{common_steps}
use Rattle.mpm_port.specs.Disks.{Disks, size_of}
use Rattle.mpm_port.specs.MemoryDisks.{disks_of}
use Rattle.mpm_directories.specs.Places.{in_places}
use Rattle.mpm_file_scenes.specs.Floppies.{IsFloppy, AreFloppies}
use Rattle.mpm_file_scenes.proofs.FloppyLaws.{two_floppies}
use Rattle.mpm_file_scenes.proofs.floppies.mounted_places.Goals as goal

pub mounted_drive-requires-2-clause-some : goal.mounted_drive-requires-2-clause-some
mounted_drive-requires-2-clause-some c = subst (λ (disks : Disks). IsSome (size_of disks 1)) (sym c.mounted_drive.ensures.same) c.requires.b

pub returns-clause-floppies : goal.returns-clause-floppies
returns-clause-floppies c =
    let all : c.push-2.new.self.items ≡ c.in_ok-b.b ∷ (c.in_ok-a.a ∷ []) = first_of (search rules, grind (arith, common_steps)) in
    let disks : Disks = disks_of c.mounted_drive-2.new.drives.drives in
    let one : IsFloppy disks c.in_ok-b.b.drive c.in_ok-b.b =
    subst (λ (d : Disks). IsFloppy d c.in_ok-b.b.drive c.in_ok-b.b) (sym c.mounted_drive-2.ensures.same)
    (subst (λ number. IsFloppy (disks_of c.mounted_drive.new.drives.drives) number c.in_ok-b.b) (sym c.in_ok-b.ensures.floppy.its) c.in_ok-b.ensures.floppy) in
    let other : IsFloppy disks c.in_ok-a.a.drive c.in_ok-a.a =
    subst (λ (d : Disks). IsFloppy d c.in_ok-a.a.drive c.in_ok-a.a) (sym (c.mounted_drive-2.ensures.same ∙ c.mounted_drive.ensures.same))
    (subst (λ number. IsFloppy (disks_of c.args.drives.now.drives) number c.in_ok-a.a) (sym c.in_ok-a.ensures.floppy.its) c.in_ok-a.ensures.floppy) in
    subst (AreFloppies disks) (sym (c.in_ok-in_places.ensures.places ∙ ap in_places all)) (two_floppies disks c.in_ok-b.b c.in_ok-a.a one other)
