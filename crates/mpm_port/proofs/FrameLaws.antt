-- What calls that change no image leave of drives, one after the other.
use Rattle.std.proofs.Common.{refl, ◌∙◌}
use Rattle.mpm_port.specs.declared.drives.Drives.{Ghosts}
use Rattle.mpm_port.specs.Frames.{SameDrives, OnlyCountsFaults}

pub same_over : {D : Type 0} (of : Ghosts D) (a b c : D) → SameDrives of a b → SameDrives of b c → SameDrives of a c
same_over of a b c one two = record { images = two.images ∙ one.images; told_are = two.told_are ∙ one.told_are; failed = two.failed ∙ one.failed }

pub only_itself : {D : Type 0} (of : Ghosts D) (d : D) → OnlyCountsFaults of d d
only_itself of d = record { drives = record { images = refl; told_are = refl; failed = refl }; unsynced_are = refl }

pub only_over : {D : Type 0} (of : Ghosts D) (a b c : D) → OnlyCountsFaults of a b → OnlyCountsFaults of b c → OnlyCountsFaults of a c
only_over of a b c one two = record { drives = same_over of a b c one.drives two.drives; unsynced_are = two.unsynced_are ∙ one.unsynced_are }
