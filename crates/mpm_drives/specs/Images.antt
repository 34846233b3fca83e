-- What an image that an attach brings stands for, by what is known of it before.
use Rattle.std.specs.Prelude.{◌≡◌, ℕ, List, Ok}
use Rattle.mpm_base.specs.declared.kind.Kind.{Kind}
use Rattle.mpm_port.specs.Disks.{ToldImage, Brings}
use Rattle.mpm_mount.specs.Drives.{Drive}
use Rattle.mpm_mount.specs.Images.{files_of}

-- what is known of images by their names
abbrev pub Images : Type 0
Images = List ℕ → ToldImage

-- an attach brings an image that stands for these files
pub record HasFiles (told : ToldImage) (kind : Kind) (files : Drive) : Type 0 where
  pub image : List ℕ
  pub brought : Brings told image
  pub stands : files_of image kind ≡ Ok files
