-- Which sectors a disk has.
use Rattle.std.proofs.Common.{◌≡◌, ℕ, ◌+◌, ◌*◌, ◌<◌, ◌≤◌, Option, Some, sym, subst, arith}
use Rattle.mpm_base.specs.declared.kind.Kind.{Kind}
use Rattle.mpm_base.specs.declared.kind.Kind.TheVariants.{Ibm3740, Hd4, Hd8}
use Rattle.mpm_blocks.specs.Geometries.{geometry_of, image_sectors}
use Rattle.mpm_port.specs.Disks.{IsInsideDrive}

place_fits : (kind : Kind) (place : ℕ) → place < image_sectors kind → 128 * place + 128 ≤ (geometry_of kind).bytes
place_fits Ibm3740 place h = omega arith
place_fits Hd4 place h = omega arith
place_fits Hd8 place h = omega arith

-- a sector of an image of its kind's size is inside the drive
pub sector_inside : (kind : Kind) (size : Option ℕ) (place : ℕ) → size ≡ Some (geometry_of kind).bytes → place < image_sectors kind → IsInsideDrive size place
sector_inside kind size place is h = subst (λ (s : Option ℕ). IsInsideDrive s place) (sym is) (place_fits kind place h)
