-- Sizes of the kinds of disks.
use Rattle.std.proofs.Common.{◌≡◌, ◌+◌, ◌*◌, ◌≤◌, arith, refl, if◌then◌else◌}
use Rattle.mpm_base.specs.declared.kind.Kind.{Kind}
use Rattle.mpm_base.specs.declared.kind.Kind.TheVariants.{Ibm3740, Hd4, Hd8}
use Rattle.mpm_blocks.specs.Geometries.{geometry_of, last_block, block_records, parameters_of, logical_sectors, system_sectors}

pub last_small : (kind : Kind) → last_block kind ≤ 2047
last_small Ibm3740 = omega arith
last_small Hd4 = omega arith
last_small Hd8 = omega arith

-- the directory has its entries, of 32 bytes
pub directory_fits : (kind : Kind) → 32 * ((geometry_of kind).drm + 1) ≡ (geometry_of kind).directory_blocks * (geometry_of kind).block
directory_fits Ibm3740 = refl
directory_fits Hd4 = refl
directory_fits Hd8 = refl

-- the blocks are within the logical sectors, of 128 bytes
pub blocks_fit : (kind : Kind) → (last_block kind + 1) * (geometry_of kind).block ≤ 128 * logical_sectors kind
blocks_fit Ibm3740 = omega arith
blocks_fit Hd4 = omega arith
blocks_fit Hd8 = omega arith

-- the disk parameter block says the same as the sizes
abbrev Agrees : Kind → Type 0
Agrees kind =
    let p = parameters_of kind in
    let g = geometry_of kind in
    (p.blm + 1 ≡ block_records kind) × (p.exm ≡ g.mask) × (p.dsm ≡ g.dsm) × (p.drm ≡ g.drm) × (p.off * p.spt ≡ system_sectors kind)

pub parameters_agree : (kind : Kind) → Agrees kind
parameters_agree Ibm3740 = (refl, refl, refl, refl, refl)
parameters_agree Hd4 = (refl, refl, refl, refl, refl)
parameters_agree Hd8 = (refl, refl, refl, refl, refl)

-- an entry covers as many extents of 128 records as its blocks have room for
pub blocks_fill_extents : (kind : Kind) → (if (geometry_of kind).wide then 8 else 16) * block_records kind ≡ 128 * ((geometry_of kind).mask + 1)
blocks_fill_extents Ibm3740 = refl
blocks_fill_extents Hd4 = refl
blocks_fill_extents Hd8 = refl
