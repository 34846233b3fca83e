-- What calls on one disk leave, one after the other.
use Rattle.std.proofs.Common.{◌≡◌, ℕ, ◌+◌, ◌≤◌, Bool, true, false, List, Some, Result, refl, ◌∙◌, arith}
use Rattle.std.specs.Prelude.{is_some, if◌then◌else◌}
use Rattle.mpm_base.specs.declared.kind.Kind.{Kind}
use Rattle.mpm_port.specs.Disks.{Disks, ToldImage, size_of}
use Rattle.mpm_cache.specs.declared.cache.SectorPlace.{SectorPlace}
use Rattle.mpm_blocks.specs.Geometries.{geometry_of, place_of}
use Rattle.mpm_cache.specs.Cached.{cached_at}
use Rattle.mpm_cache.specs.Coherent.{IsCoherent, HasNoAlias}
use Rattle.mpm_cache.proofs.AliasLaws.{apart_same, apart_twice}
use Rattle.mpm_sectors.specs.Disks.{IsReadyDisk, TakesCalls, slot_calls, LeavesDisks}
use Rattle.mpm_sectors.proofs.OtherImages.{elsewhere_itself, elsewhere_over, told_itself, told_over}

pub leaves_itself : {D : Type 0} (disks : D → Disks) (told : D → List ℕ → ToldImage) (failed : D → List (List ℕ)) (unsynced : D → ℕ → Bool) (drive : ℕ) (cached : List (SectorPlace × List ℕ)) (d : D)
    → IsCoherent cached (disks d) → LeavesDisks disks told failed unsynced drive cached cached d d
leaves_itself disks told failed unsynced drive cached d coherent = record {
  coherent = coherent;
  apart = apart_same drive cached cached (disks d) (λ other sector. refl);
  alone = λ alone. alone;
  others = elsewhere_itself drive (disks d);
  told_are = told_itself ((disks d).name_of drive) (told d);
  names = refl;
  beside = λ other apart. refl;
  owed = λ owed. owed;
}

pub leaves_over : {D : Type 0} (disks : D → Disks) (told : D → List ℕ → ToldImage) (failed : D → List (List ℕ)) (unsynced : D → ℕ → Bool) (drive : ℕ) (first second third : List (SectorPlace × List ℕ)) (a b c : D)
    → LeavesDisks disks told failed unsynced drive first second a b → LeavesDisks disks told failed unsynced drive second third b c → LeavesDisks disks told failed unsynced drive first third a c
leaves_over disks told failed unsynced drive first second third a b c one two = record {
  coherent = two.coherent;
  apart = apart_twice drive first second third (disks a) (disks b) (disks c) one.apart two.apart;
  alone = λ alone. two.alone (one.alone alone);
  others = elsewhere_over drive (disks a) (disks b) (disks c) one.others two.others;
  told_are = told_over ((disks a).name_of drive) ((disks b).name_of drive) (told a) (told b) (told c) (one.others.names drive) one.told_are two.told_are;
  names = two.names ∙ one.names;
  beside = λ other apart. two.beside other apart ∙ one.beside other apart;
  owed = λ owed. two.owed (one.owed owed);
}

-- a disk that was ready is ready for the next call
pub ready_after : {D : Type 0} (disks : D → Disks) (told : D → List ℕ → ToldImage) (failed : D → List (List ℕ)) (unsynced : D → ℕ → Bool) (drive : ℕ) (kind : Kind) (cached new : List (SectorPlace × List ℕ)) (old now : D)
    → IsReadyDisk (disks old) drive kind cached → LeavesDisks disks told failed unsynced drive cached new old now → IsReadyDisk (disks now) drive kind new
ready_after disks told failed unsynced drive kind cached new old now ready left = record {
  size = left.others.sizes drive ∙ ready.size;
  coherent = left.coherent;
  apart = left.alone ready.apart;
}

-- the writing of a directory entry takes two calls at most
few_by : (b : Bool) → (if b then 1 else 2) ≤ 2
few_by true = omega arith
few_by false = omega arith

pub few_slot_calls : {A E : Type 0} (cached : List (SectorPlace × List ℕ)) (drive : ℕ) (kind : Kind) (sector before now : ℕ) (result : Result A E) → TakesCalls before now (slot_calls cached drive kind sector) result
    → now ≤ before + 2
few_slot_calls cached drive kind sector before now result takes =
    let few = few_by (is_some (cached_at cached drive (place_of kind sector))) in
    omega (arith, takes.most, few)

-- a disk is ready by its three parts
pub ready_of : (disks : Disks) (drive : ℕ) (kind : Kind) (cached : List (SectorPlace × List ℕ)) → size_of disks drive ≡ Some (geometry_of kind).bytes → IsCoherent cached disks → HasNoAlias cached disks drive
    → IsReadyDisk disks drive kind cached
ready_of disks drive kind cached size coherent apart = record { size = size; coherent = coherent; apart = apart }
