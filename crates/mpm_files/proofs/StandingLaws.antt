-- Where the image of a drive stands as a drive of files goes through some others, one part of them after the other.
use Rattle.std.proofs.Common.{◌≡◌, inl, inr, ℕ, List, [], ◌∷◌, ◌++◌, Result, Ok, Err, refl, sym, subst}
use Rattle.std.specs.List.{AllByRecursion}
use Rattle.mpm_port.specs.Disks.{Disks}
use Rattle.mpm_mount.specs.Drives.{Drive}
use Rattle.mpm_mount.specs.Directories.{Directory}
use Rattle.mpm_files.specs.Units.{FileUnit, last_of, stages, applied}
use Rattle.mpm_files.specs.Standing.{StandsOn, IsAmong, GoesThrough, DoesUnit}

last_behind : (before : Drive) (xs ys : List Drive) → last_of (last_of before xs) ys ≡ last_of before (xs ++ ys)
unfolding last_of
last_behind before [] ys = refl
last_behind before (x ∷ xs) ys = last_behind x xs ys

among_behind : (before : Drive) (xs ys : List Drive) (files : Drive) → IsAmong (last_of before xs) ys files → IsAmong before (xs ++ ys) files
unfolding IsAmong last_of
among_behind before [] ys files among = among
among_behind before (x ∷ xs) ys files among = inr (among_behind x xs ys files among)

among_more : (before : Drive) (xs ys : List Drive) (files : Drive) → IsAmong before xs files → IsAmong before (xs ++ ys) files
unfolding IsAmong
among_more before [] [] files is = is
among_more before [] (y ∷ ys) files is = inl is
among_more before (x ∷ xs) ys files (inl is) = inl is
among_more before (x ∷ xs) ys files (inr more) = inr (among_more x xs ys files more)

pub among_first : (before : Drive) (later : List Drive) → IsAmong before later before
unfolding IsAmong
among_first before [] = refl
among_first before (x ∷ xs) = inl refl

pub among_last : (before : Drive) (later : List Drive) → IsAmong before later (last_of before later)
unfolding IsAmong last_of
among_last before [] = refl
among_last before (x ∷ xs) = inr (among_last x xs)

-- what is so of the one before and of each of the others is so of what the image stands for
pub among_all : (P : Drive → Type 0) (before : Drive) (later : List Drive) (files : Drive) → AllByRecursion P (before ∷ later) → IsAmong before later files → P files
unfolding IsAmong
among_all P before [] files each is = subst P (sym is) each.0
among_all P before (x ∷ xs) files each (inl is) = subst P (sym is) each.0
among_all P before (x ∷ xs) files each (inr more) = among_all P x xs files each.1 more

-- nothing is to be done; nothing was done
pub goes_nowhere : {A E : Type 0} (disks : Disks) (drive : ℕ) (now : Directory) (files : Drive) (result : A) → StandsOn disks now files
    → GoesThrough {A = A} {E = E} disks drive now files [] (Ok result)
unfolding last_of
goes_nowhere disks drive now files result stands = record { ok = stands; err = tt }

pub stays : {A E : Type 0} (disks : Disks) (drive : ℕ) (d now : Directory) (files : Drive) (later : List Drive) (error : E) → d.drive ≡ drive → StandsOn disks d files
    → GoesThrough {A = A} disks drive now files later (Err error)
stays disks drive d now files later error here stands =
    record { ok = tt; err = record { directory = d; here = here; files = files; among = among_first files later; stands = stands } }

-- some drives, and then more of them
pub goes_on : {A E : Type 0} (disks : Disks) (drive : ℕ) (now : Directory) (before : Drive) (xs ys : List Drive) (result : Result A E)
    → GoesThrough disks drive now (last_of before xs) ys result → GoesThrough disks drive now before (xs ++ ys) result
goes_on disks drive now before xs ys (Ok x) goes = record { ok = subst (StandsOn disks now) (last_behind before xs ys) goes.ok; err = tt }
goes_on disks drive now before xs ys (Err e) goes = record {
  ok = tt;
  err = record {
    directory = goes.err.directory;
    here = goes.err.here;
    files = goes.err.files;
    among = among_behind before xs ys goes.err.files goes.err.among;
    stands = goes.err.stands;
  };
}

pub goes_stopped : {A B E : Type 0} (disks : Disks) (drive : ℕ) (mid now : Directory) (before : Drive) (xs ys : List Drive) (error : E)
    → GoesThrough {A = A} disks drive mid before xs (Err error) → GoesThrough {A = B} disks drive now before (xs ++ ys) (Err error)
goes_stopped disks drive mid now before xs ys error goes = record {
  ok = tt;
  err = record {
    directory = goes.err.directory;
    here = goes.err.here;
    files = goes.err.files;
    among = among_more before xs ys goes.err.files goes.err.among;
    stands = goes.err.stands;
  };
}

-- a unit is done by going through its stages
pub does : {A E : Type 0} (disks : Disks) (drive : ℕ) (now : Directory) (before : Drive) (unit : FileUnit) (later : List Drive) (result : Result A E) → later ≡ stages unit before
    → GoesThrough disks drive now before later result → DoesUnit disks drive now before unit result
unfolding applied
does disks drive now before unit later result is goes =
    let through : GoesThrough disks drive now before (stages unit before) result = subst (λ (l : List Drive). GoesThrough disks drive now before l result) is goes in
    record { ok = through.ok; err = through.err }

-- of a success, and of an error, whatever it is
pub done : {A B E F : Type 0} (disks : Disks) (drive : ℕ) (now : Directory) (before : Drive) (later : List Drive) (x : A) (y : B)
    → GoesThrough {A = A} {E = E} disks drive now before later (Ok x) → GoesThrough {A = B} {E = F} disks drive now before later (Ok y)
done disks drive now before later x y goes = record { ok = goes.ok; err = tt }

pub failed : {A B E F : Type 0} (disks : Disks) (drive : ℕ) (d now : Directory) (before : Drive) (later : List Drive) (x : E) (y : F)
    → GoesThrough {A = A} {E = E} disks drive d before later (Err x) → GoesThrough {A = B} {E = F} disks drive now before later (Err y)
failed disks drive d now before later x y goes = record { ok = tt; err = goes.err }
