-- What is so of all that is kept.
use Rattle.std.proofs.Common.{ℕ, zero, suc, ◌<◌, Bool, true, false, Option, None, IfSome, sym, subst}
use Rattle.std.specs.Prelude.{replicate, slice_index_or, if◌then◌else◌}
use Rattle.mpm_opens.specs.declared.kinds.FileKey.{FileKey}
use Rattle.mpm_opens.specs.Items.{no_items, place_at}
use Rattle.mpm_opens.specs.Opens.{OpenFiles, HasLeft, none_open}
use Rattle.mpm_refusals.specs.Filing.{HaveUsers}

-- in no place is one that could fail a test
abbrev nothing_there : (X : Type 0) → ℕ → ℕ → Option X
nothing_there X n i = slice_index_or (replicate n None) i None

nothing_fails : {X : Type 0} (P : X → Type 0) (n i : ℕ) → IfSome (nothing_there X n i) P
nothing_fails P zero i = tt
nothing_fails P (suc n) zero = tt
nothing_fails P (suc n) (suc i) = nothing_fails P n i

pub no_users : HaveUsers none_open
unfolding none_open no_items
no_users number = nothing_fails _ 64 number

-- those that are left after a process gave some back are as they were
none_or_it : {X : Type 0} (P : X → Type 0) (gone : Bool) (place : Option X) → IfSome place P → IfSome (if gone then None else place) P
none_or_it P true place so = tt
none_or_it P false place so = so

pub users_left : (p : ℕ) (among : FileKey → Bool) (old new : OpenFiles) → HasLeft p among old new → HaveUsers old → HaveUsers new
users_left p among old new left users number =
    subst (λ place. IfSome place (λ item. item.file.user < 16)) (sym (left.items number)) (none_or_it _ _ (place_at old.items number) (users number))
