-- What a search in the directory of a mounted drive finds, by its file and its number.
use Rattle.std.specs.Prelude.{◌≡◌, ℕ, true, Option, option_map}
use Rattle.mpm_base.specs.declared.kind.Kind.{Kind}
use Rattle.mpm_dirent.specs.Names.{plain}
use Rattle.mpm_mount.specs.declared.searching.Found.{Found}
use Rattle.mpm_mount.specs.Drives.{FileName, entry_number}
use Rattle.mpm_refusals.specs.declared.searching.EntryPlace.{EntryPlace}
use Rattle.mpm_refusals.specs.Subjects.{is_behind}

-- what a search in the directory found, by its file and its number
abbrev pub entry_found : Kind → ℕ → Found → (FileName × ℕ)
entry_found kind user found = (record { user = user; name = plain found.name }, entry_number kind found.extent)

-- an entry by its place among those of a user
abbrev pub at_place : ℕ → EntryPlace → (FileName × ℕ)
at_place user place = (record { user = user; name = plain place.name }, place.number)

-- a search that goes on from what was found comes to each entry after a place
abbrev pub MissesNothing : ℕ → Kind → Option EntryPlace → Option Found → Type 0
MissesNothing user kind behind start =
    (entry : FileName × ℕ) → is_behind (option_map (at_place user) behind) entry ≡ true → is_behind (option_map (entry_found kind user) start) entry ≡ true
