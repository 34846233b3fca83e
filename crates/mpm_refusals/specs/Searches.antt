-- The last searches of processes, as they are kept: what was found by its place among the entries of the search's user. (MP/M II
-- Programmer's Guide, "Function 18: Search for Next".)
use Rattle.std.specs.Prelude.{ℕ, List, Option, Some, None, option_map, replicate, slice_set}
use Rattle.mpm_dirent.specs.Names.{plain}
use Rattle.mpm_mount.specs.Drives.{FileName}
use Rattle.mpm_fcb.specs.declared.block.ControlBlock.{ControlBlock}
use Rattle.mpm_refusals.specs.Filing as filing
use Rattle.mpm_file_functions.specs.declared.functions.FileFunction.{FileFunction}
use Rattle.mpm_file_functions.specs.declared.functions.FileFunction.TheVariants.{SearchNext}
use Rattle.mpm_refusals.specs.declared.searches.LastSearch.{LastSearch}
use Rattle.mpm_refusals.specs.Looking.{at_place}

abbrev pub search_of : LastSearch → filing.LastSearch
search_of s = record {
  drive = s.drive;
  user = s.user;
  pattern = s.pattern;
  extent = s.extent;
  found = at_place s.user s.found;
}

abbrev pub searched : Option LastSearch → Option filing.LastSearch
searched search = option_map search_of search

-- nobody has searched
unfoldable pub no_searches : List (Option filing.LastSearch)
no_searches = replicate 32 None

-- whose entries a call seeks
abbrev pub user_where : Option LastSearch → ℕ → ℕ
user_where None user = user
user_where (Some search) user = search.user

abbrev pub user_sought : Option LastSearch → ℕ → FileFunction → ℕ
user_sought search user SearchNext = user_where search user
user_sought search user function = user

-- the caller's search, where it found something
abbrev pub finding : FileName × ℕ → filing.LastSearch → filing.LastSearch
finding entry search = record search { found = entry }

abbrev pub search_by : Option filing.LastSearch → ℕ → ℕ → ControlBlock → FileName × ℕ → FileFunction → Option filing.LastSearch
search_by last drive user b entry SearchNext = option_map (finding entry) last
search_by last drive user b entry function =
    Some (record { drive = drive; user = user; pattern = plain b.name; extent = b.ex; found = entry })

abbrev pub searches_by : List (Option filing.LastSearch) → ℕ → (FileName × ℕ → Option filing.LastSearch) → Option (FileName × ℕ) → List (Option filing.LastSearch)
searches_by searches p search None = searches
searches_by searches p search (Some entry) = slice_set searches p (search entry)
