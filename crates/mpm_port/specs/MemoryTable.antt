-- The files over memory.
use Rattle.std.specs.Prelude.{ℕ, List, [], Bool, ◌||◌, is_some, not, Result}
use Rattle.mpm_port.specs.Calls.{Calls, next_is_listed, after_call, listing}
use Rattle.mpm_port.specs.Causes.{names_after}
use Rattle.mpm_port.specs.Named.{contents_of, with_contents}
use Rattle.mpm_port.specs.declared.named.Named.{Named}
use Rattle.mpm_port.specs.declared.files.Fetched.{Fetched}
use Rattle.mpm_port.specs.declared.files.FetchError.{FetchError}

-- the files, the names on which a call answered that it failed, oldest first, and the calls
pub record MemoryTable : Type 0 where
  pub files : List Named
  pub failed : List (List ℕ)
  pub calls : Calls

-- no file is there
abbrev pub empty_table : MemoryTable
empty_table = record { files = []; failed = []; calls = record { done = 0; failing = [] } }

-- one more file is there, or other contents of one that was
abbrev pub with_file : MemoryTable → List ℕ → List ℕ → MemoryTable
with_file table name contents = record table { files = with_contents table.files name contents }

-- one more number is listed
abbrev pub listing_fetch : MemoryTable → ℕ → MemoryTable
listing_fetch table call = record table { calls = listing table.calls call }

-- the next fetch of this name fails: its number is listed, or there is no file of this name
unfoldable pub fetch_fails : MemoryTable → List ℕ → Bool
fetch_fails table name = next_is_listed table.calls || not (is_some (contents_of table.files name))

-- after a fetch with this answer
unfoldable pub after_fetch : MemoryTable → List ℕ → Result Fetched FetchError → MemoryTable
after_fetch table name answer = record table { failed = names_after table.failed name answer; calls = after_call table.calls }
