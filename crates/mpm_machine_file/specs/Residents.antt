-- The processes of the system that a machine file asks for.
use Rattle.std.specs.Prelude.{ℕ, Bool, true, false, ◌&&◌, ◌==◌, nat_le, if◌then◌else◌, List, count_by, bytes_eq, codes, Option, Some, None}
use Rattle.std.specs.Option.{option_map_or}
use Rattle.toml.specs.Data.{Data, Members, get_member, as_array, as_str}
use Rattle.mpm_machine_file.specs.declared.lists.Resident.{Resident}
use Rattle.mpm_machine_file.specs.declared.lists.Resident.TheVariants.{Spool, Sched}
use Rattle.mpm_machine_file.specs.declared.lists.ResidentList.{ResidentList}
use Rattle.mpm_script.specs.Numbers.{◌>>=◌}
use Rattle.mpm_machine_file.specs.Fields.{all_of}

-- the resident of a name
abbrev pub resident_named : List ℕ → Option Resident
resident_named text = if bytes_eq text (codes "spool") then Some Spool else if bytes_eq text (codes "sched") then Some Sched else None

abbrev pub resident_of : Data → Option Resident
resident_of value = as_str value >>= resident_named

abbrev pub is_same : Resident → Resident → Bool
is_same Spool Spool = true
is_same Sched Sched = true
is_same one other = false

-- how often a resident is among some
abbrev pub times : Resident → List Resident → ℕ
times one residents = count_by (is_same one) residents

-- an array of names of residents, none of which stands there twice
unfoldable pub residents_of : Data → Option ResidentList
residents_of value = do
  items ← as_array value
  read ← all_of resident_of items
  if nat_le (times Spool read) 1 && nat_le (times Sched read) 1 then Some (record { spool = times Spool read == 1; sched = times Sched read == 1 }) else None

abbrev pub no_residents : ResidentList
no_residents = record { spool = false; sched = false }

-- the residents of a machine file of a version: version 1 has no such key; none where the key is missing
unfoldable pub residents_in : ℕ → Members → Option ResidentList
residents_in version table =
    option_map_or (λ value. if version == 1 then None else (residents_of value)) (get_member (codes "residents") table) (Some no_residents)
