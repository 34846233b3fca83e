use Rattle.std.proofs.Common.{◌≡◌, map, string_bytes}
use Rattle.std.specs.Prelude.{bytes_eq}
use Rattle.std.specs.List.{list_any, list_all}
use Rattle.toml.specs.View.{table_view}
use Rattle.mpm_machine_file.specs.Fields.{only_keys}
use Rattle.mpm_machine_file.proofs.fields.has_only.Given as goal

abbrev pub invariant-loop-key : goal.invariant-loop-key
invariant-loop-key l =
    only_keys (map (λ name. name.now) l.known) (table_view l.table) ≡ list_all (λ key. list_any (λ name. bytes_eq name.now (string_bytes key)) l.known) l.key-iterator
