-- A list that was read, as the spooler begins it.
use Rattle.std.proofs.Common.{◌≡◌, List, ℕ, take, Option, Some, sym, ap}
use Rattle.std.specs.Prelude.{option_map}
use Rattle.mpm_spool.specs.SpoolLists.{list_of, list_with}
use Rattle.mpm_spool.specs.Spoolers.{Spooler, begun_next, with_list}
use Rattle.mpm_spool.specs.declared.list.SpoolItem.{SpoolItem}
use Rattle.mpm_spool.specs.declared.list.SpoolList.{SpoolList}
use Rattle.mpm_spool.proofs.Items.{items_kept}

pub begins_list : (message : List ℕ) (s : Spooler) (list : SpoolList) → option_map list_with (list_of message) ≡ Some list
    → begun_next (record s { left = take list.count list.items }) ≡ with_list (list_of message) s
begins_list message s list is = sym (ap (λ (o : Option (List SpoolItem)). with_list o s) (items_kept (list_of message) list is))
