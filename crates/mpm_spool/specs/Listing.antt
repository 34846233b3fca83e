-- What a reader of a message's files answers.
use Rattle.std.specs.Prelude.{◌≡◌, ◌≤◌, List, Option, Some, None, Result, IfOk, OnErr, option_map}
use Rattle.mpm_spool.specs.SpoolLists.{list_with}
use Rattle.mpm_spool.specs.declared.list.BadSpoolList.{BadSpoolList}
use Rattle.mpm_spool.specs.declared.list.SpoolItem.{SpoolItem}
use Rattle.mpm_spool.specs.declared.list.SpoolList.{SpoolList}

-- the files that are named, 8 at most, or none are
pub record ListsFiles (named : Option (List SpoolItem)) (result : Result SpoolList BadSpoolList) : Type 0 where
  pub ok : IfOk result (λ list. option_map list_with named ≡ Some list)
  pub few : IfOk result (λ list. list.count ≤ 8)
  pub err : OnErr result (named ≡ None)
