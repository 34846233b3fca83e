-- What is looked up of a call: its block, its open file, the user of its file, and all of it.
use Rattle.std.specs.Prelude.{◌≡◌, ℕ, ◌<◌, Bool, List, Option, IfSome, length}
use Rattle.mpm_mount.specs.Directories.{Directory, Stands}
use Rattle.mpm_mount.specs.Drives.{Drive}
use Rattle.mpm_fcb.specs.Blocks.{block_of}
use Rattle.mpm_fcb.specs.declared.block.ControlBlock.{ControlBlock}
use Rattle.mpm_file_functions.specs.declared.functions.FileFunction.{FileFunction}
use Rattle.mpm_opens.specs.Opens.{OpenFiles}
use Rattle.mpm_refusals.specs.declared.asking.Asked.{Asked}
use Rattle.mpm_refusals.specs.declared.caller.FileCall.{FileCall}
use Rattle.mpm_refusals.specs.declared.subjects.OpenItem.{OpenItem}
use Rattle.mpm_refusals.specs.Filing.{LastSearch, HaveUsers}
use Rattle.mpm_refusals.specs.Subjects.{drive_at, first_by}
use Rattle.mpm_refusals.specs.Asking.{IsOwnItem, asked_of, called}

-- the file control block in a call's bytes, which are 36
pub record ReadsBlock (bytes : List ℕ) (b : ControlBlock) : Type 0 where
  pub block : b ≡ block_of bytes
  pub size : length bytes ≡ 36

-- the open file of a call is the one that is known, and its process's own
pub record FindsItem (opens : OpenFiles) (p : ℕ) (known answer : Option OpenItem) : Type 0 where
  pub item : answer ≡ known
  pub own : IfSome answer (λ item. IsOwnItem opens p item)

-- the first record of a call is the one that is known, and can be named by three bytes
pub record IsFirstRecord (b : ControlBlock) (function : FileFunction) (n : ℕ) : Type 0 where
  pub value : n ≡ first_by b function
  pub small : n < 16777216

-- all that a call names on a mounted drive is looked up: its caller, the user of its file, its open file, and the rest
pub record AsksOf (d : Directory) (protected : List Bool) (opens : OpenFiles) (searches : List (Option LastSearch)) (call : FileCall) (answer : Asked) : Type 0 where
  pub caller : answer.caller ≡ call.caller
  pub owner : HaveUsers opens → call.caller.user < 16 → answer.owner < 16
  pub own : IfSome answer.item (λ item. IsOwnItem opens call.caller.process item)
  pub asked : (image : List ℕ) (drives : List (Option Drive)) (marks moment : List ℕ)
      → Stands image d (drive_at (called drives protected opens marks searches call.caller call.function call.call.now moment))
      → answer ≡ asked_of (called drives protected opens marks searches call.caller call.function call.call.now moment)
