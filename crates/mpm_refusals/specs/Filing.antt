-- What file calls find and leave: drives, open files, marks and searches; who calls; and a call as it enters service, by which
-- all that it comes to is defined.
use Rattle.std.specs.Prelude.{ℕ, List, Bool, Option, ◌<◌, IfSome}
use Rattle.mpm_base.specs.Calls.{Taken}
use Rattle.mpm_opens.specs.Opens.{OpenFiles}
use Rattle.mpm_opens.specs.Items.{place_at}
use Rattle.mpm_file_functions.specs.declared.functions.FileFunction.{FileFunction}
use Rattle.mpm_mount.specs.Drives.{FileName, Drive}
use Rattle.mpm_fcb.specs.declared.block.ControlBlock.{ControlBlock}
use Rattle.mpm_fcb.specs.Blocks.{block_of}
use Rattle.mpm_refusals.specs.declared.caller.Caller.{Caller}

-- a process's last search: where it looked, for what, and the directory entry that it found, by its file and its number. (MP/M II
-- Programmer's Guide, "Function 17: Search for First".)
pub record LastSearch : Type 0 where
  pub drive : ℕ
  pub user : ℕ
  pub pattern : List ℕ
  pub extent : ℕ
  pub found : FileName × ℕ

-- the sixteen drives, where they are mounted; which of them are protected from writing; what is open; and of each process the
-- drives that it has marked, as the bits of a word, and its last search
pub record Filing : Type 0 where
  pub drives : List (Option Drive)
  pub protected : List Bool
  pub opens : OpenFiles
  pub marks : List ℕ
  pub searches : List (Option LastSearch)

-- a call as it enters service, and the stamp of that moment
pub record Situation : Type 0 where
  pub filing : Filing
  pub caller : Caller
  pub function : FileFunction
  pub call : Taken
  pub moment : List ℕ

-- its file control block
abbrev pub block : Situation → ControlBlock
block s = block_of s.call.fcb

-- open files are of users 0 to 15
abbrev pub HaveUsers : OpenFiles → Type 0
HaveUsers opens = (number : ℕ) → IfSome (place_at opens.items number) (λ item. item.file.user < 16)
