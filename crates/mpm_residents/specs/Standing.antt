-- What is so of an interpreter in every row, whatever is answered to it.
use Rattle.std.specs.Prelude.{◌≡◌, ℕ, ◌+◌, ◌*◌, ◌<◌, ◌≤◌, Bool, true, false, length}
use Rattle.mpm_base.specs.declared.segment.SegmentSpec.{SegmentSpec}
use Rattle.mpm_loader.specs.Plans.{FitsIn}
use Rattle.mpm_loader.specs.declared.plan.Plan.{Plan}
use Rattle.mpm_residents.specs.Interpreters.{Interpreter, IsInterpreterRow}
use Rattle.mpm_residents.specs.declared.cli.act.Act.{Act}
use Rattle.mpm_residents.specs.declared.cli.act.Act.TheVariants.{Ask, PlaceBytes, MoveCode, BeginProcess, GiveConsole}
use Rattle.mpm_residents.specs.declared.cli.table.Row.{Row}
use Rattle.mpm_residents.specs.declared.cli.table.Row.TheVariants.{Place, Patch, ReadOn, Free, Close, PlaceBasePage, Begin}

-- the rows in which it has a segment
abbrev pub is_loading : Row → Bool
is_loading Place = true
is_loading Patch = true
is_loading ReadOn = true
is_loading (Free message) = true
is_loading Close = true
is_loading PlaceBasePage = true
is_loading Begin = true
is_loading _ = false

-- a file asks for room for its code at least, and has a bit at most for each byte of it
pub record IsFile (plan : Plan) : Type 0 where
  pub room : plan.length ≤ plan.room
  pub marks : 8 * plan.bits < plan.length + 8

-- a program lies in a segment: its code has room between base page and last page, which lies below common memory
pub record LiesIn (plan : Plan) (spec : SegmentSpec) : Type 0 where
  pub fits : FitsIn plan spec.pages
  pub below : spec.base + spec.pages ≤ 192

-- the console of its command is there, the tail fits into a base page, its row is one of its file, and in the rows in which it has a segment the program lies in
-- that
pub record StandsIn (row : Row) (cli : Interpreter) : Type 0 where
  pub console : cli.console < cli.consoles
  pub tail : length cli.tail ≤ 127
  pub file : IsFile cli.load.plan
  pub of_row : IsInterpreterRow row cli.load
  pub lies : is_loading row ≡ true → LiesIn cli.load.plan cli.spec

abbrev pub InterpreterStands : Interpreter → Type 0
InterpreterStands cli = StandsIn cli.row cli

-- so many bytes from an address on are of the pages of a segment
pub record AreInPages (spec : SegmentSpec) (address count : ℕ) : Type 0 where
  pub first : 256 * spec.base ≤ address
  pub end : address + count ≤ 256 * (spec.base + spec.pages)

-- what is handed over comes into that segment, and to its pages alone: bytes, code that is moved to its first page, the word on
-- the stack of the process that begins there
abbrev pub HandsIn : ℕ → SegmentSpec → Act → Type 0
HandsIn seg spec Ask = Unit {0}
HandsIn seg spec (PlaceBytes to address count) = (to ≡ seg) × AreInPages spec address count
HandsIn seg spec (MoveCode to address count page) = (to ≡ seg) × (page ≡ spec.base) × AreInPages spec address count
HandsIn seg spec (BeginProcess to new) = (to ≡ seg) × AreInPages spec new.sp 2
HandsIn seg spec (GiveConsole console) = Unit {0}
