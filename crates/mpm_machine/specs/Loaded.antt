-- What of a program's file stands in the segment that the interpreter reserved, as the file comes in: its code, after the base page, moved
-- to the segment's first page as far as its marks were gone through. (MP/M II System Guide, "Page Relocatable Programs".)
use Rattle.std.specs.Prelude.{◌≡◌, ℕ, ◌+◌, ◌*◌, ◌/◌, ◌<◌, nat_lt, if◌then◌else◌, true, List, length, min, drop, slice_index, Some, ⊤}
use Rattle.mpm_banks.specs.Memory.{Memory, byte_at}
use Rattle.mpm_prl.specs.Relocation.{relocated_byte}
use Rattle.mpm_loader.specs.Pieces.{Loading, has_all}
use Rattle.mpm_loader.specs.Plans.{code_end, all_bytes}
use Rattle.mpm_loader.specs.declared.plan.Plan.{Plan}
use Rattle.mpm_residents.specs.Interpreters.{Interpreter}
use Rattle.mpm_residents.specs.declared.cli.table.Row.{Row}
use Rattle.mpm_residents.specs.declared.cli.table.Row.TheVariants.{Reserve, Place, Patch, Close, PlaceBasePage, Begin}
use Rattle.mpm_residents.specs.Standing.{is_loading}
use Rattle.mpm_residents.specs.Natives.{native_in}
use Rattle.mpm_residents.specs.declared.native.Native.TheVariants.{Cli}
use Rattle.mpm_system.specs.declared.system.System.{System}
use Rattle.mpm_machine.specs.State.{State}
use Rattle.mpm_machine.specs.After.{after}

-- a piece of a file, before which so many bytes of it stand
abbrev pub IsPieceOf : List ℕ → ℕ → List ℕ → Type 0
IsPieceOf file before piece = (k : ℕ) → k < length piece → slice_index piece k ≡ slice_index file (before + k)

-- a byte of code as it stands at a page, where so many bytes of the file were gone through for marks
abbrev pub code_byte : Plan → List ℕ → ℕ → ℕ → ℕ → ℕ
code_byte plan file page marked place =
    if nat_lt (code_end plan + place / 8) marked then relocated_byte (drop plan.start file) (drop (code_end plan) file) page place
    else slice_index (drop plan.start file) place

-- where so many bytes of the file came, the code among them stands after the base page of a segment, each byte at its place
abbrev pub HasCode : Plan → List ℕ → ℕ → ℕ → ℕ → ℕ → Memory → Type 0
HasCode plan file page seg came marked memory =
    (place : ℕ) → place < plan.length → plan.start + place < came → byte_at memory seg (256 * page + 256 + place) ≡ code_byte plan file page marked place

-- in each row of the interpreter so much of the file was placed, and so much gone through for marks. As it places a piece's code, or moves
-- code by its marks, it is what came before the piece; in any other row it is the piece too
abbrev pub placed_by : Row → Loading → ℕ
placed_by Place load = load.before
placed_by of_row load = load.before + length load.piece

abbrev pub marked_by : Row → Loading → ℕ
marked_by Place load = load.before
marked_by Patch load = load.before
marked_by of_row load = load.before + length load.piece

abbrev pub HasLoadedAt : Row → Interpreter → List ℕ → Memory → Type 0
HasLoadedAt of_row cli file memory =
    HasCode cli.load.plan file cli.spec.base cli.seg (placed_by of_row cli.load) (min (marked_by of_row cli.load) (all_bytes cli.load.plan)) memory

-- as the segment is asked for nothing stands before the first piece, and as the file is closed all of it that counts came
abbrev pub HasCome : Row → Loading → Type 0
HasCome (Reserve relocatable pages) load = load.before ≡ 0
HasCome Close load = has_all load ≡ true
HasCome PlaceBasePage load = has_all load ≡ true
HasCome Begin load = has_all load ≡ true
HasCome of_row load = ⊤

-- so it is in a row, whatever that is: where the interpreter has a segment, so much of the program's code stands there
pub record IsLoadedIn (of_row : Row) (cli : Interpreter) (file : List ℕ) (memory : Memory) : Type 0 where
  pub code : is_loading of_row ≡ true → HasLoadedAt of_row cli file memory
  pub came : HasCome of_row cli.load

-- and so of the interpreter of a system
abbrev pub IsLoading : List ℕ → System → Type 0
IsLoading file system =
    (cli : Interpreter) → native_in system.residents 0 ≡ Some (Cli cli) → IsLoadedIn cli.row cli file system.memory

-- where the interpreter has a segment, what it read last is a piece of that file, where it has got to
abbrev pub IsReading : List ℕ → System → Type 0
IsReading file system =
    (cli : Interpreter) → native_in system.residents 0 ≡ Some (Cli cli) → is_loading cli.row ≡ true
    → IsPieceOf file cli.load.before cli.load.piece

-- so it is before each of n steps of a state
abbrev pub IsReadIn : List ℕ → ℕ → State → Type 0
IsReadIn file n s = (k : ℕ) → k < n → IsReading file (after k s).system
