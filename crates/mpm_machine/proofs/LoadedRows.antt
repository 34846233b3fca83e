-- What of a program's file stands in the segment that the interpreter reserved, from row to row: by each answer, and by what it hands over.
use Rattle.std.proofs.Common.{◌≡◌, ◌∙◌, ℕ, ◌==◌, ◌&&◌, Bool, true, false, List, length, Option, Some, None, IfSome, refl, sym}
use Rattle.std.specs.Prelude.{nat_lt}
use Rattle.std.proofs.lemmas.Bool.{false≢true}
use Rattle.mpm_base.proofs.Choices.{either}
use Rattle.mpm_base.specs.Calls.{Answer}
use Rattle.mpm_banks.specs.Memory.{Memory, IsMemory}
use Rattle.mpm_command.specs.Commands.{command_in, console_in}
use Rattle.mpm_command.specs.declared.command.Command.{Command}
use Rattle.mpm_loader.specs.Pieces.{Loading, begun, with_first, with_piece, has_all, code_in, marks_in}
use Rattle.mpm_loader.specs.Plans.{pages_of, plan_of}
use Rattle.mpm_loader.specs.declared.plan.Plan.{Plan}
use Rattle.mpm_residents.specs.Interpreters.{Interpreter, act_at, call_at, took_at, not_found, followed, message_in, after_open, row_for_memory, row_behind_marks, row_behind_code, row_for_piece, headed, records_in, absolute, sized, size_in, byte_at, is_segment_of, reserved, read_on, with_block}
use Rattle.mpm_residents.specs.Standing.{is_loading, StandsIn}
use Rattle.mpm_residents.specs.declared.cli.table.Message.TheVariants.{NotFound, BadLoad, NoMemory, NoProcess, QueueFull}
use Rattle.mpm_residents.specs.declared.cli.table.Row.{Row}
use Rattle.mpm_residents.specs.declared.cli.table.Row.TheVariants.{ReadCommand, OpenQueue, WriteQueue, SetUser, OpenRelocatable, OpenAbsolute, ReadHeader, ComputeSize, SetUserZero, Reserve, Place, Patch, ReadOn, Free, CloseAfter, Close, Tell, Give, PlaceBasePage, Begin}
use Rattle.z80_regs.specs.Words.{word_of}
use Rattle.mpm_system.specs.Loading.{handed_over}
use Rattle.mpm_system.specs.declared.system.System.{System}
use Rattle.mpm_machine.proofs.LoadedLaws.{loaded_first, loaded_read, loaded_goes_on}
use Rattle.mpm_machine.specs.Interpreting.{HasReserved}
use Rattle.mpm_machine.specs.Loaded.{IsPieceOf, HasLoadedAt, HasCome, IsLoadedIn}

-- the rows in which it hands over what comes into its segment
abbrev pub hands : Row → Bool
hands Place = true
hands Patch = true
hands PlaceBasePage = true
hands Begin = true
hands _ = false

-- of the interpreter's own row
abbrev pub IsLoadedAs : List ℕ → Memory → Interpreter → Type 0
IsLoadedAs file memory cli = IsLoadedIn cli.row cli file memory

-- in a row in which it has no segment nothing need stand there
pub unloaded : (cli : Interpreter) (file : List ℕ) (memory : Memory) → is_loading cli.row ≡ false → HasCome cli.row cli.load → IsLoadedAs file memory cli
unloaded cli file memory none came = record { code = λ loading. absurd (false≢true (sym none ∙ loading)); came = came }

-- where the whole file came, the row after a piece is the one that closes it
came_behind_marks : (load : Loading) → HasCome (row_behind_marks load) load
unfolding row_behind_marks
came_behind_marks load = either (λ (row : Row). HasCome row load) (has_all load) Close ReadOn (λ all. all) (λ _. tt)

came_behind_code : (load : Loading) → HasCome (row_behind_code load) load
unfolding row_behind_code
came_behind_code load = either (λ (row : Row). HasCome row load) (nat_lt 0 (length (marks_in load))) Patch (row_behind_marks load) (λ _. tt) (λ _. came_behind_marks load)

came_for_piece : (load : Loading) → HasCome (row_for_piece load) load
unfolding row_for_piece
came_for_piece load = either (λ (row : Row). HasCome row load) (nat_lt 0 (length (code_in load))) Place (row_behind_code load) (λ _. tt) (λ _. came_behind_code load)

-- a command comes, a file is opened, its size is known

asks_memory : (relocatable : Bool) (load : Loading) (cli : Interpreter) (file : List ℕ) (memory : Memory) → load.before ≡ 0
    → IsLoadedAs file memory (record cli { row = row_for_memory relocatable load; load = load })
unfolding row_for_memory
asks_memory relocatable load cli file memory first =
    either (λ (row : Row). IsLoadedAs file memory (record cli { row = row; load = load })) (nat_lt 255 (pages_of load.plan)) (CloseAfter NoMemory) (Reserve relocatable (pages_of load.plan))
    (λ _. unloaded (record cli { row = CloseAfter NoMemory; load = load }) file memory refl tt)
    (λ _. unloaded (record cli { row = Reserve relocatable (pages_of load.plan); load = load }) file memory refl first)

followed_so : (command : Option Command) (message : List ℕ) (cli : Interpreter) (file : List ℕ) (memory : Memory) → IsLoadedAs file memory (followed command message cli)
followed_so None message cli file memory = unloaded (followed None message cli) file memory refl tt
followed_so (Some command) message cli file memory =
    either (λ (row : Row). IsLoadedAs file memory (record (followed (Some command) message cli) { row = row })) command.names_drive SetUser OpenQueue
    (λ _. unloaded (record (followed (Some command) message cli) { row = SetUser }) file memory refl tt)
    (λ _. unloaded (record (followed (Some command) message cli) { row = OpenQueue }) file memory refl tt)

opened_so : (hl : ℕ) (opened absent : Row) (cli : Interpreter) (file : List ℕ) (memory : Memory) → IsLoadedAs file memory (record cli { row = opened })
    → IsLoadedAs file memory (record cli { row = absent }) → IsLoadedAs file memory (record cli { row = after_open hl opened absent })
opened_so hl opened absent cli file memory one other =
    let P : Row → Type 0 = λ row. IsLoadedAs file memory (record cli { row = row }) in
    either P (hl == 0) opened _ (λ _. one)
    (λ _. either P (hl == not_found) absent (Tell BadLoad) (λ _. other) (λ _. unloaded (record cli { row = Tell BadLoad }) file memory refl tt))

first_so : (piece : List ℕ) (plan : Option Plan) → IfSome (with_first piece plan) (λ load. load.before ≡ 0)
first_so piece None = tt
first_so piece (Some plan) = refl

begun_so : (piece : List ℕ) → IfSome (begun piece) (λ load. load.before ≡ 0)
unfolding begun
begun_so piece = first_so piece (plan_of piece)

headed_so : (begins : Option Loading) (cli : Interpreter) (file : List ℕ) (memory : Memory) → IfSome begins (λ load. load.before ≡ 0)
    → IsLoadedAs file memory (headed begins cli)
headed_so None cli file memory first = unloaded (headed None cli) file memory refl tt
headed_so (Some load) cli file memory first = asks_memory true load cli file memory first

sized_so : (hl : ℕ) (cli : Interpreter) (file : List ℕ) (memory : Memory) → IsLoadedAs file memory (sized hl cli)
sized_so hl cli file memory =
    let P : Row → Type 0 = λ row. IsLoadedAs file memory (record cli { row = row }) in
    either (IsLoadedAs file memory) (hl == 0) _ _ (λ _. asks_memory false (absolute (size_in cli.fcb)) cli file memory refl)
    (λ _. either P (hl == not_found) SetUserZero (CloseAfter BadLoad) (λ _. unloaded (record cli { row = SetUserZero }) file memory refl tt)
    (λ _. unloaded (record cli { row = CloseAfter BadLoad }) file memory refl tt))

-- a segment is reserved, the next piece comes

reserved_so : (pages : ℕ) (reply : Answer) (cli : Interpreter) (file : List ℕ) (memory : Memory) → cli.load.before ≡ 0 → IsLoadedAs file memory (reserved pages reply cli)
reserved_so pages reply cli file memory first =
    let there = record cli { row = row_for_piece cli.load; seg = byte_at reply 3; spec = record { base = byte_at reply 0; pages = byte_at reply 1 } } in
    either (IsLoadedAs file memory) (reply.hl == 0 && is_segment_of pages reply) there (record cli { row = CloseAfter NoMemory })
    (λ _. record { code = λ _. loaded_first there file memory first; came = came_for_piece cli.load })
    (λ _. unloaded (record cli { row = CloseAfter NoMemory }) file memory refl tt)

read_so : (piece : List ℕ) (cli : Interpreter) (file : List ℕ) (memory : Memory) → HasLoadedAt ReadOn cli file memory → IsLoadedAs file memory (read_on piece cli)
read_so piece cli file memory h = record { code = λ _. loaded_read cli file piece memory h; came = came_read } where
  came_read : HasCome (read_on piece cli).row (read_on piece cli).load
  came_read =
      either (λ (c : Interpreter). HasCome c.row c.load) (length piece == 0) (record cli { row = Free BadLoad })
      (record cli { row = row_for_piece (with_piece piece cli.load); load = with_piece piece cli.load }) (λ _. tt) (λ _. came_for_piece (with_piece piece cli.load))

-- by the answer to a call, which leaves memory

pub answered_so : (row : Row) (cli : Interpreter) (reply : Answer) (file : List ℕ) (memory : Memory) → hands row ≡ false → IsLoadedIn row cli file memory → IsLoadedAs file memory cli
    → IsLoadedAs file memory (took_at row cli reply)
answered_so ReadCommand cli reply file memory asks h now =
    let message = message_in reply.bytes in
    either (IsLoadedAs file memory) (nat_lt (console_in message) cli.consoles) (followed (command_in message) message cli) cli
    (λ _. followed_so (command_in message) message cli file memory) (λ _. now)
answered_so OpenQueue cli reply file memory asks h now =
    let write = record cli { row = WriteQueue; pointer = word_of (byte_at reply 0) (byte_at reply 1) } in
    either (IsLoadedAs file memory) (reply.hl == 0) write (record cli { row = SetUser }) (λ _. unloaded write file memory refl tt) (λ _. unloaded (record cli { row = SetUser }) file memory refl tt)
answered_so WriteQueue cli reply file memory asks h now =
    either (λ (row : Row). IsLoadedAs file memory (record cli { row = row })) (reply.hl == 0) Give (Tell QueueFull) (λ _. unloaded (record cli { row = Give }) file memory refl tt)
    (λ _. unloaded (record cli { row = Tell QueueFull }) file memory refl tt)
answered_so SetUser cli reply file memory asks h now = unloaded (took_at SetUser cli reply) file memory refl tt
answered_so OpenRelocatable cli reply file memory asks h now =
    let c = with_block reply cli in
    opened_so reply.hl ReadHeader OpenAbsolute c file memory (unloaded (record c { row = ReadHeader }) file memory refl tt) (unloaded (record c { row = OpenAbsolute }) file memory refl tt)
answered_so OpenAbsolute cli reply file memory asks h now =
    let c = with_block reply cli in
    opened_so reply.hl ComputeSize (Tell NotFound) c file memory (unloaded (record c { row = ComputeSize }) file memory refl tt) (unloaded (record c { row = Tell NotFound }) file memory refl tt)
answered_so ReadHeader cli reply file memory asks h now = headed_so (begun (records_in reply)) (with_block reply cli) file memory (begun_so (records_in reply))
answered_so ComputeSize cli reply file memory asks h now = sized_so reply.hl (with_block reply cli) file memory
answered_so SetUserZero cli reply file memory asks h now = unloaded (took_at SetUserZero cli reply) file memory refl tt
answered_so (Reserve relocatable pages) cli reply file memory asks h now = reserved_so pages reply cli file memory h.came
answered_so Place cli reply file memory asks h now = absurd (false≢true (sym asks))
answered_so Patch cli reply file memory asks h now = absurd (false≢true (sym asks))
answered_so ReadOn cli reply file memory asks h now = read_so (records_in reply) (with_block reply cli) file memory (h.code refl)
answered_so (Free message) cli reply file memory asks h now = unloaded (took_at (Free message) cli reply) file memory refl tt
answered_so (CloseAfter message) cli reply file memory asks h now = unloaded (took_at (CloseAfter message) cli reply) file memory refl tt
answered_so Close cli reply file memory asks h now = record { code = λ _. h.code refl; came = h.came }
answered_so (Tell message) cli reply file memory asks h now = unloaded (took_at (Tell message) cli reply) file memory refl tt
answered_so Give cli reply file memory asks h now = unloaded (took_at Give cli reply) file memory refl tt
answered_so PlaceBasePage cli reply file memory asks h now = absurd (false≢true (sym asks))
answered_so Begin cli reply file memory asks h now = absurd (false≢true (sym asks))

-- and by what it hands over

pub came_handed : (row : Row) (cli : Interpreter) (reply : Answer) → hands row ≡ true → HasCome row cli.load → HasCome (took_at row cli reply).row (took_at row cli reply).load
came_handed Place cli reply hands came = came_behind_code cli.load
came_handed Patch cli reply hands came = came_behind_marks cli.load
came_handed PlaceBasePage cli reply hands came = came
came_handed Begin cli reply hands came = either (λ (row : Row). HasCome row cli.load) (reply.hl == 0) ReadCommand (Free NoProcess) (λ _. tt) (λ _. tt)
came_handed ReadCommand cli reply hands came = absurd (false≢true hands)
came_handed OpenQueue cli reply hands came = absurd (false≢true hands)
came_handed WriteQueue cli reply hands came = absurd (false≢true hands)
came_handed SetUser cli reply hands came = absurd (false≢true hands)
came_handed OpenRelocatable cli reply hands came = absurd (false≢true hands)
came_handed OpenAbsolute cli reply hands came = absurd (false≢true hands)
came_handed ReadHeader cli reply hands came = absurd (false≢true hands)
came_handed ComputeSize cli reply hands came = absurd (false≢true hands)
came_handed SetUserZero cli reply hands came = absurd (false≢true hands)
came_handed (Reserve relocatable pages) cli reply hands came = absurd (false≢true hands)
came_handed ReadOn cli reply hands came = absurd (false≢true hands)
came_handed (Free message) cli reply hands came = absurd (false≢true hands)
came_handed (CloseAfter message) cli reply hands came = absurd (false≢true hands)
came_handed Close cli reply hands came = absurd (false≢true hands)
came_handed (Tell message) cli reply hands came = absurd (false≢true hands)
came_handed Give cli reply hands came = absurd (false≢true hands)

pub handed_so : (row : Row) (cli : Interpreter) (reply : Answer) (file : List ℕ) (system : System) → hands row ≡ true → is_loading row ≡ true → IsMemory system.memory
    → HasReserved cli system.memory → StandsIn row cli → IsPieceOf file cli.load.before cli.load.piece → IsLoadedIn row cli file system.memory
    → IsLoadedAs file (handed_over (act_at row cli) (call_at row cli).bytes 0 system).memory (took_at row cli reply)
handed_so row cli reply file system hands loading m has s piece h =
    record { code = λ _. loaded_goes_on row cli file reply system loading m has s piece (h.code loading); came = came_handed row cli reply hands h.came }
