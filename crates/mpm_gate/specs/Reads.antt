-- What each kernel call reads in its caller's memory: one table. (MP/M II Programmer's Guide, "BDOS Function Calls",
-- "XDOS Function Calls".)
use Rattle.std.specs.Prelude.{ℕ, ◌+◌, ◌*◌, List, [], ◌∷◌, if◌then◌else◌}
use Rattle.mpm_base.specs.Lists.{is_among}
use Rattle.mpm_base.specs.declared.functions.TheConstants.{PRINT_STRING, READ_CONSOLE_BUFFER, OPEN_FILE, CLOSE_FILE, SEARCH_FOR_FIRST, DELETE_FILE, READ_SEQUENTIAL, WRITE_SEQUENTIAL, MAKE_FILE, RENAME_FILE, SET_FILE_ATTRIBUTES, READ_RANDOM, WRITE_RANDOM, COMPUTE_FILE_SIZE, SET_RANDOM_RECORD, WRITE_RANDOM_WITH_ZERO_FILL, TEST_AND_WRITE_RECORD, LOCK_RECORD, UNLOCK_RECORD, CHAIN_TO_PROGRAM, SET_DIRECTORY_LABEL, READ_FILE_XFCB, WRITE_FILE_XFCB, SET_DATE_AND_TIME, SET_DEFAULT_PASSWORD, ABSOLUTE_MEMORY_REQUEST, RELOCATABLE_MEMORY_REQUEST, MEMORY_FREE, MAKE_QUEUE, OPEN_QUEUE, DELETE_QUEUE, READ_QUEUE, CONDITIONAL_READ_QUEUE, WRITE_QUEUE, CONDITIONAL_WRITE_QUEUE, CREATE_PROCESS, ASSIGN_CONSOLE, SEND_CLI_COMMAND, CALL_RESIDENT_SYSTEM_PROCEDURE, PARSE_FILENAME, ABORT_SPECIFIED_PROCESS}
use Rattle.mpm_gate.specs.declared.reads.Reads.{Reads}
use Rattle.mpm_gate.specs.declared.reads.Reads.TheVariants.{Registers, Block, Pointing, Descriptors, DollarString, TextAtDma, Command, File, Records}

-- a row: some functions, and what the call of each reads
pub record ReadsRow : Type 0 where
  pub functions : List ℕ
  pub reads : Reads

abbrev pub row : List ℕ → Reads → ReadsRow
row functions reads = record { functions = functions; reads = reads }

-- the table; a function that stands in no row reads its registers alone
abbrev pub table : List ReadsRow
table =
    row (PRINT_STRING ∷ []) DollarString
    ∷ row (READ_CONSOLE_BUFFER ∷ []) (Block 1)
    ∷ row (OPEN_FILE ∷ DELETE_FILE ∷ RENAME_FILE ∷ SET_FILE_ATTRIBUTES ∷ []) (File 8)
    ∷ row (CLOSE_FILE ∷ SEARCH_FOR_FIRST ∷ READ_SEQUENTIAL ∷ READ_RANDOM ∷ COMPUTE_FILE_SIZE ∷ SET_RANDOM_RECORD ∷ READ_FILE_XFCB ∷ []) (File 0)
    ∷ row (WRITE_SEQUENTIAL ∷ WRITE_RANDOM ∷ WRITE_RANDOM_WITH_ZERO_FILL ∷ []) (Records 128)
    ∷ row (MAKE_FILE ∷ []) (File 9)
    ∷ row (TEST_AND_WRITE_RECORD ∷ []) (Records 256)
    ∷ row (LOCK_RECORD ∷ UNLOCK_RECORD ∷ []) (File 2)
    ∷ row (CHAIN_TO_PROGRAM ∷ []) TextAtDma
    ∷ row (SET_DIRECTORY_LABEL ∷ WRITE_FILE_XFCB ∷ []) (File 16)
    ∷ row (SET_DATE_AND_TIME ∷ ABSOLUTE_MEMORY_REQUEST ∷ RELOCATABLE_MEMORY_REQUEST ∷ MEMORY_FREE ∷ []) (Block 4)
    ∷ row (SET_DEFAULT_PASSWORD ∷ []) (Block 8)
    ∷ row (MAKE_QUEUE ∷ DELETE_QUEUE ∷ []) (Block 14)
    ∷ row (OPEN_QUEUE ∷ READ_QUEUE ∷ CONDITIONAL_READ_QUEUE ∷ []) (Block 12)
    ∷ row (WRITE_QUEUE ∷ CONDITIONAL_WRITE_QUEUE ∷ []) (Pointing 12 2 2048)
    ∷ row (CREATE_PROCESS ∷ []) Descriptors
    ∷ row (ASSIGN_CONSOLE ∷ []) (Block 10)
    ∷ row (SEND_CLI_COMMAND ∷ []) Command
    ∷ row (CALL_RESIDENT_SYSTEM_PROCEDURE ∷ []) (Pointing 4 0 8)
    ∷ row (PARSE_FILENAME ∷ []) (Pointing 4 0 128)
    ∷ row (ABORT_SPECIFIED_PROCESS ∷ []) (Block 13)
    ∷ []

-- what rows say of a function
abbrev pub reads_by : List ReadsRow → ℕ → Reads
reads_by [] function = Registers
reads_by (row ∷ rows) function = if is_among function row.functions then row.reads else (reads_by rows function)

-- what the call of a function reads
unfoldable pub reads_of : ℕ → Reads
reads_of function = reads_by table function

-- how many bytes a call reads at most, besides its file control block, at a multi-sector count
abbrev pub most_read : Reads → ℕ → ℕ
most_read Registers multi = 0
most_read (Block size) multi = size
most_read (Pointing size offset count) multi = size + count
most_read Descriptors multi = 576
most_read DollarString multi = 4096
most_read TextAtDma multi = 128
most_read Command multi = 130
most_read (File size) multi = size
most_read (Records size) multi = multi * size
