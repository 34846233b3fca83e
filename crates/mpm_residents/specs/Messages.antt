-- What the interpreter tells of commands that it can't follow. (MP/M II User's Guide, "Command Line Interpreter".)
use Rattle.std.specs.Prelude.{ℕ, List, [], ◌∷◌, ◌++◌, codes}
use Rattle.mpm_residents.specs.declared.cli.table.Message.{Message}
use Rattle.mpm_residents.specs.declared.cli.table.Message.TheVariants.{NotFound, BadLoad, NoMemory, NoProcess, QueueFull}

-- a text and the end of its line
abbrev pub line_of : List ℕ → List ℕ
line_of text = text ++ 13 ∷ 10 ∷ []

abbrev pub message_of : Message → List ℕ
message_of NotFound = line_of (codes "Command not found")
message_of BadLoad = line_of (codes "Bad load")
message_of NoMemory = line_of (codes "No memory")
message_of NoProcess = line_of (codes "No process")
message_of QueueFull = line_of (codes "Queue full")
