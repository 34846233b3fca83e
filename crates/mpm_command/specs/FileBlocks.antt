-- The file control block of a name. (MP/M II Programmer's Guide, "Function 152: Parse Filename".)
use Rattle.std.specs.Prelude.{ℕ, List, ◌∷◌, ◌++◌}
use Rattle.mpm_base.specs.Lists.{zeros}
use Rattle.mpm_names.specs.declared.file_name.Parsed.{Parsed}
use Rattle.mpm_command.specs.BasePages.{block_named}

-- the drive, the name with its type and four zeros, the password at 16, its length at 26, and zeros
abbrev pub file_block : Parsed → List ℕ
file_block name = block_named name ++ (name.password ++ (0 ∷ 0 ∷ name.password_length ∷ zeros 9))
