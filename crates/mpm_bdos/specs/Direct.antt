-- The calls that no disk serves, by the drives as file calls find them. (MP/M II Programmer's Guide, functions 14, 24, 29, 31 and
-- 36.)
use Rattle.std.specs.Prelude.{ℕ, Option, IfSome, option_map}
use Rattle.mpm_base.specs.declared.kind.Kind.{Kind}
use Rattle.mpm_base.specs.Calls.{Taken}
use Rattle.mpm_file_functions.specs.declared.functions.DirectFunction.{DirectFunction}
use Rattle.mpm_file_functions.specs.Functions.{direct_of}
use Rattle.mpm_refusals.specs.Filing.{Filing}
use Rattle.mpm_refusals.specs.Subjects.{mounted}
use Rattle.mpm_directories.specs.Direct.{Directly, direct_by, is_protected}

abbrev pub kind_of : Filing → ℕ → Option Kind
kind_of filing number = option_map (λ drive. drive.kind) (mounted filing number)

unfoldable pub direct : Filing → ℕ → Taken → DirectFunction → Directly
direct filing drive call function = direct_by (kind_of filing) (is_protected filing.protected) drive call function

-- something is so of what a call comes to, if it is one that no disk serves
abbrev pub IfDirect : Filing → ℕ → Taken → (Directly → Type 0) → Type 0
IfDirect filing drive call P = IfSome (direct_of call.function) (λ function. P (direct filing drive call function))
