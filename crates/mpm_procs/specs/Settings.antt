-- What a process sets for itself. (MP/M II Programmer's Guide, "Function 32: Set/Get User Code", "Function 44: Set
-- Multi-Sector Count".)
use Rattle.std.specs.Prelude.{ℕ, ◌%◌, Bool, ◌&&◌, ◌==◌, nat_le, if◌then◌else◌}
use Rattle.mpm_base.specs.declared.call.TheConstants.{FAILURE_CODE}
use Rattle.mpm_procs.specs.declared.process.Process.{Process}

-- FFh asks for the user, another byte sets it modulo 16
abbrev pub user_value : ℕ → Process → ℕ
user_value byte process = if byte == 255 then process.user else 0

abbrev pub with_user : ℕ → Process → Process
with_user byte process = record process { user = if byte == 255 then process.user else byte % 16 }

-- the multi-sector count is 1 to 16
abbrev pub is_count : ℕ → Bool
is_count n = nat_le 1 n && nat_le n 16

abbrev pub multi_value : ℕ → ℕ
multi_value count = if is_count count then 0 else FAILURE_CODE

abbrev pub with_multi : ℕ → Process → Process
with_multi count process = record process { multi = if is_count count then count else process.multi }
