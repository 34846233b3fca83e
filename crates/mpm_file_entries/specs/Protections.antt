-- What an XFCB and the directory label keep: their bytes, what a call puts into them, and what is answered of them. (MP/M II Programmer's
-- Guide, "Extended File Control Blocks", "Directory Labels".)
use Rattle.std.specs.Prelude.{ℕ, Bool, List, ◌∷◌, ◌++◌, Option, option_map, unwrap_or, bit_and, bit_or, if◌then◌else◌}
use Rattle.mpm_base.specs.Lists.{zeros}
use Rattle.mpm_mount.specs.Drives.{Protection, DirectoryLabel}
use Rattle.mpm_guard.specs.Passwords.{decode_byte, encoded, has_bit}
use Rattle.mpm_fcb.specs.declared.block.ControlBlock.{ControlBlock}
use Rattle.mpm_fcb.specs.Opening.{with_xfcb}
use Rattle.mpm_jobs.specs.declared.jobs.Job.{Job}
use Rattle.mpm_jobs.specs.Jobs.{with_bytes}

-- an XFCB or a label as a job has it
abbrev pub protection_bytes : Protection → List ℕ
protection_bytes p = p.mode ∷ p.decode ∷ (p.password ++ (p.first ++ p.second))

abbrev pub no_protection : Protection
no_protection = record { mode = 0; decode = 0; password = zeros 8; first = zeros 4; second = zeros 4 }

-- what a label keeps; nothing where there is none
abbrev pub kept_by_label : Option DirectoryLabel → Protection
kept_by_label label = unwrap_or (option_map (λ (l : DirectoryLabel). l.protection) label) no_protection

abbrev pub with_password : List ℕ → Protection → Protection
with_password password p = record p { decode = decode_byte password; password = encoded password }

-- the XFCB of a file that is made: mode and password where the call gives them, the first stamp where the label asks for it
abbrev pub given_xfcb : Bool → ℕ → List ℕ → Protection
given_xfcb gives mode password = if gives then with_password password (record no_protection { mode = mode }) else no_protection

abbrev pub with_first_stamp : Bool → List ℕ → Protection → Protection
with_first_stamp asks moment p = if asks then record p { first = moment } else p

-- an XFCB or a label that is changed: byte 12 of the block has the mode or data byte, of which the XFCB's has three bits and the
-- label's always 01h, and with 01h asks for another password
abbrev pub with_new_password : ℕ → List ℕ → Protection → Protection
with_new_password asked password p = if has_bit 0x01 asked then with_password password p else p

abbrev pub label_put : ℕ → List ℕ → Protection → Protection
label_put asked password p = record (with_new_password asked password p) { mode = bit_or asked 1 }

abbrev pub xfcb_put : ℕ → List ℕ → Protection → Protection
xfcb_put asked password p = record (with_new_password asked password p) { mode = bit_and asked 0xE0 }

abbrev pub told_xfcb : Protection → ControlBlock → ControlBlock
told_xfcb xfcb b = with_xfcb b xfcb.mode xfcb.first xfcb.second

-- a job that puts an XFCB or a label
abbrev pub with_protection : Protection → Job → Job
with_protection p job = with_bytes (protection_bytes p) job
