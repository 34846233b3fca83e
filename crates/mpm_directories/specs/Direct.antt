-- The calls on drives and positions that no disk serves: they are done in their gate step. (MP/M II Programmer's Guide, functions
-- 14, 24, 29, 31 and 36.)
use Rattle.std.specs.Prelude.{◌≡◌, ℕ, ◌%◌, ◌^◌, ◌&&◌, Bool, false, List, Option, Some, None, is_some, map, sum, bytes_eq, slice_index_or, if◌then◌else◌}
use Rattle.mpm_base.specs.Calls.{Taken, Answer, answering}
use Rattle.mpm_file_functions.specs.declared.refusals.Extended.{Extended}
use Rattle.mpm_file_functions.specs.Refusals.{answered, refused_value, refused_extended}
use Rattle.std.specs.List.{range_with_len}
use Rattle.mpm_fcb.specs.Blocks.{block_of, bytes_of}
use Rattle.mpm_fcb.specs.Positions.{sequential_record, with_random}
use Rattle.mpm_base.specs.declared.kind.Kind.{Kind}
use Rattle.mpm_blocks.specs.Geometries.{parameters_of, parameter_bytes}
use Rattle.mpm_file_functions.specs.declared.functions.DirectFunction.{DirectFunction}
use Rattle.mpm_file_functions.specs.declared.functions.DirectFunction.TheVariants.{SelectDisk, LoginVector, ReadOnlyVector, DiskParameters, SetRandomRecord}
use Rattle.mpm_file_functions.specs.declared.refusals.Refusal.TheVariants.{NotMounted}
use Rattle.mpm_fcb.specs.declared.block.ControlBlock.{ControlBlock}

-- what becomes of the caller's current drive and DMA address: nothing, another drive, or both as at its beginning
pub data CallerChange : Type 0 where
  Stays : CallerChange
  Selects : ℕ → CallerChange
  Resets : CallerChange

-- a file control block is written back where it changes
abbrev pub where_changed : List ℕ → List ℕ → Option (List ℕ)
where_changed old new = if bytes_eq new old then None else (Some new)

-- what becomes of the caller, the reply and its extended error
pub record Directly : Type 0 where
  pub caller : CallerChange
  pub answer : Answer
  pub extended : Option Extended

abbrev pub answers : Answer → Directly
answers answer = record { caller = Stays; answer = answer; extended = None }

-- refused where a drive isn't mounted
abbrev pub not_mounted : ℕ → Directly
not_mounted number =
    record { caller = Stays; answer = answering (refused_value (answered NotMounted)); extended = refused_extended number (answered NotMounted) }

abbrev pub where_mounted : ℕ → Option Kind → (Kind → Directly) → Directly
where_mounted number None done = not_mounted number
where_mounted number (Some kind) done = done kind

-- the mask of the drives that pass a test, drive A in bit 0
abbrev pub bit_where : (ℕ → Bool) → ℕ → ℕ
bit_where test drive = if test drive then 2 ^ drive else 0

unfoldable pub mask_of : (ℕ → Bool) → ℕ
mask_of test = sum (map (bit_where test) (range_with_len 0 16))

-- the disk parameter block, in the system's own memory
abbrev pub parameters_told : Kind → Directly
parameters_told kind = answers (record { hl = 0xFE80; fcb = None; at = 0xFE80; bytes = parameter_bytes (parameters_of kind) })

-- a drive is selected
abbrev pub selected : (ℕ → Option Kind) → Taken → Directly
selected kinds call =
    let number = call.word % 256 in
    where_mounted number (kinds number) (λ kind. record { caller = Selects number; answer = answering 0; extended = None })

abbrev pub positioned : ControlBlock → ControlBlock
positioned b = with_random b (sequential_record b)

-- by the kinds of the drives that are mounted and by which drives are protected, of a process whose current drive is this one
unfoldable pub direct_by : (ℕ → Option Kind) → (ℕ → Bool) → ℕ → Taken → DirectFunction → Directly
direct_by kinds protected drive call SelectDisk = selected kinds call
direct_by kinds protected drive call LoginVector = answers (answering (mask_of (λ number. is_some (kinds number))))
direct_by kinds protected drive call ReadOnlyVector = answers (answering (mask_of (λ number. is_some (kinds number) && protected number)))
direct_by kinds protected drive call DiskParameters = where_mounted drive (kinds drive) parameters_told
direct_by kinds protected drive call SetRandomRecord = answers (record (answering 0) { fcb = where_changed call.fcb (bytes_of (positioned (block_of call.fcb))) })

abbrev pub is_protected : List Bool → ℕ → Bool
is_protected protected number = slice_index_or protected number false
