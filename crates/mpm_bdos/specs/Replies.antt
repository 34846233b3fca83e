-- What a call that isn't refused answers: its value, its file control block and its bytes, by what its turns have come to.
use Rattle.std.specs.Prelude.{◌≡◌, ℕ, Bool, true, false, List, [], Option, Some, None, Result, Ok, Err, nat_lt}
use Rattle.std.specs.List.{flat_map}
use Rattle.mpm_base.specs.Calls.{Answer}
use Rattle.mpm_opens.specs.declared.kinds.Mode.{Mode}
use Rattle.mpm_opens.specs.declared.kinds.OpenRefused.{OpenRefused}
use Rattle.mpm_opens.specs.Items.{add_answer}
use Rattle.mpm_file_functions.specs.declared.functions.FileFunction.{FileFunction}
use Rattle.mpm_file_functions.specs.declared.functions.FileFunction.TheVariants.{OpenFile, SearchFirst, SearchNext, ReadSequential, WriteSequential, MakeFile, ReadRandom, WriteRandom, TestAndWrite, LockRecord, FreeSpace}
use Rattle.mpm_mount.specs.Drives.{FileName, Drive, free_records}
use Rattle.mpm_mount.specs.Directories.{Directory, Stands}
use Rattle.mpm_mount.specs.Files.{where_there}
use Rattle.mpm_fcb.specs.Blocks.{bytes_of}
use Rattle.mpm_fcb.specs.Positions.{three_bytes}
use Rattle.mpm_refusals.specs.Filing.{Situation, block}
use Rattle.mpm_refusals.specs.Subjects.{subject, subject_key, first_record, mode_by, found}
use Rattle.mpm_file_entries.specs.Telling.{found_bytes}
use Rattle.mpm_file_functions.specs.declared.ends.RecordEnd.{RecordEnd}
use Rattle.mpm_file_functions.specs.declared.ends.Ended.{Ended}
use Rattle.mpm_file_entries.specs.declared.granting.OpenedAs.{OpenedAs}
use Rattle.mpm_file_entries.specs.declared.granting.Granted.{Granted}
use Rattle.mpm_files.specs.declared.work.Work.{Work}
use Rattle.mpm_file_functions.specs.Ends.{end_by, done_by}
use Rattle.mpm_bdos.specs.Jobs.{Turned, free_count}
use Rattle.mpm_bdos.specs.Changes.{locking_of}
use Rattle.mpm_bdos.specs.Ending.{is_reading, HasRead}
use Rattle.mpm_file_entries.specs.Granting.{value_by, block_by, FewDone}
use Rattle.mpm_directories.specs.Direct.{where_changed}

-- whether a call's job was cut before a record that another process has locked
abbrev pub is_cut_by : Situation → FileFunction → Bool
is_cut_by s WriteSequential = nat_lt (free_count s) s.caller.multi
is_cut_by s WriteRandom = nat_lt (free_count s) s.caller.multi
is_cut_by s TestAndWrite = nat_lt (free_count s) s.caller.multi
is_cut_by s function = false

-- what ended its records
unfoldable pub end_after : Situation → Turned → Option RecordEnd
end_after s t = end_by t.error (is_cut_by s s.function)

-- what its records come to: those that it locks, or those of its job
abbrev pub ended_for : Situation → Turned → FileFunction → Ended
ended_for s t LockRecord = record { moved = (locking_of s).moved; end = (locking_of s).end }
ended_for s t function = record { moved = t.moved; end = end_after s t }

-- a file that it opens or makes: in which mode, and by which number, as the list of open files answers
abbrev pub opened_as : Mode → Result ℕ OpenRefused → Option OpenedAs
opened_as mode (Ok number) = Some (record { mode = mode; number = number })
opened_as mode (Err refusal) = None

abbrev pub opened_in_mode : Situation → Mode → Option OpenedAs
opened_in_mode s mode = opened_as mode (add_answer s.filing.opens.items s.caller.process (subject_key s) mode)

abbrev pub opened_for : Situation → FileFunction → Option OpenedAs
opened_for s OpenFile = opened_in_mode s (mode_by s OpenFile)
opened_for s MakeFile = opened_in_mode s (mode_by s MakeFile)
opened_for s function = None

-- what its reply goes by, besides what its drive then has. The name of the file is the block's
unfoldable pub granted_of : Situation → Turned → Granted
granted_of s t = record {
  function = s.function;
  block = block s;
  owner = (subject s).user;
  first = first_record s;
  ended = ended_for s t s.function;
  opened = opened_for s s.function;
}

-- the bytes at the DMA address: records that were read, an entry that was found, how much is free
unfoldable pub bytes_by : Drive → List (List ℕ) → Option (FileName × ℕ) → FileFunction → List ℕ
bytes_by drive records found ReadSequential = flat_map (λ bytes. bytes) records
bytes_by drive records found ReadRandom = flat_map (λ bytes. bytes) records
bytes_by drive records found SearchFirst = found_bytes drive found
bytes_by drive records found SearchNext = found_bytes drive found
bytes_by drive records found FreeSpace = three_bytes (free_records drive)
bytes_by drive records found function = []

-- all of it, by what it goes by; the file control block is written back where it changes
abbrev pub answer_by : Drive → Granted → List (List ℕ) → Option (FileName × ℕ) → List ℕ → ℕ → Answer
answer_by drive g records found fcb dma = record {
  hl = value_by drive g g.function;
  fcb = where_changed fcb (bytes_of (block_by drive g g.function));
  at = dma;
  bytes = bytes_by drive records found g.function;
}

-- a value with bytes, and without a file control block
abbrev pub answering_at : ℕ → ℕ → List ℕ → Answer
answering_at value at bytes = record { hl = value; fcb = None; at = at; bytes = bytes }

-- it is answered so on its drive, where few records are done if something ended them, those that it read stand at the front of its
-- job's bytes, and of the entry that it found these bytes are told
abbrev pub IsAnswered : Directory → Granted → ℕ → Option Work → Option (List ℕ) → (Drive → List (List ℕ) → Option (FileName × ℕ) → Type 0) → Type 0
IsAnswered directory g multi work told P =
    (image : List ℕ) (drive : Drive) (records : List (List ℕ)) (found : Option (FileName × ℕ)) → Stands image directory drive → FewDone multi g.ended
    → (is_reading g.function ≡ true → HasRead (done_by multi (value_by drive g g.function)) work records)
    → where_there told (λ bytes. bytes) ≡ found_bytes drive found → P drive records found

unfoldable pub answer_after : Situation → Turned → Answer
answer_after s t = answer_by t.drive (granted_of s t) t.records (found s) s.call.fcb s.call.dma
