-- Worked examples of the calls on drives: functions 13, 14, 24, 28, 29, 31, 36 to 39, 46 and 48; and what a drive that isn't mounted
-- is answered. The floppy disk is in drive A, process 1 calls.
use Rattle.std.proofs.Common.{refl}
use Rattle.std.specs.Prelude.{◌≡◌, ℕ, List, [], ◌∷◌, Some, None, true, false, map, replicate, slice_set}
use Rattle.std.specs.FinMap.{entries}
use Rattle.mpm_base.specs.Calls.{Taken, answering}
use Rattle.mpm_opens.specs.declared.kinds.Mode.TheVariants.{Locked, Unlocked}
use Rattle.mpm_opens.specs.Opens.{OpenFiles}
use Rattle.mpm_fcb.specs.declared.block.ControlBlock.{ControlBlock}
use Rattle.mpm_fcb.specs.Blocks.{bytes_of}
use Rattle.mpm_file_functions.specs.declared.functions.FileFunction.{FileFunction}
use Rattle.mpm_file_functions.specs.declared.functions.FileFunction.TheVariants.{ResetDisks, OpenFile, CloseFile, SearchFirst, SearchNext, DeleteFile, ReadSequential, WriteSequential, MakeFile, RenameFile, ProtectDisk, SetAttributes, ReadRandom, WriteRandom, FileSize, ResetDrives, AccessDrives, FreeDrives, TestAndWrite, LockRecord, UnlockRecord, FreeSpace, FlushBuffers, SetLabel, LabelData, ReadXfcb, WriteXfcb}
use Rattle.mpm_file_functions.specs.declared.functions.DirectFunction.TheVariants.{SelectDisk, LoginVector, ReadOnlyVector, DiskParameters, SetRandomRecord}
use Rattle.mpm_refusals.specs.Filing.{Filing, LastSearch, Situation}
use Rattle.mpm_directories.specs.Direct.{Stays, Selects, Resets}
use Rattle.mpm_bdos.specs.Outcomes.{file_call}
use Rattle.mpm_bdos.specs.Direct.{direct}
use Rattle.mpm_bdos_trials.proofs.examples.Computing.{file_calls, direct_calls}
use Rattle.mpm_bdos_trials.proofs.examples.Situations.{Extents, Xfcbs, name_a, any_name, file_of, block_of_name, block_a, open_a, floppy, filing_of, a_protected, with_protected, nothing_open, item_of, one_open, two_open, lock_of, with_locks, call, call_on, fails, fails_on, tells, done, open_by_1}

-- the functions whose control block names a drive, and one that each of them would refuse for something else too: of drive B, with
-- `?` in both names, another handle's bytes, and a record number of more than 18 bits
abbrev by_block : List FileFunction
by_block =
    OpenFile ∷ CloseFile ∷ SearchFirst ∷ DeleteFile ∷ ReadSequential ∷ WriteSequential ∷ MakeFile ∷ RenameFile ∷ SetAttributes ∷ ReadRandom
    ∷ WriteRandom ∷ FileSize ∷ TestAndWrite ∷ LockRecord ∷ UnlockRecord ∷ SetLabel ∷ ReadXfcb ∷ WriteXfcb ∷ []

abbrev wrong_block : ℕ → ControlBlock
wrong_block drive = record (block_of_name any_name) { drive = drive; map = replicate 16 63; random = 255 ∷ 255 ∷ 255 ∷ [] }

abbrev call_wrong : Extents → Xfcbs → ℕ → FileFunction → Situation
call_wrong m x drive function = call (filing_of (floppy m x None) nothing_open) function (wrong_block drive) (replicate 128 0)

-- drive B isn't mounted: extended error 4 comes first
pub drive_of_block_unmounted : (m : Extents) (x : Xfcbs)
    → map (λ function. file_call (call_wrong m x 2 function)) by_block ≡ map (λ function. fails_on (call_wrong m x 2 function) 1 4 0x04FF) by_block
unfolding file_calls
drive_of_block_unmounted m x = refl

-- nor is there a drive after P: byte 0 is 17
pub no_such_drive : (m : Extents) (x : Xfcbs)
    → map (λ function. file_call (call_wrong m x 17 function)) by_block ≡ map (λ function. fails_on (call_wrong m x 17 function) 16 4 0x04FF) by_block
unfolding file_calls
no_such_drive m x = refl

-- functions 46 and 101 name their drive in E
pub drive_of_e_unmounted : (m : Extents) (x : Xfcbs)
    → map (λ function. file_call (call_on (filing_of (floppy m x None) nothing_open) function 0x0301)) (FreeSpace ∷ LabelData ∷ [])
    ≡ map (λ function. fails_on (call_on (filing_of (floppy m x None) nothing_open) function 0x0301) 1 4 0x04FF) (FreeSpace ∷ LabelData ∷ [])
unfolding file_calls
drive_of_e_unmounted m x = refl

-- function 18 names that of its search
abbrev search_on_b : LastSearch
search_on_b = record { drive = 1; user = 0; pattern = any_name; extent = 0; found = (file_of name_a, 0) }

abbrev searched_on_b : Filing → Filing
searched_on_b filing = record filing { searches = None ∷ (Some search_on_b ∷ replicate 30 None) }

pub drive_of_search_unmounted : (m : Extents) (x : Xfcbs)
    → file_call (call (searched_on_b (filing_of (floppy m x None) nothing_open)) SearchNext block_a [])
    ≡ fails_on (call (searched_on_b (filing_of (floppy m x None) nothing_open)) SearchNext block_a []) 1 4 0x04FF
unfolding file_calls
drive_of_search_unmounted m x = refl

-- 13: process 2 has a file open, so that no drive is reset; but drive A and the DMA address are
abbrev open_by_2 : OpenFiles
open_by_2 = one_open (item_of 2 name_a Locked 1)

pub disks_in_use : (m : Extents) (x : Xfcbs)
    → file_call (call (with_protected a_protected (filing_of (floppy m x None) open_by_2)) ResetDisks block_a [])
    ≡ record (fails (call (with_protected a_protected (filing_of (floppy m x None) open_by_2)) ResetDisks block_a []) 0x00FF) { caller = Resets }
unfolding file_calls
disks_in_use m x = refl

-- the caller's own open file counts for nothing: no drive is protected any more, and the file stays open
pub disks_reset : (m : Extents) (x : Xfcbs)
    → file_call (call (with_protected a_protected (filing_of (floppy m x None) open_by_1)) ResetDisks block_a [])
    ≡ record (done (filing_of (floppy m x None) open_by_1)) { caller = Resets }
unfolding file_calls
disks_reset m x = refl

-- 28: process 2 has a file open on drive A
pub disk_in_use : (m : Extents) (x : Xfcbs)
    → file_call (call (filing_of (floppy m x None) open_by_2) ProtectDisk block_a []) ≡ fails (call (filing_of (floppy m x None) open_by_2) ProtectDisk block_a []) 0x00FF
unfolding file_calls
disk_in_use m x = refl

-- that it has marked drive A counts for nothing here
abbrev marked : ℕ → ℕ → Filing → Filing
marked process mask filing = record filing { marks = slice_set (replicate 32 0) process mask }

pub disk_protected : (m : Extents) (x : Xfcbs)
    → file_call (call (marked 2 1 (filing_of (floppy m x None) open_by_1)) ProtectDisk block_a [])
    ≡ done (marked 2 1 (with_protected a_protected (filing_of (floppy m x None) open_by_1)))
unfolding file_calls
disk_protected m x = refl

-- 37: but it does here, if drive A is among those that are to be reset
pub drive_marked_by_another : (m : Extents) (x : Xfcbs)
    → file_call (call_on (marked 2 1 (filing_of (floppy m x None) nothing_open)) ResetDrives 3)
    ≡ fails (call_on (marked 2 1 (filing_of (floppy m x None) nothing_open)) ResetDrives 3) 0x00FF
unfolding file_calls
drive_marked_by_another m x = refl

-- B and C are reset, and A stays protected
pub drives_reset : (m : Extents) (x : Xfcbs)
    → file_call (call_on (with_protected (true ∷ true ∷ replicate 14 false) (marked 2 1 (filing_of (floppy m x None) open_by_2))) ResetDrives 6)
    ≡ done (with_protected a_protected (marked 2 1 (filing_of (floppy m x None) open_by_2)))
unfolding file_calls
drives_reset m x = refl

-- 38: A and C are marked, mounted or not, beside B
pub drives_marked : (m : Extents) (x : Xfcbs)
    → file_call (call_on (marked 1 2 (filing_of (floppy m x None) nothing_open)) AccessDrives 5)
    ≡ done (marked 1 7 (filing_of (floppy m x None) nothing_open))
unfolding file_calls
drives_marked m x = refl

-- 39: A is given back, with the mark, the file, opened twice, and its lock; B stays marked, and what process 2 has stays
abbrev open_twice : OpenFiles
open_twice = with_locks (lock_of 1 name_a 5 ∷ (lock_of 2 name_a 6 ∷ [])) (two_open (item_of 1 name_a Unlocked 2) (item_of 2 name_a Unlocked 1))

pub drives_given_back : (m : Extents) (x : Xfcbs)
    → file_call (call_on (marked 1 3 (filing_of (floppy m x None) open_twice)) FreeDrives 1)
    ≡ done (marked 1 2 (filing_of (floppy m x None) (with_locks (lock_of 2 name_a 6 ∷ []) (two_open None (item_of 2 name_a Unlocked 1)))))
unfolding file_calls
drives_given_back m x = refl

-- 46: an empty disk has 241 blocks of 8 records: 1,928
pub free_of_empty : (m : Extents) (x : Xfcbs)
    → entries m ≡ []
    → file_call (call_on (filing_of (floppy m x None) nothing_open) FreeSpace 0)
    ≡ tells 0 (filing_of (floppy m x None) nothing_open) None (0x88 ∷ 7 ∷ 0 ∷ [])
unfolding file_calls
free_of_empty m x e = simp (e) refl

-- 48: nothing is left to be written
pub nothing_to_flush : (m : Extents) (x : Xfcbs)
    → file_call (call (filing_of (floppy m x None) open_twice) FlushBuffers block_a [])
    ≡ done (filing_of (floppy m x None) open_twice)
unfolding file_calls
nothing_to_flush m x = refl

-- the calls that no disk serves, of a process on drive A, and of one on drive B
abbrev taken : ℕ → ControlBlock → Taken
taken word b = record { function = 0; word = word; dma = 0x80; fcb = bytes_of b; bytes = [] }

-- 14: B can't be selected, A can
pub drive_not_selected : (m : Extents) (x : Xfcbs)
    → direct (filing_of (floppy m x None) nothing_open) 0 (taken 1 block_a) SelectDisk
    ≡ record { caller = Stays; answer = answering 0x04FF; extended = Some (record { code = 4; drive = 1 }) }
unfolding direct_calls
drive_not_selected m x = refl

pub drive_selected : (m : Extents) (x : Xfcbs)
    → direct (filing_of (floppy m x None) nothing_open) 1 (taken 0x0300 block_a) SelectDisk
    ≡ record { caller = Selects 0; answer = answering 0; extended = None }
unfolding direct_calls
drive_selected m x = refl

-- 24: A alone is mounted
pub login_vector : (m : Extents) (x : Xfcbs)
    → direct (filing_of (floppy m x None) nothing_open) 0 (taken 0 block_a) LoginVector ≡ record { caller = Stays; answer = answering 1; extended = None }
unfolding direct_calls
login_vector m x = refl

-- 29: of the drives that are protected the mounted ones are answered
pub read_only_vector : (m : Extents) (x : Xfcbs)
    → direct (with_protected (replicate 16 true) (filing_of (floppy m x None) nothing_open)) 0 (taken 0 block_a) ReadOnlyVector
    ≡ record { caller = Stays; answer = answering 1; extended = None }
unfolding direct_calls
read_only_vector m x = refl

-- 31: a process on drive B has no disk parameter block; the floppy disk's has its fifteen bytes
pub no_parameters : (m : Extents) (x : Xfcbs)
    → direct (filing_of (floppy m x None) nothing_open) 1 (taken 0 block_a) DiskParameters
    ≡ record { caller = Stays; answer = answering 0x04FF; extended = Some (record { code = 4; drive = 1 }) }
unfolding direct_calls
no_parameters m x = refl

pub disk_parameters : (m : Extents) (x : Xfcbs)
    → direct (filing_of (floppy m x None) nothing_open) 0 (taken 0 block_a) DiskParameters
    ≡ record {
      caller = Stays;
      answer = record {
        hl = 0xFE80;
        fcb = None;
        at = 0xFE80;
        bytes = 26 ∷ 0 ∷ 3 ∷ 7 ∷ 0 ∷ 242 ∷ 0 ∷ 63 ∷ 0 ∷ 0xC0 ∷ 0 ∷ 16 ∷ 0 ∷ 2 ∷ 0 ∷ [];
      };
      extended = None;
    }
unfolding direct_calls
disk_parameters m x = refl

-- 36: record 1 of extent 1 is record 129 of the file
pub position_told : (m : Extents) (x : Xfcbs)
    → direct (filing_of (floppy m x None) nothing_open) 0 (taken 0 (record open_a { ex = 1; cr = 1 })) SetRandomRecord
    ≡ record {
      caller = Stays;
      answer = record (answering 0) { fcb = Some (bytes_of (record open_a { ex = 1; cr = 1; random = 129 ∷ 0 ∷ 0 ∷ [] })) };
      extended = None;
    }
unfolding direct_calls
position_told m x = refl
