-- Worked examples of the calls on directory labels and XFCBs: functions 100 to 103.
use Rattle.std.proofs.Common.{refl}
use Rattle.std.specs.Prelude.{◌≡◌, ℕ, List, [], ◌∷◌, ◌++◌, Option, Some, None, replicate}
use Rattle.std.specs.FinMap.{get-entries, len-entries, entries}
use Rattle.mpm_mount.specs.Drives.{Protection, DirectoryLabel, with_xfcb}
use Rattle.mpm_opens.specs.declared.kinds.Mode.TheVariants.{Locked}
use Rattle.mpm_fcb.specs.declared.block.ControlBlock.{ControlBlock}
use Rattle.mpm_file_functions.specs.declared.functions.FileFunction.TheVariants.{OpenFile, SetLabel, LabelData, ReadXfcb, WriteXfcb}
use Rattle.mpm_refusals.specs.Filing.{Filing}
use Rattle.mpm_bdos.specs.Outcomes.{file_call}
use Rattle.mpm_bdos_trials.proofs.examples.Computing.{file_calls}
use Rattle.mpm_bdos_trials.proofs.examples.Situations.{Extents, Xfcbs, HasFile, name_a, any_name, file_of, block_a, records_of_10, secret, guarded, protected_by, label_with, floppy, with_kept, filing_of, a_protected, with_protected, nothing_open, item_of, one_open, call, call_on, knowing, fails, fails_on, tells, done}

abbrev labelled : Option DirectoryLabel → Extents → Xfcbs → Filing
labelled label m x = filing_of (floppy m x label) nothing_open

-- a control block whose byte 12 asks for a data byte, or for a mode; and the bytes of two passwords, that which is known and a new one
abbrev asking : ℕ → ControlBlock
asking byte = record block_a { ex = byte }

abbrev unknown : List ℕ
unknown = replicate 16 0

abbrev becomes_secret : List ℕ
becomes_secret = replicate 8 0 ++ secret

-- a label with the password SECRET
abbrev secret_label : DirectoryLabel
secret_label = record { name = name_a; protection = record guarded { mode = 0x81 } }

-- 100: a protected drive
pub label_on_protected_drive : (m : Extents) (x : Xfcbs)
    → file_call (call (with_protected a_protected (labelled None m x)) SetLabel (asking 0x80) unknown)
    ≡ fails_on (call (with_protected a_protected (labelled None m x)) SetLabel (asking 0x80) unknown) 0 2 0x02FF
unfolding file_calls
label_on_protected_drive m x = refl

-- the label's own password holds
pub label_without_password : (m : Extents) (x : Xfcbs)
    → file_call (call (labelled (Some secret_label) m x) SetLabel (asking 0x80) unknown)
    ≡ fails_on (call (labelled (Some secret_label) m x) SetLabel (asking 0x80) unknown) 0 7 0x07FF
unfolding file_calls
label_without_password m x = refl

-- a label that is to be made, and none of 64 entries is free
abbrev full : ℕ → Extents → Xfcbs → Filing
full kept m x = filing_of (with_kept kept (floppy m x None)) nothing_open

pub no_entry_for_label : (m : Extents) (x : Xfcbs)
    → entries m ≡ []
    → entries x ≡ []
    → file_call (call (full 64 m x) SetLabel (asking 0x80) unknown) ≡ fails (call (full 64 m x) SetLabel (asking 0x80) unknown) 0x00FF
unfolding file_calls
no_entry_for_label m x e f = simp (len-entries, e, f) refl

-- a label is made in the last entry: its data byte gets 01h, its name stands as it is given, and there is no password
pub label_made : (m : Extents) (x : Xfcbs)
    → entries m ≡ []
    → entries x ≡ []
    → file_call (call (full 63 m x) SetLabel (record (asking 0xA0) { name = any_name }) unknown)
    ≡ done (filing_of (record (with_kept 63 (floppy m x None)) { label = Some (record { name = any_name; protection = protected_by 0xA1 }) }) nothing_open)
unfolding file_calls
label_made m x e f = simp (len-entries, e, f) refl

-- one that is there gets another data byte and, as byte 12 asks for it by 01h, another password
pub label_gets_password : (m : Extents) (x : Xfcbs)
    → entries m ≡ []
    → entries x ≡ []
    → file_call (call (labelled (Some (label_with 0x01)) m x) SetLabel (asking 0x81) becomes_secret) ≡ done (labelled (Some secret_label) m x)
unfolding file_calls
label_gets_password m x e f = simp (len-entries, e, f) refl

-- who knows its password by the default one changes the data byte alone
pub label_keeps_password : (m : Extents) (x : Xfcbs)
    → entries m ≡ []
    → entries x ≡ []
    → (file_call (knowing secret (call (labelled (Some secret_label) m x) SetLabel (asking 0x40) unknown))).filing
    ≡ labelled (Some (record { name = name_a; protection = record guarded { mode = 0x41 } })) m x
unfolding file_calls
label_keeps_password m x e f = simp (len-entries, e, f) refl

-- 101: the data byte, 0 where there is no label
pub no_label_data : (m : Extents) (x : Xfcbs) → file_call (call_on (labelled None m x) LabelData 0) ≡ tells 0 (labelled None m x) None []
unfolding file_calls
no_label_data m x = refl

pub label_data : (m : Extents) (x : Xfcbs)
    → file_call (call_on (labelled (Some (label_with 0x91)) m x) LabelData 0) ≡ tells 0x91 (labelled (Some (label_with 0x91)) m x) None []
unfolding file_calls
label_data m x = refl

-- 102: an XFCB without its file isn't answered
pub xfcb_without_file : (m : Extents) (x : Xfcbs)
    → entries m ≡ []
    → entries x ≡ (file_of name_a, guarded) ∷ []
    → file_call (call (labelled None m x) ReadXfcb block_a []) ≡ fails (call (labelled None m x) ReadXfcb block_a []) 0x00FF
unfolding file_calls
xfcb_without_file m x e f = simp (e) refl

-- its mode comes into byte 12, its stamps into bytes 24 to 31; all else stays
abbrev stamped : Protection
stamped = record guarded { first = 1 ∷ 2 ∷ 3 ∷ 4 ∷ []; second = 5 ∷ 6 ∷ 7 ∷ 8 ∷ [] }

abbrev filled_block : ControlBlock
filled_block = record { drive = 1; name = name_a; ex = 9; s1 = 9; s2 = 9; rc = 9; map = replicate 16 9; cr = 9; random = replicate 3 9 }

pub xfcb_told : (m : Extents) (x : Xfcbs)
    → HasFile m name_a records_of_10
    → entries x ≡ (file_of name_a, stamped) ∷ []
    → file_call (call (labelled None m x) ReadXfcb filled_block [])
    ≡ tells 0 (labelled None m x) (Some (record filled_block { ex = 0x80; map = replicate 8 9 ++ (1 ∷ 2 ∷ 3 ∷ 4 ∷ 5 ∷ 6 ∷ 7 ∷ 8 ∷ []) })) []
unfolding file_calls
xfcb_told m x e f = simp (get-entries, e, f) refl

-- a file without one has zeros there
pub no_xfcb_told : (m : Extents) (x : Xfcbs)
    → HasFile m name_a records_of_10
    → entries x ≡ []
    → file_call (call (labelled None m x) ReadXfcb filled_block [])
    ≡ tells 0 (labelled None m x) (Some (record filled_block { ex = 0; map = replicate 8 9 ++ replicate 8 0 })) []
unfolding file_calls
no_xfcb_told m x e f = simp (get-entries, e, f) refl

-- 103: the password of an XFCB holds where the label has 80h
pub xfcb_without_password : (m : Extents) (x : Xfcbs)
    → HasFile m name_a records_of_10
    → entries x ≡ (file_of name_a, guarded) ∷ []
    → file_call (call (labelled (Some (label_with 0x81)) m x) WriteXfcb (asking 0x40) unknown)
    ≡ fails_on (call (labelled (Some (label_with 0x81)) m x) WriteXfcb (asking 0x40) unknown) 0 7 0x07FF
unfolding file_calls
xfcb_without_password m x e f = simp (get-entries, e, f) refl

-- process 2 has the file open
abbrev open_by_2 : Extents → Xfcbs → Filing
open_by_2 m x = filing_of (with_kept 63 (floppy m x None)) (one_open (item_of 2 name_a Locked 1))

pub xfcb_of_open_file : (m : Extents) (x : Xfcbs)
    → HasFile m name_a records_of_10
    → entries x ≡ []
    → file_call (call (open_by_2 m x) WriteXfcb (asking 0x40) unknown) ≡ fails_on (call (open_by_2 m x) WriteXfcb (asking 0x40) unknown) 0 5 0x05FF
unfolding file_calls
xfcb_of_open_file m x e f = simp (get-entries, e, f) refl

-- an XFCB that is to be made, and none of 64 entries is free
pub no_entry_for_new_xfcb : (m : Extents) (x : Xfcbs)
    → HasFile m name_a records_of_10
    → entries x ≡ []
    → file_call (call (full 63 m x) WriteXfcb (asking 0x40) unknown) ≡ fails (call (full 63 m x) WriteXfcb (asking 0x40) unknown) 0x00FF
unfolding file_calls
no_entry_for_new_xfcb m x e f = simp (get-entries, len-entries, e, f) refl

-- one is made without a label too: of byte 12 three bits are its mode, and by 01h it has the password
pub xfcb_is_made : (m : Extents) (x : Xfcbs)
    → HasFile m name_a records_of_10
    → entries x ≡ []
    → file_call (call (full 62 m x) WriteXfcb (asking 0x9F) becomes_secret)
    ≡ done (filing_of (with_xfcb (with_kept 62 (floppy m x None)) (file_of name_a) guarded) nothing_open)
unfolding file_calls
xfcb_is_made m x e f = simp (get-entries, len-entries, e, f) refl

-- one that is there keeps its password and its stamps
pub xfcb_is_changed : (m : Extents) (x : Xfcbs)
    → HasFile m name_a records_of_10
    → entries x ≡ (file_of name_a, stamped) ∷ []
    → file_call (call (labelled (Some (label_with 0x81)) m x) WriteXfcb (asking 0x40) (secret ++ replicate 8 1))
    ≡ done (filing_of (with_xfcb (floppy m x (Some (label_with 0x81))) (file_of name_a) (record stamped { mode = 0x40 })) nothing_open)
unfolding file_calls
xfcb_is_changed m x e f = simp (get-entries, len-entries, e, f) refl

-- one of mode 0 guards nothing
pub opens_without_password : (m : Extents) (x : Xfcbs)
    → HasFile m name_a records_of_10
    → entries x ≡ (file_of name_a, record guarded { mode = 0 }) ∷ []
    → (file_call (call (labelled (Some (label_with 0x81)) m x) OpenFile block_a (replicate 8 9))).answer.hl ≡ 0
unfolding file_calls
opens_without_password m x e f = simp (get-entries, e, f) refl
