-- Worked examples of passwords at opening, and of stamps. The moment of a call is date 2010h, 12:34.
use Rattle.std.proofs.Common.{refl}
use Rattle.std.specs.Prelude.{◌≡◌, ℕ, List, [], ◌∷◌, Some, replicate}
use Rattle.std.specs.FinMap.{get-entries, len-entries, get-insert, entries}
use Rattle.mpm_mount.specs.Drives.{PhysicalExtent, Protection, Drive, with_xfcb}
use Rattle.mpm_mount.proofs.Orders.{entry_total}
use Rattle.mpm_opens.specs.declared.kinds.Mode.{Mode}
use Rattle.mpm_opens.specs.declared.kinds.Mode.TheVariants.{Locked, ReadOnly}
use Rattle.mpm_opens.specs.Opens.{OpenFiles}
use Rattle.mpm_fcb.specs.declared.block.ControlBlock.{ControlBlock}
use Rattle.mpm_file_functions.specs.declared.functions.FileFunction.TheVariants.{OpenFile, WriteSequential, MakeFile}
use Rattle.mpm_refusals.specs.Filing.{Situation}
use Rattle.mpm_bdos.specs.Outcomes.{file_call}
use Rattle.mpm_bdos_trials.proofs.examples.Computing.{file_calls}
use Rattle.mpm_bdos_trials.proofs.examples.Situations.{Extents, Xfcbs, HasFile, name_a, file_of, block_of_name, block_a, open_a, ones_128, no_records, records_of_10, secret, guarded, protected_by, label_with, floppy, with_file, filing_of, a_protected, with_protected, nothing_open, item_of, wrote_of, one_open, call, fails_on, tells, name_with_f5, with_record_0}

-- a label with a data byte, and A with an XFCB of a mode and the password SECRET
abbrev labelled : ℕ → Extents → Xfcbs → Drive
labelled byte m x = floppy m x (Some (label_with byte))

abbrev HasXfcb : Xfcbs → Protection → Type 0
HasXfcb x xfcb = entries x ≡ (file_of name_a, xfcb) ∷ []

abbrev of_mode : ℕ → Protection
of_mode mode = record guarded { mode = mode }

abbrev open_a_in : Mode → OpenFiles
open_a_in mode = one_open (item_of 1 name_a mode 1)

abbrev opening : ℕ → ControlBlock → Extents → Xfcbs → Situation
opening byte b m x = call (filing_of (labelled byte m x) nothing_open) OpenFile b (replicate 8 0)

-- without the password a file of mode 40h is opened in read-only mode, also where unlocked mode is asked for: no number is answered
pub write_password_is_missing : (m : Extents) (x : Xfcbs)
    → HasFile m name_a records_of_10
    → HasXfcb x (of_mode 0x40)
    → file_call (opening 0x81 (block_of_name name_with_f5) m x) ≡ tells 0 (filing_of (labelled 0x81 m x) (open_a_in ReadOnly)) (Some (record open_a { rc = 10 })) []
unfolding file_calls
write_password_is_missing m x e f = simp (get-entries, e, f) refl

-- with it in the mode that is asked for
pub write_password_is_known : (m : Extents) (x : Xfcbs)
    → HasFile m name_a records_of_10
    → HasXfcb x (of_mode 0x40)
    → file_call (call (filing_of (labelled 0x81 m x) nothing_open) OpenFile block_a secret)
    ≡ tells 0 (filing_of (labelled 0x81 m x) (open_a_in Locked)) (Some (record open_a { rc = 10 })) []
unfolding file_calls
write_password_is_known m x e f = simp (get-entries, e, f) refl

-- mode C0h guards against reading too
pub both_passwords_are_missing : (m : Extents) (x : Xfcbs)
    → HasFile m name_a records_of_10
    → HasXfcb x (of_mode 0xC0)
    → file_call (opening 0x81 block_a m x) ≡ fails_on (opening 0x81 block_a m x) 0 7 0x07FF
unfolding file_calls
both_passwords_are_missing m x e f = simp (get-entries, e, f) refl

-- mode 20h guards against neither
pub delete_password_is_missing : (m : Extents) (x : Xfcbs)
    → HasFile m name_a records_of_10
    → HasXfcb x (of_mode 0x20)
    → file_call (opening 0x81 block_a m x) ≡ tells 0 (filing_of (labelled 0x81 m x) (open_a_in Locked)) (Some (record open_a { rc = 10 })) []
unfolding file_calls
delete_password_is_missing m x e f = simp (get-entries, e, f) refl

-- and without 80h in the label no password holds
pub no_passwords_hold : (m : Extents) (x : Xfcbs)
    → HasFile m name_a records_of_10
    → HasXfcb x (of_mode 0xC0)
    → file_call (opening 0x01 block_a m x) ≡ tells 0 (filing_of (labelled 0x01 m x) (open_a_in Locked)) (Some (record open_a { rc = 10 })) []
unfolding file_calls
no_passwords_hold m x e f = simp (get-entries, e, f) refl

-- with 40h in the label an opening puts the first stamp, on a protected drive too
abbrev now : List ℕ
now = 0x10 ∷ 0x20 ∷ 0x12 ∷ 0x34 ∷ []

pub opening_is_stamped : (m : Extents) (x : Xfcbs)
    → HasFile m name_a records_of_10
    → HasXfcb x (protected_by 0)
    → file_call (call (with_protected a_protected (filing_of (labelled 0x41 m x) nothing_open)) OpenFile block_a (replicate 8 0))
    ≡ tells 0
    (with_protected a_protected (filing_of (with_xfcb (labelled 0x41 m x) (file_of name_a) (record (protected_by 0) { first = now })) (open_a_in Locked)))
    (Some (record open_a { rc = 10 })) []
unfolding file_calls
opening_is_stamped m x e f = simp (get-entries, e, f) refl

-- with 10h a making makes an XFCB with it; 40h says nothing of a making
pub making_is_stamped : (m : Extents) (x : Xfcbs)
    → entries m ≡ []
    → entries x ≡ []
    → (file_call (call (filing_of (labelled 0x11 m x) nothing_open) MakeFile block_a (replicate 9 1))).filing
    ≡ filing_of (with_xfcb (with_file (labelled 0x11 m x) name_a no_records) (file_of name_a) (record (protected_by 0) { first = now })) (open_a_in Locked)
unfolding file_calls
making_is_stamped m x e f = simp (get-entries, len-entries, e, f) refl

pub making_is_no_opening : (m : Extents) (x : Xfcbs)
    → entries m ≡ []
    → entries x ≡ []
    → (file_call (call (filing_of (labelled 0x41 m x) nothing_open) MakeFile block_a (replicate 9 1))).filing
    ≡ filing_of (with_file (labelled 0x41 m x) name_a no_records) (open_a_in Locked)
unfolding file_calls
making_is_no_opening m x e f = simp (len-entries, e, f) refl

-- with 20h the first record that is written by way of an open file puts the second stamp
pub first_record_is_stamped : (m : Extents) (x : Xfcbs)
    → HasFile m name_a no_records
    → HasXfcb x (protected_by 0)
    → file_call (call (filing_of (labelled 0x21 m x) (open_a_in Locked)) WriteSequential open_a ones_128)
    ≡ tells 0
    (filing_of
    (with_xfcb (with_file (labelled 0x21 m x) name_a with_record_0) (file_of name_a) (record (protected_by 0) { second = now }))
    (one_open (wrote_of 1 name_a Locked 1)))
    (Some (record open_a { rc = 1; cr = 1 })) []
unfolding file_calls
first_record_is_stamped m x e f = simp (get-insert {X = PhysicalExtent} entry_total, get-entries, e, f) refl

-- a later one doesn't
pub later_record_is_not : (m : Extents) (x : Xfcbs)
    → HasFile m name_a no_records
    → HasXfcb x (protected_by 0)
    → file_call (call (filing_of (labelled 0x21 m x) (one_open (wrote_of 1 name_a Locked 1))) WriteSequential open_a ones_128)
    ≡ tells 0 (filing_of (with_file (labelled 0x21 m x) name_a with_record_0) (one_open (wrote_of 1 name_a Locked 1))) (Some (record open_a { rc = 1; cr = 1 })) []
unfolding file_calls
later_record_is_not m x e f = simp (get-insert {X = PhysicalExtent} entry_total, get-entries, e) refl
