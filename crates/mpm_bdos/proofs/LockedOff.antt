-- What ends a locking of records is what comes to the record that it has come to, as the locks then stand; and that is another process's
-- lock exactly where the record is there and another process has it.
use Rattle.std.proofs.Common.{◌≡◌, ◌∙◌, refl, sym, subst, ℕ, zero, suc, ◌+◌, ◌==◌, Bool, true, false, not, cond, List, [], Option, Some, None, arith}
use Rattle.std.specs.Prelude.{IfSome}
use Rattle.std.proofs.lemmas.Bool.{false≢true}
use Rattle.mpm_mount.specs.Drives.{Drive}
use Rattle.mpm_opens.specs.declared.kinds.FileKey.{FileKey}
use Rattle.mpm_opens.specs.declared.kinds.RecordLock.{RecordLock}
use Rattle.mpm_opens.specs.declared.kinds.LockDone.TheVariants.{Locked, Other, ProcessLimit, NoRoom}
use Rattle.mpm_opens.specs.Locks.{owner_of, where_owned, lock_answer}
use Rattle.mpm_opens.specs.Opens.{OpenFiles, locked}
use Rattle.mpm_file_functions.specs.declared.errors.RecordError.{RecordError}
use Rattle.mpm_mount.specs.Records.{read_error}
use Rattle.mpm_file_functions.specs.declared.ends.RecordEnd.{RecordEnd}
use Rattle.mpm_file_functions.specs.declared.ends.RecordEnd.TheVariants.{LockedOff}
use Rattle.mpm_file_functions.specs.declared.functions.FileFunction.TheVariants.{LockRecord}
use Rattle.mpm_refusals.specs.Subjects.{file_of}
use Rattle.mpm_bdos.specs.Records.{RecordAsked, Locking, end_of, unless_ended, locking}
use Rattle.mpm_locks.specs.Locks.{is_another, is_locked_off, refused_lock, lock_end}
use Rattle.mpm_bdos.proofs.LockEnds.{lock_ends}

-- who asks for the lock of a record
abbrev pub asking : Drive → OpenFiles → ℕ → FileKey → RecordAsked
asking drive opens p file = record { drive = drive; opens = opens; process = p; file = file; expected = [] }

-- a lock is refused for another's exactly where another process has it
never_free : (many full : Bool) → refused_lock (cond many ProcessLimit (cond full NoRoom Locked)) ≡ Some LockedOff → ⊥
never_free true full is = cc
never_free false true is = cc
never_free false false is = cc

anothers : (owner : ℕ) (own : Bool) → refused_lock (cond own Locked (Other owner)) ≡ Some LockedOff → not own ≡ true
anothers owner true is = absurd (cc)
anothers owner false is = refl

off_by : (owner : ℕ) (own : Bool) → not own ≡ true → refused_lock (cond own Locked (Other owner)) ≡ Some LockedOff
off_by owner true is = absurd (false≢true is)
off_by owner false is = refl

owned_by : (locks : List RecordLock) (p : ℕ) (owner : Option ℕ) → refused_lock (where_owned locks p owner) ≡ Some LockedOff → is_another p owner ≡ true
owned_by locks p None is = absurd (never_free _ _ is)
owned_by locks p (Some owner) is = anothers owner (owner == p) is

-- after what keeps the record from being read
read_and_owned : (locks : List RecordLock) (p : ℕ) (error : Option RecordError) (owner : Option ℕ) → lock_end error (where_owned locks p owner) ≡ Some LockedOff
    → (error ≡ None) × (is_another p owner ≡ true)
read_and_owned locks p None owner is = (refl, owned_by locks p owner is)
read_and_owned locks p (Some error) owner is = absurd (cc)

off_where : (locks : List RecordLock) (p : ℕ) (error : Option RecordError) (owner : Option ℕ) → error ≡ None → is_another p owner ≡ true
    → lock_end error (where_owned locks p owner) ≡ Some LockedOff
off_where locks p (Some error) owner there is = absurd (cc)
off_where locks p None None there is = absurd (false≢true is)
off_where locks p None (Some owner) there is = off_by owner (owner == p) is

pub locked_off_only : (drive : Drive) (opens : OpenFiles) (p : ℕ) (file : FileKey) (n : ℕ) → end_of LockRecord (asking drive opens p file) n ≡ Some LockedOff
    → (read_error drive (file_of file) n ≡ None) × (is_locked_off opens p file n ≡ true)
unfolding lock_answer is_locked_off
locked_off_only drive opens p file n is =
    read_and_owned opens.locks p (read_error drive (file_of file) n) (owner_of opens.locks file n) (sym (lock_ends drive opens p file n) ∙ is)

pub locked_off_where : (drive : Drive) (opens : OpenFiles) (p : ℕ) (file : FileKey) (n : ℕ) → read_error drive (file_of file) n ≡ None → is_locked_off opens p file n ≡ true
    → end_of LockRecord (asking drive opens p file) n ≡ Some LockedOff
unfolding lock_answer is_locked_off
locked_off_where drive opens p file n there is =
    lock_ends drive opens p file n ∙ off_where opens.locks p (read_error drive (file_of file) n) (owner_of opens.locks file n) there is

-- the record at which a locking ends
abbrev IsMet : Drive → ℕ → FileKey → ℕ → Locking → Type 0
IsMet drive p file n l = IfSome l.end (λ end. end_of LockRecord (asking drive l.opens p file) (n + l.moved) ≡ Some end)

met_by : (drive : Drive) (opens : OpenFiles) (p : ℕ) (file : FileKey) (n : ℕ) (end : Option RecordEnd) (rest : Locking) → end_of LockRecord (asking drive opens p file) n ≡ end
    → IsMet drive p file (n + 1) rest → IsMet drive p file n (unless_ended opens end rest)
met_by drive opens p file n None rest is met =
    let at : n + 1 + rest.moved ≡ n + (rest.moved + 1) = omega arith in
    subst (λ k. IfSome rest.end (λ end. end_of LockRecord (asking drive rest.opens p file) k ≡ Some end)) at met
met_by drive opens p file n (Some end) rest is met =
    let at : n ≡ n + 0 = omega arith in
    subst (λ k. end_of LockRecord (asking drive opens p file) k ≡ Some end) at is

pub locking_met : (drive : Drive) (opens : OpenFiles) (p : ℕ) (file : FileKey) (n count : ℕ)
    → IfSome (locking drive opens p file n count).end
    (λ end. end_of LockRecord (asking drive (locking drive opens p file n count).opens p file) (n + (locking drive opens p file n count).moved) ≡ Some end)
unfolding locking
locking_met drive opens p file n zero = tt
locking_met drive opens p file n (suc count) =
    met_by drive opens p file n (end_of LockRecord (asking drive opens p file) n) (locking drive (locked opens p file n) p file (n + 1) count) refl
    (locking_met drive (locked opens p file n) p file (n + 1) count)
