-- A call that locks records, and what it answers of another process's lock.
use Rattle.std.proofs.Common.{◌≡◌, ◌∙◌, refl, sym, ap, subst, ℕ, zero, suc, ◌+◌, ◌*◌, ◌<◌, true, cond, Option, Some, None, IfSome, arith}
use Rattle.mpm_mount.specs.Drives.{Drive}
use Rattle.mpm_opens.specs.declared.kinds.FileKey.{FileKey}
use Rattle.mpm_opens.specs.declared.kinds.Mode.TheVariants.{Unlocked}
use Rattle.mpm_opens.specs.Kinds.{is_same_mode}
use Rattle.mpm_opens.specs.Opens.{OpenFiles, locked}
use Rattle.mpm_file_functions.specs.declared.errors.RecordError.TheVariants.{UnwrittenExtent, UnwrittenData, Mismatch, NoDirectorySpace, NoDataBlock}
use Rattle.mpm_mount.specs.Records.{read_error}
use Rattle.mpm_file_functions.specs.declared.ends.Ended.{Ended}
use Rattle.mpm_file_functions.specs.declared.ends.RecordEnd.{RecordEnd}
use Rattle.mpm_file_functions.specs.declared.ends.RecordEnd.TheVariants.{Failing, LockedOff, TooManyLocks, NoLockRoom}
use Rattle.mpm_file_functions.specs.declared.functions.FileFunction.TheVariants.{LockRecord}
use Rattle.mpm_refusals.specs.Filing.{Situation}
use Rattle.mpm_refusals.specs.Subjects.{drive_at, file_of, subject_key, first_record, open_mode}
use Rattle.mpm_refusals.specs.Refusals.{refusal_of}
use Rattle.mpm_bdos.specs.Records.{Locking, end_of, unless_ended, locking}
use Rattle.mpm_locks.specs.Locks.{is_locked_off}
use Rattle.mpm_file_functions.specs.Ends.{coded}
use Rattle.mpm_bdos.specs.Jobs.{call_turns, turned}
use Rattle.mpm_bdos.specs.Changes.{locking_of}
use Rattle.mpm_bdos.specs.Replies.{ended_for, granted_of, answer_after}
use Rattle.mpm_file_entries.specs.Granting.{value_by}
use Rattle.mpm_bdos.specs.Outcomes.{outcome_by, file_call}
use Rattle.mpm_bdos.specs.Leaving.{nothing_locked}
use Rattle.mpm_bdos.proofs.LockedOff.{asking, locked_off_only, locked_off_where, locking_met}
use Rattle.mpm_bdos.proofs.ToldLaws.{few_locked}

-- records of a file that is open in unlocked mode are locked, and nothing refuses that
pub record LocksRecords (s : Situation) : Type 0 where
  pub granted : refusal_of s ≡ None
  pub function : s.function ≡ LockRecord
  pub mode : is_same_mode (open_mode s) Unlocked ≡ true

-- the record after those that it locked is one that it names, is there, and another process has it locked
pub record IsLockedOut (s : Situation) : Type 0 where
  pub named : (locking_of s).moved < s.caller.multi
  pub there : read_error (drive_at s) (file_of (subject_key s)) (first_record s + (locking_of s).moved) ≡ None
  pub anothers : is_locked_off (locking_of s).opens s.caller.process (subject_key s) (first_record s + (locking_of s).moved) ≡ true

abbrev locks_in : Situation → Locking
locks_in s = locking (drive_at s) s.filing.opens s.caller.process (subject_key s) (first_record s) s.caller.multi

its_locking : (s : Situation) → LocksRecords s → locking_of s ≡ locks_in s
unfolding locking_of
its_locking s so = ap (λ b. cond b (locks_in s) (nothing_locked s.filing.opens)) so.mode

its_value : (s : Situation) → LocksRecords s → (file_call s).answer.hl ≡ coded LockRecord (locking_of s).moved (locking_of s).end
unfolding file_call answer_after granted_of value_by
its_value s so =
    let t = turned s (call_turns s) in
    ap (λ refusal. (outcome_by s t refusal).answer.hl) so.granted
    ∙ (λ i. value_by t.drive (granted_of s t) (so.function i))
    ∙ ap (λ (ended : Ended). coded LockRecord ended.moved ended.end) (ap (ended_for s t) so.function)

-- 8 is the code of that end alone
off_by_code : (moved : ℕ) (end : Option RecordEnd) → coded LockRecord moved end ≡ 4096 * moved + 8 → end ≡ Some LockedOff
off_by_code moved None is = absurd (omega (arith, is))
off_by_code moved (Some LockedOff) is = refl
off_by_code moved (Some TooManyLocks) is = absurd (omega (arith, is))
off_by_code moved (Some NoLockRoom) is = absurd (omega (arith, is))
off_by_code moved (Some (Failing UnwrittenExtent)) is = absurd (omega (arith, is))
off_by_code moved (Some (Failing UnwrittenData)) is = absurd (omega (arith, is))
off_by_code moved (Some (Failing NoDirectorySpace)) is = absurd (omega (arith, is))
off_by_code moved (Some (Failing NoDataBlock)) is = absurd (omega (arith, is))
off_by_code moved (Some (Failing Mismatch)) is = absurd (omega (arith, is))

-- where nothing ends it, all are locked
abbrev HasEnd : Locking → Type 0
HasEnd l = (end : RecordEnd) × (l.end ≡ Some end)

one_or_end : (opens : OpenFiles) (end : Option RecordEnd) (rest : Locking) (count : ℕ) → (rest.moved < count → HasEnd rest) → (unless_ended opens end rest).moved < suc count
    → HasEnd (unless_ended opens end rest)
one_or_end opens None rest count then fewer = then (omega (arith, fewer))
one_or_end opens (Some end) rest count then fewer = (end, refl)

all_or_end : (count : ℕ) (drive : Drive) (opens : OpenFiles) (p : ℕ) (file : FileKey) (n : ℕ) → (locking drive opens p file n count).moved < count → HasEnd (locking drive opens p file n count)
unfolding locking
all_or_end zero drive opens p file n less = absurd (omega (arith, less))
all_or_end (suc count) drive opens p file n less =
    one_or_end opens (end_of LockRecord (asking drive opens p file) n) (locking drive (locked opens p file n) p file (n + 1) count) count
    (all_or_end count drive (locked opens p file n) p file (n + 1)) less

met_so : (drive : Drive) (p : ℕ) (file : FileKey) (n : ℕ) (l : Locking) (end : RecordEnd) → IfSome l.end (λ e. end_of LockRecord (asking drive l.opens p file) (n + l.moved) ≡ Some e) → l.end ≡ Some end
    → end_of LockRecord (asking drive l.opens p file) (n + l.moved) ≡ Some end
met_so drive p file n l end met is = subst (λ o. IfSome o (λ e. end_of LockRecord (asking drive l.opens p file) (n + l.moved) ≡ Some e)) is met

fewer_so : (l : Locking) (count : ℕ) (end : RecordEnd) → IfSome l.end (λ e. l.moved < count) → l.end ≡ Some end → l.moved < count
fewer_so l count end few is = subst (λ o. IfSome o (λ e. l.moved < count)) is few

-- so 42 answers 8, and how many it locked, exactly where the next record is there and another process has it locked
locked_out : (s : Situation) (l : Locking) → l ≡ locks_in s → l.end ≡ Some LockedOff
    → (l.moved < s.caller.multi) × (read_error (drive_at s) (file_of (subject_key s)) (first_record s + l.moved) ≡ None)
    × (is_locked_off l.opens s.caller.process (subject_key s) (first_record s + l.moved) ≡ true)
locked_out s l is off =
    let drive = drive_at s in
    let p = s.caller.process in
    let file = subject_key s in
    let n = first_record s in
    let met = subst (λ (one : Locking). IfSome one.end (λ e. end_of LockRecord (asking drive one.opens p file) (n + one.moved) ≡ Some e)) (sym is)
    (locking_met drive s.filing.opens p file n s.caller.multi) in
    let few = subst (λ (one : Locking). IfSome one.end (λ e. one.moved < s.caller.multi)) (sym is) (few_locked s.caller.multi drive s.filing.opens p file n) in
    let only = locked_off_only drive l.opens p file (n + l.moved) (met_so drive p file n l LockedOff met off) in
    (fewer_so l s.caller.multi LockedOff few off, only.0, only.1)

ends_off : (s : Situation) (l : Locking) → l ≡ locks_in s → l.moved < s.caller.multi → read_error (drive_at s) (file_of (subject_key s)) (first_record s + l.moved) ≡ None
    → is_locked_off l.opens s.caller.process (subject_key s) (first_record s + l.moved) ≡ true → l.end ≡ Some LockedOff
ends_off s l is named there anothers =
    let drive = drive_at s in
    let p = s.caller.process in
    let file = subject_key s in
    let n = first_record s in
    let met = subst (λ (one : Locking). IfSome one.end (λ e. end_of LockRecord (asking drive one.opens p file) (n + one.moved) ≡ Some e)) (sym is)
    (locking_met drive s.filing.opens p file n s.caller.multi) in
    let some = all_or_end s.caller.multi drive s.filing.opens p file n (subst (λ (one : Locking). one.moved < s.caller.multi) is named) in
    let its : l.end ≡ Some some.0 = ap (λ (one : Locking). one.end) is ∙ some.1 in
    its ∙ sym (met_so drive p file n l some.0 met its) ∙ locked_off_where drive l.opens p file (n + l.moved) there anothers

pub locked_off : (s : Situation) → LocksRecords s
    → ((file_call s).answer.hl ≡ 4096 * (locking_of s).moved + 8 → IsLockedOut s) × (IsLockedOut s → (file_call s).answer.hl ≡ 4096 * (locking_of s).moved + 8)
locked_off s so = (out, value)
  where
    out : (file_call s).answer.hl ≡ 4096 * (locking_of s).moved + 8 → IsLockedOut s
    out is =
        let off = off_by_code (locking_of s).moved (locking_of s).end (sym (its_value s so) ∙ is) in
        let so_far = locked_out s (locking_of s) (its_locking s so) off in
        record { named = so_far.0; there = so_far.1; anothers = so_far.2 }

    value : IsLockedOut s → (file_call s).answer.hl ≡ 4096 * (locking_of s).moved + 8
    value is = its_value s so ∙ ap (coded LockRecord (locking_of s).moved) (ends_off s (locking_of s) (its_locking s so) is.named is.there is.anothers)
