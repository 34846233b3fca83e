-- Records that are locked, one after the other.
use Rattle.std.proofs.Common.{◌≡◌, ◌∙◌, refl, sym, ap, ℕ, suc, ◌+◌, ◌<◌, List, [], Option, Some, None, arith}
use Rattle.mpm_dirent.specs.Names.{plain}
use Rattle.mpm_mount.specs.Drives.{Drive}
use Rattle.mpm_mount.specs.Directories.{Directory, Stands}
use Rattle.mpm_opens.specs.declared.kinds.FileKey.{FileKey}
use Rattle.mpm_opens.specs.Locks.{lock_answer}
use Rattle.mpm_opens.specs.Opens.{OpenFiles, IsLive, process_of, locked}
use Rattle.mpm_opens.specs.Opens as open_files
use Rattle.mpm_file_functions.specs.declared.errors.RecordError.{RecordError}
use Rattle.mpm_mount.specs.Records.{read_error}
use Rattle.mpm_base.proofs.CountLaws.{less_by}
use Rattle.mpm_file_functions.specs.declared.ends.RecordEnd.{RecordEnd}
use Rattle.mpm_file_functions.specs.declared.functions.FileFunction.TheVariants.{LockRecord}
use Rattle.mpm_refusals.specs.Subjects.{file_of}
use Rattle.mpm_bdos.specs.Records.{Locking, end_of, one_locked, unless_ended, locking}
use Rattle.mpm_locks.specs.Locks.{lock_end}
use Rattle.mpm_bdos.proofs.LockEnds.{lock_ends}

-- a locking after so many records
abbrev moved_on : ℕ → Locking → Locking
moved_on k l = record l { moved = l.moved + k }

nothing_more : (l : Locking) → l ≡ moved_on 0 l
nothing_more l = ap (λ m. record l { moved = m }) (omega arith)

-- so many were locked, and what is left; all items are as they were
pub record LocksTo (d : Directory) (initial now : OpenFiles) (item : ℕ) (file : FileKey) (first count k : ℕ) : Type 0 where
  pub items : now.items ≡ initial.items
  pub live : IsLive now item
  pub rest : (image : List ℕ) (drive : Drive) → Stands image d drive → (left : ℕ) → k + left ≡ count
      → locking drive initial (process_of initial item) file first count
      ≡ moved_on k (locking drive now (process_of initial item) file (first + k) left)

none_done : (drive : Drive) (opens : OpenFiles) (p : ℕ) (file : FileKey) (first count left : ℕ) → count ≡ left → first ≡ first + 0
    → locking drive opens p file first count ≡ moved_on 0 (locking drive opens p file (first + 0) left)
none_done drive opens p file first count left all here =
    ap (locking drive opens p file first) all ∙ ap (λ n. locking drive opens p file n left) here
    ∙ nothing_more (locking drive opens p file (first + 0) left)

pub none_locked : (d : Directory) (opens : OpenFiles) (item : ℕ) (file : FileKey) (first count : ℕ) → IsLive opens item
    → LocksTo d opens opens item file first count 0
none_locked d opens item file first count live = record {
  items = refl;
  live = live;
  rest = λ image drive stands left h. none_done drive opens (process_of opens item) file first count left (omega (arith, h)) (omega arith);
}

-- what keeps a record from being read, of a name without attributes
pub plainly : (drive : Drive) (file : FileKey) (n : ℕ) → plain file.name ≡ file.name
    → read_error drive (record { user = file.user; name = plain file.name }) n ≡ read_error drive (file_of file) n
plainly drive file n e = ap (λ name. read_error drive (record { user = file.user; name = name }) n) e

-- what comes to a record after so many
ended : (drive : Drive) (now : OpenFiles) (p q : ℕ) (file its : FileKey) (n m : ℕ) (error : Option RecordError) (result : Option RecordEnd)
    → plain file.name ≡ file.name → p ≡ q → its ≡ file → m ≡ n
    → error ≡ read_error drive (record { user = file.user; name = plain file.name }) m
    → result ≡ lock_end error (lock_answer now.locks p its m)
    → end_of LockRecord (record { drive = drive; opens = now; process = q; file = file; expected = [] }) n ≡ result
ended drive now p q file its n m error result name same_p same_file at reads is =
    lock_ends drive now q file n
    ∙ ap (λ e. lock_end e (lock_answer now.locks q file n)) (ap (read_error drive (file_of file)) (sym at) ∙ sym (reads ∙ plainly drive file m name))
    ∙ ap (λ k. lock_end error (lock_answer now.locks q file k)) (sym at)
    ∙ ap (λ f. lock_end error (lock_answer now.locks q f m)) (sym same_file)
    ∙ ap (λ r. lock_end error (lock_answer now.locks r its m)) (sym same_p)
    ∙ sym is

next_locked : (d : Directory) (initial now : OpenFiles) (item : ℕ) (file : FileKey) (first count k left : ℕ)
    → LocksTo d initial now item file first count k → k + 1 + left ≡ count → (image : List ℕ) (drive : Drive) → Stands image d drive
    → locking drive initial (process_of initial item) file first count
    ≡ moved_on k (unless_ended now (end_of LockRecord (record { drive = drive; opens = now; process = process_of initial item; file = file; expected = [] }) (first + k))
    (locking drive (locked now (process_of initial item) file (first + k)) (process_of initial item) file (first + k + 1) left))
unfolding locking
next_locked d initial now item file first count k left before h image drive stands = before.rest image drive stands (suc left) (omega (arith, h))

-- the item's process and file stay
its_process : (initial now : OpenFiles) (item : ℕ) → now.items ≡ initial.items → process_of now item ≡ process_of initial item
its_process initial now item e = ap (λ items. process_of (record now { items = items }) item) e

its_file : (initial now : OpenFiles) (item : ℕ) → now.items ≡ initial.items → open_files.file_of now item ≡ open_files.file_of initial item
its_file initial now item e = ap (λ items. open_files.file_of (record now { items = items }) item) e

-- what a record that was asked came to
pub record IsAsked (d : Directory) (initial now : OpenFiles) (item : ℕ) (file : FileKey) (first m : ℕ) (error : Option RecordError) (result : Option RecordEnd) : Type 0 where
  pub named : plain file.name ≡ file.name
  pub its : open_files.file_of initial item ≡ file
  pub reads : (image : List ℕ) (drive : Drive) → Stands image d drive
      → error ≡ read_error drive (record { user = file.user; name = plain file.name }) (first + m)
  pub comes : result ≡ lock_end error (lock_answer now.locks (process_of now item) (open_files.file_of now item) (first + m))

asked_end : (d : Directory) (initial now : OpenFiles) (item : ℕ) (file : FileKey) (first k m : ℕ) (error : Option RecordError) (result : Option RecordEnd)
    → now.items ≡ initial.items → m ≡ k → IsAsked d initial now item file first m error result → (image : List ℕ) (drive : Drive) → Stands image d drive
    → end_of LockRecord (record { drive = drive; opens = now; process = process_of initial item; file = file; expected = [] }) (first + k) ≡ result
asked_end d initial now item file first k m error result same at asked image drive stands =
    ended drive now (process_of now item) (process_of initial item) file (open_files.file_of now item) (first + k) (first + m) error result asked.named
    (its_process initial now item same) (its_file initial now item same ∙ asked.its) (ap (λ j. first + j) at) (asked.reads image drive stands) asked.comes

abbrev at_end : OpenFiles → ℕ → Option RecordEnd → Locking
at_end opens moved end = record { opens = opens; moved = moved; end = end }

pub locked_stop : (d : Directory) (initial now new : OpenFiles) (item : ℕ) (file : FileKey) (first count k m : ℕ) (error : Option RecordError) (result : Option RecordEnd) (end : RecordEnd)
    → LocksTo d initial now item file first count k → k < count → m ≡ k → IsAsked d initial now item file first m error result
    → result ≡ Some end → new ≡ now → (image : List ℕ) (drive : Drive) → Stands image d drive
    → record { opens = new; moved = k; end = Some end } ≡ locking drive initial (process_of initial item) file first count
locked_stop d initial now new item file first count k m error result end before h at asked some kept image drive stands =
    let left = less_by k count h in
    let rest : Locking = locking drive (locked now (process_of initial item) file (first + k)) (process_of initial item) file (first + k + 1) left.0 in
    let whole : 0 + k ≡ k = omega arith in
    sym (next_locked d initial now item file first count k left.0 before left.1 image drive stands
    ∙ ap (λ e. moved_on k (unless_ended now e rest)) (asked_end d initial now item file first k m error result before.items at asked image drive stands ∙ some)
    ∙ ap (λ moved. at_end now moved (Some end)) whole
    ∙ ap (λ opens. at_end opens k (Some end)) (sym kept))

locked_items : (old : OpenFiles) (p : ℕ) (file : FileKey) (n : ℕ) → (locked old p file n).items ≡ old.items
unfolding locked
locked_items old p file n = refl

-- the record is locked by the item's process, of its file
locked_so : (initial now new : OpenFiles) (item : ℕ) (file : FileKey) (n m : ℕ) → now.items ≡ initial.items → open_files.file_of initial item ≡ file → m ≡ n
    → new ≡ locked now (process_of now item) (open_files.file_of now item) m → new ≡ locked now (process_of initial item) file n
locked_so initial now new item file n m same its at e =
    e ∙ ap (λ p. locked now p (open_files.file_of now item) m) (its_process initial now item same)
    ∙ ap (λ f. locked now (process_of initial item) f m) (its_file initial now item same ∙ its)
    ∙ ap (locked now (process_of initial item) file) at

one_behind : (k : ℕ) (l : Locking) → moved_on k (one_locked l) ≡ moved_on (k + 1) l
one_behind k l = ap (λ moved. record l { moved = moved }) (omega arith)

more_locked : (d : Directory) (initial now new : OpenFiles) (item : ℕ) (file : FileKey) (first count k m : ℕ) (error : Option RecordError) (result : Option RecordEnd)
    → LocksTo d initial now item file first count k → m ≡ k → IsAsked d initial now item file first m error result → result ≡ None
    → new ≡ locked now (process_of initial item) file (first + k) → (image : List ℕ) (drive : Drive) → Stands image d drive
    → (left : ℕ) → k + 1 + left ≡ count
    → locking drive initial (process_of initial item) file first count ≡ moved_on (k + 1) (locking drive new (process_of initial item) file (first + (k + 1)) left)
more_locked d initial now new item file first count k m error result before at asked none is image drive stands left h =
    let p : ℕ = process_of initial item in
    let rest : Locking = locking drive (locked now p file (first + k)) p file (first + k + 1) left in
    let next : first + k + 1 ≡ first + (k + 1) = omega arith in
    next_locked d initial now item file first count k left before h image drive stands
    ∙ ap (λ e. moved_on k (unless_ended now e rest)) (asked_end d initial now item file first k m error result before.items at asked image drive stands ∙ none)
    ∙ one_behind k rest
    ∙ ap (λ n. moved_on (k + 1) (locking drive (locked now p file (first + k)) p file n left)) next
    ∙ ap (λ opens. moved_on (k + 1) (locking drive opens p file (first + (k + 1)) left)) (sym is)

pub one_locked_more : (d : Directory) (initial now new : OpenFiles) (item : ℕ) (file : FileKey) (first count k m : ℕ) (error : Option RecordError) (result : Option RecordEnd)
    → LocksTo d initial now item file first count k → m ≡ k → IsAsked d initial now item file first m error result → result ≡ None
    → new ≡ locked now (process_of now item) (open_files.file_of now item) (first + m) → IsLive new item
    → LocksTo d initial new item file first count (k + 1)
one_locked_more d initial now new item file first count k m error result before at asked none e live =
    let is : new ≡ locked now (process_of initial item) file (first + k) =
    locked_so initial now new item file (first + k) (first + m) before.items asked.its (ap (λ j. first + j) at) e in
    record {
      items = ap (λ (o : OpenFiles). o.items) is ∙ locked_items now (process_of initial item) file (first + k) ∙ before.items;
      live = live;
      rest = more_locked d initial now new item file first count k m error result before at asked none is;
    }

pub all_locked : (d : Directory) (initial now : OpenFiles) (item : ℕ) (file : FileKey) (first count k : ℕ) → LocksTo d initial now item file first count k → k ≡ count
    → (image : List ℕ) (drive : Drive) → Stands image d drive
    → record { opens = now; moved = count; end = None } ≡ locking drive initial (process_of initial item) file first count
unfolding locking
all_locked d initial now item file first count k before over image drive stands =
    let whole : 0 + k ≡ count = omega (arith, over) in
    sym (before.rest image drive stands 0 (omega (arith, over)) ∙ ap (λ moved. at_end now moved None) whole)
