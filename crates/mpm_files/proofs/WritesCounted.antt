-- Records that are written, counted one after the other.
use Rattle.std.proofs.Common.{◌≡◌, ℕ, suc, ◌+◌, ◌-◌, ◌<◌, Bool, true, false, Some, None, sym, ap, subst, ◌∙◌, arith}
use Rattle.std.specs.Prelude.{nat_lt, if◌then◌else◌}
use Rattle.std.proofs.lemmas.Bool.{lt-ltb}
use Rattle.mpm_base.specs.declared.kind.Kind.{Kind}
use Rattle.mpm_base.specs.Counts.{one_if}
use Rattle.mpm_blocks.specs.Geometries.{block_records}
use Rattle.mpm_file_functions.specs.declared.errors.RecordError.{RecordError}
use Rattle.mpm_files.specs.declared.counting.Count.{Count}
use Rattle.mpm_files.specs.Counting.{counted, unless_refused, entry_more, block_more, room_error, record_units, write_count}
use Rattle.mpm_files.proofs.ReadCounts.{counted_both, nothing_more}
use Rattle.mpm_base.proofs.CountLaws.{less_by}

-- so many records were counted, of so many units, and what is left
abbrev pub WrittenTo : Kind → (ℕ → Bool) → (ℕ → Bool) → ℕ → ℕ → ℕ → ℕ → ℕ → ℕ → ℕ → ℕ → Type 0
WrittenTo kind entries blocks free_entries free_records n count k units entries_left records_left =
    (left : ℕ) → k + left ≡ count
    → write_count kind entries blocks free_entries free_records false n count
    ≡ counted units (write_count kind entries blocks entries_left records_left (nat_lt 0 k) (n + k) left)

pub none_written : (kind : Kind) (entries blocks : ℕ → Bool) (free_entries free_records n count : ℕ)
    → WrittenTo kind entries blocks free_entries free_records n count 0 0 free_entries free_records
none_written kind entries blocks free_entries free_records n count left h =
    let all : left ≡ count = omega arith in
    let first : n + 0 ≡ n = omega arith in
    sym (nothing_more (write_count kind entries blocks free_entries free_records false (n + 0) left)
    ∙ ap (λ m. write_count kind entries blocks free_entries free_records false m left) first ∙ ap (write_count kind entries blocks free_entries free_records false n) all)

next_first : (kind : Kind) (entries blocks : ℕ → Bool) (free_entries free_records n count k units entries_left records_left left : ℕ)
    → WrittenTo kind entries blocks free_entries free_records n count k units entries_left records_left → k + 1 + left ≡ count
    → let entry = entry_more kind entries (nat_lt 0 k) (n + k) in
    let block = block_more kind blocks (nat_lt 0 k) (n + k) in
    write_count kind entries blocks free_entries free_records false n count
    ≡ counted units (unless_refused (room_error entry block entries_left records_left) (record_units kind entry block)
    (write_count kind entries blocks (entries_left - one_if entry) (records_left - (if block then block_records kind else 0)) true (n + k + 1) left))
unfolding write_count
next_first kind entries blocks free_entries free_records n count k units entries_left records_left left before h = before (suc left) (omega arith)

pub one_written : (kind : Kind) (entries blocks : ℕ → Bool) (free_entries free_records n count k units entries_left records_left : ℕ)
    → WrittenTo kind entries blocks free_entries free_records n count k units entries_left records_left
    → let entry = entry_more kind entries (nat_lt 0 k) (n + k) in
    let block = block_more kind blocks (nat_lt 0 k) (n + k) in
    room_error entry block entries_left records_left ≡ None
    → WrittenTo kind entries blocks free_entries free_records n count (k + 1) (units + record_units kind entry block) (entries_left - one_if entry)
    (records_left - (if block then block_records kind else 0))
one_written kind entries blocks free_entries free_records n count k units entries_left records_left before none left h =
    let entry : Bool = entry_more kind entries (nat_lt 0 k) (n + k) in
    let block : Bool = block_more kind blocks (nat_lt 0 k) (n + k) in
    let entries_then : ℕ = entries_left - one_if entry in
    let records_then : ℕ = records_left - (if block then block_records kind else 0) in
    let rest : Count = write_count kind entries blocks entries_then records_then true (n + k + 1) left in
    let next : n + k + 1 ≡ n + (k + 1) = omega arith in
    let later : true ≡ nat_lt 0 (k + 1) = sym (lt-ltb 0 (k + 1) (omega arith)) in
    next_first kind entries blocks free_entries free_records n count k units entries_left records_left left before h
    ∙ ap (λ e. counted units (unless_refused e (record_units kind entry block) rest)) none
    ∙ counted_both units (record_units kind entry block) rest
    ∙ ap (λ m. counted (units + record_units kind entry block) (write_count kind entries blocks entries_then records_then true m left)) next
    ∙ ap (λ b. counted (units + record_units kind entry block) (write_count kind entries blocks entries_then records_then b (n + (k + 1)) left)) later

pub written_stop : (kind : Kind) (entries blocks : ℕ → Bool) (free_entries free_records n count k units entries_left records_left : ℕ) (error : RecordError)
    → WrittenTo kind entries blocks free_entries free_records n count k units entries_left records_left → k < count
    → room_error (entry_more kind entries (nat_lt 0 k) (n + k)) (block_more kind blocks (nat_lt 0 k) (n + k)) entries_left records_left ≡ Some error
    → record { units = units; error = Some error } ≡ write_count kind entries blocks free_entries free_records false n count
written_stop kind entries blocks free_entries free_records n count k units entries_left records_left error before h refused =
    let left = less_by k count h in
    let entry : Bool = entry_more kind entries (nat_lt 0 k) (n + k) in
    let block : Bool = block_more kind blocks (nat_lt 0 k) (n + k) in
    let rest : Count = write_count kind entries blocks (entries_left - one_if entry) (records_left - (if block then block_records kind else 0)) true (n + k + 1) left.0 in
    let whole : units + 0 ≡ units = omega arith in
    sym (next_first kind entries blocks free_entries free_records n count k units entries_left records_left left.0 before left.1
    ∙ ap (λ e. counted units (unless_refused e (record_units kind entry block) rest)) refused ∙ ap (λ u. record { units = u; error = Some error }) whole)

pub all_written : (kind : Kind) (entries blocks : ℕ → Bool) (free_entries free_records n count k units entries_left records_left : ℕ)
    → WrittenTo kind entries blocks free_entries free_records n count k units entries_left records_left → k ≡ count
    → record { units = units; error = None } ≡ write_count kind entries blocks free_entries free_records false n count
unfolding write_count
all_written kind entries blocks free_entries free_records n count k units entries_left records_left before ended =
    let whole : k + 0 ≡ count = omega arith in
    let size : units + 0 ≡ units = omega arith in
    sym (before 0 whole ∙ ap (λ u. record { units = u; error = None }) size)

-- the same, by what the calls of the loop answer
pub step_written : (kind : Kind) (entries blocks : ℕ → Bool) (free_entries free_records n count k units entries_left records_left : ℕ)
    (its_kind : Kind) (entry block : Bool) (more entries_then records_then : ℕ)
    → WrittenTo kind entries blocks free_entries free_records n count k units entries_left records_left → its_kind ≡ kind
    → entry ≡ entry_more kind entries (nat_lt 0 k) (n + k) → block ≡ block_more kind blocks (nat_lt 0 k) (n + k)
    → room_error entry block entries_left records_left ≡ None
    → more ≡ record_units its_kind entry block → entries_then ≡ entries_left - one_if entry → records_then ≡ records_left - (if block then block_records its_kind else 0)
    → WrittenTo kind entries blocks free_entries free_records n count (k + 1) (units + more) entries_then records_then
step_written kind entries blocks free_entries free_records n count k units entries_left records_left its_kind entry block more entries_then records_then before same is_entry is_block none is_more is_entries is_records =
    let e : Bool = entry_more kind entries (nat_lt 0 k) (n + k) in
    let b : Bool = block_more kind blocks (nat_lt 0 k) (n + k) in
    let To : ℕ → ℕ → ℕ → Type 0 = λ u x y. WrittenTo kind entries blocks free_entries free_records n count (k + 1) (units + u) x y in
    let u : record_units kind e b ≡ more = sym (is_more ∙ ap (λ q. record_units q entry block) same ∙ ap (λ q. record_units kind q block) is_entry ∙ ap (record_units kind e) is_block) in
    let x : entries_left - one_if e ≡ entries_then = sym (is_entries ∙ ap (λ q. entries_left - one_if q) is_entry) in
    let y : records_left - (if b then block_records kind else 0) ≡ records_then =
    sym (is_records ∙ ap (λ q. records_left - (if block then block_records q else 0)) same ∙ ap (λ q. records_left - (if q then block_records kind else 0)) is_block) in
    let refused : room_error e b entries_left records_left ≡ None =
    sym (ap (λ q. room_error q block entries_left records_left) is_entry ∙ ap (λ q. room_error e q entries_left records_left) is_block) ∙ none in
    subst (λ q. To q entries_then records_then) u (subst (λ q. To (record_units kind e b) q records_then) x (subst (λ q. To (record_units kind e b) (entries_left - one_if e) q) y
    (one_written kind entries blocks free_entries free_records n count k units entries_left records_left before refused)))

pub stop_written : (kind : Kind) (entries blocks : ℕ → Bool) (free_entries free_records n count k units entries_left records_left : ℕ) (entry block : Bool) (error : RecordError)
    → WrittenTo kind entries blocks free_entries free_records n count k units entries_left records_left → k < count
    → entry ≡ entry_more kind entries (nat_lt 0 k) (n + k) → block ≡ block_more kind blocks (nat_lt 0 k) (n + k)
    → room_error entry block entries_left records_left ≡ Some error
    → record { units = units; error = Some error } ≡ write_count kind entries blocks free_entries free_records false n count
stop_written kind entries blocks free_entries free_records n count k units entries_left records_left entry block error before h is_entry is_block refused =
    let e : Bool = entry_more kind entries (nat_lt 0 k) (n + k) in
    written_stop kind entries blocks free_entries free_records n count k units entries_left records_left error before h
    (sym (ap (λ q. room_error q block entries_left records_left) is_entry ∙ ap (λ q. room_error e q entries_left records_left) is_block) ∙ refused)
