-- Records that are read, or tested and written: how many can be read doesn't depend on what they hold.
use Rattle.std.proofs.Common.{◌≡◌, inl, inr, ℕ, zero, suc, ◌+◌, ◌/◌, ◌%◌, Bool, true, false, ◌==◌, ◌&&◌, ◌||◌, List, [], ◌∷◌, Option, Some, None, length, refl, sym, ap, ◌∙◌, arith}
use Rattle.std.specs.Prelude.{is_some, nat_lt, nat_le, slice_index_or, if◌then◌else◌}
use Rattle.std.specs.FinMap.{get}
use Rattle.std.proofs.lemmas.Bool.{true≢false, cases_eq}
use Rattle.std.proofs.lemmas.Bool.Decides.{nat_tests}
use Rattle.mpm_base.specs.declared.kind.Kind.{Kind}
use Rattle.mpm_mount.specs.Drives.{FileName, PhysicalExtent, Drive, entry_number, entry_name, extent_at, count_in, block_place, places, visible_of}
use Rattle.mpm_file_functions.specs.declared.errors.RecordError.{RecordError}
use Rattle.mpm_file_functions.specs.declared.errors.RecordError.TheVariants.{Mismatch}
use Rattle.mpm_files.specs.declared.counting.Count.{Count}
use Rattle.mpm_files.specs.Units.{FileUnit, ReadsRecord, PassesRecord, WritesRecord, is_raising, raised, holds_block, applied}
use Rattle.mpm_files.specs.Plans.{CallPlan, TestedRecord, behind, unless_failing, reading, has_record, passing, testing}
use Rattle.mpm_mount.specs.Records.{read_error}
use Rattle.mpm_files.specs.Counting.{unless_refused, read_count}
use Rattle.mpm_files.proofs.Needs.{IsWhole}
use Rattle.mpm_files.proofs.Within.{unit_keeps}
use Rattle.mpm_files.proofs.Writes.{Written, record_written}
use Rattle.mpm_files.proofs.WriteCounts.{count_of, counted_behind}
use Rattle.mpm_mount.proofs.ReadErrors.{read_in, read_by_tests, read_tested}
use Rattle.mpm_files.proofs.RecordReads.{tests_pass}

-- what is counted is how many are read, and why no more are
pub counted_reading : (count : ℕ) (d : Drive) (file : FileName) (n : ℕ) → count_of (reading d file n count) ≡ read_count (read_error d file) n count
unfolding reading read_count
counted_reading zero d file n = refl
counted_reading (suc count) d file n =
    counted_behind (read_error d file n) (ReadsRecord file n ∷ []) (reading d file (n + 1) count) (read_count (read_error d file) (n + 1) count) 1 refl (counted_reading count d file (n + 1))

pub reads_alike : (count : ℕ) (one other : ℕ → Option RecordError) (n : ℕ) → ((m : ℕ) → one m ≡ other m) → read_count one n count ≡ read_count other n count
unfolding read_count
reads_alike zero one other n same = refl
reads_alike (suc count) one other n same =
    ap (λ e. unless_refused e 1 (read_count one (n + 1) count)) (same n) ∙ ap (unless_refused (other n) 1) (reads_alike count one other (n + 1) same)

-- a record that can be read raises nothing
below : (q r last count : ℕ) → nat_le q last ≡ true → nat_lt r (if q == last then count else 128) ≡ true → (nat_lt last q || ((q == last) && nat_le count r)) ≡ false
below q r last count low less = grind (arith, nat_tests)

not_raised : (n : ℕ) (entry : PhysicalExtent) → is_raising n entry ≡ false → raised n entry ≡ entry
not_raised n entry low = ap (λ b. if b then record entry { last = n / 128; count = n % 128 + 1 } else entry) low

count_as : (extent : ℕ) (one other : PhysicalExtent) → one.last ≡ other.last → one.count ≡ other.count → count_in one extent ≡ count_in other extent
count_as extent one other last count = ap (λ l. if extent == l then one.count else 128) last ∙ ap (λ c. if extent == other.last then c else 128) count

-- after it is replaced the same records can be read
read_again : (kind : Kind) (m n : ℕ) (one other : PhysicalExtent) → one.last ≡ other.last → one.count ≡ other.count
    → ((place : ℕ) → is_some (slice_index_or one.blocks place None) ≡ is_some (slice_index_or other.blocks place None)) → read_in kind m (Some one) ≡ read_in kind m (Some other)
read_again kind m n one other last count blocks =
    read_tested kind m one
    ∙ ap (λ l. read_by_tests (nat_le (m / 128) l) (nat_lt (m % 128) (count_in one (m / 128))) (is_some (slice_index_or one.blocks (block_place kind m) None))) last
    ∙ ap (λ c. read_by_tests (nat_le (m / 128) other.last) (nat_lt (m % 128) c) (is_some (slice_index_or one.blocks (block_place kind m) None))) (count_as (m / 128) one other last count)
    ∙ ap (λ b. read_by_tests (nat_le (m / 128) other.last) (nat_lt (m % 128) (count_in other (m / 128))) b) (blocks (block_place kind m))
    ∙ sym (read_tested kind m other)

held_still : (file : FileName) (n : ℕ) (bytes : List ℕ) (old : PhysicalExtent) (before after : Drive) → (written : Written file n bytes old before after) → holds_block before.kind n old ≡ true → (place : ℕ)
    → is_some (slice_index_or written.entry.blocks place None) ≡ is_some (slice_index_or old.blocks place None)
held_still file n bytes old before after written held place = elim (cases_eq place (block_place before.kind n)) [
  | inl same ↦ ap (λ q. is_some (slice_index_or written.entry.blocks q None)) same ∙ written.holds ∙ sym (ap (λ q. is_some (slice_index_or old.blocks q None)) same ∙ held)
  | inr apart ↦ ap is_some (written.others place apart)
]

same_reads_by : (d : Drive) (file : FileName) (n m : ℕ) (bytes : List ℕ) (stamp : Option (List ℕ)) → IsWhole file d → (o : Option PhysicalExtent)
    → get d.extents (entry_name d.kind file (n / 128)) ≡ o → read_in d.kind n o ≡ None
    → read_in d.kind m (get (applied d (WritesRecord file n bytes stamp)).extents (entry_name d.kind file (m / 128))) ≡ read_in d.kind m (get d.extents (entry_name d.kind file (m / 128)))
same_reads_by d file n m bytes stamp whole None is none = absurd (true≢false (ap is_some none))
same_reads_by d file n m bytes stamp whole (Some old) is none =
    let after : Drive = applied d (WritesRecord file n bytes stamp) in
    let tests = tests_pass (nat_le (n / 128) old.last) (nat_lt (n % 128) (count_in old (n / 128))) (is_some (slice_index_or old.blocks (block_place d.kind n) None))
    (sym (read_tested d.kind n old) ∙ none) in
    let low : raised n old ≡ old = not_raised n old (below (n / 128) (n % 128) old.last old.count tests.0 tests.1.0) in
    let written : Written file n bytes old d after = record_written d file n bytes stamp old is (whole (entry_number d.kind (n / 128)) old is) in
    let at : ℕ → Drive → Option PhysicalExtent = λ k x. get x.extents (record { user = file.user; name = file.name; number = k }) in
    elim (cases_eq (entry_number d.kind (m / 128)) (entry_number d.kind (n / 128))) [
      | inl same ↦
          ap (read_in d.kind m) (ap (λ k. at k after) same ∙ written.puts.here)
          ∙ read_again d.kind m n written.entry old (written.last ∙ ap (λ (e : PhysicalExtent). e.last) low) (written.count ∙ ap (λ (e : PhysicalExtent). e.count) low)
          (held_still file n bytes old d after written tests.1.1)
          ∙ sym (ap (read_in d.kind m) (ap (λ k. at k d) same ∙ is))
      | inr apart ↦ ap (read_in d.kind m) (written.puts.others (entry_number d.kind (m / 128)) apart)
    ]

kind_kept : (d : Drive) (file : FileName) (n : ℕ) (bytes : List ℕ) (stamp : Option (List ℕ)) → (applied d (WritesRecord file n bytes stamp)).kind ≡ d.kind
kind_kept d file n bytes stamp = (unit_keeps (WritesRecord file n bytes stamp) d).kind

pub same_reads : (d : Drive) (file : FileName) (n m : ℕ) (bytes : List ℕ) (stamp : Option (List ℕ)) → IsWhole file d → read_error d file n ≡ None
    → read_error (applied d (WritesRecord file n bytes stamp)) file m ≡ read_error d file m
unfolding extent_at visible_of
same_reads d file n m bytes stamp whole none =
    ap (λ kind. read_in kind m (get (applied d (WritesRecord file n bytes stamp)).extents (entry_name kind file (m / 128)))) (kind_kept d file n bytes stamp)
    ∙ same_reads_by d file n m bytes stamp whole (get d.extents (entry_name d.kind file (n / 128))) refl none

-- the entries keep their places
pub still_whole : (d : Drive) (file : FileName) (n : ℕ) (bytes : List ℕ) (stamp : Option (List ℕ)) → IsWhole file d → read_error d file n ≡ None
    → IsWhole file (applied d (WritesRecord file n bytes stamp))
unfolding extent_at visible_of
still_whole d file n bytes stamp whole none = by_old (get d.extents (entry_name d.kind file (n / 128))) refl none
  where
    by_old : (o : Option PhysicalExtent) → get d.extents (entry_name d.kind file (n / 128)) ≡ o → read_in d.kind n o ≡ None → IsWhole file (applied d (WritesRecord file n bytes stamp))
    by_old None is refused = absurd (true≢false (ap is_some refused))
    by_old (Some old) is refused = λ k entry there.
        let written : Written file n bytes old d (applied d (WritesRecord file n bytes stamp)) = record_written d file n bytes stamp old is (whole (entry_number d.kind (n / 128)) old is) in
        elim (cases_eq k (entry_number d.kind (n / 128))) [
          | inl same ↦
              ap (λ (o : Option PhysicalExtent). length (blocks_of o))
              (sym there ∙ ap (λ q. get (applied d (WritesRecord file n bytes stamp)).extents (record { user = file.user; name = file.name; number = q })) same ∙ written.puts.here)
              ∙ written.room ∙ whole (entry_number d.kind (n / 128)) old is ∙ sym (ap places (kind_kept d file n bytes stamp))
          | inr apart ↦ whole k entry (sym (written.puts.others k apart) ∙ there) ∙ sym (ap places (kind_kept d file n bytes stamp))
        ]
      where
        blocks_of : Option PhysicalExtent → List (Option (List (List ℕ)))
        blocks_of None = []
        blocks_of (Some e) = e.blocks

-- as many units come, whatever the records hold
passed_by : (file : FileName) (n : ℕ) (error : Option RecordError) (rest : CallPlan) (count : Count) → length rest.units ≡ count.units
    → length (if is_some error then record { units = []; error = Some Mismatch } else (behind (PassesRecord file n ∷ []) rest)).units ≡ (unless_refused error 1 count).units
passed_by file n None rest count same = ap suc same ∙ omega arith
passed_by file n (Some error) rest count same = refl

passing_counted : (tests : List TestedRecord) (d : Drive) (file : FileName) (n : ℕ) → length (passing d file n tests).units ≡ (read_count (read_error d file) n (length tests)).units
unfolding passing read_count
passing_counted [] d file n = refl
passing_counted (test ∷ tests) d file n =
    passed_by file n (read_error d file n) (passing d file (n + 1) tests) (read_count (read_error d file) (n + 1) (length tests)) (passing_counted tests d file (n + 1))

tested_by : (error : Option RecordError) (b : Bool) (unit : FileUnit) (rest other : CallPlan) (count : Count)
    → (error ≡ None → length rest.units ≡ count.units) → length other.units ≡ (unless_refused error 1 count).units
    → length (unless_failing error (if b then behind (unit ∷ []) rest else other)).units ≡ (unless_refused error 1 count).units
tested_by (Some error) b unit rest other count same passed = refl
tested_by None true unit rest other count same passed = ap suc (same refl) ∙ omega arith
tested_by None false unit rest other count same passed = passed

pub testing_counted : (tests : List TestedRecord) (d : Drive) (file : FileName) (n : ℕ) (stamp : Option (List ℕ)) → IsWhole file d
    → length (testing d file n tests stamp).units ≡ (read_count (read_error d file) n (length tests)).units
unfolding testing read_count
testing_counted [] d file n stamp whole = refl
testing_counted (test ∷ tests) d file n stamp whole =
    let unit : FileUnit = WritesRecord file n test.bytes stamp in
    let after : Drive = applied d unit in
    tested_by (read_error d file n) (has_record d file n test.expected) unit (testing after file (n + 1) tests None) (passing d file n (test ∷ tests))
    (read_count (read_error d file) (n + 1) (length tests))
    (λ none. testing_counted tests after file (n + 1) None (still_whole d file n test.bytes stamp whole none)
    ∙ ap (λ (c : Count). c.units) (reads_alike (length tests) (read_error after file) (read_error d file) (n + 1) (λ m. same_reads d file n m test.bytes stamp whole none)))
    (passing_counted (test ∷ tests) d file n)
