-- When the record counts and the visible records of two drives are the same: a record that lies above the record count of its entry
-- isn't seen, so that it may be written first.
use Rattle.std.proofs.Common.{◌≡◌, inl, inr, ℕ, ◌/◌, ◌%◌, ◌<◌, Bool, true, false, cond, ◌==◌, ◌&&◌, ◌||◌, List, Option, Some, None, length, refl, sym, ap, ◌∙◌, arith}
use Rattle.std.specs.Prelude.{nat_lt, nat_le, is_some, option_map, option_and_then, if◌then◌else◌}
use Rattle.std.specs.FinMap.{get, get-insert}
use Rattle.std.specs.Ordering.{eq_by_cmp}
use Rattle.std.proofs.lemmas.Bool.{true≢false, cases_lt, cases_eq}
use Rattle.std.proofs.lemmas.Bool.Decides.{nat_tests}
use Rattle.std.proofs.lemmas.List.{get_or_past}
use Rattle.mpm_base.specs.declared.kind.Kind.{Kind}
use Rattle.mpm_blocks.specs.Geometries.{block_records}
use Rattle.mpm_mount.specs.Drives.{FileName, PhysicalExtent, Protection, Drive, entry_cmp, entry_number, entry_name, with_extent_there, extent_at, count_in, block_place, record_in, visible_in, visible_of, with_record_in, with_extent, with_xfcb}
use Rattle.mpm_mount.proofs.Orders.{entry_total}
use Rattle.mpm_mount.proofs.KeptRecords.{one_place, record_in_kept}
use Rattle.mpm_mount.proofs.Names.{entry_parts, one_file}
use Rattle.mpm_files.specs.Units.{is_raising, holds_block}
use Rattle.mpm_files.specs.Containment.{SameRecords}

pub seen_itself : (a : Drive) → SameRecords a a
seen_itself a = record { counts = λ file extent. refl; visible = λ file n. refl }

pub seen_after : (a b c : Drive) → SameRecords a b → SameRecords b c → SameRecords a c
seen_after a b c first second =
    record { counts = λ file extent. second.counts file extent ∙ first.counts file extent; visible = λ file n. second.visible file n ∙ first.visible file n }

-- an XFCB changes none
pub xfcb_unseen : (drive : Drive) (file : FileName) (xfcb : Protection) → SameRecords drive (with_xfcb drive file xfcb)
unfolding visible_of extent_at
xfcb_unseen drive file xfcb = record { counts = λ other extent. refl; visible = λ other n. refl }

pub xfcb_unseen_back : (drive : Drive) (file : FileName) (xfcb : Protection) → SameRecords (with_xfcb drive file xfcb) drive
unfolding visible_of extent_at
xfcb_unseen_back drive file xfcb = record { counts = λ other extent. refl; visible = λ other n. refl }

-- what is seen of a record, where its entry is there
abbrev pub seen : Kind → ℕ → PhysicalExtent → Option (List ℕ)
seen kind m entry = option_and_then (visible_in kind m) (with_extent_there (m / 128) entry)

abbrev count_seen : ℕ → PhysicalExtent → Option ℕ
count_seen extent entry = option_map (λ (there : PhysicalExtent). count_in there extent) (with_extent_there extent entry)

above : (q r last count : ℕ) → nat_le q last ≡ true → (nat_lt last q || ((q == last) && nat_le count r)) ≡ true → nat_lt r (if q == last then count else 128) ≡ false
above q r last count low raises = grind (arith, nat_tests)

hidden_by : (kind : Kind) (n : ℕ) (entry : PhysicalExtent) (b : Bool) → nat_le (n / 128) entry.last ≡ b → is_raising n entry ≡ true
    → option_and_then (visible_in kind n) (if b then Some entry else None) ≡ None
hidden_by kind n entry true low raises =
    ap (λ c. if c then record_in kind n entry else None) (above (n / 128) (n % 128) entry.last entry.count low raises)
hidden_by kind n entry false low raises = refl

-- a record that raises its entry isn't seen
pub raising_unseen : (kind : Kind) (n : ℕ) (entry : PhysicalExtent) → is_raising n entry ≡ true → seen kind n entry ≡ None
raising_unseen kind n entry raises = hidden_by kind n entry (nat_le (n / 128) entry.last) refl raises

-- other blocks in an entry, of which the record is the same
seen_by : (kind : Kind) (m : ℕ) (entry : PhysicalExtent) (blocks : List (Option (List (List ℕ)))) (b : Bool) → record_in kind m (record entry { blocks = blocks }) ≡ record_in kind m entry
    → option_and_then (visible_in kind m) (if b then Some (record entry { blocks = blocks }) else None)
    ≡ option_and_then (visible_in kind m) (if b then Some entry else None)
seen_by kind m entry blocks true same = ap (λ r. if nat_lt (m % 128) (count_in entry (m / 128)) then r else None) same
seen_by kind m entry blocks false same = refl

counted_by : (extent : ℕ) (entry : PhysicalExtent) (blocks : List (Option (List (List ℕ)))) (b : Bool)
    → option_map (λ (there : PhysicalExtent). count_in there extent) (if b then Some (record entry { blocks = blocks }) else None)
    ≡ option_map (λ (there : PhysicalExtent). count_in there extent) (if b then Some entry else None)
counted_by extent entry blocks true = refl
counted_by extent entry blocks false = refl

-- a block that is held has its place
held_within : (kind : Kind) (n : ℕ) (entry : PhysicalExtent) → holds_block kind n entry ≡ true → block_place kind n < length entry.blocks
held_within kind n entry held = elim (cases_lt (block_place kind n) (length entry.blocks)) [
  | inl less ↦ less
  | inr more ↦ absurd (true≢false (sym held ∙ ap is_some (get_or_past entry.blocks (block_place kind n) None more)))
]

-- a record is written that raises its entry: nothing of the entry is seen otherwise
seen_alike : (kind : Kind) (n m : ℕ) (entry : PhysicalExtent) (bytes : List ℕ) → holds_block kind n entry ≡ true → is_raising n entry ≡ true
    → entry_number kind (m / 128) ≡ entry_number kind (n / 128)
    → seen kind m (with_record_in entry (block_place kind n) (n % block_records kind) bytes) ≡ seen kind m entry
seen_alike kind n m entry bytes held raises number =
    let there : PhysicalExtent = with_record_in entry (block_place kind n) (n % block_records kind) bytes in
    elim (cases_eq m n) [
      | inl same ↦ ap (λ q. seen kind q there) same ∙ raising_unseen kind n there raises ∙ sym (raising_unseen kind n entry raises) ∙ sym (ap (λ q. seen kind q entry) same)
      | inr apart ↦
          seen_by kind m entry there.blocks (nat_le (m / 128) entry.last)
          (record_in_kept kind n m entry bytes (held_within kind n entry held) (λ place r. apart (one_place kind n m number place r)))
    ]

-- the drive with another content of one entry, of which nothing is seen otherwise
by_tie : (drive : Drive) (file other : FileName) (n k : ℕ) (entry there : PhysicalExtent) (X : Type 0) (f : PhysicalExtent → Option X)
    → get drive.extents (entry_name drive.kind file (n / 128)) ≡ Some entry
    → (entry_number drive.kind k ≡ entry_number drive.kind (n / 128) → f there ≡ f entry)
    → (b : Bool) → eq_by_cmp entry_cmp (entry_name drive.kind other k) (entry_name drive.kind file (n / 128)) ≡ b
    → option_and_then f (cond b (Some there) (get drive.extents (entry_name drive.kind other k))) ≡ option_and_then f (get drive.extents (entry_name drive.kind other k))
by_tie drive file other n k entry there X f is alike true tied =
    let parts = entry_parts other file (entry_number drive.kind k) (entry_number drive.kind (n / 128)) tied in
    let here : get drive.extents (entry_name drive.kind other k) ≡ Some entry =
    ap (λ (a : FileName). get drive.extents (record { user = a.user; name = a.name; number = entry_number drive.kind k })) (one_file other file parts.0)
    ∙ ap (λ q. get drive.extents (record { user = file.user; name = file.name; number = q })) parts.1 ∙ is in
    alike parts.1 ∙ sym (ap (option_and_then f) here)
by_tie drive file other n k entry there X f is alike false tied = refl

through : (drive : Drive) (file other : FileName) (n k : ℕ) (entry there : PhysicalExtent) (X : Type 0) (f : PhysicalExtent → Option X)
    → get drive.extents (entry_name drive.kind file (n / 128)) ≡ Some entry
    → (entry_number drive.kind k ≡ entry_number drive.kind (n / 128) → f there ≡ f entry)
    → option_and_then f (get (with_extent drive (entry_name drive.kind file (n / 128)) there).extents (entry_name drive.kind other k))
    ≡ option_and_then f (get drive.extents (entry_name drive.kind other k))
through drive file other n k entry there X f is alike =
    ap (option_and_then f) (get-insert entry_total drive.extents (entry_name drive.kind file (n / 128)) there (entry_name drive.kind other k))
    ∙ by_tie drive file other n k entry there X f is alike (eq_by_cmp entry_cmp (entry_name drive.kind other k) (entry_name drive.kind file (n / 128))) refl

-- one after the other
two_steps : {A B C : Type 0} (f : A → Option B) (g : B → Option C) (o : Option A) → option_and_then g (option_and_then f o) ≡ option_and_then (λ a. option_and_then g (f a)) o
two_steps f g None = refl
two_steps f g (Some a) = refl

mapped : {A B C : Type 0} (f : A → Option B) (g : B → C) (o : Option A) → option_map g (option_and_then f o) ≡ option_and_then (λ a. option_map g (f a)) o
mapped f g None = refl
mapped f g (Some a) = refl

-- a record that raises its entry is written into a block that the entry holds: it isn't seen yet
pub hidden_record : (drive : Drive) (file : FileName) (n : ℕ) (entry : PhysicalExtent) (bytes : List ℕ)
    → get drive.extents (entry_name drive.kind file (n / 128)) ≡ Some entry → holds_block drive.kind n entry ≡ true → is_raising n entry ≡ true
    → SameRecords drive (with_extent drive (entry_name drive.kind file (n / 128)) (with_record_in entry (block_place drive.kind n) (n % block_records drive.kind) bytes))
unfolding visible_of extent_at
hidden_record drive file n entry bytes is held raises =
    let kind : Kind = drive.kind in
    let there : PhysicalExtent = with_record_in entry (block_place kind n) (n % block_records kind) bytes in
    let new : Drive = with_extent drive (entry_name kind file (n / 128)) there in
    record {
      counts = λ other extent.
          mapped (with_extent_there extent) (λ (e : PhysicalExtent). count_in e extent) (get new.extents (entry_name kind other extent))
          ∙ through drive file other n extent entry there ℕ (count_seen extent) is (λ number. counted_by extent entry there.blocks (nat_le extent entry.last))
          ∙ sym (mapped (with_extent_there extent) (λ (e : PhysicalExtent). count_in e extent) (get drive.extents (entry_name kind other extent)));
      visible = λ other m.
          two_steps (with_extent_there (m / 128)) (visible_in kind m) (get new.extents (entry_name kind other (m / 128)))
          ∙ through drive file other n (m / 128) entry there (List ℕ) (seen kind m) is (λ number. seen_alike kind n m entry bytes held raises number)
          ∙ sym (two_steps (with_extent_there (m / 128)) (visible_in kind m) (get drive.extents (entry_name kind other (m / 128))));
    }
