-- The spooler has read its file's records from the first on: so it is as others leave the file, and as its own calls on the file are answered.
use Rattle.std.proofs.Common.{◌≡◌, ◌∙◌, ℕ, zero, suc, ◌+◌, ◌<◌, ◌==◌, ◌&&◌, Bool, true, false, if◌then◌else◌, List, [], ◌∷◌, ◌++◌, length, Option, Some, None, inl, inr, refl, sym, ap, subst, arith, add-one}
use Rattle.std.specs.Prelude.{is_some, unwrap_or, option_and_then, bytes_eq}
use Rattle.std.proofs.lemmas.Bool.{false≢true, cases_lt, eq-eqb}
use Rattle.std.proofs.lemmas.Slice.Eq.{bytes_eq-Decides}
use Rattle.std.proofs.lemmas.List.{length-append}
use Rattle.mpm_base.specs.Calls.{Answer, answering, word_at}
use Rattle.mpm_base.specs.Lists.{in_width}
use Rattle.mpm_bdos.proofs.KeptFile.{reads_place, kept_by_reading, has_still}
use Rattle.mpm_bdos.specs.Jobs.{reading_job, turned, call_turns}
use Rattle.mpm_bdos.specs.OpenToRead.{drive_or_blank, KeepsFile}
use Rattle.mpm_bdos.specs.Outcomes.{file_call, outcome_by}
use Rattle.mpm_directories.specs.Direct.{where_changed}
use Rattle.mpm_dirent.proofs.Lengths.{part_size}
use Rattle.mpm_dirent.specs.Names.{plain}
use Rattle.mpm_fcb.proofs.Back.{bytes_back, block_back}
use Rattle.mpm_fcb.specs.Blocks.{block_of, bytes_of}
use Rattle.mpm_fcb.specs.Names.{drive_of, has_f5}
use Rattle.mpm_fcb.specs.Opening.{item_of}
use Rattle.mpm_fcb.specs.Positions.{sequential_record, at_position, extent_of}
use Rattle.mpm_fcb.specs.declared.block.ControlBlock.{ControlBlock}
use Rattle.mpm_file_entries.specs.Telling.{record_count}
use Rattle.mpm_file_functions.specs.Refusals.{answered, refused_value}
use Rattle.mpm_file_functions.specs.declared.functions.FileFunction.{FileFunction}
use Rattle.mpm_file_functions.specs.declared.functions.FileFunction.TheVariants.{ReadSequential}
use Rattle.mpm_file_functions.specs.declared.refusals.Refusal.{Refusal}
use Rattle.mpm_file_functions.specs.declared.refusals.Refusal.TheVariants.{NotMounted, Ambiguous, NotOpen, NotOpenToLock, BeyondFile, NotFound, ProtectedDrive, ReadOnlyFile, FileExists, WrongPassword, InUse, FileLimit, ListFull, DirectoryFull, Busy}
use Rattle.mpm_files.specs.Plans.{file_of_job}
use Rattle.mpm_mount.specs.Drives.{FileName, Drive, visible_of}
use Rattle.mpm_opens.proofs.OneItem.{one_still}
use Rattle.mpm_opens.specs.Items.{has_item, is_of, file_named, file_where, is_named}
use Rattle.mpm_opens.specs.Opens.{OpensNone}
use Rattle.mpm_opens.specs.declared.kinds.FileKey.{FileKey}
use Rattle.mpm_opens.specs.declared.kinds.Item.{Item}
use Rattle.mpm_refusals.specs.Filing.{Filing, Situation, block}
use Rattle.mpm_refusals.specs.Refusals.{refusal_of}
use Rattle.mpm_refusals.specs.Subjects.{mounted, blank_drive, drive_by, drive_named, drive_number, drive_at, last_search, number_by, item_number, key_named, open_key, own_file, open_file, subject_by, subject, file_of, first_by, first_record}
use Rattle.mpm_spool.specs.Spoolers.{Spooler, took_at, block_after, with_block, record_in, row_at}
use Rattle.mpm_spool.specs.declared.list.SpoolItem.{SpoolItem}
use Rattle.mpm_spool.specs.declared.table.Row.TheVariants.{Read, Detach}
use Rattle.mpm_machine.proofs.RecordRead.{ReadsOne, reads_one}
use Rattle.mpm_spool.specs.Printed.{read_by, ended_by}
use Rattle.mpm_machine.specs.Printing.{first_bytes, key_of_spool_item, seen_in, ReadsFile}

-- as others leave the file

pub same_bytes : (seen other : ℕ → Option (List ℕ)) → ((n : ℕ) → seen n ≡ other n) → (k : ℕ) → first_bytes seen k ≡ first_bytes other k
unfolding first_bytes
same_bytes seen other same zero = refl
same_bytes seen other same (suc k) =
    ap (λ (xs : List ℕ). xs ++ in_width 128 (unwrap_or (seen k) [])) (same_bytes seen other same k)
    ∙ ap (λ (o : Option (List ℕ)). first_bytes other k ++ in_width 128 (unwrap_or o [])) (same k)

pub reads_kept : (q : ℕ) (s : Spooler) (read : List ℕ) (ended : Bool) (old new : Filing) (r : ReadsFile q s read ended old) → KeepsFile (key_of_spool_item s.item) r.number old new
    → OpensNone q old.opens new.opens → ReadsFile q s read ended new
reads_kept q s read ended old new r keeps none =
    let key = key_of_spool_item s.item in
    let k = sequential_record (block_of s.fcb) in
    record {
      number = r.number;
      has = has_still q key r.number old new r.has keeps;
      one = one_still q r.number old.opens new.opens none keeps.placed r.one;
      f5 = r.f5;
      size = r.size;
      named = r.named;
      drive = r.drive;
      name = r.name;
      visible = λ n less. ap is_some (keeps.records n) ∙ r.visible n less;
      read_is = r.read_is ∙ same_bytes (seen_in old key) (seen_in new key) (λ n. sym (keeps.records n)) k;
      none = λ e. keeps.records k ∙ r.none e;
    }

-- a spooler of another row has the same file

as_set : (q : ℕ) (s t : Spooler) (read : List ℕ) (ended : Bool) (filing : Filing) → ReadsFile q s read ended filing → ReadsFile q (record t { fcb = s.fcb; item = s.item }) read ended filing
as_set q s t read ended filing r = record {
  number = r.number;
  has = r.has;
  one = r.one;
  f5 = r.f5;
  size = r.size;
  named = r.named;
  drive = r.drive;
  name = r.name;
  visible = r.visible;
  read_is = r.read_is;
  none = r.none;
}

pub reads_again : (q : ℕ) (s t : Spooler) (read : List ℕ) (ended : Bool) (filing : Filing) → t.fcb ≡ s.fcb → t.item ≡ s.item → ReadsFile q s read ended filing → ReadsFile q t read ended filing
reads_again q s t read ended filing block item r =
    subst (λ (fcb : List ℕ). ReadsFile q (record t { fcb = fcb }) read ended filing) (sym block)
    (subst (λ (i : SpoolItem). ReadsFile q (record t { fcb = s.fcb; item = i }) read ended filing) (sym item) (as_set q s t read ended filing r))

-- its own call that names it

pub record NamesItsFile (q : ℕ) (s : Spooler) (call : Situation) : Type 0 where
  pub process : call.caller.process ≡ q
  pub block_is : call.call.fcb ≡ s.fcb
  pub drive_is : drive_named call ≡ Some (drive_of 0 (block call))
  pub number_is : item_number call ≡ item_of (block call)

module _ (q : ℕ) (s : Spooler) (read : List ℕ) (ended : Bool) (call : Situation) (r : ReadsFile q s read ended call.filing) (n : NamesItsFile q s call) where
  abbrev its_key : FileKey
  its_key = key_of_spool_item s.item

  its_block : block call ≡ block_of s.fcb
  its_block = ap block_of n.block_is

  pub named_drive : drive_named call ≡ Some its_key.drive
  named_drive = n.drive_is ∙ ap (λ (b : ControlBlock). Some (drive_of 0 b)) its_block ∙ ap (λ (drive : ℕ). Some drive) r.drive

  its_drive : drive_number call ≡ its_key.drive
  its_drive = ap (λ (drive : Option ℕ). unwrap_or drive call.caller.drive) named_drive

  named_so : (item : Item) → item.process ≡ q → item.file ≡ its_key → is_named call.caller.process (drive_number call) (plain (block call).name) item ≡ true
  named_so item process file =
      ap (λ (b : Bool). b && ((item.file.drive == drive_number call) && bytes_eq item.file.name (plain (block call).name))) (eq-eqb item.process call.caller.process (process ∙ sym n.process))
      ∙ ap (λ (b : Bool). b && bytes_eq item.file.name (plain (block call).name))
      (eq-eqb item.file.drive (drive_number call) (ap (λ (k : FileKey). k.drive) file ∙ sym its_drive))
      ∙ (bytes_eq-Decides item.file.name (plain (block call).name)).1
      (ap (λ (k : FileKey). k.name) file ∙ sym r.name ∙ ap (λ (b : ControlBlock). plain b.name) (sym its_block))

  pub its_open_key : open_key call ≡ Some its_key
  unfolding open_key file_named
  its_open_key =
      let item = r.has.item in
      ap (option_and_then (key_named call)) (n.number_is ∙ ap item_of its_block ∙ r.named)
      ∙ ap (file_where (is_named call.caller.process (drive_number call) (plain (block call).name))) r.has.placed
      ∙ ap (λ (b : Bool). if b then Some item.file else None) (named_so item r.has.its_process r.has.its_file)
      ∙ ap (λ (k : FileKey). Some k) r.has.its_file

-- its own function 20

pub record IsReadOf (q : ℕ) (s : Spooler) (call : Situation) : Type 0 where
  pub function : call.function ≡ ReadSequential
  pub process : call.caller.process ≡ q
  pub block_is : call.call.fcb ≡ s.fcb
  pub drive : call.caller.drive ≡ 0
  pub multi : call.caller.multi ≡ 1

reading_names : (q : ℕ) (s : Spooler) (call : Situation) → IsReadOf q s call → NamesItsFile q s call
unfolding drive_by number_by
reading_names q s call c = record {
  process = c.process;
  block_is = c.block_is;
  drive_is = ap (λ (f : FileFunction). drive_by (last_search call) call.caller.drive call.call.word (block call) f) c.function
      ∙ ap (λ (own : ℕ). Some (drive_of own (block call))) c.drive;
  number_is = ap (number_by (word_at call.call 0) (block call)) c.function;
}

module _ (q : ℕ) (s : Spooler) (read : List ℕ) (ended : Bool) (call : Situation) (r : ReadsFile q s read ended call.filing) (c : IsReadOf q s call) where
  abbrev key_read : FileKey
  key_read = key_of_spool_item s.item

  abbrev its_record : ℕ
  its_record = sequential_record (block_of s.fcb)

  block_read : block call ≡ block_of s.fcb
  block_read = ap block_of c.block_is

  its_drive_at : drive_at call ≡ drive_or_blank call.filing key_read.drive
  unfolding drive_at
  its_drive_at = ap (λ (n : ℕ). unwrap_or (mounted call.filing n) blank_drive) (its_drive q s read ended call r (reading_names q s call c))

  its_subject : subject call ≡ file_of key_read
  unfolding subject_by
  its_subject =
      ap (subject_by (drive_at call) (own_file call) (open_key call)) c.function ∙ ap (open_file (own_file call)) (its_open_key q s read ended call r (reading_names q s call c))

  its_file : file_of_job (reading_job call) ≡ file_of key_read
  its_file =
      ap (λ (f : FileName). record { user = f.user; name = plain (block call).name }) its_subject
      ∙ ap (λ (b : ControlBlock). record { user = key_read.user; name = plain b.name }) block_read
      ∙ ap (λ (name : List ℕ). record { user = key_read.user; name = name }) r.name

  its_first : first_record call ≡ its_record
  unfolding first_record
  its_first = ap (first_by (block call)) c.function ∙ ap sequential_record block_read

  seen_so : visible_of (drive_at call) (file_of_job (reading_job call)) (first_record call) ≡ seen_in call.filing key_read its_record
  seen_so =
      ap (λ (d : Drive). visible_of d (file_of_job (reading_job call)) (first_record call)) its_drive_at
      ∙ ap (λ (f : FileName). visible_of (drive_or_blank call.filing key_read.drive) f (first_record call)) its_file
      ∙ ap (visible_of (drive_or_blank call.filing key_read.drive) (file_of key_read)) its_first

-- the block after it

name_size : (fcb : List ℕ) → length fcb ≡ 36 → length (block_of fcb).name ≡ 11
unfolding block_of
name_size fcb size = part_size 1 11 fcb (omega (arith, size))

map_size : (fcb : List ℕ) → length fcb ≡ 36 → length (block_of fcb).map ≡ 16
unfolding block_of
map_size fcb size = part_size 16 16 fcb (omega (arith, size))

random_size : (fcb : List ℕ) → length fcb ≡ 36 → length (block_of fcb).random ≡ 3
unfolding block_of
random_size fcb size = part_size 33 3 fcb (omega (arith, size))

bytes_size : (b : ControlBlock) → length b.name ≡ 11 → length b.map ≡ 16 → length b.random ≡ 3 → length (bytes_of b) ≡ 36
unfolding bytes_of
bytes_size b name map random =
    omega (arith, name, map, random, length-append b.name (b.ex ∷ b.s1 ∷ b.s2 ∷ b.rc ∷ (b.map ++ (b.cr ∷ b.random))), length-append b.map (b.cr ∷ b.random))

placed_so : (b : ControlBlock) (n count : ℕ) → sequential_record (at_position b n count) ≡ n
unfolding at_position
placed_so b n count = omega arith

pub where_changed_is : (new old : List ℕ) → block_after (where_changed old new) old ≡ new
where_changed_is new old = by_test (bytes_eq new old) refl where
  by_test : (same : Bool) → bytes_eq new old ≡ same → block_after (if same then None else (Some new)) old ≡ new
  by_test true is = sym ((bytes_eq-Decides new old).0 is)
  by_test false is = refl

-- what it comes to

not_read : (refusal : Refusal) → ((refused_value (answered refusal) == 0) ≡ false) × ((refused_value (answered refusal) == 1) ≡ false)
not_read NotMounted = (refl, refl)
not_read Ambiguous = (refl, refl)
not_read NotOpen = (refl, refl)
not_read NotOpenToLock = (refl, refl)
not_read BeyondFile = (refl, refl)
not_read NotFound = (refl, refl)
not_read ProtectedDrive = (refl, refl)
not_read ReadOnlyFile = (refl, refl)
not_read FileExists = (refl, refl)
not_read WrongPassword = (refl, refl)
not_read InUse = (refl, refl)
not_read FileLimit = (refl, refl)
not_read ListFull = (refl, refl)
not_read DirectoryFull = (refl, refl)
not_read Busy = (refl, refl)

-- in which row it goes on doesn't matter
abbrev TookRead : Bool → Bool → ℕ → Spooler → Answer → List ℕ → Filing → Type 0
TookRead came over q s reply read filing = ReadsFile q (with_block reply s) (if came then read ++ record_in reply else read) over filing

took_read : (came over : Bool) (q : ℕ) (s : Spooler) (reply : Answer) (read : List ℕ) (filing : Filing) → TookRead came over q s reply read filing
    → ReadsFile q (if came then record (with_block reply s) { row = row_at (record_in reply) 0; bytes = record_in reply; place = 0 }
    else (if over then record (with_block reply s) { row = Detach } else record (with_block reply s) { row = Detach; is_unprinted = true }))
    (if came then read ++ record_in reply else read) over filing
took_read true over q s reply read filing r = reads_again q (with_block reply s) _ (read ++ record_in reply) over filing refl refl r
took_read false true q s reply read filing r = reads_again q (with_block reply s) _ read true filing refl refl r
took_read false false q s reply read filing r = reads_again q (with_block reply s) _ read false filing refl refl r

-- by the block that it then has
took_with : (came over : Bool) (fcb : List ℕ) (q : ℕ) (s : Spooler) (reply : Answer) (read : List ℕ) (filing : Filing) → (reply.hl == 0) ≡ came → (reply.hl == 1) ≡ over
    → block_after reply.fcb s.fcb ≡ fcb → ReadsFile q (record s { fcb = fcb }) (if came then read ++ record_in reply else read) over filing
    → TookRead (reply.hl == 0) (reply.hl == 1) q s reply read filing
took_with came over fcb q s reply read filing is_came is_over block r =
    subst (λ (b : Bool). TookRead b (reply.hl == 1) q s reply read filing) (sym is_came)
    (subst (λ (b : Bool). TookRead came b q s reply read filing) (sym is_over)
    (subst (λ (f : List ℕ). ReadsFile q (record s { fcb = f }) (if came then read ++ record_in reply else read) over filing) (sym block) r))

-- nothing came
not_over : (q : ℕ) (s : Spooler) (read : List ℕ) (ended : Bool) (filing : Filing) → ReadsFile q s read ended filing → ReadsFile q s read false filing
not_over q s read ended filing r = record {
  number = r.number;
  has = r.has;
  one = r.one;
  f5 = r.f5;
  size = r.size;
  named = r.named;
  drive = r.drive;
  name = r.name;
  visible = r.visible;
  read_is = r.read_is;
  none = λ e. absurd (false≢true e);
}

now_over : (q : ℕ) (s : Spooler) (read : List ℕ) (ended : Bool) (filing : Filing) → seen_in filing (key_of_spool_item s.item) (sequential_record (block_of s.fcb)) ≡ None
    → ReadsFile q s read ended filing → ReadsFile q s read true filing
now_over q s read ended filing none r = record {
  number = r.number;
  has = r.has;
  one = r.one;
  f5 = r.f5;
  size = r.size;
  named = r.named;
  drive = r.drive;
  name = r.name;
  visible = r.visible;
  read_is = r.read_is;
  none = λ e. none;
}

-- one record more did
visible_more : (seen : ℕ → Option (List ℕ)) (k : ℕ) (bytes : List ℕ) → seen k ≡ Some bytes → ((n : ℕ) → n < k → is_some (seen n) ≡ true) → (n : ℕ) → n < k + 1 → is_some (seen n) ≡ true
visible_more seen k bytes is visible n less = elim (cases_lt n k) [
  | inl below ↦ visible n below
  | inr past ↦ (let same : n ≡ k = omega (arith, less, past) in ap (λ m. is_some (seen m)) same ∙ ap is_some is)
]

read_more : (seen : ℕ → Option (List ℕ)) (k : ℕ) (bytes read : List ℕ) → seen k ≡ Some bytes → read ≡ first_bytes seen k → read ++ in_width 128 bytes ≡ first_bytes seen (k + 1)
unfolding first_bytes
read_more seen k bytes read is so =
    ap (λ (xs : List ℕ). xs ++ in_width 128 bytes) so ∙ ap (λ (o : Option (List ℕ)). first_bytes seen k ++ in_width 128 (unwrap_or o [])) (sym is)
    ∙ ap (first_bytes seen) (sym (add-one k))

one_more : (q : ℕ) (s : Spooler) (read bytes : List ℕ) (ended : Bool) (count : ℕ) (filing : Filing) → seen_in filing (key_of_spool_item s.item) (sequential_record (block_of s.fcb)) ≡ Some bytes
    → ReadsFile q s read ended filing
    → ReadsFile q (record s { fcb = bytes_of (at_position (block_of s.fcb) (sequential_record (block_of s.fcb) + 1) count) }) (read ++ in_width 128 bytes) false filing
unfolding at_position item_of
one_more q s read bytes ended count filing is r =
    let key = key_of_spool_item s.item in
    let old = block_of s.fcb in
    let k = sequential_record old in
    let new : ControlBlock = at_position old (k + 1) count in
    let named = name_size s.fcb r.size in
    let mapped = map_size s.fcb r.size in
    let randomed = random_size s.fcb r.size in
    let back : block_of (bytes_of new) ≡ new = block_back (bytes_of new) new refl named mapped randomed in
    let at : sequential_record (block_of (bytes_of new)) ≡ k + 1 = ap sequential_record back ∙ placed_so old (k + 1) count in
    let seen = seen_in filing key in
    record {
      number = r.number;
      has = r.has;
      one = r.one;
      f5 = ap (λ (b : ControlBlock). has_f5 b) back ∙ r.f5;
      size = bytes_size new named mapped randomed;
      named = ap item_of back ∙ r.named;
      drive = ap (λ (b : ControlBlock). drive_of 0 b) back ∙ r.drive;
      name = ap (λ (b : ControlBlock). plain b.name) back ∙ r.name;
      visible = λ n less. visible_more seen k bytes is r.visible n (omega (arith, less, at));
      read_is = read_more seen k bytes read is r.read_is ∙ ap (first_bytes seen) (sym at);
      none = λ e. absurd (false≢true e);
    }

-- by what is seen

fcb_at_end : (fcb : List ℕ) → length fcb ≡ 36 → bytes_of (block_of fcb) ≡ fcb
fcb_at_end fcb size = bytes_back fcb (block_of fcb) refl size

module _ (q : ℕ) (s : Spooler) (read : List ℕ) (ended : Bool) (call : Situation) (r : ReadsFile q s read ended call.filing) (c : IsReadOf q s call) where
  abbrev after_it : Filing
  after_it = (file_call call).filing

  kept : KeepsFile (key_of_spool_item s.item) r.number call.filing after_it
  kept = kept_by_reading call q (key_of_spool_item s.item) r.number c.function r.has

  still : ReadsFile q s read ended after_it
  still = reads_kept q s read ended call.filing after_it r kept (λ place none. ap (has_item (is_of q)) (reads_place call place c.function) ∙ none)

  abbrev Took : Answer → Type 0
  Took reply = TookRead (reply.hl == 0) (reply.hl == 1) q s reply read after_it

  by_record : (o : Option (List ℕ)) → seen_in call.filing (key_of_spool_item s.item) (sequential_record (block_of s.fcb)) ≡ o → refusal_of call ≡ None → Took (file_call call).answer
  by_record None is none =
      let one : ReadsOne call None = reads_one call None c.function c.multi none (seen_so q s read ended call r c ∙ is) in
      let reply = (file_call call).answer in
      let fcb : block_after reply.fcb s.fcb ≡ s.fcb =
      ap (λ (o : Option (List ℕ)). block_after o s.fcb) (one.block ∙ ap (λ (f : List ℕ). where_changed f (bytes_of (block_of f))) c.block_is)
      ∙ ap (λ (f : List ℕ). block_after (where_changed s.fcb f) s.fcb) (fcb_at_end s.fcb r.size) ∙ where_changed_is s.fcb s.fcb in
      took_with false true s.fcb q s reply read after_it (ap (λ n. n == 0) one.value) (ap (λ n. n == 1) one.value) fcb
      (now_over q s read ended after_it (kept.records (sequential_record (block_of s.fcb)) ∙ is) still)
  by_record (Some bytes) is none =
      let one : ReadsOne call (Some bytes) = reads_one call (Some bytes) c.function c.multi none (seen_so q s read ended call r c ∙ is) in
      let reply = (file_call call).answer in
      let k = sequential_record (block_of s.fcb) in
      let count = record_count (drive_at call) (file_of_job (reading_job call)) (extent_of (first_record call + 1)) in
      let new = bytes_of (at_position (block_of s.fcb) (k + 1) count) in
      let fcb : block_after reply.fcb s.fcb ≡ new = ap (λ (o : Option (List ℕ)). block_after o s.fcb) (one.block
      ∙ ap (λ (f : List ℕ). where_changed f (bytes_of (at_position (block_of f) (first_record call + 1) count))) c.block_is
      ∙ ap (λ (n : ℕ). where_changed s.fcb (bytes_of (at_position (block_of s.fcb) (n + 1) count))) (its_first q s read ended call r c)) ∙ where_changed_is new s.fcb in
      let came : record_in reply ≡ in_width 128 bytes = ap (in_width 128) one.bytes in
      took_with true false new q s reply read after_it (ap (λ n. n == 0) one.value) (ap (λ n. n == 1) one.value) fcb
      (subst (λ (xs : List ℕ). ReadsFile q (record s { fcb = new }) (read ++ xs) false after_it) (sym came)
      (one_more q s read bytes ended count after_it (kept.records k ∙ is) still))

  by_refusal : (refusal : Option Refusal) → refusal_of call ≡ refusal → Took (file_call call).answer
  unfolding file_call
  by_refusal None none = by_record (seen_in call.filing (key_of_spool_item s.item) (sequential_record (block_of s.fcb))) refl none
  by_refusal (Some refusal) is =
      let reply = (file_call call).answer in
      let n = refused_value (answered refusal) in
      let refused : reply ≡ answering n = ap (λ (o : Option Refusal). (outcome_by call (turned call (call_turns call)) o).answer) is in
      let not_it = not_read refusal in
      took_with false false s.fcb q s reply read after_it (ap (λ (a : Answer). a.hl == 0) refused ∙ not_it.0) (ap (λ (a : Answer). a.hl == 1) refused ∙ not_it.1)
      (ap (λ (a : Answer). block_after a.fcb s.fcb) refused) (not_over q s read ended after_it still)

  pub read_answered : ReadsFile q (took_at Read s (file_call call).answer) (read_by Read (file_call call).answer read) (ended_by Read (file_call call).answer ended) after_it
  read_answered =
      let reply = (file_call call).answer in
      took_read (reply.hl == 0) (reply.hl == 1) q s reply read after_it (by_refusal (refusal_of call) refl)
