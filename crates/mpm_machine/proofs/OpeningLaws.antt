-- The spooler's function 15 opens the file that the item names, to be read: it stands at the file's first record.
use Rattle.std.proofs.Common.{◌≡◌, ◌∙◌, ℕ, ◌+◌, ◌-◌, ◌*◌, ◌/◌, ◌%◌, ◌≤◌, ◌==◌, Bool, true, false, if◌then◌else◌, List, [], ◌∷◌, length, Option, Some, None, refl, sym, ap, subst, arith}
use Rattle.std.specs.Prelude.{nat_le, slice_get, slice_index, drop, unwrap_or, bit_or}
use Rattle.std.proofs.lemmas.Bool.{false≢true, eqb-true}
use Rattle.std.proofs.lemmas.Bool.Decides.{nat_tests}
use Rattle.std.proofs.lemmas.Nat.{or_shr}
use Rattle.std.proofs.lemmas.Nat.Bits.{bit_at_or, bit_at_lowest}
use Rattle.mpm_base.specs.Calls.{Answer}
use Rattle.mpm_base.specs.Lists.{zeros}
use Rattle.mpm_bdos.proofs.OpenedFile.{opens_to_read}
use Rattle.mpm_bdos.specs.OpenToRead.{HasFile, OpensToRead}
use Rattle.mpm_bdos.specs.Outcomes.{file_call}
use Rattle.mpm_dirent.proofs.Numbers.{spread_is}
use Rattle.mpm_dirent.specs.Names.{plain}
use Rattle.mpm_fcb.specs.Blocks.{block_of}
use Rattle.mpm_fcb.specs.Names.{drive_of, has_f6}
use Rattle.mpm_fcb.specs.Positions.{sequential_record}
use Rattle.mpm_fcb.specs.declared.block.ControlBlock.{ControlBlock}
use Rattle.mpm_file_functions.specs.declared.functions.FileFunction.{FileFunction}
use Rattle.mpm_file_functions.specs.declared.functions.FileFunction.TheVariants.{OpenFile}
use Rattle.mpm_opens.specs.Opens.{AreOpen, HasNone, HasOne}
use Rattle.mpm_opens.specs.declared.kinds.FileKey.{FileKey}
use Rattle.mpm_refusals.specs.Filing.{Situation, block}
use Rattle.mpm_refusals.specs.Subjects.{drive_by, drive_number, last_search, own_file, key_of}
use Rattle.mpm_spool.specs.Spoolers.{Spooler, file_block, read_only_block, took_at, begun_with, begun_next, block_after, with_block}
use Rattle.mpm_spool.specs.declared.list.SpoolItem.{SpoolItem}
use Rattle.mpm_spool.specs.declared.table.Row.TheVariants.{Open, Attach}
use Rattle.mpm_machine.proofs.ReadingLaws.{reads_again}
use Rattle.mpm_spool.specs.Printed.{has_file}
use Rattle.mpm_machine.specs.Printing.{first_bytes, NamesFile, key_of_spool_item, seen_in, ReadsFile}

-- the block with which it opens a file

high_bit : (x : ℕ) → nat_le 128 (bit_or x 128) ≡ true
high_bit x =
    let high : 128 ≤ bit_or x 128 = omega (arith, bit_at_or x 128 7) in
    grind (arith, nat_tests, high)

abbrev opening_block : SpoolItem → ControlBlock
opening_block item = block_of (read_only_block item)

-- the sixth byte of the name has bit 7, which isn't of the name
even_low : (a b : ℕ) → b % 2 ≡ 0 → bit_or a b % 2 ≡ a % 2
even_low a b even = sym (bit_at_lowest (bit_or a b)) ∙ bit_at_or a b 0 ∙ omega (arith, even, bit_at_lowest a, bit_at_lowest b)

of_two : (a : ℕ) → bit_or a 2 % 2 ≡ a % 2
of_two a = even_low a 2 refl

of_four : (a : ℕ) → bit_or a 4 % 4 ≡ a % 4
of_four a = (let half : bit_or a 4 / 2 ≡ bit_or (a / 2) 2 = or_shr a 4 1 in omega (arith, even_low a 4 refl, half, of_two (a / 2)))

of_eight : (a : ℕ) → bit_or a 8 % 8 ≡ a % 8
of_eight a = (let half : bit_or a 8 / 2 ≡ bit_or (a / 2) 4 = or_shr a 8 1 in omega (arith, even_low a 8 refl, half, of_four (a / 2)))

of_16 : (a : ℕ) → bit_or a 16 % 16 ≡ a % 16
of_16 a = (let half : bit_or a 16 / 2 ≡ bit_or (a / 2) 8 = or_shr a 16 1 in omega (arith, even_low a 16 refl, half, of_eight (a / 2)))

of_32 : (a : ℕ) → bit_or a 32 % 32 ≡ a % 32
of_32 a = (let half : bit_or a 32 / 2 ≡ bit_or (a / 2) 16 = or_shr a 32 1 in omega (arith, even_low a 32 refl, half, of_16 (a / 2)))

of_64 : (a : ℕ) → bit_or a 64 % 64 ≡ a % 64
of_64 a = (let half : bit_or a 64 / 2 ≡ bit_or (a / 2) 32 = or_shr a 64 1 in omega (arith, even_low a 64 refl, half, of_32 (a / 2)))

low_bits : (a : ℕ) → bit_or a 128 % 128 ≡ a % 128
low_bits a = (let half : bit_or a 128 / 2 ≡ bit_or (a / 2) 64 = or_shr a 128 1 in omega (arith, even_low a 128 refl, half, of_64 (a / 2)))

abbrev item_with : SpoolItem → List ℕ → SpoolItem
item_with item name = record item { name = name }

abbrev IsOpening : SpoolItem → Type 0
IsOpening item = (length (read_only_block item) ≡ 36) × ((opening_block item).ex ≡ 0) × ((opening_block item).cr ≡ 0) × (has_f6 (opening_block item) ≡ true)

opening_is : (item : SpoolItem) → length item.name ≡ 11 → IsOpening item
unfolding block_of zeros
opening_is item size =
    subst (λ (name : List ℕ). IsOpening (item_with item name)) (spread_is item.name 11 size)
    (refl, refl, refl, high_bit (slice_index item.name 5))

with_sixth : (a b c d e f g h i j k : ℕ) → plain (a ∷ b ∷ c ∷ d ∷ e ∷ bit_or f 128 ∷ g ∷ h ∷ i ∷ j ∷ k ∷ []) ≡ plain (a ∷ b ∷ c ∷ d ∷ e ∷ f ∷ g ∷ h ∷ i ∷ j ∷ k ∷ [])
with_sixth a b c d e f g h i j k = ap (λ (x : ℕ). a % 128 ∷ b % 128 ∷ c % 128 ∷ d % 128 ∷ e % 128 ∷ x ∷ g % 128 ∷ h % 128 ∷ i % 128 ∷ j % 128 ∷ k % 128 ∷ []) (low_bits f)

opening_names : (item : SpoolItem) → length item.name ≡ 11 → NamesFile (read_only_block item) (key_of_spool_item item)
unfolding block_of zeros
opening_names item size =
    subst (λ (name : List ℕ). NamesFile (read_only_block (item_with item name)) (key_of_spool_item (item_with item name))) (spread_is item.name 11 size)
    (refl, with_sixth _ _ _ _ _ (slice_index item.name 5) _ _ _ _ _)

pub deleting_names : (item : SpoolItem) → length item.name ≡ 11 → NamesFile (file_block item) (key_of_spool_item item)
unfolding block_of zeros
deleting_names item size =
    subst (λ (name : List ℕ). NamesFile (file_block (item_with item name)) (key_of_spool_item (item_with item name))) (spread_is item.name 11 size) (refl, refl)

-- it is answered

pub record IsOpeningOf (q : ℕ) (s : Spooler) (call : Situation) : Type 0 where
  pub function : call.function ≡ OpenFile
  pub process : call.caller.process ≡ q
  pub block_is : call.call.fcb ≡ read_only_block s.item
  pub drive : call.caller.drive ≡ 0
  pub user : call.caller.user ≡ 0
  pub opens : AreOpen call.filing.opens
  pub without : HasNone q call.filing.opens

begun_without : (next : Option SpoolItem) (s : Spooler) → has_file (begun_with next s).row ≡ true → ⊥
begun_without None s has = false≢true has
begun_without (Some item) s has = false≢true has

pub begun_has_no_file : (s : Spooler) → has_file (begun_next s).row ≡ true → ⊥
unfolding begun_next
begun_has_no_file s has = begun_without (slice_get s.left 0) (record s { left = drop 1 s.left }) has

module _ (q : ℕ) (s : Spooler) (call : Situation) (c : IsOpeningOf q s call) (size : length s.item.name ≡ 11) where
  abbrev reply : Answer
  reply = (file_call call).answer

  its_block : block call ≡ opening_block s.item
  its_block = ap block_of c.block_is

  its_key : key_of (drive_number call) (own_file call) ≡ key_of_spool_item s.item
  unfolding drive_by
  its_key =
      ap (λ (f : FileFunction). key_of (unwrap_or (drive_by (last_search call) call.caller.drive call.call.word (block call) f) call.caller.drive) (own_file call)) c.function
      ∙ ap (λ (own : ℕ). key_of (drive_of own (block call)) (own_file call)) c.drive
      ∙ ap (λ (user : ℕ). key_of (drive_of 0 (block call)) (record { user = user; name = plain (block call).name })) c.user
      ∙ ap (λ (b : ControlBlock). key_of (drive_of 0 b) (record { user = 0; name = plain b.name })) its_block
      ∙ ap (λ (d : ℕ). record { drive = d; user = 0; name = plain (opening_block s.item).name }) (opening_names s.item size).0
      ∙ ap (λ (name : List ℕ). record { drive = (key_of_spool_item s.item).drive; user = 0; name = name }) (opening_names s.item size).1

  was_opened : reply.hl ≡ 0 → OpensToRead call
  was_opened hl =
      let is = opening_is s.item size in
      opens_to_read call c.function c.user (ap (λ (b : ControlBlock). has_f6 b) its_block ∙ is.3) (ap length c.block_is ∙ is.0) c.opens hl

  has_opened : reply.hl ≡ 0 → ReadsFile q (record (with_block reply s) { row = Attach }) [] false (file_call call).filing
  unfolding first_bytes
  has_opened hl =
      let is = opening_is s.item size in
      let o = was_opened hl in
      let key = key_of_spool_item s.item in
      let new = (file_call call).filing in
      let fcb : block_after reply.fcb s.fcb ≡ o.fcb = ap (λ (f : Option (List ℕ)). block_after f s.fcb) o.answered in
      let at : sequential_record (block_of o.fcb) ≡ 0 =
      o.first ∙ ap (λ (b : ControlBlock). 128 * (b.ex % 32) + b.cr) its_block ∙ ap (λ (ex : ℕ). 128 * (ex % 32) + (opening_block s.item).cr) is.1 ∙ ap (λ (cr : ℕ). 128 * (0 % 32) + cr) is.2 in
      let here : ReadsFile q (record s { fcb = o.fcb }) [] false new = record {
        number = o.number;
        has = subst (λ (p : ℕ). HasFile p key o.number new) c.process (subst (λ (k : FileKey). HasFile call.caller.process k o.number new) its_key o.has);
        one = subst (λ (p : ℕ). HasNone p call.filing.opens → HasOne p o.number new.opens) c.process o.one c.without;
        f5 = o.f5;
        size = o.size;
        named = o.named;
        drive = ap (λ (d : ℕ). if d == 0 then 0 else d - 1) (o.drive ∙ ap (λ (b : ControlBlock). b.drive) its_block) ∙ (opening_names s.item size).0;
        name = o.name ∙ ap (λ (b : ControlBlock). plain b.name) its_block ∙ (opening_names s.item size).1;
        visible = λ n less. absurd (omega (arith, less, at));
        read_is = sym (ap (first_bytes (seen_in new key)) at);
        none = λ e. absurd (false≢true e);
      } in
      reads_again q (record s { fcb = o.fcb }) (record (with_block reply s) { row = Attach }) [] false new fcb refl here

  pub open_answered : has_file (took_at Open s reply).row ≡ true → ReadsFile q (took_at Open s reply) [] false (file_call call).filing
  open_answered has = by_test (reply.hl == 0) refl has where
    by_test : (opened : Bool) → (reply.hl == 0) ≡ opened → has_file (if opened then record (with_block reply s) { row = Attach } else begun_next s).row ≡ true
        → ReadsFile q (if opened then record (with_block reply s) { row = Attach } else begun_next s) [] false (file_call call).filing
    by_test true is has = has_opened (eqb-true reply.hl 0 is)
    by_test false is has = absurd (begun_has_no_file s has)
