-- The file of a core: one process as it is at a step, its registers, its segment and common memory, as bytes. (This project's own.)
use Rattle.std.specs.Prelude.{◌≡◌, ℕ, ◌+◌, ◌*◌, ◌^◌, ◌<◌, ◌≤◌, min, List, [], ◌∷◌, ◌++◌, Option, Some, None, Result, Ok, Err, drop, Bool, not, ◌==◌, ◌&&◌, ◌||◌, nat_lt, nat_le, length, slice_index, position, codes, if◌then◌else◌}
use Rattle.std.specs.List.{range_with_len}
use Rattle.std.specs.Int.{w64, from_le_bytes, to_le_bytes}
use Rattle.z80_regs.specs.Words.{low, high, word_of}
use Rattle.z80_regs.specs.declared.regs.Regs.{Regs}
use Rattle.mpm_core_file.specs.declared.head.Head.{Head}
use Rattle.mpm_core_file.specs.declared.reading.CoreFault.{CoreFault}

-- a core: what its head says, the bytes of the segment of its process, and those of common memory
pub record CoreContents : Type 0 where
  pub head : Head
  pub segment : List ℕ
  pub common : List ℕ

-- a process may be so: its segment has at least four pages and ends below common memory, and the interrupt mode is 0, 1 or 2
pub record IsHead (head : Head) : Type 0 where
  pub process : head.process < 32
  pub some : 4 ≤ head.spec.pages
  pub end : head.spec.base + head.spec.pages ≤ 192
  pub mode : head.regs.mode < 3
  pub step : head.step < 2 ^ 64

pub record IsCore (core : CoreContents) : Type 0 where
  pub head : IsHead core.head
  pub segment : length core.segment ≡ 256 * core.head.spec.pages
  pub common : length core.common ≡ 16384

-- a flag as a byte
abbrev pub flag_byte : Bool → ℕ
flag_byte set = if set then 1 else 0

-- a word as two bytes, the low one first
abbrev pub word_bytes : ℕ → List ℕ → List ℕ
word_bytes word rest = low word ∷ high word ∷ rest

-- registers: those of one byte, those of a word, and the processor's state besides
abbrev pub bytes_of : Regs → List ℕ
bytes_of r = r.a ∷ r.f ∷ r.b ∷ r.c ∷ r.d ∷ r.e ∷ r.h ∷ r.l ∷ r.a2 ∷ r.f2 ∷ r.b2 ∷ r.c2 ∷ r.d2 ∷ r.e2 ∷ r.h2 ∷ r.l2 ∷ []

abbrev pub words_of : Regs → List ℕ
words_of r = word_bytes r.ix (word_bytes r.iy (word_bytes r.sp (word_bytes r.pc [])))

abbrev pub states_of : Regs → List ℕ
states_of r = r.i ∷ r.r ∷ flag_byte r.iff1 ∷ flag_byte r.iff2 ∷ r.mode ∷ flag_byte r.halted ∷ flag_byte r.shadow ∷ []

-- what stands after the step: process, base page, pages, whether it is in a resident procedure, and the registers
unfoldable pub fields_of : Head → List ℕ
fields_of head =
    (head.process ∷ head.spec.base ∷ head.spec.pages ∷ flag_byte head.inside ∷ []) ++ (bytes_of head.regs ++ (words_of head.regs ++ states_of head.regs))

-- the bytes before those of memory
unfoldable pub head_bytes : Head → List ℕ
head_bytes head = codes "MPMCORE1" ++ (to_le_bytes w64 head.step ++ fields_of head)

-- the file of a core
abbrev pub core_bytes : CoreContents → List ℕ
core_bytes core = head_bytes core.head ++ (core.segment ++ core.common)

-- which bytes are no file of a core, and where that is seen

-- a flag stands at these places
abbrev pub is_flag : ℕ → Bool
is_flag place = place == 19 || (place == 46 || (place == 47 || (place == 49 || place == 50)))

-- a byte may stand at a place of the head, in the file of a segment of so many pages. The first eight are as they are. The process is one
-- of 32. There are 4 to 192 pages, and they end below common memory. The interrupt mode is 0 to 2, and a flag 0 or 1
unfoldable pub may_stand : ℕ → ℕ → ℕ → Bool
may_stand pages place byte =
    if nat_lt place 8 then byte == slice_index (codes "MPMCORE1") place
    else (if place == 16 then nat_lt byte 32
    else (if place == 17 then nat_le (byte + pages) 192
    else (if place == 18 then nat_le 4 byte && nat_le byte 192
    else (if place == 48 then nat_lt byte 3
    else (not (is_flag place) || nat_lt byte 2)))))

-- it is there, and may stand there
unfoldable pub stands : List ℕ → ℕ → Bool
stands text place = nat_lt place (length text) && may_stand (slice_index text 18) place (slice_index text place)

-- the head has 51 places. They are judged in order, but the pages before the base
abbrev pub turned : ℕ → ℕ
turned turn = if turn == 17 then 18 else (if turn == 18 then 17 else turn)

unfoldable pub first_bad : List ℕ → Option ℕ
first_bad text = position (λ turn. not (stands text (turned turn))) (range_with_len 0 51)

-- the length of the file of a segment of so many pages
abbrev pub size_of : ℕ → ℕ
size_of pages = 51 + 256 * pages + 16384

-- where the first place is that doesn't stand, or, where there are too few bytes, their number; else where the file would end that has
-- more or fewer bytes than its pages ask for
abbrev pub fault_by : Option ℕ → List ℕ → Option ℕ
fault_by (Some turn) text = Some (min (turned turn) (length text))
fault_by None text =
    let size = size_of (slice_index text 18) in
    if length text == size then None else (Some (min (length text) size))

unfoldable pub fault_of : List ℕ → Option ℕ
fault_of text = fault_by (first_bad text) text

-- what such a head says
abbrev pub flag_at : List ℕ → ℕ → Bool
flag_at text place = slice_index text place == 1

abbrev pub word_at : List ℕ → ℕ → ℕ
word_at text place = word_of (slice_index text place) (slice_index text (place + 1))

abbrev pub step_at : List ℕ → ℕ
step_at text = from_le_bytes w64
    (slice_index text 8 ∷ slice_index text 9 ∷ slice_index text 10 ∷ slice_index text 11
    ∷ slice_index text 12 ∷ slice_index text 13 ∷ slice_index text 14 ∷ slice_index text 15 ∷ [])

abbrev pub regs_at : List ℕ → Regs
regs_at text = record {
  a = slice_index text 20;
  f = slice_index text 21;
  b = slice_index text 22;
  c = slice_index text 23;
  d = slice_index text 24;
  e = slice_index text 25;
  h = slice_index text 26;
  l = slice_index text 27;
  a2 = slice_index text 28;
  f2 = slice_index text 29;
  b2 = slice_index text 30;
  c2 = slice_index text 31;
  d2 = slice_index text 32;
  e2 = slice_index text 33;
  h2 = slice_index text 34;
  l2 = slice_index text 35;
  ix = word_at text 36;
  iy = word_at text 38;
  sp = word_at text 40;
  pc = word_at text 42;
  i = slice_index text 44;
  r = slice_index text 45;
  iff1 = flag_at text 46;
  iff2 = flag_at text 47;
  mode = slice_index text 48;
  halted = flag_at text 49;
  shadow = flag_at text 50;
}

abbrev pub head_at : List ℕ → Head
head_at text = record {
  step = step_at text;
  process = slice_index text 16;
  spec = record { base = slice_index text 17; pages = slice_index text 18 };
  inside = flag_at text 19;
  regs = regs_at text;
}

-- as many bytes as a head has, and what they say may be so of a process
pub record HasHead (text : List ℕ) : Type 0 where
  pub long : 51 ≤ length text
  pub process : slice_index text 16 < 32
  pub some : 4 ≤ slice_index text 18
  pub end : slice_index text 17 + slice_index text 18 ≤ 192
  pub mode : slice_index text 48 < 3

-- the file of a core, with its head: those are the bytes of the head, and there are as many as its pages ask for
pub record IsFileOf (fault : Option ℕ) (text : List ℕ) (head : Head) : Type 0 where
  pub none : fault ≡ None
  pub says : head ≡ head_at text
  pub is_head : IsHead head
  pub bytes : text ≡ head_bytes head ++ drop 51 text
  pub size : length text ≡ size_of head.spec.pages

-- a file that was judged: it has a head, or a fault
abbrev pub Judges : Option ℕ → List ℕ → Result Head CoreFault → Type 0
Judges fault text (Ok head) = IsFileOf fault text head
Judges fault text (Err found) = fault ≡ Some found.place
