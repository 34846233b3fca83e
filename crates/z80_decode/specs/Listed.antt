-- Which bytes begin a listed instruction, by their numbers. (UM0080, "Z80 Instruction Description"; for SLL and the halves
-- of IX and IY "The Undocumented Z80 Documented".)
use Rattle.std.specs.Prelude.{ℕ, ◌%◌, ◌==◌, ◌&&◌, ◌||◌, Bool, true, not, nat_le, List, [], ◌∷◌, slice_index, if◌then◌else◌}
use Rattle.std.specs.List.{list_any}

-- bytes one after another
pub record Run : Type 0 where
  pub first : ℕ
  pub last : ℕ

abbrev pub through : ℕ → ℕ → Run
through first last = record { first = first; last = last }

abbrev pub alone : ℕ → Run
alone byte = through byte byte

-- whether a byte stands in one of some runs
abbrev pub is_in : List Run → ℕ → Bool
is_in runs byte = list_any (λ run. nat_le run.first byte && nat_le byte run.last) runs

-- after EDh
unfoldable pub listed_behind_ed : List Run
listed_behind_ed =
    through 0x40 0x4b ∷ alone 0x4d ∷ alone 0x4f ∷ through 0x50 0x53 ∷ through 0x56 0x5b ∷ through 0x5e 0x63
    ∷ through 0x67 0x6b ∷ alone 0x6f ∷ through 0x72 0x73 ∷ through 0x78 0x7b ∷ through 0xa0 0xa3 ∷ through 0xa8 0xab
    ∷ through 0xb0 0xb3 ∷ through 0xb8 0xbb ∷ []

-- after DDh and FDh
unfoldable pub listed_behind_dd : List Run
listed_behind_dd =
    alone 0x09 ∷ alone 0x19 ∷ through 0x21 0x26 ∷ through 0x29 0x2e ∷ through 0x34 0x36 ∷ alone 0x39 ∷ through 0x44 0x46
    ∷ through 0x4c 0x4e ∷ through 0x54 0x56 ∷ through 0x5c 0x5e ∷ through 0x60 0x6f ∷ through 0x70 0x75 ∷ alone 0x77
    ∷ through 0x7c 0x7e ∷ through 0x84 0x86 ∷ through 0x8c 0x8e ∷ through 0x94 0x96 ∷ through 0x9c 0x9e
    ∷ through 0xa4 0xa6 ∷ through 0xac 0xae ∷ through 0xb4 0xb6 ∷ through 0xbc 0xbe ∷ alone 0xe1 ∷ alone 0xe3
    ∷ alone 0xe5 ∷ alone 0xe9 ∷ alone 0xf9 ∷ []

-- after DDh CBh, FDh CBh and a displacement: those of (HL) but 36h
abbrev pub is_listed_indexed_bit : ℕ → Bool
is_listed_indexed_bit byte = byte % 8 == 6 && not (byte == 0x36)

-- after DDh and FDh, with the byte two further on
abbrev pub is_listed_indexed : ℕ → ℕ → Bool
is_listed_indexed second fourth =
    if second == 0xcb then is_listed_indexed_bit fourth else (is_in listed_behind_dd second)

-- whether four bytes begin with a listed instruction: without prefix and after CBh all are
unfoldable pub is_listed : List ℕ → Bool
is_listed bytes =
    let first = slice_index bytes 0 in
    let second = slice_index bytes 1 in
    let fourth = slice_index bytes 3 in
    if first == 0xcb then true
    else (if first == 0xed then is_in listed_behind_ed second
    else (if first == 0xdd || first == 0xfd then is_listed_indexed second fourth
    else true))
