-- Worked examples, by computation.
use Rattle.std.proofs.Common.{◌≡◌, true, false, [], ◌∷◌, None, refl}
use Rattle.std.specs.Prelude.{replicate}
use Rattle.mpm_opens.specs.declared.kinds.Mode.TheVariants.{Unlocked, ReadOnly}
use Rattle.mpm_fcb.specs.declared.block.ControlBlock.{ControlBlock}
use Rattle.mpm_fcb.specs.Names.{with_attributes}
use Rattle.mpm_fcb.specs.Positions.{sequential_record, are_beyond, at_position}
use Rattle.mpm_fcb.specs.Opening.{item_of, open_mode, opened}

-- LETTER.TXT of the process's own drive, at its beginning
abbrev letter : ControlBlock
letter = record {
  drive = 0;
  name = 76 ∷ 69 ∷ 84 ∷ 84 ∷ 69 ∷ 82 ∷ 32 ∷ 32 ∷ 84 ∷ 88 ∷ 84 ∷ [];
  ex = 0;
  s1 = 0;
  s2 = 0;
  rc = 0;
  map = replicate 16 0;
  cr = 0;
  random = 0 ∷ 0 ∷ 0 ∷ [];
}

-- after 129 records it stands at record 1 of extent 1, which has one record
pub behind_129_records : at_position letter 129 1 ≡ record letter { ex = 1; rc = 1; cr = 1 }
unfolding at_position
behind_129_records = refl

-- after the last record it stands in the last extent
pub behind_the_last_record : at_position letter 262144 128 ≡ record letter { ex = 31; s2 = 63; rc = 128; cr = 128 }
unfolding at_position
behind_the_last_record = refl

-- the highest bits of EX and S2 don't count
pub bits_that_do_not_count : sequential_record (record letter { ex = 0xE1; s2 = 0xC1; cr = 5 }) ≡ 4229
bits_that_do_not_count = refl

-- records 262,143 and 262,144
pub last_record_is_within : are_beyond 262143 1 ≡ false
last_record_is_within = refl

pub next_record_is_beyond : are_beyond 262143 2 ≡ true
next_record_is_beyond = refl

-- in unlocked mode open file 4 is number 5, in the handle and in R0; F5' goes, T2' comes, R2 stays
pub opened_unlocked :
    opened (record letter { name = 76 ∷ 69 ∷ 84 ∷ 84 ∷ 197 ∷ 82 ∷ 32 ∷ 32 ∷ 84 ∷ 88 ∷ 84 ∷ []; s1 = 9; s2 = 9; random = 7 ∷ 8 ∷ 9 ∷ [] })
    (false ∷ false ∷ false ∷ false ∷ true ∷ true ∷ false ∷ false ∷ false ∷ true ∷ false ∷ []) 10 Unlocked 4
    ≡ record letter { name = 76 ∷ 69 ∷ 84 ∷ 84 ∷ 69 ∷ 82 ∷ 32 ∷ 32 ∷ 84 ∷ 216 ∷ 84 ∷ []; rc = 10; map = 5 ∷ replicate 15 0; random = 5 ∷ 0 ∷ 9 ∷ [] }
unfolding opened with_attributes
opened_unlocked = refl

-- a handle with other bytes after its number names nothing
pub other_bytes_name_nothing : item_of (record letter { map = 5 ∷ 0 ∷ 1 ∷ replicate 13 0 }) ≡ None
unfolding item_of
other_bytes_name_nothing = refl

-- nor does 65
pub number_65_names_nothing : item_of (record letter { map = 65 ∷ replicate 15 0 }) ≡ None
unfolding item_of
number_65_names_nothing = refl

-- F6' comes before F5'
pub f6_comes_first : open_mode (record letter { name = 76 ∷ 69 ∷ 84 ∷ 84 ∷ 197 ∷ 210 ∷ 32 ∷ 32 ∷ 84 ∷ 88 ∷ 84 ∷ [] }) ≡ ReadOnly
f6_comes_first = refl
