-- Worked examples: entries whose blocks clash.
use Rattle.std.proofs.Common.{◌≡◌, ℕ, [], ◌∷◌, Some, refl}
use Rattle.mpm_base.specs.declared.kind.Kind.TheVariants.{Hd4}
use Rattle.mpm_dirent.specs.declared.kinds.Entry.{Entry}
use Rattle.mpm_dirent.specs.declared.kinds.Entry.TheVariants.{Free, File}
use Rattle.mpm_mount.specs.Faults.{has_at, some_place, file_cause}
use Rattle.mpm_repair.specs.FaultLists.{staying, shares_block, clash_of, fault_list}

-- the entry of a file that is named by a letter, with two blocks
file : ℕ → ℕ → ℕ → Entry
file letter one two = File (record {
  user = 0;
  name = letter ∷ 32 ∷ 32 ∷ 32 ∷ 32 ∷ 32 ∷ 32 ∷ 32 ∷ 32 ∷ 32 ∷ 32 ∷ [];
  ex = 0;
  s1 = 0;
  s2 = 0;
  rc = 8;
  blocks = one ∷ two ∷ 0 ∷ 0 ∷ 0 ∷ 0 ∷ 0 ∷ 0 ∷ 0 ∷ 0 ∷ 0 ∷ 0 ∷ 0 ∷ 0 ∷ 0 ∷ 0 ∷ [];
})

-- slots 1, 2 and 3 name block 9: 2 and 3 clash with 1
three_share : fault_list Hd4 (Free ∷ file 65 9 0 ∷ file 66 9 0 ∷ file 67 9 0 ∷ [])
    ≡ record { slot = 2; cause = 4; other = Some 1 } ∷ record { slot = 3; cause = 4; other = Some 1 } ∷ []
unfolding fault_list staying clash_of shares_block some_place has_at file_cause file
three_share = refl

-- slot 2 names block 12 too, and slot 5 as well: slot 2 doesn't stay, so that slot 5 is not listed
one_goes : fault_list Hd4 (Free ∷ file 65 9 0 ∷ file 66 9 12 ∷ file 67 9 0 ∷ Free ∷ file 68 12 0 ∷ [])
    ≡ record { slot = 2; cause = 4; other = Some 1 } ∷ record { slot = 3; cause = 4; other = Some 1 } ∷ []
unfolding fault_list staying clash_of shares_block some_place has_at file_cause file
one_goes = refl

-- a block that stands twice in an entry, which no earlier one names
own_block : fault_list Hd4 (file 65 9 0 ∷ file 66 11 11 ∷ file 67 12 9 ∷ [])
    ≡ record { slot = 1; cause = 4; other = Some 1 } ∷ record { slot = 2; cause = 4; other = Some 0 } ∷ []
unfolding fault_list staying clash_of shares_block some_place has_at file_cause file
own_block = refl
