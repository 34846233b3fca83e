-- Worked examples of the calls that look: searches (functions 17 and 18) and the size of a file (35).
use Rattle.std.proofs.Common.{refl}
use Rattle.std.specs.Prelude.{◌≡◌, ℕ, List, [], ◌∷◌, ◌++◌, Option, Some, None, replicate}
use Rattle.std.specs.FinMap.{get-entries, entries}
use Rattle.mpm_base.specs.Calls.{answering}
use Rattle.mpm_file_functions.specs.declared.functions.FileFunction.TheVariants.{SearchFirst, SearchNext, FileSize}
use Rattle.mpm_refusals.specs.Filing.{Filing, LastSearch}
use Rattle.mpm_bdos.specs.Outcomes.{file_call}
use Rattle.mpm_bdos_trials.proofs.examples.Computing.{file_calls}
use Rattle.mpm_bdos_trials.proofs.examples.Situations.{Extents, Xfcbs, HasFile, HasTwo, name_a, name_b, any_name, file_of, block_of_name, block_a, extent_of, empty_block, no_records, records_of_10, floppy, filing_of, nothing_open, call, fails, tells}

-- process 1 has searched
abbrev searched : Option LastSearch → Filing → Filing
searched search filing = record filing { searches = None ∷ (search ∷ replicate 30 None) }

abbrev found : List ℕ → List ℕ → LastSearch
found pattern name = record { drive = 0; user = 0; pattern = pattern; extent = 0; found = (file_of name, 0) }

-- an entry of a name and of so many records as a search tells it: user, name and type, EX, S1, S2, RC, no blocks; and three free ones
abbrev told : List ℕ → ℕ → List ℕ
told name count = 0 ∷ (name ++ (0 ∷ 0 ∷ 0 ∷ count ∷ (replicate 16 0 ++ replicate 96 0xE5)))

-- 17: B isn't there
pub name_not_found : (m : Extents) (x : Xfcbs)
    → HasFile m name_a records_of_10
    → file_call (call (filing_of (floppy m x None) nothing_open) SearchFirst (block_of_name name_b) [])
    ≡ fails (call (filing_of (floppy m x None) nothing_open) SearchFirst (block_of_name name_b) []) 0x00FF
unfolding file_calls
name_not_found m x e = simp (e) refl

-- nor is extent 1 of A
pub extent_not_found : (m : Extents) (x : Xfcbs)
    → HasFile m name_a records_of_10
    → (file_call (call (filing_of (floppy m x None) nothing_open) SearchFirst (record block_a { ex = 1 }) [])).answer ≡ answering 0x00FF
unfolding file_calls
extent_not_found m x e = simp (e) refl

-- extent 0 is found, answered, and kept for the next search
pub first_found : (m : Extents) (x : Xfcbs)
    → HasFile m name_a records_of_10
    → file_call (call (filing_of (floppy m x None) nothing_open) SearchFirst block_a [])
    ≡ tells 0 (searched (Some (found name_a name_a)) (filing_of (floppy m x None) nothing_open)) None (told name_a 10)
unfolding file_calls
first_found m x e = simp (get-entries, e) refl

-- 18: without a search nothing is next
pub next_without_search : (m : Extents) (x : Xfcbs)
    → file_call (call (filing_of (floppy m x None) nothing_open) SearchNext block_a [])
    ≡ fails (call (filing_of (floppy m x None) nothing_open) SearchNext block_a []) 0x00FF
unfolding file_calls
next_without_search m x = refl

-- after A stands B, whatever the control block names
pub next_found : (m : Extents) (x : Xfcbs)
    → HasTwo m name_a records_of_10 name_b no_records
    → file_call (call (searched (Some (found any_name name_a)) (filing_of (floppy m x None) nothing_open)) SearchNext block_a [])
    ≡ tells 0 (searched (Some (found any_name name_b)) (filing_of (floppy m x None) nothing_open)) None (told name_b 0)
unfolding file_calls
next_found m x e = simp (get-entries, e) refl

-- and after B nothing; the search stays as it was
pub nothing_behind_last : (m : Extents) (x : Xfcbs)
    → HasTwo m name_a records_of_10 name_b no_records
    → file_call (call (searched (Some (found any_name name_b)) (filing_of (floppy m x None) nothing_open)) SearchNext block_a [])
    ≡ fails (call (searched (Some (found any_name name_b)) (filing_of (floppy m x None) nothing_open)) SearchNext block_a []) 0x00FF
unfolding file_calls
nothing_behind_last m x e = simp (e) refl

-- 35: what isn't there has no size
pub size_of_none : (m : Extents) (x : Xfcbs)
    → HasFile m name_a records_of_10
    → file_call (call (filing_of (floppy m x None) nothing_open) FileSize (block_of_name name_b) [])
    ≡ fails (call (filing_of (floppy m x None) nothing_open) FileSize (block_of_name name_b) []) 0x00FF
unfolding file_calls
size_of_none m x e = simp (e) refl

-- 128 records of extent 0 and one of extent 1
pub size_of_129 : (m : Extents) (x : Xfcbs)
    → entries m
    ≡ (record { user = 0; name = name_a; number = 0 }, extent_of 0 128 (replicate 16 empty_block))
    ∷ ((record { user = 0; name = name_a; number = 1 }, extent_of 1 1 (empty_block ∷ replicate 15 None)) ∷ [])
    → file_call (call (filing_of (floppy m x None) nothing_open) FileSize block_a [])
    ≡ tells 0 (filing_of (floppy m x None) nothing_open) (Some (record block_a { random = 129 ∷ 0 ∷ 0 ∷ [] })) []
unfolding file_calls
size_of_129 m x e = simp (e) refl
