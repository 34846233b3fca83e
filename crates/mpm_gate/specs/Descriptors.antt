-- The descriptor of a memory segment, as replies have it. (MP/M II Programmer's Guide, "Function 128: Absolute Memory Request",
-- "Function 154: Return Address of System Data Page".)
use Rattle.std.specs.Prelude.{ℕ, List, [], ◌∷◌}
use Rattle.mpm_banks.specs.Memory.{Memory, segment_of}

-- its base page and its pages, attributes, which are 80h, and its bank
abbrev pub segment_descriptor : Memory → ℕ → List ℕ
segment_descriptor memory seg = (segment_of memory seg).base ∷ (segment_of memory seg).pages ∷ 128 ∷ seg ∷ []
