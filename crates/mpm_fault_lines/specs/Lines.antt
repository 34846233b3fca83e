-- What is written of an image that was checked: a line for each entry at fault, or one line with a number.
use Rattle.std.specs.Prelude.{ℕ, List, [], ◌∷◌, ◌++◌, Option, Some, None, codes, decimal}
use Rattle.std.specs.List.{flat_map}
use Rattle.mpm_lines.specs.Lines.{field, number_line}
use Rattle.mpm_fault_lines.specs.declared.fault.SlotFault.{SlotFault}

-- the slot with which an entry clashes, or `-`
abbrev pub other_text : Option ℕ → List ℕ
other_text None = codes "-"
other_text (Some slot) = decimal slot

-- `fault SLOT CAUSE OTHER` and LF
abbrev pub line_of : SlotFault → List ℕ
line_of fault = codes "fault" ++ (field (decimal fault.slot) ++ (field (decimal fault.cause) ++ (field (other_text fault.other) ++ (10 ∷ []))))

unfoldable pub list_text : List SlotFault → List ℕ
list_text faults = flat_map line_of faults

-- `sound N`: no entry is at fault, and so many records are free
abbrev pub sound_line : ℕ → List ℕ
sound_line records = number_line (codes "sound") records

-- `freed N`: so many slots were freed
abbrev pub freed_line : ℕ → List ℕ
freed_line slots = number_line (codes "freed") slots
