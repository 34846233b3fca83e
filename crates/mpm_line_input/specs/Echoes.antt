-- The echo of a key that is read by itself. (MP/M II Programmer's Guide, "Function 1: Console Input".)
use Rattle.std.specs.Prelude.{ℕ, Bool, ◌==◌, ◌&&◌, ◌||◌, nat_le, List, [], ◌∷◌, replicate, if◌then◌else◌}
use Rattle.mpm_base.specs.Tabs.{tab_width}

-- a printed character, CR, LF, BS and a tab are echoed
abbrev pub is_echoed : ℕ → Bool
is_echoed key = (nat_le 32 key && nat_le key 126) || key == 13 || key == 10 || key == 8 || key == 9

-- what is written for a key at a column: a tab is spaces
unfoldable pub key_echo : ℕ → ℕ → List ℕ
key_echo key column =
    if key == 9 then replicate (tab_width column) 32 else (if is_echoed key then key ∷ [] else [])
