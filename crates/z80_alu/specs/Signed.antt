-- Bytes and words as signed numbers. (UM0080, "Parity/Overflow Flag".)
use Rattle.std.specs.Prelude.{ℕ, ℤ, pos, negsuc, ◌-ℤ◌, ◌<ℤ◌, ◌⊎◌, nat_lt, if◌then◌else◌}

-- a byte of 128 or more is negative, 256 less
abbrev pub signed : ℕ → ℤ
signed byte = if nat_lt byte 128 then pos byte else (pos byte -ℤ pos 256)

-- a word of 32,768 or more is negative, 65,536 less
abbrev pub signed_word : ℕ → ℤ
signed_word word = if nat_lt word 32768 then pos word else (pos word -ℤ pos 65536)

-- outside -128 to 127
abbrev pub IsOutsideByte : ℤ → Type 0
IsOutsideByte number = (number <ℤ negsuc 127) ⊎ (pos 127 <ℤ number)

-- outside -32,768 to 32,767
abbrev pub IsOutsideWord : ℤ → Type 0
IsOutsideWord number = (number <ℤ negsuc 32767) ⊎ (pos 32767 <ℤ number)
