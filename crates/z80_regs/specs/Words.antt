-- Addresses and words of 16 bits, low byte first, as whole numbers; the refresh register. (UM0080, "CPU Registers".)
use Rattle.std.specs.Prelude.{ℕ, ◌+◌, ◌-◌, ◌*◌, ◌/◌, ◌%◌}

-- the address n further on; after FFFFh comes 0000h
abbrev pub onward : ℕ → ℕ → ℕ
onward address n = (address + n) % 65536

-- the address n further back; before 0000h comes FFFFh
abbrev pub back : ℕ → ℕ → ℕ
back address n = (address + (65536 - n)) % 65536

-- the word of two bytes
abbrev pub word_of : ℕ → ℕ → ℕ
word_of low high = low + 256 * high

-- the word at an address, low byte first
abbrev pub word_from : (ℕ → ℕ) → ℕ → ℕ
word_from memory address = word_of (memory address) (memory (onward address 1))

-- its low byte
abbrev pub low : ℕ → ℕ
low word = word % 256

-- its high byte
abbrev pub high : ℕ → ℕ
high word = word / 256

-- the refresh register one on: its low seven bits count, bit 7 stays
abbrev pub refreshed : ℕ → ℕ
refreshed r = r / 128 * 128 + (r + 1) % 128
