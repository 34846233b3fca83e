-- Moved code has its length, and its bytes are those of the code, each with the page added where its bit is 1.
use Rattle.std.proofs.Common.{◌≡◌, ℕ, ◌+◌, ◌%◌, ◌<◌, List, length, get_or, true, false, arith, ◌∙◌}
use Rattle.std.proofs.lemmas.List.FromFn.{length-map-range_with_len, get_or-map-range_with_len}
use Rattle.mpm_prl.specs.Relocation.{is_marked, relocated, relocated_byte}

pub length_relocated : (code bits : List ℕ) (page : ℕ) → length (relocated code bits page) ≡ length code
unfolding relocated
length_relocated code bits page = length-map-range_with_len (relocated_byte code bits page) 0 (length code)

pub byte_relocated : (code bits : List ℕ) (page place : ℕ) → place < length code → get_or (relocated code bits page) place 0 ≡ relocated_byte code bits page place
unfolding relocated
byte_relocated code bits page place h = get_or-map-range_with_len (relocated_byte code bits page) 0 (length code) place place 0 h (omega arith)

pub byte_marked : (code bits : List ℕ) (page place : ℕ) → place < length code → is_marked bits place ≡ true → get_or (relocated code bits page) place 0 ≡ (get_or code place 0 + page) % 256
byte_marked code bits page place h marked = byte_relocated code bits page place h ∙ rw marked

pub byte_unmarked : (code bits : List ℕ) (page place : ℕ) → place < length code → is_marked bits place ≡ false → get_or (relocated code bits page) place 0 ≡ get_or code place 0
byte_unmarked code bits page place h marked = byte_relocated code bits page place h ∙ rw marked
