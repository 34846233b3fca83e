-- Words as they are read and written, and the numbers of a map that is written as they are read back.
use Rattle.std.proofs.Common.{◌≡◌, ℕ, zero, suc, ◌+◌, ◌*◌, ◌/◌, ◌%◌, ◌<◌, Bool, true, false, List, [], ◌∷◌, ◌++◌, length, get_or, take, drop, map, replicate, refl, sym, ap, ◌∙◌, arith}
use Rattle.std.specs.List.{range_with_len, flat_map}
use Rattle.std.proofs.lemmas.List.{get_or-drop, get_or-replicate, take_all}
use Rattle.std.proofs.lemmas.List.FromFn.{fill_by_all}
use Rattle.std.proofs.lemmas.List.Concat.{flat_map-cons}
use Rattle.byteorder.specs.Endian.{IsRead, little_number, little_bytes}
use Rattle.mpm_dirent.specs.Entries.{word_at, blocks_of, map_of}
use Rattle.mpm_base.specs.Words.{word_bytes}
use Rattle.mpm_dirent.specs.Proper.{MapFits}

-- a list of a known length, element by element
abbrev pub spread : List ℕ → ℕ → List ℕ
spread xs n = map (λ k. get_or xs k 0) (range_with_len 0 n)

pub spread_is : (xs : List ℕ) (n : ℕ) → length xs ≡ n → spread xs n ≡ xs
spread_is xs n h = sym (fill_by_all (λ k. get_or xs k 0) xs n 0 h (λ k _. refl))

-- words that are read

number_of_two : (xs : List ℕ) → little_number 2 xs ≡ get_or xs 0 0 + 256 * get_or xs 1 0
number_of_two xs = omega arith

word_read : (bytes : List ℕ) (k : ℕ) → little_number 2 (drop (2 * k) bytes) ≡ word_at bytes k
word_read bytes k =
    let low : get_or (drop (2 * k) bytes) 0 0 ≡ get_or bytes (2 * k) 0 = get_or-drop (2 * k) bytes 0 0 ∙ ap (λ n. get_or bytes n 0) (omega arith) in
    let high : get_or (drop (2 * k) bytes) 1 0 ≡ get_or bytes (2 * k + 1) 0 = get_or-drop (2 * k) bytes 1 0 in
    number_of_two (drop (2 * k) bytes) ∙ ap (λ n. n + 256 * get_or (drop (2 * k) bytes) 1 0) low ∙ ap (λ n. get_or bytes (2 * k) 0 + 256 * n) high

pub words_read : (bytes words : List ℕ) → length words ≡ 8 → IsRead (λ n xs. little_number n xs) 2 bytes words → words ≡ map (word_at bytes) (range_with_len 0 8)
words_read bytes words size read = fill_by_all (word_at bytes) words 8 0 size (λ k h. read k (omega arith) ∙ word_read bytes k)

-- words that are written

two_bytes : (word : ℕ) → word < 65536 → little_bytes 2 word ≡ word_bytes word
two_bytes word h = ap (λ (high : ℕ). word % 256 ∷ high ∷ []) (omega arith)

pub words_written : (n : ℕ) (words : List ℕ) → ((k : ℕ) → get_or words k 0 < 65536) → flat_map (λ word. little_bytes 2 word) (take n words) ≡ flat_map word_bytes (take n words)
words_written zero words fit = refl
words_written (suc n) [] fit = refl
words_written (suc n) (word ∷ words) fit =
    flat_map-cons (λ w. little_bytes 2 w) word (take n words)
    ∙ ap (λ bytes. bytes ++ flat_map (λ w. little_bytes 2 w) (take n words)) (two_bytes word (fit 0))
    ∙ ap (λ bytes. word_bytes word ++ bytes) (words_written n words (λ k. fit (suc k)))
    ∙ sym (flat_map-cons word_bytes word (take n words))

-- a map that is written and read

again : ℕ → ℕ
again word = word % 256 + 256 * (word / 256)

again_each : (f : ℕ → ℕ) (ks : List ℕ) → map (λ k. again (f k)) ks ≡ map f ks
unfolding again
again_each f [] = refl
again_each f (k ∷ ks) =
    ap (λ (word : ℕ). word ∷ map (λ k. again (f k)) ks) (omega arith) ∙ ap (λ words. f k ∷ words) (again_each f ks)

words_spread : (blocks : List ℕ) → blocks_of (take 16 (map_of (spread blocks 16) true)) true ≡ map (λ k. again (get_or blocks k 0)) (range_with_len 0 8) ++ replicate 8 0
unfolding blocks_of map_of again
words_spread blocks = refl

zeros_spread : (blocks : List ℕ) → MapFits true blocks → replicate 8 0 ≡ map (λ k. get_or blocks (8 + k) 0) (range_with_len 0 8)
zeros_spread blocks fits =
    fill_by_all (λ k. get_or blocks (8 + k) 0) (replicate 8 0) 8 0 refl (λ k h. get_or-replicate 8 k 0 0 h ∙ sym (fits (8 + k) (omega arith) (omega arith)))

-- the numbers of a map that is written are read back
pub blocks_back : (wide : Bool) (blocks : List ℕ) → length blocks ≡ 16 → MapFits wide blocks → blocks_of (take 16 (map_of blocks wide)) wide ≡ blocks
unfolding blocks_of map_of
blocks_back false blocks size fits = take_all 16 blocks (omega arith)
blocks_back true blocks size fits =
    ap (λ b. blocks_of (take 16 (map_of b true)) true) (sym (spread_is blocks 16 size))
    ∙ words_spread blocks
    ∙ ap (λ words. words ++ replicate 8 0) (again_each (λ k. get_or blocks k 0) (range_with_len 0 8))
    ∙ ap (λ zeros. spread blocks 8 ++ zeros) (zeros_spread blocks fits)
    ∙ spread_is blocks 16 size
