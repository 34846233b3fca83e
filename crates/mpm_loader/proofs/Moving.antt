-- Code that is moved in two parts, each by its own marks, is moved as it is in one, where the first part has eight bytes for
-- each byte of its marks.
use Rattle.std.proofs.Common.{◌≡◌, ℕ, zero, suc, ◌+◌, ◌-◌, ◌*◌, ◌/◌, ◌%◌, ◌^◌, ◌<◌, List, ◌++◌, length, get_or, refl, ap, sym, ◌∙◌, arith, length-append}
use Rattle.std.specs.Prelude.{◌==◌, if◌then◌else◌}
use Rattle.std.proofs.lemmas.List.{ext_get_or, get_or_append_left, get_or-append-add}
use Rattle.mpm_prl.specs.Relocation.{relocated, relocated_byte}
use Rattle.mpm_prl.proofs.Laws.{length_relocated, byte_relocated}

-- a byte of code at a page, by the byte of the marks in which its bit is, and the place of its bit there
abbrev pub moved : ℕ → ℕ → ℕ → ℕ → ℕ
moved mark bit byte page = if mark / 2 ^ (7 - bit) % 2 == 1 then (byte + page) % 256 else byte

byte_of_first : (one next marks more : List ℕ) (page place : ℕ) → length one ≡ 8 * length marks → place < length one → relocated_byte (one ++ next) (marks ++ more) page place ≡ relocated_byte one marks page place
byte_of_first one next marks more page place same below =
    ap (λ (mark : ℕ). moved mark (place % 8) (get_or (one ++ next) place 0) page) (get_or_append_left marks more 0 (place / 8) (omega arith))
    ∙ ap (λ (byte : ℕ). moved (get_or marks (place / 8) 0) (place % 8) byte page) (get_or_append_left one next 0 place below)

byte_of_second : (one next marks more : List ℕ) (page place : ℕ) → length one ≡ 8 * length marks → relocated_byte (one ++ next) (marks ++ more) page (length one + place) ≡ relocated_byte next more page place
byte_of_second one next marks more page place same =
    let at : (length one + place) / 8 ≡ length marks + place / 8 = omega arith in
    let bit : (length one + place) % 8 ≡ place % 8 = omega arith in
    ap (λ (n : ℕ). moved (get_or (marks ++ more) n 0) ((length one + place) % 8) (get_or (one ++ next) (length one + place) 0) page) at
    ∙ ap (λ (n : ℕ). moved (get_or (marks ++ more) (length marks + place / 8) 0) n (get_or (one ++ next) (length one + place) 0) page) bit
    ∙ ap (λ (mark : ℕ). moved mark (place % 8) (get_or (one ++ next) (length one + place) 0) page) (get_or-append-add marks more (place / 8) 0)
    ∙ ap (λ (byte : ℕ). moved (get_or more (place / 8) 0) (place % 8) byte page) (get_or-append-add one next place 0)

byte_of_two : (left : ℕ) (one next marks more : List ℕ) (page i : ℕ) → length one - i ≡ left → length one ≡ 8 * length marks → i < length one + length next
    → get_or (relocated (one ++ next) (marks ++ more) page) i 0 ≡ get_or (relocated one marks page ++ relocated next more page) i 0
byte_of_two zero one next marks more page i is same below =
    let place = i - length one in
    let e : i ≡ length one + (i - length one) = omega arith in
    let back : length (relocated one marks page) + (i - length one) ≡ i = omega (arith, length_relocated one marks page) in
    ap (λ (n : ℕ). get_or (relocated (one ++ next) (marks ++ more) page) n 0) e
    ∙ byte_relocated (one ++ next) (marks ++ more) page (length one + place) (omega (arith, length-append one next))
    ∙ byte_of_second one next marks more page place same
    ∙ sym (byte_relocated next more page place (omega arith))
    ∙ sym (get_or-append-add (relocated one marks page) (relocated next more page) place 0)
    ∙ ap (λ (n : ℕ). get_or (relocated one marks page ++ relocated next more page) n 0) back
byte_of_two (suc left) one next marks more page i is same below =
    byte_relocated (one ++ next) (marks ++ more) page i (omega (arith, length-append one next))
    ∙ byte_of_first one next marks more page i same (omega arith)
    ∙ sym (byte_relocated one marks page i (omega arith))
    ∙ sym (get_or_append_left (relocated one marks page) (relocated next more page) 0 i (omega (arith, length_relocated one marks page)))

pub moved_in_two : (one next marks more : List ℕ) (page : ℕ) → length one ≡ 8 * length marks → relocated (one ++ next) (marks ++ more) page ≡ relocated one marks page ++ relocated next more page
moved_in_two one next marks more page same =
    let whole = length_relocated (one ++ next) (marks ++ more) page in
    let size : length (relocated (one ++ next) (marks ++ more) page) ≡ length (relocated one marks page ++ relocated next more page) =
    omega (arith, whole, length-append one next, length-append (relocated one marks page) (relocated next more page), length_relocated one marks page, length_relocated next more page) in
    ext_get_or 0 (relocated (one ++ next) (marks ++ more) page) (relocated one marks page ++ relocated next more page) size
    (λ i h. byte_of_two (length one - i) one next marks more page i refl same (omega (arith, whole, length-append one next)))
