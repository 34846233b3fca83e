-- A list that was written is read back as its slots.
use Rattle.std.proofs.Common.{◌≡◌, ℕ, suc, ◌+◌, ◌*◌, ◌/◌, ◌%◌, ◌<◌, ◌≤◌, ◌==◌, Bool, true, false, ◌&&◌, not, List, [], ◌∷◌, ◌++◌, map, length, take, drop, Option, Some, None, Ok, cond, refl, sym, ap, subst, ◌∙◌, arith, eq-eqb}
use Rattle.std.specs.Prelude.{nat_le, nat_lt, codes, decimal, bytes_eq, IfSome, if◌then◌else◌}
use Rattle.std.specs.List.{All, list_all, range_with_len, position_or_len, flat_map}
use Rattle.std.specs.Char.{is_ascii_digit}
use Rattle.std.proofs.Math.Bool.{or-true}
use Rattle.std.proofs.lemmas.Bool.{and_parts, eqb-true, ltb-false}
use Rattle.std.proofs.lemmas.List.FromFn.{length-range_with_len, get_or-range_with_len}
use Rattle.std.proofs.lemmas.List.Elements.{All-nil, All-cons, All-head, All-tail, All-get_or}
use Rattle.std.proofs.lemmas.Fmt.{decimal_digit, decimal_step}
use Rattle.std.proofs.lemmas.List.Sums.{AllPass-from_list_all}
use Rattle.std.proofs.lemmas.Bool.Decides.{nat_tests}
use Rattle.std.proofs.lemmas.List.{append_assoc, length-append, append-nil, take_at}
use Rattle.std.proofs.lemmas.List.Folds.{list_all-append}
use Rattle.std.proofs.lemmas.List.Splits.{slice_split_at, length-slice_split}
use Rattle.mpm_script.specs.Numbers.{value_from, is_plain, decimal_of, number_of}
use Rattle.mpm_script.specs.Events.{word, behind}
use Rattle.mpm_fault_lines.specs.declared.fault.SlotFault.{SlotFault}
use Rattle.mpm_fault_lines.specs.Lines.{other_text, line_of, list_text}
use Rattle.mpm_fault_lines.specs.Lists.{is_cause, is_other, is_reason, slot_of_line, parts_of, slots_of}
use Rattle.mpm_fault_lines.proofs.ListLaws.{unless_bad, slots_from, slots_are, from_end, line_before}

-- all bytes of a text are above one
abbrev are_above : ℕ → List ℕ → Bool
are_above stop text = list_all (nat_le (stop + 1)) text

other_byte : (stop byte : ℕ) → nat_le (stop + 1) byte ≡ true → (byte == stop) ≡ false
other_byte stop byte above = grind (arith, nat_tests)

position_at : (stop : ℕ) (xs ys : List ℕ) → are_above stop xs ≡ true → position_or_len (λ byte. byte == stop) (xs ++ (stop ∷ ys)) ≡ length xs
position_at stop [] ys above = ap (λ b. cond (not b) (1 + position_or_len (λ byte. byte == stop) ys) 0) (eq-eqb stop stop refl)
position_at stop (x ∷ xs) ys above =
    let parts = and_parts (nat_le (stop + 1) x) (are_above stop xs) above in
    let one_more : 1 + length xs ≡ suc (length xs) = omega arith in
    ap (λ b. cond (not b) (1 + position_or_len (λ byte. byte == stop) (xs ++ (stop ∷ ys))) 0) (other_byte stop x parts.0)
    ∙ ap (λ (n : ℕ). 1 + n) (position_at stop xs ys parts.1)
    ∙ one_more

drop_after : (xs ys : List ℕ) (stop : ℕ) → drop (length xs + 1) (xs ++ (stop ∷ ys)) ≡ ys
drop_after [] ys stop = refl
drop_after (x ∷ xs) ys stop =
    let one_more : suc (length xs) + 1 ≡ suc (length xs + 1) = omega arith in
    ap (λ (n : ℕ). drop n (x ∷ (xs ++ (stop ∷ ys)))) one_more ∙ drop_after xs ys stop

first_word : (xs ys : List ℕ) → are_above 32 xs ≡ true → word (xs ++ (32 ∷ ys)) ≡ xs
first_word xs ys above = ap (λ (n : ℕ). take n (xs ++ (32 ∷ ys))) (position_at 32 xs ys above) ∙ take_at xs (32 ∷ ys) (length xs) refl

after_word : (xs ys : List ℕ) → are_above 32 xs ≡ true → behind (xs ++ (32 ∷ ys)) ≡ ys
after_word xs ys above = ap (λ (n : ℕ). drop (n + 1) (xs ++ (32 ∷ ys))) (position_at 32 xs ys above) ∙ drop_after xs ys 32

none_stop : (stop : ℕ) (xs : List ℕ) → are_above stop xs ≡ true → All (λ byte. (byte == stop) ≡ false) xs
none_stop stop [] above = All-nil (λ byte. (byte == stop) ≡ false)
none_stop stop (x ∷ xs) above =
    let parts = and_parts (nat_le (stop + 1) x) (are_above stop xs) above in
    All-cons (λ byte. (byte == stop) ≡ false) x xs (other_byte stop x parts.0) (none_stop stop xs parts.1)

-- the tests of numbers
le_test : (n most : ℕ) → n ≤ most → nat_le n most ≡ true
le_test n most h = grind (arith, nat_tests)

at_most : (n most : ℕ) → nat_le n most ≡ true → n ≤ most
at_most n most h = grind (arith, nat_tests)

less_from : (n bound : ℕ) → nat_lt n bound ≡ true → n < bound
less_from n bound h = grind (arith, nat_tests)

-- a number below 1000 in decimal digits
one_digit : ℕ → List ℕ
one_digit n = (48 + n) ∷ []

two_digits : ℕ → List ℕ
two_digits n = (48 + n / 10) ∷ (48 + n % 10) ∷ []

three_digits : ℕ → List ℕ
three_digits n = (48 + n / 10 / 10) ∷ (48 + n / 10 % 10) ∷ (48 + n % 10) ∷ []

few_digits : ℕ → List ℕ
few_digits n = if nat_lt n 10 then one_digit n else (if nat_lt n 100 then two_digits n else three_digits n)

two_are : (n : ℕ) → 10 ≤ n → n < 100 → decimal n ≡ two_digits n
unfolding two_digits
two_are n low high = decimal_step n low (omega (arith, high)) ∙ ap (λ front. front ++ ((48 + n % 10) ∷ [])) (decimal_digit (n / 10) (omega (arith, high)))

three_are : (n : ℕ) → 100 ≤ n → n < 1000 → decimal n ≡ three_digits n
unfolding three_digits two_digits
three_are n low high =
    decimal_step n (omega (arith, low)) (omega (arith, high)) ∙ ap (λ front. front ++ ((48 + n % 10) ∷ [])) (two_are (n / 10) (omega (arith, low)) (omega (arith, high)))

digits_by : (n : ℕ) (first second : Bool) → nat_lt n 10 ≡ first → nat_lt n 100 ≡ second → n < 1000 → decimal n ≡ (if first then one_digit n else (if second then two_digits n else three_digits n))
unfolding one_digit
digits_by n true second first-is second-is small = decimal_digit n (less_from n 10 first-is)
digits_by n false true first-is second-is small = two_are n (ltb-false n 10 first-is) (less_from n 100 second-is)
digits_by n false false first-is second-is small = three_are n (ltb-false n 100 second-is) small

digits_are : (n : ℕ) → n < 1000 → decimal n ≡ few_digits n
unfolding few_digits
digits_are n small = digits_by n (nat_lt n 10) (nat_lt n 100) refl refl small

-- a number below 512: at most three digits, which stand for it
is_written : ℕ → List ℕ → Bool
is_written n text = is_plain text && (list_all is_ascii_digit text && ((value_from 0 text == n) && (are_above 32 text && (are_above 10 text && nat_le (length text) 3))))

all_written : list_all (λ n. is_written n (few_digits n)) (range_with_len 0 512) ≡ true
unfolding is_written value_from is_plain few_digits one_digit two_digits three_digits
all_written = refl

record IsWritten (n : ℕ) : Type 0 where
  plain : is_plain (decimal n) ≡ true
  digits : list_all is_ascii_digit (decimal n) ≡ true
  value : value_from 0 (decimal n) ≡ n
  words : are_above 32 (decimal n) ≡ true
  lines : are_above 10 (decimal n) ≡ true
  short : length (decimal n) ≤ 3

small_is_written : (n : ℕ) → n < 512 → is_written n (decimal n) ≡ true
small_is_written n small =
    let P : ℕ → Type 0 = λ k. is_written k (few_digits k) ≡ true in
    let size : n < length (range_with_len 0 512) = omega (arith, length-range_with_len 0 512, small) in
    let same : 0 + n ≡ n = omega arith in
    ap (is_written n) (digits_are n (omega (arith, small)))
    ∙ subst P (get_or-range_with_len 0 512 n 0 small ∙ same) (All-get_or P (range_with_len 0 512) n 0 size (AllPass-from_list_all (λ k. is_written k (few_digits k)) (range_with_len 0 512) all_written))

written : (n : ℕ) → n < 512 → IsWritten n
unfolding is_written
written n small =
    let all = small_is_written n small in
    let a = and_parts (is_plain (decimal n)) _ all in
    let b = and_parts (list_all is_ascii_digit (decimal n)) _ a.1 in
    let c = and_parts (value_from 0 (decimal n) == n) _ b.1 in
    let d = and_parts (are_above 32 (decimal n)) _ c.1 in
    let e = and_parts (are_above 10 (decimal n)) _ d.1 in
    record {
      plain = a.0;
      digits = b.0;
      value = eqb-true (value_from 0 (decimal n)) n c.0;
      words = d.0;
      lines = e.0;
      short = at_most (length (decimal n)) 3 e.1;
    }

number_read : (last n : ℕ) → n < 512 → n ≤ last → number_of last (decimal n) ≡ Some n
unfolding number_of decimal_of
number_read last n small within =
    let w = written n small in
    let low : nat_le n last ≡ true = grind (arith, nat_tests) in
    rw (w.plain, w.digits, w.value, low) refl

-- a fault that may stand in a directory with this last slot
pub record IsListable (last : ℕ) (fault : SlotFault) : Type 0 where
  pub slot : fault.slot ≤ last
  pub low : 2 ≤ fault.cause
  pub high : fault.cause ≤ 8
  pub other : IfSome fault.other (λ slot. slot ≤ last)

-- its line up to a further text
line_with : SlotFault → List ℕ → List ℕ
line_with fault rest = codes "fault " ++ (decimal fault.slot ++ (32 ∷ (decimal fault.cause ++ (32 ∷ (other_text fault.other ++ rest)))))

line_more : (fault : SlotFault) (xs ys : List ℕ) → line_with fault xs ++ ys ≡ line_with fault (xs ++ ys)
unfolding line_with
line_more fault xs ys =
    ap (λ zs. codes "fault " ++ zs)
    (append_assoc (decimal fault.slot) (32 ∷ (decimal fault.cause ++ (32 ∷ (other_text fault.other ++ xs)))) ys
    ∙ ap (λ zs. decimal fault.slot ++ (32 ∷ zs)) (append_assoc (decimal fault.cause) (32 ∷ (other_text fault.other ++ xs)) ys
    ∙ ap (λ zs. decimal fault.cause ++ (32 ∷ zs)) (append_assoc (other_text fault.other) xs ys)))

line_is : (fault : SlotFault) → line_of fault ≡ line_with fault (10 ∷ [])
unfolding line_with
line_is fault = refl

-- the last word
other_read : (last : ℕ) (other : Option ℕ) → last < 512 → IfSome other (λ slot. slot ≤ last) → is_other last (other_text other) ≡ true
other_read last None small within = refl
other_read last (Some slot) small within = let read = number_read last slot (omega arith) within in rw read (or-true (bytes_eq (decimal slot) (codes "-")))

-- a line is read as its slot
reason_read : (last : ℕ) (fault : SlotFault) → last < 512 → IsListable last fault → is_reason last (decimal fault.cause ++ (32 ∷ (other_text fault.other ++ []))) ≡ true
unfolding is_reason
reason_read last fault small listable =
    let rest = other_text fault.other ++ [] in
    let cause = written fault.cause (omega (arith, listable.high)) in
    let read = number_read 8 fault.cause (omega (arith, listable.high)) listable.high in
    let low : nat_le 2 fault.cause ≡ true = le_test 2 fault.cause listable.low in
    let other : is_other last rest ≡ true = ap (is_other last) (append-nil (other_text fault.other)) ∙ other_read last fault.other small listable.other in
    ap (λ text. is_cause (number_of 8 text) && is_other last (behind (decimal fault.cause ++ (32 ∷ rest)))) (first_word (decimal fault.cause) rest cause.words)
    ∙ ap (λ text. is_cause (number_of 8 (decimal fault.cause)) && is_other last text) (after_word (decimal fault.cause) rest cause.words)
    ∙ rw (read, low, other) refl

line_read : (last : ℕ) (fault : SlotFault) → last < 512 → IsListable last fault → slot_of_line last (line_with fault []) ≡ Some fault.slot
unfolding slot_of_line line_with
line_read last fault small listable =
    let rest = decimal fault.cause ++ (32 ∷ (other_text fault.other ++ [])) in
    let slot = written fault.slot (omega (arith, listable.slot, small)) in
    let first : word (codes "fault " ++ (decimal fault.slot ++ (32 ∷ rest))) ≡ codes "fault" = first_word (codes "fault") (decimal fault.slot ++ (32 ∷ rest)) refl in
    let after : behind (codes "fault " ++ (decimal fault.slot ++ (32 ∷ rest))) ≡ decimal fault.slot ++ (32 ∷ rest) = after_word (codes "fault") (decimal fault.slot ++ (32 ∷ rest)) refl in
    let P : List ℕ → List ℕ → Option ℕ = λ line words. if bytes_eq line (codes "fault") && is_reason last (behind words) then number_of last (word words) else None in
    ap (λ line. P line (behind (codes "fault " ++ (decimal fault.slot ++ (32 ∷ rest))))) first
    ∙ ap (λ words. P (codes "fault") words) after
    ∙ ap (λ words. if is_reason last words then number_of last (word (decimal fault.slot ++ (32 ∷ rest))) else None) (after_word (decimal fault.slot) rest slot.words)
    ∙ ap (λ (b : Bool). if b then number_of last (word (decimal fault.slot ++ (32 ∷ rest))) else None) (reason_read last fault small listable)
    ∙ ap (number_of last) (first_word (decimal fault.slot) rest slot.words)
    ∙ number_read last fault.slot (omega (arith, listable.slot, small)) listable.slot

-- it has no LF
other_lines : (last : ℕ) (other : Option ℕ) → last < 512 → IfSome other (λ slot. slot ≤ last) → are_above 10 (other_text other) ≡ true
other_lines last None small within = refl
other_lines last (Some slot) small within = (written slot (omega (arith, within, small))).lines

join_above : (xs ys : List ℕ) → are_above 10 xs ≡ true → are_above 10 ys ≡ true → are_above 10 (xs ++ ys) ≡ true
join_above xs ys first second = list_all-append (nat_le 11) xs ys ∙ rw (first, second) refl

line_above : (last : ℕ) (fault : SlotFault) → last < 512 → IsListable last fault → are_above 10 (line_with fault []) ≡ true
unfolding line_with
line_above last fault small listable =
    let slot = written fault.slot (omega (arith, listable.slot, small)) in
    let cause = written fault.cause (omega (arith, listable.high)) in
    join_above (decimal fault.slot) (32 ∷ (decimal fault.cause ++ (32 ∷ (other_text fault.other ++ [])))) slot.lines
    (join_above (decimal fault.cause) (32 ∷ (other_text fault.other ++ [])) cause.lines
    (join_above (other_text fault.other) [] (other_lines last fault.other small listable.other) refl))

-- the first line of a list is a part of its text
text_parts : (last : ℕ) (fault : SlotFault) (faults : List SlotFault) → last < 512 → IsListable last fault → parts_of (list_text (fault ∷ faults)) ≡ line_with fault [] ∷ parts_of (list_text faults)
unfolding list_text
text_parts last fault faults small listable =
    let rest = flat_map line_of faults in
    ap (λ line. parts_of (line ++ rest)) (line_is fault)
    ∙ ap parts_of (line_more fault (10 ∷ []) rest ∙ sym (line_more fault [] (10 ∷ rest)))
    ∙ slice_split_at (λ byte. byte == 10) (line_with fault []) 10 rest (none_stop 10 (line_with fault []) (line_above last fault small listable)) refl

parts_some : (text : List ℕ) → 0 < length (parts_of text)
parts_some text = omega (arith, length-slice_split (λ byte. byte == 10) text)

read_from : (last number : ℕ) (earlier : List ℕ) (faults : List SlotFault) → last < 512 → All (IsListable last) faults
    → slots_from last number earlier (parts_of (list_text faults)) ≡ Ok (earlier ++ map (λ fault. fault.slot) faults)
unfolding list_text
read_from last number earlier [] small each = from_end last number earlier [] refl ∙ ap (λ slots. Ok slots) (sym (append-nil earlier))
read_from last number earlier (fault ∷ faults) small each =
    let slot = fault.slot in
    let first = All-head (IsListable last) fault faults each in
    let more = All-tail (IsListable last) fault faults each in
    ap (slots_from last number earlier) (text_parts last fault faults small first)
    ∙ line_before last number earlier (line_with fault []) (parts_of (list_text faults)) (parts_some (list_text faults))
    ∙ ap (unless_bad number (λ one. slots_from last (number + 1) (earlier ++ (one ∷ [])) (parts_of (list_text faults)))) (line_read last fault small first)
    ∙ read_from last (number + 1) (earlier ++ (slot ∷ [])) faults small more
    ∙ ap (λ slots. Ok slots) (append_assoc earlier (slot ∷ []) (map (λ fault. fault.slot) faults))

-- a list that was written is read back as its slots
pub read_back : (last : ℕ) (faults : List SlotFault) → last < 512 → All (IsListable last) faults → slots_of last (list_text faults) ≡ Ok (map (λ fault. fault.slot) faults)
read_back last faults small each = slots_are last (list_text faults) ∙ read_from last 1 [] faults small each

-- its length
other_short : (last : ℕ) (other : Option ℕ) → last < 512 → IfSome other (λ slot. slot ≤ last) → length (other_text other) ≤ 3
other_short last None small within = omega arith
other_short last (Some slot) small within = (written slot (omega (arith, within, small))).short

line_short : (last : ℕ) (fault : SlotFault) → last < 512 → IsListable last fault → length (line_of fault) ≤ 18
line_short last fault small listable =
    let slot = (written fault.slot (omega (arith, listable.slot, small))).short in
    let cause = (written fault.cause (omega (arith, listable.high))).short in
    let other = other_short last fault.other small listable.other in
    let tail = other_text fault.other ++ (10 ∷ []) in
    let one = length-append (other_text fault.other) (10 ∷ []) in
    let two = length-append (decimal fault.cause) (32 ∷ tail) in
    let three = length-append (decimal fault.slot) (32 ∷ (decimal fault.cause ++ (32 ∷ tail))) in
    omega (arith, slot, cause, other, one, two, three)

pub text_short : (last : ℕ) (faults : List SlotFault) → last < 512 → All (IsListable last) faults → length (list_text faults) ≤ 18 * length faults
unfolding list_text
text_short last [] small each = omega arith
text_short last (fault ∷ faults) small each =
    omega (arith, line_short last fault small (All-head (IsListable last) fault faults each), text_short last faults small (All-tail (IsListable last) fault faults each), length-append (line_of fault) (flat_map line_of faults))
