-- How long what an interpreter fills in is: the base page has 256 bytes, as the tail of a command has 127 at most.
use Rattle.std.proofs.Common.{◌≡◌, ◌∙◌, ℕ, zero, suc, ◌-◌, ◌≤◌, ◌==◌, ◌||◌, not, List, [], ◌∷◌, ◌++◌, length, take, drop, Option, Some, None, refl, sym, ap, arith, length-append, length-drop, length-take}
use Rattle.std.specs.List.{prefix_len}
use Rattle.std.proofs.lemmas.List.{length-map}
use Rattle.std.proofs.lemmas.List.FromFn.{length-map-range_with_len}
use Rattle.std.specs.Char.{to_ascii_uppercase}
use Rattle.mpm_base.specs.Lists.{zeros}
use Rattle.mpm_base.proofs.Choices.{either}
use Rattle.mpm_base.proofs.Widths.{length_in_width}
use Rattle.mpm_base.proofs.Lists.{length_zeros}
use Rattle.mpm_names.specs.Spellings.{Spelling, spelling, is_form, star_of, kept_at, filled, meaning, parsed}
use Rattle.mpm_names.specs.declared.file_name.Parsed.{Parsed}
use Rattle.mpm_command.specs.Texts.{first_word, second_word}
use Rattle.mpm_command.specs.Commands.{text_of, tail_in, command_in, command_or_none}
use Rattle.mpm_command.specs.declared.command.Command.{Command}
use Rattle.mpm_command.specs.BasePages.{gate_jumps, block_named, block_or_none, block_of, upper_tail, tail_bytes, base_page}
use Rattle.mpm_command.proofs.Naming.{is_no_name}
use Rattle.mpm_residents.specs.Interpreters.{message_in}

-- a file control block as it stands in a base page has sixteen bytes

filled_size : (width star : ℕ) (field : List ℕ) → length (filled width star field) ≡ width
unfolding filled
filled_size width star field = length-map-range_with_len (kept_at field star) 0 width

named_size : (size : ℕ) (s : Spelling) → length (block_named (meaning size s)) ≡ 16
named_size size s =
    let name = filled 8 (star_of s.name) s.name in
    let kind = filled 3 (star_of s.kind) s.kind in
    omega (arith, length-append (name ++ kind) (0 ∷ 0 ∷ 0 ∷ 0 ∷ []), length-append name kind, filled_size 8 (star_of s.name) s.name, filled_size 3 (star_of s.kind) s.kind)

block_size : (word : List ℕ) → length (block_of word) ≡ 16
unfolding parsed
block_size word =
    let s = spelling word in
    either (λ (name : Option Parsed). length (block_or_none name) ≡ 16) (is_form s) (Some (meaning (length word) s)) None (λ _. named_size (length word) s) (λ _. refl)

tail_size : (tail : List ℕ) → length tail ≤ 127 → length (tail_bytes tail) ≡ 128
tail_size tail few =
    let rest = drop (length tail) (zeros 127) in
    let upper : length (upper_tail tail) ≡ length (tail ++ rest) = length-map (tail ++ rest) to_ascii_uppercase in
    omega (arith, few, upper, length-append tail rest, length-drop (length tail) (zeros 127), length_zeros 127)

pub base_page_size : (page : ℕ) (tail : List ℕ) → length tail ≤ 127 → length (base_page page tail) ≡ 256
unfolding base_page
base_page_size page tail few =
    let one = block_of (first_word tail) in
    let two = block_of (second_word tail) in
    let last = zeros 4 ++ tail_bytes tail in
    omega (
      arith,
      length-append (gate_jumps page) (zeros 84 ++ (one ++ (two ++ last))),
      length-append (zeros 84) (one ++ (two ++ last)),
      length-append one (two ++ last),
      length-append two last,
      length-append (zeros 4) (tail_bytes tail),
      length_zeros 84,
      length_zeros 4,
      block_size (first_word tail),
      block_size (second_word tail),
      tail_size tail few,
    )

-- a command has a name, so that its tail is shorter than its text, which follows two bytes of a message of 130

pub message_size : (bytes : List ℕ) → length (message_in bytes) ≡ 130
message_size bytes = length_in_width 130 bytes

text_size : (message : List ℕ) → length (text_of message) ≤ length message - 2
unfolding text_of
text_size message =
    let bytes = drop 2 message in
    omega (arith, length-take (prefix_len (λ byte. not (byte == 0 || byte == 13)) bytes) bytes, length-drop 2 message)

tail_by : (n : ℕ) (message text : List ℕ) (command : Command) → command_or_none message (parsed (take n text)) ≡ Some command → length text ≤ 128 → length (drop n text) ≤ 127
tail_by zero message text command is few = absurd (nobody (sym is ∙ ap (command_or_none message) is_no_name)) where
  nobody : Some command ≡ None → ⊥
  nobody e = absurd (cc)
tail_by (suc n) message text command is few = omega (arith, length-drop (suc n) text, few)

pub tail_few : (message : List ℕ) (command : Command) → length message ≡ 130 → command_in message ≡ Some command → length (tail_in message) ≤ 127
unfolding command_in tail_in
tail_few message command size is =
    let text = text_of message in
    tail_by (prefix_len (λ byte. not (byte == 32)) text) message text command is (omega (arith, text_size message, size))
