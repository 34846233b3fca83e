-- Worked examples of the spooler's table.
use Rattle.std.proofs.Common.{◌≡◌, ◌∷◌, [], refl, List, ℕ}
use Rattle.std.specs.Prelude.{codes, ⊤}
use Rattle.mpm_base.specs.Lists.{in_width}
use Rattle.mpm_base.specs.Calls.{Answer, answering}
use Rattle.mpm_spool.specs.Spoolers.{opening, next_call, begun_next, took, after, called}
use Rattle.mpm_spool.proofs.examples.Lists.{lists, message}

unfoldable pub spooling : ⊤
unfolding lists opening next_call begun_next took after called
spooling = tt

abbrev pub with_bytes : List ℕ → Answer
with_bytes bytes = record (answering 0) { bytes = bytes }

abbrev pub only_record : Answer
only_record = with_bytes (in_width 128 (65 ∷ 66 ∷ 10 ∷ 26 ∷ []))

abbrev pub empty_record : Answer
empty_record = with_bytes (in_width 128 (26 ∷ []))

-- a file of one record `AB`, LF, 1Ah, which is deleted: 137, 15, 158, 138, 20, three times 5, 159, 16, 19, and 137 again
pub prints_one : called (answering 0 ∷ answering 0 ∷ answering 0 ∷ answering 0 ∷ answering 0 ∷ answering 0 ∷ only_record ∷ answering 255 ∷ answering 0 ∷ answering 0 ∷ with_bytes (message (codes " a.txt[d]")) ∷ [])
    ≡ 137 ∷ 19 ∷ 16 ∷ 159 ∷ 5 ∷ 5 ∷ 5 ∷ 20 ∷ 138 ∷ 158 ∷ 15 ∷ 137 ∷ []
unfolding spooling
prints_one = refl

-- a message on the stop queue: the file is closed and stays, and the rest of the list isn't opened
pub stops : called (answering 0 ∷ answering 0 ∷ answering 0 ∷ answering 0 ∷ answering 0 ∷ with_bytes (message (codes " a.txt[d],b.txt")) ∷ [])
    ≡ 137 ∷ 16 ∷ 159 ∷ 138 ∷ 158 ∷ 15 ∷ 137 ∷ []
unfolding spooling
stops = refl

-- a list with a star is none
pub no_list : called (with_bytes (message (codes " *.txt")) ∷ []) ≡ 137 ∷ 137 ∷ []
unfolding spooling
no_list = refl

-- a record that begins with 1Ah prints nothing; without a printer the file is closed, and so is one that can't be read to its end, and neither is
-- deleted
pub empty_text : called (empty_record ∷ answering 255 ∷ answering 0 ∷ answering 0 ∷ with_bytes (message (codes " a.txt")) ∷ [])
    ≡ 159 ∷ 20 ∷ 138 ∷ 158 ∷ 15 ∷ 137 ∷ []
unfolding spooling
empty_text = refl

pub no_printer : called (answering 0 ∷ answering 255 ∷ answering 0 ∷ with_bytes (message (codes " a.txt[d]")) ∷ []) ≡ 137 ∷ 16 ∷ 158 ∷ 15 ∷ 137 ∷ []
unfolding spooling
no_printer = refl

pub bad_record : called (answering 0 ∷ answering 0 ∷ answering 0x07FF ∷ answering 255 ∷ answering 0 ∷ answering 0 ∷ with_bytes (message (codes " a.txt[d]")) ∷ [])
    ≡ 137 ∷ 16 ∷ 159 ∷ 20 ∷ 138 ∷ 158 ∷ 15 ∷ 137 ∷ []
unfolding spooling
bad_record = refl

-- a file that can't be read to its end stays, and the one after it in the list is printed and deleted
pub after_unprinted : called (answering 0 ∷ answering 0 ∷ empty_record ∷ answering 255 ∷ answering 0 ∷ answering 0 ∷ answering 0 ∷ answering 0 ∷ answering 0x07FF ∷ answering 255 ∷ answering 0 ∷ answering 0 ∷ with_bytes (message (codes " a.txt[d],b.txt[d]")) ∷ [])
    ≡ 19 ∷ 16 ∷ 159 ∷ 20 ∷ 138 ∷ 158 ∷ 15 ∷ 16 ∷ 159 ∷ 20 ∷ 138 ∷ 158 ∷ 15 ∷ 137 ∷ []
unfolding spooling
after_unprinted = refl
