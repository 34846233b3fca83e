-- What is read lies within the limits.
use Rattle.std.proofs.Common.{◌≡◌, ◌≢◌, ℕ, ℤ, pos, negsuc, ◌≤◌, Bool, true, false, ◌&&◌, ◌==◌, nat_le, if◌then◌else◌, List, [], ◌∷◌, length, Option, Some, None, refl, sym, ◌∙◌, subst, inl, inr, arith}
use Rattle.std.specs.Prelude.{option_map, IfSome}
use Rattle.std.specs.List.{AllByRecursion}
use Rattle.std.specs.Option.{option_map_or}
use Rattle.std.proofs.lemmas.Bool.{cases_Bool, false≢true}
use Rattle.std.proofs.lemmas.Bool.Decides.{nat_tests}
use Rattle.std.proofs.lemmas.Option.{none-some, cond_some, same_Some}
use Rattle.std.proofs.lemmas.Str.{IsUtf8-from_is_utf8, is_utf8-from_IsUtf8}
use Rattle.std.specs.Prelude.{IsUtf8}
use Rattle.std.specs.Str.{is_utf8}
use Rattle.toml.specs.Data.{Data, Items, no_items, item, Members, get_member, as_integer, as_str}
use Rattle.toml.specs.Parse.{parse_document}
use Rattle.mpm_script.specs.Numbers.{◌>>=◌}
use Rattle.mpm_script.proofs.Finds.{bind_some}
use Rattle.mpm_machine_file.specs.Fields.{within, number_of, named, text_of, number_at, number_or, text_at, text_if, all_of, counted}
use Rattle.mpm_machine_file.specs.MachineFiles.{document_of}

-- a number between two limits
abbrev pub IsBetween : ℕ → ℕ → ℕ → Type 0
IsBetween least greatest n = (least ≤ n) × (n ≤ greatest)

pub between_test : (least greatest m n : ℕ) → (nat_le least m && nat_le m greatest) ≡ true → m ≡ n → IsBetween least greatest n
between_test least greatest m n test same = (grind (arith, nat_tests), grind (arith, nat_tests))

within_limits : (least greatest : ℕ) (z : ℤ) (n : ℕ) → within least greatest z ≡ Some n → IsBetween least greatest n
within_limits least greatest (pos m) n e =
    let found = cond_some (nat_le least m && nat_le m greatest) m n e in between_test least greatest m n found.0 found.1
within_limits least greatest (negsuc m) n e = absurd (none-some n e)

number_of_limits : (least greatest : ℕ) (value : Data) (n : ℕ) → number_of least greatest value ≡ Some n → IsBetween least greatest n
number_of_limits least greatest value n e =
    let found = bind_some (as_integer value) (within least greatest) n e in within_limits least greatest found.0 n found.2

pub number_at_limits : (key : List ℕ) (least greatest : ℕ) (table : Members) (n : ℕ) → number_at key least greatest table ≡ Some n → IsBetween least greatest n
unfolding number_at
number_at_limits key least greatest table n e =
    let found = bind_some (get_member key table) (number_of least greatest) n e in number_of_limits least greatest found.0 n found.2

number_if : (missing least greatest : ℕ) (found : Option Data) (n : ℕ) → IsBetween least greatest missing → option_map_or (number_of least greatest) found (Some missing) ≡ Some n → IsBetween least greatest n
number_if missing least greatest None n fits e = subst (IsBetween least greatest) (same_Some missing n e) fits
number_if missing least greatest (Some value) n fits e = number_of_limits least greatest value n e

pub number_or_limits : (key : List ℕ) (missing least greatest : ℕ) (table : Members) (n : ℕ) → IsBetween least greatest missing → number_or key missing least greatest table ≡ Some n → IsBetween least greatest n
unfolding number_or
number_or_limits key missing least greatest table n fits e = number_if missing least greatest (get_member key table) n fits e

else_some : {A : Type 0} (test : Bool) (x y : A) → (if test then None else Some x) ≡ Some y → (test ≡ false) × (x ≡ y)
else_some true x y e = absurd (none-some y e)
else_some false x y e = (refl, same_Some x y e)

named_limits : (text name : List ℕ) → named text ≡ Some name → name ≢ []
named_limits text name e empty =
    let found = else_some (length text == 0) text name e in
    let some : (length text == 0) ≡ false = found.0 in
    let none : (length text == 0) ≡ true = rw (found.1 ∙ empty) refl in
    false≢true (sym some ∙ none)

text_of_limits : (value : Data) (name : List ℕ) → text_of value ≡ Some name → name ≢ []
text_of_limits value name e = let found = bind_some (as_str value) named name e in named_limits found.0 name found.2

pub text_at_limits : (key : List ℕ) (table : Members) (name : List ℕ) → text_at key table ≡ Some name → name ≢ []
unfolding text_at
text_at_limits key table name e = let found = bind_some (get_member key table) text_of name e in text_of_limits found.0 name found.2

named_if : (found : Option Data) (script : Option (List ℕ)) → option_map_or (λ value. option_map Some (text_of value)) found (Some None) ≡ Some script → IfSome script (λ name. name ≢ [])
named_if None script e = subst (λ s. IfSome s (λ name. name ≢ [])) (same_Some None script e) tt
named_if (Some value) script e = mapped (text_of value) (text_of_limits value) script e
  where
    mapped : (text : Option (List ℕ)) → ((name : List ℕ) → text ≡ Some name → name ≢ []) → (script : Option (List ℕ)) → option_map Some text ≡ Some script → IfSome script (λ name. name ≢ [])
    mapped None each script e = absurd (none-some script e)
    mapped (Some name) each script e = subst (λ s. IfSome s (λ name. name ≢ [])) (same_Some (Some name) script e) (each name refl)

pub text_if_limits : (key : List ℕ) (table : Members) (script : Option (List ℕ)) → text_if key table ≡ Some script → IfSome script (λ name. name ≢ [])
unfolding text_if
text_if_limits key table script e = named_if (get_member key table) script e

-- what holds of each value that is read holds of all
pub all_of_each : {A : Type 0} (P : A → Type 0) (read : Data → Option A) → ((value : Data) (x : A) → read value ≡ Some x → P x) → (items : Items) (xs : List A) → all_of read items ≡ Some xs → AllByRecursion P xs
all_of_each P read each no_items xs e = subst (AllByRecursion P) (same_Some [] xs e) tt
all_of_each P read each (item value rest) xs e =
    let first = bind_some (read value) (λ x. all_of read rest >>= (λ others. Some (x ∷ others))) xs e in
    let others = bind_some (all_of read rest) (λ others. Some (first.0 ∷ others)) xs first.2 in
    subst (AllByRecursion P) (same_Some (first.0 ∷ others.0) xs others.2) (each value first.0 first.1, all_of_each P read each rest others.0 others.1)

pub counted_limits : {A : Type 0} (least greatest : ℕ) (xs ys : List A) → counted least greatest xs ≡ Some ys → (xs ≡ ys) × IsBetween least greatest (length xs)
counted_limits least greatest xs ys e =
    let found = cond_some (nat_le least (length xs) && nat_le (length xs) greatest) xs ys e in
    (found.1, between_test least greatest (length xs) (length xs) found.0 refl)

pub is_document : (text : List ℕ) (table : Members) → IsUtf8 text → parse_document text ≡ Some table → document_of text ≡ Some table
unfolding document_of
is_document text table utf8 parsed = rw (is_utf8-from_IsUtf8 text utf8) parsed

pub no_document : (text : List ℕ) → (IsUtf8 text → parse_document text ≡ None) → document_of text ≡ None
unfolding document_of
no_document text refused = elim (cases_Bool (is_utf8 text)) [ inl good ↦ rw good (refused (IsUtf8-from_is_utf8 text good)) | inr bad ↦ rw bad ]
