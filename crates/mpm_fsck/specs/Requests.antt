-- What the words after the program's name ask.
use Rattle.std.specs.Prelude.{◌≡◌, ℕ, List, [], ◌∷◌, Option, Some, None, map, codes, bytes_eq, String, string_bytes, if◌then◌else◌}
use Rattle.std.specs.declared.alloc.Global.{Global}
use Rattle.mpm_base.specs.declared.kind.Kind.{Kind}
use Rattle.mpm_base.specs.declared.kind.Kind.TheVariants.{Ibm3740, Hd4, Hd8}

-- to check the image of a name, or to free the slots of one that a list names
pub data Request : Type 0 where
  Check : Kind → List ℕ → Request
  Apply : Kind → List ℕ → List ℕ → Request

-- the words as their bytes
abbrev pub texts : List (String Global) → List (List ℕ)
texts words = map string_bytes words

-- the kind of disk that a word says
abbrev pub kind_of : List ℕ → Option Kind
kind_of word =
    if bytes_eq word (codes "ibm3740") then Some Ibm3740
    else (if bytes_eq word (codes "hd4") then Some Hd4 else (if bytes_eq word (codes "hd8") then Some Hd8 else None))

-- of an image, and of one and a list; a name isn't empty
unfoldable pub check_of : Option Kind → List ℕ → Option Request
check_of None image = None
check_of (Some kind) [] = None
check_of (Some kind) (byte ∷ image) = Some (Check kind (byte ∷ image))

unfoldable pub apply_of : Option Kind → List ℕ → List ℕ → Option Request
apply_of None image list = None
apply_of (Some kind) [] list = None
apply_of (Some kind) (byte ∷ image) [] = None
apply_of (Some kind) (byte ∷ image) (first ∷ list) = Some (Apply kind (byte ∷ image) (first ∷ list))

-- by the first word
abbrev pub check_by : List ℕ → Option Kind → List ℕ → Option Request
check_by word kind image = if bytes_eq word (codes "check") then check_of kind image else None

abbrev pub apply_by : List ℕ → Option Kind → List ℕ → List ℕ → Option Request
apply_by word kind image list = if bytes_eq word (codes "apply") then apply_of kind image list else None

-- `check KIND IMAGE` or `apply KIND IMAGE LIST`; None where the words have neither form
unfoldable pub request_of : List (List ℕ) → Option Request
request_of [] = None
request_of (word ∷ []) = None
request_of (word ∷ kind ∷ []) = None
request_of (word ∷ kind ∷ image ∷ []) = check_by word (kind_of kind) image
request_of (word ∷ kind ∷ image ∷ list ∷ []) = apply_by word (kind_of kind) image list
request_of (word ∷ kind ∷ image ∷ list ∷ more ∷ rest) = None

-- words ask what a kind makes of them, or nothing
abbrev pub AsksByKind : Option Request → (Kind → Request) → Option Kind → Type 0
AsksByKind request of None = request ≡ None
AsksByKind request of (Some kind) = request ≡ Some (of kind)
