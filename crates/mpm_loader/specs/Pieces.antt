-- A program's file as it comes in pieces: what of a piece is code, and what marks code. (MP/M II System Guide, "Page
-- Relocatable Programs".)
use Rattle.std.specs.Prelude.{◌≡◌, ℕ, ◌+◌, ◌-◌, ◌*◌, ◌≤◌, ◌<◌, Bool, nat_le, Option, Some, None, List, [], length, take, drop, min}
use Rattle.mpm_loader.specs.Plans.{code_end, all_bytes, plan_of, absolute_plan}
use Rattle.mpm_loader.specs.declared.plan.Plan.{Plan}

-- the bytes of a piece that stand between two places of the file, where so many bytes of it stand before the piece
unfoldable pub part : ℕ → ℕ → ℕ → List ℕ → List ℕ
part before low high piece = drop (low - before) (take (high - before) piece)

-- these are bytes of some, no more than they are
pub record IsCut (cut bytes result : List ℕ) : Type 0 where
  pub bytes_are : result ≡ cut
  pub size : length result ≤ length bytes

-- these are bytes of a piece, at most 2,048
pub record IsPiece (bytes result : List ℕ) : Type 0 where
  pub bytes_are : result ≡ bytes
  pub few : length result ≤ 2048

-- a file as it comes in: its plan, how many bytes of it came before the piece, and the piece
pub record Loading : Type 0 where
  pub plan : Plan
  pub before : ℕ
  pub piece : List ℕ

-- the code of the piece, and at which byte of the code it begins
abbrev pub code_in : Loading → List ℕ
code_in l = part l.before l.plan.start (code_end l.plan) l.piece

abbrev pub code_place : Loading → ℕ
code_place l = l.before - l.plan.start

-- what of the piece marks code, eight bytes of code a byte; the first byte of code that it marks, and how many
abbrev pub marks_in : Loading → List ℕ
marks_in l = part l.before (code_end l.plan) (all_bytes l.plan) l.piece

abbrev pub marked_place : Loading → ℕ
marked_place l = 8 * (l.before - code_end l.plan)

abbrev pub marked_length : Loading → ℕ
marked_length l = min (8 * length (marks_in l)) (l.plan.length - marked_place l)

-- whether nothing that counts is left to be read
abbrev pub has_all : Loading → Bool
has_all l = nat_le (all_bytes l.plan) (l.before + length l.piece)

-- once the next piece came
unfoldable pub with_piece : List ℕ → Loading → Loading
with_piece piece l = record l { before = l.before + length l.piece; piece = piece }

-- some bytes of code from a place on are bytes of code
abbrev pub IsWithinCode : Plan → ℕ → ℕ → Type 0
IsWithinCode plan place count = 0 < count → place + count ≤ plan.length

-- a page relocatable program by its first piece
abbrev pub with_first : List ℕ → Option Plan → Option Loading
with_first piece None = None
with_first piece (Some plan) = Some (record { plan = plan; before = 0; piece = piece })

unfoldable pub begun : List ℕ → Option Loading
begun piece = with_first piece (plan_of piece)

-- nothing is loaded
unfoldable pub nothing : Loading
nothing = record { plan = absolute_plan 0; before = 0; piece = [] }
