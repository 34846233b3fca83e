-- Where in a program's file its code is, and how much memory it takes. (MP/M II System Guide, "Page Relocatable Programs";
-- Programmer's Guide, "Transient Programs".)
use Rattle.std.specs.Prelude.{◌≡◌, ℕ, ◌+◌, ◌*◌, ◌/◌, ◌≤◌, ◌<◌, ◌==◌, ◌||◌, nat_lt, if◌then◌else◌, List, length, Option, Some, None}
use Rattle.mpm_prl.specs.Relocation.{word_at}
use Rattle.mpm_loader.specs.declared.plan.Plan.{Plan}

-- a page relocatable program: its code follows a header of 256 bytes, and after it a bit for each byte
unfoldable pub relocatable_plan : ℕ → ℕ → Plan
relocatable_plan length extra = record { start = 256; length = length; room = length + extra; bits = (length + 7) / 8 }

-- that of a file by its first records: the length of its code is the word at 1, what it wants after the code the word at 4;
-- none where there aren't two records, or where there is no code
unfoldable pub plan_of : List ℕ → Option Plan
plan_of records =
    if nat_lt (length records) 256 || word_at records 1 == 0 then None
    else Some (relocatable_plan (word_at records 1) (word_at records 4))

-- a program for page 0: its file is its code
unfoldable pub absolute_plan : ℕ → Plan
absolute_plan records = record { start = 0; length = 128 * records; room = 128 * records; bits = 0 }

-- the pages that its code and what it wants after it take with 128 bytes for its stack, the base page and the last page
unfoldable pub pages_of : Plan → ℕ
pages_of plan = (plan.room + 128 + 255) / 256 + 2

-- where the code ends and its bits begin, and where the last bits end: what follows doesn't count
abbrev pub code_end : Plan → ℕ
code_end plan = plan.start + plan.length

abbrev pub all_bytes : Plan → ℕ
all_bytes plan = plan.start + plan.length + plan.bits

-- what a header or a file's size can ask for, and no more bytes of bits than the code has use for
pub record IsPlan (plan : Plan) : Type 0 where
  pub start : plan.start ≤ 256
  pub within : plan.length ≤ plan.room
  pub room : plan.room ≤ 2147483520
  pub few : plan.bits ≤ 8192
  pub marks : 8 * plan.bits < plan.length + 8

-- it is that plan, and a header or a file's size can ask for it
pub record HasPlan (plan result : Plan) : Type 0 where
  pub plan_is : result ≡ plan
  pub bounds : IsPlan result

-- after the base page it fits into so many pages, with 128 bytes for its stack, before the last page
pub record FitsIn (plan : Plan) (pages : ℕ) : Type 0 where
  pub behind_base : 3 ≤ pages
  pub before_last : plan.length + 640 ≤ 256 * pages
