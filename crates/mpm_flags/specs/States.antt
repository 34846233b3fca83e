-- The 32 flags: each is clear, set, or has the process that waits for it. (MP/M II Programmer's Guide, "Function 132: Flag
-- Wait", "Function 133: Flag Set".)
use Rattle.std.specs.Prelude.{ℕ, List, map, replicate, slice_index_or, slice_set, ◌==◌, if◌then◌else◌}
use Rattle.mpm_flags.specs.declared.flags.Flag.{Flag}
use Rattle.mpm_flags.specs.declared.flags.Flag.TheVariants.{Clear, Set, Waits}
use Rattle.mpm_flags.specs.declared.flags.FlagWait.{FlagWait}
use Rattle.mpm_flags.specs.declared.flags.FlagWait.TheVariants.{Passed, Waits as Begins, Underrun}
use Rattle.mpm_flags.specs.declared.flags.FlagSet.{FlagSet}
use Rattle.mpm_flags.specs.declared.flags.FlagSet.TheVariants.{Set as IsSet, Woke, Overrun}

-- all are clear
unfoldable pub no_flags : List Flag
no_flags = replicate 32 Clear

-- a flag by its number
abbrev pub flag_at : List Flag → ℕ → Flag
flag_at flags flag = slice_index_or flags flag Clear

-- a process waits for a flag: a set one is cleared and lets it pass, at a clear one it waits, as it does where it waited
-- already, and where another waits it doesn't
abbrev pub waited_for : ℕ → Flag → Flag
waited_for p Clear = Waits p
waited_for p Set = Clear
waited_for p (Waits other) = Waits other

abbrev pub wait_answer : ℕ → Flag → FlagWait
wait_answer p Clear = Begins
wait_answer p Set = Passed
wait_answer p (Waits other) = if other == p then Begins else Underrun

-- a flag is set: who waits for it is woken and it stays clear, and one that is set already stays so
abbrev pub after_set : Flag → Flag
after_set Clear = Set
after_set Set = Set
after_set (Waits p) = Clear

abbrev pub set_answer : Flag → FlagSet
set_answer Clear = IsSet
set_answer Set = Overrun
set_answer (Waits p) = Woke p

-- the flags with one changed
abbrev pub with_flag : List Flag → ℕ → Flag → List Flag
with_flag flags flag state = slice_set flags flag state

-- a process waits for a flag no more
abbrev pub without_waiter : ℕ → Flag → Flag
without_waiter p Clear = Clear
without_waiter p Set = Set
without_waiter p (Waits other) = if other == p then Clear else (Waits other)

unfoldable pub flags_without_waiter : List Flag → ℕ → List Flag
flags_without_waiter flags p = map (without_waiter p) flags
