-- Files and drives as file calls find them: between two calls that the disk serves, or within one. What stands for them: what is kept
-- of file calls, the directories in memory, and the images. (MP/M II Programmer's Guide, "BDOS Function Calls"; the service in turns is
-- this project's own.)
use Rattle.std.specs.Prelude.{◌≡◌, ⊤, ℕ, suc, ◌+◌, ◌-◌, ◌<◌, ◌&&◌, not, Bool, false, List, Option, Some, None, map, filter, nat_lt, slice_index_or, if◌then◌else◌}
use Rattle.std.specs.List.{enumerate_from}
use Rattle.mpm_port.specs.Disks.{Disks}
use Rattle.mpm_opens.specs.declared.kinds.Item.{Item}
use Rattle.mpm_opens.specs.Items.{has_item}
use Rattle.mpm_mount.specs.Drives.{Drive}
use Rattle.mpm_service.specs.Disk.{DiskService, is_last_step}
use Rattle.mpm_service.specs.declared.service.Served.{Served}
use Rattle.mpm_refusals.specs.Filing.{Filing, Situation}
use Rattle.mpm_bdos.specs.Jobs.{call_turns}
use Rattle.mpm_bdos.specs.Outcomes.{drives_after}
use Rattle.mpm_bdos.specs.Serving.{Kept, StandEach, Serves, filing_of}
use Rattle.mpm_bdos.specs.Turns.{images_of}

-- no call is in service, or one is, in the situation in which it entered: of what it found nothing changes until its last turn is over
pub data FilesInService : Type 0 where
  Between : Filing → FilesInService
  Within : Situation → FilesInService

abbrev pub filing_in : FilesInService → Filing
filing_in (Between filing) = filing
filing_in (Within s) = s.filing

-- the drives for which the images stand: where a call is in service, what its first turns have made of those that it found
abbrev pub turns_ended : Served → Situation → ℕ
turns_ended call s = call_turns s - call.left

unfoldable pub drives_in : Option Served → FilesInService → List (Option Drive)
drives_in served (Between filing) = filing.drives
drives_in None (Within s) = s.filing.drives
drives_in (Some call) (Within s) = drives_after s (turns_ended call s)

-- between two calls what is kept, and the directory in memory of each mounted drive and its image, as it is known, stand for what file
-- calls find
pub record StandsBetween (kept : Kept) (disks : Disks) (filing : Filing) : Type 0 where
  pub idle : kept.service ≡ None
  pub filing_is : filing_of kept filing.drives ≡ filing
  pub stand : StandEach (images_of disks) kept.mounted filing.drives

-- within a call with so many turns ended they stand for its drives after these, and its work is that of its job, with the others left
pub record StandsWithin (call : Served) (kept : Kept) (disks : Disks) (s : Situation) : Type 0 where
  pub turns : ℕ
  pub left : turns + call.left ≡ call_turns s
  pub some : 0 < call.left
  pub whose : call.p ≡ s.caller.process
  pub serves : Serves (images_of disks) kept s turns

-- so they stand by the call that the disk serves, if it serves one
abbrev pub StandsServed : Option Served → Kept → Disks → FilesInService → Type 0
StandsServed None kept disks (Between filing) = StandsBetween kept disks filing
StandsServed None kept disks (Within s) = ⊥
StandsServed (Some call) kept disks (Between filing) = ⊥
StandsServed (Some call) kept disks (Within s) = StandsWithin call kept disks s

-- files are within a call where the disk serves one, and else between two
abbrev pub AreWithin : Option Served → FilesInService → Type 0
AreWithin None (Between filing) = ⊤
AreWithin None (Within s) = ⊥
AreWithin (Some call) (Between filing) = ⊥
AreWithin (Some call) (Within s) = ⊤

-- of the disk this looks at the call in service alone: whoever comes to wait or leaves, it stays
pub record StandsForFiles (disk : DiskService) (kept : Kept) (disks : Disks) (files : FilesInService) : Type 0 where
  pub stands : StandsServed disk.served kept disks files

-- so they stand within a step as the turn's work was done whose last step this is: of one turn more
abbrev pub one_more : Bool → ℕ → ℕ
one_more more turns = if more then suc turns else turns

pub record HasWorked (turn_steps : ℕ) (call : Served) (kept : Kept) (disks : Disks) (s : Situation) : Type 0 where
  pub turns : ℕ
  pub left : turns + call.left ≡ call_turns s
  pub some : 0 < call.left
  pub whose : call.p ≡ s.caller.process
  pub serves : Serves (images_of disks) kept s (one_more (is_last_step turn_steps call) turns)

abbrev pub StandsWorkedBy : ℕ → Option Served → Kept → Disks → FilesInService → Type 0
StandsWorkedBy turn_steps None kept disks (Between filing) = StandsBetween kept disks filing
StandsWorkedBy turn_steps None kept disks (Within s) = ⊥
StandsWorkedBy turn_steps (Some call) kept disks (Between filing) = ⊥
StandsWorkedBy turn_steps (Some call) kept disks (Within s) = HasWorked turn_steps call kept disks s

pub record StandsWorked (disk : DiskService) (kept : Kept) (disks : Disks) (files : FilesInService) : Type 0 where
  pub stands : StandsWorkedBy disk.turn_steps disk.served kept disks files

-- a place of an item, unless the item's process is gone; and of each process what is listed, unless it is
abbrev pub place_unless : (ℕ → Bool) → Option Item → Option Item
place_unless gone place = if has_item (λ item. gone item.process) place then None else place

abbrev pub each_unless : {X : Type 0} → (ℕ → Bool) → X → List X → List X
each_unless gone none xs = map (λ e. if gone e.0 then none else e.1) (enumerate_from 0 xs)

-- all that was open, locked, marked and searched for stays, but what those had who are gone
unfoldable pub left_where : (ℕ → Bool) → Filing → Filing
left_where gone filing = record filing {
  opens = record { items = map (place_unless gone) filing.opens.items; locks = filter (λ lock. not (gone lock.owner)) filing.opens.locks };
  marks = each_unless gone 0 filing.marks;
  searches = each_unless gone None filing.searches;
}

-- the processes that ended and owe it give back what they had open and marked, and their searches end
abbrev pub owes : List Bool → ℕ → Bool
owes owed p = slice_index_or owed p false

unfoldable pub all_left : List Bool → Filing → Filing
all_left owed filing = left_where (λ p. nat_lt p 32 && owes owed p) filing

-- those who owe it do so where no call is in service
abbrev pub given_back : List Bool → FilesInService → FilesInService
given_back owed (Between filing) = Between (all_left owed filing)
given_back owed (Within s) = Within s
