-- What is so of open files and locks at any time stays so with each call, and an item stays live with those that don't close it.
use Rattle.std.proofs.Common.{◌≡◌, ℕ, Bool, true, false, if◌then◌else◌, Some, sym, refl, subst}
use Rattle.std.specs.Prelude.{IsSome, nat_lt}
use Rattle.mpm_opens.specs.declared.kinds.FileKey.{FileKey}
use Rattle.mpm_opens.specs.Kinds.{is_file}
use Rattle.mpm_opens.specs.Items.{place_at, with_changed, closed_once, that_wrote}
use Rattle.mpm_opens.specs.Locks.{is_lock_on}
use Rattle.mpm_opens.specs.Opens.{OpenFiles, IsLive, item_of, process_of, file_of, given_back, closed_at, written_at, locked, unlocked, AreOpen, HasNoted}
use Rattle.mpm_opens.proofs.ItemLaws.{stands_within, at_same, at_other}
use Rattle.mpm_opens.proofs.OpeningLaws.{live_stands}
use Rattle.mpm_opens.proofs.LeavingLaws.{more_than_one}
use Rattle.mpm_opens.proofs.OpenLaws.{with_item, closed_is_same, with_written, locks_freed, open_given_back, open_locked}

pub sound_given_back : (opens : OpenFiles) (p : ℕ) (among : FileKey → Bool) → AreOpen opens → AreOpen (given_back opens p among)
unfolding given_back
sound_given_back opens p among sound = open_given_back opens.items opens.locks p among sound

pub sound_closed : (opens : OpenFiles) (number : ℕ) → AreOpen opens → IsLive opens number → AreOpen (closed_at opens number)
unfolding closed_at
sound_closed opens number sound live = by_count (nat_lt 1 (item_of opens number).count) refl
  where
    by_count : (b : Bool) → nat_lt 1 (item_of opens number).count ≡ b
        → AreOpen (if b then record opens { items = with_changed closed_once opens.items number } else (given_back opens (process_of opens number) (is_file (file_of opens number))))
    by_count true e =
        with_item opens.items opens.locks number (closed_once (item_of opens number)) live (closed_is_same (item_of opens number) (more_than_one (item_of opens number).count e)) sound
    by_count false e = sound_given_back opens (process_of opens number) (is_file (file_of opens number)) sound

pub sound_written : (opens : OpenFiles) (number : ℕ) → AreOpen opens → IsLive opens number → AreOpen (written_at opens number)
unfolding written_at
sound_written opens number sound live = with_written opens.items opens.locks number live sound

pub live_written : (opens : OpenFiles) (number : ℕ) → IsLive opens number → IsLive (written_at opens number) number
unfolding written_at
live_written opens number live =
    let is = live_stands (place_at opens.items number) live in
    subst IsSome (sym (at_same opens.items number (Some (that_wrote (item_of opens number))) (stands_within opens.items number (item_of opens number) is))) refl

-- that it wrote is noted of one item
pub notes : (opens : OpenFiles) (number : ℕ) → IsLive opens number → HasNoted number opens (written_at opens number)
unfolding written_at
notes opens number live =
    let item = item_of opens number in
    record {
      others = λ k apart. at_other opens.items number k (Some (that_wrote item)) apart;
      noted = at_same opens.items number (Some (that_wrote item)) (stands_within opens.items number item (live_stands (place_at opens.items number) live));
      locks = refl;
    }

pub sound_locked : (opens : OpenFiles) (item number : ℕ) → AreOpen opens → IsLive opens item → AreOpen (locked opens (process_of opens item) (file_of opens item) number)
unfolding locked
sound_locked opens item number sound live = open_locked opens.items opens.locks item number live sound

pub live_locked : (opens : OpenFiles) (item p : ℕ) (file : FileKey) (number : ℕ) → IsLive opens item → IsLive (locked opens p file number) item
unfolding locked
live_locked opens item p file number live = live

pub sound_unlocked : (opens : OpenFiles) (p : ℕ) (file : FileKey) (number : ℕ) → AreOpen opens → AreOpen (unlocked opens p file number)
unfolding unlocked
sound_unlocked opens p file number sound = locks_freed opens.items opens.locks p (is_lock_on file number) sound

pub live_unlocked : (opens : OpenFiles) (item p : ℕ) (file : FileKey) (number : ℕ) → IsLive opens item → IsLive (unlocked opens p file number) item
unfolding unlocked
live_unlocked opens item p file number live = live
