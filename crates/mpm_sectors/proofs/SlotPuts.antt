-- A sector that was read, and written with one entry or two of its slots replaced.
use Rattle.std.proofs.Common.{◌≡◌, ℕ, ◌/◌, ◌%◌, Bool, List, [], ◌∷◌, Result, ap, subst}
use Rattle.mpm_base.specs.declared.kind.Kind.{Kind}
use Rattle.mpm_blocks.specs.Geometries.{geometry_of}
use Rattle.mpm_blocks.specs.Sectors.{sectors_of, with_slot}
use Rattle.mpm_dirent.specs.declared.kinds.Entry.{Entry}
use Rattle.mpm_dirent.specs.Entries.{bytes_of}
use Rattle.mpm_port.specs.Disks.{Disks}
use Rattle.mpm_sectors.specs.Slots.{slot_bytes, laid_over, bytes_over, with_entry, slot_write, slots_write}
use Rattle.mpm_sectors.specs.Writes.{Write, Puts}

-- what was written is that write, and a read changes no image
puts_as : {A E : Type 0} (drive : ℕ) (kind : Kind) (one other : Write) (old read now : Disks) (result : Result A E) → read ≡ old → one ≡ other
    → Puts drive kind (one ∷ []) read now result → Puts drive kind (other ∷ []) old now result
puts_as drive kind one other old read now result same is puts =
    subst (λ (d : Disks). Puts drive kind (other ∷ []) d now result) same (subst (λ (w : Write). Puts drive kind (w ∷ []) read now result) is puts)

-- an entry is put by its bytes
pub put_by_bytes : (wide : Bool) (sector bytes : List ℕ) (place : ℕ) (entry : Entry) → bytes ≡ bytes_of entry wide
    → with_slot sector place (laid_over (slot_bytes sector place) entry bytes) ≡ with_entry wide sector place entry
unfolding with_entry bytes_over
put_by_bytes wide sector bytes place entry is = ap (λ (b : List ℕ). with_slot sector place (laid_over (slot_bytes sector place) entry b)) is

pub slot_put : {A E : Type 0} (drive : ℕ) (kind : Kind) (image : List ℕ) (slot first second : ℕ) (entry : Entry) (wide : Bool) (before after : List ℕ) (old read now : Disks) (result : Result A E)
    → read ≡ old → first ≡ slot / 4 → second ≡ slot / 4 → wide ≡ (geometry_of kind).wide → before ≡ sectors_of image kind first → after ≡ with_entry wide before (slot % 4) entry
    → Puts drive kind (record { sector = second; bytes = after } ∷ []) read now result → Puts drive kind (slot_write kind image slot entry ∷ []) old now result
slot_put drive kind image slot first second entry wide before after old read now result same at_first at_second width was is =
    puts_as drive kind _ _ old read now result same (cc)

pub slots_put : {A E : Type 0} (drive : ℕ) (kind : Kind) (image : List ℕ) (slot first second other_slot : ℕ) (entry other : Entry) (wide : Bool) (before between after : List ℕ) (old read now : Disks) (result : Result A E)
    → read ≡ old → first ≡ slot / 4 → second ≡ slot / 4 → wide ≡ (geometry_of kind).wide → before ≡ sectors_of image kind first → between ≡ with_entry wide before (slot % 4) entry
    → after ≡ with_entry wide between (other_slot % 4) other → Puts drive kind (record { sector = second; bytes = after } ∷ []) read now result
    → Puts drive kind (slots_write kind image slot entry other_slot other ∷ []) old now result
slots_put drive kind image slot first second other_slot entry other wide before between after old read now result same at_first at_second width was between_is is =
    puts_as drive kind _ _ old read now result same (cc)
