-- A machine file that is read lies within the limits of its keys.
use Rattle.std.proofs.Common.{◌≡◌, ◌≢◌, ◌∙◌, ℕ, ◌+◌, ◌<◌, ◌≤◌, ◌⊎◌, Bool, true, false, ◌||◌, ◌&&◌, ◌==◌, nat_le, if◌then◌else◌, suc, List, [], ◌∷◌, length, map, Option, Some, None, refl, subst, arith, lit≤}
use Rattle.std.specs.Prelude.{codes, All}
use Rattle.std.specs.List.{AllByRecursion}
use Rattle.std.specs.Option.{option_map_or}
use Rattle.std.proofs.lemmas.Bool.Decides.{nat_tests}
use Rattle.std.proofs.lemmas.Option.{same_Some, none-some, cond_some}
use Rattle.std.proofs.lemmas.List.Elements.{All-from_recursion, All-nil}
use Rattle.toml.specs.Data.{Data, Items, Members, get_member, as_table, as_array}
use Rattle.mpm_base.specs.declared.segment.SegmentSpec.{SegmentSpec}
use Rattle.mpm_base.specs.declared.kind.Kind.{Kind}
use Rattle.mpm_machine_file.specs.declared.lists.DriveSpec.{DriveSpec}
use Rattle.mpm_machine_file.specs.declared.machine_file.MachineFile.{MachineFile}
use Rattle.mpm_machine_file.specs.Fields.{only_keys, number_at, number_or, text_at, text_if, all_of, counted}
use Rattle.mpm_machine_file.specs.Segments.{segment_keys, segment_of, most_segments, segments_of, segments_in}
use Rattle.mpm_machine_file.specs.Drives.{drive_keys, letter_of, kind_of, drive_of, all_differ, by_letter, drives_of, drives_in}
use Rattle.mpm_machine_file.specs.Residents.{residents_in}
use Rattle.mpm_machine_file.specs.MachineFiles.{machine_keys, ticks_of, machine_of, document_of, machine_of_text, IsListedSegment, IsDrive, IsMachine}
use Rattle.mpm_script.proofs.Finds.{bind_some}
use Rattle.mpm_machine_file.proofs.LimitLaws.{IsBetween, between_test, number_at_limits, number_or_limits, text_at_limits, text_if_limits, all_of_each, counted_limits}
use Rattle.std.specs.List.Sorted.{IsStrictlyIncreasing}
use Rattle.mpm_machine_file.proofs.OrderLaws.{each_of_letters, letters_rise, increase_from_rise}

segment_made : (base pages : ℕ) (keys : Bool) (segment : SegmentSpec) → 4 ≤ pages → (if keys && nat_le (base + pages) 192 then Some (record { base = base; pages = pages }) else None) ≡ Some segment → IsListedSegment segment
segment_made base pages keys segment some e =
    let made = cond_some (keys && nat_le (base + pages) 192) (record { base = base; pages = pages }) segment e in
    subst IsListedSegment made.1 (record { pages = some; end = grind (arith, nat_tests) })

segment_limits : (value : Data) (segment : SegmentSpec) → segment_of value ≡ Some segment → IsListedSegment segment
unfolding segment_of
segment_limits value segment e =
    let table = bind_some (as_table value) _ segment e in
    let base = bind_some (number_at (codes "base") 0 188 table.0) _ segment table.2 in
    let pages = bind_some (number_at (codes "pages") 4 192 table.0) _ segment base.2 in
    segment_made base.0 pages.0 (only_keys segment_keys table.0) segment (number_at_limits (codes "pages") 4 192 table.0 pages.0 pages.1).0 pages.2

-- what is read of the segments
pub record AreSegments (segments : List SegmentSpec) : Type 0 where
  pub some : 1 ≤ length segments
  pub few : length segments ≤ 16
  pub each : AllByRecursion IsListedSegment segments

most_limit : (version : ℕ) → most_segments version ≤ 16
most_limit version = by_test (version == 1)
  where
    by_test : (test : Bool) → (if test then 8 else 16) ≤ 16
    by_test true = omega arith
    by_test false = omega arith

segments_limits : (most : ℕ) (value : Data) (segments : List SegmentSpec) → most ≤ 16 → segments_of most value ≡ Some segments → AreSegments segments
unfolding segments_of
segments_limits most value segments few e =
    let items = bind_some (as_array value) _ segments e in
    let read = bind_some (all_of segment_of items.0) _ segments items.2 in
    let count = counted_limits 1 most read.0 segments read.2 in
    subst AreSegments count.0 (record { some = count.1.0; few = omega (arith, count.1.1, few); each = all_of_each IsListedSegment segment_of segment_limits items.0 read.0 read.1 })

pub segments_in_limits : (version : ℕ) (table : Members) (segments : List SegmentSpec) → segments_in version table ≡ Some segments → AreSegments segments
unfolding segments_in
segments_in_limits version table segments e =
    let value = bind_some (get_member (codes "segment") table) (segments_of (most_segments version)) segments e in
    segments_limits (most_segments version) value.0 segments (most_limit version) value.2

-- what is read of the drives
pub record AreDrives (drives : List DriveSpec) : Type 0 where
  pub few : length drives ≤ 16
  pub each : All IsDrive drives
  pub letters : IsStrictlyIncreasing (map (λ drive. drive.letter) drives)
  pub differ : all_differ drives ≡ true

letter_limits : (text : List ℕ) (letter : ℕ) → letter_of text ≡ Some letter → IsBetween 65 80 letter
letter_limits [] letter e = absurd (none-some letter e)
letter_limits (byte ∷ []) letter e =
    let found = cond_some (nat_le 65 byte && nat_le byte 80) byte letter e in between_test 65 80 byte letter found.0 found.1
letter_limits (byte ∷ more ∷ rest) letter e = absurd (none-some letter e)

drive_made : (letter : ℕ) (kind : Kind) (image : List ℕ) (keys : Bool) (drive : DriveSpec) → IsBetween 65 80 letter → image ≢ [] → (if keys then Some (record { letter = letter; kind = kind; image = image }) else None) ≡ Some drive → IsDrive drive
drive_made letter kind image keys drive fits named e =
    subst IsDrive (cond_some keys (record { letter = letter; kind = kind; image = image }) drive e).1 (record { first = fits.0; last = fits.1; image = named })

drive_limits : (value : Data) (drive : DriveSpec) → drive_of value ≡ Some drive → IsDrive drive
unfolding drive_of
drive_limits value drive e =
    let table = bind_some (as_table value) _ drive e in
    let text = bind_some (text_at (codes "letter") table.0) _ drive table.2 in
    let letter = bind_some (letter_of text.0) _ drive text.2 in
    let name = bind_some (text_at (codes "kind") table.0) _ drive letter.2 in
    let kind = bind_some (kind_of name.0) _ drive name.2 in
    let image = bind_some (text_at (codes "image") table.0) _ drive kind.2 in
    drive_made letter.0 kind.0 image.0 (only_keys drive_keys table.0) drive (letter_limits text.0 letter.0 letter.1) (text_at_limits (codes "image") table.0 image.0 image.1) image.2

pub each_is_drive : (items : Items) (drives : List DriveSpec) → all_of drive_of items ≡ Some drives → All IsDrive drives
each_is_drive items drives e = All-from_recursion IsDrive drives (all_of_each IsDrive drive_of drive_limits items drives e)

drives_limits : (value : Data) (drives : List DriveSpec) → drives_of value ≡ Some drives → AreDrives drives
unfolding drives_of
drives_limits value drives e =
    let items = bind_some (as_array value) _ drives e in
    let read = bind_some (all_of drive_of items.0) _ drives items.2 in
    let few = bind_some (counted 0 16 (by_letter read.0)) _ drives read.2 in
    let count = counted_limits 0 16 (by_letter read.0) few.0 few.1 in
    let made = cond_some (all_differ few.0) few.0 drives few.2 in
    let differ : all_differ (by_letter read.0) ≡ true = rw count.0 made.0 in
    subst AreDrives (count.0 ∙ made.1) (record {
      few = count.1.1;
      each = each_of_letters IsDrive 65 16 read.0 (each_is_drive items.0 read.0 read.1);
      letters = increase_from_rise 65 (by_letter read.0) (letters_rise 65 16 read.0) differ;
      differ = differ;
    })

no_drives : AreDrives []
no_drives = record { few = omega arith; each = All-nil IsDrive; letters = λ k within. absurd (omega arith); differ = refl }

drives_if : (found : Option Data) (drives : List DriveSpec) → option_map_or drives_of found (Some []) ≡ Some drives → AreDrives drives
drives_if None drives e = subst AreDrives (same_Some [] drives e) no_drives
drives_if (Some value) drives e = drives_limits value drives e

drives_in_limits : (table : Members) (drives : List DriveSpec) → drives_in table ≡ Some drives → AreDrives drives
unfolding drives_in
drives_in_limits table drives e = drives_if (get_member (codes "drive") table) drives e

ticks_limits : (table : Members) (ticks : ℕ) → ticks_of table ≡ Some ticks → (ticks ≡ 0) ⊎ IsBetween 100 1000000 ticks
unfolding ticks_of
ticks_limits table ticks e =
    let steps = bind_some (number_or (codes "tick_every") 0 0 1000000 table) _ ticks e in
    let made = cond_some (steps.0 == 0 || nat_le 100 steps.0) steps.0 ticks steps.2 in
    let fits = number_or_limits (codes "tick_every") 0 0 1000000 table steps.0 (omega arith, omega arith) steps.1 in
    ticks_made steps.0 ticks made.0 made.1 fits.1
  where
    ticks_made : (steps ticks : ℕ) → (steps == 0 || nat_le 100 steps) ≡ true → steps ≡ ticks → steps ≤ 1000000 → (ticks ≡ 0) ⊎ IsBetween 100 1000000 ticks
    ticks_made steps ticks test same few = grind (arith, nat_tests)

below_next : (n greatest : ℕ) → n ≤ greatest → n < suc greatest
below_next n greatest fits = omega arith

machine_limits : (table : Members) (file : MachineFile) → machine_of table ≡ Some file → IsMachine file
unfolding machine_of
machine_limits table file e =
    let version = bind_some (number_at (codes "version") 1 2 table) _ file e in
    let consoles = bind_some (number_at (codes "consoles") 1 8 table) _ file version.2 in
    let printers = bind_some (number_or (codes "printers") 1 0 4 table) _ file consoles.2 in
    let ticks = bind_some (ticks_of table) _ file printers.2 in
    let turn = bind_some (number_or (codes "disk_turn") 0 0 1000 table) _ file ticks.2 in
    let date = bind_some (number_or (codes "date") 1 0 65535 table) _ file turn.2 in
    let hour = bind_some (number_or (codes "hour") 0 0 23 table) _ file date.2 in
    let minute = bind_some (number_or (codes "minute") 0 0 59 table) _ file hour.2 in
    let second = bind_some (number_or (codes "second") 0 0 59 table) _ file minute.2 in
    let segments = bind_some (segments_in version.0 table) _ file second.2 in
    let drives = bind_some (drives_in table) _ file segments.2 in
    let script = bind_some (text_if (codes "script") table) _ file drives.2 in
    let residents = bind_some (residents_in version.0 table) _ file script.2 in
    let made = cond_some (only_keys machine_keys table) _ file residents.2 in
    let console_limits = number_at_limits (codes "consoles") 1 8 table consoles.0 consoles.1 in
    let printer_limits = number_or_limits (codes "printers") 1 0 4 table printers.0 (lit≤ tt, lit≤ tt) printers.1 in
    let turn_limits = number_or_limits (codes "disk_turn") 0 0 1000 table turn.0 (lit≤ tt, lit≤ tt) turn.1 in
    let hour_limits = number_or_limits (codes "hour") 0 0 23 table hour.0 (lit≤ tt, lit≤ tt) hour.1 in
    let minute_limits = number_or_limits (codes "minute") 0 0 59 table minute.0 (lit≤ tt, lit≤ tt) minute.1 in
    let second_limits = number_or_limits (codes "second") 0 0 59 table second.0 (lit≤ tt, lit≤ tt) second.1 in
    let are_segments = segments_in_limits version.0 table segments.0 segments.1 in
    let are_drives = drives_in_limits table drives.0 drives.1 in
    subst IsMachine made.1 (record {
      some_console = console_limits.0;
      consoles = console_limits.1;
      printers = printer_limits.1;
      ticks = ticks_limits table ticks.0 ticks.1;
      turn = turn_limits.1;
      hour = below_next hour.0 23 hour_limits.1;
      minute = below_next minute.0 59 minute_limits.1;
      second = below_next second.0 59 second_limits.1;
      some_segment = are_segments.some;
      segments = are_segments.few;
      each_segment = All-from_recursion IsListedSegment segments.0 are_segments.each;
      drives = are_drives.few;
      each_drive = are_drives.each;
      letters = are_drives.letters;
      images = are_drives.differ;
      script = text_if_limits (codes "script") table script.0 script.1;
    })

pub text_limits : (text : List ℕ) (file : MachineFile) → machine_of_text text ≡ Some file → IsMachine file
unfolding machine_of_text
text_limits text file e = let table = bind_some (document_of text) machine_of file e in machine_limits table.0 file table.2
