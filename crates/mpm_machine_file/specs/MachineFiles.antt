-- The machine file: a TOML document of these keys and no others, each within its limits.
use Rattle.std.specs.Prelude.{◌≡◌, ◌≢◌, ℕ, ◌+◌, ◌<◌, ◌≤◌, ◌⊎◌, true, ◌||◌, ◌==◌, nat_le, if◌then◌else◌, List, [], ◌∷◌, length, map, codes, All, Option, Some, None, IfSome}
use Rattle.std.specs.List.Sorted.{IsStrictlyIncreasing}
use Rattle.std.specs.Str.{is_utf8}
use Rattle.toml.specs.Data.{Members}
use Rattle.toml.specs.Parse.{parse_document}
use Rattle.mpm_base.specs.declared.segment.SegmentSpec.{SegmentSpec}
use Rattle.mpm_machine_file.specs.declared.lists.DriveSpec.{DriveSpec}
use Rattle.mpm_machine_file.specs.declared.machine_file.MachineFile.{MachineFile}
use Rattle.mpm_script.specs.Numbers.{◌>>=◌}
use Rattle.mpm_machine_file.specs.Fields.{only_keys, number_at, number_or, text_if}
use Rattle.mpm_machine_file.specs.Segments.{segments_in}
use Rattle.mpm_machine_file.specs.Drives.{drives_in, all_differ}
use Rattle.mpm_machine_file.specs.Residents.{residents_in}

abbrev pub machine_keys : List (List ℕ)
machine_keys =
    codes "version" ∷ codes "consoles" ∷ codes "printers" ∷ codes "tick_every" ∷ codes "disk_turn" ∷ codes "date" ∷ codes "hour"
    ∷ codes "minute" ∷ codes "second" ∷ codes "segment" ∷ codes "drive" ∷ codes "script"
    ∷ codes "residents" ∷ []

-- 0, or 100 to 1,000,000 steps between two ticks
unfoldable pub ticks_of : Members → Option ℕ
ticks_of table = do
  steps ← number_or (codes "tick_every") 0 0 1000000 table
  if steps == 0 || nat_le 100 steps then Some steps else None

-- the machine file that a document's table is
unfoldable pub machine_of : Members → Option MachineFile
machine_of table = do
  version ← number_at (codes "version") 1 2 table
  consoles ← number_at (codes "consoles") 1 8 table
  printers ← number_or (codes "printers") 1 0 4 table
  tick_every ← ticks_of table
  disk_turn ← number_or (codes "disk_turn") 0 0 1000 table
  date ← number_or (codes "date") 1 0 65535 table
  hour ← number_or (codes "hour") 0 0 23 table
  minute ← number_or (codes "minute") 0 0 59 table
  second ← number_or (codes "second") 0 0 59 table
  segments ← segments_in version table
  drives ← drives_in table
  script ← text_if (codes "script") table
  residents ← residents_in version table
  if only_keys machine_keys table then Some (record {
    consoles = consoles;
    printers = printers;
    tick_every = tick_every;
    disk_turn = disk_turn;
    date = date;
    hour = hour;
    minute = minute;
    second = second;
    segments = segments;
    drives = drives;
    script = script;
    spool = residents.spool;
    sched = residents.sched;
  }) else None

-- the table that a text is, a TOML document in UTF-8
unfoldable pub document_of : List ℕ → Option Members
document_of text = if is_utf8 text then parse_document text else None

-- the machine file that a text is
unfoldable pub machine_of_text : List ℕ → Option MachineFile
machine_of_text text = document_of text >>= machine_of

-- a segment of at least 4 pages that ends below C000h
pub record IsListedSegment (segment : SegmentSpec) : Type 0 where
  pub pages : 4 ≤ segment.pages
  pub end : segment.base + segment.pages ≤ 192

-- a drive of a letter A to P and an image that has a name
pub record IsDrive (drive : DriveSpec) : Type 0 where
  pub first : 65 ≤ drive.letter
  pub last : drive.letter ≤ 80
  pub image : drive.image ≢ []

-- within the limits of a machine file
pub record IsMachine (file : MachineFile) : Type 0 where
  pub some_console : 1 ≤ file.consoles
  pub consoles : file.consoles ≤ 8
  pub printers : file.printers ≤ 4
  pub ticks : (file.tick_every ≡ 0) ⊎ ((100 ≤ file.tick_every) × (file.tick_every ≤ 1000000))
  pub turn : file.disk_turn ≤ 1000
  pub hour : file.hour < 24
  pub minute : file.minute < 60
  pub second : file.second < 60
  pub some_segment : 1 ≤ length file.segments
  pub segments : length file.segments ≤ 16
  pub each_segment : All IsListedSegment file.segments
  pub drives : length file.drives ≤ 16
  pub each_drive : All IsDrive file.drives
  pub letters : IsStrictlyIncreasing (map (λ drive. drive.letter) file.drives)
  pub images : all_differ file.drives ≡ true
  pub script : IfSome file.script (λ name. name ≢ [])
