-- The machine of a seed, what is typed at its consoles, and its drives.
use Rattle.std.specs.Prelude.{ℕ, false, List, [], ◌∷◌, ◌++◌, None, codes}
use Rattle.mpm_base.specs.declared.kind.Kind.TheVariants.{Hd4}
use Rattle.mpm_machine_file.specs.declared.machine_file.MachineFile.{MachineFile}
use Rattle.mpm_port.specs.MemoryDisks.{MemoryDisks, no_disks, with_image}
use Rattle.mpm_script.specs.declared.event.Timed.{Timed}
use Rattle.mpm_script.specs.Events.{keys_at}
use Rattle.mpm_generator.specs.Images.{image_of}

-- the name of the drive's image
abbrev pub name_of_image : List ℕ
name_of_image = codes "a"

-- two consoles, a tick each thousand steps, turns of the disk of twenty steps, two segments of all pages, and drive A
abbrev pub machine : MachineFile
machine = record {
  consoles = 2;
  printers = 0;
  tick_every = 1000;
  disk_turn = 20;
  date = 1;
  hour = 0;
  minute = 0;
  second = 0;
  segments = record { base = 0; pages = 192 } ∷ record { base = 0; pages = 192 } ∷ [];
  drives = record { letter = 65; kind = Hd4; image = name_of_image } ∷ [];
  script = None;
  spool = false;
  sched = false;
}

-- what is typed, as a script
unfoldable pub typed : List ℕ
typed = codes "0 key 0 g0\\r\n0 key 1 g1\\r\n"

-- each program is called at its console, from the first step on
abbrev pub script : List Timed
script = keys_at 0 0 (103 ∷ 48 ∷ 13 ∷ []) ++ keys_at 0 1 (103 ∷ 49 ∷ 13 ∷ [])

-- the drives: the image of the seed under the name that the machine gives
abbrev pub drives_of : ℕ → MemoryDisks
drives_of seed = with_image no_disks name_of_image (image_of seed)
