-- A run of a machine that is made of a seed: what asks for it, and what is reported of it.
use Rattle.std.specs.Prelude.{◌≡◌, ℕ, ◌<◌, ◌≤◌, true, List, [], ◌∷◌, ◌++◌, Option, Some, None, Ok, bytes_eq, codes, decimal, if◌then◌else◌}
use Rattle.mpm_base.specs.declared.kind.Kind.TheVariants.{Hd4}
use Rattle.mpm_port.specs.Causes.{Rose}
use Rattle.mpm_port.specs.Texts.{AppendsPart}
use Rattle.mpm_devices.specs.Kinds.{counted}
use Rattle.mpm_lines.specs.Lines.{number_line}
use Rattle.mpm_script.specs.Numbers.{number_of}
use Rattle.mpm_script.specs.declared.line.TheConstants.{GREATEST_STEP}
use Rattle.mpm_generator.specs.Images.{image_of}
use Rattle.mpm_generator.specs.Machines.{machine, script}
use Rattle.mpm_mount.specs.Drives.{Drive}
use Rattle.mpm_mount.specs.Images.{files_of}
use Rattle.mpm_drives.specs.Mounted.{NumberedDrive}
use Rattle.mpm_render.specs.Outputs.{closed}
use Rattle.mpm_machine.specs.State.{State}
use Rattle.mpm_system.specs.Opening.{opened}
use Rattle.mpm_machine.specs.After.{after}
use Rattle.mpm_machine.specs.Settling.{carried}
use Rattle.mpm_top.specs.Beginnings.{begun}
use Rattle.mpm_top.specs.Runs.{drives_left}
use Rattle.mpm_top.specs.Data.{data_on}
use Rattle.mpm_top.specs.Words.{steps_of}
use Rattle.mpm_top.specs.declared.status.Status.{Status}
use Rattle.mpm_top.specs.declared.status.Status.TheVariants.{Ran, Usage, MachineFault, ScriptFault, ImageFault, TooLong, ReadFault, DiskFault, WriteFault, OutOfMemory}
use Rattle.mpm_top.specs.declared.seeds.Seeded.{Seeded}
use Rattle.mpm_top.specs.declared.seeds.Found.{Found}

-- a seed: decimal digits without a leading zero, below 2^31
abbrev pub seed_of : List ℕ → Option ℕ
seed_of text = number_of 2147483647 text

abbrev pub seeded : Option ℕ → Option ℕ → Option Seeded
seeded None steps = None
seeded (Some seed) None = None
seeded (Some seed) (Some steps) = Some (record { seed = seed; steps = steps })

-- what the words ask: `gen`, a seed and a number of steps; None where they have no such form
unfoldable pub seeded_of : List (List ℕ) → Option Seeded
seeded_of [] = None
seeded_of (word ∷ []) = None
seeded_of (word ∷ seed ∷ []) = None
seeded_of (word ∷ seed ∷ steps ∷ []) = if bytes_eq word (codes "gen") then seeded (seed_of seed) (steps_of steps) else None
seeded_of (word ∷ seed ∷ steps ∷ more ∷ rest) = None

-- the words ask that
pub record AskSeeded (words : List (List ℕ)) (asked : Seeded) : Type 0 where
  pub is : seeded_of words ≡ Some asked
  pub seed : asked.seed < 2147483648
  pub steps : asked.steps ≤ GREATEST_STEP

-- its machine begins with these files on drive A
abbrev pub drive_a : Drive → List NumberedDrive
drive_a files = record { number = 0; files = files } ∷ []

abbrev pub seeded_start : Drive → State
seeded_start files = begun (opened machine script) (drive_a files)

-- the lines that begin with `c` and those that begin with `t`, of the text of some steps after a state and of the end; and what is
-- summed of the file on drive A after it
pub record AreOf (steps : ℕ) (s : State) (found : Found) : Type 0 where
  pub lines : found.lines ≡ counted 99 (closed true (carried (after steps s)).outputs)
  pub calls : found.calls ≡ counted 116 (closed true (carried (after steps s)).outputs)
  pub records : found.data ≡ data_on (drives_left (after steps s))

-- so it is of the machine of a seed, whose image stands for some files
pub record AreFound (seed steps : ℕ) (found : Found) : Type 0 where
  pub files : Drive
  pub are : files_of (image_of seed) Hd4 ≡ Ok files
  pub found_are : AreOf steps (seeded_start files) found

-- a seed of 31 bits, and so many steps
pub record MayRunSeeded (asked : Seeded) : Type 0 where
  pub seed : asked.seed < 2147483648
  pub steps : asked.steps ≤ GREATEST_STEP

-- what is reported: three lines
unfoldable pub report : Found → List ℕ
report found = number_line (codes "lines") found.lines ++ (number_line (codes "calls") found.calls ++ number_line (codes "data") found.data)

-- how such a run ends: with its report, or with a first part of it where the sink failed; or for want of memory, with nothing
abbrev pub EndsSeeded : Seeded → List ℕ → List ℕ → ℕ → ℕ → Status → Type 0
EndsSeeded asked first written before now Ran = (found : Found) × AreFound asked.seed asked.steps found × (written ≡ first ++ report found) × (now ≡ before)
EndsSeeded asked first written before now Usage = ⊥
EndsSeeded asked first written before now MachineFault = ⊥
EndsSeeded asked first written before now (ScriptFault line) = ⊥
EndsSeeded asked first written before now (ImageFault drive cause place) = ⊥
EndsSeeded asked first written before now (TooLong what) = ⊥
EndsSeeded asked first written before now ReadFault = ⊥
EndsSeeded asked first written before now (DiskFault step) = ⊥
EndsSeeded asked first written before now (WriteFault step) =
    (found : Found) × AreFound asked.seed asked.steps found × AppendsPart first (report found) written × (step ≡ asked.steps) × Rose before now
EndsSeeded asked first written before now OutOfMemory = (written ≡ first) × (now ≡ before)
