-- Worked examples, by computation.
use Rattle.std.proofs.Common.{◌≡◌, ℕ, List, [], ◌∷◌, Some, None, false, refl}
use Rattle.std.specs.Prelude.{codes, option_and_then}
use Rattle.toml.specs.Parse.{parse_document}
use Rattle.toml.proofs.OnLiterals.{toml_on_literals}
use Rattle.mpm_base.specs.declared.kind.Kind.TheVariants.{Ibm3740, Hd4}
use Rattle.mpm_machine_file.specs.Fields.{number_at, number_or, text_at, text_if}
use Rattle.mpm_machine_file.specs.Segments.{segment_of, segments_of, segments_in}
use Rattle.mpm_machine_file.specs.Drives.{by_letter, drive_of, drives_of, drives_in}
use Rattle.mpm_machine_file.specs.Residents.{residents_of, residents_in}
use Rattle.mpm_machine_file.specs.MachineFiles.{ticks_of, machine_of}

-- the least file, with the values of the missing keys
pub machine_of_least : option_and_then machine_of (parse_document (codes "version=1\nconsoles=1\nsegment=[{base=0,pages=192}]"))
    ≡ Some (record {
      consoles = 1;
      printers = 1;
      tick_every = 0;
      disk_turn = 0;
      date = 1;
      hour = 0;
      minute = 0;
      second = 0;
      segments = record { base = 0; pages = 192 } ∷ [];
      drives = [];
      script = None;
      spool = false;
      sched = false;
    })
unfolding toml_on_literals number_at number_or text_at text_if segment_of segments_of segments_in drive_of drives_of drives_in residents_of residents_in ticks_of machine_of
machine_of_least = refl

-- another key
pub machine_of_unknown : option_and_then machine_of (parse_document (codes "version=1\nconsoles=1\nsegment=[{base=0,pages=192}]\nkeys=1")) ≡ None
unfolding toml_on_literals number_at number_or text_at text_if segment_of segments_of segments_in drive_of drives_of drives_in residents_of residents_in ticks_of machine_of
machine_of_unknown = refl

-- residents in version 1
pub machine_of_early_residents : option_and_then machine_of (parse_document (codes "version=1\nconsoles=1\nresidents=[]\nsegment=[{base=0,pages=192}]")) ≡ None
unfolding toml_on_literals number_at number_or text_at text_if segment_of segments_of segments_in drive_of drives_of drives_in residents_of residents_in ticks_of machine_of
machine_of_early_residents = refl

-- one image under two letters
pub machine_of_shared : option_and_then machine_of (parse_document (codes "version=1\nconsoles=1\nsegment=[{base=0,pages=192}]\ndrive=[{letter='A',kind='hd4',image='x'},{letter='B',kind='hd4',image='x'}]")) ≡ None
unfolding toml_on_literals number_at number_or text_at text_if segment_of segments_of segments_in drive_of drives_of drives_in residents_of residents_in ticks_of machine_of
machine_of_shared = refl

-- drives in the order of their letters
pub by_letter_three : (p a c : List ℕ) → by_letter (record { letter = 80; kind = Hd4; image = p } ∷ record { letter = 65; kind = Ibm3740; image = a } ∷ record { letter = 67; kind = Hd4; image = c } ∷ [])
    ≡ record { letter = 65; kind = Ibm3740; image = a } ∷ record { letter = 67; kind = Hd4; image = c } ∷ record { letter = 80; kind = Hd4; image = p } ∷ []
by_letter_three p a c = refl
