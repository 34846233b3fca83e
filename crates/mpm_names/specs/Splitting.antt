-- The parts of a text as its spelling.
use Rattle.mpm_names.specs.Spellings.{Spelling}
use Rattle.mpm_names.specs.declared.spelling.Parts.{Parts}

abbrev pub seen : Parts → Spelling
seen parts = record {
  drive = parts.drive;
  name = parts.name.now;
  kind = parts.kind.now;
  password = parts.password.now;
  rest = parts.rest.now;
}
