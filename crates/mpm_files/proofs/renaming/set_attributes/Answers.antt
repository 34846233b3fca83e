use Rattle.std.proofs.Common.{map, ap, ◌∙◌, arith, rules}
use Rattle.std.specs.Prelude.{nat_le}
use Rattle.mpm_files.specs.Units.{SetsAttributes}
use Rattle.mpm_mount.specs.Faults.{name_of}
use Rattle.mpm_mount.specs.Attributes.{attributes_in}
use Rattle.mpm_mount.specs.Files.{file_in}
use Rattle.mpm_files.proofs.NextDone.{goes_as}
use Rattle.mpm_files.proofs.Placing.{set_clean, set_stage}
use Rattle.std.proofs.lemmas.Grind.{common_steps}
use Rattle.mpm_files.proofs.renaming.set_attributes.Goals as goal

pub put_entry-requires : goal.put_entry-requires
put_entry-requires g c = record {
  ready = c.requires.ready;
  slot = c.requires.within;
  proper = first_of (search rules, grind (arith, common_steps));
  faultless = set_clean c.args.mounted.now c.args.slot c.file_at-file.result c.marked.result c.file_at-file.ensures (omega (arith, c.requires.within, c.file_at-file.ensures.sound.full)) c.marked.ensures.name;
}

pub returns : goal.returns
returns g c = record {
  does = λ image files told stands file is.
      goes_as (g.D.Drives.disks c.put_entry.new.drives) c.args.mounted.now.drive c.put_entry.new.mounted files _
      (SetsAttributes (file_in file.user file.name) (name_of files.kind file).number (attributes_in c.args.job.now.name)) c.put_entry.result (c.put_entry.ensures.puts image files told stands)
      (set_stage image c.args.mounted.now files c.args.slot c.file_at-file.result file c.marked.result c.args.job.now.name stands c.file_at-file.ensures
      (omega (arith, c.requires.within, c.file_at-file.ensures.sound.full)) is c.marked.ensures.name (c.marked.ensures.marks ∙ ap (map (nat_le 128)) c.attributes_over.ensures));
  works = c.put_entry.ensures.works;
}
