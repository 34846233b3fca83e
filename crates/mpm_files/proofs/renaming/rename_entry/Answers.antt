use Rattle.std.proofs.Common.{arith, rules}
use Rattle.mpm_files.specs.Units.{RenamesEntry}
use Rattle.mpm_files.specs.Plans.{new_file_of_job}
use Rattle.mpm_mount.specs.Faults.{name_of}
use Rattle.mpm_mount.specs.Files.{file_in}
use Rattle.mpm_files.proofs.NextDone.{goes_as}
use Rattle.mpm_files.proofs.Placing.{renamed_clean, renamed_stage, still_free, same_user}
use Rattle.std.proofs.lemmas.Grind.{common_steps}
use Rattle.mpm_files.proofs.renaming.rename_entry.Goals as goal

pub put_entry-requires : goal.put_entry-requires
put_entry-requires g c = record {
  ready = c.requires.ready;
  slot = c.requires.within;
  proper = first_of (search rules, grind (arith, common_steps));
  faultless = renamed_clean c.args.mounted.now c.args.slot c.file_at-file.result c.marked.result c.file_at-file.ensures (omega (arith, c.requires.within, c.file_at-file.ensures.sound.full))
      (still_free c.args.mounted.now c.args.job.now c.args.slot c.file_at-file.result c.requires.file c.marked.result c.file_at-file.ensures.entry c.requires.entry c.requires.user c.marked.ensures.name c.requires.free);
}

pub returns : goal.returns
returns g c = record {
  does = λ image files told stands file is.
      goes_as (g.D.Drives.disks c.put_entry.new.drives) c.args.mounted.now.drive c.put_entry.new.mounted files _
      (RenamesEntry (file_in file.user file.name) (name_of files.kind file).number (new_file_of_job c.args.job.now)) c.put_entry.result (c.put_entry.ensures.puts image files told stands)
      (renamed_stage image c.args.mounted.now files c.args.job.now c.args.slot c.file_at-file.result file c.marked.result stands c.file_at-file.ensures
      (omega (arith, c.requires.within, c.file_at-file.ensures.sound.full)) is
      (same_user c.args.mounted.now c.args.slot file c.requires.file c.args.job.now.user is c.requires.entry c.requires.user) c.marked.ensures.name c.marked.ensures.marks);
  works = c.put_entry.ensures.works;
}
