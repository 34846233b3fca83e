use Rattle.std.proofs.Common.{◌∷◌, [], Some, sym, arith, rules}
use Rattle.mpm_blocks.specs.Sectors.{sectors_of}
use Rattle.mpm_dirent.specs.declared.kinds.Entry.TheVariants.{File}
use Rattle.mpm_mount.specs.Changes.{exchanged}
use Rattle.mpm_mount.specs.Directories.{entry_in}
use Rattle.mpm_mount.specs.Drives.{with_xfcb}
use Rattle.mpm_mount.specs.Images.{protection_of}
use Rattle.mpm_files.specs.Units.{second_stamped}
use Rattle.mpm_files.specs.Plans.{file_of_job}
use Rattle.mpm_files.proofs.Stamping.{stamped_at}
use Rattle.mpm_files.proofs.SharedStamps.{still_beside, beside_is, stamped_beside}
use Rattle.mpm_files.proofs.WorkingLaws.{works_within}
use Rattle.std.proofs.lemmas.Grind.{common_steps}
use Rattle.mpm_files.proofs.stamps.put_stamped.Goals as goal

pub put_entries-requires : goal.put_entries-requires
put_entries-requires g c = record {
  ready = c.requires.ready;
  slot = c.requires.slot;
  same = first_of (search rules, grind (arith, common_steps));
  proper = c.requires.proper;
  second_proper = first_of (search rules, grind (arith, common_steps));
  faultless = c.requires.faultless;
  second_faultless = still_beside c.args.mounted.now (file_of_job c.args.job.now) c.args.placed.now.slot c.in-Some-find_xfcb_beside.found.slot c.in-Some-find_xfcb_beside.found.xfcb c.stamped-xfcb.result
      c.args.placed.now.file c.in-Some.second c.in-Some-find_xfcb_beside.ensures.found c.requires.was c.requires.slot c.requires.faultless c.stamped-xfcb.ensures;
}

pub returns-in-Some-find_xfcb_beside : goal.returns-in-Some-find_xfcb_beside
returns-in-Some-find_xfcb_beside g c = record {
  puts = λ image files told stands.
      let found = c.in-Some-find_xfcb_beside.found in
      let next = exchanged (sectors_of image c.args.mounted.now.kind) files (entry_in c.args.mounted.now c.args.placed.now.slot) (File c.args.placed.now.file) in
      stamped_beside (g.D.Drives.disks c.put_entries.new.drives) c.args.mounted.now.drive image c.args.mounted.now c.put_entries.new.mounted files (file_of_job c.args.job.now) c.args.placed.now.slot found.slot
      found.xfcb c.args.placed.now.file c.in-Some.second c.args.moment c.put_entries.result c.in-Some.is stands c.in-Some-find_xfcb_beside.ensures.found c.requires.was
      (c.put_entries.ensures.puts image files told stands (with_xfcb next (file_of_job c.args.job.now) (second_stamped c.in-Some.second (protection_of found.xfcb)))
      (beside_is image c.args.mounted.now files next (file_of_job c.args.job.now) c.args.placed.now.slot found.slot found.xfcb c.stamped-xfcb.result c.args.placed.now.file c.in-Some.second stands
      c.in-Some-find_xfcb_beside.ensures.found c.requires.was c.stamped-xfcb.ensures));
  beside = λ is_there beside. c.put_entries.ensures.works.calls;
  works = works_within g.D.Drives 2 4 _ _ _ _ _ _ _ _ _ (omega arith) c.put_entries.ensures.works;
}

pub returns-in-None-find_xfcb_beside : goal.returns-in-None-find_xfcb_beside
returns-in-None-find_xfcb_beside g c = record {
  puts = λ image files told stands.
      stamped_at (g.D.Drives.disks c.put_apart-in-None-find_xfcb_beside.new.drives) c.args.mounted.now.drive c.put_apart-in-None-find_xfcb_beside.new.mounted files (file_of_job c.args.job.now)
      (Some c.in-Some.second) c.args.moment
      (exchanged (sectors_of image c.args.mounted.now.kind) files (entry_in c.args.mounted.now c.args.placed.now.slot) (File c.args.placed.now.file) ∷ [])
      c.put_apart-in-None-find_xfcb_beside.result (sym c.in-Some.is) (c.put_apart-in-None-find_xfcb_beside.ensures.puts image files told stands);
  beside = λ is_there beside. absurd (c.in-None-find_xfcb_beside.ensures.missing beside);
  works = c.put_apart-in-None-find_xfcb_beside.ensures.works;
}
