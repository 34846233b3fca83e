use Rattle.std.proofs.Common.{◌≡◌, List, [], ◌∷◌, ℕ, None, refl, sym, ap, subst, ◌∙◌, arith, rules}
use Rattle.mpm_blocks.specs.Sectors.{sectors_of}
use Rattle.mpm_dirent.specs.declared.kinds.Entry.TheVariants.{Xfcb}
use Rattle.mpm_mount.specs.Faults.{cause_of}
use Rattle.mpm_mount.specs.Changes.{exchanged}
use Rattle.mpm_mount.specs.Directories.{others, entry_in}
use Rattle.mpm_files.specs.Units.{RenamesXfcb}
use Rattle.mpm_files.specs.Plans.{file_of_job, new_file_of_job}
use Rattle.mpm_files.proofs.NextDone.{goes_as}
use Rattle.mpm_files.proofs.Placing.{moved_clean, moved_stage, xfcb_owner}
use Rattle.std.proofs.lemmas.Grind.{common_steps}
use Rattle.mpm_files.proofs.FoundEntries.{not_missing}
use Rattle.mpm_files.proofs.renaming.rename_xfcb.Goals as goal

pub unreachable-requires : goal.unreachable-requires
unreachable-requires g c = not_missing _ _ c.requires.there refl c.in_default.ensures.missing

pub put_entry-requires : goal.put_entry-requires
put_entry-requires g c = record {
  ready = c.requires.ready;
  slot = c.in-Some.ensures.found.within;
  proper = first_of (search rules, grind (arith, common_steps));
  faultless = subst (λ (name : List ℕ). cause_of c.args.mounted.now.kind (others c.args.mounted.now.entries c.in-Some.found.slot) (Xfcb (record c.in-Some.found.xfcb { name = name })) ≡ None) (sym c.plain_name.ensures)
      (moved_clean c.args.mounted.now c.args.job.now c.in-Some.found.slot c.in-Some.found.xfcb (omega (arith, c.in-Some.ensures.found.within, c.in-Some.ensures.found.sound.full))
      (xfcb_owner c.args.mounted.now c.args.job.now c.in-Some.found.slot c.in-Some.found.xfcb c.in-Some.ensures.found.found c.in-Some.ensures.found.entry) c.requires.free);
}

pub returns : goal.returns
returns g c = record {
  does = λ image files told stands.
      goes_as (g.D.Drives.disks c.put_entry.new.drives) c.args.mounted.now.drive c.put_entry.new.mounted files _ (RenamesXfcb (file_of_job c.args.job.now) (new_file_of_job c.args.job.now)) c.put_entry.result
      (c.put_entry.ensures.puts image files told stands)
      (moved_stage image c.args.mounted.now files c.args.job.now c.in-Some.found.slot c.in-Some.found.xfcb stands c.in-Some.ensures.found.found c.in-Some.ensures.found.entry
      (xfcb_owner c.args.mounted.now c.args.job.now c.in-Some.found.slot c.in-Some.found.xfcb c.in-Some.ensures.found.found c.in-Some.ensures.found.entry)
      ∙ ap (λ (name : List ℕ). exchanged (sectors_of image c.args.mounted.now.kind) files (entry_in c.args.mounted.now c.in-Some.found.slot) (Xfcb (record c.in-Some.found.xfcb { name = name })) ∷ []) (sym c.plain_name.ensures));
  works = c.put_entry.ensures.works;
}
