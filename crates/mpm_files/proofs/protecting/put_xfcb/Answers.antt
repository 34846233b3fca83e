use Rattle.std.proofs.Common.{◌≡◌, [], ◌∷◌, None, sym, ap, subst, ◌∙◌, rules, arith}
use Rattle.mpm_blocks.specs.Sectors.{sectors_of}
use Rattle.mpm_dirent.specs.declared.kinds.Entry.TheVariants.{Xfcb}
use Rattle.mpm_dirent.specs.declared.kinds.XfcbEntry.{XfcbEntry}
use Rattle.mpm_mount.specs.Faults.{cause_of}
use Rattle.mpm_mount.specs.Changes.{exchanged}
use Rattle.mpm_mount.specs.Directories.{others, entry_in}
use Rattle.mpm_files.specs.Units.{PutsXfcb}
use Rattle.mpm_files.specs.Plans.{file_of_job, protection_in}
use Rattle.mpm_files.proofs.NextDone.{goes_as}
use Rattle.mpm_files.proofs.Placing.{clean_over, clean_new, over_stage, new_stage}
use Rattle.std.proofs.lemmas.Grind.{common_steps}
use Rattle.mpm_files.proofs.FoundEntries.{not_missing}
use Rattle.mpm_files.proofs.protecting.put_xfcb.Goals as goal

pub unreachable-requires : goal.unreachable-requires
unreachable-requires g c = not_missing _ c.free_slot.result (c.requires.room (sym c.xfcb.ensures ∙ c.in-None.is)) c.free_slot.ensures c.in-None-free_slot.is

pub put_entry-requires : goal.put_entry-requires
put_entry-requires g c = record {
  ready = c.requires.ready;
  slot = first_of (search rules, grind (arith, common_steps));
  proper = first_of (search rules, grind (arith, common_steps));
  faultless = subst (λ (x : XfcbEntry). cause_of c.args.mounted.now.kind (others c.args.mounted.now.entries c.in-Some.slot) (Xfcb x) ≡ None) (sym c.xfcb_of.ensures)
      (clean_over c.args.mounted.now c.args.job.now c.in-Some.slot c.recall_directory.ensures.faultless (sym c.xfcb.ensures ∙ c.in-Some.is));
}

pub put_entry-requires-in-Some-free_slot : goal.put_entry-requires-in-Some-free_slot
put_entry-requires-in-Some-free_slot g c = record {
  ready = c.requires.ready;
  slot = first_of (search rules, grind (arith, common_steps));
  proper = first_of (search rules, grind (arith, common_steps));
  faultless = subst (λ (x : XfcbEntry). cause_of c.args.mounted.now.kind (others c.args.mounted.now.entries c.in-Some-free_slot.slot) (Xfcb x) ≡ None) (sym c.xfcb_of.ensures)
      (clean_new c.args.mounted.now c.args.job.now c.in-Some-free_slot.slot (sym c.xfcb.ensures ∙ c.in-None.is) (sym c.free_slot.ensures ∙ c.in-Some-free_slot.is));
}

pub returns-in-Some : goal.returns-in-Some
returns-in-Some g c = record {
  does = λ image files told stands.
      goes_as (g.D.Drives.disks c.put_entry.new.drives) c.args.mounted.now.drive c.put_entry.new.mounted files _ (PutsXfcb (file_of_job c.args.job.now) (protection_in c.args.job.now)) c.put_entry.result
      (c.put_entry.ensures.puts image files told stands) (over_stage image c.args.mounted.now files c.args.job.now c.in-Some.slot stands (sym c.xfcb.ensures ∙ c.in-Some.is)
      ∙ ap (λ (x : XfcbEntry). exchanged (sectors_of image c.args.mounted.now.kind) files (entry_in c.args.mounted.now c.in-Some.slot) (Xfcb x) ∷ []) (sym c.xfcb_of.ensures));
  works = c.put_entry.ensures.works;
}

pub returns-in-Some-free_slot : goal.returns-in-Some-free_slot
returns-in-Some-free_slot g c = record {
  does = λ image files told stands.
      goes_as (g.D.Drives.disks c.put_entry-in-Some-free_slot.new.drives) c.args.mounted.now.drive c.put_entry-in-Some-free_slot.new.mounted files _
      (PutsXfcb (file_of_job c.args.job.now) (protection_in c.args.job.now)) c.put_entry-in-Some-free_slot.result (c.put_entry-in-Some-free_slot.ensures.puts image files told stands)
      (new_stage image c.args.mounted.now files c.args.job.now c.in-Some-free_slot.slot (sym c.free_slot.ensures ∙ c.in-Some-free_slot.is)
      ∙ ap (λ (x : XfcbEntry). exchanged (sectors_of image c.args.mounted.now.kind) files (entry_in c.args.mounted.now c.in-Some-free_slot.slot) (Xfcb x) ∷ []) (sym c.xfcb_of.ensures));
  works = c.put_entry-in-Some-free_slot.ensures.works;
}
