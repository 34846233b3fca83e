use Rattle.std.proofs.Common.{sym, ◌∙◌, arith, rules}
use Rattle.mpm_files.specs.Units.{AddsEntry}
use Rattle.mpm_files.specs.Plans.{file_of_job}
use Rattle.mpm_files.proofs.FoundEntries.{not_missing}
use Rattle.mpm_files.proofs.NextDone.{goes_as}
use Rattle.mpm_files.proofs.Placing.{entry_clean, entry_stage}
use Rattle.std.proofs.lemmas.Grind.{common_steps}
use Rattle.mpm_files.proofs.adding.add_entry.Goals as goal

pub unreachable-requires : goal.unreachable-requires
unreachable-requires g c = not_missing _ c.free_slot.result c.requires.room c.free_slot.ensures c.in-None.is

pub put_entry-requires : goal.put_entry-requires
put_entry-requires g c = record {
  ready = c.requires.ready;
  slot = first_of (search rules, grind (arith, common_steps));
  proper = first_of (search rules, grind (arith, common_steps));
  faultless = entry_clean c.args.mounted.now c.args.job.now c.args.extent c.in-Some.slot c.new_entry-file.result
      (record { user = c.new_entry-file.ensures.user; name = c.new_entry-file.ensures.name; low = c.new_entry-file.ensures.low; high = c.new_entry-file.ensures.high; count = c.new_entry-file.ensures.count; blocks = c.new_entry-file.ensures.blocks })
      c.requires.small c.requires.none (sym c.free_slot.ensures ∙ c.in-Some.is);
}

pub returns : goal.returns
returns g c = record {
  does = λ image files told stands.
      goes_as (g.D.Drives.disks c.put_entry.new.drives) c.args.mounted.now.drive c.put_entry.new.mounted files _ (AddsEntry (file_of_job c.args.job.now) c.args.extent) c.put_entry.result
      (c.put_entry.ensures.puts image files told stands)
      (entry_stage image c.args.mounted.now files c.args.job.now c.args.extent c.in-Some.slot c.new_entry-file.result stands
      (record { user = c.new_entry-file.ensures.user; name = c.new_entry-file.ensures.name; low = c.new_entry-file.ensures.low; high = c.new_entry-file.ensures.high; count = c.new_entry-file.ensures.count; blocks = c.new_entry-file.ensures.blocks })
      (sym c.free_slot.ensures ∙ c.in-Some.is) (c.new_entry-file.ensures.attributes image files stands));
  works = c.put_entry.ensures.works;
}
