use Rattle.std.proofs.Common.{sym, ◌∙◌}
use Rattle.mpm_files.specs.Plans.{file_of_job}
use Rattle.mpm_files.proofs.FoundEntries.{entry_found, file_found}
use Rattle.mpm_files.proofs.RecordUnits.{entry_there}
use Rattle.mpm_files.proofs.lookups.find_entry.Goals as goal

pub file_at-requires : goal.file_at-requires
file_at-requires c = file_found c.args.mounted.now (file_of_job c.args.job.now) c.args.n c.in-Some.slot c.recall_directory.ensures.full (sym c.slot_of.ensures ∙ c.in-Some.is)

pub unreachable-requires : goal.unreachable-requires
unreachable-requires c = entry_there c.args.mounted.now (file_of_job c.args.job.now) c.args.n (sym c.slot_of.ensures ∙ c.in-None.is) c.requires.entry

pub returns : goal.returns
returns c =
    entry_found c.args.mounted.now (file_of_job c.args.job.now) c.args.n c.in-Some.slot c.file_at.result c.recall_directory.ensures.full c.recall_directory.ensures.faultless
    (sym c.slot_of.ensures ∙ c.in-Some.is) c.file_at.ensures.entry c.file_at.ensures.proper
