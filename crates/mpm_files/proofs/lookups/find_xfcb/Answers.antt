use Rattle.std.proofs.Common.{sym, ◌∙◌}
use Rattle.mpm_files.specs.Plans.{file_of_job}
use Rattle.mpm_files.proofs.FoundEntries.{entry_is_xfcb, is_no_xfcb}
use Rattle.mpm_files.proofs.lookups.find_xfcb.Goals as goal

pub unreachable-requires : goal.unreachable-requires
unreachable-requires c =
    is_no_xfcb _ _ _ (entry_is_xfcb c.args.mounted.now (file_of_job c.args.job.now) c.in-Some.slot _ (sym c.xfcb.ensures ∙ c.in-Some.is) (sym c.entry.ensures.entry)) c.in_default.not-Xfcb
