-- The lowest number that passes a test, as a walk through the numbers finds it.
pub use Rattle.mpm_procs.proofs.Finding.{FailedTo, failed_none, failed_more, found_lowest, found_none, lowest_passes, lowest_none}
