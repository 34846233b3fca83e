-- How a process, and the call that it keeps, are lent.
use Rattle.std.specs.Prelude.{ℕ}
use Rattle.std.specs.Borrow.{Lends, MutBor, Fml}
use Rattle.mpm_base.specs.Calls.{Taken}
use Rattle.mpm_base.specs.contracts.call.Call.{the_row as call_row}
use Rattle.mpm_procs.specs.Table.{Table, with_process, with_call}
use Rattle.mpm_procs.specs.declared.process.Process.{Process}
use Rattle.mpm_procs.specs.contracts.procs.Procs.{the_row}
use Rattle.mpm_procs.specs.contracts.process.Process.{the_row as process_row}

-- the table ends with the last process after what is lent
abbrev pub LendsProcess : MutBor Table → ℕ → MutBor Process → Fml
LendsProcess procs slot lent = Lends the_row process_row procs lent (with_process procs.now slot)

-- the table ends with the last call after what is lent
abbrev pub LendsCall : MutBor Table → ℕ → MutBor Taken → Fml
LendsCall procs slot lent = Lends the_row call_row procs lent (with_call procs.now slot)
