use Rattle.std.proofs.Common.{rules}
use Rattle.mpm_machine.proofs.WholeStepLaws.{whole_taken}
use Rattle.mpm_machine.proofs.interrupts.abort_by_key.Goals as goal

pub abort_process-requires : goal.abort_process-requires
abort_process-requires c = record {
  whole = whole_taken c.args.system.now c.take_abort.new.self c.requires.whole c.take_abort.ensures.kernel;
  lives = search rules;
}
