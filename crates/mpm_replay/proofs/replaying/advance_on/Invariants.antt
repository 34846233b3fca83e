use Rattle.mpm_processor.specs.Moving.{view_of}
use Rattle.mpm_replay.specs.Replays.{portless}
use Rattle.mpm_replay.proofs.ReplayLaws.{Goes}
use Rattle.mpm_replay.proofs.replaying.advance_on.Given as goal

abbrev pub invariant-loop-done : goal.invariant-loop-done
invariant-loop-done l = Goes l.inside l.done (portless l.spec l.initial.regs l.initial.segment l.initial.common) (view_of l.spec l.regs l.segment l.common l.devices)
