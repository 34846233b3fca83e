use Rattle.mpm_host.proofs.Known.{Put}
use Rattle.mpm_host.proofs.sink.RealSink.write_whole.Given as goal

abbrev pub invariant-loop : goal.invariant-loop
invariant-loop g l = Put g.W.Write.contents l.initial.self l.bytes l.rest l.self
