use Rattle.std.proofs.Common.{rules, arith}
use Rattle.std.proofs.lemmas.Grind.{common_steps}
use Rattle.mpm_top.specs.Runs.{printed}
use Rattle.mpm_top.proofs.RunLaws.{closes_after}
use Rattle.mpm_top.proofs.run.close.Goals as goal

pub returns-in-DiskFault : goal.returns-in-DiskFault
returns-in-DiskFault g c = record {
  left = first_of (search rules, grind (arith, common_steps));
  closes = λ s first shows. closes_after c.finish.result c.args.fault c.args.render.now s first (g.S.Sink.written c.args.sink.now) (g.S.Sink.faults c.args.sink.now)
      (printed g.S.Sink.written g.S.Sink.faults c.finish.new.sink) shows c.finish.ensures.cause c.finish.ensures.ok c.finish.ensures.err;
}
