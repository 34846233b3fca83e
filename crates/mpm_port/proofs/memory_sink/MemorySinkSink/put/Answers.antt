-- A put that fails drops all of its bytes.
use Rattle.std.proofs.Common.{rules, arith}
use Rattle.std.proofs.lemmas.Grind.{common_steps}
use Rattle.mpm_port.specs.MemoryText.{put_fails, after_put}
use Rattle.mpm_port.proofs.Faults.{rose}
use Rattle.mpm_port.proofs.memory_sink.MemorySinkSink.put.Goals as goal

pub returns-then-listed-clause-answers : goal.returns-then-listed-clause-answers
unfolding put_fails after_put
returns-then-listed-clause-answers c = record {
  took = tt;
  dropped = (first_of (search rules, grind (arith, common_steps)), first_of (search rules, grind (arith, common_steps)));
  cause = record {
    later = first_of (search rules, grind (arith, common_steps));
    stays = tt;
    failed = first_of (search (rules, rose), grind (arith, common_steps));
  };
  ok = tt;
  err = first_of (search rules, grind (arith, common_steps));
}
