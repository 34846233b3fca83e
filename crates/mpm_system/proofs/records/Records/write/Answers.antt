use Rattle.std.proofs.Common.{length, ap, arith}
use Rattle.std.proofs.lemmas.List.{drop_all}
use Rattle.mpm_output.specs.Outside.{TheSink}
use Rattle.mpm_system.proofs.WrittenLaws.{next_call, written_none, written_more, written_fails, written_all}
use Rattle.mpm_system.proofs.records.Records.write.Goals as goal

pub loop-call-init : goal.loop-call-init
loop-call-init g c = record { so = written_none c.args.self.now _ }

pub returns-in-Err : goal.returns-in-Err
returns-in-Err g c = record {
  ok = tt;
  err = written_fails TheSink c.args.self.now _ _ c.call-item.result _ _ _ c.loop-call.invariant.so
      (next_call c.args.self.now _ c.loop-call.call-index c.call-item.result c.as_slice-call-items.ensures (omega (arith, ap length c.as_slice-call-items.ensures)) c.call-item.is) c.in-Err.ensures.err;
}

pub loop-call-preserved : goal.loop-call-preserved
loop-call-preserved g c = record {
  so = written_more c.args.self.now _ _ c.call-item.result _ _ _ c.loop-call.invariant.so
      (next_call c.args.self.now _ c.loop-call.call-index c.call-item.result c.as_slice-call-items.ensures (omega (arith, ap length c.as_slice-call-items.ensures)) c.call-item.is) c.in_default.ensures.ok;
}

pub returns : goal.returns
returns g c = record {
  ok = written_all c.args.self.now _ _ _ c.loop-call.invariant.so (drop_all c.loop-call.call-index c.args.self.now (omega (arith, ap length c.as_slice-call-items.ensures)));
  err = tt;
}
