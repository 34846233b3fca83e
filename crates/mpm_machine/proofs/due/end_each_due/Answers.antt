use Rattle.std.proofs.Common.{[], sym, subst, arith}
use Rattle.mpm_output.specs.Outside.{TheSink}
use Rattle.mpm_system.specs.Whole.{IsWhole}
use Rattle.mpm_machine.proofs.WholeStepLaws.{whole_if_due}
use Rattle.mpm_machine.proofs.WholeLaws.{whole_records}
use Rattle.mpm_machine.proofs.DueLaws.{due_nothing, due_more, due_fails, due_system, due_wrote}
use Rattle.mpm_machine.proofs.due.end_each_due.Goals as goal

pub loop-number-init : goal.loop-number-init
loop-number-init g c = record { so = due_nothing c.args.system.now _ c.requires.none; whole = c.requires.whole }

pub end_if_due-requires : goal.end_if_due-requires
end_if_due-requires g c = record { whole = c.loop-number.invariant.whole; none = c.loop-number.invariant.so.none }

pub returns-in-Err : goal.returns-in-Err
returns-in-Err g c = record {
  system = tt;
  wrote = record {
    ok = tt;
    err = due_fails TheSink c.args.system.now c.loop-number.system c.loop-number.number _ _ _ (omega arith) c.loop-number.invariant.so c.in-Err.ensures.wrote.err;
  };
}

pub loop-number-preserved : goal.loop-number-preserved
loop-number-preserved g c = record {
  so = due_more c.args.system.now c.loop-number.system c.end_if_due.new.system c.loop-number.number _ _ _ c.loop-number.invariant.so
      c.in_default.ensures.system c.in_default.ensures.wrote.ok;
  whole = subst IsWhole (sym c.in_default.ensures.system)
      (whole_records _ [] (whole_if_due c.loop-number.number c.loop-number.system c.loop-number.invariant.whole));
}

pub returns : goal.returns
returns g c = record {
  system = due_system c.args.system.now c.loop-number.system c.loop-number.number _ _ (omega arith) c.loop-number.invariant.so;
  wrote = record { ok = due_wrote c.args.system.now c.loop-number.system c.loop-number.number _ _ (omega arith) c.loop-number.invariant.so; err = tt };
}
