use Rattle.std.proofs.Common.{◌≡◌, ◌∙◌, ap, sym, subst, length, arith}
use Rattle.mpm_output.specs.Outside.{DeviceFaults, seen}
use Rattle.mpm_bdos.specs.Serving.{Kept}
use Rattle.mpm_system.specs.Whole.{IsWhole}
use Rattle.mpm_machine.proofs.DiskStepLaws.{whole_all_paid}
use Rattle.mpm_machine.proofs.CarryingLaws.{Pays, carried_stopped_first, carried_stopped_last, carried_all, whole_at_end, keeps_paid, stopped_behind}
use Rattle.mpm_machine.proofs.machine.Machine.end_call.Goals as goal

pub answer_call-requires : goal.answer_call-requires
answer_call-requires g c = record { whole = c.requires.whole; over = c.requires.over; room = omega (arith, ap length c.requires.none); held = c.requires.held }

pub end_all-requires : goal.end_all-requires
end_all-requires g c = record { whole = subst IsWhole (sym c.pay.ensures.system) (whole_all_paid c.answer_call.new.self.system c.in_default.ensures.whole) }

-- the sink failed as the call was answered

pub returns-in-Err : goal.returns-in-Err
returns-in-Err g c = record {
  ok = λ disks s before serves whose is. tt;
  err = λ disks s before serves whose is.
      carried_stopped_first _ _ disks c.args.self.now.bdos c.answer_call.new.self.bdos s c.args.p c.args.self.now.system before whose is serves c.answer_call.ensures.kept
      (c.in-Err.ensures.err disks s serves whose);
  whole = tt;
  ends = c.in-Err.ensures.ends;
  kept = c.answer_call.ensures.kept;
}

-- or as the records came out

pub returns-in-Err-end_all : goal.returns-in-Err-end_all
returns-in-Err-end_all g c = record {
  ok = λ disks s before serves whose is. tt;
  err = λ disks s before serves whose is.
      let over = c.in_default.ensures.ok disks s serves whose in
      let m = seen g.S.Sink.written g.S.Sink.faults c.answer_call.new.render c.answer_call.new.sink in
      carried_stopped_last _ m _ disks c.args.self.now.bdos c.pay.new.self.bdos s c.args.p c.args.self.now.system before c.answer_call.new.self.system c.pay.new.self.system whose is serves
      (ap (λ (k : Kept). k.mounted) c.pay.ensures.rest ∙ ap (λ (k : Kept). k.mounted) c.answer_call.ensures.kept) over.0 c.pay.ensures.system over.1 c.in-Err-end_all.ensures.wrote.err;
  whole = tt;
  ends =
      record {
        trace = c.in-Err-end_all.ensures.wrote.err.trace ∙ c.answer_call.ensures.ends.trace;
        cause = stopped_behind _ _ _ _ (seen g.S.Sink.written g.S.Sink.faults c.answer_call.new.render c.answer_call.new.sink)
            (seen g.S.Sink.written g.S.Sink.faults c.end_all.new.render c.end_all.new.sink) _ c.in_default.ensures.ends.cause.stays c.in-Err-end_all.ensures.wrote.err;
      };
  kept = keeps_paid c.args.self.now.bdos c.answer_call.new.self.bdos c.pay.new.self.bdos c.answer_call.ensures.kept c.pay.ensures.rest;
}

-- or all was written

pub returns : goal.returns
returns g c = record {
  ok = λ disks s before serves whose is.
      let over = c.in_default.ensures.ok disks s serves whose in
      let m = seen g.S.Sink.written g.S.Sink.faults c.answer_call.new.render c.answer_call.new.sink in
      let first : Pays c.answer_call.new.self.system c.answer_call.new.self.bdos c.pay.new.self.bdos = record { rest = c.pay.ensures.rest; filing = c.pay.ensures.filing } in
      let last : Pays c.end_all.new.system c.pay.new.self.bdos c.pay-2.new.self.bdos = record { rest = c.pay-2.ensures.rest; filing = c.pay-2.ensures.filing } in
      carried_all _ m _ disks c.answer_call.new.self.bdos c.pay.new.self.bdos c.pay-2.new.self.bdos s c.args.p c.args.self.now.system before c.answer_call.new.self.system c.pay.new.self.system
      c.end_all.new.system c.pay-2.new.self.system whose is over.0 c.pay.ensures.system c.in_default-end_all.ensures.system c.pay-2.ensures.system over.1 c.in_default-end_all.ensures.wrote.ok over.2
      first last;
  err = λ disks s before serves whose is. tt;
  whole =
      whole_at_end c.answer_call.new.self.system c.pay.new.self.system c.end_all.new.system c.pay-2.new.self.system c.in_default.ensures.whole c.pay.ensures.system
      c.in_default-end_all.ensures.system c.pay-2.ensures.system;
  ends =
      let wrote = c.in_default-end_all.ensures.wrote.ok in
      let faults : g.S.Sink.faults c.end_all.new.sink ≡ g.S.Sink.faults c.args.sink.now = ap (λ (f : DeviceFaults). f.sink) wrote.faults ∙ c.in_default.ensures.ends.cause.stays in
      record { trace = wrote.trace ∙ c.answer_call.ensures.ends.trace; cause = record { later = omega (arith, faults); stays = faults; failed = tt } };
  kept =
      let first = keeps_paid c.args.self.now.bdos c.answer_call.new.self.bdos c.pay.new.self.bdos c.answer_call.ensures.kept c.pay.ensures.rest in
      keeps_paid c.args.self.now.bdos c.pay.new.self.bdos c.pay-2.new.self.bdos first c.pay-2.ensures.rest;
}
