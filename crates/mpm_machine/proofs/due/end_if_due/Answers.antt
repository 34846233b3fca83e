use Rattle.std.proofs.Common.{◌∙◌, sym, ap}
use Rattle.mpm_machine.specs.Finishing.{all_finished}
use Rattle.mpm_machine.proofs.MakingLaws.{makes_silent, makes_as}
use Rattle.mpm_machine.proofs.DueLaws.{room_at_end, no_end_out, end_out}
use Rattle.mpm_machine.proofs.WholeStepLaws.{whole_due_end}
use Rattle.mpm_machine.proofs.due.end_if_due.Goals as goal

pub finish_all-requires : goal.finish_all-requires
finish_all-requires g c = record {
  whole = whole_due_end c.args.system.now c.end.new.system c.args.p c.requires.whole (sym c.is_due.ensures ∙ c.if-is_due.true) c.end.ensures;
  room = room_at_end c.args.p c.args.system.now c.end.new.system c.requires.none c.end.ensures;
}

pub returns-then-is_due : goal.returns-then-is_due
returns-then-is_due g c =
    makes_as _ _ (end_out c.args.p c.args.system.now c.finish_all.new.system (sym c.is_due.ensures ∙ c.if-is_due.true) (c.finish_all.ensures.system ∙ ap all_finished c.end.ensures))
    (record { system = c.write_records.ensures.system; wrote = c.write_records.ensures.wrote })

pub returns : goal.returns
returns g c = makes_silent _ _ _ _ _ _ _ (no_end_out c.args.p c.args.system.now (sym c.is_due.ensures ∙ c.if-is_due.false) c.requires.none)
