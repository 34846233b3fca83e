use Rattle.mpm_output.specs.Outside.{TheSink, by_sink}
use Rattle.mpm_machine.proofs.MakingLaws.{makes_none}
use Rattle.mpm_machine.proofs.WholeLaws.{whole_written}
use Rattle.mpm_machine.proofs.DueLaws.{records_fail, emits_ends, ends_system, none_written}
use Rattle.mpm_machine.proofs.due.end_all.Goals as goal

pub returns-in_err-write_records : goal.returns-in_err-write_records
returns-in_err-write_records g c =
    makes_none _ _ _ _ _ _ _ _ _ c.from_residual.ensures.0 (records_fail TheSink c.args.system.now _ _ c.in_err-write_records.ensures.wrote.err)

pub end_due-requires : goal.end_due-requires
end_due-requires g c = record {
  whole = whole_written c.args.system.now c.write_records.new.self c.requires.whole c.in_ok-write_records.ensures.system;
  none = none_written c.args.system.now c.write_records.new.self c.in_ok-write_records.ensures.system;
}

pub returns : goal.returns
returns g c = record {
  system = ends_system _ c.args.system.now c.write_records.new.self _ c.in_ok-write_records.ensures.system c.end_due.ensures.system;
  wrote = emits_ends by_sink _ c.args.system.now c.write_records.new.self _ _ _ c.in_ok-write_records.ensures.system
      c.in_ok-write_records.ensures.wrote.ok c.end_due.ensures.wrote;
}
