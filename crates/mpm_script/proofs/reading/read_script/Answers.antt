use Rattle.mpm_script.proofs.OrderLaws.{script_is}
use Rattle.mpm_script.proofs.reading.read_script.Goals as goal

pub of-requires : goal.of-requires
of-requires c = script_is c.args.text.now c.in_ok-events.events.items c.in_ok-events.ensures
